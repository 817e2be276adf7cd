-- The entry of a function: each local is allocated, however many there are, and the arguments are stored in those after the result. A walk's first lines at
-- declared types take more steps than the kernel has; over types that are variables there is nothing to compute.
-- Assumes nothing.
use Prim.Native.Nat.{ℕ}
use mathlib.Core.List.{List, [], ◌∷◌}
use seplogic.Ra.Ura.{Ura}
use base.Fraction.{full_share}
use lib.Dec.{T}
use lib.ListN.{length}
use mir.Syntax.{Ty, Kind, Body, Home, Local, local}
use mir.Val.{Val, has_ty, WT}
use base.Logic.{SProp, ent, sep, emp, wand, via, comm∗, assoc∗, assoc', mono_r, emp∗, wand_i, all_i, guard_i, snd∗}
use base.Fml.{fat, froom, fdies}
use prog.Wp.{Env, Calls, Loops, Wp, at_return, WpFn, alloc, pass, params}
use types.Logic.{Logic}
use types.Kit.{Item, ‵, raw, ⋆, mean, push}

-- an address for each local
abbrev pub Addresses : List Local → Type 0
Addresses [] = Unit {0}
Addresses (l ∷ ls) = ℕ × Addresses ls

-- the arguments are values of their locals' types
abbrev pub Typed : List Local → List Val → Type 0
Typed ls [] = Unit {0}
Typed [] (v ∷ vs) = ⊥
Typed (local τ h ∷ ls) (v ∷ vs) = (T (has_ty τ v) × WT v) × Typed ls vs

module _ {M : Type 1} {𝓤 : Ura M} (𝓛 : Logic 𝓤) where
  open 𝓛 use {H}

  abbrev Pr : Type 2
  Pr = SProp 𝓤

  abbrev ◌∗◌ : Pr → Pr → Pr
  P ∗ Q = sep 𝓤 P Q

  infixr 35 ◌∗◌
  abbrev pub locals : (ls : List Local) → Addresses ls → Env 𝓤 H
  locals [] bs = []
  locals (local τ h ∷ ls) bs = (τ, bs.0) ∷ locals ls bs.1

  -- what there is at the start: the locals, the first of them with the arguments in, and what the caller gives
  abbrev pub at_start : (ls : List Local) → Addresses ls → List Val → Pr → List (Item 𝓤)
  at_start [] bs vs P = raw P ∷ []
  at_start (local τ h ∷ ls) bs [] P = ‵ (froom τ bs.0 0) ∷ ‵ (fdies τ bs.0) ∷ at_start ls bs.1 [] P
  at_start (local τ h ∷ ls) bs (v ∷ vs) P = ‵ (fat full_share τ bs.0 0 v) ∷ ‵ (fdies τ bs.0) ∷ at_start ls bs.1 vs P

  -- the locals alone; with no arguments, room for each
  abbrev Stored : (ls : List Local) → Addresses ls → List Val → Pr
  Stored [] bs vs = emp 𝓤
  Stored (local τ h ∷ ls) bs [] = (H.room τ bs.0 0 ∗ H.dies τ bs.0) ∗ Stored ls bs.1 []
  Stored (local τ h ∷ ls) bs (v ∷ vs) = (H.at full_share τ bs.0 0 v ∗ H.dies τ bs.0) ∗ Stored ls bs.1 vs

  -- X goes from the end to the beginning, and back
  first : (X S P : Pr) → ent 𝓤 (S ∗ (P ∗ X)) ((X ∗ S) ∗ P)
  first X S P = via 𝓤 ((S ∗ P) ∗ X) (assoc' 𝓤 S P X) (via 𝓤 (X ∗ (S ∗ P)) (comm∗ 𝓤 (S ∗ P) X) (assoc' 𝓤 X S P))

  last : (X S P : Pr) → ent 𝓤 ((X ∗ S) ∗ P) (S ∗ (P ∗ X))
  last X S P = via 𝓤 (X ∗ (S ∗ P)) (assoc∗ 𝓤 X S P) (via 𝓤 ((S ∗ P) ∗ X) (comm∗ 𝓤 X (S ∗ P)) (assoc∗ 𝓤 S P X))

  allocates : (ls : List Local) (P : Pr) (K : Env 𝓤 H → Pr) → ((bs : Addresses ls) → ent 𝓤 (Stored ls bs [] ∗ P) (K (locals ls bs))) → ent 𝓤 P (alloc 𝓤 H ls K)
  allocates [] P K then = via 𝓤 (emp 𝓤 ∗ P) (emp∗ 𝓤 P) (then tt)
  allocates (local τ h ∷ ls) P K then =
      all_i 𝓤 _ (λ b.
      wand_i 𝓤 P (RD b) _ (allocates ls (P ∗ RD b) (λ E. K ((τ, b) ∷ E)) (λ bs. via 𝓤 _ (first (RD b) (Stored ls bs []) P) (then (b, bs)))))
    where
      RD : ℕ → Pr
      RD b = H.room τ b 0 ∗ H.dies τ b

  -- an argument X goes into the room R of its local
  goes_in : (R D Q P X G : Pr) → ent 𝓤 (Q ∗ (P ∗ (X ∗ D))) G → ent 𝓤 (((R ∗ D) ∗ Q) ∗ P) (R ∗ wand 𝓤 X G)
  goes_in R D Q P X G then =
      via 𝓤 ((R ∗ D) ∗ (Q ∗ P)) (assoc∗ 𝓤 (R ∗ D) Q P)
      (via 𝓤 (R ∗ (D ∗ (Q ∗ P))) (assoc∗ 𝓤 R D (Q ∗ P))
      (mono_r 𝓤 R (wand_i 𝓤 (D ∗ (Q ∗ P)) X G
      (via 𝓤 (X ∗ (D ∗ (Q ∗ P))) (comm∗ 𝓤 (D ∗ (Q ∗ P)) X)
      (via 𝓤 ((X ∗ D) ∗ (Q ∗ P)) (assoc' 𝓤 X D (Q ∗ P)) (via 𝓤 (((X ∗ D) ∗ Q) ∗ P) (assoc' 𝓤 (X ∗ D) Q P) (via 𝓤 (Q ∗ (P ∗ (X ∗ D))) (last (X ∗ D) Q P) then)))))))

  stores : (ls : List Local) (bs : Addresses ls) (vs : List Val) (P G : Pr) → Typed ls vs → ent 𝓤 (Stored ls bs vs ∗ P) G → ent 𝓤 (Stored ls bs [] ∗ P) (pass 𝓤 H (locals ls bs) vs G)
  stores ls bs [] P G t then = then
  stores [] bs (v ∷ vs) P G t then = absurd t
  stores (local τ h ∷ ls) bs (v ∷ vs) P G t then =
      let X : Pr = H.at full_share τ bs.0 0 v in
      let D : Pr = H.dies τ bs.0 in
      via 𝓤 (H.room τ bs.0 0 ∗ wand 𝓤 X (pass 𝓤 H (locals ls bs.1) vs G))
      (goes_in (H.room τ bs.0 0) D (Stored ls bs.1 []) P X _ (stores ls bs.1 vs (P ∗ (X ∗ D)) G t.1 (via 𝓤 _ (first (X ∗ D) (Stored ls bs.1 vs) P) then)))
      (guard_i 𝓤 (T (has_ty τ v) × WT v) _ t.0)

  one : (X : Pr) (D : Item 𝓤) (S : Pr) (Γ : List (Item 𝓤)) (P : Pr) → ent 𝓤 (S ∗ P) (⋆ 𝓛 Γ) → ent 𝓤 (((X ∗ mean 𝓛 D) ∗ S) ∗ P) (X ∗ ⋆ 𝓛 (D ∷ Γ))
  one X D S Γ P then =
      via 𝓤 ((X ∗ mean 𝓛 D) ∗ (S ∗ P)) (assoc∗ 𝓤 (X ∗ mean 𝓛 D) S P)
      (via 𝓤 (X ∗ (mean 𝓛 D ∗ (S ∗ P))) (assoc∗ 𝓤 X (mean 𝓛 D) (S ∗ P))
      (mono_r 𝓤 X (via 𝓤 (mean 𝓛 D ∗ ⋆ 𝓛 Γ) (mono_r 𝓤 (mean 𝓛 D) then) (push 𝓛 D Γ))))

  -- the locals as a list of items
  listed : (ls : List Local) (bs : Addresses ls) (vs : List Val) (P : Pr) → ent 𝓤 (Stored ls bs vs ∗ P) (⋆ 𝓛 (at_start ls bs vs P))
  listed [] bs vs P = snd∗ 𝓤 (emp 𝓤) P
  listed (local τ h ∷ ls) bs [] P = one (H.room τ bs.0 0) (‵ (fdies τ bs.0)) (Stored ls bs.1 []) (at_start ls bs.1 [] P) P (listed ls bs.1 [] P)
  listed (local τ h ∷ ls) bs (v ∷ vs) P = one (H.at full_share τ bs.0 0 v) (‵ (fdies τ bs.0)) (Stored ls bs.1 vs) (at_start ls bs.1 vs P) P (listed ls bs.1 vs P)

  pub starts : (τ : Ty) (h : Home) (ls : List Local) (vs : List Val) (lives : ℕ) (kinds : List Kind) (givens : ℕ) (b : Body) (C : Calls 𝓤 H) (Λ : Loops 𝓤 H) (P : Pr) (Post : Val → Pr) → Typed ls vs
      → ((bs : Addresses (local τ h ∷ ls)) → ent 𝓤 (⋆ 𝓛 (‵ (froom τ bs.0 0) ∷ ‵ (fdies τ bs.0) ∷ at_start ls bs.1 vs P)) (Wp 𝓤 H C Λ (locals (local τ h ∷ ls) bs) b (at_return 𝓤 H (locals (local τ h ∷ ls) bs) Post)))
      → ent 𝓤 P (WpFn 𝓤 H C Λ (record { lifetimes = lives; outlives = []; ty_params = kinds; givens = givens; params = length vs; locals = local τ h ∷ ls; body = b }) vs Post)
  unfolding WpFn
  starts τ h ls vs lives kinds givens b C Λ P Post t then =
      allocates (local τ h ∷ ls) P (λ E. params 𝓤 H E vs (Wp 𝓤 H C Λ E b (at_return 𝓤 H E Post))) (λ bs.
      let RD : Pr = H.room τ bs.0 0 ∗ H.dies τ bs.0 in
      let S : Pr = Stored ls bs.1 vs in
      via 𝓤 (Stored ls bs.1 [] ∗ (P ∗ RD)) (last RD (Stored ls bs.1 []) P)
      (stores ls bs.1 vs (P ∗ RD) _ t
      (via 𝓤 ((RD ∗ S) ∗ P) (first RD S P)
      (via 𝓤 _ (one (H.room τ bs.0 0) (‵ (fdies τ bs.0)) S (at_start ls bs.1 vs P) P (listed ls bs.1 vs P)) (then bs)))))

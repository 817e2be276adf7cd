-- Lists in rising order, and laws of positions in lists put together.
use Prim.Native.Nat.{ℕ, zero, suc, ◌<◌, ◌≤◌}
use native.Mathlib.Omega.{arith}
use mathlib.Core.Path.{sym, subst}
use mathlib.Core.Logic.{◌⊎◌, inl, inr}
use mathlib.Core.Bool.{Bool, not, cond}
use mathlib.Core.List.{List, [], ◌∷◌, ◌++◌, flatten, Memᴰ}
use lib.Dec.{T}
use lib.ListN.{length}
use Rattle.model.specs.Lists.{At, index, elem, numbers}
use Rattle.model.specs.Machine.{place_in}
use Rattle.model.proofs.Laws.{dec, not_T, T_true, T_false}
use Rattle.model.proofs.Positions.{numbers_below, at_mem, mem_at, at_below, index_first}
use Rattle.model.proofs.Places.{home}
use Rattle.model.proofs.Rising.{Rising, rising_append}
use Rattle.merging.specs.Groups.{ungrouped}
use Rattle.merging.proofs.Middle.{mid_here, mid_other}

pub rising_numbers : (n : ℕ) → Rising ◌<◌ (numbers n)
unfolding numbers
rising_numbers zero = tt
rising_numbers (suc n) = rising_append ◌<◌ (numbers n) (n ∷ []) (rising_numbers n) (λ y j. elim j [ ], tt) last
  where
    last : (x y : ℕ) → Memᴰ x (numbers n) → Memᴰ y (n ∷ []) → x < y
    last x y k (Memᴰ.head e) = subst (λ (v : ℕ). x < v) (sym e) (numbers_below n x k)
    last x y k (Memᴰ.tail j) = elim j [ ]

pub rising_before : (l : List ℕ) (q : ℕ) (k : List ℕ) → Rising ◌<◌ (l ++ (q ∷ k)) → (y : ℕ) → Memᴰ y l → y < q
rising_before [] q k r y x'' = elim x'' [ ]
rising_before (x ∷ l) q k r y (Memᴰ.head e) = subst (λ (v : ℕ). v < q) (sym e) (r.0 q (mid_here q l k))
rising_before (x ∷ l) q k r y (Memᴰ.tail m) = rising_before l q k r.1 y m

pub rising_without : (l : List ℕ) (q : ℕ) (k : List ℕ) → Rising ◌<◌ (l ++ (q ∷ k)) → Rising ◌<◌ (l ++ k)
rising_without [] q k r = r.1
rising_without (x ∷ l) q k r = (λ y m. r.0 y (mid_other y q l k m), rising_without l q k r.1)

-- ---- positions
pub at_beyond : {A : Type 0} (l k : List A) (d : ℕ) (x : A) → length l ≤ d → At (l ++ k) d x → Memᴰ x k
at_beyond [] k d x h a = at_mem k d x a
at_beyond (y ∷ l) k zero x h a = absurd (omega arith)
at_beyond (y ∷ l) k (suc d) x h a = at_beyond l k d x (omega arith) a

pub mem_length : {A : Type 0} (l : List A) (x : A) → Memᴰ x l → 0 < length l
mem_length {A = A} [] x k = elim k [ ]
mem_length (y ∷ l) x k = omega arith

index_left : {A : Type 0} (f : A → Bool) (l k : List A) (c : ℕ) → c < length l → c < index f (l ++ k) → c < index f l
unfolding index
index_left f [] k c h b = absurd (omega arith)
index_left f (x ∷ l) k c h b = go (dec (f x)) c h b (index_left f l k)
  where
    go : T (f x) ⊎ T (not (f x)) → (c : ℕ) → c < suc (length l) → c < cond (f x) 0 (suc (index f (l ++ k))) → ((c : ℕ) → c < length l → c < index f (l ++ k) → c < index f l)
        → c < cond (f x) 0 (suc (index f l))
    go (inl t) c h b ih = absurd (omega (arith, rw (T_true (f x) t) at b))
    go (inr t) zero h b ih = rw (T_false (f x) t) (omega arith)
    go (inr t) (suc c) h b ih = rw (T_false (f x) t) (omega (arith, ih c (omega arith) (omega (arith, rw (T_false (f x) t) at b))))

-- a place that is not in the groups as far as c
pub past_left : (gs hs : List (List ℕ)) (x c : ℕ) → c < length gs → c < place_in (gs ++ hs) x → c < place_in gs x
unfolding place_in
past_left gs hs x c = index_left (elem x) gs hs c

-- a place that is in none of the groups
pub past_all : (gs : List (List ℕ)) (x : ℕ) → length gs ≤ place_in gs x → T (ungrouped gs x)
unfolding place_in ungrouped
past_all gs x h =
    not_T (elem x (flatten gs)) (λ t.
    let w = home gs x t in
    let v = mem_at gs w.place w.listed in
    omega (arith, h, at_below gs v.0 w.place v.1, index_first (elem x) gs v.0 w.place v.1 w.holds))

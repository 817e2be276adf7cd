-- Places that bar each other, in a row of sets: those with one of some states, one event, event by event.
use Prim.Native.Nat.{ℕ, ◌+◌, ◌*◌, ◌<◌, ◌≤◌}
use native.Mathlib.Omega.{arith}
use mathlib.Core.Path.{◌≡◌, refl, ap, sym, ◌∙◌, subst}
use mathlib.Core.Logic.{◌⊎◌, inl, inr}
use mathlib.Core.Bool.{Bool, true, false, not, ◌&&◌}
use mathlib.Core.List.{List}
use lib.Dec.{T, ltb→lt, lt→ltb}
use lib.ListN.{length, replicate, length-replicate}
use Rattle.model.specs.Lists.{is_some, lowest}
use Rattle.model.proofs.Laws.{below_suc}
use Rattle.state_set.specs.declared.StateSet.{StateSet}
use Rattle.std.specs.Prelude.{Option, Some, None}
use Rattle.std.specs.Option as S
use Rattle.state_set.specs.Member.{member, state_found}
use Rattle.state_set.specs.Rows.{set_at, member_at}
use Rattle.state_set.proofs.Rows.{empty_row}
use Rattle.rows.specs.Told.{entry}
use Rattle.rows.proofs.Searches.{lowest_same}
use Rattle.closure.specs.Covers.{on_machine}
use Rattle.merging.specs.Bars.{have_in_common, Pair, Paired, HasOne, MetPaired, open_in, Seen, open_for, EventBars, EventPaired, Barring}

-- ---- two sets

found_some : (o : Option ℕ) → is_some (state_found o) ≡ S.is_some o
unfolding is_some state_found
found_some None = refl
found_some (Some s) = refl

module _ (a b c : StateSet) (o : Option ℕ) (v : (i : ℕ) → member c i ≡ (member a i && member b i)) (w : state_found o ≡ lowest (member c) 256) where
  both : state_found o ≡ lowest (λ i. member a i && member b i) 256
  both = w ∙ lowest_same _ _ 256 (λ i _. v i)

  pub in_common : {r : Bool} → r ≡ S.is_some o → r ≡ have_in_common (member a) (member b)
  unfolding have_in_common
  in_common q = q ∙ sym (found_some o) ∙ ap is_some both

  pub none_common : o ≡ None → false ≡ have_in_common (member a) (member b)
  none_common q = in_common (rw q refl)

  pub some_common : {s : ℕ} → o ≡ Some s → true ≡ have_in_common (member a) (member b)
  some_common q = in_common (rw q refl)

pub same_common : (f g h : ℕ → Bool) → ((i : ℕ) → f i ≡ g i) → have_in_common f h ≡ have_in_common g h
unfolding have_in_common
same_common f g h v = ap is_some (lowest_same _ _ 256 (λ i _. ap (λ (b : Bool). b && h i) (v i)))

-- ---- the places that have one of some states

-- the places below q are done
pub record Meeting (sets : List ℕ) (m size : ℕ) (states : ℕ → Bool) (p : ℕ) (old new : List ℕ) (q : ℕ) : Type 0 where
  pub most : q ≤ size
  pub met : MetPaired sets m q states p old new

module _ {sets : List ℕ} {m size : ℕ} {states : ℕ → Bool} {p : ℕ} {old : List ℕ} where
  -- b is the set of place q
  pub meet_more : {row row2 row3 : List ℕ} {q n : ℕ} {t : Bool} (b : StateSet) → Meeting sets m size states p old row q → q < size → b ≡ set_at sets (m * 64 + q) → n ≡ q
      → t ≡ have_in_common states (member b) → t ≡ true → Paired p n row row2 → row3 ≡ row2 → Meeting sets m size states p old row3 (q + 1)
  unfolding member_at
  meet_more {row} {row2} {row3} {q} {n} {t} b x l v e w u y k =
      rw k (record { most = omega arith; met = record { words = y.words ∙ x.met.words; members = λ a c. (λ z. to a c ((y.members a c).0 z), λ z. from a c z) } })
    where
      here : T (have_in_common states (member (set_at sets (m * 64 + q))))
      here = subst T (sym u ∙ w ∙ ap (λ (z : StateSet). have_in_common states (member z)) v) tt

      to : (a c : ℕ) → T (member_at row a c) ⊎ Pair p n a c → T (member_at old a c) ⊎ ((d : ℕ) × HasOne sets m (q + 1) states d × Pair p d a c)
      to a c (inr z) = inr (q, (omega arith, here), subst (λ (d : ℕ). Pair p d a c) e z)
      to a c (inl z) = go ((x.met.members a c).0 z)
        where
          go : T (member_at old a c) ⊎ ((d : ℕ) × HasOne sets m q states d × Pair p d a c) → T (member_at old a c) ⊎ ((d : ℕ) × HasOne sets m (q + 1) states d × Pair p d a c)
          go (inl h) = inl h
          go (inr h) = inr (h.0, (omega (arith, h.1.0), h.1.1), h.2)

      from : (a c : ℕ) → T (member_at old a c) ⊎ ((d : ℕ) × HasOne sets m (q + 1) states d × Pair p d a c) → T (member_at row2 a c)
      from a c (inl z) = (y.members a c).1 (inl ((x.met.members a c).1 (inl z)))
      from a c (inr z) = go (below_suc z.0 q (omega (arith, z.1.0)))
        where
          go : (z.0 < q) ⊎ (z.0 ≡ q) → T (member_at row2 a c)
          go (inl h) = (y.members a c).1 (inl ((x.met.members a c).1 (inr (z.0, (h, z.1.1), z.2))))
          go (inr h) = (y.members a c).1 (inr (subst (λ (d : ℕ). Pair p d a c) (h ∙ sym e) z.2))

  pub meet_skip : {row row2 : List ℕ} {q : ℕ} {t : Bool} (b : StateSet) → Meeting sets m size states p old row q → q < size → b ≡ set_at sets (m * 64 + q)
      → t ≡ have_in_common states (member b) → t ≡ false → row2 ≡ row → Meeting sets m size states p old row2 (q + 1)
  unfolding member_at
  meet_skip {row} {row2} {q} {t} b x l v w u y =
      record { most = omega arith; met = record { words = ap length y ∙ x.met.words; members = λ a c. rw y (λ z. to a c ((x.met.members a c).0 z), λ z. from a c z) } }
    where
      not_here : have_in_common states (member (set_at sets (m * 64 + q))) ≡ false
      not_here = ap (λ (z : StateSet). have_in_common states (member z)) (sym v) ∙ sym w ∙ u

      to : (a c : ℕ) → T (member_at old a c) ⊎ ((d : ℕ) × HasOne sets m q states d × Pair p d a c) → T (member_at old a c) ⊎ ((d : ℕ) × HasOne sets m (q + 1) states d × Pair p d a c)
      to a c (inl h) = inl h
      to a c (inr h) = inr (h.0, (omega (arith, h.1.0), h.1.1), h.2)

      from : (a c : ℕ) → T (member_at old a c) ⊎ ((d : ℕ) × HasOne sets m (q + 1) states d × Pair p d a c) → T (member_at row a c)
      from a c (inl z) = (x.met.members a c).1 (inl z)
      from a c (inr z) = go (below_suc z.0 q (omega (arith, z.1.0)))
        where
          go : (z.0 < q) ⊎ (z.0 ≡ q) → T (member_at row a c)
          go (inl h) = (x.met.members a c).1 (inr (z.0, (h, z.1.1), z.2))
          go (inr h) = absurd (subst T (ap (λ (d : ℕ). have_in_common states (member (set_at sets (m * 64 + d)))) h ∙ not_here) z.1.1)

-- ---- one event

pub open_is : (earlier later excited : List ℕ) (m e : ℕ) (a b c x y : StateSet) → a ≡ set_at earlier e → b ≡ set_at later (e * 16 + m) → ((i : ℕ) → member c i ≡ (member a i && member b i))
    → x ≡ set_at excited e → ((i : ℕ) → member y i ≡ (member c i && not (member x i))) → (i : ℕ) → member y i ≡ open_in earlier later excited m e i
unfolding open_in member_at
open_is earlier later excited m e a b c x y va vb vc vx vy i = vy i ∙ rw (vc i, va, vb, vx)

module _ (x : Seen) (m size e : ℕ) (old : List ℕ) where
  -- it is not on the machine
  pub event_off : ¬ (entry x.pre (e * 16 + m) < 64) → EventPaired x m size e old old
  unfolding on_machine
  event_off n = record { words = refl; members = λ a c. (λ t. inl t, λ t. back a c t) }
    where
      back : (a c : ℕ) → T (member_at old a c) ⊎ EventBars x m size e a c → T (member_at old a c)
      back a c (inl t) = t
      back a c (inr t) = absurd (n (ltb→lt (entry x.pre (e * 16 + m)) 64 t.on))

  -- s is the set of its open states
  module _ (s : StateSet) (o : Option ℕ) (v : (i : ℕ) → member s i ≡ open_for x m e i) (w : state_found o ≡ lowest (member s) 256) where
    open_found : state_found o ≡ lowest (open_for x m e) 256
    open_found = w ∙ lowest_same _ _ 256 (λ i _. v i)

    -- it has none
    pub event_closed : S.is_some o ≡ false → EventPaired x m size e old old
    event_closed q = record { words = refl; members = λ a c. (λ t. inl t, λ t. back a c t) }
      where
        shut : is_some (lowest (open_for x m e) 256) ≡ false
        shut = ap is_some (sym open_found) ∙ found_some o ∙ q

        back : (a c : ℕ) → T (member_at old a c) ⊎ EventBars x m size e a c → T (member_at old a c)
        back a c (inl t) = t
        back a c (inr t) = absurd (subst T shut t.opens)

    -- it bars its pre-place from its post-place, and from each place with an open state
    pub event_bars : {mid new : List ℕ} {p q : ℕ} → entry x.pre (e * 16 + m) < 64 → p ≡ entry x.pre (e * 16 + m) → q ≡ entry x.post (e * 16 + m) → S.is_some o ≡ true
        → Paired p q old mid → MetPaired x.sets m size (member s) p mid new → EventPaired x m size e old new
    unfolding on_machine
    event_bars {mid} {new} {p} {q} l ep eq f y z =
        record { words = z.words ∙ y.words; members = λ a c. (λ t. to a c ((z.members a c).0 t), λ t. from a c t) }
      where
        opened : T (is_some (lowest (open_for x m e) 256))
        opened = rw (sym open_found, found_some o, f) tt

        alike : (d : ℕ) → have_in_common (member s) (member_at x.sets (m * 64 + d)) ≡ have_in_common (open_for x m e) (member_at x.sets (m * 64 + d))
        alike d = same_common (member s) (open_for x m e) (member_at x.sets (m * 64 + d)) v

        to : (a c : ℕ) → T (member_at mid a c) ⊎ ((d : ℕ) × HasOne x.sets m size (member s) d × Pair p d a c) → T (member_at old a c) ⊎ EventBars x m size e a c
        to a c (inr t) =
            inr (record {
              on = lt→ltb (entry x.pre (e * 16 + m)) 64 l;
              opens = opened;
              place = t.0;
              barred = inr (t.1.0, subst T (alike t.0) t.1.1);
              pair = subst (λ (y : ℕ). Pair y t.0 a c) ep t.2;
            })
        to a c (inl t) = go ((y.members a c).0 t)
          where
            go : T (member_at old a c) ⊎ Pair p q a c → T (member_at old a c) ⊎ EventBars x m size e a c
            go (inl h) = inl h
            go (inr h) = inr (record { on = lt→ltb (entry x.pre (e * 16 + m)) 64 l; opens = opened; place = q; barred = inl eq; pair = subst (λ (y : ℕ). Pair y q a c) ep h })

        from : (a c : ℕ) → T (member_at old a c) ⊎ EventBars x m size e a c → T (member_at new a c)
        from a c (inl t) = (z.members a c).1 (inl ((y.members a c).1 (inl t)))
        from a c (inr t) = go t.barred
          where
            again : Pair p t.place a c
            again = subst (λ (y : ℕ). Pair y t.place a c) (sym ep) t.pair

            go : (t.place ≡ entry x.post (e * 16 + m)) ⊎ HasOne x.sets m size (open_for x m e) t.place → T (member_at new a c)
            go (inl h) = (z.members a c).1 (inl ((y.members a c).1 (inr (subst (λ (d : ℕ). Pair p d a c) (h ∙ sym eq) again))))
            go (inr h) = (z.members a c).1 (inr (t.place, (h.0, subst T (sym (alike t.place)) h.1), again))

-- ---- event by event

module _ {x : Seen} {m size : ℕ} where
  pub bars_start : Barring x m size 0 (replicate 256 0)
  bars_start = record { words = length-replicate {A = ℕ} 256 0; members = λ a c. (λ t. absurd (subst T (empty_row 256 a c) t), λ t. absurd (omega (arith, t.1))) }

-- the events below e are done
pub record Passed (x : Seen) (m size events : ℕ) (row : List ℕ) (e : ℕ) : Type 0 where
  pub most : e ≤ events
  pub barring : Barring x m size e row

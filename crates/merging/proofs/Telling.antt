-- What the rows say of the places of one machine that bar each other is what the model says.
use Prim.Native.Nat.{ℕ, ◌+◌, ◌*◌, ◌<◌, ◌≤◌}
use native.Mathlib.Omega.{arith}
use mathlib.Core.Path.{◌≡◌, refl, ap, sym, ◌∙◌, subst}
use mathlib.Core.Logic.{◌⊎◌, inl, inr, ◌↔◌}
use mathlib.Core.Bool.{Bool, not, ◌&&◌}
use mathlib.Core.List.{List, ◌++◌}
use mathlib.Core.Option.{Option, none, some, none-ne-some, some-injective}
use lib.Dec.{T, eqb, ltb, eqb→eq, ltb→lt, lt→ltb}
use lib.ListN.{length}
use Rattle.model.specs.Lists.{is_some, lowest}
use Rattle.model.specs.TransitionSystem.{TransitionSystem}
use Rattle.model.specs.Product.{Move}
use Rattle.model.specs.Machine.{Machine, Decomposition, place_of, move, common, excited}
use Rattle.model.proofs.Laws.{dec, contra, and_l, and_r, and_i, eqb_of, cond_true, cond_false, is_some_none, lowest_none, Lowest, found, absent, lowest_view}
use Rattle.state_set.specs.Rows.{member_at}
use Rattle.rows.specs.Told.{entry}
use Rattle.regions.specs.Moves.{move_at}
use Rattle.closure.specs.Covers.{on_machine}
use Rattle.merging.specs.Bars.{have_in_common, Pair, HasOne, open_in, Seen, open_for, EventBars, Barring}
use Rattle.merging.proofs.Barring.{Barred}

-- ---- tests of numbers below a bound

-- some number passes
pub some_below : (f : ℕ → Bool) (n : ℕ) → T (is_some (lowest f n)) ↔ ((i : ℕ) × (i < n) × T (f i))
unfolding is_some
some_below f n = (λ t. to (lowest_view f n) t, λ w. from (dec (is_some (lowest f n))) w)
  where
    to : Lowest f n → T (is_some (lowest f n)) → (i : ℕ) × (i < n) × T (f i)
    to (found i e l t h) s = (i, l, t)
    to (absent e h) s = absurd (subst (λ (o : Option ℕ). T (is_some o)) e s)

    from : T (is_some (lowest f n)) ⊎ T (not (is_some (lowest f n))) → (i : ℕ) × (i < n) × T (f i) → T (is_some (lowest f n))
    from (inl t) w = t
    from (inr t) w = absurd (contra (f w.0) (lowest_none f n (is_some_none (lowest f n) t) w.0 w.1) w.2)

pub in_common : (f g : ℕ → Bool) → T (have_in_common f g) ↔ ((i : ℕ) × (i < 256) × T (f i) × T (g i))
unfolding have_in_common
in_common f g = (
  λ t. let w = (some_below (λ i. f i && g i) 256).0 t in (w.0, w.1, and_l (f w.0) (g w.0) w.2, and_r (f w.0) (g w.0) w.2),
  λ w. (some_below (λ i. f i && g i) 256).1 (w.0, w.1, and_i (f w.0) (g w.0) w.2 w.3),
)

-- ---- a move in the rows

-- the rows have a move exactly if there is a pre-place, and it has these ends
pub move_on_lem : (pre post : List ℕ) (k e : ℕ) → entry pre (e * 16 + k) < 64 → move_at pre post k e ≡ some (record { pre = entry pre (e * 16 + k); post = entry post (e * 16 + k) })
unfolding move_at
move_on_lem pre post k e l = cond_true (ltb (entry pre (e * 16 + k)) 64) _ none (lt→ltb (entry pre (e * 16 + k)) 64 l)

pub record OnRow (pre post : List ℕ) (k e : ℕ) (v : Move) : Type 0 where
  pub on : entry pre (e * 16 + k) < 64
  pub pre_place : entry pre (e * 16 + k) ≡ v.pre
  pub post_place : entry post (e * 16 + k) ≡ v.post

pub on_move : (pre post : List ℕ) (k e : ℕ) (v : Move) → move_at pre post k e ≡ some v → OnRow pre post k e v
unfolding move_at
on_move pre post k e v q = go (dec (ltb (entry pre (e * 16 + k)) 64))
  where
    go : T (ltb (entry pre (e * 16 + k)) 64) ⊎ T (not (ltb (entry pre (e * 16 + k)) 64)) → OnRow pre post k e v
    go (inl t) =
        let w = some-injective (record { pre = entry pre (e * 16 + k); post = entry post (e * 16 + k) }) v (sym (cond_true (ltb (entry pre (e * 16 + k)) 64) _ none t) ∙ q) in
        record { on = ltb→lt (entry pre (e * 16 + k)) 64 t; pre_place = ap (λ (y : Move). y.pre) w; post_place = ap (λ (y : Move). y.post) w }
    go (inr t) = absurd (none-ne-some v (sym (cond_false (ltb (entry pre (e * 16 + k)) 64) _ none t) ∙ q))

-- ---- one machine

-- the rows tell machine m, which stands between `front` and `back`, and the states common to the others
pub record RowsTell (ts : TransitionSystem) (front back : Decomposition) (m : Machine) (x : Seen) : Type 0 where
  pub states : ts.states ≤ 256
  pub places : length m.places ≤ 64
  pub moves : (e : ℕ) → e < ts.events → move_at x.pre x.post (length front) e ≡ move ts m e
  pub sets : (q i : ℕ) → q < 64 → member_at x.sets (length front * 64 + q) i ≡ (ltb i ts.states && eqb (place_of m i) q)
  pub others : (e i : ℕ) → e < ts.events → (T (member_at x.earlier e i) × T (member_at x.later (e * 16 + length front) i)) ↔ ((i < ts.states) × T (common ts (front ++ back) e i))
  pub excitations : (e i : ℕ) → e < ts.events → member_at x.excited e i ≡ excited ts e i

module _ (ts : TransitionSystem) (front back : Decomposition) (m : Machine) (x : Seen) (r : RowsTell ts front back m x) where
  -- the open states of an event
  record Open (e i : ℕ) : Type 0 where
    below : i < ts.states
    others : T (common ts (front ++ back) e i)
    outside : T (not (excited ts e i))

  open_iff : (e i : ℕ) → e < ts.events → T (open_for x (length front) e i) ↔ Open e i
  unfolding open_in
  open_iff e i l = (
    λ t.
        let a = and_l (member_at x.earlier e i && member_at x.later (e * 16 + length front) i) (not (member_at x.excited e i)) t in
        let w = (r.others e i l).0 (and_l (member_at x.earlier e i) (member_at x.later (e * 16 + length front) i) a, and_r (member_at x.earlier e i) (member_at x.later (e * 16 + length front) i) a) in
        record {
          below = w.0;
          others = w.1;
          outside = subst (λ (b : Bool). T (not b)) (r.excitations e i l) (and_r (member_at x.earlier e i && member_at x.later (e * 16 + length front) i) (not (member_at x.excited e i)) t);
        },
    λ o.
        let w = (r.others e i l).1 (o.below, o.others) in
        and_i (member_at x.earlier e i && member_at x.later (e * 16 + length front) i) (not (member_at x.excited e i))
        (and_i (member_at x.earlier e i) (member_at x.later (e * 16 + length front) i) w.0 w.1) (subst (λ (b : Bool). T (not b)) (sym (r.excitations e i l)) o.outside),
  )

  -- a state is in the set of its place
  in_set : (q i : ℕ) → q < 64 → T (member_at x.sets (length front * 64 + q) i) ↔ ((i < ts.states) × (place_of m i ≡ q))
  in_set q i l = (
    λ t.
        let u = subst T (r.sets q i l) t in
        (ltb→lt i ts.states (and_l (ltb i ts.states) (eqb (place_of m i) q) u), eqb→eq (place_of m i) q (and_r (ltb i ts.states) (eqb (place_of m i) q) u)),
    λ w. subst T (sym (r.sets q i l)) (and_i (ltb i ts.states) (eqb (place_of m i) q) (lt→ltb i ts.states w.0) (eqb_of (place_of m i) q w.1)),
  )

  abbrev Either : ℕ → ℕ → Type 0
  Either a c = Barred ts front back m a c ⊎ Barred ts front back m c a

  to : (e a c : ℕ) → e < ts.events → EventBars x (length front) (length m.places) e a c → Either a c
  unfolding on_machine
  to e a c l y = go y.pair
    where
      moved : move ts m e ≡ some (record { pre = entry x.pre (e * 16 + length front); post = entry x.post (e * 16 + length front) })
      moved = sym (r.moves e l) ∙ move_on_lem x.pre x.post (length front) e (ltb→lt (entry x.pre (e * 16 + length front)) 64 y.on)

      bars : Barred ts front back m (entry x.pre (e * 16 + length front)) y.place
      bars = pick y.barred
        where
          pick : (y.place ≡ entry x.post (e * 16 + length front)) ⊎ HasOne x.sets (length front) (length m.places) (open_for x (length front) e) y.place → Barred ts front back m (entry x.pre (e * 16 + length front)) y.place
          pick (inl q) =
              let w = (some_below (open_for x (length front) e) 256).0 y.opens in
              let o = (open_iff e w.0 l).0 w.2 in
              record { event = e; declared = l; post = entry x.post (e * 16 + length front); moves = moved; state = w.0; below = o.below; others = o.others; outside = o.outside; ends = inl q }
          pick (inr h) =
              let w = (in_common (open_for x (length front) e) (member_at x.sets (length front * 64 + y.place))).0 h.1 in
              let o = (open_iff e w.0 l).0 w.2 in
              let s = (in_set y.place w.0 (omega (arith, h.0, r.places))).0 w.3 in
              record { event = e; declared = l; post = entry x.post (e * 16 + length front); moves = moved; state = w.0; below = o.below; others = o.others; outside = o.outside; ends = inr (sym s.1) }

      go : Pair (entry x.pre (e * 16 + length front)) y.place a c → Either a c
      go (inl w) = inl (rw (w.0, w.1) bars)
      go (inr w) = inr (rw (w.0, w.1) bars)

  from : (a c : ℕ) → c < length m.places → (b : Barred ts front back m a c) → EventBars x (length front) (length m.places) b.event a c × EventBars x (length front) (length m.places) b.event c a
  unfolding on_machine
  from a c l b = (record { on = on_it; opens = opened; place = c; barred = which b.ends; pair = inl (sym w.pre_place, refl) }, record { on = on_it; opens = opened; place = c; barred = which b.ends; pair = inr (refl, sym w.pre_place) })
    where
      w : OnRow x.pre x.post (length front) b.event (record { pre = a; post = b.post })
      w = on_move x.pre x.post (length front) b.event (record { pre = a; post = b.post }) (r.moves b.event b.declared ∙ b.moves)

      on_it : T (ltb (entry x.pre (b.event * 16 + length front)) 64)
      on_it = lt→ltb (entry x.pre (b.event * 16 + length front)) 64 w.on

      open_state_lem : T (open_for x (length front) b.event b.state)
      open_state_lem = (open_iff b.event b.state b.declared).1 (record { below = b.below; others = b.others; outside = b.outside })

      low : b.state < 256
      low = omega (arith, b.below, r.states)

      opened : T (is_some (lowest (open_for x (length front) b.event) 256))
      opened = (some_below (open_for x (length front) b.event) 256).1 (b.state, low, open_state_lem)

      which : (c ≡ b.post) ⊎ (c ≡ place_of m b.state) → (c ≡ entry x.post (b.event * 16 + length front)) ⊎ HasOne x.sets (length front) (length m.places) (open_for x (length front) b.event) c
      which (inl q) = inl (q ∙ sym w.post_place)
      which (inr q) =
          inr (
            l,
            (in_common (open_for x (length front) b.event) (member_at x.sets (length front * 64 + c))).1
                (b.state, low, open_state_lem, (in_set c b.state (omega (arith, l, r.places))).1 (b.below, sym q)),
          )

  -- a set of the row of bars has the places that the model says
  pub says : (bars : List ℕ) → Barring x (length front) (length m.places) ts.events bars
      → (a c : ℕ) → a < length m.places → c < length m.places → T (member_at bars a c) ↔ (Barred ts front back m a c ⊎ Barred ts front back m c a)
  says bars y a c la lc = (λ t. let w = (y.members a c).0 t in to w.0 a c w.1 w.2, λ t. again t)
    where
      again : Either a c → T (member_at bars a c)
      again (inl b) = (y.members a c).1 (b.event, b.declared, (from a c lc b).0)
      again (inr b) = (y.members a c).1 (b.event, b.declared, (from c a la b).1)

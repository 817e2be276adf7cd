-- How a machine's row is filled, state by state, and what it then tells: of each state its place, and the lowest state that is listed twice.
use Prim.Native.Nat.{ℕ, suc, ◌+◌, ◌<◌, ◌≤◌}
use native.Mathlib.Omega.{arith}
use mathlib.Core.Path.{◌≡◌, refl, ap, subst, sym, ◌∙◌}
use mathlib.Core.Logic.{◌⊎◌, inl, inr}
use mathlib.Core.Bool.{Bool, true, false, cond, ◌&&◌, ◌||◌}
use mathlib.Core.List.{List, [], ◌∷◌, ◌++◌, flatten}
use borrow.Author.Tests.{lt-ltb, le-ltb, eq-eqb, ne_eqb}
use lib.Dec.{T, leb, ltb, eqb, leb→le, ltb→lt, nltb→le}
use lib.ListN.{length, get_or, set, length-set}
use lib.Seq.{get_or-set_same, get_or-set_other, ext_get_or}
use Rattle.model.specs.Lists.{every, exists, index, elem, count, lowest}
use Rattle.model.specs.Machine.{Place, place_in}
use Rattle.model.proofs.Laws.{order, T_true, and_l, and_r, Lowest, found, absent, lowest_view}
use Rattle.model.proofs.ListLaws.{exists_append}
use Rattle.rows.specs.Rows.{or_no_state, place_mark, place_row}
use Rattle.lines.specs.Lines.{all_below, has_row, duplicate_mark}
use Rattle.lines.specs.Marking.{Marking, marked, marked_all, marked_places, up_to64}
use Rattle.rows.proofs.Rows.{length_place_row, get_d_place_row}
use Rattle.lines.proofs.marks.Marked.{eqb_case, marked_fresh, marked_again, own_number, rest, places, declared_places}

-- what an entry r becomes where a free one becomes v; and 1 if it is taken
abbrev kept : ℕ → ℕ → ℕ
kept r v = cond (eqb r 255) v r

abbrev taken : ℕ → ℕ
taken r = cond (eqb r 255) 0 1

-- e is the lowest of d and of the numbers below n that c counts twice
record Low (n d : ℕ) (c : ℕ → ℕ) (e : ℕ) : Type 0 where
  least : e ≤ d
  each : (y : ℕ) → y < n → 1 < c y → e ≤ y
  here : (e ≡ d) ⊎ ((e < n) × (1 < c e))

-- how often y is listed: once by an entry that is taken, and in the list
abbrev times : List ℕ → List ℕ → ℕ → ℕ
times row l y = taken (get_or row y 0) + count (eqb y) l

-- the mark that the places from number k on give to the state y
abbrev mark_from : ℕ → List Place → ℕ → ℕ
mark_from k ps y = cond (elem y (flatten ps)) (k + place_in ps y) 255

-- what the states xs of place p, and then those places, make of the marking m
record Filled (n p k : ℕ) (m : Marking) (xs : List ℕ) (ps : List Place) (e : Marking) : Type 0 where
  size : length e.row ≡ length m.row
  entry : (y : ℕ) → get_or e.row y 0 ≡ kept (get_or m.row y 0) (cond (elem y xs) p (mark_from k ps y))
  low : Low n m.duplicate (times m.row (xs ++ flatten ps)) e.duplicate

-- a state x whose entry is free takes it: what the states after it find is what x and they find
module _ (row : List ℕ) (p x : ℕ) (h : x < length row) (f : get_or row x 0 ≡ 255) (q : p ≡ 255 → ⊥) (y : ℕ) where
  fresh_entry : (xs : List ℕ) (v : ℕ)
      → kept (get_or (set row x p) y 0) (cond (elem y xs) p v) ≡ kept (get_or row y 0) (cond (elem y (x ∷ xs)) p v)
  unfolding elem exists
  fresh_entry xs v =
      eqb_case x y (λ e b. rw (b, e, get_or-set_same row x p 0 h, f, ne_eqb p 255 q)) (λ e b. rw (b, get_or-set_other row x y p 0 e))

  fresh_count : (l : List ℕ) → times (set row x p) l y ≡ times row (x ∷ l) y
  unfolding count
  fresh_count l =
      eqb_case x y
      (λ e b. subst (λ z. times (set row x p) l z ≡ times row (x ∷ l) z) (sym e) (rw (get_or-set_same row x p 0 h, f, ne_eqb p 255 q, eq-eqb x x refl) (omega arith)))
      (λ e b. rw (b, get_or-set_other row x y p 0 e))

-- a state x whose entry is taken leaves it
module _ (row : List ℕ) (p x : ℕ) (f : get_or row x 0 ≡ 255 → ⊥) (y : ℕ) where
  again_entry : (xs : List ℕ) (v : ℕ) → kept (get_or row y 0) (cond (elem y xs) p v) ≡ kept (get_or row y 0) (cond (elem y (x ∷ xs)) p v)
  unfolding elem exists
  again_entry xs v = eqb_case x y (λ e b. rw (e, ne_eqb (get_or row x 0) 255 f)) (λ e b. rw b)

-- the start d was lowered to m, and the count has grown from c to c'
low_more : {n d m : ℕ} {c : ℕ → ℕ} {e : ℕ} (c' : ℕ → ℕ) → Low n m c e → m ≤ d → (m ≡ d) ⊎ ((m < n) × (1 < c' m))
    → ((y : ℕ) → c y ≤ c' y) → ((y : ℕ) → 1 < c' y → (1 < c y) ⊎ (m ≤ y)) → Low n d c' e
low_more {n} {d} {m} {c} {e} c' low l s g f =
    record { least = omega (arith, low.least); each = λ y h k. at y h (f y k); here = found s low.here }
  where
    at : (y : ℕ) → y < n → (1 < c y) ⊎ (m ≤ y) → e ≤ y
    at y h (inl k) = low.each y h k
    at y h (inr k) = omega (arith, low.least)

    found : (m ≡ d) ⊎ ((m < n) × (1 < c' m)) → (e ≡ m) ⊎ ((e < n) × (1 < c e)) → (e ≡ d) ⊎ ((e < n) × (1 < c' e))
    found (inl q) (inl r) = inl (r ∙ q)
    found (inr q) (inl r) = inr (rw r q)
    found q (inr r) = inr (r.0, omega (arith, r.1, g e))

-- m is the lower of two numbers
record Lower (x d m : ℕ) : Type 0 where
  left : m ≤ x
  right : m ≤ d
  one : (m ≡ d) ⊎ (m ≡ x)

lower : (x d : ℕ) → Lower x d (cond (ltb x d) x d)
lower x d = go (order x d)
  where
    go : (x < d) ⊎ (d ≤ x) → Lower x d (cond (ltb x d) x d)
    go (inl h) = rw (lt-ltb x d h) (record { left = omega arith; right = omega arith; one = inr refl })
    go (inr h) = rw (le-ltb x d h) (record { left = omega arith; right = omega arith; one = inl refl })

-- and is listed twice
module _ (row : List ℕ) (x : ℕ) (f : get_or row x 0 ≡ 255 → ⊥) (l : List ℕ) where
  again_more : (y : ℕ) → count (eqb y) l ≤ count (eqb y) (x ∷ l)
  unfolding count
  again_more y = eqb_case x y (λ e b. rw b (omega arith)) (λ e b. rw b (omega arith))

  again_other : (y : ℕ) → 1 < times row (x ∷ l) y → (1 < times row l y) ⊎ (y ≡ x)
  unfolding count
  again_other y h = eqb_case x y (λ e b. inr e) (λ e b. inl (rw b at h))

  again_twice : 1 < times row (x ∷ l) x
  unfolding count
  again_twice = rw (ne_eqb (get_or row x 0) 255 f, eq-eqb x x refl) (omega arith)

  again_low : {n d m e : ℕ} → x < n → Lower x d m → Low n m (times row l) e → Low n d (times row (x ∷ l)) e
  again_low {n} {d} {m} h w low =
      low_more (times row (x ∷ l)) low w.right (first w.one) (λ y. omega (arith, again_more y)) (λ y k. other y (again_other y k))
    where
      first : (m ≡ d) ⊎ (m ≡ x) → (m ≡ d) ⊎ ((m < n) × (1 < times row (x ∷ l) m))
      first (inl q) = inl q
      first (inr q) = inr (rw q (h, again_twice))

      other : (y : ℕ) → (1 < times row l y) ⊎ (y ≡ x) → (1 < times row l y) ⊎ (m ≤ y)
      other y (inl q) = inl q
      other y (inr q) = inr (omega (arith, w.left))

-- all states are declared, and the places have their own numbers
record Fits (n p k : ℕ) (m : Marking) (xs : List ℕ) (ps : List Place) : Type 0 where
  below : T (every (λ x. ltb x n) xs)
  others : T (all_below n ps)
  few : k + length ps ≤ 64
  number : p < 255
  long : n ≤ length m.row

-- what is left, from the marking m on, ends at e
abbrev Fills : ℕ → ℕ → ℕ → Marking → List ℕ → List Place → Marking → Type 0
Fills n p k m xs ps e = Fits n p k m xs ps → Filled n p k m xs ps e

module _ (n p k : ℕ) (m : Marking) (x : ℕ) (xs : List ℕ) (ps : List Place) (e : Marking) where
  fills_one : Fills n p k (marked n p m x) xs ps e → Fills n p k m (x ∷ xs) ps e
  unfolding every
  fills_one r i = eqb_case 255 (get_or m.row x 0) (λ f _. fresh f) (λ f _. again f)
    where
      h : x < n
      h = ltb→lt x n (and_l (ltb x n) (every (λ x. ltb x n) xs) i.below)

      others : T (every (λ x. ltb x n) xs)
      others = and_r (ltb x n) (every (λ x. ltb x n) xs) i.below

      fresh : get_or m.row x 0 ≡ 255 → Filled n p k m (x ∷ xs) ps e
      fresh f =
          let r' : Fills n p k (record { declared = m.declared; duplicate = m.duplicate; row = set m.row x p }) xs ps e = rw (marked_fresh n p m x h f) at r in
          let w = r' (record { below = others; others = i.others; few = i.few; number = i.number; long = simp length-set i.long }) in
          let once : (y : ℕ) → times (set m.row x p) (xs ++ flatten ps) y ≡ times m.row (x ∷ (xs ++ flatten ps)) y =
          λ y. fresh_count m.row p x (omega (arith, h)) f (λ z. omega arith) y (xs ++ flatten ps) in
          record {
            size = w.size ∙ length-set m.row x p;
            entry = λ y. w.entry y ∙ fresh_entry m.row p x (omega (arith, h)) f (λ z. omega arith) y xs (mark_from k ps y);
            low =
                low_more (times m.row (x ∷ (xs ++ flatten ps))) w.low (omega arith) (inl refl) (λ y. omega (arith, once y))
                (λ y g. inl (omega (arith, once y)));
          }

      again : (get_or m.row x 0 ≡ 255 → ⊥) → Filled n p k m (x ∷ xs) ps e
      again f =
          let r' : Fills n p k (record { declared = m.declared; duplicate = cond (ltb x m.duplicate) x m.duplicate; row = m.row }) xs ps e =
          rw (marked_again n p m x h f) at r in
          let w = r' (record { below = others; others = i.others; few = i.few; number = i.number; long = i.long }) in
          record {
            size = w.size;
            entry = λ y. w.entry y ∙ again_entry m.row p x f y xs (mark_from k ps y);
            low = again_low m.row x f (xs ++ flatten ps) h (lower x m.duplicate) w.low;
          }

-- the next place
mark_turn : (k : ℕ) (ys : Place) (ps : List Place) (y : ℕ) → cond (elem y ys) k (mark_from (suc k) ps y) ≡ mark_from k (ys ∷ ps) y
unfolding elem flatten place_in index
mark_turn k ys ps y = rw (exists_append (eqb y) ys (flatten ps)) (go (exists (eqb y) ys))
  where
    go : (c : Bool) → cond c k (mark_from (suc k) ps y) ≡ cond (c || elem y (flatten ps)) (k + cond c 0 (suc (place_in ps y))) 255
    go true = omega arith
    go false = ap (λ (v : ℕ). cond (elem y (flatten ps)) v 255) (omega arith)

fills_turn : (n p k : ℕ) (m : Marking) (ys : List ℕ) (ps : List Place) (e : Marking) → Fills n (up_to64 k) (suc k) m ys ps e → Fills n p k m [] (ys ∷ ps) e
unfolding all_below every flatten elem exists
fills_turn n p k m ys ps e r i =
    let q : up_to64 k ≡ k = own_number k (omega (arith, i.few)) in
    let r' : Fills n k (suc k) m ys ps e = rw q at r in
    let w = r' (record {
      below = and_l (every (λ x. ltb x n) ys) (every (every (λ x. ltb x n)) ps) i.others;
      others = and_r (every (λ x. ltb x n) ys) (every (every (λ x. ltb x n)) ps) i.others;
      few = omega (arith, i.few);
      number = omega (arith, i.few);
      long = i.long;
    }) in
    record { size = w.size; entry = λ y. w.entry y ∙ ap (kept (get_or m.row y 0)) (mark_turn k ys ps y); low = w.low }

fills_end : (n p k : ℕ) (m : Marking) → Fills n p k m [] [] m
unfolding flatten elem exists count
fills_end n p k m i =
    record {
      size = refl;
      entry = λ y. free (get_or m.row y 0);
      low = record { least = omega arith; each = λ y h l. absurd (omega (arith, taken_most (get_or m.row y 0))); here = inl refl };
    }
  where
    taken_most : (r : ℕ) → taken r ≤ 1
    taken_most r = eqb_case 255 r (λ e b. rw b (omega arith)) (λ e b. rw b (omega arith))

    free : (r : ℕ) → r ≡ kept r 255
    free r = eqb_case 255 r (λ e b. rw b e) (λ e b. rw b)

filled : (n : ℕ) (ps : List Place) (k : ℕ) (m : Marking) → Fills n 0 k m [] ps (marked_places n k m ps)
unfolding marked_places marked_all
filled n ps k m =
    places n (λ p k m xs ps. Fills n p k m xs ps (rest n p k m xs ps))
    (λ p k m x xs ps. fills_one n p k m x xs ps (rest n p k (marked n p m x) xs ps)) (fills_end n)
    (λ p k m ys ps. fills_turn n p k m ys ps (rest n (up_to64 k) (suc k) m ys ps)) ps 0 k m

-- the lowest number that is listed twice
low_lowest : {n d e : ℕ} {c : ℕ → ℕ} (l : List ℕ) → Low n d c e → d ≡ 256 → n ≤ 256 → ((y : ℕ) → y < n → c y ≡ count (eqb y) l)
    → e ≡ or_no_state (lowest (λ y. ltb 1 (count (eqb y) l)) n)
unfolding or_no_state
low_lowest {n} {d} {e} {c} l low top h s = go (lowest_view (λ y. ltb 1 (count (eqb y) l)) n) low.here
  where
    go : Lowest (λ y. ltb 1 (count (eqb y) l)) n → (e ≡ d) ⊎ ((e < n) × (1 < c e)) → e ≡ or_no_state (lowest (λ y. ltb 1 (count (eqb y) l)) n)
    go (found k q b t f) w = at (order e k) w ∙ sym (ap or_no_state q)
      where
        most : e ≤ k
        most = low.each k b (omega (arith, s k b, ltb→lt 1 (count (eqb k) l) t))

        at : (e < k) ⊎ (k ≤ e) → (e ≡ d) ⊎ ((e < n) × (1 < c e)) → e ≡ k
        at (inr g) w = omega (arith, most)
        at (inl g) (inl z) = absurd (omega arith)
        at (inl g) (inr z) = absurd (omega (arith, s e z.0, nltb→le 1 (count (eqb e) l) (f e g)))
    go (absent q f) (inl z) = z ∙ top ∙ sym (ap or_no_state q)
    go (absent q f) (inr z) = absurd (omega (arith, s e z.0, nltb→le 1 (count (eqb e) l) (f e z.0)))

-- a marking by its parts
told : (e : Marking) {d : Bool} {k : ℕ} {r : List ℕ} → e.declared ≡ d → e.duplicate ≡ k → e.row ≡ r → e ≡ record { declared = d; duplicate = k; row = r }
told e p q r = rw (← p, ← q, ← r)

-- a row in which each state is unplaced, and nothing is known of any
pub record Unmarked (m : Marking) : Type 0 where
  pub declared : m.declared ≡ true
  pub duplicate : m.duplicate ≡ 256
  pub long : length m.row ≡ 256
  pub free : (y : ℕ) → y < 256 → get_or m.row y 0 ≡ 255

-- places within their limits
module _ (n : ℕ) (ps : List Place) (h : n ≤ 256) (within : has_row n ps ≡ true) where
  pub filled_places : {m : Marking} → Unmarked m → marked_places n 0 m ps ≡ record { declared = true; duplicate = duplicate_mark n ps; row = place_row ps }
  unfolding has_row duplicate_mark place_mark every elem exists
  filled_places {m} u =
      let fits : T (leb (length ps) 64 && all_below n ps) = rw within tt in
      let all = and_r (leb (length ps) 64) (all_below n ps) fits in
      let few = leb→le (length ps) 64 (and_l (leb (length ps) 64) (all_below n ps) fits) in
      let w = filled n ps 0 m (record { below = tt; others = all; few = omega arith; number = omega arith; long = omega arith }) in
      told (marked_places n 0 m ps)
      (declared_places n 0 m ps ∙ rw u.declared (T_true (all_below n ps) all))
      (low_lowest (flatten ps) w.low u.duplicate h (λ y l. rw (u.free y (omega arith)) (omega arith)))
      (ext_get_or 0 _ _ (w.size ∙ u.long ∙ sym (length_place_row ps)) λ y l.
      let below : y < 256 = omega (arith, w.size) in
      let own : 0 + place_in ps y ≡ place_in ps y = omega arith in
      w.entry y ∙ rw (u.free y below, own) (sym (get_d_place_row ps y 0 below)))

-- What the marks in a machine's rows say: 8 and 9, and past them the place of each state.
use Rattle.std.specs.Prelude.{Option, Some, None, slice_range}
use Rattle.std.specs.List.{position, position_or_len}
use Rattle.std.proofs.Common.{◌-◌, length, length-take, length-drop, get_or-take, get_or-drop}
use Rattle.std.proofs.lemmas.List.Sums.{fails_before_first, passes_at_first}
use Prim.Native.Nat.{ℕ, ◌+◌, ◌*◌, ◌<◌, ◌≤◌}
use native.Mathlib.Omega.{arith}
use borrow.Author.Tests.{eq-eqb, ne_eqb, lt-ltb, le-ltb}
use mathlib.Core.Path.{◌≡◌, refl, sym, ◌∙◌}
use mathlib.Core.Logic.{◌⊎◌, inl, inr}
use mathlib.Core.Bool.{Bool, true, false, not, cond}
use mathlib.Core.List.{List, flatten}
use mathlib.Core.Option.{none, some, none-ne-some, some-ne-none}
use lib.Dec.{T, eqb, nltb→le}
use Rattle.model.specs.Lists.{elem, lowest}
use Rattle.model.specs.Machine.{Machine, place_of, duplicate_state, unplaced_state}
use Rattle.model.proofs.Laws.{order, not_not, neqb, lowest_none, none_lowest, lowest_is}
use Rattle.model.proofs.Places.{Placed}
use Rattle.rows.specs.declared.Tables.{Tables}
use Rattle.rows.specs.Told.{entry, system_of, or_none, place_at, duplicate_at, MachineTold}
use Rattle.rows.specs.Bounded.{Bounded}
use Rattle.rows.proofs.Searches.{lowest_same}
use Rattle.rows.proofs.Fronts.{within_tables}
use Rattle.rows.proofs.Telling.{place_below, placed_at}
use Rattle.regions.specs.Crossings.{Scannable}

-- the lowest of n states that machine m has in no place, if there is one
abbrev pub Uncovered : List ℕ → ℕ → ℕ → Option ℕ → Type 0
Uncovered place m n None = lowest (λ x. eqb (entry place (m * 256 + x)) 255) n ≡ none
Uncovered place m n (Some x) = lowest (λ x. eqb (entry place (m * 256 + x)) 255) n ≡ some x

pub covered : (place : List ℕ) (m n : ℕ) → ((x : ℕ) → x < n → ¬ (entry place (m * 256 + x) ≡ 255)) → Uncovered place m n None
covered place m n each = none_lowest _ n (λ x l. neqb (entry place (m * 256 + x)) 255 (each x l))

-- the first entry 255 among those of the machine
module _ (place : List ℕ) (m n : ℕ) (room : m * 256 + n ≤ length place) where
  abbrev part : List ℕ
  part = slice_range place (m * 256) (m * 256 + n)

  part_length : length part ≡ n
  part_length = simp (length-take, length-drop) (omega arith)

  part_entry : (x : ℕ) → x < n → entry part x ≡ entry place (m * 256 + x)
  part_entry x l = let b : x < m * 256 + n - m * 256 = omega arith in rw (get_or-take, get_or-drop)

  abbrev k : ℕ
  k = position_or_len (λ x. eqb x 255) part

  pub uncovered : (r : Option ℕ) → r ≡ position (λ x. eqb x 255) part → Uncovered place m n r
  uncovered r q = rw q (go (order k n))
    where
      before : (x : ℕ) → x < k → x < n → T (not (eqb (entry place (m * 256 + x)) 255))
      before x l b = rw (← part_entry x b, fails_before_first (λ x. eqb x 255) part x 0 l) tt

      go : (k < n) ⊎ (n ≤ k) → Uncovered place m n (position (λ x. eqb x 255) part)
      go (inl l) =
          let here : k < length part = rw part_length l in
          rw (lt-ltb k (length part) here)
          (lowest_is _ n k l (rw (← part_entry k l, passes_at_first (λ x. eqb x 255) part 0 here) tt) (λ x b. before x b (omega arith)))
      go (inr l) = rw (le-ltb k (length part) (rw part_length l)) (none_lowest _ n (λ x b. before x (omega arith) b))

-- an entry that is 255 or the number of a place
unplaced_test : (y z : ℕ) (b : Bool) → or_none 255 y ≡ cond b (some z) none → eqb y 255 ≡ not b
unfolding or_none
unplaced_test y z b q = go (eqb y 255) b q
  where
    go : (e b : Bool) → cond e none (some y) ≡ cond b (some z) none → e ≡ not b
    go true true q = absurd (none-ne-some z q)
    go true false q = refl
    go false true q = refl
    go false false q = absurd (some-ne-none y q)

module _ {p : Tables} {k : ℕ} {m : Machine} (told : MachineTold (system_of p) p k m) where
  pub twice_found : ¬ (entry p.duplicate k ≡ 256) → duplicate_state (system_of p) m ≡ some (entry p.duplicate k)
  unfolding duplicate_at or_none
  twice_found h = sym told.duplicate ∙ rw (ne_eqb (entry p.duplicate k) 256 h)

  pub twice_none : entry p.duplicate k ≡ 256 → duplicate_state (system_of p) m ≡ none
  unfolding duplicate_at or_none
  twice_none h = sym told.duplicate ∙ rw (eq-eqb (entry p.duplicate k) 256 h)

  module _ (b : Bounded p) where
    pub unplaced_search : lowest (λ x. eqb (entry p.place (k * 256 + x)) 255) p.counts.states ≡ unplaced_state (system_of p) m
    unfolding unplaced_state system_of place_at
    unplaced_search =
        lowest_same _ _ p.counts.states
        (λ x h. unplaced_test (entry p.place (k * 256 + x)) (place_of m x) (elem x (flatten m.places)) (told.place x (omega (arith, b.states))))

    module _ (once : duplicate_state (system_of p) m ≡ none) (all : unplaced_state (system_of p) m ≡ none) where
      placed : Placed (system_of p) m
      unfolding duplicate_state unplaced_state
      placed =
          record {
            once = λ s l. nltb→le 1 _ (lowest_none _ _ once s l);
            placed = λ s l. not_not (elem s (flatten m.places)) (lowest_none _ _ all s l);
          }

      pub scannable : k < p.counts.machines → Scannable (system_of p) m k p.source p.event p.target p.place p.counts.transitions
      unfolding system_of
      scannable h =
          record {
            within = within_tables p b;
            transitions = refl;
            placed = placed;
            told = λ x l. placed_at told x (omega (arith, b.states)) (placed.placed x l);
            low = λ x l. omega (arith, place_below m.places x (placed.placed x l), told.places, b.sizes k h);
          }

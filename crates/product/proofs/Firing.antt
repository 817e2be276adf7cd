-- An event on the machines together, in the model's words: the machines 0, 1, .. whose moves the rows tell, in the first places of a row.
use Rattle.std.specs.Prelude.{Some, None}
use Prim.Native.Nat.{ℕ, ◌<◌, ◌≤◌}
use native.Mathlib.Omega.{arith}
use mathlib.Core.Path.{◌≡◌, sym, ◌∙◌}
use mathlib.Core.List.{List}
use mathlib.Core.Option.{none, some, some-injective, some-ne-none}
use mathlib.Core.Bool.{Bool, not}
use lib.Dec.{T}
use lib.ListN.{length, take}
use lib.Seq.{length-take-le, get_or-take}
use Rattle.model.specs.Lists.{At, is_some, lowest, numbers}
use Rattle.model.specs.Product.{fire, fire_all, product_step, blocker}
use Rattle.model.proofs.Laws.{not_not, is_some_none, Lowest, found, absent, lowest_view}
use Rattle.model.proofs.Positions.{at_below, length_numbers, number_at, at_number}
use Rattle.model.proofs.Together.{step_effective, all_fire, Halts, halts_blocker, none_blocks}
use Rattle.rows.specs.Told.{entry}
use Rattle.regions.specs.Moves.{move_at}
use Rattle.product.specs.declared.Stepped.{Stepped}
use Rattle.product.specs.Stepping.{Steps, IsPadded, IsOn}
use Rattle.product.proofs.Places.{padded_stands, stands_padded}

-- what the rows tell of each machine number, told of the machines together
module _ (pre post : List ℕ) (machines : ℕ) (places : List ℕ) (e : ℕ) (room : machines ≤ length places) where
  abbrev blocks : ℕ → Bool
  blocks k = not (is_some (fire (move_at pre post) k e (entry places k)))

  counted : length (take machines places) ≡ length (numbers machines)
  counted = length-take-le machines places room ∙ sym (length_numbers machines)

  fires_told : (k m : ℕ) → At (numbers machines) k m → fire (move_at pre post) m e (entry (take machines places) k) ≡ fire (move_at pre post) k e (entry places k)
  fires_told k m a =
      rw (at_number machines k m a, get_or-take machines places k 0 (omega (arith, at_below (numbers machines) k m a, length_numbers machines)))

  -- each goes
  pub rows_go : (moved : List ℕ) → machines ≤ length moved → ((k : ℕ) → k < machines → fire (move_at pre post) k e (entry places k) ≡ some (entry moved k))
      → fire_all (move_at pre post) e (numbers machines) (take machines places) ≡ some (take machines moved)
  rows_go moved enough went =
      all_fire (move_at pre post) e (numbers machines) (take machines places) (take machines moved) counted (length-take-le machines moved enough ∙ sym (length_numbers machines))
      (λ k m a.
      let l : k < machines = omega (arith, at_below (numbers machines) k m a, length_numbers machines) in
      fires_told k m a ∙ went k l ∙ rw (get_or-take machines moved k 0 l))

  -- none blocks
  pub rows_pass : ((k : ℕ) → k < machines → T (is_some (fire (move_at pre post) k e (entry places k)))) → blocker (move_at pre post) (numbers machines) (take machines places) e ≡ machines
  rows_pass pass =
      none_blocks (move_at pre post) e (numbers machines) (take machines places) counted
      (λ k m a. rw (fires_told k m a) (pass k (omega (arith, at_below (numbers machines) k m a, length_numbers machines))))
      ∙ length_numbers machines

  halts_at : (k : ℕ) → k < machines → T (blocks k) → ((j : ℕ) → j < k → T (not (blocks j))) → Halts (move_at pre post) e (numbers machines) (take machines places) k
  halts_at k l t u =
      let a = number_at machines k l in
      record {
        machine = k;
        numbered = a;
        stops = fires_told k k a ∙ is_some_none (fire (move_at pre post) k e (entry places k)) t;
        lower = λ j m i b. rw (fires_told j m b) (not_not (is_some (fire (move_at pre post) j e (entry places j))) (u j i));
      }

  -- one blocks: the lowest
  pub rows_halt : (n : ℕ) → some n ≡ lowest blocks machines
      → (fire_all (move_at pre post) e (numbers machines) (take machines places) ≡ none) × (blocker (move_at pre post) (numbers machines) (take machines places) e ≡ n)
  rows_halt n here = go (lowest_view blocks machines)
    where
      go : Lowest blocks machines
          → (fire_all (move_at pre post) e (numbers machines) (take machines places) ≡ none) × (blocker (move_at pre post) (numbers machines) (take machines places) e ≡ n)
      go (absent q u) = absurd (some-ne-none n (here ∙ q))
      go (found k q b t u) =
          let o = halts_blocker (move_at pre post) e (numbers machines) (take machines places) k counted (halts_at k b t u) in
          (o.0, o.1 ∙ sym (some-injective n k (here ∙ q)))

-- of an event that is on one of the machines
module _ {pre post : List ℕ} {machines : ℕ} {places : List ℕ} {e : ℕ} {s : Stepped} (on : IsOn pre post machines e) (steps : Steps pre post machines places e s) where
  on_some_lem : product_step (move_at pre post) (numbers machines) (take machines places) e ≡ fire_all (move_at pre post) e (numbers machines) (take machines places)
  on_some_lem = step_effective (move_at pre post) (numbers machines) (take machines places) e on

  pub step_moves : s.blocker ≡ None → product_step (move_at pre post) (numbers machines) (take machines places) e ≡ some (take machines s.places)
  step_moves h = on_some_lem ∙ steps.goes h

  pub step_blocks : (m : ℕ) → s.blocker ≡ Some m → product_step (move_at pre post) (numbers machines) (take machines places) e ≡ none
  step_blocks m h = on_some_lem ∙ (steps.halts m h).0

-- machine numbers not in use have 0 as before
pub still_padded : {pre post : List ℕ} {machines : ℕ} {places : List ℕ} {e : ℕ} {s : Stepped} → machines ≤ 16 → length places ≡ 16
    → IsPadded machines places → Steps pre post machines places e s → IsPadded machines s.places
still_padded {machines = machines} {places = places} {s = s} few size padded-before steps =
    let counted = length-take-le machines s.places (omega (arith, steps.size)) in
    let before = length-take-le machines places (omega (arith, size)) in
    stands_padded (take machines s.places) (omega (arith, counted))
    (record {
      size = steps.size;
      stands = λ k l. sym (get_or-take machines s.places k 0 (omega (arith, counted)));
      unused = λ k l. steps.others k (omega (arith, counted))
          ∙ rw padded-before ((padded_stands (take machines places) (omega (arith, before))).unused k (omega (arith, before, counted)));
    })

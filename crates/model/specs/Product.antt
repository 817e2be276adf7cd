-- Running together: the synchronous product of machines that are known by their moves alone. Document 01, "Vocabulary" and "Services".
-- Believed: `Ran`, of which Printed says what is printed. Held by demand2 for the machines of a text, each standing in a place: one event and a list of them
-- (`machines`), what is told of a list (`running`); for the machines of a sheet by `board_telling`.
use Rattle.std.specs.Prelude.{ℕ, suc, Bool, cond, List, [], ◌∷◌, eqb}
use Rattle.std.proofs.Math.Option.{Option, none, some}
use Rattle.model.specs.Lists.{exists, is_some}

-- the pre-place and the post-place of an event on a machine
pub record Move : Type 0 where
  pub pre : ℕ
  pub post : ℕ

-- from place q: the machine goes to the post-place, blocks outside the pre-place, and stays if the event is not on it
unfoldable pub move_from : ℕ → Option Move → Option ℕ
move_from q none = some q
move_from q (some v) = cond (eqb q v.pre) (some v.post) none

-- the first place and the others, if all are there
unfoldable pub both : Option ℕ → Option (List ℕ) → Option (List ℕ)
both none o = none
both (some q) none = none
both (some q) (some qs) = some (q ∷ qs)

-- how many events ran, the machine that blocked the next (none: the list ran to its end), and where each machine stands
pub record Ran : Type 0 where
  pub ran : ℕ
  pub blocked : Option ℕ
  pub places : List ℕ

unfoldable pub one_more : Ran → Ran
one_more r = record { ran = suc r.ran; blocked = r.blocked; places = r.places }

-- `moves m e` is the move of the event e on the machine m; none: the event is not on it
module _ {M E : Type 0} (moves : M → E → Option Move) where
  -- the event is on the machine, in the machine's alphabet
  unfoldable pub in_alphabet : E → M → Bool
  in_alphabet e m = is_some (moves m e)

  -- the event is on some machine
  unfoldable pub effective : List M → E → Bool
  effective ms e = exists (in_alphabet e) ms

  -- where a machine in place q stands once e has run; none if it blocks
  unfoldable pub fire : M → E → ℕ → Option ℕ
  fire m e q = move_from q (moves m e)

  -- where all stand once e has run; none if one blocks
  unfoldable pub fire_all : E → List M → List ℕ → Option (List ℕ)
  fire_all e [] [] = some []
  fire_all e [] (q ∷ qs) = none
  fire_all e (m ∷ ms) [] = none
  fire_all e (m ∷ ms) (q ∷ qs) = both (fire m e q) (fire_all e ms qs)

  -- "An event runs if it is on some machine and each machine that it is on stands in its pre-place; these go to its post-place and the others stay.
  -- An event on no machine never runs."
  unfoldable pub product_step : List M → List ℕ → E → Option (List ℕ)
  product_step ms qs e = cond (effective ms e) (fire_all e ms qs) none

  -- the lowest machine that blocks e; their count if none does
  unfoldable pub blocker : List M → List ℕ → E → ℕ
  blocker [] qs e = 0
  blocker (m ∷ ms) [] e = 0
  blocker (m ∷ ms) (q ∷ qs) e = cond (is_some (fire m e q)) (suc (blocker ms qs e)) 0

  -- "At an event that doesn't run all stay where they are, and nothing after it runs."
  unfoldable pub run_from : List M → List ℕ → List E → Ran
  run_from ms qs [] = record { ran = 0; blocked = none; places = qs }
  run_from ms qs (e ∷ es) =
      elim
      (product_step ms qs e) [
        | none ↦ record { ran = 0; blocked = some (blocker ms qs e); places = qs }
        | some rs ↦ one_more (run_from ms rs es)
      ]

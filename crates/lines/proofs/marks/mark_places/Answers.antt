-- `lines::marks::mark_places` meets its contract: a loop over places, each of which is marked by its number.
use Prim.Native.Nat.{ℕ, suc, ◌+◌, ◌<◌, ◌≤◌}
use native.Mathlib.Omega.{arith}
use native.Mathlib.Numerals.{add-one}
use mathlib.Core.Path.{◌≡◌, ap, ◌∙◌}
use mathlib.Core.List.{List}
use lib.ListN.{length}
use Rattle.std.specs.Prelude.{Option, Some, None}
use Rattle.model.specs.Machine.{Place}
use Rattle.model.specs.Reading.{Parsed, fail, got, many}
use Rattle.model.specs.Form.{place}
use Rattle.lexer.proofs.Answers.{literal_missing, literal_got}
use Rattle.lexer.proofs.Loops.{Items, items_none, items_more, items_end}
use Rattle.lines.specs.Marking.{Marking, marking, marked_all, marked_places, up_to64, opened, PlaceFound, PlaceRead, PlacesFound, PlacesRead}
use Rattle.lines.proofs.marks.PlaceReader.{moves_place, Bracket, place_none, place_opened, bracket_starts}
use Rattle.lines.proofs.marks.mark_places.Invariants.{end}
use Rattle.lines.proofs.marks.mark_places.Goals.{After-mark_place, In_ok-next}
use Rattle.lines.proofs.marks.mark_places.Goals as goal

-- the answers to one place
missed : (n p : ℕ) (m : Marking) (o : Parsed Place) {r : Option ℕ} (after : Marking) → PlaceRead n p m o r after → r ≡ None → o ≡ fail
unfolding PlaceRead
missed n p m o after h e = rw e at h

found : (n p : ℕ) (m : Marking) (o : Parsed Place) {r : Option ℕ} {next : ℕ} (after : Marking) → PlaceRead n p m o r after → r ≡ Some next
    → PlaceFound n p m o next after
unfolding PlaceRead
found n p m o after h e = rw e at h

-- a turn: the place at i is marked by its number k
record Turn (n k : ℕ) (m m' : Marking) (s : List ℕ) (i next : ℕ) : Type 0 where
  listed : Place
  read : place s i ≡ got listed next
  rows : m' ≡ marked_all n (up_to64 k) m listed

turned : {n p k : ℕ} {m : Marking} {s : List ℕ} {i a next : ℕ} {m' : Marking} → Bracket s i a
    → PlaceFound n p m (opened s a) next m' → p ≡ up_to64 k → Turn n k m m' s i next
turned {n} {m = m} b f e =
    record { listed = f.place; read = place_opened b ∙ f.read; rows = f.rows ∙ ap (λ (p : ℕ). marked_all n p m f.place) e }

module _ {n k : ℕ} {m m' : Marking} {s : List ℕ} {i next : ℕ} (t : Turn n k m m' s i next) where
  moved : (i < next) × (next ≤ length s)
  moved = moves_place.on s i t.listed next t.read

  again : {r : Marking × ℕ × ℕ} → Items place (end n) s r (m, k) i → Items place (end n) s r (m', k + 1) next
  unfolding marked_places
  again inv =
      items_more moves_place inv t.listed next t.read (m', k + 1) λ l j.
      let a : k + suc (length l) ≡ k + 1 + length l = omega arith in
      rw (t.rows, a, add-one k)

-- no place more
last : {n : ℕ} {m : Marking} {s : List ℕ} (at : ℕ) {count : ℕ} {m' : Marking} {i : ℕ}
    → Items place (end n) s (end n (m, 0) (many place s at)) (m', count) i → place s i ≡ fail
    → PlacesFound n m (many place s at) (record { count = count; next = i }) m'
unfolding marked_places
last at inv e =
    let q = items_end inv e in
    record {
      counted = omega (arith, ap (λ (r : Marking × ℕ × ℕ). r.1) q);
      ends = ap (λ (r : Marking × ℕ × ℕ). r.2) q;
      rows = ap (λ (r : Marking × ℕ × ℕ). r.0) q;
    }

bracket : (c : After-mark_place) → Bracket c.args.s.now c.loop-opened.next c.in-Some.opened
bracket c = record { read = literal_got _ c.read_literal.ensures c.in-Some.is }

turn : (c : In_ok-next)
    → Turn c.args.n c.loop-opened.count (marking c.loop-opened.marks) (marking c.mark_place.new.marks) c.args.s.now c.loop-opened.next c.in_ok-next.next
turn c = turned (bracket (goal.at.In_ok-next c).After-mark_place) (found _ _ _ _ _ c.mark_place.ensures c.in_ok-next.was) c.place_number.ensures

pub loop-opened-init : goal.loop-opened-init
loop-opened-init c = (items_none _ _ _ _ _, omega arith)

pub returns-in_err-next : goal.returns-in_err-next
unfolding PlacesRead
returns-in_err-next c =
    let b = bracket (goal.at.returns-in_err-next c).After-mark_place in
    let f = last _ c.loop-opened.invariant.0 (place_opened b ∙ missed _ _ _ _ _ c.mark_place.ensures c.in_err-next.was) in
    rw (c.from_residual.ensures, ← f.ends) (bracket_starts b)

pub returns : goal.returns
unfolding PlacesRead
returns c = last _ c.loop-opened.invariant.0 (place_none _ _ (literal_missing _ c.read_literal.ensures c.in_default.is))

pub overflow_add-count : goal.overflow_add-count
overflow_add-count c = omega (arith, moved (turn c))

pub loop-opened-smaller : goal.loop-opened-smaller
loop-opened-smaller c = omega (arith, moved (turn c))

pub loop-opened-preserved : goal.loop-opened-preserved
loop-opened-preserved c = (again (turn c) c.loop-opened.invariant.0, omega (arith, moved (turn c)))

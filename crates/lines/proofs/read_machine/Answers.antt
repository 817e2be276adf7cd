-- `lines::read_machine` meets its contract: each way out has its law in `MachineReader`.
use Prim.Native.Nat.{ℕ}
use mathlib.Core.Path.{refl, sym, ◌∙◌}
use mathlib.Core.Bool.{true}
use lib.ListN.{replicate, length-replicate, get_or-replicate}
use Rattle.lexer.proofs.Answers.{literal_missing, literal_got}
use Rattle.lines.specs.Marking.{marking}
use Rattle.lines.proofs.marks.Filling.{Unmarked}
use Rattle.lines.proofs.MachineReader.{Headed, Listed, Ended, headless, broken, no_places, unclosed, past, placed, no_machine_lem, places_broken, places_found}
use Rattle.lines.proofs.read_machine.Goals.{After-mark_places, In_ok-places, In_ok-next}
use Rattle.lines.proofs.read_machine.Goals as goal

-- the head is read
head : (c : After-mark_places) → Headed c.args.s.now c.args.at c.in_ok-a.a
head c = record { read = literal_got _ c.read_literal.ensures c.in_ok-a.was }

-- the row as it is lent
unmarked : Unmarked (record { declared = true; duplicate = 256; row = replicate 256 255 })
unmarked = record { declared = refl; duplicate = refl; long = length-replicate {A = ℕ} 256 255; free = λ y h. get_or-replicate {A = ℕ} 256 y 255 0 h }

-- the places are read
listed : (c : In_ok-places) → Listed c.args.n c.args.s.now c.args.at c.in_ok-places.places (marking c.mark_places.new.marks)
listed c =
    record {
      from = c.in_ok-a.a;
      start = record { declared = true; duplicate = 256; row = replicate 256 255 };
      head = head (goal.at.In_ok-places c).After-mark_places;
      unmarked = unmarked;
      found = places_found _ _ _ _ _ c.mark_places.ensures c.in_ok-places.was;
    }

-- the end is read
ended : (c : In_ok-next) → Ended c.args.n c.args.s.now c.args.at c.in_ok-places.places (marking c.mark_places.new.marks) c.in_ok-next.next
ended c =
    record {
      places = listed (goal.at.In_ok-next c).In_ok-places;
      some = c.if-places-eq0.false;
      read = literal_got _ c.read_literal-2.ensures c.in_ok-next.was;
    }

pub returns-in_err-a : goal.returns-in_err-a
returns-in_err-a c = rw c.from_residual.ensures (no_machine_lem _ _ (headless _ _ (literal_missing _ c.read_literal.ensures c.in_err-a.was)))

pub returns-in_err-places : goal.returns-in_err-places
returns-in_err-places c =
    rw c.from_residual-in_err-places.ensures
    (no_machine_lem _ _
    (broken (head (goal.at.returns-in_err-places c).After-mark_places) (places_broken _ _ _ _ _ c.mark_places.ensures c.in_err-places.was)))

pub returns-then-places-eq0 : goal.returns-then-places-eq0
returns-then-places-eq0 c = no_machine_lem _ _ (no_places (listed (goal.at.returns-then-places-eq0 c).In_ok-places) c.if-places-eq0.true)

pub returns-in_err-next : goal.returns-in_err-next
returns-in_err-next c =
    rw c.from_residual-in_err-next.ensures
    (no_machine_lem _ _
    (unclosed (listed (goal.at.returns-in_err-next c).In_ok-places) (literal_missing _ c.read_literal-2.ensures c.in_err-next.was)))

pub returns-then-not-has_row : goal.returns-then-not-has_row
returns-then-not-has_row c =
    past (ended (goal.at.returns-then-not-has_row c).In_ok-next) (sym c.has_row.ensures ∙ c.if-not-has_row.true) c.without_row.ensures

pub returns : goal.returns
returns c = placed (ended (goal.at.returns c).In_ok-next) c.requires (sym c.has_row.ensures ∙ c.if-not-has_row.false)

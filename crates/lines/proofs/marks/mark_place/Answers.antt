-- `lines::marks::mark_place` meets its contract: a figure, the figures that follow, and the bracket that closes the place.
use Prim.Native.Nat.{ℕ}
use mathlib.Core.Path.{◌≡◌, refl, ◌∙◌}
use mathlib.Core.List.{List, ◌∷◌}
use Rattle.std.specs.Prelude.{Option, Some, None}
use Rattle.model.specs.Bytes.{bytes}
use Rattle.model.specs.Reading.{fail, got, lit_bytes, figure, many}
use Rattle.model.specs.Form.{spaced_figure}
use Rattle.lexer.specs.Words.{as_literal}
use Rattle.lexer.proofs.Answers.{literal_missing, literal_got, figure_missing, figure_got}
use Rattle.lines.specs.Marking.{Marking, marking, marked_all, opened, PlaceFound, PlaceRead}
use Rattle.lines.proofs.marks.mark_place.Goals as goal

bare : (s : List ℕ) (at : ℕ) → figure s at ≡ fail → opened s at ≡ fail
unfolding opened
bare s at e = rw e

-- the figures of a place are read and marked, to the position `end`
record Listed (n p : ℕ) (m : Marking) (s : List ℕ) (at end : ℕ) (after : Marking) : Type 0 where
  first : ℕ
  from : ℕ
  read : figure s at ≡ got first from
  ends : end ≡ (many spaced_figure s from).1
  rows : after ≡ marked_all n p m (first ∷ (many spaced_figure s from).0)

module _ {n p : ℕ} {m : Marking} {s : List ℕ} {at end : ℕ} {after : Marking} (l : Listed n p m s at end after) where
  unclosed : lit_bytes (bytes ")") s end ≡ fail → opened s at ≡ fail
  unfolding opened
  unclosed e = rw (l.read, ← l.ends, e)

  closed : {next : ℕ} → lit_bytes (bytes ")") s end ≡ got tt next → PlaceFound n p m (opened s at) next after
  unfolding opened
  closed e = record { place = l.first ∷ (many spaced_figure s l.from).0; read = rw (l.read, ← l.ends, e); rows = l.rows }

  answered : (r : Option ℕ) → r ≡ as_literal (lit_bytes (bytes ")") s end) → PlaceRead n p m (opened s at) r after
  unfolding PlaceRead
  answered None e = unclosed (literal_missing _ e refl)
  answered (Some next) e = closed (literal_got _ e refl)

pub returns-in_err-first : goal.returns-in_err-first
unfolding PlaceRead
returns-in_err-first c = rw c.from_residual.ensures (bare c.args.s.now c.args.at (figure_missing _ c.read_figure.ensures c.in_err-first.was))

pub returns : goal.returns
unfolding marked_all
returns c =
    let l : Listed c.args.n c.args.p (marking c.args.marks.now) c.args.s.now c.args.at c.mark_states-end.result (marking c.mark_states-end.new.marks) =
    record {
      first = c.in_ok-first.first.value;
      from = c.in_ok-first.first.next;
      read = figure_got _ c.read_figure.ensures c.in_ok-first.was;
      ends = c.mark_states-end.ensures.next_value;
      rows = c.mark_states-end.ensures.row_after ∙ rw c.mark.ensures;
    } in
    answered l c.read_literal.result c.read_literal.ensures

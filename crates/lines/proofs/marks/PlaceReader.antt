-- The reader of a place: it goes on, and finds what the reader behind the bracket finds.
use Prim.Native.Nat.{ℕ}
use native.Mathlib.Omega.{arith}
use mathlib.Core.Path.{◌≡◌}
use mathlib.Core.Bool.{true}
use mathlib.Core.List.{List, ◌∷◌}
use lib.ListN.{drop}
use Rattle.model.specs.Bytes.{bytes, starts}
use Rattle.model.specs.Reading.{fail, got, after, lit_bytes, many}
use Rattle.model.specs.Form.{spaced_figure, place}
use Rattle.model.proofs.Laws.{T_true}
use Rattle.model.proofs.Words.{by, guarded}
use Rattle.lexer.proofs.Loops.{Moves, many_reach}
use Rattle.lexer.proofs.Moves.{moves_literal, moves_figure, moves_spaced_figure, moves_then}
use Rattle.lines.specs.Marking.{opened}

-- the rest of a place whose first state is x
moves_rest : (x : ℕ) → Moves (λ s at. after (lit_bytes (bytes ")") s (many spaced_figure s at).1) (λ _ k. got (x ∷ (many spaced_figure s at).0) k))
moves_rest x =
    record {
      on = λ s at l next e.
          let end = (many spaced_figure s at).1 in
          by (lit_bytes (bytes ")") s end) (λ _ k. got (x ∷ (many spaced_figure s at).0) k) e λ _ m e1 e2.
          let p = (moves_literal (bytes ")") (omega arith)).on s end tt m e1 in
          let q : m ≡ next = cc in
          (omega (arith, many_reach moves_spaced_figure s at), omega arith);
    }

pub moves_place : Moves place
unfolding place
moves_place = moves_then (moves_literal (bytes " (") (omega arith)) (λ _. moves_then moves_figure moves_rest)

-- the bracket of a place stands at a position, to `a`
pub record Bracket (s : List ℕ) (at a : ℕ) : Type 0 where
  pub read : lit_bytes (bytes " (") s at ≡ got tt a

pub place_none : (s : List ℕ) (at : ℕ) → lit_bytes (bytes " (") s at ≡ fail → place s at ≡ fail
unfolding place
place_none s at e = rw e

module _ {s : List ℕ} {at a : ℕ} (b : Bracket s at a) where
  pub place_opened : place s at ≡ opened s a
  unfolding place opened
  place_opened = rw b.read

  pub bracket_starts : starts (bytes " (") (drop at s) ≡ true
  bracket_starts = guarded (starts (bytes " (") (drop at s)) b.read λ t _ _. T_true (starts (bytes " (") (drop at s)) t

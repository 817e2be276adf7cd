-- The readers go on and stay within the text, since what they find is written there.
use Prim.Native.Nat.{ℕ, ◌+◌, ◌<◌, ◌≤◌}
use native.Mathlib.Omega.{arith}
use mathlib.Core.Path.{◌≡◌, ap}
use mathlib.Core.Bool.{not, ◌&&◌, ◌||◌}
use mathlib.Core.List.{List, ◌++◌}
use lib.Dec.{leb, eqb, leb→le}
use lib.ListN.{length, get_or, drop, length-append, length-drop}
use Rattle.model.specs.Bytes.{bytes, is_figure, digits, Name, IsName}
use Rattle.model.specs.Reading.{got, Reader, after, lit_bytes, figure, name}
use Rattle.model.specs.Form.{spaced_figure, spaced_name}
use Rattle.model.proofs.Laws.{and_l}
use Rattle.model.proofs.Words.{then, by, ReaderSound, digits_figure, lit_sound, figure_sound, name_sound}
use Rattle.lexer.proofs.Loops.{Moves}

-- a reader of something that is written in a byte or more
pub moves_written : {A : Type 0} (r : Reader A) (W : A → List ℕ) (Ok : A → Type 0) → ReaderSound r W Ok → ((x : A) → Ok x → 0 < length (W x)) → Moves r
moves_written r W Ok sound least =
    record {
      on = λ s at x next e.
          let (o, p) = sound s at x next e in
          omega (arith, least x o, length-append (W x) (drop next s), length-drop at s, length-drop next s, ap length p.bytes, p.moved);
    }

-- one reader after another
pub moves_then : {A B : Type 0} {r : Reader A} {q : A → Reader B} → Moves r → ((a : A) → Moves (q a)) → Moves (λ s at. after (r s at) (λ a next. q a s next))
moves_then {r = r} {q = q} mr mq =
    record {
      on = λ s at b next e.
          by (r s at) (λ a m. q a s m) e λ a m e1 e2.
          let x = mr.on s at a m e1 in
          let y = (mq a).on s m b next e2 in
          (omega arith, y.1);
    }

pub moves_literal : (w : List ℕ) → 0 < length w → Moves (lit_bytes w)
moves_literal w h = moves_written (lit_bytes w) (λ _. w) (λ _. Unit {0}) (λ s at x next e. (tt, lit_sound w s at x next e)) (λ _ _. h)

pub moves_figure : Moves figure
unfolding is_figure
moves_figure =
    moves_written figure digits (λ n. n ≤ 999) figure_sound λ n h.
    let w = digits n in
    leb→le 1 (length w) (and_l (leb 1 (length w)) (leb (length w) 3 && (eqb (length w) 1 || not (eqb (get_or w 0 0) 48))) (digits_figure n h).fine)

pub moves_name : Moves name
moves_name = moves_written name (λ e. e) IsName name_sound (λ e n. n.least)

space : Moves (lit_bytes (bytes " "))
space = moves_literal (bytes " ") (omega arith)

pub moves_spaced_figure : Moves spaced_figure
unfolding spaced_figure
moves_spaced_figure = moves_then space (λ _. moves_figure)

pub moves_spaced_name : Moves spaced_name
unfolding spaced_name
moves_spaced_name = moves_then space (λ _. moves_name)

-- a space and a name stand there
pub spaced_name_sound : ReaderSound spaced_name (λ e. bytes " " ++ e) IsName
unfolding spaced_name
spaced_name_sound s at e next h =
    by (lit_bytes (bytes " ") s at) (λ _ m. name s m) h λ x m e1 e2.
    let (o, p) = name_sound s m e next e2 in
    (o, then (lit_sound (bytes " ") s at x m e1) p)

pub spaced_name_step : (s : List ℕ) (at : ℕ) (e : Name) (next : ℕ) → spaced_name s at ≡ got e next → next ≡ at + 1 + length e
spaced_name_step s at e next h = omega (arith, (spaced_name_sound s at e next h).1.moved)

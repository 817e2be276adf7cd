-- The model's loop over the lines, one round at a time: the end of the text, or a line and what it leaves.
use Prim.Native.Nat.{ℕ, zero, suc, ◌+◌, ◌<◌, ◌≤◌}
use native.Mathlib.Omega.{arith}
use mathlib.Core.Path.{◌≡◌, refl, sym}
use mathlib.Core.Logic.{◌⊎◌, inl, inr}
use mathlib.Core.Bool.{Bool, true, false, cond, ◌&&◌}
use mathlib.Core.List.{List, [], ◌∷◌, ◌++◌}
use mathlib.Core.Option.{none}
use lib.Dec.{leb}
use borrow.Author.Tests.{le-leb, lt-leb}
use lib.ListN.{length}
use Rattle.model.specs.Refusal.{refuse, Checked, refused, need, ◌>>◌}
use Rattle.model.specs.Reading.{fail, got}
use Rattle.model.specs.Lists.{exists}
use Rattle.model.specs.Form.{Line, states, events, machine, written, is_machine_line, step_line, machine_line, line_after}
use Rattle.model.specs.Text.{Input, in_limit, is_declared, next_line, ended, line_then, lines_from, read}
use Rattle.model.proofs.Laws.{order}
use Rattle.model.proofs.Lines.{Fits, line_fits, LineRead, line_sound, written_positive}
use Rattle.lexer.proofs.Loops.{Moves}
use Rattle.lexer.proofs.Moves.{moves_written}
use Rattle.reader.specs.Sections.{Rest}

-- one of two tests fails
pub and_not : (a b : Bool) → (a && b) ≡ false → (a ≡ false) ⊎ (b ≡ false)
and_not true b e = inr e
and_not false b e = inl refl

pub rest_start : (s : List ℕ) → length s ≤ 32768 → Rest s [] 0 (read s)
unfolding read
rest_start s h = rw (le-leb (length s) 32768 h) (record { inside = omega arith; fuel = suc (length s); enough = omega arith; same = refl })

-- the loop's next round
record Round (s : List ℕ) (ls : List Line) (at : ℕ) (c : Checked Input) : Type 0 where
  left : ℕ
  enough : length s ≤ left + at
  same : cond (leb (length s) at) (ended ls) (line_then ls (line_after ls s at) (lines_from left s)) ≡ c

round : {s : List ℕ} {ls : List Line} {at : ℕ} {c : Checked Input} (k : ℕ) → at ≤ length s → length s < k + at → lines_from k s ls at ≡ c → Round s ls at c
unfolding lines_from
round zero h f e = absurd (omega arith)
round (suc k) h f e = record { left = k; enough = omega arith; same = e }

module _ {s : List ℕ} {ls : List Line} {at : ℕ} {c : Checked Input} (r : Rest s ls at c) where
  here : Round s ls at c
  here = round r.fuel r.inside r.enough r.same

  pub rest_end : length s ≤ at → c ≡ ended ls
  rest_end h = sym (rw (le-leb (length s) at h) at here.same)

  line_next : at < length s → line_then ls (line_after ls s at) (lines_from here.left s) ≡ c
  line_next h = rw (lt-leb (length s) at h) at here.same

  -- no line that may follow stands there
  pub rest_fail : at < length s → line_after ls s at ≡ fail → c ≡ refused (refuse 1 (suc (length ls)) 0)
  unfolding line_then
  rest_fail h e = sym (rw e at (line_next h))

  -- the first two lines may not be missing either
  pub rest_none : length ls < 2 → line_after ls s at ≡ fail → c ≡ refused (refuse 1 (suc (length ls)) 0)
  unfolding ended
  rest_none few e = go (order at (length s))
    where
      go : (at < length s) ⊎ (length s ≤ at) → c ≡ refused (refuse 1 (suc (length ls)) 0)
      go (inl h) = rest_fail h e
      go (inr h) = rw (lt-leb 2 (length ls) few) at (rest_end h)

  module _ {l : Line} {next : ℕ} (g : line_after ls s at ≡ got l next) where
    found : LineRead ls s at l next
    found = line_sound ls s at l next r.inside g

    -- a line is a byte or more
    pub before_end : at < length s
    before_end = omega (arith, found.moved, found.inside, written_positive l)

    checks : (need (refuse 2 (next_line ls) 0) (in_limit ls l) >> (need (refuse 3 (next_line ls) 0) (is_declared ls l) >> lines_from here.left s (ls ++ (l ∷ [])) next)) ≡ c
    unfolding line_then
    checks = rw g at (line_next before_end)

    pub rest_limit : in_limit ls l ≡ false → c ≡ refused (refuse 2 (suc (length ls)) 0)
    rest_limit p = sym (rw p at checks)

    pub rest_undeclared : in_limit ls l ≡ true → is_declared ls l ≡ false → c ≡ refused (refuse 3 (suc (length ls)) 0)
    rest_undeclared p q = sym (rw (p, q) at checks)

    pub rest_more : in_limit ls l ≡ true → is_declared ls l ≡ true → Rest s (ls ++ (l ∷ [])) next c
    rest_more p q =
        record {
          inside = found.inside;
          fuel = here.left;
          enough = omega (arith, found.moved, written_positive l, here.enough);
          same = rw (p, q) at checks;
        }

-- a line is a byte or more
line_moves : (ls : List Line) → Moves (line_after ls)
line_moves ls = moves_written (line_after ls) written (Fits ls) (line_fits ls) (λ l _. written_positive l)

pub step_moves : (s : List ℕ) (at : ℕ) {l : Line} {next : ℕ} → step_line s at ≡ got l next → (at < next) × (next ≤ length s)
unfolding line_after exists is_machine_line
step_moves s at {l} {next} g = (line_moves (states 0 none ∷ events [] ∷ [])).on s at l next (rw g)

pub machine_moves : (s : List ℕ) (at : ℕ) {l : Line} {next : ℕ} → machine_line s at ≡ got l next → (at < next) × (next ≤ length s)
unfolding line_after exists is_machine_line
machine_moves s at {l} {next} g = (line_moves (states 0 none ∷ events [] ∷ machine [] ∷ [])).on s at l next g

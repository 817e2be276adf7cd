-- A call that lends a list, whatever its entries are, by whether what it writes fits.
use Prim.Native.Nat.{ℕ, ◌+◌, ◌<◌, ◌≤◌}
use native.Mathlib.Omega.{arith}
use mathlib.Core.Path.{◌≡◌, refl, ◌∙◌}
use mathlib.Core.List.{List, ◌++◌}
use borrow.Author.Tests.{le-leb, lt-leb}
use lib.ListN.{length, drop}
use lib.Seq.{sets, sets-eq}
use Rattle.std.specs.Prelude.{Result, Ok, Err}
use Rattle.model.specs.declared.Refusal as D
use Rattle.model.specs.declared.Refusal.TheVariants.{BufferTooShort}
use Rattle.model.specs.Cases.{tabled}
use Rattle.model.specs.Refusal.{refuse, refused, passed}
use Rattle.model.specs.Services.{lend}
use Rattle.answers.specs.Answers.{answered}

module _ {A : Type 0} (xs out : List A) where
  pub lent_all : length xs ≤ length out → lend (passed xs) out ≡ record { answer = passed (length xs); left = xs ++ drop (length xs) out }
  unfolding lend
  lent_all l = rw (le-leb (length xs) (length out) l)

  pub lent_none : length out < length xs → lend (passed xs) out ≡ record { answer = refused (refuse 13 (length xs) 0); left = out }
  unfolding lend
  lent_none l = rw (lt-leb (length xs) (length out) l)

-- a lent buffer that is long enough begins with what is written, and goes on as it was
pub lent : (out xs : List ℕ) → length xs ≤ length out → sets out 0 xs ≡ xs ++ drop (length xs) out
lent out xs h = let z : 0 + length xs ≡ length xs = omega arith in sets-eq xs out 0 (omega arith) ∙ rw z

-- bytes, by whether they fit
module _ (out xs : List ℕ) (size : ℕ) (e : size ≡ length xs) where
  -- this is what lending answers and leaves
  abbrev pub Lends : Result ℕ D.Refusal → List ℕ → Type 0
  Lends a left = (answered a ≡ (lend (passed xs) out).answer) × (left ≡ (lend (passed xs) out).left)

  pub lends_short : length out < size → Lends (Err (BufferTooShort size)) out
  unfolding answered tabled
  lends_short l = rw (lent_none xs out (rw e at l), e) (refl, refl)

  pub lends_written : (left : List ℕ) → size ≤ length out → left ≡ sets out 0 xs → Lends (Ok size) left
  unfolding answered
  lends_written left l w = let fits = rw e at l in rw (lent_all xs out fits, e) (refl, w ∙ lent out xs fits)

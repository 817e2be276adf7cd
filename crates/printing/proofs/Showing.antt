-- What is written at the beginning of a buffer of 32,768 bytes is shown there; so is a refusal's line, and 13 where too little is lent.
use Prim.Native.Nat.{ℕ, ◌<◌, ◌≤◌}
use native.Mathlib.Omega.{arith}
use mathlib.Core.Path.{◌≡◌, subst, ◌∙◌}
use mathlib.Core.List.{List}
use borrow.Author.Tests.{le-leb, lt-leb}
use lib.ListN.{length}
use lib.Seq.{take_at}
use Rattle.model.specs.declared.Refusal.TheVariants.{BufferTooShort}
use Rattle.model.specs.Bytes.{numeral}
use Rattle.model.specs.Cases.{tabled}
use Rattle.model.specs.Refusal.{Refusal, refuse}
use Rattle.model.specs.Services.{written_refusal}
use Rattle.model.specs.Printed.{printed_by, fitting}
use Rattle.writers.specs.Written.{Writes}
use Rattle.writers.proofs.Writing.{writes_length}
use Rattle.writers.proofs.Refusals.{refusal_fits}
use Rattle.answers.proofs.Lending.{lent}
use Rattle.printing.specs.Shown.{Shows}

pub shows_written : {word out left : List ℕ} {n : ℕ} → Writes word 0 out n left → length word ≤ length out → length out ≡ 32768 → Shows word n left
shows_written {word} {out} {left} {n} w fits h =
    record {
      size = omega (arith, w.after);
      shown = rw (w.bytes_left, lent out word fits) (take_at word _ n (omega (arith, w.after)));
      buffer = writes_length w ∙ h;
    }

-- the same bytes, whatever they are called
pub shows_same : {word other left : List ℕ} {n : ℕ} → word ≡ other → Shows word n left → Shows other n left
shows_same {left = left} {n} e w = subst (λ (x : List ℕ). Shows x n left) e w

-- the line of any refusal
pub shows_refusal : {number detail second n : ℕ} {r : Refusal} {out left : List ℕ} → length out ≡ 32768 → refuse number detail second ≡ r
    → Writes (written_refusal (refuse number detail second)) 0 out n left → Shows (written_refusal r) n left
shows_refusal {number} {detail} {second} {n} {r} {out} {left} h q w =
    subst (λ (x : Refusal). Shows (written_refusal x) n left) q (shows_written w (omega (arith, refusal_fits number detail second)) h)

-- a number and its copy have one numeral
pub writes_copy : {n r at next : ℕ} {out left : List ℕ} → r ≡ n → Writes (numeral r) at out next left → Writes (numeral n) at out next left
writes_copy {at = at} {next} {out} {left} e w = subst (λ (x : ℕ). Writes (numeral x) at out next left) e w

-- what is printed where a list is lent so much room
module _ {A : Type 0} (f : List A → List ℕ) (lent : ℕ) (xs : List A) where
  pub printed_short : {n : ℕ} → n ≡ length xs → lent < n → written_refusal (tabled (BufferTooShort n)) ≡ printed_by f (fitting lent xs)
  unfolding tabled printed_by fitting
  printed_short e l = rw (e, lt-leb (length xs) lent (omega arith))

  pub printed_all : length xs ≤ lent → f xs ≡ printed_by f (fitting lent xs)
  unfolding printed_by fitting
  printed_all l = rw (le-leb (length xs) lent l)

-- The line of the machines that are kept, by what Thin answers.
use Prim.Native.Nat.{ℕ, ◌≤◌}
use mathlib.Core.Path.{◌≡◌, ap, ap₂, sym, ◌∙◌, subst}
use mathlib.Core.List.{List, ◌++◌}
use lib.ListN.{length}
use Rattle.model.specs.declared.Refusal as D
use Rattle.model.specs.Cases.{tabled}
use Rattle.model.specs.Refusal.{Refusal, Checked, refused, passed, ◌>>=◌}
use Rattle.model.specs.Bytes.{bytes, numeral}
use Rattle.model.specs.Text.{Input, system}
use Rattle.model.specs.Services.{as_far_as12, written_refusal, Kept, kept_of, thin}
use Rattle.model.specs.Printed.{printed_by, joined, kept_line, printed_thin}
use Rattle.model.proofs.Order.{Verdict, turned_down, let_through}
use Rattle.model.proofs.Texts.{limits_of}
use Rattle.model.proofs.Verdicts.{verdict12, refused_passed, same_refused, same_passed}
use Rattle.model.proofs.Refusing.{thin_is}
use Rattle.model.proofs.Kept.{kept_length}
use Rattle.irredundant.specs.Kept.{set_number}
use Rattle.std.specs.Prelude.{Ok, Err}
use Rattle.thin_service.specs.Answers.{thinned, numbered_set}
use Rattle.printing.specs.Shown.{kept_below}
use Rattle.printing.proofs.Kept.{marked_kept}

-- the line with the machines as a number
unfoldable pub set_line : ℕ → ℕ → List ℕ
set_line machines size = bytes "(kept " ++ (numeral size ++ (bytes " (" ++ (joined (kept_below machines 16) ++ bytes "))\n")))

-- what Thin comes to, with as many marks as machines
data Comes (s : List ℕ) : Type 0 where
  stopped : (r : Refusal) → thin s ≡ refused r → Comes s
  kept : (k : Kept) → thin s ≡ passed k → length k.marks ≤ 16 → Comes s

comes : (s : List ℕ) → Comes s
unfolding thin kept_of
comes s = go (verdict12 s)
  where
    go : Verdict 12 s (as_far_as12 s) → Comes s
    go (turned_down r e f) = stopped r (ap (λ (c : Checked Input). c >>= λ v. passed (kept_of v)) e)
    go (let_through v e p) =
        kept (kept_of v) (thin_is s v e) (subst (λ (n : ℕ). n ≤ 16) (sym (kept_length (system v) v.machines)) (limits_of s v p.reads).machines_most)

print_as : (s : List ℕ) {c : Checked Kept} → thin s ≡ c → printed_thin s ≡ printed_by kept_line c
unfolding printed_thin
print_as s e = ap (printed_by kept_line) e

pub thin_refused : (s : List ℕ) (why : D.Refusal) → thinned (Err why) ≡ numbered_set (thin s) → printed_thin s ≡ written_refusal (tabled why)
unfolding thinned numbered_set printed_by
thin_refused s why h = go (comes s)
  where
    go : Comes s → printed_thin s ≡ written_refusal (tabled why)
    go (stopped r e) = print_as s e ∙ ap written_refusal (sym (same_refused {A = ℕ × ℕ} (tabled why) r (h ∙ ap numbered_set e)))
    go (kept k e few) = absurd (refused_passed {A = ℕ × ℕ} (tabled why) (set_number k.marks, k.size) (h ∙ ap numbered_set e))

pub thin_kept : (s : List ℕ) (machines size : ℕ) → thinned (Ok (record { machines = machines; size = size })) ≡ numbered_set (thin s) → printed_thin s ≡ set_line machines size
unfolding thinned numbered_set printed_by kept_line set_line
thin_kept s machines size h = go (comes s)
  where
    go : Comes s → printed_thin s ≡ set_line machines size
    go (stopped r e) = absurd (refused_passed {A = ℕ × ℕ} r (machines, size) (sym (h ∙ ap numbered_set e)))
    go (kept k e few) =
        let q = same_passed {A = ℕ × ℕ} (machines, size) (set_number k.marks, k.size) (h ∙ ap numbered_set e) in
        let m : machines ≡ set_number k.marks = ap (λ (x : ℕ × ℕ). x.0) q in
        let n : size ≡ k.size = ap (λ (x : ℕ × ℕ). x.1) q in
        print_as s e
        ∙ ap₂ (λ (w : List ℕ) (x : ℕ). bytes "(kept " ++ (numeral x ++ (bytes " (" ++ (joined w ++ bytes "))\n"))))
        (sym (ap (λ (x : ℕ). kept_below x 16) m ∙ marked_kept k.marks few)) (sym n)

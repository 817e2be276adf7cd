-- `lines::marks::Marks::mark` meets its contract: each way out is a case of `marked`.
use Prim.Native.Nat.{ℕ, min}
use mathlib.Core.Path.{◌≡◌, sym, ◌∙◌}
use mathlib.Core.Bool.{cond}
use lib.Dec.{ltb}
use Rattle.std.proofs.Common.{arith}
use Rattle.std.proofs.lemmas.Bool.Decides.{nat_tests}
use Rattle.lines.proofs.marks.Marked.{marked_out, marked_fresh, marked_again}
use Rattle.lines.proofs.marks.Marks.mark.Goals as goal

lower : (d x : ℕ) → min d x ≡ cond (ltb x d) x d
lower d x = grind (arith, nat_tests)

pub returns-then-n-x : goal.returns-then-n-x
returns-then-n-x c = sym (marked_out _ _ _ _ c.if-n-x.true)

pub returns-then-self-x : goal.returns-then-self-x
returns-then-self-x c = sym (marked_fresh _ _ _ _ c.if-n-x.false c.if-self-x.true)

pub returns-else-self-x : goal.returns-else-self-x
returns-else-self-x c =
    let e : c.min-self.result ≡ cond (ltb c.args.x c.args.self.now.duplicate) c.args.x c.args.self.now.duplicate = c.min-self.ensures ∙ lower _ _ in
    (λ i. record { declared = c.args.self.now.declared; duplicate = e i; row = c.args.self.now.row }) ∙ sym (marked_again _ _ _ _ c.if-n-x.false c.if-self-x.false)

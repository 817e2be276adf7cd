-- What a verdict says: whether it refuses, and what was refused or passed by a check that has the same refusal.
use mathlib.Core.Path.{◌≡◌, refl, ap, sym, ◌∙◌}
use mathlib.Core.Option.{none, some, some-ne-none, some-injective}
use Rattle.model.specs.declared.Refusal as D
use Rattle.model.specs.Cases.{tabled}
use Rattle.model.specs.Refusal.{Refusal, Checked, refused, passed, refusal_of}
use Rattle.std.specs.Prelude.{Result, Ok, Err}
use Rattle.rows.specs.Tables.{verdict_refusal}

-- a verdict that refuses is none that lets pass
pub refuses : {A : Type 0} (why : D.Refusal) → verdict_refusal (Err why) ≡ none → A
unfolding verdict_refusal
refuses why h = absurd (some-ne-none (tabled why) h)

pub lets_pass : {r : Result (Unit {0}) D.Refusal} {u : Unit {0}} → r ≡ Ok u → verdict_refusal r ≡ none
unfolding verdict_refusal
lets_pass e = ap verdict_refusal e

-- what passed, if nothing is refused
pub was_passed : {A : Type 0} (c : Checked A) → refusal_of c ≡ none → (a : A) × (c ≡ passed a)
was_passed (refused r) e = absurd (some-ne-none r e)
was_passed (passed a) e = (a, refl)

pub was_refused : {A : Type 0} (c : Checked A) (r : Refusal) → refusal_of c ≡ some r → c ≡ refused r
was_refused (refused q) r e = ap refused (some-injective q r e)
was_refused (passed a) r e = absurd (some-ne-none r (sym e))

-- what a verdict refuses is refused
pub refused_as : {A : Type 0} {c : Checked A} {r : Result (Unit {0}) D.Refusal} {why : D.Refusal} → verdict_refusal r ≡ refusal_of c → r ≡ Err why → c ≡ refused (tabled why)
unfolding verdict_refusal
refused_as {c = c} h e = was_refused c _ (sym h ∙ ap verdict_refusal e)

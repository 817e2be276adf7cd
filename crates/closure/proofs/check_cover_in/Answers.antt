-- 11 by the rows, 12 by the sets. The laws are in `Cover`.
use mathlib.Core.Path.{refl}
use Rattle.model.specs.Cases.{tabled}
use Rattle.rows.specs.Tables.{verdict_refusal}
use Rattle.closure.proofs.Cover.{cover_refused, cover_passed, no_pass}
use Rattle.closure.proofs.check_cover_in.Goals as goal

pub returns-in-Some : goal.returns-in-Some
unfolding verdict_refusal tabled
returns-in-Some c = record { cover_judged = cover_refused _ _ c.ineffective_event.ensures _ c.in-Some.is refl; place_sets = no_pass _ }

pub returns : goal.returns
returns c = record { cover_judged = cover_passed _ _ c.ineffective_event.ensures c.in_default.is c.add_states.ensures c.check_closed.ensures; place_sets = λ _. c.add_states.ensures }

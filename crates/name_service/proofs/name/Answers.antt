-- `name_service::name` meets its contract: the part that `name_part` ensures, cut out of the caller's text.
use mathlib.Core.Path.{refl}
use borrow.Author.Rules.{rules}
use Rattle.name_service.specs.Parts.{part_in}
use Rattle.name_service.proofs.Naming.{cut}
use Rattle.name_service.proofs.name.Goals as goal

pub returns-in-Ok : goal.returns-in-Ok
unfolding part_in
returns-in-Ok c = cut c.in-Ok.ensures refl refl (search rules)

pub returns-in-Err : goal.returns-in-Err
unfolding part_in
returns-in-Err c = cut c.in-Err.ensures refl refl (search rules)

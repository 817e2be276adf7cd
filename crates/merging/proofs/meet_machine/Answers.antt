-- `merging::meet_machine` meets its contract: the unions begin with none.
use mathlib.Core.Path.{refl}
use Rattle.merging.proofs.Uniting.{no_unions}
use Rattle.merging.proofs.meet_machine.Goals as goal

pub unite-requires : goal.unite-requires
unite-requires c =
    let p = c.requires in
    (p.0, p.1, p.3, p.4, no_unions 256 refl _ _ _)

-- `writers::write_figure` meets its contract: three digits are stored, of which the last ones stay. The law is in `Figures`.
use native.Mathlib.Omega.{arith}
use Rattle.writers.proofs.Figures.{figure_stored}
use Rattle.writers.proofs.write_figure.Goals as goal

pub returns : goal.returns
returns c =
    figure_stored _ _ _ _ _ _ _ _ (omega arith) (omega arith) _ _ _ _
    c.count_off-hundreds.ensures
    c.count_off-tens.ensures
    (omega arith)
    (omega arith)
    (omega arith)

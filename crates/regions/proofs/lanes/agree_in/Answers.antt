-- `agree_in` meets its contract. The laws are in `Columns` and `Putting`.
use Rattle.std.proofs.Common.{◌∙◌, sym}
use Rattle.regions.proofs.lanes.Columns.{alike_lanes}
use Rattle.regions.proofs.lanes.Putting.{moves_put}
use Rattle.regions.proofs.lanes.agree_in.Goals as goal

pub returns : goal.returns
returns c =
    let counts = c.args.plan.now.counts in
    let q = c.requires.comparable in
    let lanes = c.transpose.ensures.lane c.if-not-transpose.false in
    let few = c.requires.machines_bound.0 in
    record {
      rows = c.put_moves.ensures.rows;
      alike = λ _. alike_lanes counts q lanes _ few c.first_uneven.ensures (sym c.is_some.ensures ∙ c.if-is_some.false);
      moves = λ _. moves_put counts q lanes few c.put_moves.ensures;
    }

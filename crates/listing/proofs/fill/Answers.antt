-- `listing::fill` meets its contract: the records are filled one after another. The laws are in `Filling`.
use mathlib.Core.Path.{refl}
use Rattle.std.proofs.Common.{arith}
use Rattle.listing.specs.Records.{first_records, filled}
use Rattle.listing.proofs.Filling.{filled_more}
use Rattle.listing.proofs.fill.Goals as goal

pub loop-i-init : goal.loop-i-init
unfolding filled first_records
loop-i-init c = record { within = omega arith; filled_so_far = refl }

pub loop-i-preserved : goal.loop-i-preserved
loop-i-preserved c =
    record {
      within = omega arith;
      filled_so_far = rw (c.record_at.ensures, c.loop-i.invariant.filled_so_far) (filled_more c.args.numbers.now c.loop-i.i c.args.out.now (omega arith));
    }

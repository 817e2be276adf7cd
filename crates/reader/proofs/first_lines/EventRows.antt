-- The rows that an events line leaves.
use Prim.Native.Nat.{ℕ, ◌≤◌}
use native.Mathlib.Omega.{arith}
use mathlib.Core.Path.{◌≡◌, ap}
use Rattle.model.specs.Reading.{Parsed}
use Rattle.model.specs.Form.{Line}
use Rattle.lines.specs.declared.EventsLine.{EventsLine}
use Rattle.rows.specs.Rows.{row}
use Rattle.lines.specs.Lines.{spots, names_from, EventRows, with_names}
use Rattle.lines.proofs.Found.{GotEvents}
use Rattle.names.specs.Held.{PackedNames}
use Rattle.reader.specs.Sections.{no_names}

-- the rows that an events line leaves in them
module _ {o : Parsed Line} {at : ℕ} {r : EventsLine} {before after : EventRows} (g : GotEvents o at r before after) (fresh : before ≡ no_names) where
  stored : after ≡ with_names (names_from at) no_names g.names
  stored = rw fresh at g.rows

  pub events_rows : r.count ≤ 64 → PackedNames g.names r.count after.lengths after.highs after.lows
  unfolding with_names row
  events_rows few =
      record {
        counted = g.counted;
        most = omega (arith, g.counted);
        names = g.each;
        lengths = ap (λ (x : EventRows). x.lengths) stored;
        high = ap (λ (x : EventRows). x.highs) stored;
        low = ap (λ (x : EventRows). x.lows) stored;
      }

  pub events_placed : after.placed ≡ row 64 0 (spots (names_from at) g.names)
  unfolding with_names row
  events_placed = ap (λ (x : EventRows). x.placed) stored

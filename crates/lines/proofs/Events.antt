-- The loop that reads the names of an events line and stores each in four rows.
use Prim.Native.Nat.{ℕ, suc, ◌+◌, ◌-◌, ◌<◌, ◌≤◌}
use native.Mathlib.Numerals.{add-one}
use native.Mathlib.Omega.{arith}
use mathlib.Core.Path.{◌≡◌, refl, ap, sym, ◌∙◌}
use mathlib.Core.List.{List, [], ◌∷◌, map}
use lib.ListN.{length, set, length-set}
use lib.Seq.{sets, set_out}
use Rattle.std.specs.Prelude.{Some, None}
use Rattle.model.specs.Bytes.{bytes, Name}
use Rattle.model.specs.Reading.{Parsed, fail, got, lit_bytes, many}
use Rattle.model.specs.Form.{Line, events, spaced_name, events_line}
use Rattle.model.proofs.Words.{lit_sound}
use Rattle.lexer.specs.Words.{high, low}
use Rattle.lexer.specs.declared.NameAt.{NameAt}
use Rattle.lexer.specs.declared.PackedName.{PackedName}
use Rattle.lexer.proofs.Answers.{GotName}
use Rattle.lexer.proofs.Loops.{Items, items_none, items_more, items_end}
use Rattle.lexer.proofs.Moves.{moves_spaced_name, spaced_name_step}
use Rattle.lines.specs.Lines.{spots, names_from, EventRows, event_rows, FullRows, with_names, as_events, StoresNames}
use Rattle.lines.specs.Marking.{as_names}
use Rattle.lines.specs.declared.EventsLine.{EventsLine}

-- where the loop stands: how many names it has, its position in the text, and the rows
pub record Filling : Type 0 where
  pub count : ℕ
  pub place : ℕ
  pub rows : EventRows

-- the same where the names that lie ahead are stored too
unfoldable pub filled : Filling → List Name × ℕ → Filling
filled b r =
    record {
      count = b.count + length r.0;
      place = r.1;
      rows =
          event_rows
          (sets b.rows.placed b.count (spots b.place r.0))
          (sets b.rows.lengths b.count (map length r.0))
          (sets b.rows.highs b.count (map high r.0))
          (sets b.rows.lows b.count (map low r.0));
    }

abbrev pub filling : ℕ → ℕ → List ℕ → List ℕ → List ℕ → List ℕ → Filling
filling count place spot long first others = record { count = count; place = place; rows = event_rows spot long first others }

-- the loop began with a and has b: with the names that lie ahead it has what a has with all names
pub record Naming (s : List ℕ) (a b : Filling) : Type 0 where
  pub items : Items spaced_name filled s (filled a (many spaced_name s a.place)) b b.place
  pub full : FullRows b.rows
  pub counted : b.count ≤ b.place

pub names_start : {s : List ℕ} {a : Filling} → a.count ≡ 0 → FullRows a.rows → Naming s a a
names_start {s} {a} z r = record { items = items_none spaced_name filled s a a.place; full = r; counted = omega arith }

module _ {s : List ℕ} {a b : Filling} (inv : Naming s a b) where
  -- one name more
  module _ {f : NameAt} (g : GotName (spaced_name s b.place) f) where
    step : f.next ≡ b.place + 1 + length g.name
    step = spaced_name_step s b.place g.name f.next g.read

    long : f.name.«len» ≡ length g.name
    long = ap (λ (p : PackedName). p.«len») g.told

    -- the next position lies ahead and in the text, behind the name
    pub name_reach : (b.place < f.next) × (f.next ≤ length s) × (f.name.«len» ≤ f.next)
    name_reach = let m = moves_spaced_name.on s b.place g.name f.next g.read in (m.0, m.1, omega (arith, step, long))

    abbrev stored : Filling
    stored =
        filling (b.count + 1) f.next (set b.rows.placed b.count (f.next - f.name.«len»)) (set b.rows.lengths b.count f.name.«len»)
        (set b.rows.highs b.count f.name.high) (set b.rows.lows b.count f.name.low)

    more : (es : List Name) (end : ℕ) → filled b (g.name ∷ es, end) ≡ filled stored (es, end)
    unfolding filled spots
    more es end =
        let n : b.count + suc (length es) ≡ b.count + 1 + length es = omega arith in
        let p : f.next - f.name.«len» ≡ b.place + 1 = omega (arith, step, long) in
        rw (n, p, g.told, step, add-one b.count)

    pub names_more : Naming s a stored
    names_more =
        record {
          items = items_more moves_spaced_name inv.items g.name f.next g.read stored more;
          full =
              record {
                placed_full = simp length-set inv.full.placed_full;
                lengths_full = simp length-set inv.full.lengths_full;
                highs_full = simp length-set inv.full.highs_full;
                lows_full = simp length-set inv.full.lows_full;
              };
          counted = omega (arith, step);
        }

    -- past the rows' end nothing is stored
    pub names_past : 64 ≤ b.count → Naming s a (record { count = b.count + 1; place = f.next; rows = b.rows })
    names_past out =
        rw (
          set_out b.rows.placed b.count (f.next - f.name.«len») (omega (arith, inv.full.placed_full)),
          set_out b.rows.lengths b.count f.name.«len» (omega (arith, inv.full.lengths_full)),
          set_out b.rows.highs b.count f.name.high (omega (arith, inv.full.highs_full)),
          set_out b.rows.lows b.count f.name.low (omega (arith, inv.full.lows_full)),
        ) at names_more

  -- no name is left: what the code promises of its answer and of its rows
  module _ (z : a.count ≡ 0) (e : spaced_name s b.place ≡ fail) where
    whole : filled b ([], b.place) ≡ filled a (many spaced_name s a.place)
    whole = items_end inv.items e

    abbrev names : List Name
    names = (many spaced_name s a.place).0

    pub names_end : (record { count = b.count; next = b.place } ≡ as_names (many spaced_name s a.place)) × (b.rows ≡ with_names a.place a.rows names)
    unfolding filled as_names spots with_names
    names_end =
        let n : b.count ≡ length names = omega (arith, ap (λ (f : Filling). f.count) whole) in
        let p : b.place ≡ (many spaced_name s a.place).1 = ap (λ (f : Filling). f.place) whole in
        (rw (n, p) refl, (rw z at (ap (λ (f : Filling). f.rows) whole)))

-- an events line from its parts: the code stands at a behind "(events", and r is its answer to the names
module _ (s : List ℕ) (at a : ℕ) {r : EventsLine} (e : lit_bytes (bytes "(events") s at ≡ got tt a) (n : r ≡ as_names (many spaced_name s a)) where
  end : (many spaced_name s a).1 ≡ r.next
  unfolding as_names
  end = sym (ap (λ (f : EventsLine). f.next) n)

  pub events_none : lit_bytes (bytes ")\n") s r.next ≡ fail → events_line s at ≡ fail
  unfolding events_line
  events_none h = simp (e, end, h)

  module _ {next : ℕ} (h : lit_bytes (bytes ")\n") s r.next ≡ got tt next) where
    line : events_line s at ≡ got (events (many spaced_name s a).0) next
    unfolding events_line
    line = simp (e, end, h)

    pub events_are : Some (record { count = r.count; next = next }) ≡ as_events (events_line s at)
    unfolding as_events as_names
    events_are = let c : r.count ≡ length (many spaced_name s a).0 = ap (λ (f : EventsLine). f.count) n in simp (line, c)

    pub events_stored : {before after : EventRows} → after ≡ with_names a before (many spaced_name s a).0 → StoresNames at (events_line s at) before after
    unfolding names_from
    events_stored w =
        record {
          stored = λ es m g.
              let l : ◌≡◌ {A = Parsed Line} (got (events (many spaced_name s a).0) next) (got (events es) m) = sym line ∙ g in
              let i : (many spaced_name s a).0 ≡ es = cc in
              let j : at + 7 ≡ a = sym (lit_sound (bytes "(events") s at tt a e).moved in
              rw (j, ← i) w;
        }

-- where no events line stands nothing is asked of the rows
pub none_stored : {at : ℕ} {o : Parsed Line} {before after : EventRows} → o ≡ fail → (None ≡ as_events o) × StoresNames at o before after
unfolding as_events
none_stored e = (sym (ap as_events e), record { stored = λ es m g. cc })

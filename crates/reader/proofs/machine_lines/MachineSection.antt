-- The section of machine lines: what is read so far, and what each way out of the loop promises.
use Prim.Native.Nat.{ℕ, ◌+◌, ◌-◌, ◌*◌, ◌<◌, ◌≤◌}
use native.Mathlib.Omega.{arith}
use mathlib.Core.Path.{◌≡◌, refl, ap, sym, ◌∙◌}
use mathlib.Core.Logic.{◌⊎◌, inl, inr, ⊎_elim}
use mathlib.Core.Bool.{true, false, ◌&&◌, and-eq-true_iff}
use mathlib.Core.List.{List, [], ◌∷◌, ◌++◌, flat_map, append-nil}
use mathlib.Core.Option.{Option}
use lib.Dec.{ltb, leb}
use borrow.Author.Tests.{ltb-true, ltb-false, leb-true, leb-false}
use lib.ListN.{length, set, length-append}
use lib.Seq.{sets}
use borrow.Rule.Slice.PartMut.{put_mid}
use Rattle.model.specs.Refusal.{Checked, refused}
use Rattle.model.specs.declared.Refusal.TheVariants as C
use Rattle.model.specs.declared.Refusal as D
use Rattle.model.specs.Cases.{tabled}
use Rattle.model.specs.Machine.{Machine}
use Rattle.model.specs.Bytes.{Name}
use Rattle.model.specs.Reading.{fail}
use Rattle.model.specs.Form.{step_line, machine_line}
use Rattle.model.specs.Text.{Input}
use Rattle.rows.proofs.Telling.{row_of, length_rows}
use Rattle.model.proofs.ListLaws.{flat_map_append}
use Rattle.model.proofs.Values.{Named, lines}
use Rattle.lines.specs.declared.MachineLine.{MachineLine}
use Rattle.lines.specs.Lines.{duplicate_mark, all_below}
use Rattle.model.proofs.ListLaws.{sets_append}
use Rattle.rows.proofs.Rows.{length_place_row}
use Rattle.lines.proofs.Found.{GotMachine}
use Rattle.std.specs.Prelude.{Ok, Err}
use Rattle.reader.specs.Sections.{Rest, begun, MachineRows, machine_rows, with_machines, ReadsMachines}
use Rattle.reader.proofs.Rest.{and_not}
use Rattle.reader.proofs.Stores.{stored}
use Rattle.model.proofs.ListLaws.{store}
use Rattle.reader.proofs.Phases.{machines_none, machines_end, machine_fail, machine_many, machine_places, machine_undeclared, machine_more}

pub record Machines (s : List ℕ) (n : ℕ) (o : Option ℕ) (es : List Name) (ts : List Named) (c : Checked Input) (k i : ℕ) (before now : MachineRows) : Type 0 where
  pub machines : List Machine
  pub rest : Rest s (lines n o es ts machines) i c
  pub last : length machines ≡ 0 → step_line s i ≡ fail
  pub counted : k ≡ length machines
  pub rows : now ≡ with_machines n before machines

-- the loop over the machine lines has k of them and stands at i
pub record SoFar (s : List ℕ) (at n line : ℕ) (before : MachineRows) (k i : ℕ) (now : MachineRows) : Type 0 where
  pub most : k ≤ 16
  pub states : n ≤ 256
  pub early : line ≤ 1027
  pub so_far : (o : Option ℕ) (es : List Name) (ts : List Named) (c : Checked Input) → line ≡ 3 + length ts → step_line s at ≡ fail → Rest s (begun n o es ts) at c
      → Machines s n o es ts c k i before now

pub machines_start : {s : List ℕ} {at n line : ℕ} {before : MachineRows} → n ≤ 256 → line ≤ 1027 → SoFar s at n line before 0 at before
unfolding with_machines flat_map
machines_start h l =
    record {
      most = omega arith;
      states = h;
      early = l;
      so_far = λ o es ts c p f r. record { machines = []; rest = r; last = λ _. f; counted = refl; rows = refl };
    }

-- one row more in the table
store_row : (now before : List ℕ) (ms : List Machine) (m : Machine) (k : ℕ) (row : List ℕ) → now ≡ sets before 0 (flat_map row_of ms) → k ≡ length ms
    → row ≡ row_of m → sets now (k * 256) row ≡ sets before 0 (flat_map row_of (ms ++ (m ∷ [])))
unfolding flat_map
store_row now before ms m k row e c p =
    let i : k * 256 ≡ 0 + length (flat_map row_of ms) = omega (arith, length_rows ms) in
    let j : row ++ [] ≡ row = append-nil row in
    sym (ap (sets before 0) (flat_map_append row_of ms (m ∷ [])) ∙ sets_append before 0 (flat_map row_of ms) (row_of m ++ []) ∙ cc (sym e, sym i, sym p, j))

pub within_both : (k p : ℕ) → (ltb k 16 && leb p 64) ≡ true → (k < 16) × (p ≤ 64)
within_both k p e = let (a, b) = (and-eq-true_iff (ltb k 16) (leb p 64)).0 e in (ltb-true k 16 a, leb-true p 64 b)

within_not : (k p : ℕ) → (ltb k 16 && leb p 64) ≡ false → (16 ≤ k) ⊎ (64 < p)
within_not k p e = ⊎_elim (λ a. inl (ltb-false k 16 a)) (λ b. inr (leb-false p 64 b)) (and_not (ltb k 16) (leb p 64) e)

module _ {s : List ℕ} {at n line : ℕ} {before : MachineRows} {k i : ℕ} {now : MachineRows} (z : SoFar s at n line before k i now) where
  -- the line that stands next is refused
  section_stop : (why : D.Refusal) → ((o : Option ℕ) (es : List Name) (ts : List Named) (c : Checked Input) → line ≡ 3 + length ts → Machines s n o es ts c k i before now
      → c ≡ refused (tabled why)) → ReadsMachines s at n line (Err why) before now
  section_stop why f = λ o es ts c p l r. f o es ts c p (z.so_far o es ts c p l r)

  -- the end of the text
  pub section_none : length s ≤ i → k ≡ 0 → ReadsMachines s at n line (Err (C.LimitExceeded line)) before now
  unfolding tabled
  section_none h e = section_stop (C.LimitExceeded line) (λ o es ts c p t. machines_none ts t.machines t.rest t.counted p h e)

  pub section_end : length s ≤ i → (k ≡ 0 → ⊥) → ReadsMachines s at n line (Ok k) before now
  section_end h e = λ o es ts c p l r.
      let t = z.so_far o es ts c p l r in
      record { machines = t.machines; whole = machines_end ts t.machines t.rest t.counted p h (omega (arith, e)); counted = t.counted; rows = t.rows }

  -- no machine line stands next
  pub section_malformed : i < length s → machine_line s i ≡ fail → ReadsMachines s at n line (Err (C.Malformed (line + k))) before now
  unfolding tabled
  section_malformed h e = section_stop (C.Malformed (line + k)) (λ o es ts c p t. machine_fail ts t.machines t.rest t.counted p t.last h e)

  module _ {m : MachineLine} (g : GotMachine n (machine_line s i) m) where
    pub section_limit : (ltb k 16 && leb m.places 64) ≡ false → ReadsMachines s at n line (Err (C.LimitExceeded (line + k))) before now
    unfolding tabled
    section_limit e = section_stop (C.LimitExceeded (line + k)) (λ o es ts c p t. go o es ts c p t (within_not k m.places e))
      where
        go : (o : Option ℕ) (es : List Name) (ts : List Named) (c : Checked Input) → line ≡ 3 + length ts → Machines s n o es ts c k i before now → (16 ≤ k) ⊎ (64 < m.places)
            → c ≡ refused (tabled (C.LimitExceeded (line + k)))
        go o es ts c p t (inl h) = machine_many ts t.machines t.rest t.counted p t.last g.read h
        go o es ts c p t (inr h) = machine_places ts t.machines t.rest t.counted p t.last g.read (omega (arith, g.counted))

    module _ (w : (ltb k 16 && leb m.places 64) ≡ true) where
      small : length g.listed ≤ 64
      small = omega (arith, within_both k m.places w, g.counted)

      pub section_undeclared : m.declared ≡ false → ReadsMachines s at n line (Err (C.Undeclared (line + k))) before now
      unfolding tabled
      section_undeclared e =
          section_stop (C.Undeclared (line + k))
          (λ o es ts c p t. machine_undeclared ts t.machines t.rest t.counted p t.last g.read (within_both k m.places w).0 small (sym g.all_declared ∙ e))

      module _ (e : m.declared ≡ true) where
        declared : all_below n g.listed ≡ true
        declared = sym g.all_declared ∙ e

        pub section_room : (k < 16) × (length m.row ≡ 256)
        section_room = ((within_both k m.places w).0, ap length (g.row_is small declared) ∙ length_place_row g.listed)

        -- its row, copied to its place in the table
        pub section_place : {part : List ℕ} → part ≡ m.row → length now.places ≡ 4096
            → put_mid (k * 256) (k * 256 + 256 - k * 256) now.places part ≡ sets now.places (k * 256) m.row
        section_place p l =
            ap (put_mid (k * 256) (k * 256 + 256 - k * 256) now.places) p
            ∙ stored now.places m.row (k * 256) (k * 256 + 256 - k * 256) (omega (arith, section_room.1)) (omega (arith, section_room.0))

        -- it is within its limits and declared, and its numbers are stored
        pub section_more : {table : List ℕ} → table ≡ sets now.places (k * 256) m.row
            → SoFar s at n line before (k + 1) m.next (machine_rows (set now.sizes k m.places) (set now.duplicate k m.duplicate) table)
        unfolding with_machines
        section_more {table} q =
            record {
              most = omega (arith, section_room);
              states = z.states;
              early = z.early;
              so_far = λ o es ts c p l r.
                  let t = z.so_far o es ts c p l r in
                  let ms = t.machines in
                  let x : Machine = record { places = g.listed } in
                  record {
                    machines = ms ++ (x ∷ []);
                    rest = machine_more ts ms t.rest t.counted p t.last g.read section_room.0 small declared;
                    last = λ o. absurd (omega (arith, length-append ms (x ∷ [])));
                    counted = omega (arith, length-append ms (x ∷ []), t.counted);
                    rows = λ o.
                        machine_rows
                        (store (λ (u : Machine). length u.places) now.sizes before.sizes ms x k m.places (ap (λ (y : MachineRows). y.sizes) t.rows) t.counted g.counted o)
                        (store (λ (u : Machine). duplicate_mark n u.places) now.duplicate before.duplicate ms x k m.duplicate (ap (λ (y : MachineRows). y.duplicate) t.rows) t.counted
                        (g.duplicate_is small declared) o)
                        ((q ∙ store_row now.places before.places ms x k m.row (ap (λ (y : MachineRows). y.places) t.rows) t.counted (g.row_is small declared)) o);
                  };
            }

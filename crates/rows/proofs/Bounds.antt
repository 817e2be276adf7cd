-- What passing 1 to 3 leaves: the limits of the value, and from them the bounds of the tables, with each name inside the text.
use Prim.Native.Nat.{ℕ, ◌+◌, ◌<◌, ◌≤◌}
use native.Mathlib.Omega.{arith}
use mathlib.Core.Path.{◌≡◌, ap}
use mathlib.Core.List.{List, map, Memᴰ}
use lib.ListN.{length, take, drop, length-take, length-drop}
use Rattle.model.specs.Refusal.{passed}
use Rattle.model.specs.TransitionSystem.{Transition}
use Rattle.model.specs.Machine.{Machine}
use Rattle.model.specs.Text.{Input, Limits, name_at, read}
use Rattle.model.specs.Table.{Reads}
use Rattle.model.proofs.Positions.{below_at, at_mem}
use Rattle.model.proofs.Texts.{limits_of}
use Rattle.model.proofs.Naming.{name_part}
use Rattle.model.proofs.Verdicts.{read_iff}
use Rattle.rows.specs.Rows.{row}
use Rattle.rows.proofs.Rows.{row_at}
use Rattle.rows.specs.Tables.{tables_of}
use Rattle.rows.specs.Told.{entry}
use Rattle.rows.specs.Bounded.{Bounded, NamesInside}
use Rattle.rows.proofs.Telling.{name_placed}

-- a bound that holds for each element holds for each entry in use
row_below : {A : Type 0} (f : A → ℕ) (n bound : ℕ) (xs : List A) → length xs ≤ n → ((x : A) → Memᴰ x xs → f x < bound)
    → (k : ℕ) → k < length xs → entry (row n 0 (map f xs)) k < bound
row_below f n bound xs most each k h = let (x, a) = below_at xs k h in rw (row_at f n 0 xs k x 0 most a) (each x (at_mem xs k x a))

-- a part that is found whole lies in the text; an empty one would be found anywhere
part_inside : (s w : List ℕ) (at : ℕ) → take (length w) (drop at s) ≡ w → 1 ≤ length w → at + length w ≤ length s
part_inside s w at e h = omega (arith, ap length e, length-take (length w) (drop at s), length-drop at s)

module _ (s : List ℕ) (v : Input) (r : Reads s v) where
  l : Limits v
  l = limits_of s v r

  value_bounded : Bounded (tables_of s v)
  unfolding tables_of
  value_bounded =
      record {
        states = l.states_most;
        initial = l.initial;
        events = l.names_most;
        names = λ e h. omega (arith, row_below length 64 17 v.names l.names_most (λ w m. omega (arith, (l.names w m).most)) e h);
        transitions = l.transitions_most;
        source = row_below (λ (t : Transition). t.source) 1024 v.states v.transitions l.transitions_most (λ t m. (l.transitions t m).source);
        event = row_below (λ (t : Transition). t.event) 1024 (length v.names) v.transitions l.transitions_most (λ t m. (l.transitions t m).event);
        target = row_below (λ (t : Transition). t.target) 1024 v.states v.transitions l.transitions_most (λ t m. (l.transitions t m).target);
        machines = l.machines_most;
        sizes = λ k h.
            omega
            (arith, row_below (λ (m : Machine). length m.places) 16 65 v.machines l.machines_most (λ m i. omega (arith, (l.machines m i).most)) k h);
      }

  value_names_inside : NamesInside s (tables_of s v).name_at (tables_of s v).name_len (tables_of s v).counts.events
  unfolding NamesInside tables_of
  value_names_inside e h =
      let (w, a) = below_at v.names e h in
      rw (name_placed s v r e h, row_at length 64 0 v.names e w 0 l.names_most a)
      (part_inside s w (name_at s v e) (name_part s v r e w a) (l.names w (at_mem v.names e w a)).least)

-- ---- of a text that passed

pub limits : (s : List ℕ) (v : Input) → read s ≡ passed v → Limits v
limits s v e = limits_of s v ((read_iff s v).0 e)

pub bounded : (s : List ℕ) (v : Input) → read s ≡ passed v → Bounded (tables_of s v)
bounded s v e = value_bounded s v ((read_iff s v).0 e)

pub names_inside : (s : List ℕ) (v : Input) → read s ≡ passed v → NamesInside s (tables_of s v).name_at (tables_of s v).name_len (tables_of s v).counts.events
names_inside s v e = value_names_inside s v ((read_iff s v).0 e)

-- The tables of a text that passed tell its value: the transition system, the names, and of each machine its places and the lowest state listed twice.
use Prim.Native.Nat.{ℕ, zero, suc, ◌+◌, ◌*◌, ◌<◌, ◌≤◌}
use native.Mathlib.Omega.{arith}
use borrow.Author.Tests.{ne_eqb}
use mathlib.Core.Path.{◌≡◌, refl, ap, ◌∙◌}
use mathlib.Core.Logic.{◌⊎◌, inl, inr}
use mathlib.Core.Bool.{Bool, true, false, not, cond}
use mathlib.Core.List.{List, [], ◌∷◌, map, flat_map, flatten}
use mathlib.Core.Option.{none, some, none-ne-some, some-injective}
use lib.Dec.{T, eqb}
use lib.ListN.{length, get_or, take, length-append, get_or-append}
use lib.Seq.{take-suc, take-length, get_or-append-add}
use Rattle.model.specs.Lists.{At, elem, lowest}
use Rattle.model.specs.Refusal.{passed}
use Rattle.model.specs.TransitionSystem.{Transition, TransitionSystem}
use Rattle.model.specs.Machine.{Place, Machine, duplicate_state}
use Rattle.model.specs.Machine as M
use Rattle.model.specs.Text.{Input, system, Limits, name_at, read}
use Rattle.model.specs.Table.{Reads}
use Rattle.model.proofs.Laws.{dec, T_true, T_false, exists_intro, Lowest, found, absent, lowest_view}
use Rattle.model.proofs.Positions.{at_below, below_at, at_mem, at_get_d, at_value, index_below}
use Rattle.model.proofs.Places.{home}
use Rattle.model.proofs.Passed.{machines_good}
use Rattle.model.proofs.Texts.{limits_of}
use Rattle.model.proofs.Naming.{name_part}
use Rattle.model.proofs.Verdicts.{read_iff}
use Rattle.rows.specs.Rows.{row, tabulate, place_mark, place_row, or_no_state}
use Rattle.rows.proofs.Rows.{get_d_row, row_at, get_d_tabulate, length_tabulate, get_d_place_row, length_place_row}
use Rattle.rows.specs.declared.Tables.{Tables}
use Rattle.rows.specs.Tables.{tables_of}
use Rattle.rows.specs.Told.{entry, first_transitions, system_of, name_of, or_none, place_at, duplicate_at, MachineTold, MachinesTold, Told}

-- ---- marks as options

-- a state that is listed has the number of a place
pub place_below : (ps : List Place) (x : ℕ) → T (elem x (flatten ps)) → M.place_in ps x < length ps
unfolding M.place_in
place_below ps x t = let h = home ps x t in index_below (elem x) ps (exists_intro (elem x) ps h.place h.listed h.holds)

place_option : (ps : List Place) (x : ℕ) → length ps ≤ 64 → or_none 255 (place_mark ps x) ≡ cond (elem x (flatten ps)) (some (M.place_in ps x)) none
unfolding or_none place_mark
place_option ps x h = go (dec (elem x (flatten ps)))
  where
    go : T (elem x (flatten ps)) ⊎ T (not (elem x (flatten ps))) → or_none 255 (place_mark ps x) ≡ cond (elem x (flatten ps)) (some (M.place_in ps x)) none
    go (inl t) = rw (T_true (elem x (flatten ps)) t, ne_eqb (M.place_in ps x) 255 (λ e. omega (arith, place_below ps x t)))
    go (inr t) = rw (T_false (elem x (flatten ps)) t)

-- read back: an entry that is not the mark is the number itself
option_entry : (mark x z : ℕ) → or_none mark x ≡ some z → x ≡ z
unfolding or_none
option_entry mark x z e = go (eqb x mark) e
  where
    go : (b : Bool) → cond b none (some x) ≡ some z → x ≡ z
    go true q = absurd (none-ne-some z q)
    go false q = some-injective x z q

-- of a state that the machine lists the row has the number of its place
pub placed_at :
    {ts : TransitionSystem} {p : Tables} {k : ℕ} {m : Machine} → MachineTold ts p k m → (x : ℕ) → x < 256 → T (elem x (flatten m.places))
    → entry p.place (k * 256 + x) ≡ M.place_of m x
unfolding place_at
placed_at {p = p} {k} {m} told x h t =
    option_entry 255 (entry p.place (k * 256 + x)) (M.place_of m x) (told.place x h ∙ rw (T_true (elem x (flatten m.places)) t))

-- a machine that passes 9 lists every state, so the row has the place of each
pub told_place :
    {ts : TransitionSystem} {p : Tables} {ms : M.Decomposition} → MachinesTold ts p ms → M.machines_refusal ts 0 ms ≡ none → ts.states ≤ 256
    → (k i : ℕ) (m : Machine) → At ms k m → i < ts.states → entry p.place (k * 256 + i) ≡ M.place_of m i
told_place {ts} {ms = ms} told passes small k i m a l =
    placed_at (told.machine k m a) i (omega arith) ((machines_good ts 0 ms passes m (at_mem ms k m a)).base.placed i l)

state_option : (f : ℕ → Bool) (n : ℕ) → n ≤ 256 → or_none 256 (or_no_state (lowest f n)) ≡ lowest f n
unfolding or_none or_no_state
state_option f n h = go (lowest_view f n)
  where
    go : Lowest f n → or_none 256 (or_no_state (lowest f n)) ≡ lowest f n
    go (found k q b t u) = rw (q, ne_eqb k 256 (λ e. omega arith))
    go (absent q u) = rw q

abbrev pub row_of : Machine → List ℕ
row_of m = place_row m.places

-- so many machines have so many entries
pub length_rows : (ms : List Machine) → length (flat_map row_of ms) ≡ length ms * 256
unfolding flat_map
length_rows [] = refl
length_rows (m ∷ ms) = omega (arith, length-append (row_of m) (flat_map row_of ms), length_place_row m.places, length_rows ms)

-- entry x of the row of machine k
rows_at : (ms : List Machine) (k : ℕ) (m : Machine) (x d : ℕ) → At ms k m → x < 256 → get_or (flat_map row_of ms) (k * 256 + x) d ≡ get_or (row_of m) x d
unfolding flat_map
rows_at [] k m x d a h = absurd (none-ne-some m a)
rows_at (y ∷ ms) zero m x d a h =
    let z : 0 * 256 + x ≡ x = omega arith in
    rw (z, ← some-injective y m a) (get_or-append (row_of y) (flat_map row_of ms) d x (omega (arith, length_place_row y.places)))
rows_at (y ∷ ms) (suc k) m x d a h =
    let z : suc k * 256 + x ≡ length (row_of y) + (k * 256 + x) = omega (arith, length_place_row y.places) in
    rw z (get_or-append-add (row_of y) (flat_map row_of ms) (k * 256 + x) d ∙ rows_at ms k m x d a h)

-- ---- the tables of a text and its value

module _ (s : List ℕ) (v : Input) (r : Reads s v) where
  l : Limits v
  l = limits_of s v r

  transitions_told : (k : ℕ) → k ≤ length v.transitions → first_transitions (tables_of s v).source (tables_of s v).event (tables_of s v).target k ≡ take k v.transitions
  unfolding first_transitions tables_of
  transitions_told zero h = refl
  transitions_told (suc k) h =
      let ts = v.transitions in
      let (t, a) = below_at ts k (omega arith) in
      let same : (f : Transition → ℕ) → entry (row 1024 0 (map f ts)) k ≡ f t = λ f. row_at f 1024 0 ts k t 0 l.transitions_most a in
      rw (take-suc ts k t, at_value ts k t t a, transitions_told k (omega arith), same (λ u. u.source), same (λ u. u.event), same (λ u. u.target))

  system_told : system_of (tables_of s v) ≡ system v
  unfolding system_of tables_of
  system_told = rw (transitions_told (length v.transitions) (omega arith), take-length v.transitions)

  pub name_placed : (e : ℕ) → e < length v.names → entry (tables_of s v).name_at e ≡ name_at s v e
  unfolding tables_of
  name_placed e h =
      let n = length v.names in
      get_d_row 64 0 (tabulate (name_at s v) n) e 0 (omega (arith, length_tabulate (name_at s v) n)) (omega (arith, length_tabulate (name_at s v) n, l.names_most))
      ∙ get_d_tabulate (name_at s v) n e 0 h

  name_told : (e : ℕ) → e < length v.names → name_of s (tables_of s v) e ≡ get_or v.names e []
  unfolding name_of tables_of
  name_told e h =
      let w = get_or v.names e [] in
      let a : At v.names e w = at_get_d v.names e [] h in
      let size : entry (row 64 0 (map length v.names)) e ≡ length w = row_at length 64 0 v.names e w 0 l.names_most a in
      rw (size, name_placed e h) (name_part s v r e w a)

  machine_told : (k : ℕ) (m : Machine) → At v.machines k m → MachineTold (system v) (tables_of s v) k m
  unfolding duplicate_at place_at duplicate_state tables_of
  machine_told k m a =
      let ms = v.machines in
      let b : k < length ms = at_below ms k m a in
      record {
        places = row_at (λ (u : Machine). length u.places) 16 0 ms k m 0 l.machines_most a;
        duplicate =
            ap (or_none 256) (row_at (λ (u : Machine). or_no_state (duplicate_state (system v) u)) 16 256 ms k m 0 l.machines_most a)
            ∙ state_option _ v.states l.states_most;
        place = λ x h.
            ap (or_none 255)
            (get_d_row 4096 255 (flat_map row_of ms) (k * 256 + x) 0 (omega (arith, length_rows ms)) (omega (arith, length_rows ms, l.machines_most))
            ∙ rows_at ms k m x 0 a h
            ∙ get_d_place_row m.places x 0 h)
            ∙ place_option m.places x (l.machines m (at_mem ms k m a)).most;
      }

  value_told : Told s v (tables_of s v)
  unfolding tables_of
  value_told =
      record {
        tells_system = system_told;
        name_place = name_placed;
        name = name_told;
        tells_machines = record { counted = refl; machine = machine_told };
      }

-- what the tables tell of a text that passed is its value
pub told : (s : List ℕ) (v : Input) → read s ≡ passed v → Told s v (tables_of s v)
told s v e = value_told s v ((read_iff s v).0 e)

-- ---- what is told of the transition system, part by part

module _ {s : List ℕ} {v : Input} {p : Tables} (told : Told s v p) where
  pub told_events : p.counts.events ≡ length v.names
  unfolding system_of
  told_events = ap (λ (t : TransitionSystem). t.events) told.tells_system

  pub told_initial : p.counts.initial ≡ v.initial
  unfolding system_of
  told_initial = ap (λ (t : TransitionSystem). t.initial) told.tells_system

  pub told_transitions : first_transitions p.source p.event p.target p.counts.transitions ≡ v.transitions
  unfolding system_of
  told_transitions = ap (λ (t : TransitionSystem). t.transitions) told.tells_system

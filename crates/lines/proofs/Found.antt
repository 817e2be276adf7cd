-- From the code's answer back to the line that stands there. A reader of one kind of line finds no other kind.
use Prim.Native.Nat.{ℕ, ◌≤◌}
use mathlib.Core.Path.{◌≡◌, refl, ap, sym, subst}
use mathlib.Core.Bool.{Bool, true, false, cond, and-eq-true_iff}
use mathlib.Core.List.{List, ◌∷◌, ◌++◌, Memᴰ}
use mathlib.Core.Option.{Option, none}
use lib.Dec.{leb}
use lib.ListN.{length}
use borrow.Author.Tests.{le-leb}
use Rattle.std.specs.Prelude.{Some, None}
use Rattle.std.specs.Prelude as Std
use Rattle.model.specs.Machine.{Place}
use Rattle.model.specs.Bytes.{bytes, Name, IsName}
use Rattle.model.specs.Reading.{Parsed, fail, got, after, give, instead, either, lit_bytes, figure, name, items}
use Rattle.model.specs.Form.{Line, states, events, step, machine, start_of, start_given, states_line, spaced_name, events_line, step_line, place, machine_line}
use Rattle.model.proofs.Words.{name_sound, items_sound}
use Rattle.lexer.specs.Words.{packed_name}
use Rattle.lexer.specs.declared.FigureAt.{FigureAt}
use Rattle.lexer.proofs.Moves.{spaced_name_sound}
use Rattle.rows.specs.Rows.{place_row}
use Rattle.lines.specs.Lines.{as_given, as_states, names_from, EventRows, with_names, as_events, StoresNames, as_step, duplicate_mark, all_below, has_row, without_row, machine_row, as_machine}
use Rattle.lines.specs.declared.StatesLine.{StatesLine}
use Rattle.lines.specs.declared.EventsLine.{EventsLine}
use Rattle.lines.specs.declared.StepLine.{StepLine}
use Rattle.lines.specs.declared.MachineLine.{MachineLine}

-- a line of the kind K, or none
data Only {A : Type 0} (K : A → Line) (Ok : A → Type 0) (o : Parsed Line) : Type 0 where
  missed : o ≡ fail → Only K Ok o
  read : (a : A) (n : ℕ) → o ≡ got (K a) n → Ok a → Only K Ok o

only_after : {A B : Type 0} {K : A → Line} {Ok : A → Type 0} (o : Parsed B) (f : B → ℕ → Parsed Line)
    → ((b : B) (n : ℕ) → o ≡ got b n → Only K Ok (f b n)) → Only K Ok (after o f)
only_after fail f h = missed refl
only_after (got b n) f h = h b n refl

which : {A C : Type 0} {K : A → Line} {Ok : A → Type 0} {o : Parsed Line} → Only K Ok o → (o ≡ fail → C)
    → ((a : A) (n : ℕ) → o ≡ got (K a) n → Ok a → C) → C
which (missed e) f g = f e
which (read a n e h) f g = g a n e h

module _ (s : List ℕ) (at : ℕ) where
  states_only_lem : Only (λ (x : ℕ × Option ℕ). states x.0 x.1) (λ _. Unit {0}) (states_line s at)
  unfolding states_line
  states_only_lem =
      only_after (lit_bytes (bytes "(states ") s at) _ λ _ m _.
      only_after (figure s m) _ λ n k _.
      only_after (either start_given (give none) s k) (λ o l. after (lit_bytes (bytes ")\n") s l) (λ _ next. got (states n o) next)) λ o l _.
      only_after (lit_bytes (bytes ")\n") s l) _ λ _ next _.
      read (n, o) next refl tt

  events_only : Only events (λ es. (e : Name) → Memᴰ e es → IsName e) (events_line s at)
  unfolding events_line
  events_only =
      only_after (lit_bytes (bytes "(events") s at) _ λ _ m _.
      only_after (items spaced_name s m) _ λ es k h.
      only_after (lit_bytes (bytes ")\n") s k) _ λ _ next _.
      read es next refl (items_sound spaced_name (λ e. bytes " " ++ e) IsName spaced_name_sound s m es k h).0

  step_only : Only (λ (x : ℕ × Name × ℕ). step x.0 x.1 x.2) (λ x. IsName x.1) (step_line s at)
  unfolding step_line
  step_only =
      only_after (lit_bytes (bytes "(step ") s at) _ λ _ m _.
      only_after (figure s m) _ λ a k _.
      only_after (lit_bytes (bytes " ") s k) _ λ _ l _.
      only_after (name s l) _ λ e i h.
      only_after (lit_bytes (bytes " ") s i) _ λ _ j _.
      only_after (figure s j) _ λ b p _.
      only_after (lit_bytes (bytes ")\n") s p) _ λ _ next _.
      read (a, e, b) next refl (name_sound s l e i h).0

  machine_only : Only machine (λ _. Unit {0}) (machine_line s at)
  unfolding machine_line
  machine_only =
      only_after (lit_bytes (bytes "(machine") s at) _ λ _ m _.
      only_after (place s m) _ λ p k _.
      only_after (items place s k) _ λ ps l _.
      only_after (lit_bytes (bytes ")\n") s l) _ λ _ next _.
      read (p ∷ ps) next refl tt

-- the code's answers
pub record GotStart (o : Parsed (Option ℕ)) (r : FigureAt) : Type 0 where
  pub given : Option ℕ
  pub read : o ≡ got given r.next
  pub start : start_of given ≡ r.value

pub start_got : (at : ℕ) (o : Parsed (Option ℕ)) {r : FigureAt} → r ≡ as_given at o → GotStart (instead o (got none at)) r
unfolding as_given
start_got at fail p = rw p (record { given = none; read = refl; start = refl })
start_got at (got o next) p = rw p (record { given = o; read = refl; start = refl })

-- line 1 gives this start, or none and it is 0
pub record GotStates (o : Parsed Line) (w : StatesLine) : Type 0 where
  pub start : Option ℕ
  pub read : o ≡ got (states w.count start) w.next
  pub initial : start_of start ≡ w.start

module _ (s : List ℕ) (at : ℕ) {r : Std.Option StatesLine} (p : r ≡ as_states (states_line s at)) where
  pub states_got : {w : StatesLine} → r ≡ Some w → GotStates (states_line s at) w
  unfolding as_states
  states_got {w} q =
      which (states_only_lem s at) (λ e. let f = ap as_states e in cc) λ (m, o) l e _.
      let f = ap as_states e in
      let z : ◌≡◌ {A = StatesLine} (record { count = m; start = start_of o; next = l }) w = cc in
      subst (GotStates (states_line s at)) z (record { start = o; read = e; initial = refl })

  pub states_missing : r ≡ None → states_line s at ≡ fail
  unfolding as_states
  states_missing q = which (states_only_lem s at) (λ e. e) (λ m k e _. let f = ap as_states e in cc)

-- the event's name is told by its length and its two numbers
pub record GotStep (o : Parsed Line) (w : StepLine) : Type 0 where
  pub name : Name
  pub read : o ≡ got (step w.source name w.target) w.next
  pub is_name_lem : IsName name
  pub told : w.name ≡ packed_name name

module _ (s : List ℕ) (at : ℕ) {r : Std.Option StepLine} (p : r ≡ as_step (step_line s at)) where
  pub step_got : {w : StepLine} → r ≡ Some w → GotStep (step_line s at) w
  unfolding as_step
  step_got {w} q =
      which (step_only s at) (λ e. let f = ap as_step e in cc) λ (x, e, y) k g i.
      let f = ap as_step g in
      let z : ◌≡◌ {A = StepLine} (record { source = x; name = packed_name e; target = y; next = k }) w = cc in
      subst (GotStep (step_line s at)) z (record { name = e; read = g; is_name_lem = i; told = refl })

  pub step_missing : r ≡ None → step_line s at ≡ fail
  unfolding as_step
  step_missing q = which (step_only s at) (λ e. e) (λ m k e _. let f = ap as_step e in cc)

-- the line and what it leaves in the rows
pub record GotEvents (o : Parsed Line) (at : ℕ) (w : EventsLine) (before after : EventRows) : Type 0 where
  pub names : List Name
  pub read : o ≡ got (events names) w.next
  pub counted : w.count ≡ length names
  pub each : (e : Name) → Memᴰ e names → IsName e
  pub rows : after ≡ with_names (names_from at) before names

module _ (s : List ℕ) (at : ℕ) {r : Std.Option EventsLine} (p : r ≡ as_events (events_line s at)) where
  pub events_got : {before after : EventRows} {w : EventsLine} → StoresNames at (events_line s at) before after → r ≡ Some w
      → GotEvents (events_line s at) at w before after
  unfolding as_events
  events_got {before} {after} {w} stores q =
      which (events_only s at) (λ e. let f = ap as_events e in cc) λ es k e h.
      let f = ap as_events e in
      let z : ◌≡◌ {A = EventsLine} (record { count = length es; next = k }) w = cc in
      subst (λ (w : EventsLine). GotEvents (events_line s at) at w before after) z
      (record { names = es; read = e; counted = refl; each = h; rows = stores.stored es k e })

  pub events_missing : r ≡ None → events_line s at ≡ fail
  unfolding as_events
  events_missing q = which (events_only s at) (λ e. e) (λ es k e _. let f = ap as_events e in cc)

-- what a machine line with these places says
pub record GotMachine (n : ℕ) (o : Parsed Line) (r : MachineLine) : Type 0 where
  pub listed : List Place
  pub read : o ≡ got (machine listed) r.next
  pub counted : r.places ≡ length listed
  pub all_declared : r.declared ≡ all_below n listed
  -- within its limits
  pub duplicate_is : length listed ≤ 64 → all_below n listed ≡ true → r.duplicate ≡ duplicate_mark n listed
  pub row_is : length listed ≤ 64 → all_below n listed ≡ true → r.row ≡ place_row listed

module _ (n : ℕ) (ps : List Place) (k : ℕ) {o : Parsed Line} (e : o ≡ got (machine ps) k) where
  -- within its limits or not
  by_limits : (b : Bool) → has_row n ps ≡ b → GotMachine n o (cond b (machine_row n ps k) (without_row (length ps) (all_below n ps) k))
  unfolding has_row machine_row without_row
  by_limits true h =
      record {
        listed = ps;
        read = e;
        counted = refl;
        all_declared = sym ((and-eq-true_iff (leb (length ps) 64) (all_below n ps)).0 h).1;
        duplicate_is = λ _ _. refl;
        row_is = λ _ _. refl;
      }
  by_limits false h =
      let out : length ps ≤ 64 → all_below n ps ≡ true → ⊥ = λ l a. let w : has_row n ps ≡ true = rw (le-leb (length ps) 64 l, a) in cc in
      record {
        listed = ps;
        read = e;
        counted = refl;
        all_declared = refl;
        duplicate_is = λ l a. absurd (out l a);
        row_is = λ l a. absurd (out l a);
      }

module _ (n : ℕ) (s : List ℕ) (at : ℕ) {r : Std.Option MachineLine} (p : r ≡ as_machine n (machine_line s at)) where
  pub machine_got : {w : MachineLine} → r ≡ Some w → GotMachine n (machine_line s at) w
  unfolding as_machine
  machine_got {w} q =
      which (machine_only s at) (λ e. let f = ap (as_machine n) e in cc) λ ps k e _.
      let f = ap (as_machine n) e in
      let z : ◌≡◌ {A = MachineLine} (cond (has_row n ps) (machine_row n ps k) (without_row (length ps) (all_below n ps) k)) w = cc in
      subst (GotMachine n (machine_line s at)) z (by_limits n ps k e (has_row n ps) refl)

  pub machine_missing : r ≡ None → machine_line s at ≡ fail
  unfolding as_machine
  machine_missing q = which (machine_only s at) (λ e. e) (λ ps k e _. let f = ap (as_machine n) e in cc)

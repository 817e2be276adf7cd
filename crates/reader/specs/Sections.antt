-- What the inner functions promise of the lines read so far.
use Rattle.std.specs.Prelude.{ℕ, ◌+◌, ◌<◌, ◌≤◌, ◌≡◌, true, length, replicate, Result, Ok, Err}
use Rattle.std.specs.Prelude as Std
use mathlib.Core.List.{List, [], ◌∷◌, map, flat_map}
use Rattle.std.proofs.Math.Option.{Option}
use Rattle.std.proofs.lemmas.List.Edits.{sets}
use Rattle.model.specs.Refusal.{Checked, refused, passed}
use Rattle.model.specs.declared.Refusal as D
use Rattle.model.specs.Cases.{tabled}
use Rattle.model.specs.Machine.{Machine}
use Rattle.model.specs.Bytes.{Name}
use Rattle.model.specs.Reading.{fail, got}
use Rattle.model.specs.Form.{Line, states, step, start_of, states_line, step_line}
use Rattle.model.specs.Text.{Input, lines_from, event_number, value_of, distinct, read, line_two}
use Rattle.model.proofs.Values.{Named, lines}
use Rattle.rows.specs.Rows.{row, place_row}
use Rattle.lines.specs.Lines.{spots, duplicate_mark, EventRows, event_rows, names_from}
use Rattle.names.specs.Held.{PackedNames}
use Rattle.rows.specs.declared.Counts.{Counts}
use Rattle.rows.specs.declared.Tables.{Tables}
use Rattle.quick_step_line.specs.declared.QuickStep.{QuickStep}
use Rattle.reader.specs.declared.first_lines.States.{States}
use Rattle.reader.specs.declared.first_lines.Declared.{Declared}
use Rattle.reader.specs.declared.step_lines.Section.{Section}
use Rattle.rows.specs.Tables.{tables_in}

-- the rows hold these names, and none stands twice
pub record DistinctRows (es : List Name) (count : ℕ) (lens highs lows : List ℕ) : Type 0 where
  pub rows : PackedNames es count lens highs lows
  pub once : distinct es ≡ true

-- the rows hold names, none of them twice
pub record Declares (count : ℕ) (lens highs lows : List ℕ) : Type 0 where
  pub names : List Name
  pub held : DistinctRows names count lens highs lows

-- the lines from a position on, after these, come to c
pub record Rest (s : List ℕ) (ls : List Line) (at : ℕ) (c : Checked Input) : Type 0 where
  pub inside : at ≤ length s
  pub fuel : ℕ
  pub enough : length s < fuel + at
  pub same : lines_from fuel s ls at ≡ c

-- the states, the events and these steps
abbrev pub begun : ℕ → Option ℕ → List Name → List Named → List Line
begun n o es ts = lines n o es ts []

pub record TransitionRows : Type 0 where
  pub source : List ℕ
  pub event : List ℕ
  pub target : List ℕ

abbrev pub transition_rows : List ℕ → List ℕ → List ℕ → TransitionRows
transition_rows a b c = record { source = a; event = b; target = c }

abbrev pub rows_of_steps : Tables → TransitionRows
rows_of_steps p = transition_rows p.source p.event p.target

-- the same tables with other rows of steps
abbrev pub with_step_rows : Tables → TransitionRows → Tables
with_step_rows p r = tables_in p.counts p.name_at p.name_len r.source r.event r.target p.sizes p.duplicate p.place

unfoldable pub with_steps : List Name → TransitionRows → List Named → TransitionRows
with_steps es r ts =
    record {
      source = sets r.source 0 (map (λ (t : Named). t.source) ts);
      event = sets r.event 0 (map (λ (t : Named). event_number es t.event) ts);
      target = sets r.target 0 (map (λ (t : Named). t.target) ts);
    }

-- a step line at a position, after k others: its states are below n, and its event is number e of the names
pub record StepFound (s : List ℕ) (at n count : ℕ) (lens highs lows : List ℕ) (k a e b next : ℕ) : Type 0 where
  pub name : Name
  pub line : step_line s at ≡ got (step a name b) next
  pub room : k < 1024
  pub source : a < n
  pub event : e < count
  pub target : b < n
  pub number : (es : List Name) → DistinctRows es count lens highs lows → e ≡ event_number es name

-- one that is refused
pub record StepRefused (s : List ℕ) (at n count : ℕ) (lens highs lows : List ℕ) (k : ℕ) (why : D.Refusal) : Type 0 where
  pub stops : (o : Option ℕ) (es : List Name) (ts : List Named) (c : Checked Input) → DistinctRows es count lens highs lows → k ≡ length ts → Rest s (begun n o es ts) at c
      → c ≡ refused (tabled why)

-- the answer to a step line: none stands there, it is read, or it is refused
abbrev pub StepRead : List ℕ → ℕ → ℕ → ℕ → List ℕ → List ℕ → List ℕ → ℕ → Result (Std.Option QuickStep) D.Refusal → Type 0
StepRead s at n count lens highs lows k (Ok Std.None) = step_line s at ≡ fail
StepRead s at n count lens highs lows k (Ok (Std.Some q)) = StepFound s at n count lens highs lows k q.source q.event q.target q.next
StepRead s at n count lens highs lows k (Err why) = StepRefused s at n count lens highs lows k why

-- the states line is read, within the limits, and its start is a state
pub record StatesFound (s : List ℕ) (n k next : ℕ) : Type 0 where
  pub few : n ≤ 256
  pub start : Option ℕ
  pub initial : start_of start ≡ k
  pub line : states_line s 0 ≡ got (states n start) next
  pub ends : next ≡ line_two s
  pub rest : Rest s (states n start ∷ []) next (read s)

abbrev pub StatesRead : List ℕ → Result States D.Refusal → Type 0
StatesRead s (Err why) = read s ≡ refused (tabled why)
StatesRead s (Ok r) = StatesFound s r.count r.initial r.next

-- the rows before an events line is read
abbrev pub no_names : EventRows
no_names = event_rows (replicate 64 0) (replicate 64 0) (replicate 64 0) (replicate 64 0)

-- the events line is read, its names into rows
pub record EventsFound (s : List ℕ) (at n : ℕ) (o : Option ℕ) (c : Checked Input) (k next : ℕ) (after : EventRows) : Type 0 where
  pub names : List Name
  pub held : DistinctRows names k after.lengths after.highs after.lows
  pub placed : after.placed ≡ row 64 0 (spots (names_from at) names)
  pub rest : Rest s (begun n o names []) next c

abbrev pub EventsRead : List ℕ → ℕ → ℕ → Option ℕ → Checked Input → Result ℕ D.Refusal → ℕ → EventRows → Type 0
EventsRead s at n o c (Err why) k after = c ≡ refused (tabled why)
EventsRead s at n o c (Ok next) k after = EventsFound s at n o c k next after

-- an events line at a position, after n states: how many names there are then, and their rows
abbrev pub ReadsEvents : List ℕ → ℕ → Result ℕ D.Refusal → ℕ → EventRows → Type 0
ReadsEvents s at r k after = (n : ℕ) (o : Option ℕ) (c : Checked Input) → Rest s (states n o ∷ []) at c → EventsRead s at n o c r k after

-- the first two lines are read
pub record FirstFound (s : List ℕ) (d : Declared) (k : ℕ) (after : EventRows) : Type 0 where
  pub few : d.states ≤ 256
  pub start : Option ℕ
  pub initial : start_of start ≡ d.initial
  pub found : EventsFound s (line_two s) d.states start (read s) k d.next after

abbrev pub FirstRead : List ℕ → Result Declared D.Refusal → ℕ → EventRows → Type 0
FirstRead s (Err why) k after = read s ≡ refused (tabled why)
FirstRead s (Ok d) k after = FirstFound s d k after

-- the same tables with other rows of names
abbrev pub with_name_rows : Tables → List ℕ → List ℕ → Tables
with_name_rows p ats lens = tables_in p.counts ats lens p.source p.event p.target p.sizes p.duplicate p.place

-- step lines are read into rows, and no step line stands next
pub record StepsFound (s : List ℕ) (n : ℕ) (o : Option ℕ) (es : List Name) (c : Checked Input) (k next : ℕ) (before after : TransitionRows) : Type 0 where
  pub steps : List Named
  pub rest : Rest s (begun n o es steps) next c
  pub last : step_line s next ≡ fail
  pub counted : k ≡ length steps
  pub rows : after ≡ with_steps es before steps

abbrev pub StepsRead : List ℕ → ℕ → Option ℕ → List Name → Checked Input → Result Section D.Refusal → TransitionRows → TransitionRows → Type 0
StepsRead s n o es c (Err why) before after = c ≡ refused (tabled why)
StepsRead s n o es c (Ok r) before after = StepsFound s n o es c r.count r.next before after

-- step lines at a position, after n states and the names in the rows
abbrev pub ReadsSteps : List ℕ → ℕ → ℕ → ℕ → List ℕ → List ℕ → List ℕ → Result Section D.Refusal → TransitionRows → TransitionRows → Type 0
ReadsSteps s at n count lens highs lows r before after =
    (o : Option ℕ) (es : List Name) (c : Checked Input) → DistinctRows es count lens highs lows → Rest s (begun n o es []) at c → StepsRead s n o es c r before after

pub record MachineRows : Type 0 where
  pub sizes : List ℕ
  pub duplicate : List ℕ
  pub places : List ℕ

abbrev pub machine_rows : List ℕ → List ℕ → List ℕ → MachineRows
machine_rows a b c = record { sizes = a; duplicate = b; places = c }

abbrev pub rows_of_machines : Tables → MachineRows
rows_of_machines p = machine_rows p.sizes p.duplicate p.place

-- the same tables with other rows of machines
abbrev pub with_machine_rows : Tables → MachineRows → Tables
with_machine_rows p r = tables_in p.counts p.name_at p.name_len p.source p.event p.target r.sizes r.duplicate r.places

unfoldable pub with_machines : ℕ → MachineRows → List Machine → MachineRows
with_machines n r ms =
    record {
      sizes = sets r.sizes 0 (map (λ (m : Machine). length m.places) ms);
      duplicate = sets r.duplicate 0 (map (λ (m : Machine). duplicate_mark n m.places) ms);
      places = sets r.places 0 (flat_map (λ (m : Machine). place_row m.places) ms);
    }

-- machine lines are read into rows, to the end of the text
pub record MachinesFound (n : ℕ) (o : Option ℕ) (es : List Name) (ts : List Named) (c : Checked Input) (k : ℕ) (before after : MachineRows) : Type 0 where
  pub machines : List Machine
  pub whole : c ≡ passed (value_of (lines n o es ts machines))
  pub counted : k ≡ length machines
  pub rows : after ≡ with_machines n before machines

abbrev pub MachinesRead : ℕ → Option ℕ → List Name → List Named → Checked Input → Result ℕ D.Refusal → MachineRows → MachineRows → Type 0
MachinesRead n o es ts c (Err why) before after = c ≡ refused (tabled why)
MachinesRead n o es ts c (Ok k) before after = MachinesFound n o es ts c k before after

-- machine lines at a position, after n states, events and steps
abbrev pub ReadsMachines : List ℕ → ℕ → ℕ → ℕ → Result ℕ D.Refusal → MachineRows → MachineRows → Type 0
ReadsMachines s at n line r before after =
    (o : Option ℕ) (es : List Name) (ts : List Named) (c : Checked Input) → line ≡ 3 + length ts → step_line s at ≡ fail → Rest s (begun n o es ts) at c
    → MachinesRead n o es ts c r before after

-- the rows before a step line is read
abbrev pub no_steps : TransitionRows
no_steps = transition_rows (replicate 1024 0) (replicate 1024 0) (replicate 1024 0)

-- the rows before a machine line is read
abbrev pub no_machines : MachineRows
no_machines = machine_rows (replicate 16 0) (replicate 16 256) (replicate 4096 255)

-- counts and the rows of each section as one value
abbrev pub joined : Counts → List ℕ → List ℕ → TransitionRows → MachineRows → Tables
joined c ats lens steps machines =
    tables_in c ats lens steps.source steps.event steps.target machines.sizes machines.duplicate machines.places

-- the counts that are answered
abbrev pub counts : ℕ → ℕ → ℕ → ℕ → ℕ → Counts
counts n initial events transitions machines = record { states = n; initial = initial; events = events; transitions = transitions; machines = machines }

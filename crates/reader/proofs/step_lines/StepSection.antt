-- The section of step lines: what is read so far, and what each way out of the loop promises.
use Prim.Native.Nat.{ℕ, ◌+◌, ◌<◌, ◌≤◌}
use native.Mathlib.Omega.{arith}
use mathlib.Core.Path.{◌≡◌, refl, ap, sym, ◌∙◌}
use mathlib.Core.Logic.{◌⊎◌, inl, inr}
use mathlib.Core.List.{List, [], ◌∷◌, ◌++◌}
use mathlib.Core.Option.{Option}
use lib.Dec.{T}
use lib.ListN.{length, get_or, set, length-append}
use Rattle.model.specs.Refusal.{Checked}
use Rattle.model.specs.declared.Refusal as D
use Rattle.model.specs.declared.Refusal.TheVariants as C
use Rattle.model.specs.Cases.{tabled}
use Rattle.model.specs.Bytes.{Name, OneEvent}
use Rattle.model.specs.Reading.{Parsed, fail, got}
use Rattle.model.specs.Form.{Line, step, step_line}
use Rattle.model.specs.Text.{Input, event_number, distinct}
use Rattle.model.proofs.Values.{Named}
use Rattle.lexer.specs.declared.PackedName.{PackedName}
use Rattle.lines.specs.declared.StepLine.{StepLine}
use Rattle.lines.proofs.Found.{GotStep}
use Rattle.names.specs.Held.{Finds}
use Rattle.names.proofs.Lookup.{event_number_lem}
use Rattle.quick_step_line.specs.Quick.{ReadsStep}
use Rattle.std.specs.Prelude as Std
use Rattle.std.specs.Prelude.{Some, None, Ok, Err}
use Rattle.reader.specs.Sections.{DistinctRows, Declares, Rest, begun, TransitionRows, transition_rows, with_steps, StepFound, StepRefused, ReadsSteps}
use Rattle.model.proofs.ListLaws.{store}
use Rattle.reader.proofs.Phases.{step_many, step_source, step_target, step_event, step_more}

pub record Steps (s : List ℕ) (n : ℕ) (o : Option ℕ) (es : List Name) (c : Checked Input) (k i : ℕ) (before now : TransitionRows) : Type 0 where
  pub steps : List Named
  pub rest : Rest s (begun n o es steps) i c
  pub counted : k ≡ length steps
  pub rows : now ≡ with_steps es before steps

module _ {s : List ℕ} {n : ℕ} {o : Option ℕ} {es : List Name} {c : Checked Input} {before : TransitionRows} where
  pub steps_start : {at : ℕ} → Rest s (begun n o es []) at c → Steps s n o es c 0 at before before
  unfolding with_steps
  steps_start r = record { steps = []; rest = r; counted = refl; rows = refl }

  steps_more : {k i a b next p x q : ℕ} {e : Name} {now : TransitionRows} → Steps s n o es c k i before now → step_line s i ≡ got (step a e b) next → k < 1024
      → a < n → b < n → p ≡ a → x ≡ event_number es e → q ≡ b → x < length es
      → Steps s n o es c (k + 1) next before (transition_rows (set now.source k p) (set now.event k x) (set now.target k q))
  unfolding with_steps
  steps_more {k} {a = a} {b} {p = p} {x} {q} {e} {now} z g room i j source number target h =
      let t : Named = record { source = a; event = e; target = b } in
      let ts = z.steps in
      record {
        steps = ts ++ (t ∷ []);
        rest = step_more ts z.rest g z.counted room i j (omega arith);
        counted = omega (arith, length-append ts (t ∷ []), z.counted);
        rows = λ o.
            transition_rows
            (store (λ (u : Named). u.source) now.source before.source ts t k p (ap (λ (r : TransitionRows). r.source) z.rows) z.counted source o)
            (store (λ (u : Named). event_number es u.event) now.event before.event ts t k x (ap (λ (r : TransitionRows). r.event) z.rows) z.counted number o)
            (store (λ (u : Named). u.target) now.target before.target ts t k q (ap (λ (r : TransitionRows). r.target) z.rows) z.counted target o);
      }

-- the loop over the step lines has k of them and stands at i
pub record SoFar (s : List ℕ) (at n count : ℕ) (lens highs lows : List ℕ) (before : TransitionRows) (k i : ℕ) (now : TransitionRows) : Type 0 where
  pub most : k ≤ 1024
  pub few : count ≤ 64
  pub states : n ≤ 256
  pub so_far : (o : Option ℕ) (es : List Name) (c : Checked Input) → DistinctRows es count lens highs lows → Rest s (begun n o es []) at c → Steps s n o es c k i before now

-- the number that is found is that of the line's event; if none is, the count is
number : {o : Parsed Line} {w : StepLine} {count : ℕ} {x : Std.Option ℕ} {lens highs lows : List ℕ} (g : GotStep o w)
    → Finds count lens highs lows w.name.«len» w.name.«high» w.name.«low» x → (es : List Name) → DistinctRows es count lens highs lows
    → Std.unwrap_or x count ≡ event_number es g.name
number g f es d =
    f.number es d.rows g.name g.is_name_lem (ap (λ (n : PackedName). n.«len») g.told) (ap (λ (n : PackedName). n.high) g.told) (ap (λ (n : PackedName). n.low) g.told)

-- the line that is read quickly
abbrev QuickLine : List ℕ → ℕ → List Name → ℕ → ℕ → ℕ → ℕ → Type 0
QuickLine s at es a e b next = (w : Name) × OneEvent w (get_or es e []) × (step_line s at ≡ got (step a w b) next)

quick_line : {s : List ℕ} {at n count : ℕ} {lens highs lows : List ℕ} {a e b next : ℕ} (o : Declares count lens highs lows)
    → ReadsStep s at n count lens highs lows a e b next → QuickLine s at o.names a e b next
quick_line o q = q.line o.names o.held.rows

-- the answer to one step line
module _ {s : List ℕ} {at n count : ℕ} {lens highs lows : List ℕ} {k : ℕ} where
  pub step_limit : {a b next : ℕ} {e : Name} → step_line s at ≡ got (step a e b) next → 1024 ≤ k → StepRefused s at n count lens highs lows k (C.LimitExceeded (3 + k))
  unfolding tabled
  step_limit g m = record { stops = λ o es ts c _ q r. step_many ts r g q m }

  -- read word by word
  module _ {w : StepLine} (g : GotStep (step_line s at) w) (room : k < 1024) where
    pub step_unknown : Finds count lens highs lows w.name.«len» w.name.«high» w.name.«low» None → StepRefused s at n count lens highs lows k (C.Undeclared (3 + k))
    unfolding tabled
    step_unknown f = record { stops = λ o es ts c d q r. step_event ts r g.read q room (omega (arith, number g f es d, d.rows.counted)) }

    pub step_stranger : (n ≤ w.source) ⊎ (n ≤ w.target) → StepRefused s at n count lens highs lows k (C.Undeclared (3 + k))
    unfolding tabled
    step_stranger (inl m) = record { stops = λ o es ts c d q r. step_source ts r g.read q room m }
    step_stranger (inr m) = record { stops = λ o es ts c d q r. step_target ts r g.read q room m }

    pub step_declared : {x : ℕ} → Finds count lens highs lows w.name.«len» w.name.«high» w.name.«low» (Some x) → w.source < n → w.target < n
        → StepFound s at n count lens highs lows k w.source x w.target w.next
    step_declared f i j = record { name = g.name; line = g.read; room = room; source = i; event = f.below; target = j; number = number g f }

  pub quick_limit : {a e b next : ℕ} → Declares count lens highs lows → ReadsStep s at n count lens highs lows a e b next → 1024 ≤ k
      → StepRefused s at n count lens highs lows k (C.LimitExceeded (3 + k))
  quick_limit o q m = step_limit (quick_line o q).2 m

  -- read quickly: of distinct names the event's is the first of its own
  pub step_quick : {a e b next : ℕ} → Declares count lens highs lows → ReadsStep s at n count lens highs lows a e b next → k < 1024
      → StepFound s at n count lens highs lows k a e b next
  step_quick {a} {e} {b} {next} o q room =
      let (w, _, line) = quick_line o q in
      record {
        name = w;
        line = line;
        room = room;
        source = q.source;
        event = q.event;
        target = q.target;
        number = λ es d.
            let (v, one, again) = q.line es d.rows in
            let l : ◌≡◌ {A = Parsed Line} (got (step a v b) next) (got (step a w b) next) = sym again ∙ line in
            let i : v ≡ w = cc in
            let t : T (distinct es) = rw d.once tt in
            sym (event_number_lem es e (omega (arith, q.event, d.rows.counted)) t w (rw i at one));
      }

module _ {s : List ℕ} {at n count : ℕ} {lens highs lows : List ℕ} {before : TransitionRows} {k i : ℕ} {now : TransitionRows}
    (z : SoFar s at n count lens highs lows before k i now) where
  -- no step line stands next
  pub section_end : step_line s i ≡ fail → ReadsSteps s at n count lens highs lows (Ok (record { count = k; next = i })) before now
  section_end f = λ o es c d r.
      let t = z.so_far o es c d r in
      record { steps = t.steps; rest = t.rest; last = f; counted = t.counted; rows = t.rows }

  -- the step line that stands next is refused
  pub section_stop : {why : D.Refusal} → StepRefused s i n count lens highs lows k why → ReadsSteps s at n count lens highs lows (Err why) before now
  section_stop f = λ o es c d r. let t = z.so_far o es c d r in f.stops o es t.steps c d t.counted t.rest

  -- it is declared, and its numbers are stored
  pub section_more : {a e b next p y q : ℕ} → StepFound s i n count lens highs lows k a e b next → p ≡ a → y ≡ e → q ≡ b
      → SoFar s at n count lens highs lows before (k + 1) next (transition_rows (set now.source k p) (set now.event k y) (set now.target k q))
  section_more g source event target =
      record {
        most = omega (arith, g.room);
        few = z.few;
        states = z.states;
        so_far = λ o es c d r.
            steps_more (z.so_far o es c d r) g.line g.room g.source g.target source (event ∙ g.number es d) target (omega (arith, d.rows.counted, g.event));
      }

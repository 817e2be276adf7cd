-- What each kind of line comes to, with the code's own counts: the states, the events, a step, a machine, and the end of the text.
use Prim.Native.Nat.{ℕ, suc, ◌+◌, ◌<◌, ◌≤◌}
use native.Mathlib.Omega.{arith}
use mathlib.Core.Path.{◌≡◌, refl, ap, sym, ◌∙◌, subst}
use mathlib.Core.Logic.{◌⊎◌, inl, inr}
use mathlib.Core.Bool.{Bool, true, false, not, ◌&&◌, and-false, and-eq-true_iff}
use mathlib.Core.List.{List, [], ◌∷◌, ◌++◌, map, append_assoc, append-nil}
use mathlib.Core.Option.{Option}
use lib.Dec.{T, leb, ltb}
use borrow.Author.Tests.{le-leb, lt-leb, leb-true}
use lib.ListN.{length, drop, length-append, length-map}
use Rattle.model.specs.Lists.{exists, index, count}
use Rattle.model.specs.Refusal.{refuse, Checked, refused, passed}
use Rattle.model.specs.Machine.{Place, Machine}
use Rattle.model.specs.Bytes.{Name, same_name}
use Rattle.model.specs.Reading.{fail, got}
use Rattle.model.specs.Form.{Line, states, events, step, machine, start_of, is_step_line, is_machine_line, states_line, events_line, step_line, machine_line, line_after}
use Rattle.model.specs.Text.{Input, event_number, value_of, distinct, in_limit, is_declared, ended, read, line_two}
use Rattle.model.proofs.Laws.{T_false, or_not_l, or_not_r, order}
use Rattle.model.proofs.ListLaws.{map_append}
use Rattle.model.proofs.Positions.{index_below}
use Rattle.model.proofs.Counting.{count_append, count_map_all, count_map_none, count_some, count_none}
use Rattle.model.proofs.Values as Values
use Rattle.model.proofs.Values.{Named, lines}
use Rattle.model.proofs.Lines.{line_sound}
use Rattle.model.proofs.LineEnds.{line_two_lem}
use Rattle.lines.specs.Lines.{EventRows, all_below}
use Rattle.lines.specs.declared.StatesLine.{StatesLine}
use Rattle.lines.proofs.Found.{GotStates}
use Rattle.reader.specs.Sections.{Rest, begun, StatesFound, EventsFound, FirstFound}
use Rattle.reader.proofs.Rest.{rest_start, rest_end, rest_fail, rest_none, rest_limit, rest_undeclared, rest_more}

-- a test that agrees with an order
as_order : (b : Bool) (m n : ℕ) → (T b → m < n) → (T (not b) → n ≤ m) → b ≡ ltb m n
as_order true m n f g = sym (le-leb (suc m) n (f tt))
as_order false m n f g = sym (lt-leb (suc m) n (omega (arith, g tt)))

-- what stands in a list is counted there, and has a number there
module _ {A : Type 0} (f : A → Bool) where
  exists_count : (l : List A) → exists f l ≡ ltb 0 (count f l)
  exists_count l = as_order (exists f l) 0 (count f l) (count_some f l) (λ t. omega (arith, count_none f l t))

  index_none : (l : List A) → T (not (exists f l)) → index f l ≡ length l
  unfolding exists index
  index_none [] t = refl
  index_none (x ∷ l) t = rw (T_false (f x) (or_not_l (f x) (exists f l) t), index_none l (or_not_r (f x) (exists f l) t))

  exists_index : (l : List A) → exists f l ≡ ltb (index f l) (length l)
  exists_index l = as_order (exists f l) (index f l) (length l) (index_below f l) (λ t. omega (arith, index_none l t))

-- ---- the states

module _ (s : List ℕ) where
  pub states_fail : states_line s 0 ≡ fail → length s ≤ 32768 → read s ≡ refused (refuse 1 1 0)
  unfolding line_after
  states_fail e h = rest_none (rest_start s h) (omega arith) e

  module _ {w : StatesLine} (g : GotStates (states_line s 0) w) where
    pub states_next : w.next ≡ line_two s
    unfolding line_after
    states_next =
        let l = line_sound [] s 0 (states w.count g.start) w.next (omega arith) g.read in
        omega (arith, l.moved, ap line_two l.bytes, line_two_lem w.count g.start l.formed.0 l.formed.1 (drop w.next s))

    -- the text is short enough
    module _ (h : length s ≤ 32768) where
      pub states_limit : (leb 1 w.count && leb w.count 256) ≡ false → read s ≡ refused (refuse 2 1 0)
      unfolding line_after in_limit
      states_limit t = rest_limit (rest_start s h) g.read t

      module _ (t : (leb 1 w.count && leb w.count 256) ≡ true) where
        pub start_undeclared : w.count ≤ w.start → read s ≡ refused (refuse 3 1 0)
        unfolding line_after in_limit is_declared
        start_undeclared u = rest_undeclared (rest_start s h) g.read t (lt-leb (suc (start_of g.start)) w.count (omega (arith, g.initial)))

        pub states_more : w.start < w.count → Rest s (states w.count g.start ∷ []) w.next (read s)
        unfolding line_after in_limit is_declared
        states_more u = rest_more (rest_start s h) g.read t (le-leb (suc (start_of g.start)) w.count (omega (arith, g.initial)))

        -- the line is read
        pub states_found : w.start < w.count → StatesFound s w.count w.start w.next
        states_found u =
            record {
              few = leb-true w.count 256 ((and-eq-true_iff (leb 1 w.count) (leb w.count 256)).0 t).1;
              start = g.start;
              initial = g.initial;
              line = g.read;
              ends = states_next;
              rest = states_more u;
            }

-- ---- the events

module _ {s : List ℕ} {n at : ℕ} {o : Option ℕ} {c : Checked Input} (r : Rest s (states n o ∷ []) at c) where
  pub events_fail : events_line s at ≡ fail → c ≡ refused (refuse 1 2 0)
  unfolding line_after
  events_fail e = rest_none r (omega arith) e

  module _ {es : List Name} {next : ℕ} (g : events_line s at ≡ got (events es) next) where
    pub events_many : 64 < length es → c ≡ refused (refuse 2 2 0)
    unfolding line_after in_limit
    events_many k = rest_limit r g (lt-leb (length es) 64 k)

    module _ (k : length es ≤ 64) where
      pub events_twice : distinct es ≡ false → c ≡ refused (refuse 3 2 0)
      unfolding line_after in_limit is_declared
      events_twice d = rest_undeclared r g (le-leb (length es) 64 k) d

      pub events_more : distinct es ≡ true → Rest s (begun n o es []) next c
      unfolding line_after in_limit is_declared
      events_more d = rest_more r g (le-leb (length es) 64 k) d

-- ---- the first two lines

-- both are read; the second begins where the first ends
pub first_found : {s : List ℕ} {at n i k next : ℕ} {after : EventRows} (f : StatesFound s n i at) → EventsFound s at n f.start (read s) k next after
    → FirstFound s (record { states = n; initial = i; next = next }) k after
first_found {s} {n = n} {k = k} {next} {after} f e =
    record {
      few = f.few;
      start = f.start;
      initial = f.initial;
      found = subst (λ (x : ℕ). EventsFound s x n f.start (read s) k next after) f.ends e;
    }

-- ---- the lines read so far, counted

module _ (n : ℕ) (o : Option ℕ) (es : List Name) (ts : List Named) (ms : List Machine) where
  length_lines : length (lines n o es ts ms) ≡ 2 + (length ts + length ms)
  length_lines =
      omega (arith, length-append (map Values.step_line ts) (map Values.machine_line ms), length-map ts Values.step_line, length-map ms Values.machine_line)

  steps_counted : count is_step_line (lines n o es ts ms) ≡ length ts
  unfolding count is_step_line
  steps_counted =
      omega (
        arith,
        count_append is_step_line (map Values.step_line ts) (map Values.machine_line ms),
        count_map_all is_step_line Values.step_line (λ t. refl) ts,
        count_map_none is_step_line Values.machine_line (λ m. refl) ms,
      )

  machines_counted : count is_machine_line (lines n o es ts ms) ≡ length ms
  unfolding count is_machine_line
  machines_counted =
      omega (
        arith,
        count_append is_machine_line (map Values.step_line ts) (map Values.machine_line ms),
        count_map_none is_machine_line Values.step_line (λ t. refl) ts,
        count_map_all is_machine_line Values.machine_line (λ m. refl) ms,
      )

  machine_there : exists is_machine_line (lines n o es ts ms) ≡ ltb 0 (length ms)
  machine_there = exists_count is_machine_line (lines n o es ts ms) ∙ ap (ltb 0) machines_counted

  one_machine : (m : Machine) → lines n o es ts ms ++ (Values.machine_line m ∷ []) ≡ lines n o es ts (ms ++ (m ∷ []))
  one_machine m = simp (append_assoc, map_append)

  -- the next line is a machine's
  next_machine : (s : List ℕ) (at : ℕ) → (length ms ≡ 0 → step_line s at ≡ fail) → line_after (lines n o es ts ms) s at ≡ machine_line s at
  unfolding line_after
  next_machine s at f = go (order 0 (length ms))
    where
      go : (0 < length ms) ⊎ (length ms ≤ 0) → line_after (lines n o es ts ms) s at ≡ machine_line s at
      go (inl h) = rw (machine_there, le-leb 1 (length ms) h)
      go (inr h) = rw (machine_there, lt-leb 1 (length ms) (omega arith), f (omega arith))

module _ (n : ℕ) (o : Option ℕ) (es : List Name) (ts : List Named) where
  one_step : (t : Named) → begun n o es ts ++ (Values.step_line t ∷ []) ≡ begun n o es (ts ++ (t ∷ []))
  one_step t = simp (append-nil, map_append)

  next_step : {l : Line} {next : ℕ} (s : List ℕ) (at : ℕ) → step_line s at ≡ got l next → line_after (begun n o es ts) s at ≡ got l next
  unfolding line_after
  next_step s at g = rw (machine_there n o es ts [], g)

-- ---- a step

module _ {s : List ℕ} {n : ℕ} {o : Option ℕ} {es : List Name} {c : Checked Input} {at a b next k : ℕ} {e : Name} (ts : List Named) (r : Rest s (begun n o es ts) at c)
    (g : step_line s at ≡ got (step a e b) next) (counted : k ≡ length ts) where
  step_number : suc (length (begun n o es ts)) ≡ 3 + k
  step_number = omega (arith, length_lines n o es ts [])

  pub step_many : 1024 ≤ k → c ≡ refused (refuse 2 (3 + k) 0)
  unfolding in_limit
  step_many h =
      rw step_number at (rest_limit r (next_step n o es ts s at g)
      (lt-leb (suc (count is_step_line (begun n o es ts))) 1024 (omega (arith, steps_counted n o es ts []))))

  module _ (room : k < 1024) where
    step_within : in_limit (begun n o es ts) (step a e b) ≡ true
    unfolding in_limit
    step_within = le-leb (suc (count is_step_line (begun n o es ts))) 1024 (omega (arith, steps_counted n o es ts []))

    step_undeclared : is_declared (begun n o es ts) (step a e b) ≡ false → c ≡ refused (refuse 3 (3 + k) 0)
    step_undeclared d = rw step_number at (rest_undeclared r (next_step n o es ts s at g) step_within d)

    pub step_source : n ≤ a → c ≡ refused (refuse 3 (3 + k) 0)
    unfolding is_declared
    step_source h = step_undeclared (rw (lt-leb (suc a) n (omega arith)))

    pub step_target : n ≤ b → c ≡ refused (refuse 3 (3 + k) 0)
    unfolding is_declared
    step_target h = step_undeclared (simp (lt-leb (suc b) n (omega arith), and-false))

    pub step_event : length es ≤ event_number es e → c ≡ refused (refuse 3 (3 + k) 0)
    unfolding is_declared event_number
    step_event h = step_undeclared (rw (exists_index (same_name e) es, lt-leb (suc (index (same_name e) es)) (length es) (omega arith), and-false))

    pub step_more : a < n → b < n → event_number es e < length es → Rest s (begun n o es (ts ++ (record { source = a; event = e; target = b } ∷ []))) next c
    unfolding is_declared event_number
    step_more i j h =
        rw (one_step n o es ts (record { source = a; event = e; target = b })) at (rest_more r (next_step n o es ts s at g) step_within
        (rw (exists_index (same_name e) es, le-leb (suc (index (same_name e) es)) (length es) h, le-leb (suc a) n i, le-leb (suc b) n j)))

-- ---- a machine, and the end

module _ {s : List ℕ} {n : ℕ} {o : Option ℕ} {es : List Name} {c : Checked Input} {at k line : ℕ} (ts : List Named) (ms : List Machine) (r : Rest s (lines n o es ts ms) at c)
    (counted : k ≡ length ms) (numbered : line ≡ 3 + length ts) where
  machine_number : suc (length (lines n o es ts ms)) ≡ line + k
  machine_number = omega (arith, length_lines n o es ts ms)

  two_lines : leb 2 (length (lines n o es ts ms)) ≡ true
  two_lines = le-leb 2 (length (lines n o es ts ms)) (omega (arith, length_lines n o es ts ms))

  pub machines_none : length s ≤ at → k ≡ 0 → c ≡ refused (refuse 2 line 0)
  unfolding ended
  machines_none h z =
      let q : suc (length (lines n o es ts ms)) ≡ line = omega (arith, machine_number) in
      rw (two_lines, machine_there n o es ts ms, lt-leb 1 (length ms) (omega arith), q) at (rest_end r h)

  pub machines_end : length s ≤ at → 0 < k → c ≡ passed (value_of (lines n o es ts ms))
  unfolding ended
  machines_end h z = rw (two_lines, machine_there n o es ts ms, le-leb 1 (length ms) (omega arith)) at (rest_end r h)

  -- before the first machine no step line stands next
  module _ (last : length ms ≡ 0 → step_line s at ≡ fail) where
    pub machine_fail : at < length s → machine_line s at ≡ fail → c ≡ refused (refuse 1 (line + k) 0)
    machine_fail h e = rw machine_number at (rest_fail r h (next_machine n o es ts ms s at last ∙ e))

    module _ {ps : List Place} {next : ℕ} (g : machine_line s at ≡ got (machine ps) next) where
      machine_next : line_after (lines n o es ts ms) s at ≡ got (machine ps) next
      machine_next = next_machine n o es ts ms s at last ∙ g

      machine_over : in_limit (lines n o es ts ms) (machine ps) ≡ false → c ≡ refused (refuse 2 (line + k) 0)
      machine_over d = rw machine_number at (rest_limit r machine_next d)

      pub machine_many : 16 ≤ k → c ≡ refused (refuse 2 (line + k) 0)
      unfolding in_limit
      machine_many h = machine_over (rw (machines_counted n o es ts ms, lt-leb (suc (length ms)) 16 (omega arith)))

      pub machine_places : 64 < length ps → c ≡ refused (refuse 2 (line + k) 0)
      unfolding in_limit
      machine_places h = machine_over (rw (lt-leb (length ps) 64 h, and-false))

      module _ (room : k < 16) (small : length ps ≤ 64) where
        machine_within : in_limit (lines n o es ts ms) (machine ps) ≡ true
        unfolding in_limit
        machine_within = rw (machines_counted n o es ts ms, le-leb (suc (length ms)) 16 (omega arith), le-leb (length ps) 64 small)

        pub machine_undeclared : all_below n ps ≡ false → c ≡ refused (refuse 3 (line + k) 0)
        unfolding is_declared all_below
        machine_undeclared d = rw machine_number at (rest_undeclared r machine_next machine_within d)

        pub machine_more : all_below n ps ≡ true → Rest s (lines n o es ts (ms ++ (record { places = ps } ∷ []))) next c
        unfolding is_declared all_below
        machine_more d = rw (one_machine n o es ts ms (record { places = ps })) at (rest_more r machine_next machine_within d)

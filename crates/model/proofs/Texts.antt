-- Texts and values: what a text's lines say is within the limits, and every value within the limits is read from its text.
use Prim.Native.Nat.{ℕ, zero, suc, ◌+◌, ◌≤◌}
use native.Mathlib.Omega.{arith}
use native.Mathlib.Numerals.{add-two}
use mathlib.Core.Path.{◌≡◌, refl, ap, sym, ◌∙◌, subst}
use mathlib.Core.Logic.{◌⊎◌, inl, inr}
use mathlib.Core.Bool.{not}
use mathlib.Core.List.{List, [], ◌∷◌, ◌++◌, map, flat_map, append-nil}
use mathlib.Core.Option.{Option, none, some, none-ne-some, some-injective}
use lib.Dec.{T}
use lib.ListN.{length, get_or, length-append}
use Rattle.model.specs.Lists.{At, Pairwise, exists, count}
use Rattle.model.specs.TransitionSystem.{Transition}
use Rattle.model.specs.Machine.{Machine}
use Rattle.model.specs.Bytes.{Name}
use Rattle.model.specs.Form.{Line, states, events, step, machine, written_start, start_of, written, Respelt, is_machine_line}
use Rattle.model.specs.Text.{Input, value_of, shortest, lines_with, write, Limits}
use Rattle.model.specs.Table.{Begins, Fine, Reads}
use Rattle.model.specs.Demands.{Spells}
use Rattle.model.proofs.Laws.{dec}
use Rattle.model.proofs.Positions.{at_mem, at_get_d}
use Rattle.model.proofs.Pairs.{pairwise_at}
use Rattle.model.proofs.Counting.{count_some, count_none}
use Rattle.model.proofs.OneEvent.{one_sym, one_length}
use Rattle.model.proofs.Chains.{Each, Proper, each_map, each_all, all_each, begun, begins}
use Rattle.model.proofs.Values.{Both, Named, step_line, machine_line, lines, shape, machines_counted, Plain, plain, both, numbered, named, input, value_of_lines, lines_with_lem, lines_again, limits, plain_limits, value_again}

-- complete lines, with a machine
pub record Complete (ls : List Line) : Type 0 where
  pub good : Each Proper [] ls
  pub fine : Each Fine [] ls
  pub two : 2 ≤ length ls
  pub machine : T (exists is_machine_line ls)

pub complete_reads : (s : List ℕ) (ls : List Line) → Begins s ls [] → Complete ls → length s ≤ 32768 → Reads s (value_of ls)
complete_reads s ls b c h =
    record {
      size = h;
      lines = ls;
      bytes = b;
      fine = each_all Fine [] ls c.fine;
      two = c.two;
      machine = count_some is_machine_line ls c.machine;
      value = refl;
    }

pub counted_exists : (ls : List Line) → 1 ≤ count is_machine_line ls → T (exists is_machine_line ls)
counted_exists ls h = go (dec (exists is_machine_line ls))
  where
    go : T (exists is_machine_line ls) ⊎ T (not (exists is_machine_line ls)) → T (exists is_machine_line ls)
    go (inl t) = t
    go (inr t) = absurd (omega (arith, count_none is_machine_line ls t))

pub reads_complete : (s : List ℕ) (v : Input) (r : Reads s v) → Complete r.lines
reads_complete s v r =
    record {
      good = (begun s r.lines [] r.bytes).good;
      fine = all_each Fine [] r.lines r.fine;
      two = r.two;
      machine = counted_exists r.lines r.machine;
    }

lines_complete : (n : ℕ) (o : Option ℕ) (es : List Name) (ts : List Named) (ms : List Machine) → Plain n o es ts ms → 1 ≤ length ms → Complete (lines n o es ts ms)
lines_complete n o es ts ms p h =
    record {
      good = each_map Both Proper (λ xs l b. b.good) [] (lines n o es ts ms) (both n o es ts ms p);
      fine = each_map Both Fine (λ xs l b. b.fine) [] (lines n o es ts ms) (both n o es ts ms p);
      two = omega arith;
      machine = counted_exists (lines n o es ts ms) (subst (λ (k : ℕ). 1 ≤ k) (sym (machines_counted n o es ts ms ms)) h);
    }

-- ---- what a text's lines say

shortest_start : (k : ℕ) → start_of (shortest k) ≡ k
unfolding shortest
shortest_start zero = refl
shortest_start (suc k) = refl

shortest_bytes : (n : ℕ) (o : Option ℕ) → length (written (states n (shortest (start_of o)))) ≤ length (written (states n o))
unfolding shortest written written_start
shortest_bytes n none = omega arith
shortest_bytes n (some zero) = simp length-append (omega arith)
shortest_bytes n (some (suc k)) = omega arith

shortest_text : (n : ℕ) (o : Option ℕ) (es : List Name) (ts : List Named) (ms : List Machine)
    → length (flat_map written (lines n (shortest (start_of o)) es ts ms)) ≤ length (flat_map written (lines n o es ts ms))
unfolding flat_map
shortest_text n o es ts ms = simp length-append (omega (arith, shortest_bytes n o))

-- a line is as long in any spelling, and so are lines
respelt_line : (l k : Line) → Respelt l k → length (written l) ≡ length (written k)
unfolding written
respelt_line (states n o) k q = ap (λ (x : Line). length (written x)) (sym q)
respelt_line (events es) k q = ap (λ (x : Line). length (written x)) (sym q)
respelt_line (step a e b) k (f, o, q) = rw q (simp length-append (omega (arith, one_length e f o)))
respelt_line (machine ps) k q = ap (λ (x : Line). length (written x)) (sym q)

pub respelt_bytes : (ls ks : List Line) → Pairwise Respelt ls ks → length (flat_map written ls) ≡ length (flat_map written ks)
unfolding flat_map
respelt_bytes [] [] p = refl
respelt_bytes [] (k ∷ ks) p = absurd p
respelt_bytes (l ∷ ls) [] p = absurd p
respelt_bytes (l ∷ ls) (k ∷ ks) p = simp length-append (omega (arith, respelt_line l k p.0, respelt_bytes ls ks p.1))

-- lines 1 and 2 have no other spelling
first_two : (n : ℕ) (o : Option ℕ) (es : List Name) (ks ls : List Line) → Pairwise Respelt (states n o ∷ events es ∷ ks) ls
    → (rest : List Line) × (ls ≡ states n o ∷ events es ∷ rest)
first_two n o es ks [] p = absurd p
first_two n o es ks (l ∷ []) p = absurd p.1
first_two n o es ks (l ∷ k ∷ ls) p = (ls, rw (p.0, p.1.0) refl)

-- The lines of a text that gives a value are the value's, line 1 in one of its forms and the names of steps in some spelling.
pub record ValueLines (s : List ℕ) (v : Input) (ls : List Line) : Type 0 where
  pub start : Option ℕ
  pub initial : start_of start ≡ v.initial
  pub lines : Pairwise Respelt (lines_with start v) ls
  pub rest : List Line
  pub first : ls ≡ states v.states start ∷ events v.names ∷ rest
  pub bytes : s ≡ flat_map written ls
  pub limits : Limits v

module _ (s : List ℕ) (n : ℕ) (o : Option ℕ) (es : List Name) (ts : List Named) (ms : List Machine) (c : Complete (lines n o es ts ms))
    (bytes : s ≡ flat_map written (lines n o es ts ms)) (short : length s ≤ 32768) where
  p : Plain n o es ts ms
  p = plain n o es ts ms c.good c.fine

  own : (q : Option ℕ) → Pairwise Respelt (lines_with q (input n (start_of o) es (map (numbered es) ts) ms)) (lines n q es ts ms)
  own = lines_again n o es ts ms p

  fits : length (write (input n (start_of o) es (map (numbered es) ts) ms)) ≤ 32768
  unfolding write
  fits =
      let q = shortest (start_of o) in
      omega (
        arith,
        short,
        ap length bytes,
        shortest_text n o es ts ms,
        respelt_bytes (lines_with q (input n (start_of o) es (map (numbered es) ts) ms)) (lines n q es ts ms) (own q),
      )

  some_machine : 1 ≤ length ms
  some_machine = subst (λ (k : ℕ). 1 ≤ k) (machines_counted n o es ts ms ms) (count_some is_machine_line (lines n o es ts ms) c.machine)

  lines_value : ValueLines s (input n (start_of o) es (map (numbered es) ts) ms) (lines n o es ts ms)
  lines_value =
      record {
        start = o;
        initial = refl;
        lines = own o;
        rest = map step_line ts ++ map machine_line ms;
        first = refl;
        bytes = bytes;
        limits = limits n o es ts ms p fits some_machine;
      }

pub value_lines : (s : List ℕ) (v : Input) (r : Reads s v) → ValueLines s v r.lines
value_lines s v r =
    let c = reads_complete s v r in
    let w = shape r.lines c.good c.two in
    let is = r.value ∙ ap value_of w.shaped ∙ value_of_lines w.states w.start w.names w.steps w.machines in
    let bytes = (begun s r.lines [] r.bytes).bytes ∙ append-nil (flat_map written r.lines) in
    subst (λ (x : Input). ValueLines s x r.lines) (sym is)
    (subst (ValueLines s (input w.states (start_of w.start) w.names (map (numbered w.names) w.steps) w.machines)) (sym w.shaped)
    (lines_value s w.states w.start w.names w.steps w.machines (subst Complete w.shaped c) (bytes ∙ ap (flat_map written) w.shaped) r.size))

-- what is read is within the limits
pub limits_of : (s : List ℕ) (v : Input) → Reads s v → Limits v
limits_of s v r = (value_lines s v r).limits

-- the line of transition k
step_line_lem : (f : Transition → Line) (ts : List Transition) (rest : List Line) (k : ℕ) (t : Transition) → At ts k t → At (map f ts ++ rest) k (f t)
step_line_lem f [] rest k t a = absurd (none-ne-some t a)
step_line_lem f (u ∷ ts) rest zero t a = ap (λ (x : Transition). some (f x)) (some-injective u t a)
step_line_lem f (u ∷ ts) rest (suc k) t a = step_line_lem f ts rest k t a

pub line_of : (s : List ℕ) (v : Input) (r : Reads s v) (k : ℕ) (t : Transition) → At v.transitions k t
    → (w : Name) × Spells v.names w t.event × At r.lines (k + 2) (step t.source w t.target)
unfolding lines_with
line_of s v r k t a =
    let l = value_lines s v r in
    let e = get_or v.names t.event [] in
    let b : At (lines_with l.start v) (k + 2) (step t.source e t.target) =
    rw (add-two k)
    (step_line_lem (λ (x : Transition). step x.source (get_or v.names x.event []) x.target) v.transitions (map (λ (m : Machine). machine m.places) v.machines) k t a) in
    let (x, c, (w, o, q)) = pairwise_at Respelt (lines_with l.start v) r.lines l.lines (k + 2) (step t.source e t.target) b in
    let low = (l.limits.transitions t (at_mem v.transitions k t a)).event in
    (w, (e, at_get_d v.names t.event [] low, one_sym e w o), subst (At r.lines (k + 2)) q c)

-- ---- every value within the limits is read from the text that writes it

limits_complete : (v : Input) → Limits v → Complete (lines_with (shortest v.initial) v)
limits_complete v l =
    subst
    (λ (k : List Line). Complete k)
    (sym (lines_with_lem (shortest v.initial) v))
    (lines_complete v.states (shortest v.initial) v.names (map (named v.names) v.transitions) v.machines
    (plain_limits v l (shortest v.initial) (shortest_start v.initial)) l.machines_least)

pub write_reads : (v : Input) → Limits v → Reads (write v) v
unfolding write
write_reads v l =
    let ls = lines_with (shortest v.initial) v in
    subst (Reads (write v)) (value_again v l (shortest v.initial) (shortest_start v.initial))
    (complete_reads (write v) ls (begins (write v) ls [] (record { good = (limits_complete v l).good; bytes = sym (append-nil (flat_map written ls)) }))
    (limits_complete v l) l.text)

-- What is printed for Steps: a line for each transition, one after another, and the ways out of the call.
use Prim.Native.Nat.{ℕ, zero, suc, ◌+◌, ◌*◌, ◌<◌, ◌≤◌}
use native.Mathlib.Omega.{arith}
use mathlib.Core.Path.{◌≡◌, refl, ap, ◌∙◌}
use mathlib.Core.List.{List, [], ◌∷◌, ◌++◌, flat_map, append-nil}
use lib.ListN.{length, length-append}
use Rattle.model.specs.declared.Refusal as D
use Rattle.model.specs.declared.Refusal.TheVariants.{BufferTooShort}
use Rattle.model.specs.Bytes.{bytes, numeral}
use Rattle.model.specs.Cases.{tabled}
use Rattle.model.specs.Refusal.{refused, refusal_of}
use Rattle.model.specs.TransitionSystem.{Transition}
use Rattle.model.specs.Services.{as_far_as7, written_refusal}
use Rattle.model.specs.Printed.{printed_by, transition_line, transition_lines, printed_steps}
use Rattle.model.proofs.ListLaws.{flat_map_append}
use Rattle.std.specs.Prelude.{Result, Err}
use Rattle.rows.specs.declared.Tables.{Tables}
use Rattle.rows.specs.Tables.{verdict_refusal}
use Rattle.rows.specs.Told.{transition_at, first_transitions}
use Rattle.rows.proofs.Fronts.{front_more}
use Rattle.rows.proofs.Telling.{told_transitions}
use Rattle.writers.specs.Written.{Writes}
use Rattle.writers.proofs.Writing.{spaced, writes_none, writes_append, writes_length}
use Rattle.writers.proofs.Refusals.{numeral_most, numeral_three}
use Rattle.stages.specs.Stages.{Held}
use Rattle.rows.proofs.Verdicts.{refused_as}
use Rattle.stages.proofs.Stages.{counted}
use Rattle.printing.specs.Shown.{Shows}
use Rattle.printing.proofs.Showing.{shows_written, shows_same, printed_short, printed_all}

-- ---- a line

line_most : (t : Transition) → t.source ≤ 999 → t.event ≤ 999 → t.target ≤ 999 → length (transition_line t) ≤ 19
unfolding transition_line
line_most t s e u =
    omega (
      arith,
      spaced (bytes "(step ") (numeral t.source) (bytes " ") (numeral t.event) (bytes " ") (numeral t.target) (bytes ")\n"),
      numeral_three t.source s,
      numeral_three t.event e,
      numeral_three t.target u,
    )

-- ---- a line for each transition

module _ (sources events targets : List ℕ) where
  -- the lines of the first k
  abbrev lines_to : ℕ → List ℕ
  lines_to k = flat_map transition_line (first_transitions sources events targets k)

  lines_more : (k : ℕ) → lines_to (k + 1) ≡ lines_to k ++ transition_line (transition_at sources events targets k)
  unfolding flat_map
  lines_more k =
      rw (front_more sources events targets k)
      (flat_map_append transition_line (first_transitions sources events targets k) (transition_at sources events targets k ∷ [])
      ∙ ap (λ (w : List ℕ). lines_to k ++ w) (append-nil (transition_line (transition_at sources events targets k))))

  lines_none : length (lines_to 0) ≡ 0
  unfolding flat_map first_transitions
  lines_none = refl

  lines_most : (k : ℕ) → ((j : ℕ) → j < k → length (transition_line (transition_at sources events targets j)) ≤ 19) → length (lines_to k) ≤ k * 19
  lines_most zero h = omega (arith, lines_none)
  lines_most (suc k) h =
      let z : suc k ≡ k + 1 = omega arith in
      omega (
        arith,
        ap (λ (n : ℕ). length (lines_to n)) z,
        ap length (lines_more k),
        length-append (lines_to k) (transition_line (transition_at sources events targets k)),
        h k (omega arith),
        lines_most k (λ j l. h j (omega arith)),
      )

-- the lines of k transitions are written, in 19 bytes each at most
pub record Listed (sources events targets : List ℕ) (n at : ℕ) (out left : List ℕ) (i k : ℕ) : Type 0 where
  pub most : k ≤ n
  pub within : i ≤ at + k * 19
  pub written : Writes (flat_map transition_line (first_transitions sources events targets k)) at out i left

module _ {sources events targets : List ℕ} {n at : ℕ} {out : List ℕ} where
  pub listed_none : Listed sources events targets n at out out at 0
  unfolding flat_map first_transitions
  listed_none = record { most = omega arith; within = omega arith; written = writes_none }

  module _ {left : List ℕ} {i k : ℕ} (p : Listed sources events targets n at out left i k) where
    pub listed_add : {j : ℕ} {after : List ℕ} → k < n → Writes (transition_line (transition_at sources events targets k)) i left j after → j ≤ i + 19
        → Listed sources events targets n at out after j (k + 1)
    listed_add l w b =
        record {
          most = omega arith;
          within = omega (arith, p.within);
          written = rw (lines_more sources events targets k) (writes_append p.written w);
        }

    pub listed_room : k < n → at + n * 19 ≤ length out → i + 19 ≤ length left
    listed_room l r = omega (arith, p.within, writes_length p.written)

    pub listed_end : n ≤ k → Writes (flat_map transition_line (first_transitions sources events targets n)) at out i left
    listed_end h = let z : k ≡ n = omega (arith, p.most) in rw z at p.written

-- ---- the call

-- refused by 1 to 7
pub steps_refused : (s : List ℕ) (lent : ℕ) {n : ℕ} {r : Result (Unit {0}) D.Refusal} {why : D.Refusal} {left : List ℕ} → verdict_refusal r ≡ refusal_of (as_far_as7 s)
    → r ≡ Err why → Shows (written_refusal (tabled why)) n left → Shows (printed_steps s lent) n left
unfolding printed_steps printed_by
steps_refused s lent {why = why} h e w = let z : as_far_as7 s ≡ refused (tabled why) = refused_as h e in rw z w

-- the text is past 7
module _ {s : List ℕ} {p : Tables} (h : Held (as_far_as7 s) s p) where
  -- refused by 13
  pub steps_short : (lent : ℕ) {n : ℕ} {left : List ℕ} → lent < p.counts.transitions → Shows (written_refusal (tabled (BufferTooShort p.counts.transitions))) n left
      → Shows (printed_steps s lent) n left
  unfolding printed_steps
  steps_short lent l w = rw h.passes (shows_same (printed_short transition_lines lent h.value.transitions (counted h) l) w)

  -- the lines that the rows give
  abbrev row_lines : List ℕ
  row_lines = flat_map transition_line (first_transitions p.source p.event p.target p.counts.transitions)

  abbrev row_word : List ℕ
  row_word = bytes "(steps " ++ (numeral p.counts.transitions ++ (bytes ")\n" ++ row_lines))

  -- they are the value's
  lines_told : row_word ≡ transition_lines h.value.transitions
  unfolding transition_lines
  lines_told = rw (told_transitions h.told, counted h)

  -- and have room
  word_most : length row_word ≤ 19485
  word_most =
      let b = h.bounds in
      omega (
        arith,
        b.transitions,
        numeral_most p.counts.transitions,
        length-append (bytes "(steps ") (numeral p.counts.transitions ++ (bytes ")\n" ++ row_lines)),
        length-append (numeral p.counts.transitions) (bytes ")\n" ++ row_lines),
        length-append (bytes ")\n") row_lines,
        lines_most p.source p.event p.target p.counts.transitions
            (λ j l. line_most (transition_at p.source p.event p.target j) (omega (arith, b.source j l, b.states)) (omega (arith, b.event j l, b.events))
            (omega (arith, b.target j l, b.states))),
      )

  -- the transitions fit, and their lines follow the first one
  pub steps_all : (lent : ℕ) {i j k n : ℕ} {out a b c left : List ℕ} → p.counts.transitions ≤ lent → length out ≡ 32768
      → Writes (bytes "(steps ") 0 out i a → Writes (numeral p.counts.transitions) i a j b → Writes (bytes ")\n") j b k c → Writes row_lines k c n left
      → Shows (printed_steps s lent) n left
  unfolding printed_steps
  steps_all lent l q w x y z =
      rw h.passes
      (shows_same (lines_told ∙ printed_all transition_lines lent h.value.transitions (omega (arith, counted h)))
      (shows_written (writes_append w (writes_append x (writes_append y z))) (omega (arith, word_most)) q))

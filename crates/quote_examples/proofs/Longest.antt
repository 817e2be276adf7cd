-- The text of `longest` is read as that value, since this is within the limits (demand2: `writes`): its quotation is then what was computed of the value (`longest_quoted`).
use Prim.Native.Nat.{ℕ, ◌+◌}
use mathlib.Core.Path.{◌≡◌, refl, sym}
use mathlib.Core.Bool.{Bool, not, ◌&&◌}
use mathlib.Core.List.{List, [], flat_map, append-nil}
use mathlib.Core.Option.{none}
use lib.Dec.{T, leb, ltb, leb→le, ltb→lt}
use lib.ListN.{length, replicate}
use Rattle.model.specs.Lists.{every, exists, satisfying, numbers}
use Rattle.model.specs.Refusal.{refuse, refused, passed}
use Rattle.model.specs.TransitionSystem.{Transition, system_refusal}
use Rattle.model.specs.Machine.{Place, Machine, machines_refusal, cover_refusal}
use Rattle.model.specs.Bytes.{is_digit, is_letter, is_capital, lower, is_name_byte, is_name, digits, Name, IsName}
use Rattle.model.specs.Form.{written_place, written_start, written}
use Rattle.model.specs.Text.{Input, system, distinct, read, lines_with, shortest, write, Limits, TransitionLimits, MachineLimits}
use Rattle.model.specs.Quotation.{quotation}
use Rattle.model.specs.Services.{as_far_as7, as_far_as10, as_far_as12, lend, quote}
use Rattle.model.proofs.Laws.{T_true, T_false, and_l, and_r, every_elim}
use Rattle.model.proofs.OneEvent.{distinct_apart}
use Rattle.model.proofs.Words.{word_complete, name_sound}
use Rattle.model.proofs.Demands.{demand2}
use Rattle.quote_examples.specs.Longest.{longest, LongestQuoted, system_clear, machines_clear, covered, size}

-- ---- the limits of a value, by tests

is_good_name : Name → Bool
is_good_name w = every is_name_byte w && is_name w

a_name : (w : Name) → T (is_good_name w) → IsName w
unfolding is_name_byte is_digit is_letter is_capital is_good_name
a_name w t =
    let each = every_elim is_name_byte w (and_l (every is_name_byte w) (is_name w) t) in
    (name_sound w 0 w (0 + length w) (word_complete is_name_byte is_name (λ (l : List ℕ). l) w 0 w [] each (and_r (every is_name_byte w) (is_name w) t) tt (sym (append-nil w)))).0

is_good_step : Input → Transition → Bool
is_good_step v t = ltb t.source v.states && (ltb t.event (length v.names) && ltb t.target v.states)

a_step : (v : Input) (t : Transition) → T (is_good_step v t) → TransitionLimits v t
unfolding is_good_step
a_step v t h =
    let a = ltb t.source v.states in
    let e = ltb t.event (length v.names) in
    let b = ltb t.target v.states in
    record {
      source = ltb→lt t.source v.states (and_l a (e && b) h);
      event = ltb→lt t.event (length v.names) (and_l e b (and_r a (e && b) h));
      target = ltb→lt t.target v.states (and_r e b (and_r a (e && b) h));
    }

is_good_place : Input → Place → Bool
is_good_place v p = leb 1 (length p) && every (λ x. ltb x v.states) p

is_good_machine : Input → Machine → Bool
is_good_machine v m = (leb 1 (length m.places) && leb (length m.places) 64) && every (is_good_place v) m.places

a_machine : (v : Input) (m : Machine) → T (is_good_machine v m) → MachineLimits v m
unfolding is_good_place is_good_machine
a_machine v m h =
    let ps = m.places in
    let n = length ps in
    let size = and_l (leb 1 n && leb n 64) (every (is_good_place v) ps) h in
    let each = every_elim (is_good_place v) ps (and_r (leb 1 n && leb n 64) (every (is_good_place v) ps) h) in
    record {
      least = leb→le 1 n (and_l (leb 1 n) (leb n 64) size);
      most = leb→le n 64 (and_r (leb 1 n) (leb n 64) size);
      nonempty = λ p k. leb→le 1 (length p) (and_l (leb 1 (length p)) (every (λ x. ltb x v.states) p) (each p k));
      below = λ p k x i. ltb→lt x v.states (every_elim (λ y. ltb y v.states) p (and_r (leb 1 (length p)) (every (λ y. ltb y v.states) p) (each p k)) x i);
    }

within : Limits longest
unfolding every exists satisfying numbers flat_map digits is_digit is_letter is_capital lower is_name_byte is_name distinct lines_with shortest write written_place written_start written is_good_name is_good_step is_good_place is_good_machine
within =
    record {
      text = leb→le (length (write longest)) 32768 tt;
      states_least = leb→le 1 18 tt;
      states_most = leb→le 18 256 tt;
      initial = ltb→lt 0 18 tt;
      names_most = leb→le (length longest.names) 64 tt;
      names = λ w k. a_name w (every_elim is_good_name longest.names tt w k);
      distinct = distinct_apart longest.names tt;
      transitions_most = leb→le (length longest.transitions) 1024 tt;
      transitions = λ t k. a_step longest t (every_elim (is_good_step longest) longest.transitions tt t k);
      machines_least = leb→le 1 (length longest.machines) tt;
      machines_most = leb→le (length longest.machines) 16 tt;
      machines = λ m k. a_machine longest m (every_elim (is_good_machine longest) longest.machines tt m k);
    }

-- ---- from the text to its quotation

read_back : read (write longest) ≡ passed longest
read_back = ((demand2 (write longest)).reads longest).1 ((demand2 (write longest)).writes longest within)

passing : (s : List ℕ) (v : Input) → read s ≡ passed v → system_refusal (system v) ≡ none → machines_refusal (system v) 0 v.machines ≡ none
    → cover_refusal (system v) v.machines ≡ none → as_far_as12 s ≡ passed v
unfolding as_far_as7 as_far_as10 as_far_as12
passing s v r a b c = rw r (rw a (rw b (rw c refl)))

fits : (s : List ℕ) (v : Input) (n : ℕ) (out : List ℕ) → as_far_as12 s ≡ passed v → length (quotation v) ≡ n → T (leb n (length out)) → (quote s out).answer ≡ passed n
unfolding lend quote
fits s v n out p l t = rw p (rw l (rw (T_true (leb n (length out)) t) refl))

short : (s : List ℕ) (v : Input) (n : ℕ) (out : List ℕ) → as_far_as12 s ≡ passed v → length (quotation v) ≡ n → T (not (leb n (length out)))
    → quote s out ≡ record { answer = refused (refuse 13 n 0); left = out }
unfolding lend quote
short s v n out p l t = rw p (rw l (rw (T_false (leb n (length out)) t) refl))

pub longest_quoted : LongestQuoted (write longest)
unfolding satisfying numbers flat_map digits lines_with shortest write written_place written_start written
longest_quoted =
    let s = write longest in
    let p = passing s longest read_back system_clear machines_clear covered in
    record { bytes_of_text = refl; passes = p; just_fits = fits s longest 2566 (replicate 2566 7) p size tt; one_byte_short = short s longest 2566 (replicate 2565 7) p size tt }

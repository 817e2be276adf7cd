-- The events that the words of a row say, put one after another at the beginning of the row itself: what is still to be read stands behind them.
use Prim.Native.Nat.{ℕ, ◌+◌, ◌-◌, ◌<◌, ◌≤◌}
use native.Mathlib.Numerals.{add-one}
use native.Mathlib.Omega.{arith}
use mathlib.Core.Path.{◌≡◌, refl, ap, sym, ◌∙◌}
use mathlib.Core.List.{List, [], ◌∷◌, ◌++◌, append-nil}
use mathlib.Core.Option.{Option, none, some}
use lib.ListN.{length, take, drop, set, length-set, drop_of_length-le}
use lib.Seq.{drop-set-lt, drop-drop, take-suc-set, append_snoc}
use Rattle.model.specs.Bytes as B
use Rattle.std.specs.Prelude.{Some, None}
use Rattle.std.specs.Prelude as Std
use Rattle.command_line.specs.Words.{said, event_said}
use Rattle.command_line.specs.WordRow.{words_in, WordCut, list_said, Lists}
use Rattle.command_line.specs.Program.{before, events_said}
use Rattle.command_line.proofs.Cutting.{no_words}

-- these events, and then those
unfoldable pub following : List ℕ → Option (List ℕ) → Option (List ℕ)
following es none = none
following es (some fs) = some (es ++ fs)

following_none : (o : Option (List ℕ)) → o ≡ following [] o
unfolding following
following_none none = refl
following_none (some fs) = refl

following_one : (es : List ℕ) (e : ℕ) (o : Option (List ℕ)) → following es (before (some e) o) ≡ following (es ++ (e ∷ [])) o
unfolding before following
following_one es e none = refl
following_one es e (some fs) = ap some (sym (append_snoc es e fs))

-- of the words before `at` n events are taken, which stand at the beginning of the row; the rest is as it was
pub record Taken (names : List B.Name) (s row : List ℕ) (n at : ℕ) : Type 0 where
  pub size : length row ≡ length s
  pub behind : n ≤ at
  pub within : n ≤ length row
  pub rest : drop at row ≡ drop at s
  pub events : events_said names (words_in s) ≡ following (take n row) (events_said names (words_in (drop at s)))

pub taken_start : {names : List B.Name} {s : List ℕ} → Taken names s s 0 0
taken_start {names} {s} =
    record { size = refl; behind = omega arith; within = omega arith; rest = refl; events = following_none (events_said names (words_in s)) }

module _ {names : List B.Name} {s row : List ℕ} {n at : ℕ} (t : Taken names s row n at) where
  -- the next word, by what the code says of it
  module _ (l : at < length row) {end : ℕ} (c : WordCut row at end) where
    behind_same : drop (end + 1) row ≡ drop (end + 1) s
    behind_same =
        let z : at + (end + 1 - at) ≡ end + 1 = omega (arith, c.least) in
        ap (λ (k : ℕ). drop k row) (sym z)
        ∙ sym (drop-drop (end + 1 - at) at row)
        ∙ ap (drop (end + 1 - at)) t.rest
        ∙ drop-drop (end + 1 - at) at s
        ∙ ap (λ (k : ℕ). drop k s) z

  module _ (l : at < length row) {end : ℕ} (c : WordCut row at end) (r : Std.Option ℕ) (p : said r ≡ event_said names (take (end - at) (drop at row))) where
    next : events_said names (words_in s) ≡ following (take n row) (before (said r) (events_said names (words_in (drop (end + 1) s))))
    unfolding events_said
    next =
        t.events
        ∙ ap (λ (x : List ℕ). following (take n row) (events_said names (words_in x))) (sym t.rest)
        ∙ ap (λ (ws : List (List ℕ)). following (take n row) (events_said names ws)) (c.cut l)
        ∙ ap (λ (x : List ℕ). following (take n row) (before (event_said names (take (end - at) (drop at row))) (events_said names (words_in x)))) (behind_same l c)
        ∙ ap (λ (o : Option ℕ). following (take n row) (before o (events_said names (words_in (drop (end + 1) s))))) (sym p)

    pub taken_none : r ≡ None → Lists (events_said names (words_in s)) None row
    unfolding said before following list_said
    taken_none e =
        record {
          list =
              sym
              (next ∙ ap (λ (x : Std.Option ℕ). following (take n row) (before (said x) (events_said names (words_in (drop (end + 1) s))))) e);
          within = λ k q. let z : ◌≡◌ {A = ℕ} 0 1 = cc in absurd (omega arith);
        }

    pub taken_more : {e b : ℕ} → r ≡ Some e → b ≡ e → Taken names s (set row n b) (n + 1) (end + 1)
    unfolding said
    taken_more {e} {b} q w =
        let short : n < length row = omega (arith, t.behind) in
        record {
          size = length-set row n b ∙ t.size;
          behind = omega (arith, t.behind, c.least);
          within = omega (arith, length-set row n b);
          rest = drop-set-lt (end + 1) row n b (omega (arith, t.behind, c.least)) ∙ behind_same l c;
          events =
              next
              ∙ ap (λ (x : Std.Option ℕ). following (take n row) (before (said x) (events_said names (words_in (drop (end + 1) s))))) q
              ∙ following_one (take n row) e (events_said names (words_in (drop (end + 1) s)))
              ∙ ap (λ (x : List ℕ). following x (events_said names (words_in (drop (end + 1) s))))
              (ap (λ (x : ℕ). take n row ++ (x ∷ [])) (sym w)
              ∙ sym (take-suc-set row n b short)
              ∙ ap (λ (k : ℕ). take k (set row n b)) (sym (add-one n)));
        }

  pub taken_all : length row ≤ at → Lists (events_said names (words_in s)) (Some n) row
  unfolding following list_said events_said
  taken_all h =
      record {
        list =
            sym
            (t.events
            ∙ ap (λ (x : List ℕ). following (take n row) (events_said names (words_in x))) (drop_of_length-le s {i = at} (omega (arith, t.size)))
            ∙ ap (λ (ws : List (List ℕ)). following (take n row) (events_said names ws)) (no_words [] refl)
            ∙ ap some (append-nil (take n row)));
        within = λ k q. let z : n ≡ k = cc in omega (arith, t.within);
      }

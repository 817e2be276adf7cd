-- A service is asked for exactly where there is an answer: the words that are judged without the text are those that say something with it.
use Prim.Native.Nat.{ℕ, suc, ◌+◌, min}
use native.Mathlib.Omega.{arith}
use mathlib.Core.Path.{◌≡◌, refl, ap, sym, ◌∙◌}
use mathlib.Core.Bool.{Bool, true, false, cond, ◌||◌}
use mathlib.Core.List.{List, [], ◌∷◌, flat_map}
use mathlib.Core.Option.{Option, none, some, map, some-ne-none}
use borrow.Author.Tests.{ne_eqb, le-leb}
use Rattle.model.specs.Bytes.{Name, decimal}
use Rattle.model.specs.Text.{event_number}
use Rattle.model.specs.Services.{as_far_as7}
use Rattle.model.specs.BoardTable.{ended}
use Rattle.model.specs.Printed.{printed_check, printed_steps, printed_name, printed_run, printed_thin, printed_merge, printed_quote, printed_sheet, printed_board}
use Rattle.std.specs.Prelude.{Some, None}
use Rattle.std.specs.Prelude as Std
use Rattle.command_line.specs.declared.Service.{Service}
use Rattle.command_line.specs.declared.Service.TheVariants as S
use Rattle.replies.specs.declared.Reply.{Reply}
use Rattle.replies.specs.declared.Reply.TheVariants as R
use Rattle.command_line.specs.Words.{service_said, is_numeral, is_name_word, number_said, event_said}
use Rattle.command_line.specs.Program.{size_said, one_event_said, before, events_said, names_of, answer_thin, answer_by, answer_to, service_asked, further_words}
use Rattle.replies.specs.Replies.{says_event, takes, least_words, wrong_from, is_unknown, wrong_word, help_asked, explanation_asked, reply_by, unless_wrong, reply_asked}

-- something is said where no word is wrong, and nothing where one is
data Agrees {A : Type 0} (o : Option A) (wrong : Std.Option ℕ) : Type 0 where
  right : (a : A) → o ≡ some a → wrong ≡ None → Agrees o wrong
  not_right : o ≡ none → (n : ℕ) → wrong ≡ Some n → Agrees o wrong

mapped : {A B : Type 0} (f : A → B) {o : Option A} {wrong : Std.Option ℕ} → Agrees o wrong → Agrees (map f o) wrong
mapped f (right a e z) = right (f a) (ap (map f) e) z
mapped f (not_right e n h) = not_right (ap (map f) e) n h

-- ---- by what follows the service

number_judged : (most : ℕ) (w : List ℕ) → Agrees (number_said most w) (cond (is_numeral w) None (Some 2))
unfolding number_said
number_judged most w = go (is_numeral w)
  where
    go : (t : Bool) → Agrees (cond t (some (min (decimal w) most)) none) (cond t None (Some 2))
    go true = right (min (decimal w) most) refl refl
    go false = not_right refl 2 refl

event_judged : (names : List Name) (w : List ℕ) (wrong : ℕ) → Agrees (event_said names w) (cond (says_event w) None (Some wrong))
unfolding event_said number_said says_event
event_judged names w wrong = go (is_name_word w) (is_numeral w)
  where
    go : (t u : Bool) → Agrees (cond t (some (event_number names w)) (cond u (some (min (decimal w) 255)) none)) (cond (t || u) None (Some wrong))
    go true u = right (event_number names w) refl refl
    go false true = right (min (decimal w) 255) refl refl
    go false false = not_right refl wrong refl

-- whichever word is wrong, nothing is said
either : {A : Type 0} (t : Bool) (n m : ℕ) → Agrees {A = A} none (cond t (Some n) (Some m))
either true n m = not_right refl n refl
either false n m = not_right refl m refl

-- one word, or none
size_judged : (a : Service) → ((w : List ℕ) → takes a 0 w ≡ is_numeral w) → ((k : ℕ) (w : List ℕ) → takes a (suc k) w ≡ false) → least_words a ≡ 0
    → (usual : ℕ) (ws : List (List ℕ)) → Agrees (size_said usual ws) (wrong_from a 0 ws)
unfolding size_said wrong_from
size_judged a f g l usual [] = right usual refl (rw l)
size_judged a f g l usual (w ∷ []) = rw (f w, l) (number_judged 65535 w)
size_judged a f g l usual (w ∷ v ∷ ws) = rw (f w, g 0 v) (either (is_numeral w) 3 2)

name_judged : (names : List Name) (ws : List (List ℕ)) → Agrees (one_event_said names ws) (wrong_from S.Name 0 ws)
unfolding one_event_said wrong_from takes least_words
name_judged names [] = not_right refl 2 refl
name_judged names (w ∷ []) = event_judged names w 2
name_judged names (w ∷ v ∷ ws) = either (says_event w) 3 2

run_judged : (names : List Name) (k : ℕ) (ws : List (List ℕ)) → Agrees (events_said names ws) (wrong_from S.Run k ws)
unfolding events_said before wrong_from takes least_words
run_judged names k [] = right [] refl (rw (le-leb 0 k (omega arith)))
run_judged names k (w ∷ ws) = go (says_event w) (event_judged names w (k + 2)) (run_judged names (k + 1) ws)
  where
    go : (t : Bool) → Agrees (event_said names w) (cond t None (Some (k + 2))) → Agrees (events_said names ws) (wrong_from S.Run (k + 1) ws)
        → Agrees (before (event_said names w) (events_said names ws)) (cond t (wrong_from S.Run (k + 1) ws) (Some (k + 2)))
    go true (right e p z) (right es q y) = right (e ∷ es) (rw (p, q)) y
    go true (right e p z) (not_right q n h) = not_right (rw (p, q)) n h
    go true (not_right p n h) j = cc
    go false (right e p z) j = cc
    go false (not_right p n h) j = not_right (rw p) n h

thin_judged : (ws : List (List ℕ)) (s : List ℕ) → Agrees (answer_thin ws s) (wrong_from S.Thin 0 ws)
unfolding answer_thin wrong_from takes least_words
thin_judged [] s = right (printed_thin s) refl refl
thin_judged (w ∷ ws) s = not_right refl 2 refl

-- any words
board_judged : (k : ℕ) (ws : List (List ℕ)) → wrong_from S.Board k ws ≡ None
unfolding wrong_from takes least_words
board_judged k [] = rw (le-leb 0 k (omega arith))
board_judged k (w ∷ ws) = board_judged (k + 1) ws

-- ---- all words

no_help : (ws : List (List ℕ)) → help_asked ws ≡ R.Service → ⊥
unfolding help_asked
no_help [] e = cc
no_help (w ∷ ws) e = cc

no_explanation : (ws : List (List ℕ)) → explanation_asked ws ≡ R.Service → ⊥
unfolding explanation_asked
no_explanation [] e = cc
no_explanation (w ∷ ws) e = cc

-- a service and its words, without the text and with it
judged : (a : Service) (ws : List (List ℕ)) (s : List ℕ) → reply_by a ws ≡ R.Service → Agrees (answer_by a ws s) (cond (is_unknown a) (Some 1) (wrong_from a 0 ws))
unfolding reply_by answer_by is_unknown takes least_words
judged S.Check ws s e = mapped (printed_check s) (size_judged S.Check (λ w. refl) (λ k w. rw (ne_eqb (suc k) 0 (λ z. omega arith))) refl 32768 ws)
judged S.Steps ws s e = mapped (printed_steps s) (size_judged S.Steps (λ w. refl) (λ k w. rw (ne_eqb (suc k) 0 (λ z. omega arith))) refl 1024 ws)
judged S.Name ws s e = mapped (printed_name s) (name_judged (names_of (as_far_as7 s)) ws)
judged S.Run ws s e = mapped (printed_run s) (run_judged (names_of (as_far_as7 s)) 0 ws)
judged S.Thin ws s e = thin_judged ws s
judged S.Merge ws s e = mapped (printed_merge s) (size_judged S.Merge (λ w. refl) (λ k w. rw (ne_eqb (suc k) 0 (λ z. omega arith))) refl 32768 ws)
judged S.Quote ws s e = mapped (printed_quote s) (size_judged S.Quote (λ w. refl) (λ k w. rw (ne_eqb (suc k) 0 (λ z. omega arith))) refl 32768 ws)
judged S.Sheet ws s e = mapped (printed_sheet s) (size_judged S.Sheet (λ w. refl) (λ k w. rw (ne_eqb (suc k) 0 (λ z. omega arith))) refl 32768 ws)
judged S.Board ws s e = right (printed_board s (flat_map ended ws)) refl (board_judged 0 ws)
judged S.Help ws s e = absurd (no_help ws e)
judged S.Explain ws s e = absurd (no_explanation ws e)
judged S.Unknown ws s e = not_right refl 1 refl

-- no word is wrong, and what they come to is a service
right_words : (wrong : Std.Option ℕ) (r : Reply) → unless_wrong wrong r ≡ R.Service → (wrong ≡ None) × (r ≡ R.Service)
unfolding unless_wrong
right_words None r e = (refl, e)
right_words (Some k) r e = cc

said_something : {A : Type 0} {o : Option A} {wrong : Std.Option ℕ} → Agrees o wrong → wrong ≡ None → o ≡ none → ⊥
said_something (right a e z) y q = some-ne-none a (sym e ∙ q)
said_something (not_right e n h) y q = cc

said_nothing : {A : Type 0} {o : Option A} {wrong : Std.Option ℕ} → Agrees o wrong → (wrong ≡ None → ⊥) → o ≡ none
said_nothing (right a e z) n = absurd (n z)
said_nothing (not_right e k h) n = e

-- asked for a service, the program has an answer, whatever the text
pub served : (ws : List (List ℕ)) (s : List ℕ) → reply_asked ws ≡ R.Service → answer_to ws s ≡ none → ⊥
unfolding reply_asked wrong_word answer_to service_asked further_words
served [] s e q = some-ne-none _ q
served (w ∷ ws) s e q =
    let (z, r) = right_words (cond (is_unknown (service_said w)) (Some 1) (wrong_from (service_said w) 0 ws)) (reply_by (service_said w) ws) e in
    said_something (judged (service_said w) ws s r) z q

-- asked for anything else, it has none
pub unserved : (ws : List (List ℕ)) (s : List ℕ) → (reply_asked ws ≡ R.Service → ⊥) → answer_to ws s ≡ none
unfolding reply_asked unless_wrong wrong_word answer_to service_asked further_words is_unknown wrong_from least_words reply_by answer_by
unserved [] s h = absurd (h refl)
unserved (w ∷ ws) s h = go (service_said w) h
  where
    as_right : (wrong : Std.Option ℕ) → wrong ≡ None → unless_wrong wrong R.Service ≡ R.Service
    as_right wrong z = rw z

    go : (a : Service) → (unless_wrong (cond (is_unknown a) (Some 1) (wrong_from a 0 ws)) (reply_by a ws) ≡ R.Service → ⊥) → answer_by a ws s ≡ none
    go S.Check n = said_nothing (judged S.Check ws s refl) (λ z. n (as_right _ z))
    go S.Steps n = said_nothing (judged S.Steps ws s refl) (λ z. n (as_right _ z))
    go S.Name n = said_nothing (judged S.Name ws s refl) (λ z. n (as_right _ z))
    go S.Run n = said_nothing (judged S.Run ws s refl) (λ z. n (as_right _ z))
    go S.Thin n = said_nothing (judged S.Thin ws s refl) (λ z. n (as_right _ z))
    go S.Merge n = said_nothing (judged S.Merge ws s refl) (λ z. n (as_right _ z))
    go S.Quote n = said_nothing (judged S.Quote ws s refl) (λ z. n (as_right _ z))
    go S.Sheet n = said_nothing (judged S.Sheet ws s refl) (λ z. n (as_right _ z))
    go S.Board n = said_nothing (judged S.Board ws s refl) (λ z. n (as_right _ z))
    go S.Help n = refl
    go S.Explain n = refl
    go S.Unknown n = refl

-- The line of a run, by what is answered: a refusal, that all ran, or where a machine blocked. One law for the events of a text and the names on a sheet.
use Prim.Native.Nat.{ℕ, ◌-◌, ◌≤◌}
use native.Mathlib.Omega.{arith}
use mathlib.Core.Path.{◌≡◌, refl, ap, ap₂, sym, ◌∙◌}
use mathlib.Core.Logic.{◌⊎◌, inl, inr}
use mathlib.Core.Bool.{Bool, true, false, not, ◌&&◌}
use mathlib.Core.List.{List, [], ◌++◌}
use mathlib.Core.Option.{Option, none, some}
use lib.Dec.{T}
use lib.ListN.{length, take, replicate, length-append, length-map}
use lib.Seq.{take_at}
use Rattle.model.specs.declared.Refusal as D
use Rattle.model.specs.Cases.{tabled}
use Rattle.model.specs.Refusal.{Refusal, refuse, Checked, refused, passed, need, refusal_of, ◌>>=◌, ◌>>◌}
use Rattle.model.specs.TransitionSystem.{declared}
use Rattle.model.specs.Lists.{every, index, is_empty}
use Rattle.model.specs.Product.{Ran, effective, run_from}
use Rattle.model.specs.Machine.{places, move}
use Rattle.model.specs.Bytes.{Name, bytes, numeral}
use Rattle.model.specs.Text.{Input, system}
use Rattle.model.specs.Services as Services
use Rattle.model.specs.Services.{as_far_as12, written_refusal, run_input, padded, outcome_of, ran_answer}
use Rattle.model.specs.Sheet.{Board}
use Rattle.model.specs.Board.{read_sheet, move_on, start_places, split_names, run_names, run_board, board_run}
use Rattle.model.specs.Printed.{printed_by, ran_word, places_word, ran_line, printed_run, printed_board}
use Rattle.model.proofs.Laws.{dec}
use Rattle.model.proofs.Order.{Verdict, turned_down, let_through}
use Rattle.model.proofs.Texts.{limits_of}
use Rattle.model.proofs.Verdicts.{verdict12, same_passed}
use Rattle.model.proofs.Refusing.{events_declared, events_unknown}
use Rattle.model.proofs.Together.{run_length}
use Rattle.model.proofs.Standing.{length_places}
use Rattle.model.proofs.Demands.{demand1}
use Rattle.std.specs.Prelude as Std
use Rattle.rows.specs.declared.Tables.{Tables}
use Rattle.writers.proofs.Refusals.{numeral_most}
use Rattle.product.specs.declared.Outcome.{Outcome}
use Rattle.product.specs.declared.Outcome.TheVariants.{Whole, Blocked, Refused}
use Rattle.product.specs.declared.RunAnswer.{RunAnswer}
use Rattle.product.specs.Answers.{outcome_is, run_answer}
use Rattle.stages.specs.Stages.{ReadAsFarAs12}
use Rattle.stages.proofs.Stages.{past_12}
use Rattle.board_service.specs.Boards.{RunsBoard}
use Rattle.printing.specs.Shown.{FewMachines, outcome_line}

-- ---- how many machines the rows have

-- if the text passes, it has so many machines
abbrev MachinesOf : List ℕ → ℕ → Type 0
MachinesOf s n = (v : Input) → as_far_as12 s ≡ passed v → n ≡ length v.machines

pub machines_of : {s : List ℕ} {r : Std.Result (Unit {0}) D.Refusal} {p : Tables} {pre post excited : List ℕ} → ReadAsFarAs12 s r p pre post excited
    → MachinesOf s p.counts.machines
machines_of h v e =
    let j = h.judged (h.verdict ∙ ap refusal_of e) in
    j.past.held.told.tells_machines.counted
    ∙ ap (λ (x : Input). length x.machines) (same_passed j.past.held.value v (sym (past_12 j) ∙ e))

-- ---- what is run, and what it comes to
abbrev running : List ℕ → List ℕ → Checked Ran
running s es = as_far_as12 s >>= λ v. run_input v es

data Comes (s es : List ℕ) : Type 0 where
  stopped : (r : Refusal) → running s es ≡ refused r → Comes s es
  ran : (v : Input) (a : Ran) → running s es ≡ passed a → as_far_as12 s ≡ passed v → length v.machines ≤ 16 → length a.places ≡ length v.machines
      → Comes s es

comes : (s es : List ℕ) → Comes s es
comes s es = go (verdict12 s)
  where
    go : Verdict 12 s (as_far_as12 s) → Comes s es
    go (turned_down r e f) = stopped r (ap (λ (c : Checked Input). c >>= λ w. run_input w es) e)
    go (let_through v e p) = on (dec (declared (length v.names) es))
      where
        start : List ℕ
        start = places v.machines v.initial

        here : running s es ≡ run_input v es
        here = ap (λ (c : Checked Input). c >>= λ w. run_input w es) e

        on : T (declared (length v.names) es) ⊎ T (not (declared (length v.names) es)) → Comes s es
        on (inl t) =
            ran v (run_from (move (system v)) v.machines start es) (here ∙ events_declared (move (system v)) (length v.names) v.machines start es t) e (limits_of s v p.reads).machines_most
            (run_length (move (system v)) v.machines es start (length_places v.machines v.initial))
        on (inr t) = stopped _ (here ∙ events_unknown (move (system v)) (length v.names) v.machines start es t)

-- the machines of a run that is not refused: so many, and each has a place
abbrev RunMachines : Checked Ran → ℕ → Type 0
RunMachines c n = (a : Ran) → c ≡ passed a → (length a.places ≡ n) × (n ≤ 16)

text_machines : (s es : List ℕ) {n : ℕ} → MachinesOf s n → RunMachines (running s es) n
text_machines s es {n} known a p = go (comes s es)
  where
    go : Comes s es → (length a.places ≡ n) × (n ≤ 16)
    go (stopped r e) = let z : ◌≡◌ {A = ℕ} 0 1 = cc in absurd (omega arith)
    go (ran v x e y few size) = let z : x ≡ a = cc in let k = known v y in (rw (← z) (size ∙ sym k), omega (arith, few))

-- ---- of the names on a sheet's machines

abbrev boarding : List ℕ → List ℕ → Checked Ran
boarding s t = read_sheet s >>= λ b. run_board b t

sheet_machines : (s t : List ℕ) {n : ℕ} → ((b : Board) → read_sheet s ≡ passed b → n ≡ length b) → RunMachines (boarding s t) n
unfolding run_names start_places
sheet_machines s t {n} known a p = go (read_sheet s) refl p
  where
    go : (c : Checked Board) → read_sheet s ≡ c → (c >>= λ b. run_board b t) ≡ passed a → (length a.places ≡ n) × (n ≤ 16)
    go (refused r) e q = let z : ◌≡◌ {A = ℕ} 0 1 = cc in absurd (omega arith)
    go (passed b) e q = by (every (effective move_on b) es && is_empty rest) q
      where
        es : List Name
        es = (split_names [] t).0

        rest : List ℕ
        rest = (split_names [] t).1

        by : (u : Bool) → (need (refuse 14 (index (λ e. not (effective move_on b e)) es) 0) u >> passed (run_from move_on b (start_places b) es)) ≡ passed a
            → (length a.places ≡ n) × (n ≤ 16)
        by true h =
            let z : run_from move_on b (start_places b) es ≡ a = cc in
            let k = known b e in
            (rw (← z) (run_length move_on b es (start_places b) (length-map b (λ l. l.start)) ∙ sym k), omega (arith, (((demand1 s).loading.accepts b).0 e).1.most))
        by false h = let z : ◌≡◌ {A = ℕ} 0 1 = cc in absurd (omega arith)

-- ---- the line by the answer

module _ {o : Outcome} (qs : List ℕ) where
  pub line_refused : {why : D.Refusal} → o ≡ Refused why → outcome_line (outcome_is o) qs ≡ written_refusal (tabled why)
  unfolding outcome_is outcome_line
  line_refused e = rw e

  pub line_whole : o ≡ Whole → outcome_line (outcome_is o) qs ≡ bytes "(whole " ++ places_word qs
  unfolding outcome_is outcome_line ran_word
  line_whole e = rw e

  pub line_blocked : {n m : ℕ} → o ≡ Blocked n m → outcome_line (outcome_is o) qs ≡ ran_word n (some m) ++ places_word qs
  unfolding outcome_is outcome_line
  line_blocked e = rw e

module _ {o : Outcome} {machines : ℕ} (f : FewMachines (outcome_is o) machines) where
  pub few_whole : o ≡ Whole → machines ≤ 16
  unfolding outcome_is
  few_whole e = f.few (λ r h. let z : ◌≡◌ {A = ℕ} 0 1 = cc in omega arith)

  pub few_blocked : {n m : ℕ} → o ≡ Blocked n m → machines ≤ 16
  unfolding outcome_is
  few_blocked e = f.few (λ r h. let z : ◌≡◌ {A = ℕ} 0 1 = cc in omega arith)

-- what stands before the places of a run that was blocked
pub blocked_most : (n m : ℕ) → length (ran_word n (some m)) ≤ 51
unfolding ran_word
blocked_most n m =
    omega (
      arith,
      length-append (bytes "(blocked ") (numeral n ++ (bytes " " ++ (numeral m ++ bytes " "))),
      length-append (numeral n) (bytes " " ++ (numeral m ++ bytes " ")),
      length-append (bytes " ") (numeral m ++ bytes " "),
      length-append (numeral m) (bytes " "),
      numeral_most n,
      numeral_most m,
    )

-- ---- what is printed of a run, whatever is run

went : (n : ℕ) (o : Option ℕ) (qs : List ℕ) → outcome_line (outcome_of n o) qs ≡ ran_word n o ++ places_word qs
unfolding outcome_line outcome_of ran_word
went n none qs = refl
went n (some m) qs = refl

not_refused : (n : ℕ) (o : Option ℕ) (r : Refusal) → ¬ (outcome_of n o ≡ Services.refused_by r)
unfolding outcome_of
not_refused n none r h = let z : ◌≡◌ {A = ℕ} 0 1 = cc in omega arith
not_refused n (some m) r h = let z : ◌≡◌ {A = ℕ} 0 1 = cc in omega arith

module _ (c : Checked Ran) (answer : RunAnswer) (told : run_answer answer ≡ ran_answer c) (machines : ℕ) (known : RunMachines c machines) where
  outcome_told : {x : Checked Ran} → c ≡ x → outcome_is answer.outcome ≡ (ran_answer x).outcome
  unfolding run_answer
  outcome_told e = ap (λ (a : Services.RunAnswer). a.outcome) (told ∙ ap ran_answer e)

  places_told : {x : Checked Ran} → c ≡ x → answer.places ≡ (ran_answer x).places
  unfolding run_answer
  places_told e = ap (λ (a : Services.RunAnswer). a.places) (told ∙ ap ran_answer e)

  pub few_machines : FewMachines (outcome_is answer.outcome) machines
  unfolding ran_answer
  few_machines = go c refl
    where
      go : (x : Checked Ran) → c ≡ x → FewMachines (outcome_is answer.outcome) machines
      go (refused r) e = record { few = λ n. absurd (n r (outcome_told e)) }
      go (passed a) e = record { few = λ n. (known a e).1 }

  pub ran_printed : outcome_line (outcome_is answer.outcome) (take machines answer.places) ≡ printed_by ran_line c
  unfolding ran_answer outcome_line printed_by ran_line padded
  ran_printed = go c refl
    where
      go : (x : Checked Ran) → c ≡ x → outcome_line (outcome_is answer.outcome) (take machines answer.places) ≡ printed_by ran_line c
      go (refused r) e = rw (outcome_told e, e)
      go (passed a) e =
          ap₂ outcome_line (outcome_told e) (ap (take machines) (places_told e) ∙ take_at a.places (replicate (16 - length a.places) 0) machines (known a e).0)
          ∙ went a.ran a.blocked a.places
          ∙ sym (ap (printed_by ran_line) e)

-- ---- both runs

module _ (s es : List ℕ) (answer : RunAnswer) (told : run_answer answer ≡ Services.run s es) (machines : ℕ) (known : MachinesOf s machines) where
  pub run_few : FewMachines (outcome_is answer.outcome) machines
  unfolding Services.run
  run_few = few_machines (running s es) answer told machines (text_machines s es known)

  pub run_printed : outcome_line (outcome_is answer.outcome) (take machines answer.places) ≡ printed_run s es
  unfolding Services.run printed_run
  run_printed = ran_printed (running s es) answer told machines (text_machines s es known)

module _ {s t : List ℕ} {machines : ℕ} {answer : RunAnswer} (r : RunsBoard s t machines answer) where
  pub board_few : FewMachines (outcome_is answer.outcome) machines
  unfolding board_run
  board_few = few_machines (boarding s t) answer r.runs machines (sheet_machines s t r.counted)

  pub board_printed : outcome_line (outcome_is answer.outcome) (take machines answer.places) ≡ printed_board s t
  unfolding board_run printed_board
  board_printed = ran_printed (boarding s t) answer r.runs machines (sheet_machines s t r.counted)

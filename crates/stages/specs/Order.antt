-- Refusals 4 to 10 in the fixed order: the transition system, each machine; and what the check leaves.
use Rattle.std.specs.Prelude.{ℕ, ◌≡◌, List, Result}
use Rattle.std.proofs.Math.Option.{Option, none, or_else}
use Rattle.model.specs.declared.Refusal as D
use Rattle.model.specs.Refusal.{Refusal}
use Rattle.model.specs.TransitionSystem.{TransitionSystem, system_refusal}
use Rattle.model.specs.Machine.{Decomposition, machines_refusal}
use Rattle.rows.specs.declared.Counts.{Counts}
use Rattle.rows.specs.declared.Tables.{Tables}
use Rattle.rows.specs.Tables.{verdict_refusal, tables_in}
use Rattle.rows.specs.Told.{system_of, MachinesTold}
use Rattle.rows.specs.Bounded.{Bounded}
use Rattle.closure.specs.Covers.{CoverTold}

unfoldable pub refusal_to10 : TransitionSystem → Decomposition → Option Refusal
refusal_to10 ts ms = or_else (system_refusal ts) (machines_refusal ts 0 ms)

-- the verdict is that of 4 to 10 on the machines that the tables tell; passed, the rows tell what 11 and 12 ask for
pub record CheckedTo10 (p : Tables) (pre post excited : List ℕ) (r : Result (Unit {0}) D.Refusal) : Type 0 where
  pub refusal : (ms : Decomposition) → MachinesTold (system_of p) p ms → verdict_refusal r ≡ refusal_to10 (system_of p) ms
  pub rows : (ms : Decomposition) → MachinesTold (system_of p) p ms → verdict_refusal r ≡ none → CoverTold (system_of p) ms pre post p.place excited

-- whatever the names and the sizes of the machines are
abbrev pub ChecksRows : Counts → List ℕ → List ℕ → List ℕ → List ℕ → List ℕ → List ℕ → List ℕ → List ℕ → Result (Unit {0}) D.Refusal → Type 0
ChecksRows c source event target duplicate place pre post excited r =
    (ats lens sizes : List ℕ) → Bounded (tables_in c ats lens source event target sizes duplicate place)
    → CheckedTo10 (tables_in c ats lens source event target sizes duplicate place) pre post excited r

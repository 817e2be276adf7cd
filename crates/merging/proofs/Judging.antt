-- 11 and 12, and then the pass: what the verdict and the rows say of the text.
use Prim.Native.Nat.{ℕ}
use mathlib.Core.Path.{◌≡◌, refl, ap, sym, ◌∙◌}
use mathlib.Core.List.{List}
use mathlib.Core.Option.{none}
use Rattle.model.specs.Machine.{cover_refusal}
use Rattle.model.specs.Text.{Input, system}
use Rattle.model.specs.Cases.{tabled}
use Rattle.model.specs.declared.Refusal as D
use Rattle.rows.specs.declared.Counts.{Counts}
use Rattle.std.specs.Prelude.{Result, Ok, Err}
use Rattle.rows.specs.Tables.{verdict_refusal}
use Rattle.closure.specs.Covers.{PlaceSets, CoverJudged}
use Rattle.closure.proofs.Cover.{no_pass, sets_told}
use Rattle.merging.specs.Bars.{seen, Later}
use Rattle.merging.specs.Numbers.{Filled}
use Rattle.merging.specs.Merges.{MergeRows, SheetRows, HeldPast10, MachinesMerged, Merges}

pub sheet_rows_lem : {c : Counts} {place sizes pre post : List ℕ} → MergeRows c place sizes pre post → SheetRows c place sizes pre post
sheet_rows_lem r = record { place_size_lem = r.place_size_lem; sizes_size = r.sizes_size; moves = r.moves; counts = r.counts }

module _ {c : Counts} {place sizes pre post excited : List ℕ} {r : Result (Unit {0}) D.Refusal} (judged : CoverJudged c pre place excited r) where
  -- the verdict is that of 11 and 12
  verdict : (s : List ℕ) (v : Input) → HeldPast10 s v c place sizes pre post excited → verdict_refusal r ≡ cover_refusal (system v) v.machines
  verdict s v h =
      judged.judges (system v) v.machines post h.cover (sym h.states) (sym h.events) (sym h.machines)

  pub merge_refused : {why : D.Refusal} → r ≡ Err why → SheetRows c place sizes pre post → Merges c place sizes pre post excited (Err why) place sizes pre post
  unfolding verdict_refusal
  merge_refused {why} e rows = record { rows = rows; judges = λ s v h. sym (ap verdict_refusal e) ∙ verdict s v h; tells = λ s v h n. no_pass (tabled why) n }

  pub merge_passed : {u : Unit {0}} {words words2 : ℕ} {sets later earlier place2 sizes2 pre2 post2 : List ℕ} → r ≡ Ok u → (verdict_refusal r ≡ none → PlaceSets place c.states words c.machines sets)
      → Later sets pre c.machines c.events words2 later → Filled c.states c.events earlier
      → MachinesMerged c (seen sets pre post earlier later excited) place sizes place2 sizes2 pre2 post2 → Merges c place sizes pre post excited (Ok u) place2 sizes2 pre2 post2
  unfolding verdict_refusal
  merge_passed {words} {sets} e filled l f y =
      record {
        rows = y.rows;
        judges = λ s v h. sym (ap verdict_refusal e) ∙ verdict s v h;
        tells = λ s v h n.
            y.tells s v h (sym (verdict s v h) ∙ ap verdict_refusal e)
            (sets_told h.cover (rw h.states at filled (ap verdict_refusal e)) h.machines).places
            (record { size = refl; common = l.common }) f;
      }

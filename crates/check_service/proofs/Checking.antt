-- Check and sheet, by whether the text passes 12.
use Prim.Native.Nat.{ℕ}
use mathlib.Core.Path.{◌≡◌, refl}
use mathlib.Core.List.{List}
use Rattle.std.specs.Prelude.{Err}
use Rattle.model.specs.declared.Refusal as D
use Rattle.model.specs.Cases.{tabled}
use Rattle.model.specs.Refusal.{Checked, refused, passed}
use Rattle.model.specs.Sheet.{sheet}
use Rattle.model.specs.Services.{as_far_as12, lend, check}
use Rattle.rows.specs.declared.Tables.{Tables}
use Rattle.rows.proofs.Bounds.{limits}
use Rattle.sheet.specs.Written.{row_sheet}
use Rattle.sheet.proofs.Told.{told_sheet}
use Rattle.stages.specs.Stages.{Judged}
use Rattle.stages.proofs.Stages.{past_12, machines_pass}
use Rattle.answers.specs.Answers.{answered}

-- refused by 1 to 12
pub check_refused : (s out : List ℕ) (why : D.Refusal) → as_far_as12 s ≡ refused (tabled why)
    → (answered (Err why) ≡ (check s out).answer) × (out ≡ (check s out).left)
unfolding answered check lend
check_refused s out why e = rw e (refl, refl)

module _ {s : List ℕ} {p : Tables} {pre post excited : List ℕ} (j : Judged s p pre post excited) (out left : List ℕ) (a : Checked ℕ) where
  -- what is handed over is what the call gives
  pub check_passed : (a ≡ (lend (passed (row_sheet s p pre post)) out).answer) × (left ≡ (lend (passed (row_sheet s p pre post)) out).left)
      → (a ≡ (check s out).answer) × (left ≡ (check s out).left)
  unfolding check
  check_passed h =
      let v = j.past.held.value in
      let told : row_sheet s p pre post ≡ sheet v = told_sheet s v p pre post j.past.held.told j.past.cover.moves (machines_pass j.past) (limits s v j.past.held.passes) in
      rw (past_12 j) (rw told at h)

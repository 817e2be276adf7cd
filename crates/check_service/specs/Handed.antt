-- The sheet that the rows give, lent the caller's buffer, whatever stands in the rows that it does not look at.
use Rattle.std.specs.Prelude.{ℕ, ◌≡◌, List, Result}
use Rattle.model.specs.declared.Refusal as D
use Rattle.model.specs.Refusal.{passed}
use Rattle.model.specs.Services.{lend}
use Rattle.rows.specs.declared.Counts.{Counts}
use Rattle.rows.specs.Tables.{tables_in}
use Rattle.sheet.specs.Written.{row_sheet}
use Rattle.answers.specs.Answers.{answered}

abbrev pub HandsOver : List ℕ → Counts → List ℕ → List ℕ → List ℕ → List ℕ → List ℕ → List ℕ → List ℕ → Result ℕ D.Refusal → List ℕ → Type 0
HandsOver s c ats lens sizes places pre post out r left =
    (sources events targets duplicates : List ℕ)
    → (answered r ≡ (lend (passed (row_sheet s (tables_in c ats lens sources events targets sizes duplicates places) pre post)) out).answer)
    × (left ≡ (lend (passed (row_sheet s (tables_in c ats lens sources events targets sizes duplicates places) pre post)) out).left)

-- What is handed over once a text is past 12, by the rows that are lent.
use Rattle.std.specs.Prelude.{ℕ, ◌≤◌, ◌≡◌, List, Result, length}
use Rattle.model.specs.declared.Refusal as D
use Rattle.model.specs.Refusal.{passed}
use Rattle.model.specs.Services.{lend}
use Rattle.rows.specs.declared.Counts.{Counts}
use Rattle.quotation.specs.Lines.{row_quotation}
use Rattle.answers.specs.Answers.{answered}

-- the quotation is no longer than the longest
abbrev pub IsShort : List ℕ → Counts → List ℕ → List ℕ → List ℕ → List ℕ → ℕ → Type 0
IsShort s c ats lens sizes pre kept = length (row_quotation s c ats lens sizes pre kept) ≤ 2566

-- the quotation that the rows give, lent the caller's buffer
abbrev pub HandsOver : List ℕ → Counts → List ℕ → List ℕ → List ℕ → List ℕ → ℕ → List ℕ → Result ℕ D.Refusal → List ℕ → Type 0
HandsOver s c ats lens sizes pre kept out r left =
    (answered r ≡ (lend (passed (row_quotation s c ats lens sizes pre kept)) out).answer) × (left ≡ (lend (passed (row_quotation s c ats lens sizes pre kept)) out).left)

-- The rows that a caller lends: what they hold after a text is read into them. Before, they are fresh.
use Rattle.std.specs.Prelude.{ℕ, ◌≡◌, List, Result}
use Rattle.model.specs.declared.Refusal as D
use Rattle.model.specs.Refusal.{Refusal, Checked, refused, passed, refusal_of}
use Rattle.model.specs.Text.{Input, read}
use Rattle.rows.specs.declared.Counts.{Counts}
use Rattle.rows.specs.declared.Tables.{Tables}
use Rattle.rows.specs.Tables.{verdict_refusal, tables_of, tables_in, no_counts}
pub use Rattle.rows.specs.Tables.{FreshRows}
use Rattle.rows.specs.Told.{Told}

-- the counts and the rows of a text: passed, its tables, which tell its value; refused, counts of 0, and rows of which nothing is said
pub record ReadsRows (s : List ℕ) (c : Counts) (ats lens sources events targets sizes duplicates places : List ℕ) : Type 0 where
  pub tables : (v : Input) → read s ≡ passed v → tables_in c ats lens sources events targets sizes duplicates places ≡ tables_of s v
  pub told : (v : Input) → read s ≡ passed v → Told s v (tables_in c ats lens sources events targets sizes duplicates places)
  pub none : (q : Refusal) → read s ≡ refused q → c ≡ no_counts

-- the same of lines that come to c, with the code's answer
pub record AnswersRows (s : List ℕ) (c : Checked Input) (v : Result (Unit {0}) D.Refusal) (k : Counts) (p : Tables) : Type 0 where
  pub verdict : verdict_refusal v ≡ refusal_of c
  pub rows : (x : Input) → c ≡ passed x → p ≡ tables_of s x
  pub none : (q : Refusal) → c ≡ refused q → k ≡ no_counts

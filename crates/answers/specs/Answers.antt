-- The answers of calls that lend a list in the model's words, with document 01's number and details for each refusal.
use Rattle.std.specs.Prelude.{ℕ, Result, Ok, Err}
use Rattle.model.specs.declared.Refusal as D
use Rattle.model.specs.Refusal.{Refusal, refuse, Checked, refused, passed}
use Rattle.model.specs.Cases.{tabled}
use Rattle.answers.specs.declared.RefusalNumbers.{RefusalNumbers}

-- how many entries were written, or the refusal; injective by proofs/Injective
unfoldable pub answered : Result ℕ D.Refusal → Checked ℕ
answered (Err why) = refused (tabled why)
answered (Ok size) = passed size

unfoldable pub numbered : RefusalNumbers → Refusal
numbered n = refuse n.number n.detail n.second

-- The part of the text that Name hands back, and its refusal.
use Rattle.std.specs.Prelude.{ℕ, ◌+◌, ◌≤◌, ◌≡◌, List, Result, Ok, Err, length, take, drop}
use Rattle.std.proofs.Math.Option.{Option, none, some}
use Rattle.std.specs.Borrow.{Bor}
use Rattle.model.specs.declared.Refusal as D
use Rattle.model.specs.Refusal.{Refusal}
use Rattle.model.specs.Cases.{tabled}
use Rattle.model.specs.Services.{Part, name, handed_back, name_refusal}
use Rattle.name_service.specs.declared.NamePart.{NamePart}

-- the refusal, with its number and details in the table, if there is one
unfoldable pub part_refusal : Result NamePart D.Refusal → Option Refusal
part_refusal (Err why) = some (tabled why)
part_refusal (Ok _) = none

-- where the name stands; refused, the empty part at the text's beginning
unfoldable pub part_in : Result NamePart D.Refusal → NamePart
part_in (Err _) = record { from = 0; end = 0 }
part_in (Ok part) = part

-- r has the refusal of Name, and the part that it hands back
pub record Named (s : List ℕ) (e : ℕ) (r : Result NamePart D.Refusal) : Type 0 where
  pub verdict : part_refusal r ≡ name_refusal s e
  pub begins : (part_in r).from ≡ (handed_back (name s e)).from
  pub ends : (part_in r).end ≡ (handed_back (name s e)).from + (handed_back (name s e)).size
  pub inside : (part_in r).end ≤ length s

-- What is handed back is the caller's own text from `from` on: these bytes, in the text's own memory, `from` bytes after its beginning.
pub record PartOf (text : Bor (List ℕ)) (part : Part) (r : Bor (List ℕ)) : Type 0 where
  pub bytes : r.now ≡ take part.size (drop part.from text.now)
  pub block : r.ref_ptr.0 ≡ text.ref_ptr.0
  pub place : r.ref_ptr.1 ≡ text.ref_ptr.1 + part.from

-- The program writes a good sheet again.
use Prim.Native.Nat.{ℕ}
use mathlib.Core.Path.{◌≡◌, ap, sym}
use mathlib.Core.List.{List, [], ◌∷◌}
use mathlib.Core.Option.{some}
use lib.Dec.{leb, le→leb}
use lib.ListN.{length}
use Rattle.model.specs.Bytes.{bytes}
use Rattle.model.specs.Sheet.{Board, written_sheet}
use Rattle.model.specs.BoardTable.{SaysSheet}
use Rattle.model.specs.Printed.{printed_by, fitting, printed_sheet}
use Rattle.model.proofs.Laws.{T_true}
use Rattle.model.proofs.Loading.{says_loaded}
use Rattle.command_line.specs.Words.{service_said}
use Rattle.command_line.specs.Program.{size_said, answer_by, answer_to}

-- With no size said 32,768 bytes are lent, which suffice for every good sheet.
pub sheet_restored : (s : List ℕ) (b : Board) → SaysSheet s b → answer_to (bytes "sheet" ∷ []) s ≡ some s
unfolding printed_by fitting printed_sheet service_said size_said answer_by answer_to
sheet_restored s b w =
    rw (says_loaded s b w, T_true (leb (length (written_sheet b)) 32768) (le→leb (length (written_sheet b)) 32768 w.1.size)) (ap some (sym w.0))

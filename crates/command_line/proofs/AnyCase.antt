-- An EVENT says the same event in any case.
use Prim.Native.Nat.{ℕ, ◌+◌}
use native.Mathlib.Omega.{arith}
use mathlib.Core.Path.{◌≡◌, refl, ap, sym, ◌∙◌}
use mathlib.Core.Bool.{true}
use mathlib.Core.List.{List, [], append-nil}
use mathlib.Core.Option.{some}
use lib.Dec.{eqb, eqb_refl}
use lib.ListN.{length}
use Rattle.model.specs.Bytes.{Name, IsName, OneEvent, is_name_byte, is_letter, is_capital, is_digit}
use Rattle.model.specs.Reading.{got, name}
use Rattle.model.proofs.Laws.{T_true}
use Rattle.model.proofs.Words.{name_complete}
use Rattle.model.proofs.OneEvent.{one_sym, one_name}
use Rattle.model.proofs.Alike.{same_number}
use Rattle.lexer.specs.Words.{as_name}
use Rattle.command_line.specs.Words.{is_name_word, event_said}
use Rattle.command_line.proofs.WholeNames.{name_to_end}

name_word : (w : Name) → IsName w → is_name_word w ≡ true
unfolding is_name_byte is_letter is_capital is_digit
name_word w n =
    let e : name w 0 ≡ got w (0 + length w) = name_complete w n w 0 [] tt (sym (append-nil w)) in
    let z : 0 + length w ≡ length w = omega arith in
    sym (name_to_end w refl (ap as_name e)) ∙ ap (λ (k : ℕ). eqb k (length w)) z ∙ T_true (eqb (length w) (length w)) (eqb_refl (length w))

pub event_any_case : (names : List Name) (w u : Name) → IsName w → OneEvent w u → event_said names w ≡ event_said names u
unfolding event_said
event_any_case names w u n o = rw (name_word w n, name_word u (one_name u w (one_sym w u o) n)) (ap some (same_number names w u o))

-- What the words of a command line say. A figure or a name is as document 01 has it, but for the number of digits: a size has more than three.
use Rattle.std.specs.Prelude.{ℕ, min, Bool, true, false, not, cond, ◌&&◌, ◌||◌, List, [], ◌∷◌, leb, eqb, length, get_or, Some, None}
use Rattle.std.specs.Prelude as Std
use Rattle.std.proofs.Math.Option.{Option, none, some}
use Rattle.model.specs.Lists.{every}
use Rattle.model.specs.Bytes as B
use Rattle.model.specs.Bytes.{bytes, is_digit, is_name_byte, is_name, decimal}
use Rattle.model.specs.Text.{event_number}
use Rattle.command_line.specs.declared.Service.{Service}
use Rattle.command_line.specs.declared.Service.TheVariants.{Check, Steps, Name, Run, Thin, Merge, Quote, Sheet, Board, Help, Explain, Unknown}

-- the same bytes, whatever makes two names one event
abbrev pub same_word : List ℕ → List ℕ → Bool
same_word [] [] = true
same_word [] (b ∷ v) = false
same_word (a ∷ w) [] = false
same_word (a ∷ w) (b ∷ v) = eqb a b && same_word w v

unfoldable pub service_said : List ℕ → Service
service_said w =
    cond (same_word w (bytes "check")) Check
    (cond (same_word w (bytes "steps")) Steps
    (cond (same_word w (bytes "name")) Name
    (cond (same_word w (bytes "run")) Run
    (cond (same_word w (bytes "thin")) Thin
    (cond (same_word w (bytes "merge")) Merge
    (cond (same_word w (bytes "quote")) Quote
    (cond (same_word w (bytes "sheet")) Sheet
    (cond (same_word w (bytes "board")) Board
    (cond (same_word w (bytes "help")) Help
    (cond (same_word w (bytes "explain")) Explain Unknown))))))))))

-- one or more digits with no leading zero, 0 itself excepted
unfoldable pub is_numeral : List ℕ → Bool
is_numeral w = leb 1 (length w) && ((eqb (length w) 1 || not (eqb (get_or w 0 0) 48)) && every is_digit w)

unfoldable pub is_name_word : List ℕ → Bool
is_name_word w = every is_name_byte w && is_name w

unfoldable pub said : Std.Option ℕ → Option ℕ
said None = none
said (Some n) = some n

-- a number, or the most that tells it from others
unfoldable pub number_said : ℕ → List ℕ → Option ℕ
number_said most w = cond (is_numeral w) (some (min (decimal w) most)) none

-- an event by its name or its number; a name that is not among these is their count, which no event has
unfoldable pub event_said : List B.Name → List ℕ → Option ℕ
event_said names w = cond (is_name_word w) (some (event_number names w)) (number_said 255 w)

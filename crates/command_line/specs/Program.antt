-- What the program answers to its words, those after its own name, and the text, or the sheet, on its standard input. Document 01 leaves this to the program, so all of it is believed.
use Rattle.std.specs.Prelude.{ℕ}
use mathlib.Core.List.{List, [], ◌∷◌, flat_map}
use Rattle.std.proofs.Math.Option.{Option, none, some, map}
use Rattle.model.specs.Refusal.{Checked, refused, passed}
use Rattle.model.specs.Bytes as B
use Rattle.model.specs.Text.{Input}
use Rattle.model.specs.Services.{as_far_as7, printed}
use Rattle.model.specs.BoardTable.{ended}
use Rattle.model.specs.Printed.{printed_check, printed_steps, printed_name, printed_run, printed_thin, printed_merge, printed_quote, printed_sheet, printed_board}
use Rattle.command_line.specs.declared.Service.{Service}
use Rattle.command_line.specs.declared.Service.TheVariants.{Check, Steps, Name, Run, Thin, Merge, Quote, Sheet, Board, Help, Explain, Unknown}
use Rattle.command_line.specs.Words.{service_said, number_said, event_said}

-- the size that a word says, or the usual one where there is no word
unfoldable pub size_said : ℕ → List (List ℕ) → Option ℕ
size_said usual [] = some usual
size_said usual (w ∷ []) = number_said 65535 w
size_said usual (w ∷ v ∷ ws) = none

-- the event that one word says
unfoldable pub one_event_said : List B.Name → List (List ℕ) → Option ℕ
one_event_said names [] = none
one_event_said names (w ∷ []) = event_said names w
one_event_said names (w ∷ v ∷ ws) = none

unfoldable pub before : Option ℕ → Option (List ℕ) → Option (List ℕ)
before none es = none
before (some e) none = none
before (some e) (some es) = some (e ∷ es)

-- the event that each word says
unfoldable pub events_said : List B.Name → List (List ℕ) → Option (List ℕ)
events_said names [] = some []
events_said names (w ∷ ws) = before (event_said names w) (events_said names ws)

-- the names of a text that is not refused
unfoldable pub names_of : Checked Input → List B.Name
names_of (refused r) = []
names_of (passed v) = v.names

unfoldable pub answer_thin : List (List ℕ) → List ℕ → Option (List ℕ)
answer_thin [] s = some (printed_thin s)
answer_thin (w ∷ ws) s = none

-- the answer to a service and the words after it
unfoldable pub answer_by : Service → List (List ℕ) → List ℕ → Option (List ℕ)
answer_by Check ws s = map (printed_check s) (size_said 32768 ws)
answer_by Steps ws s = map (printed_steps s) (size_said 1024 ws)
answer_by Name ws s = map (printed_name s) (one_event_said (names_of (as_far_as7 s)) ws)
answer_by Run ws s = map (printed_run s) (events_said (names_of (as_far_as7 s)) ws)
answer_by Thin ws s = answer_thin ws s
answer_by Merge ws s = map (printed_merge s) (size_said 32768 ws)
answer_by Quote ws s = map (printed_quote s) (size_said 32768 ws)
answer_by Sheet ws s = map (printed_sheet s) (size_said 32768 ws)
answer_by Board ws s = some (printed_board s (flat_map ended ws))
answer_by Help ws s = none
answer_by Explain ws s = none
answer_by Unknown ws s = none

-- What is printed; none: what is put then `reply_asked` says (Replies). With no word the sheet is printed, or the refusal.
unfoldable pub answer_to : List (List ℕ) → List ℕ → Option (List ℕ)
answer_to [] s = some (printed s)
answer_to (w ∷ ws) s = answer_by (service_said w) ws s

-- the service that the first word says
unfoldable pub service_asked : List (List ℕ) → Service
service_asked [] = Check
service_asked (w ∷ ws) = service_said w

-- the words after the first
unfoldable pub further_words : List (List ℕ) → List (List ℕ)
further_words [] = []
further_words (w ∷ ws) = ws

-- the bytes on standard output: none where there is no answer
unfoldable pub output_of : Option (List ℕ) → List ℕ
output_of none = []
output_of (some word) = word

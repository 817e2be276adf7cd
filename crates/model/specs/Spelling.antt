-- What slip 5 of document 02, "Names as the drawings spell them", says of names, and of texts and sheets respelt.
-- Believed, as statements. Proved of all names, texts and sheets (proofs/Spellings: one_event_holds, respelling_holds; proofs/SheetSpellings: sheet_respelling_holds); proofs/Respelt has a
-- text and a sheet that are respelt. The slip's other sentences stand with what they speak of: "Declaring both is 3" in Table and demand2 (`as_far_as_3`), "A sheet
-- prints the spelling of the events line" in demand2 (`shown`), "a sheet that was read keeps its own spelling" in demand1 (`rewriting`).
use Rattle.std.specs.Prelude.{ℕ, ◌+◌, ◌≤◌, ◌≡◌, ◌⊎◌, ◌↔◌, T}
use mathlib.Core.List.{List, ◌++◌, flat_map}
use Rattle.model.specs.Lists.{At, Pairwise}
use Rattle.model.specs.Refusal.{Refusal, refused}
use Rattle.model.specs.TransitionSystem.{Transition}
use Rattle.model.specs.Bytes.{Name, Letter, IsName, OneEvent, same_name}
use Rattle.model.specs.Form.{Line, written, Respelt}
use Rattle.model.specs.Text.{read}
use Rattle.model.specs.Table.{Begins}
use Rattle.model.specs.Sheet.{NamedMove, NamedLine, Board, written_count, written_line}
use Rattle.model.specs.Board.{read_sheet, board_run}
use Rattle.model.specs.BoardTable.{BeginsSheet}
use Rattle.model.specs.Services.{check, printed, steps, name, name_refusal, run, thin, merge, quote}

-- b is the capital a as a small letter
pub record SmallOf (a b : ℕ) : Type 0 where
  pub least : 65 ≤ a
  pub most : a ≤ 90
  pub small : b ≡ a + 32

-- the same byte, or the same letter in another case
abbrev pub SameButCase : ℕ → ℕ → Type 0
SameButCase a b = (a ≡ b) ⊎ (SmallOf a b ⊎ SmallOf b a)

pub record OneEventLaws (e f : Name) : Type 0 where
  -- "names that differ only in case are one event"
  pub only_case : OneEvent e f ↔ Pairwise SameButCase e f
  -- "Names may hold A-Z": in any case it is a name
  pub name : OneEvent e f → IsName f → IsName e
  -- a digit, a hyphen, any byte that is no letter stays where it is
  pub others_stay : OneEvent e f → (i b : ℕ) → ¬ Letter b → At e i b → At f i b
  pub reflexive : OneEvent e e
  pub symmetric : OneEvent e f → OneEvent f e
  pub transitive : (g : Name) → OneEvent e f → OneEvent f g → OneEvent e g
  pub tested : T (same_name e f) ↔ OneEvent e f

-- ---- texts: what a planner relies on

-- t is the text s with the names on its step lines spelt in other ways, as far as lines have their form; what stands behind these is the same
pub record RespeltText (s t : List ℕ) : Type 0 where
  pub lines : List Line
  pub rest : List ℕ
  pub begins : Begins s lines rest
  pub others : List Line
  pub respelt : Pairwise Respelt lines others
  pub bytes : t ≡ flat_map written others ++ rest

-- all answers are the same: values and refusals, lent buffers, where a name stands
pub record AnsweredAlike (s t : List ℕ) : Type 0 where
  pub reading : read s ≡ read t
  pub checking : (out : List ℕ) → check s out ≡ check t out
  pub printing : printed s ≡ printed t
  pub listing : (out : List Transition) → steps s out ≡ steps t out
  pub naming : (e : ℕ) → name s e ≡ name t e
  pub name_refusing : (e : ℕ) → name_refusal s e ≡ name_refusal t e
  pub running : (es : List ℕ) → run s es ≡ run t es
  pub thinning : thin s ≡ thin t
  pub merging : (out : List ℕ) → merge s out ≡ merge t out
  pub quoting : (out : List ℕ) → quote s out ≡ quote t out

-- ---- "sheets included"

-- the same move, its name spelt another way
pub record RespeltMove (x y : NamedMove) : Type 0 where
  pub event : OneEvent x.event y.event
  pub pre : x.pre ≡ y.pre
  pub post : x.post ≡ y.post

pub record RespeltLine (l k : NamedLine) : Type 0 where
  pub number : l.number ≡ k.number
  pub place_count : l.place_count ≡ k.place_count
  pub start : l.start ≡ k.start
  pub moves : Pairwise RespeltMove l.moves k.moves

-- t is the sheet s with the names on its moves spelt in other ways, as far as its lines are good; what stands behind these is the same
pub record RespeltSheet (s t : List ℕ) : Type 0 where
  pub count : ℕ
  pub board : Board
  pub rest : List ℕ
  pub begins : BeginsSheet s count board rest
  pub others : Board
  pub respelt : Pairwise RespeltLine board others
  pub bytes : t ≡ written_count count ++ (flat_map written_line others ++ rest)

-- it is good or bad alike, 15 at the same line, and a board answers the same, whatever the spelling of the names that it is given
pub record LoadedAlike (s t : List ℕ) : Type 0 where
  pub loading : (r : Refusal) → (read_sheet s ≡ refused r) ↔ (read_sheet t ≡ refused r)
  pub running : (ns ms : List ℕ) → OneEvent ns ms → board_run s ns ≡ board_run t ms

-- Row 15, what a good sheet is, row 14 of the board's run and the moves of a sheet's machines, as propositions. Document 02, slip 1.
-- Believed: all of it.
use Rattle.std.specs.Prelude.{ℕ, suc, ◌+◌, ◌≤◌, ◌<◌, ◌≡◌, ◌⊎◌, ◌↔◌, eqb, length, take, get_or, replicate}
use mathlib.Core.List.{List, [], ◌∷◌, ◌++◌, flat_map, Memᴰ}
use Rattle.model.specs.Lists.{At, count}
use Rattle.model.specs.Refusal.{Refusal, refuse, refused, passed}
use Rattle.model.specs.Region.{ProductWalk, Blocks}
use Rattle.model.specs.Bytes.{bytes, Name, IsName, OneEvent, Among}
use Rattle.model.specs.Sheet.{NamedMove, NamedLine, Board, written_line, written_count, written_sheet}
use Rattle.model.specs.Services.{whole, blocked, refused_by, RunAnswer}
use Rattle.model.specs.Board.{read_sheet, board_run}

-- the event is on the line's machine; on some machine of the sheet
abbrev pub OnLine : NamedLine → Name → Type 0
OnLine l e = (x : NamedMove) × Memᴰ x l.moves × OneEvent e x.event

abbrev pub OnSheet : Board → Name → Type 0
OnSheet b e = (l : NamedLine) × Memᴰ l b × OnLine l e

-- of a machine with n places: "move ends are below the count of places, the ends of a move differ"
pub record GoodMove (n : ℕ) (x : NamedMove) : Type 0 where
  -- 01's form of a name
  pub name : IsName x.event
  pub pre : x.pre < n
  pub post : x.post < n
  pub differ : ¬ (x.pre ≡ x.post)

-- "At most 64 names occur": 64 names are enough to name every event on the sheet
pub record FewNames (b : Board) : Type 0 where
  pub names : List Name
  pub most : length names ≤ 64
  pub all : (e : Name) → OnSheet b e → Among e names

-- the line of the machine after these
pub record GoodLine (before : Board) (l : NamedLine) : Type 0 where
  -- "machine numbers rise by one from 0"
  pub number : l.number ≡ length before
  -- 01's bounds
  pub places_least : 1 ≤ l.place_count
  pub places_most : l.place_count ≤ 64
  -- "starts … are below the count of places"
  pub start : l.start < l.place_count
  pub moves : (x : NamedMove) → Memᴰ x l.moves → GoodMove l.place_count x
  -- "a machine names an event once"
  pub once : (i j : ℕ) (x y : NamedMove) → At l.moves i x → At l.moves j y → OneEvent x.event y.event → i ≡ j
  pub names : FewNames (before ++ (l ∷ []))

-- each is good after those before it
abbrev pub GoodLines : Board → Type 0
GoodLines b = (k : ℕ) (l : NamedLine) → At b k l → GoodLine (take k b) l

-- the sheet begins with line 1, which counts n machines, and with the lines of these, no more than it counts; then comes the rest
pub record BeginsSheet (s : List ℕ) (n : ℕ) (b : Board) (rest : List ℕ) : Type 0 where
  pub least : 1 ≤ n
  pub most : n ≤ 16
  pub few : length b ≤ n
  pub good : GoodLines b
  pub bytes : s ≡ written_count n ++ (flat_map written_line b ++ rest)

-- row 15, with its line: 0 is the whole sheet, 1 the count; for any other the lines before it are good, the sheet does not end with them, and no good line follows them
pub data BadSheet (s : List ℕ) : ℕ → Type 0 where
  too_long : 32768 < length s → BadSheet s 0
  line_1 : length s ≤ 32768 → ((n : ℕ) (rest : List ℕ) → ¬ BeginsSheet s n [] rest) → BadSheet s 1
  line : length s ≤ 32768 → (n : ℕ) (b : Board) (rest : List ℕ) → BeginsSheet s n b rest → ¬ ((length b ≡ n) × (rest ≡ []))
      → ((l : NamedLine) (after : List ℕ) → ¬ BeginsSheet s n (b ++ (l ∷ [])) after) → BadSheet s (length b + 2)

-- a good sheet, and the bytes that say it
pub record GoodSheet (b : Board) : Type 0 where
  pub least : 1 ≤ length b
  pub most : length b ≤ 16
  pub good : GoodLines b
  pub size : length (written_sheet b) ≤ 32768

abbrev pub SaysSheet : List ℕ → Board → Type 0
SaysSheet s b = (s ≡ written_sheet b) × GoodSheet b

-- ---- a list of names, each ended by byte 10

abbrev pub ended : Name → List ℕ
ended e = e ++ bytes "\n"

-- no byte 10 stands in it
abbrev pub Unbroken : List ℕ → Type 0
Unbroken w = ¬ Memᴰ 10 w

-- row 14, where these names are known: those before position k are; the one there is not, or is not ended
pub record OddName (Known : Name → Type 0) (t : List ℕ) (k : ℕ) : Type 0 where
  pub before : List Name
  pub count : length before ≡ k
  pub known : (e : Name) → Memᴰ e before → Known e
  pub name : Name
  pub unbroken : Unbroken name
  pub rest : List ℕ
  pub list : t ≡ flat_map ended before ++ (name ++ rest)
  pub odd : ((rest ≡ []) × (¬ (name ≡ []))) ⊎ (((after : List ℕ) × (rest ≡ 10 ∷ after)) × (¬ Known name))

-- the list is one of known names, each ended
abbrev pub NamesOf : (Name → Type 0) → List ℕ → Type 0
NamesOf Known t = (es : List Name) × ((e : Name) → Memᴰ e es → Known e) × (t ≡ flat_map ended es)

-- ---- the machines of a sheet by their moves, to run together as Region has it

-- the event moves the machine from place q to place r
abbrev pub HasMove : NamedLine → ℕ → Name → ℕ → Type 0
HasMove l q e r = (x : NamedMove) × Memᴰ x l.moves × OneEvent e x.event × (x.pre ≡ q) × (x.post ≡ r)

-- each machine stands in the start place of its line
pub record AtStart (b : Board) (qs : List ℕ) : Type 0 where
  pub one_each : length qs ≡ length b
  pub each : (k : ℕ) (l : NamedLine) → At b k l → get_or qs k 0 ≡ l.start

-- the machines run the names together from their start places, to the places qs
pub record BoardRuns (b : Board) (es : List Name) (qs : List ℕ) : Type 0 where
  pub start : List ℕ
  pub stands : AtStart b start
  pub walk : ProductWalk HasMove b start es qs

-- ---- what the calls promise of any bytes

-- "15 'bad sheet', first faulty line … and 0"
abbrev pub SheetRefused : List ℕ → Refusal → Type 0
SheetRefused s r = (l : ℕ) × BadSheet s l × (r ≡ refuse 15 l 0)

pub record Loads (s : List ℕ) : Type 0 where
  pub refuses : (r : Refusal) → (read_sheet s ≡ refused r) ↔ SheetRefused s r
  -- reading and writing are inverse on good sheets
  pub accepts : (b : Board) → (read_sheet s ≡ passed b) ↔ SaysSheet s b
  -- "every line ended by byte 10", line 1 and one for each machine
  pub lines : (n : ℕ) (b : Board) (rest : List ℕ) → BeginsSheet s n b rest → count (eqb 10) s ≡ suc (length b) + count (eqb 10) rest

-- 15, then 14, "before any move"
pub record BoardRefuses (s t : List ℕ) : Type 0 where
  pub refuses : (r : Refusal) → ((board_run s t).outcome ≡ refused_by r)
      ↔ (SheetRefused s r ⊎ ((b : Board) × SaysSheet s b × (k : ℕ) × OddName (OnSheet b) t k × (r ≡ refuse 14 k 0)))
  pub zeros : (r : Refusal) → (board_run s t).outcome ≡ refused_by r → (board_run s t).places ≡ replicate 16 0

-- the places of sixteen machine numbers, "with 0 for machine numbers not in use"
pub record Sixteen (qs ps : List ℕ) : Type 0 where
  pub sixteen : length ps ≡ 16
  pub used : take (length qs) ps ≡ qs
  pub unused : (k : ℕ) → length qs ≤ k → get_or ps k 0 ≡ 0

-- what is answered of names that are on a good sheet: "it answers as Run does"
pub record BoardTells (b : Board) (es : List Name) (a : RunAnswer) : Type 0 where
  pub not_refused : (r : Refusal) → ¬ (a.outcome ≡ refused_by r)
  -- "that the list ran to its end", and "the place of each machine"
  pub ran_whole : (a.outcome ≡ whole) ↔ ((qs : List ℕ) × BoardRuns b es qs)
  pub if_whole : (qs : List ℕ) → BoardRuns b es qs → Sixteen qs a.places
  -- "or how many events ran and the lowest machine that blocked the next"
  pub if_blocked : (n k : ℕ) → a.outcome ≡ blocked n k
      → (n < length es) × ((qs : List ℕ) × BoardRuns b (take n es) qs × Sixteen qs a.places × Blocks HasMove b qs (get_or es n []) k
      × ((j : ℕ) → j < k → ¬ Blocks HasMove b qs (get_or es n []) j))

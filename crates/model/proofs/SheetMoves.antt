-- The moves of the machines on a sheet: which events are on it, and that a line's moves are its transitions.
use Prim.Native.Nat.{ℕ}
use mathlib.Core.Path.{◌≡◌, ap, sym, ◌∙◌, subst, ap₂}
use mathlib.Core.List.{List, Memᴰ}
use mathlib.Core.Option.{none, some, map, none-ne-some, some-injective}
use lib.Dec.{T}
use Rattle.model.specs.Lists.{At, is_some}
use Rattle.model.specs.Product.{in_alphabet, effective, Move}
use Rattle.model.specs.Bytes.{Name, OneEvent, same_name}
use Rattle.model.specs.Sheet.{NamedMove, NamedLine, Board}
use Rattle.model.specs.Board.{move_on}
use Rattle.model.specs.BoardTable.{OnLine, OnSheet, SaysSheet, HasMove}
use Rattle.model.proofs.Laws.{contra, exists_intro, exists_elim, First, found, absent, first_view}
use Rattle.model.proofs.Positions.{mem_at, at_same}
use Rattle.model.proofs.OneEvent.{one_of, of_one, one_sym, one_trans}
use Rattle.model.proofs.Joint.{IsMoves, AllMoves}

-- ---- the event is on the sheet

pub data MoveOnView (l : NamedLine) (e : Name) : Type 0 where
  moved : (x : NamedMove) → move_on l e ≡ some (record { pre = x.pre; post = x.post }) → Memᴰ x l.moves → OneEvent e x.event → MoveOnView l e
  stayed : move_on l e ≡ none → (¬ OnLine l e) → MoveOnView l e

pub move_on_lem : (l : NamedLine) (e : Name) → MoveOnView l e
unfolding move_on
move_on_lem l e = go (first_view (λ (x : NamedMove). same_name e x.event) l.moves)
  where
    go : First (λ (x : NamedMove). same_name e x.event) l.moves → MoveOnView l e
    go (found x q m t) = moved x (ap (map (λ (y : NamedMove). record { pre = y.pre; post = y.post })) q) m (one_of e x.event t)
    go (absent q n) =
        stayed (ap (map (λ (y : NamedMove). record { pre = y.pre; post = y.post })) q)
        (λ w. contra (same_name e w.0.event) (n w.0 w.1) (of_one e w.0.event w.2))

on_line : (l : NamedLine) (e : Name) → T (is_some (move_on l e)) → OnLine l e
unfolding is_some
on_line l e t = go (move_on_lem l e)
  where
    go : MoveOnView l e → OnLine l e
    go (moved x q m o) = (x, m, o)
    go (stayed q n) = absurd (rw q at t)

line_on : (l : NamedLine) (e : Name) → OnLine l e → T (is_some (move_on l e))
unfolding is_some
line_on l e w = go (move_on_lem l e)
  where
    go : MoveOnView l e → T (is_some (move_on l e))
    go (moved x q m o) = rw q tt
    go (stayed q n) = absurd (n w)

pub on_sheet : (b : Board) (e : Name) → T (effective move_on b e) → OnSheet b e
unfolding effective in_alphabet
on_sheet b e t = let w = exists_elim (in_alphabet move_on e) b t in (w.0, w.1, on_line w.0 e w.2)

pub sheet_on : (b : Board) (e : Name) → OnSheet b e → T (effective move_on b e)
unfolding effective in_alphabet
sheet_on b e w = exists_intro (in_alphabet move_on e) b w.0 w.1 (line_on w.0 e w.2)

-- ---- one machine: its moves are those of its line

-- a line on which an event is named once
abbrev OnceOn : NamedLine → Type 0
OnceOn l = (i j : ℕ) (x y : NamedMove) → At l.moves i x → At l.moves j y → OneEvent x.event y.event → i ≡ j

pub line_moves : (l : NamedLine) → OnceOn l → IsMoves move_on HasMove l
line_moves l once e v = (λ h. to (move_on_lem l e) h, from (move_on_lem l e))
  where
    same : (x y : NamedMove) → Memᴰ x l.moves → Memᴰ y l.moves → OneEvent e x.event → OneEvent e y.event → x ≡ y
    same x y m n o p =
        let (i, a) = mem_at l.moves x m in
        let (j, b) = mem_at l.moves y n in
        at_same l.moves j x y (subst (λ (k : ℕ). At l.moves k x) (once i j x y a b (one_trans x.event e y.event (one_sym e x.event o) p)) a) b

    to : MoveOnView l e → move_on l e ≡ some v → HasMove l v.pre e v.post
    to (moved x p m o) h =
        let z : record { pre = x.pre; post = x.post } ≡ v = some-injective _ v (sym p ∙ h) in
        (x, m, o, ap (λ (y : Move). y.pre) z, ap (λ (y : Move). y.post) z)
    to (stayed p n) h = absurd (none-ne-some v (sym p ∙ h))

    from : MoveOnView l e → HasMove l v.pre e v.post → move_on l e ≡ some v
    from (moved y p n u) (x, m, o, a, b) =
        let z : y ≡ x = same y x n m u o in
        let c : y.pre ≡ v.pre = ap (λ (w : NamedMove). w.pre) z ∙ a in
        let d : y.post ≡ v.post = ap (λ (w : NamedMove). w.post) z ∙ b in
        p ∙ ap₂ (λ (i j : ℕ). some (record { pre = i; post = j })) c d
    from (stayed p n) (x, m, o, a, b) = absurd (n (x, m, o))

pub board_moves : (s : List ℕ) (b : Board) → SaysSheet s b → AllMoves move_on HasMove b
board_moves s b w l m = let (k, a) = mem_at b l m in line_moves l (w.1.good k l a).once

-- A name by its number in the rows of a sheet: whether it is on a machine, and its moves.
use Prim.Native.Nat.{ℕ, ◌<◌, ◌≤◌}
use native.Mathlib.Omega.{arith}
use mathlib.Core.Path.{◌≡◌, sym, ◌∙◌, subst}
use mathlib.Core.Logic.{◌⊎◌, inl, inr}
use mathlib.Core.Bool.{not}
use mathlib.Core.List.{List, [], Memᴰ}
use mathlib.Core.Option.{map, none-ne-some}
use lib.Dec.{T}
use lib.ListN.{length}
use Rattle.model.specs.Lists.{At, first, numbers}
use Rattle.model.specs.Product.{effective}
use Rattle.model.specs.Bytes.{Name, OneEvent}
use Rattle.model.specs.Text.{event_number}
use Rattle.model.specs.Sheet.{NamedMove, NamedLine, Board}
use Rattle.model.specs.Board.{names_on, move_on}
use Rattle.model.specs.BoardTable.{OnSheet}
use Rattle.model.proofs.Laws.{not_T}
use Rattle.model.proofs.Positions.{at_below, at_mem, mem_at, length_numbers, at_number}
use Rattle.model.proofs.Together.{SameMoves, same_effective}
use Rattle.model.proofs.OneEvent.{one_refl, one_sym, one_trans, same_test}
use Rattle.model.proofs.SheetNames.{moves_on, names_table, moves_of}
use Rattle.model.proofs.SheetMoves.{on_sheet, sheet_on}
use Rattle.regions.specs.Moves.{move_at}
use Rattle.sheet_reader.specs.Lent.{Lent, rows_of}
use Rattle.sheet_reader.specs.Lines.{Told}
use Rattle.sheet_reader.proofs.LineMoves.{Looked, old, new, looked}
use Rattle.sheet_reader.proofs.BoardRows.{on_among}
use Rattle.product.specs.Stepping.{IsOn}

-- one event has one move on a machine
one_move : (l : NamedLine) (e f : Name) → OneEvent e f → move_on l e ≡ move_on l f
unfolding move_on
one_move l e f o = λ i.
    map (λ (x : NamedMove). record { pre = x.pre; post = x.post }) (first (λ (x : NamedMove). same_test e f x.event o i) l.moves)

module _ {b : Board} {count : ℕ} {u : Lent} (o : Told b count u) where
  abbrev ns : List Name
  ns = o.names

  counted : count ≡ length ns
  counted = o.held.packed.counted

  -- a name of the rows is on a move
  named_on : (f : Name) → Memᴰ f ns → OnSheet b f
  unfolding names_on
  named_on f m = go ((names_table [] (moves_on b) (λ i j e f a c o. absurd (none-ne-some e a))).only f (subst (λ (l : List Name). Memᴰ f l) o.tells.names m))
    where
      go : Memᴰ f [] ⊎ ((x : NamedMove) × Memᴰ x (moves_on b) × (f ≡ x.event)) → OnSheet b f
      go (inl i) = elim i [ ]
      go (inr (x, i, q)) = let (l, j, k) = moves_of b x i in (l, j, (x, k, subst (OneEvent f) q (one_refl f)))

  module _ (w : Name) where
    pub on_name : event_number ns w < count → T (effective move_on b w)
    on_name h = go (looked ns w)
      where
        go : Looked ns w → T (effective move_on b w)
        go (old a (f, c, p) z) =
            let (l, j, (x, k, q)) = named_on f (at_mem ns (event_number ns w) f c) in
            sheet_on b w (l, j, (x, k, one_trans w f x.event p q))
        go (new a s z) = absurd (omega (arith, counted))

    pub off_name : count ≤ event_number ns w → T (not (effective move_on b w))
    off_name h = go (looked ns w)
      where
        go : Looked ns w → T (not (effective move_on b w))
        go (old a s z) = absurd (omega (arith, counted))
        go (new a s z) =
            not_T (effective move_on b w) (λ t.
            let (l, m, on) = on_sheet b w t in
            let k = mem_at b l m in
            let v = on_among b (rows_of ns u) o.tells k.0 l k.1 w on in
            s v.0 v.1 v.2)

    -- its moves on the machines are those of the rows
    pub same_moves : {machines : ℕ} → machines ≡ length b → machines ≤ 16 → (e : ℕ) → e ≡ event_number ns w → e < count
        → SameMoves (move_at u.pre u.post) move_on (numbers machines) b e w
    same_moves {machines} n most e q h = go (looked ns w)
      where
        go : Looked ns w → SameMoves (move_at u.pre u.post) move_on (numbers machines) b e w
        go (new a s z) = absurd (omega (arith, counted))
        go (old a (f, c, p) z) =
            record {
              one_each = length_numbers machines ∙ n;
              each = λ k m l i j.
                  rw (at_number machines k m i)
                  (o.tells.on k l e f (omega (arith, at_below b k l j)) j (subst (λ (x : ℕ). At ns x f) (sym q) c) ∙ one_move l f w (one_sym w f p));
            }

    pub on_rows : {machines : ℕ} → machines ≡ length b → machines ≤ 16 → (e : ℕ) → e ≡ event_number ns w → e < count → IsOn u.pre u.post machines e
    on_rows {machines} n most e q h =
        subst T (sym (same_effective (move_at u.pre u.post) move_on (numbers machines) b e w (same_moves n most e q h))) (on_name (omega arith))

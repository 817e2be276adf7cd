-- The moves of a line into the rows that a board keeps: they are stored exactly if the line is good.
use Prim.Native.Nat.{ℕ, ◌≤◌, ◌<◌}
use native.Mathlib.Omega.{arith}
use mathlib.Core.Path.{◌≡◌, refl, ap, sym, ◌∙◌, subst}
use mathlib.Core.Logic.{◌⊎◌, inl, inr}
use mathlib.Core.List.{List, [], ◌∷◌, ◌++◌, map, append_assoc, append-nil}
use mathlib.Core.Option.{Option, none, some, none-ne-some}
use lib.Dec.{T}
use lib.ListN.{length, length-append}
use Rattle.model.specs.Lists.{At, exists, every, first}
use Rattle.model.specs.TransitionSystem.{and_then}
use Rattle.model.specs.Bytes.{Name, OneEvent, same_name}
use Rattle.model.specs.Sheet.{NamedMove, NamedLine, Board}
use Rattle.model.specs.Board.{is_good_move, add_name, add_names, move_on}
use Rattle.model.specs.BoardTable.{OnLine}
use Rattle.sheet_reader.specs.BoardRows.{Rows, move_in, store_move, store_moves, TellsBoard}
use Rattle.model.proofs.Laws.{not_T, and_l, and_r, and_i}
use Rattle.model.proofs.ListLaws.{map_append, map_mem}
use Rattle.model.proofs.Positions.{at_left, at_below, mem_at, at_middle, map_at}
use Rattle.model.proofs.Sheets.{at_snoc}
use Rattle.model.proofs.OneEvent.{one_sym, one_among, Apart}
use Rattle.model.proofs.SheetNames.{apart_snoc}
use Rattle.sheet_reader.proofs.LineMoves.{with, names_last, Looked, old, new, looked}
use Rattle.sheet_reader.proofs.BoardRows.{Follows, Stored, fits, stops, store_step, names_more}

add_grows : (ns : List Name) (ys : List NamedMove) → length ns ≤ length (add_names ns ys)
unfolding add_names
add_grows ns [] = omega arith
add_grows ns (y ∷ ys) = go (looked ns y.event) (add_grows (add_name ns y.event) ys)
  where
    go : Looked ns y.event → length (add_name ns y.event) ≤ length (add_names (add_name ns y.event) ys) → length ns ≤ length (add_names (add_name ns y.event) ys)
    go (old a s q) k = omega (arith, ap length q)
    go (new a s q) k = omega (arith, ap length q, length-append ns (y.event ∷ []))

abbrev pub event_of : NamedMove → Name
event_of x = x.event

-- what storing them comes to: all is well with them, and the rows tell the line with them; or not
pub record Line (b : Board) (l : NamedLine) (xs : List NamedMove) (n : ℕ) (ns : List Name) (ys : List NamedMove) : Type 0 where
  pub good : T (every (is_good_move n) ys)
  pub apart : Apart (map event_of (xs ++ ys))
  pub few : length (add_names ns ys) ≤ 64

pub data LineStored (b : Board) (l : NamedLine) (xs : List NamedMove) (n : ℕ) (ns : List Name) (ys : List NamedMove) (o : Option Rows) : Type 0 where
  all_fit : (u : Rows) → o ≡ some u → Line b l xs n ns ys → TellsBoard (b ++ (with l (xs ++ ys) ∷ [])) u → LineStored b l xs n ns ys o
  one_stops : o ≡ none → (¬ Line b l xs n ns ys) → LineStored b l xs n ns ys o

module _ (b : Board) (l : NamedLine) (room : length b < 16) (n : ℕ) (most : n ≤ 64) where
  store_moves_lem : (ys xs : List NamedMove) (t : Rows) → TellsBoard (b ++ (with l xs ∷ [])) t → Apart (map event_of xs) → LineStored b l xs n t.names ys (store_moves (length b) n t ys)
  unfolding store_moves every add_names and_then
  store_moves_lem [] xs t h a =
      all_fit t refl (record { good = tt; apart = subst (λ (z : List NamedMove). Apart (map event_of z)) (sym (append-nil xs)) a; few = h.few })
      (subst (λ (z : List NamedMove). TellsBoard (b ++ (with l z ∷ [])) t) (sym (append-nil xs)) h)
  store_moves_lem (y ∷ ys) xs t h a = go (store_move (length b) n t y) refl (store_step b l xs t h room n most y) (λ u k c. store_moves_lem ys (xs ++ (y ∷ [])) u k c)
    where
      again : xs ++ (y ∷ ys) ≡ (xs ++ (y ∷ [])) ++ ys
      again = sym (append_assoc xs (y ∷ []) ys)

      -- the move's event is not on the line before it
      events_snoc : map event_of (xs ++ (y ∷ [])) ≡ map event_of xs ++ (y.event ∷ [])
      events_snoc = map_append event_of xs (y ∷ [])

      apart_more : (¬ OnLine (with l xs) y.event) → Apart (map event_of (xs ++ (y ∷ [])))
      apart_more z =
          subst Apart (sym events_snoc)
          (apart_snoc (map event_of xs) y.event a (not_T (exists (same_name y.event) (map event_of xs)) (λ k.
          let (f, i, o) = one_among y.event (map event_of xs) k in
          let (w, j, q) = map_mem event_of xs f i in
          z (w, j, subst (λ (v : Name). OneEvent y.event v) q o))))

      not_on : Apart (map event_of (xs ++ (y ∷ ys))) → ¬ OnLine (with l xs) y.event
      not_on c (w, i, o) =
          let (k, p) = mem_at xs w i in
          let q : k ≡ length xs = c k (length xs) w.event y.event (map_at event_of (xs ++ (y ∷ ys)) k w (at_left xs (y ∷ ys) k w p))
          (map_at event_of (xs ++ (y ∷ ys)) (length xs) y (at_middle xs ys y)) (one_sym y.event w.event o) in
          omega (arith, at_below xs k w p)

      after_step : (u : Rows) → u.names ≡ add_name t.names y.event → Follows t.names l xs n y
          → LineStored b l (xs ++ (y ∷ [])) n u.names ys (store_moves (length b) n u ys) → LineStored b l xs n t.names (y ∷ ys) (store_moves (length b) n u ys)
      after_step u q g (all_fit v r w k) =
          all_fit v r (record {
            good = and_i (is_good_move n y) (every (is_good_move n) ys) g.good w.good;
            apart = subst (λ (z : List NamedMove). Apart (map event_of z)) (sym again) w.apart;
            few = subst (λ (z : List Name). length (add_names z ys) ≤ 64) q w.few;
          })
          (subst (λ (z : List NamedMove). TellsBoard (b ++ (with l z ∷ [])) v) (sym again) k)
      after_step u q g (one_stops r z) =
          one_stops r (λ w. z (record {
            good = and_r (is_good_move n y) (every (is_good_move n) ys) w.good;
            apart = subst (λ (z : List NamedMove). Apart (map event_of z)) again w.apart;
            few = subst (λ (z : List Name). length (add_names z ys) ≤ 64) (sym q) w.few;
          }))

      go : (o : Option Rows) → store_move (length b) n t y ≡ o → Stored t.names b l xs n y (store_move (length b) n t y)
          → ((u : Rows) → TellsBoard (b ++ (with l (xs ++ (y ∷ [])) ∷ [])) u → Apart (map event_of (xs ++ (y ∷ []))) → LineStored b l (xs ++ (y ∷ [])) n u.names ys (store_moves (length b) n u ys))
          → LineStored b l xs n t.names (y ∷ ys) (and_then (store_move (length b) n t y) (λ u. store_moves (length b) n u ys))
      go o e (fits u q g k) ih =
          subst (λ (z : Option Rows). LineStored b l xs n t.names (y ∷ ys) (and_then z (λ u. store_moves (length b) n u ys))) (sym q)
          (after_step u (k.names ∙ sym (names_more b l xs t h room n most y)) g (ih u k (apart_more g.fresh)))
      go o e (stops q z) ih =
          subst (λ (z : Option Rows). LineStored b l xs n t.names (y ∷ ys) (and_then z (λ u. store_moves (length b) n u ys))) (sym q)
          (one_stops refl (λ w. z (record {
            good = and_l (is_good_move n y) (every (is_good_move n) ys) w.good;
            fresh = not_on w.apart;
            few = omega (arith, add_grows (add_name t.names y.event) ys, w.few);
          })))

  -- a line without moves yet
  tells_empty : (t : Rows) → TellsBoard b t → TellsBoard (b ++ (with l [] ∷ [])) t
  unfolding add_names move_on first
  tells_empty t h =
      record {
        names = h.names ∙ sym (names_last b l []);
        few = h.few;
        rows = h.rows;
        on = λ k k' e w c a i. on k k' e w c (at_snoc b (with l []) k k' a) i;
        no_event = h.no_event;
        no_machine_lem = λ e k u c z. h.no_machine_lem e k u c (omega (arith, length-append b (with l [] ∷ [])));
      }
    where
      on : (k : ℕ) (k' : NamedLine) (e : ℕ) (w : Name) → k < 16 → At b k k' ⊎ ((k ≡ length b) × (k' ≡ with l [])) → At t.names e w → move_in t e k ≡ move_on k' w
      on k k' e w c (inl a) i = h.on k k' e w c a i
      on k k' e w c (inr (q, r)) i =
          h.no_machine_lem e k (omega (arith, at_below t.names e w i, h.few)) c (omega arith) ∙ ap (λ (v : NamedLine). move_on v w) (sym r)

  -- the moves of a line are stored exactly if its part of `is_good_line` holds
  pub store_line : (ys : List NamedMove) (t : Rows) → TellsBoard b t → LineStored b l [] n t.names ys (store_moves (length b) n t ys)
  store_line ys t h = store_moves_lem ys [] t (tells_empty t h) (λ i j e f a c o. absurd (none-ne-some e a))

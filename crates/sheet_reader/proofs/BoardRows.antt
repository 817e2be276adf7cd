-- The rows that a board keeps, move by move: a line is stored exactly if it is good.
use Prim.Native.Nat.{ℕ, ◌≤◌, ◌<◌}
use native.Mathlib.Omega.{arith}
use mathlib.Core.Path.{◌≡◌, ap, sym, ◌∙◌, subst}
use mathlib.Core.Logic.{◌⊎◌, inl, inr}
use mathlib.Core.Bool.{Bool, not, ◌&&◌}
use mathlib.Core.List.{List, [], ◌∷◌, ◌++◌, flat_map, Memᴰ}
use mathlib.Core.Option.{Option, none, some, none-ne-some, some-ne-none}
use lib.Dec.{T, eqb, eqb→eq, ltb, ltb→lt, lt→ltb}
use lib.ListN.{length, get_or, set, length-append, length-set}
use lib.Seq.{get_or-set_same, get_or-set_other}
use Rattle.model.specs.Lists.{At, is_some}
use Rattle.model.specs.Bytes.{Name, OneEvent, Among}
use Rattle.model.specs.Text.{event_number}
use Rattle.model.specs.Sheet.{NamedMove, NamedLine, Board}
use Rattle.model.specs.Board.{is_good_move, add_name, add_names, names_on, move_on}
use Rattle.model.specs.BoardTable.{OnLine}
use Rattle.regions.specs.Moves.{move_at}
use Rattle.sheet_reader.specs.BoardRows.{Rows, cell, move_in, store_move, TellsBoard}
use Rattle.model.proofs.Laws.{dec, eqb_of, is_some_none, none_is_some, T_true, contra, and_l, and_r, and_i, cond_true, cond_false}
use Rattle.model.proofs.Positions.{at_left, at_below, at_mem, at_same, at_middle}
use Rattle.model.proofs.Sheets.{at_snoc}
use Rattle.model.proofs.OneEvent.{one_refl, one_sym, one_trans, Apart}
use Rattle.model.proofs.SheetNames.{names_table, of_moves}
use Rattle.model.proofs.SheetMoves.{MoveOnView, moved, stayed, move_on_lem}
use Rattle.sheet_reader.proofs.LineMoves.{add_names_lem, with, names_last, places, move_old, move_new, Spelt, Looked, old, new, looked}

-- ---- cells

cells_apart : (e m d k : ℕ) → m < 16 → k < 16 → (¬ (e ≡ d)) ⊎ (¬ (m ≡ k)) → ¬ (cell d k ≡ cell e m)
cells_apart e m d k a b (inl n) q = n (omega arith)
cells_apart e m d k a b (inr n) q = n (omega arith)

module _ (t : Rows) (e m p q : ℕ) (ns : List Name) (a : length t.pre ≡ 1024) (b : length t.post ≡ 1024) (low : e < 64) (room : m < 16) where
  abbrev after : Rows
  after = record { names = ns; pre = set t.pre (cell e m) p; post = set t.post (cell e m) q }

  inside : cell e m < 1024
  inside = omega arith

  here : p < 64 → move_in after e m ≡ some (record { pre = p; post = q })
  unfolding move_at
  here h =
      let x : get_or (set t.pre (cell e m) p) (cell e m) 0 ≡ p = get_or-set_same t.pre (cell e m) p 0 (omega (arith, inside)) in
      let y : get_or (set t.post (cell e m) q) (cell e m) 0 ≡ q = get_or-set_same t.post (cell e m) q 0 (omega (arith, inside)) in
      rw (x, y, T_true (ltb p 64) (lt→ltb p 64 h))

  elsewhere : (d k : ℕ) → k < 16 → (¬ (e ≡ d)) ⊎ (¬ (m ≡ k)) → move_in after d k ≡ move_in t d k
  unfolding move_at
  elsewhere d k c n =
      let z = cells_apart e m d k room c n in
      rw (get_or-set_other t.pre (cell e m) (cell d k) p 0 z, get_or-set_other t.post (cell e m) (cell d k) q 0 z)

-- ---- one move stored

-- names on the lines are among the names
module _ (b : Board) (t : Rows) (h : TellsBoard b t) where
  names_apart : Apart t.names
  unfolding names_on
  names_apart = subst Apart (sym h.names) (names_table [] (flat_map (λ (k : NamedLine). k.moves) b) (λ i j e f a c o. absurd (none-ne-some e a))).apart

  pub on_among : (k : ℕ) (l : NamedLine) → At b k l → (w : Name) → OnLine l w → Among w t.names
  unfolding names_on
  on_among k l a w (x, m, o) =
      let v = (names_table [] (flat_map (λ (k : NamedLine). k.moves) b) (λ i j e f a c o. absurd (none-ne-some e a))).has x (of_moves b l x (at_mem b k l a) m) in
      (v.0, subst (λ (ns : List Name). Memᴰ v.0 ns) (sym h.names) v.1, one_trans w x.event v.0 o v.2)

  not_among : (k : ℕ) (l : NamedLine) → At b k l → (w : Name) → ((f : Name) → Memᴰ f t.names → ¬ OneEvent w f) → move_on l w ≡ none
  not_among k l a w n = go (move_on_lem l w)
    where
      go : MoveOnView l w → move_on l w ≡ none
      go (moved x q m o) = let v = on_among k l a w (x, m, o) in absurd (n v.0 v.1 v.2)
      go (stayed q z) = q

-- a move may follow these on its line
pub record Follows (ns : List Name) (l : NamedLine) (xs : List NamedMove) (n : ℕ) (x : NamedMove) : Type 0 where
  pub good : T (is_good_move n x)
  pub fresh : ¬ OnLine (with l xs) x.event
  pub few : length (add_name ns x.event) ≤ 64

module _ (b : Board) (l : NamedLine) (xs : List NamedMove) (t : Rows) (h : TellsBoard (b ++ (with l xs ∷ [])) t) (room : length b < 16) (n : ℕ) (most : n ≤ 64) (x : NamedMove) where
  abbrev e : ℕ
  e = event_number t.names x.event

  abbrev m : ℕ
  m = length b

  abbrev stored : Rows
  stored = record { names = add_name t.names x.event; pre = set t.pre (cell e m) x.pre; post = set t.post (cell e m) x.post }

  this_line : At (b ++ (with l xs ∷ [])) m (with l xs)
  this_line = at_middle b [] (with l xs)

  low_few : e < 64 → length (add_name t.names x.event) ≤ 64
  low_few k = go (looked t.names x.event)
    where
      go : Looked t.names x.event → length (add_name t.names x.event) ≤ 64
      go (old a s q) = rw q h.few
      go (new a s q) = rw q (simp length-append (omega arith))

  few_low : length (add_name t.names x.event) ≤ 64 → e < 64
  few_low k = go (looked t.names x.event)
    where
      go : Looked t.names x.event → e < 64
      go (old a s q) = omega (arith, h.few)
      go (new a s q) = omega (arith, ap length q, length-append t.names (x.event ∷ []))

  free_fresh : e < 64 → move_in t e m ≡ none → ¬ OnLine (with l xs) x.event
  free_fresh k q w = go (looked t.names x.event)
    where
      go : Looked t.names x.event → ⊥
      go (old a (f, c, o) r) = by (move_on_lem (with l xs) f)
        where
          by : MoveOnView (with l xs) f → ⊥
          by (moved y p i u) = some-ne-none (places y) (sym p ∙ sym (h.on m (with l xs) e f room this_line c) ∙ q)
          by (stayed p z) = z (w.0, w.1, one_trans f x.event w.0.event (one_sym x.event f o) w.2)
      go (new a s r) = let v = on_among (b ++ (with l xs ∷ [])) t h m (with l xs) this_line x.event w in s v.0 v.1 v.2

  fresh_free : e < 64 → (¬ OnLine (with l xs) x.event) → move_in t e m ≡ none
  fresh_free k z = go (looked t.names x.event)
    where
      go : Looked t.names x.event → move_in t e m ≡ none
      go (old a (f, c, o) r) = h.on m (with l xs) e f room this_line c ∙ by (move_on_lem (with l xs) f)
        where
          by : MoveOnView (with l xs) f → move_on (with l xs) f ≡ none
          by (moved y p i u) = absurd (z (y, i, one_trans x.event f y.event o u))
          by (stayed p v) = p
      go (new a s r) = h.no_event e m k room (omega arith)

  pub names_more : add_name t.names x.event ≡ names_on (b ++ (with l (xs ++ (x ∷ [])) ∷ []))
  unfolding add_names
  names_more =
      ap (λ (ns : List Name). add_name ns x.event) (h.names ∙ names_last b l xs)
      ∙ sym (add_names_lem (names_on b) xs (x ∷ [])) ∙ sym (names_last b l (xs ++ (x ∷ [])))

  tells_more : Follows t.names l xs n x → TellsBoard (b ++ (with l (xs ++ (x ∷ [])) ∷ [])) stored
  unfolding is_good_move
  tells_more g =
      record {
        names = names_more;
        few = g.few;
        rows = record { pre_size = length-set t.pre (cell e m) x.pre ∙ h.rows.pre_size; post_size = length-set t.post (cell e m) x.post ∙ h.rows.post_size };
        on = λ k k' d w c a i. on k k' d w c (at_snoc b (with l (xs ++ (x ∷ []))) k k' a) i;
        no_event = λ d k u c z. other d k c (inl (λ q. omega (arith, above, q))) ∙ h.no_event d k u c (omega (arith, grows));
        no_machine_lem = λ d k u c z. other d k c (inr (λ q. omega (arith, length-append b (with l (xs ++ (x ∷ [])) ∷ []), q)))
            ∙ h.no_machine_lem d k u c (omega (arith, length-append b (with l (xs ++ (x ∷ [])) ∷ []), length-append b (with l xs ∷ [])));
      }
    where
      low : e < 64
      low = few_low g.few

      other : (d k : ℕ) → k < 16 → (¬ (e ≡ d)) ⊎ (¬ (m ≡ k)) → move_in stored d k ≡ move_in t d k
      other d k c z = elsewhere t e m x.pre x.post (add_name t.names x.event) h.rows.pre_size h.rows.post_size low room d k c z

      small : x.pre < 64
      small = omega (arith, ltb→lt x.pre n (and_l (ltb x.pre n) (ltb x.post n && not (eqb x.pre x.post)) g.good))

      above : e < length (add_name t.names x.event)
      above = go (looked t.names x.event)
        where
          go : Looked t.names x.event → e < length (add_name t.names x.event)
          go (old a s q) = rw q a
          go (new a s q) = rw q (simp length-append (omega arith))

      grows : length t.names ≤ length (add_name t.names x.event)
      grows = go (looked t.names x.event)
        where
          go : Looked t.names x.event → length t.names ≤ length (add_name t.names x.event)
          go (old a s q) = rw q (omega arith)
          go (new a s q) = rw q (simp length-append (omega arith))

      -- a line before this one
      before : (k : ℕ) (k' : NamedLine) (d : ℕ) (w : Name) → k < 16 → At b k k' → At (add_name t.names x.event) d w → move_in stored d k ≡ move_on k' w
      before k k' d w c a i = other d k c (inr (λ q. omega (arith, at_below b k k' a, q))) ∙ go (looked t.names x.event)
        where
          a' : At (b ++ (with l xs ∷ [])) k k'
          a' = at_left b (with l xs ∷ []) k k' a

          last : At t.names d w ⊎ ((d ≡ length t.names) × (w ≡ x.event)) → e ≡ length t.names → ((f : Name) → Memᴰ f t.names → ¬ OneEvent x.event f) → move_in t d k ≡ move_on k' w
          last (inl j) z s = h.on k k' d w c a' j
          last (inr (p, q)) z s =
              h.no_event d k (omega (arith, low)) c (omega arith)
              ∙ sym (ap (move_on k') q ∙ not_among (b ++ (with l xs ∷ [])) t h k k' a' x.event s)

          go : Looked t.names x.event → move_in t d k ≡ move_on k' w
          go (old z s q) = h.on k k' d w c a' (subst (λ (ns : List Name). At ns d w) q i)
          go (new z s q) = last (at_snoc t.names x.event d w (subst (λ (ns : List Name). At ns d w) q i)) z s

      -- this line: the name at d is one event with the move's exactly if d is its number
      this : (d : ℕ) (w : Name) → At (add_name t.names x.event) d w
          → ((d ≡ e) × OneEvent w x.event) ⊎ ((¬ (e ≡ d)) × (¬ OneEvent w x.event) × At t.names d w)
      this d w i = go (looked t.names x.event)
        where
          known : (z : e < length t.names) → Spelt t.names e x.event → At t.names d w → T (eqb d e) ⊎ T (not (eqb d e))
              → ((d ≡ e) × OneEvent w x.event) ⊎ ((¬ (e ≡ d)) × (¬ OneEvent w x.event) × At t.names d w)
          known z (f, c, o) j (inl u) =
              let q = eqb→eq d e u in
              inl (q, subst (λ (v : Name). OneEvent v x.event) (at_same t.names e f w c (subst (λ (k : ℕ). At t.names k w) q j)) (one_sym x.event f o))
          known z (f, c, o) j (inr u) =
              let v : ¬ (e ≡ d) = λ q. contra (eqb d e) u (eqb_of d e (sym q)) in
              inr (v, λ p. v (sym (names_apart (b ++ (with l xs ∷ [])) t h d e w f j c (one_trans w x.event f p o))), j)

          fresh : e ≡ length t.names → ((f : Name) → Memᴰ f t.names → ¬ OneEvent x.event f) → At t.names d w ⊎ ((d ≡ length t.names) × (w ≡ x.event))
              → ((d ≡ e) × OneEvent w x.event) ⊎ ((¬ (e ≡ d)) × (¬ OneEvent w x.event) × At t.names d w)
          fresh z s (inl j) = inr (λ q. omega (arith, at_below t.names d w j, q, z), λ p. s w (at_mem t.names d w j) (one_sym w x.event p), j)
          fresh z s (inr (p, q)) = inl (p ∙ sym z, subst (λ (v : Name). OneEvent v x.event) (sym q) (one_refl x.event))

          go : Looked t.names x.event → ((d ≡ e) × OneEvent w x.event) ⊎ ((¬ (e ≡ d)) × (¬ OneEvent w x.event) × At t.names d w)
          go (old z s q) = known z s (subst (λ (ns : List Name). At ns d w) q i) (dec (eqb d e))
          go (new z s q) = fresh z s (at_snoc t.names x.event d w (subst (λ (ns : List Name). At ns d w) q i))

      here_line : (d : ℕ) (w : Name) → ((d ≡ e) × OneEvent w x.event) ⊎ ((¬ (e ≡ d)) × (¬ OneEvent w x.event) × At t.names d w)
          → move_in stored d m ≡ move_on (with l (xs ++ (x ∷ []))) w
      here_line d w (inl (q, o)) =
          ap (λ (i : ℕ). move_in stored i m) q ∙ here t e m x.pre x.post (add_name t.names x.event) h.rows.pre_size h.rows.post_size low room small
          ∙ sym (move_new l xs x w o (λ v. g.fresh (v.0, v.1, one_trans x.event w v.0.event (one_sym w x.event o) v.2)))
      here_line d w (inr (u, z, j)) = other d m room (inl u) ∙ h.on m (with l xs) d w room this_line j ∙ sym (move_old l xs x w z)

      on : (k : ℕ) (k' : NamedLine) (d : ℕ) (w : Name) → k < 16 → At b k k' ⊎ ((k ≡ m) × (k' ≡ with l (xs ++ (x ∷ [])))) → At (add_name t.names x.event) d w → move_in stored d k ≡ move_on k' w
      on k k' d w c (inl a) i = before k k' d w c a i
      on k k' d w c (inr (q, r)) i = ap (move_in stored d) q ∙ here_line d w (this d w i) ∙ ap (λ (v : NamedLine). move_on v w) (sym r)

-- what storing a move comes to
pub data Stored (ns : List Name) (b : Board) (l : NamedLine) (xs : List NamedMove) (n : ℕ) (x : NamedMove) (o : Option Rows) : Type 0 where
  fits : (u : Rows) → o ≡ some u → Follows ns l xs n x → TellsBoard (b ++ (with l (xs ++ (x ∷ [])) ∷ [])) u → Stored ns b l xs n x o
  stops : o ≡ none → (¬ Follows ns l xs n x) → Stored ns b l xs n x o

module _ (b : Board) (l : NamedLine) (xs : List NamedMove) (t : Rows) (h : TellsBoard (b ++ (with l xs ∷ [])) t) (room : length b < 16) (n : ℕ) (most : n ≤ 64) (x : NamedMove) where
  abbrev number : ℕ
  number = event_number t.names x.event

  abbrev free : Bool
  free = not (is_some (move_in t number (length b)))

  abbrev test : Bool
  test = is_good_move n x && (ltb number 64 && free)

  passes : T test → Follows t.names l xs n x
  passes u =
      let v = and_r (is_good_move n x) (ltb number 64 && free) u in
      let k : number < 64 = ltb→lt number 64 (and_l (ltb number 64) free v) in
      record {
        good = and_l (is_good_move n x) (ltb number 64 && free) u;
        fresh = free_fresh b l xs t h room n most x k (is_some_none (move_in t number (length b)) (and_r (ltb number 64) free v));
        few = low_few b l xs t h room n most x k;
      }

  follows : Follows t.names l xs n x → T test
  follows g =
      let k = few_low b l xs t h room n most x g.few in
      and_i (is_good_move n x) (ltb number 64 && free) g.good
      (and_i (ltb number 64) free (lt→ltb number 64 k) (none_is_some (move_in t number (length b)) (fresh_free b l xs t h room n most x k g.fresh)))

  pub store_step : Stored t.names b l xs n x (store_move (length b) n t x)
  unfolding store_move
  store_step = go (dec test)
    where
      go : T test ⊎ T (not test) → Stored t.names b l xs n x (store_move (length b) n t x)
      go (inl u) = fits (stored b l xs t h room n most x) (cond_true test (some (stored b l xs t h room n most x)) none u) (passes u) (tells_more b l xs t h room n most x (passes u))
      go (inr u) = stops (cond_false test (some (stored b l xs t h room n most x)) none u) (λ g. contra test u (follows g))

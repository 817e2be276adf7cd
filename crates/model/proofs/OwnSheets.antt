-- The sheet of an accepted text: it is good, and a board that has it alone runs the lists that the plan runs.
use Prim.Native.Nat.{ℕ, suc, ◌+◌, ◌≤◌, ◌<◌}
use native.Mathlib.Omega.{arith}
use mathlib.Core.Path.{◌≡◌, refl, ap, sym, ◌∙◌, subst, subst₂}
use mathlib.Core.Logic.{◌⊎◌, inl, inr}
use mathlib.Core.List.Memᴰ
use mathlib.Core.List.{List, [], ◌∷◌, ◌++◌, map, Memᴰ}
use mathlib.Core.Option.{Option, none, some, some-injective, none-ne-some}
use lib.ListN.{length, take, get_or}
use lib.Seq.{length-take-le}
use Rattle.model.specs.Lists.{At}
use Rattle.model.specs.TransitionSystem.{TransitionSystem}
use Rattle.model.specs.Product.{Move}
use Rattle.model.specs.Region.{Arc}
use Rattle.model.specs.Machine.{Machine, Decomposition, place_of, places, move}
use Rattle.model.specs.Bytes.{Name, IsName, OneEvent}
use Rattle.model.specs.Text.{Input, system, Limits}
use Rattle.model.specs.Sheet.{EventMove, moves_below, sheet_line, sheet_lines, sheet, NamedMove, NamedLine, Board, named, named_line, board_of}
use Rattle.model.specs.Board.{move_on, start_places}
use Rattle.model.specs.BoardTable.{OnSheet, FewNames, GoodLine, SaysSheet}
use Rattle.model.specs.Demands.{Spells, SpellsOne, Shows, Sheet}
use Rattle.model.proofs.Laws.{order}
use Rattle.model.proofs.ListLaws.{map_mem, mem_map}
use Rattle.model.proofs.Positions.{at_below, below_at, at_mem, mem_at, at_same, at_get_d, at_value, get_d_mem, at_map, take_mem}
use Rattle.model.proofs.Bounds.{Within, Listed}
use Rattle.model.proofs.Places.{Good}
use Rattle.model.proofs.Moves.{MoveView, moves, stays, move_view, move_of}
use Rattle.model.proofs.SheetMoves.{MoveOnView, moved, stayed, move_on_lem}
use Rattle.model.proofs.Limits.{within_of}
use Rattle.model.proofs.Sheets.{entry, in_moves, moves_in, moves_iff, rising, at_lines, lines_length, place_low, move_low, board_length, sheet_fits}
use Rattle.model.proofs.OneEvent.{one_refl, one_sym, one_trans, Apart}
use Rattle.model.proofs.Arcs.{in_place}

-- ---- the moves of a line are those of its machine

module _ (p : TransitionSystem) (names : List Name) (size : length names ≡ p.events) (once : Apart names) where
  named_at : (e : ℕ) → e < p.events → At names e (get_or names e [])
  named_at e l = at_get_d names e [] (omega arith)

  -- the name of a move of event d spells e exactly when d is e
  spelt : (w : Name) (e d : ℕ) → Spells names w e → d < p.events → OneEvent w (get_or names d []) → d ≡ e
  spelt w e d (x, a, o) l q = once d e (get_or names d []) x (named_at d l) a (one_trans (get_or names d []) w x (one_sym w (get_or names d []) q) o)

  pub same_move : (m : Machine) (k : ℕ) (w : Name) (e : ℕ) → Spells names w e → move_on (named_line names (sheet_line p k m)) w ≡ move p m e
  unfolding sheet_line
  same_move m k w e sp = go (move_on_lem (named_line names (sheet_line p k m)) w)
    where
      go : MoveOnView (named_line names (sheet_line p k m)) w → move_on (named_line names (sheet_line p k m)) w ≡ move p m e
      go (moved x q i o) =
          let y = map_mem (named names) (moves_below p m p.events) x i in
          let b = in_moves p m p.events y.0 y.1 in
          let z : y.0.event ≡ e = spelt w e y.0.event sp b.low (subst (λ (v : NamedMove). OneEvent w v.event) y.2 o) in
          q ∙ ap (λ (v : NamedMove). some (record { pre = v.pre; post = v.post })) y.2 ∙ sym b.is ∙ ap (move p m) z
      go (stayed q n) = by (move p m e) refl
        where
          by : (o : Option Move) → move p m e ≡ o → move_on (named_line names (sheet_line p k m)) w ≡ o
          by none r = q
          by (some v) r =
              let (x, a, o) = sp in
              absurd (n (
                named names (entry e v),
                mem_map (named names) (moves_below p m p.events) (entry e v)
                    (moves_in p m p.events e v (omega (arith, at_below names e x a)) r),
                subst (OneEvent w) (sym (at_value names e x [] a)) o,
              ))

  -- the start places of the lines are those of the initial state
  pub same_starts : (k : ℕ) (ms : Decomposition) → start_places (map (named_line names) (sheet_lines p k ms)) ≡ places ms p.initial
  unfolding sheet_lines sheet_line start_places places
  same_starts k [] = refl
  same_starts k (m ∷ ms) = ap (λ (l : List ℕ). place_of m p.initial ∷ l) (same_starts (suc k) ms)

-- ---- the sheet of a text

module _ (v : Input) (w : Limits v) (g : (m : Machine) → Memᴰ m v.machines → Good (system v) m) where
  pub names_once : Apart v.names
  names_once = w.distinct

  -- a line of the sheet is that of a machine
  pub record LineAt (k : ℕ) (l : NamedLine) : Type 0 where
    pub machine : Machine
    pub numbered : At v.machines k machine
    pub is : l ≡ named_line v.names (sheet_line (system v) k machine)

  pub line_at : (k : ℕ) (l : NamedLine) → At (board_of v) k l → LineAt k l
  unfolding board_of
  line_at k l a =
      let (x, b, q) = at_map (named_line v.names) (sheet_lines (system v) 0 v.machines) k l a in
      let (m, c) = below_at v.machines k (omega (arith, at_below (sheet_lines (system v) 0 v.machines) k x b, lines_length (system v) v.machines 0)) in
      let z : 0 + k ≡ k = omega arith in
      record {
        machine = m;
        numbered = c;
        is = q ∙ ap (named_line v.names) (sym (at_lines (system v) v.machines 0 k m x c b) ∙ ap (λ (i : ℕ). sheet_line (system v) i m) z);
      }

  -- a move of the sheet is that of a declared event
  record MoveAt (m : Machine) (x : NamedMove) : Type 0 where
    pub event : ℕ
    pub declared : event < length v.names
    pub name : x.event ≡ get_or v.names event []
    pub is : move (system v) m event ≡ some (record { pre = x.pre; post = x.post })

  move_at : (m : Machine) (k : ℕ) (x : NamedMove) → Memᴰ x (named_line v.names (sheet_line (system v) k m)).moves → MoveAt m x
  unfolding sheet_line
  move_at m k x i =
      let (y, j, q) = map_mem (named v.names) (moves_below (system v) m (length v.names)) x i in
      let b = in_moves (system v) m (length v.names) y j in
      record {
        event = y.event;
        declared = b.low;
        name = ap (λ (z : NamedMove). z.event) q;
        is = b.is ∙ ap (λ (z : NamedMove). some (record { pre = z.pre; post = z.post })) (sym q);
      }

  -- the names on the sheet are declared
  pub on_declared : (e : Name) → OnSheet (board_of v) e → SpellsOne v.names e
  on_declared e (l, i, (x, j, o)) =
      let k = mem_at (board_of v) l i in
      let a = line_at k.0 l k.1 in
      let b = move_at a.machine k.0 x (subst (λ (z : NamedLine). Memᴰ x z.moves) a.is j) in
      (b.event, (get_or v.names b.event [], at_get_d v.names b.event [] b.declared, subst (OneEvent e) b.name o))

  few_names : (b : Board) → ((l : NamedLine) → Memᴰ l b → Memᴰ l (board_of v)) → FewNames b
  few_names b h =
      record {
        names = v.names;
        most = w.names_most;
        all = λ e s.
            let d = on_declared e (s.0, h s.0 s.1, s.2) in
            (d.1.0, at_mem v.names d.0 d.1.0 d.1.1, d.1.2);
      }

  -- the ends of a move differ
  ends_differ : (m : Machine) (e : ℕ) (x : Move) → move (system v) m e ≡ some x → ¬ (x.pre ≡ x.post)
  ends_differ m e x q r = go (move_view (system v) m e)
    where
      go : MoveView (system v) m e → ⊥
      go (stays n s) = none-ne-some x (sym n ∙ q)
      go (moves t n k he c) =
          let z : move_of m t ≡ x = some-injective (move_of m t) x (sym n ∙ q) in
          c (ap (λ (y : Move). y.pre) z ∙ r ∙ sym (ap (λ (y : Move). y.post) z))

  one_line : (k : ℕ) (m : Machine) → At v.machines k m → (before : Board) → length before ≡ k
      → FewNames (before ++ (named_line v.names (sheet_line (system v) k m) ∷ [])) → GoodLine before (named_line v.names (sheet_line (system v) k m))
  unfolding sheet_line
  one_line k m a before q f =
      record {
        number = sym q;
        places_least = (w.machines m i).least;
        places_most = (w.machines m i).most;
        start = place_low (system v) m (g m i) v.initial (within_of v w).initial;
        moves = λ x j.
            let b = move_at m k x j in
            let h = move_low (system v) m (within_of v w) (g m i) b.event (record { pre = x.pre; post = x.post }) b.is in
            record {
              name = subst IsName (sym b.name) (w.names (get_or v.names b.event []) (get_d_mem v.names b.event [] b.declared));
              pre = h.0;
              post = h.1;
              differ = ends_differ m b.event (record { pre = x.pre; post = x.post }) b.is;
            };
        once = once;
        names = f;
      }
    where
      i : Memᴰ m v.machines
      i = at_mem v.machines k m a

      once : (c d : ℕ) (x y : NamedMove) → At (map (named v.names) (moves_below (system v) m (length v.names))) c x
          → At (map (named v.names) (moves_below (system v) m (length v.names))) d y → OneEvent x.event y.event → c ≡ d
      once c d x y ac ad o =
          let (s, bs, qs) = at_map (named v.names) (moves_below (system v) m (length v.names)) c x ac in
          let (t, bt, qt) = at_map (named v.names) (moves_below (system v) m (length v.names)) d y ad in
          let ls = (in_moves (system v) m (length v.names) s (at_mem (moves_below (system v) m (length v.names)) c s bs)).low in
          let lt = (in_moves (system v) m (length v.names) t (at_mem (moves_below (system v) m (length v.names)) d t bt)).low in
          let same : s.event ≡ t.event = names_once s.event t.event (get_or v.names s.event []) (get_or v.names t.event [])
          (at_get_d v.names s.event [] ls) (at_get_d v.names t.event [] lt)
          (subst (λ (z : NamedMove). OneEvent z.event (get_or v.names t.event [])) qs (subst (λ (z : NamedMove). OneEvent x.event z.event) qt o)) in
          by (order c d) (order d c) s t bs bt same
        where
          by : (c < d) ⊎ (d ≤ c) → (d < c) ⊎ (c ≤ d) → (s t : EventMove) → At (moves_below (system v) m (length v.names)) c s
              → At (moves_below (system v) m (length v.names)) d t → s.event ≡ t.event → c ≡ d
          by (inl h) n s t bs bt e = absurd (omega (arith, rising (system v) m (length v.names) c d s t h bs bt, e))
          by (inr h) (inl n) s t bs bt e = absurd (omega (arith, rising (system v) m (length v.names) d c t s n bt bs, e))
          by (inr h) (inr n) s t bs bt e = omega arith

  pub good_sheet : SaysSheet (sheet v) (board_of v)
  unfolding sheet
  good_sheet = (
    refl,
    record {
      least = omega (arith, board_length v, w.machines_least);
      most = omega (arith, board_length v, w.machines_most);
      good = good;
      size = sheet_fits v w g;
    },
  )
    where
      good : (k : ℕ) (l : NamedLine) → At (board_of v) k l → GoodLine (take k (board_of v)) l
      good k l a =
          let c = line_at k l a in
          subst (GoodLine (take k (board_of v))) (sym c.is)
          (one_line k c.machine c.numbered (take k (board_of v)) (length-take-le k (board_of v) (omega (arith, at_below (board_of v) k l a)))
          (few_names (take k (board_of v) ++ (named_line v.names (sheet_line (system v) k c.machine) ∷ [])) (λ x i. within x (Memᴰ.append_cases (take k (board_of v)) i) c.is)))
        where
          within : (x : NamedLine) {y : NamedLine} → Memᴰ x (take k (board_of v)) ⊎ Memᴰ x (y ∷ []) → l ≡ y → Memᴰ x (board_of v)
          within x (inl i) q = let j = take_mem (board_of v) k x i in at_mem (board_of v) j.0 x j.2
          within x (inr i) q = subst (λ (z : NamedLine). Memᴰ z (board_of v)) (q ∙ sym (Memᴰ.eq_of_singleton i)) (at_mem (board_of v) k l a)

-- "The sheet shows exactly the machines which that theory derives."
module _ (v : Input) (w : Limits v) (b : Within (system v)) (g : (m : Machine) → Memᴰ m v.machines → Good (system v) m) (h : (m : Machine) → Memᴰ m v.machines → Listed (system v) m) where
  line_shows : (k : ℕ) (m : Machine) → At v.machines k m → Shows (system v) v.names k m (named_line v.names (sheet_line (system v) k m))
  unfolding sheet_line
  line_shows k m a =
      record {
        number = refl;
        count = refl;
        start = in_place (system v) m (g m i) v.initial b.initial;
        moves = λ n q r. (to n q r, from n q r);
        rising = rises;
      }
    where
      i : Memᴰ m v.machines
      i = at_mem v.machines k m a

      xs : List EventMove
      xs = moves_below (system v) m (length v.names)

      to : (n : Name) (q r : ℕ) → Memᴰ (record { event = n; pre = q; post = r }) (map (named v.names) xs) → (e : ℕ) × At v.names e n × Arc (system v) m q e r
      to n q r j =
          let (y, l, z) = map_mem (named v.names) xs (record { event = n; pre = q; post = r }) j in (
            y.event,
            subst (At v.names y.event) (sym (ap (λ (x : NamedMove). x.event) z)) (at_get_d v.names y.event [] (in_moves (system v) m (length v.names) y l).low),
            subst₂ (λ (c d : ℕ). Arc (system v) m c y.event d) (sym (ap (λ (x : NamedMove). x.pre) z)) (sym (ap (λ (x : NamedMove). x.post) z))
                ((moves_iff (system v) m b (g m i) (h m i) y.event y.pre y.post).0 l),
          )

      from : (n : Name) (q r : ℕ) → (e : ℕ) × At v.names e n × Arc (system v) m q e r → Memᴰ (record { event = n; pre = q; post = r }) (map (named v.names) xs)
      from n q r (e, c, f) =
          subst (λ (z : Name). Memᴰ (record { event = z; pre = q; post = r }) (map (named v.names) xs)) (at_value v.names e n [] c)
          (mem_map (named v.names) xs (record { event = e; pre = q; post = r }) ((moves_iff (system v) m b (g m i) (h m i) e q r).1 f))

      -- the number of a move's event
      numbered : (c d : ℕ) (x : NamedMove) → At (map (named v.names) xs) c x → At v.names d x.event → (y : EventMove) × At xs c y × (d ≡ y.event)
      numbered c d x f e =
          let (y, l, z) = at_map (named v.names) xs c x f in (
            y,
            l,
            names_once v w g d y.event x.event (get_or v.names y.event []) e
                (at_get_d v.names y.event [] (in_moves (system v) m (length v.names) y (at_mem xs c y l)).low)
                (subst (OneEvent x.event) (ap (λ (x : NamedMove). x.event) z) (one_refl x.event)),
          )

      rises : (c j d e : ℕ) (x y : NamedMove) → c < j → At (map (named v.names) xs) c x → At (map (named v.names) xs) j y → At v.names d x.event → At v.names e y.event → d < e
      rises c j d e x y l p q n o =
          let s = numbered c d x p n in
          let t = numbered j e y q o in
          omega (arith, s.2, t.2, rising (system v) m (length v.names) c j s.0 t.0 l s.1 t.1)

  pub sheet_of_lem : Sheet v
  sheet_of_lem =
      record {
        board = board_of v;
        one_each = board_length v;
        shows = λ k m l a c.
            let x = line_at v w g k l c in
            subst (Shows (system v) v.names k m)
            (ap (λ (z : Machine). named_line v.names (sheet_line (system v) k z)) (at_same v.machines k m x.machine a x.numbered) ∙ sym x.is) (line_shows k m a);
        says = good_sheet v w g;
      }

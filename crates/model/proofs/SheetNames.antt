-- The names on a sheet, each once, and that they are at most 64.
use Prim.Native.Nat.{ℕ, suc, ◌≤◌}
use native.Mathlib.Omega.{arith}
use mathlib.Core.Path.{◌≡◌, refl, ap, sym, ◌∙◌, subst}
use mathlib.Core.Logic.{◌⊎◌, inl, inr}
use mathlib.Core.Bool.{not, cond}
use mathlib.Core.List.Memᴰ
use mathlib.Core.List.{List, [], ◌∷◌, ◌++◌, flat_map, Memᴰ}
use mathlib.Core.Option.{none-ne-some}
use lib.Dec.{T}
use lib.ListN.{length, length-append}
use Rattle.model.specs.Lists.{At, exists}
use Rattle.model.specs.Bytes.{Name, OneEvent, same_name}
use Rattle.model.specs.Sheet.{NamedMove, NamedLine, Board}
use Rattle.model.specs.Board.{add_name, add_names, names_on}
use Rattle.model.specs.BoardTable.{OnSheet, FewNames}
use Rattle.model.proofs.Laws.{dec, T_true, T_false, contra}
use Rattle.model.proofs.ListLaws.{mem_split}
use Rattle.model.proofs.Positions.{at_mem, mem_at}
use Rattle.model.proofs.Sheets.{at_snoc}
use Rattle.model.proofs.OneEvent.{one_refl, one_sym, one_trans, one_among, among_one, Apart}

-- ---- the moves on a sheet, machine by machine

abbrev pub moves_on : Board → List NamedMove
moves_on = flat_map (λ (l : NamedLine). l.moves)

-- ---- names of which no two are one event

pub apart_snoc : (es : List Name) (e : Name) → Apart es → T (not (exists (same_name e) es)) → Apart (es ++ (e ∷ []))
apart_snoc es e h n i j x y a b o = go (at_snoc es e i x a) (at_snoc es e j y b)
  where
    new : (k : ℕ) (z : Name) → At es k z → OneEvent e z → ⊥
    new k z c p = contra (exists (same_name e) es) n (among_one e es (z, at_mem es k z c, p))

    go : At es i x ⊎ ((i ≡ length es) × (x ≡ e)) → At es j y ⊎ ((j ≡ length es) × (y ≡ e)) → i ≡ j
    go (inl c) (inl d) = h i j x y c d o
    go (inl c) (inr d) = absurd (new i x c (one_sym x e (subst (λ (z : Name). OneEvent x z) d.1 o)))
    go (inr c) (inl d) = absurd (new j y d (subst (λ (z : Name). OneEvent z y) c.1 o))
    go (inr c) (inr d) = c.0 ∙ sym d.0

-- names that are apart, each one event with one of these, are no more than these
pigeonhole : (ns ms : List Name) → Apart ns → ((n : Name) → Memᴰ n ns → (m : Name) × Memᴰ m ms × OneEvent n m) → length ns ≤ length ms
pigeonhole [] ms h c = omega arith
pigeonhole (x ∷ ns) ms h c = go (c x (Memᴰ.head refl)) (λ ks. pigeonhole ns ks (λ i j e f a b o. let q : suc i ≡ suc j = h (suc i) (suc j) e f a b o in omega arith))
  where
    go : (m : Name) × Memᴰ m ms × OneEvent x m
        → ((ks : List Name) → ((n : Name) → Memᴰ n ns → (m : Name) × Memᴰ m ks × OneEvent n m) → length ns ≤ length ks)
        → suc (length ns) ≤ length ms
    go w ih =
        let p = mem_split ms w.0 w.1 in
        omega (arith, ap length p.2, length-append p.0 (w.0 ∷ p.1), length-append p.0 p.1, ih (p.0 ++ p.1) (λ n m. others p.0 p.1 p.2 n m (c n (Memᴰ.tail m))))
      where
        others : (us vs : List Name) → ms ≡ us ++ (w.0 ∷ vs) → (n : Name) → Memᴰ n ns → (m : Name) × Memᴰ m ms × OneEvent n m
            → (m : Name) × Memᴰ m (us ++ vs) × OneEvent n m
        others us vs e n i v = at (Memᴰ.append_cases us (subst (λ (l : List Name). Memᴰ v.0 l) e v.1))
          where
            not_this : v.0 ≡ w.0 → ⊥
            not_this q =
                let k = mem_at ns n i in
                let z : 0 ≡ suc k.0 = h 0 (suc k.0) x n refl k.1 (one_trans x w.0 n w.2 (subst (λ (y : Name). OneEvent y n) q (one_sym n v.0 v.2))) in
                omega arith

            last : Memᴰ v.0 (w.0 ∷ vs) → (m : Name) × Memᴰ m (us ++ vs) × OneEvent n m
            last (Memᴰ.head q) = absurd (not_this q)
            last (Memᴰ.tail m) = (v.0, Memᴰ.append_right us m, v.2)

            at : Memᴰ v.0 us ⊎ Memᴰ v.0 (w.0 ∷ vs) → (m : Name) × Memᴰ m (us ++ vs) × OneEvent n m
            at (inl m) = (v.0, Memᴰ.append_left vs m, v.2)
            at (inr m) = last m

-- ---- the names on a sheet

pub record Table (ns : List Name) (xs : List NamedMove) (ms : List Name) : Type 0 where
  pub apart : Apart ms
  pub kept : (n : Name) → Memᴰ n ns → Memᴰ n ms
  pub has : (x : NamedMove) → Memᴰ x xs → (n : Name) × Memᴰ n ms × OneEvent x.event n
  pub only : (n : Name) → Memᴰ n ms → Memᴰ n ns ⊎ ((x : NamedMove) × Memᴰ x xs × (n ≡ x.event))

pub names_table : (ns : List Name) (xs : List NamedMove) → Apart ns → Table ns xs (add_names ns xs)
unfolding add_names add_name
names_table ns [] h = record { apart = h; kept = λ n m. m; has = λ x m. elim m [ ]; only = λ n m. inl m }
names_table ns (x ∷ xs) h = go (dec (exists (same_name x.event) ns)) (λ ks. names_table ks xs)
  where
    old : T (exists (same_name x.event) ns) → Table ns xs (add_names ns xs) → Table ns (x ∷ xs) (add_names ns xs)
    old t i =
        record {
          apart = i.apart;
          kept = i.kept;
          has = has;
          only = λ n m. only n (i.only n m);
        }
      where
        has : (y : NamedMove) → Memᴰ y (x ∷ xs) → (n : Name) × Memᴰ n (add_names ns xs) × OneEvent y.event n
        has y (Memᴰ.head q) =
            let w = one_among x.event ns t in
            (w.0, i.kept w.0 w.1, subst (λ (z : NamedMove). OneEvent z.event w.0) (sym q) w.2)
        has y (Memᴰ.tail m) = i.has y m

        only : (n : Name) → Memᴰ n ns ⊎ ((z : NamedMove) × Memᴰ z xs × (n ≡ z.event)) → Memᴰ n ns ⊎ ((z : NamedMove) × Memᴰ z (x ∷ xs) × (n ≡ z.event))
        only n (inl m) = inl m
        only n (inr w) = inr (w.0, Memᴰ.tail w.1, w.2)

    new : Table (ns ++ (x.event ∷ [])) xs (add_names (ns ++ (x.event ∷ [])) xs) → Table ns (x ∷ xs) (add_names (ns ++ (x.event ∷ [])) xs)
    new i =
        record {
          apart = i.apart;
          kept = λ n m. i.kept n (Memᴰ.append_left (x.event ∷ []) m);
          has = has;
          only = λ n m. only n (i.only n m);
        }
      where
        has : (y : NamedMove) → Memᴰ y (x ∷ xs) → (n : Name) × Memᴰ n (add_names (ns ++ (x.event ∷ [])) xs) × OneEvent y.event n
        has y (Memᴰ.head q) =
            (x.event, i.kept x.event (Memᴰ.append_right ns (Memᴰ.head refl)), subst (λ (z : NamedMove). OneEvent z.event x.event) (sym q) (one_refl x.event))
        has y (Memᴰ.tail m) = i.has y m

        from : (n : Name) → Memᴰ n ns ⊎ Memᴰ n (x.event ∷ []) → Memᴰ n ns ⊎ ((z : NamedMove) × Memᴰ z (x ∷ xs) × (n ≡ z.event))
        from n (inl m) = inl m
        from n (inr m) = inr (x, Memᴰ.head refl, Memᴰ.eq_of_singleton m)

        only : (n : Name) → Memᴰ n (ns ++ (x.event ∷ [])) ⊎ ((z : NamedMove) × Memᴰ z xs × (n ≡ z.event)) → Memᴰ n ns ⊎ ((z : NamedMove) × Memᴰ z (x ∷ xs) × (n ≡ z.event))
        only n (inl m) = from n (Memᴰ.append_cases ns m)
        only n (inr w) = inr (w.0, Memᴰ.tail w.1, w.2)

    go : T (exists (same_name x.event) ns) ⊎ T (not (exists (same_name x.event) ns))
        → ((ks : List Name) → Apart ks → Table ks xs (add_names ks xs))
        → Table ns (x ∷ xs) (add_names (cond (exists (same_name x.event) ns) ns (ns ++ (x.event ∷ []))) xs)
    go (inl t) ih = rw (T_true (exists (same_name x.event) ns) t) (old t (ih ns h))
    go (inr t) ih = rw (T_false (exists (same_name x.event) ns) t) (new (ih (ns ++ (x.event ∷ [])) (apart_snoc ns x.event h t)))

pub moves_of : (b : Board) (x : NamedMove) → Memᴰ x (moves_on b) → (l : NamedLine) × Memᴰ l b × Memᴰ x l.moves
unfolding flat_map
moves_of [] x m = elim m [ ]
moves_of (l ∷ b) x m = go (Memᴰ.append_cases l.moves m) (moves_of b x)
  where
    go : Memᴰ x l.moves ⊎ Memᴰ x (flat_map (λ (k : NamedLine). k.moves) b) → (Memᴰ x (flat_map (λ (k : NamedLine). k.moves) b) → (k : NamedLine) × Memᴰ k b × Memᴰ x k.moves)
        → (k : NamedLine) × Memᴰ k (l ∷ b) × Memᴰ x k.moves
    go (inl i) ih = (l, Memᴰ.head refl, i)
    go (inr i) ih = let w = ih i in (w.0, Memᴰ.tail w.1, w.2)

pub of_moves : (b : Board) (l : NamedLine) (x : NamedMove) → Memᴰ l b → Memᴰ x l.moves → Memᴰ x (moves_on b)
unfolding flat_map
of_moves [] l x x4 i = elim x4 [ ]
of_moves (k ∷ b) l x (Memᴰ.head q) i = Memᴰ.append_left (moves_on b) (subst (λ (z : NamedLine). Memᴰ x z.moves) q i)
of_moves (k ∷ b) l x (Memᴰ.tail m) i = Memᴰ.append_right k.moves (of_moves b l x m i)

-- "At most 64 names occur."
pub few_of : (b : Board) → length (names_on b) ≤ 64 → FewNames b
unfolding names_on
few_of b h = record { names = names_on b; most = h; all = all }
  where
    t : Table [] (moves_on b) (add_names [] (moves_on b))
    t = names_table [] (moves_on b) (λ i j e f a c o. absurd (none-ne-some e a))

    all : (e : Name) → OnSheet b e → (n : Name) × Memᴰ n (names_on b) × OneEvent e n
    all e (l, m, (x, i, o)) = let w = t.has x (of_moves b l x m i) in (w.0, w.1, one_trans e x.event w.0 o w.2)

pub of_few : (b : Board) → FewNames b → length (names_on b) ≤ 64
unfolding names_on
of_few b f = let p = pigeonhole (names_on b) f.names t.apart covered in omega (arith, f.most)
  where
    t : Table [] (moves_on b) (add_names [] (moves_on b))
    t = names_table [] (moves_on b) (λ i j e f a c o. absurd (none-ne-some e a))

    covered : (n : Name) → Memᴰ n (names_on b) → (m : Name) × Memᴰ m f.names × OneEvent n m
    covered n i = go (t.only n i)
      where
        go : Memᴰ n [] ⊎ ((x : NamedMove) × Memᴰ x (moves_on b) × (n ≡ x.event)) → (m : Name) × Memᴰ m f.names × OneEvent n m
        go (inl m) = elim m [ ]
        go (inr w) =
            let l = moves_of b w.0 w.1 in
            f.all n (l.0, l.1, (w.0, l.2, subst (λ (z : Name). OneEvent n z) w.2 (one_refl n)))

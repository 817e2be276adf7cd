-- Sheets whose moves are spelt in other ways run alike, whatever the spelling of the names that a board is given.
use Prim.Native.Nat.{ℕ, zero, suc}
use native.Mathlib.Omega.{arith}
use mathlib.Core.Path.{◌≡◌, refl, ap, sym, ◌∙◌, subst}
use mathlib.Core.Logic.{◌⊎◌, inl, inr}
use mathlib.Core.Bool.{not}
use mathlib.Core.List.{List, [], ◌∷◌, ◌++◌}
use mathlib.Core.Option.{some, map, some-injective, none-ne-some}
use lib.Dec.{T, eqb, eqb→eq}
use Rattle.model.specs.Lists.{At, Pairwise, first, every, index, is_empty}
use Rattle.model.specs.Product.{Move, effective}
use Rattle.model.specs.Bytes.{Name, Letter, OneEvent, same_name}
use Rattle.model.specs.Sheet.{NamedMove, NamedLine, Board}
use Rattle.model.specs.Board.{move_on, start_places, split_names, run_names, run_board}
use Rattle.model.specs.Spelling.{SameButCase, RespeltMove, RespeltLine}
use Rattle.model.proofs.Laws.{dec, T_true, T_false, contra, eqb_of, neqb}
use Rattle.model.proofs.Pairs.{pairwise_map, pairwise_length, pairwise_snoc}
use Rattle.model.proofs.OneEvent.{one_case, case_one, both_test, stays}
use Rattle.model.proofs.Together.{SameMoves, same_effective, same_run}

abbrev move_of : NamedMove → Move
move_of x = record { pre = x.pre; post = x.post }

moves_alike : (xs ys : List NamedMove) (e f : Name) → OneEvent e f → Pairwise RespeltMove xs ys
    → map move_of (first (λ (x : NamedMove). same_name e x.event) xs) ≡ map move_of (first (λ (x : NamedMove). same_name f x.event) ys)
unfolding first
moves_alike [] [] e f o p = refl
moves_alike [] (y ∷ ys) e f o p = absurd p
moves_alike (x ∷ xs) [] e f o p = absurd p
moves_alike (x ∷ xs) (y ∷ ys) e f o (q, p) = go (dec (same_name f y.event)) (moves_alike xs ys e f o p)
  where
    t : same_name e x.event ≡ same_name f y.event
    t = both_test e f x.event y.event o q.event

    go : T (same_name f y.event) ⊎ T (not (same_name f y.event))
        → map move_of (first (λ (z : NamedMove). same_name e z.event) xs) ≡ map move_of (first (λ (z : NamedMove). same_name f z.event) ys)
        → map move_of (first (λ (z : NamedMove). same_name e z.event) (x ∷ xs)) ≡ map move_of (first (λ (z : NamedMove). same_name f z.event) (y ∷ ys))
    go (inl h) ih = rw (t, T_true (same_name f y.event) h) (λ i. some (record { pre = q.pre i; post = q.post i }))
    go (inr h) ih = rw (t, T_false (same_name f y.event) h) ih

same_each : (b c : Board) → Pairwise RespeltLine b c → (e f : Name) → OneEvent e f → SameMoves move_on move_on b c e f
unfolding move_on
same_each b c p e f o = record { one_each = pairwise_length RespeltLine b c p; each = each b c p }
  where
    each : (b c : Board) → Pairwise RespeltLine b c → (i : ℕ) (l k : NamedLine) → At b i l → At c i k → move_on l e ≡ move_on k f
    each [] c p i l k x y = absurd (none-ne-some l x)
    each (m ∷ b) [] p i l k x y = absurd p
    each (m ∷ b) (n ∷ c) p zero l k x y =
        ap (λ (z : NamedLine). move_on z e) (sym (some-injective m l x)) ∙ moves_alike m.moves n.moves e f o p.0.moves
        ∙ ap (λ (z : NamedLine). move_on z f) (some-injective n k y)
    each (m ∷ b) (n ∷ c) p (suc i) l k x y = each b c p.1 i l k x y

starts_alike : (b c : Board) → Pairwise RespeltLine b c → start_places b ≡ start_places c
unfolding start_places
starts_alike [] [] p = refl
starts_alike [] (k ∷ c) p = absurd p
starts_alike (l ∷ b) [] p = absurd p
starts_alike (l ∷ b) (k ∷ c) p = λ i. p.0.start i ∷ starts_alike b c p.1 i

snoc_one : (w v : Name) (b d : ℕ) → OneEvent w v → SameButCase b d → OneEvent (w ++ (b ∷ [])) (v ++ (d ∷ []))
snoc_one w v b d o q = case_one (w ++ (b ∷ [])) (v ++ (d ∷ [])) (pairwise_snoc SameButCase w v b d (one_case w v o) q)

not_letter : ¬ Letter 10
not_letter (inl l) = omega (arith, l.0)
not_letter (inr l) = omega (arith, l.0)

case_sym : (a b : ℕ) → SameButCase a b → SameButCase b a
case_sym a b (inl q) = inl (sym q)
case_sym a b (inr (inl s)) = inr (inr s)
case_sym a b (inr (inr s)) = inr (inl s)

split_alike : (w v t u : List ℕ) → OneEvent w v → Pairwise SameButCase t u
    → Pairwise OneEvent (split_names w t).0 (split_names v u).0 × OneEvent (split_names w t).1 (split_names v u).1
unfolding split_names
split_alike w v [] [] o p = (tt, o)
split_alike w v [] (d ∷ u) o p = absurd p
split_alike w v (b ∷ t) [] o p = absurd p
split_alike w v (b ∷ t) (d ∷ u) o p = go (dec (eqb b 10)) (split_alike [] [] t u refl p.1) (split_alike (w ++ (b ∷ [])) (v ++ (d ∷ [])) t u (snoc_one w v b d o p.0) p.1)
  where
    ten : b ≡ 10 → d ≡ 10
    ten q = sym (stays b d p.0 (subst (λ (z : ℕ). ¬ Letter z) (sym q) not_letter)) ∙ q

    net : d ≡ 10 → b ≡ 10
    net q = sym (stays d b (case_sym b d p.0) (subst (λ (z : ℕ). ¬ Letter z) (sym q) not_letter)) ∙ q

    go : T (eqb b 10) ⊎ T (not (eqb b 10)) → Pairwise OneEvent (split_names [] t).0 (split_names [] u).0 × OneEvent (split_names [] t).1 (split_names [] u).1
        → Pairwise OneEvent (split_names (w ++ (b ∷ [])) t).0 (split_names (v ++ (d ∷ [])) u).0 × OneEvent (split_names (w ++ (b ∷ [])) t).1 (split_names (v ++ (d ∷ [])) u).1
        → Pairwise OneEvent (split_names w (b ∷ t)).0 (split_names v (d ∷ u)).0 × OneEvent (split_names w (b ∷ t)).1 (split_names v (d ∷ u)).1
    go (inl h) x y = rw (T_true (eqb b 10) h, T_true (eqb d 10) (eqb_of d 10 (ten (eqb→eq b 10 h)))) ((o, x.0), x.1)
    go (inr h) x y = rw (T_false (eqb b 10) h, T_false (eqb d 10) (neqb d 10 (λ q. contra (eqb b 10) h (eqb_of b 10 (net q))))) y

module _ (b c : Board) (p : Pairwise RespeltLine b c) where
  known_alike : (e f : Name) → OneEvent e f → effective move_on b e ≡ effective move_on c f
  known_alike e f o = same_effective move_on move_on b c e f (same_each b c p e f o)

  every_alike : (es fs : List Name) → Pairwise OneEvent es fs → every (effective move_on b) es ≡ every (effective move_on c) fs
  unfolding every
  every_alike [] [] q = refl
  every_alike [] (f ∷ fs) q = absurd q
  every_alike (e ∷ es) [] q = absurd q
  every_alike (e ∷ es) (f ∷ fs) q = rw (known_alike e f q.0, every_alike es fs q.1) refl

  index_alike : (es fs : List Name) → Pairwise OneEvent es fs → index (λ e. not (effective move_on b e)) es ≡ index (λ e. not (effective move_on c e)) fs
  unfolding index
  index_alike [] [] q = refl
  index_alike [] (f ∷ fs) q = absurd q
  index_alike (e ∷ es) [] q = absurd q
  index_alike (e ∷ es) (f ∷ fs) q = rw (known_alike e f q.0, index_alike es fs q.1) refl

  empty_alike : (w v : List ℕ) → Pairwise SameButCase w v → is_empty w ≡ is_empty v
  unfolding is_empty
  empty_alike [] [] q = refl
  empty_alike [] (y ∷ v) q = absurd q
  empty_alike (x ∷ w) [] q = absurd q
  empty_alike (x ∷ w) (y ∷ v) q = refl

  names_alike : (es fs : List Name) (w v : List ℕ) → Pairwise OneEvent es fs → OneEvent w v → run_names b es w ≡ run_names c fs v
  unfolding run_names
  names_alike es fs w v q o =
      rw (index_alike es fs q, every_alike es fs q, empty_alike w v (one_case w v o), starts_alike b c p, same_run move_on move_on b c es fs (pairwise_map es fs (same_each b c p) q) (start_places c)) refl

  pub boards_alike : (t u : List ℕ) → OneEvent t u → run_board b t ≡ run_board c u
  boards_alike t u o =
      let s = split_alike [] [] t u refl (one_case t u o) in
      names_alike (split_names [] t).0 (split_names [] u).0 (split_names [] t).1 (split_names [] u).1 s.0 s.1

-- The calls that are given a sheet: writing the machines read, and the refusals of the board's run.
use Prim.Native.Nat.{ℕ, suc, ◌+◌, ◌<◌}
use native.Mathlib.Omega.{arith}
use mathlib.Core.Path.{◌≡◌, refl, ap, sym, ◌∙◌, subst}
use mathlib.Core.Logic.{◌⊎◌, inl, inr, ◌↔◌}
use mathlib.Core.Bool.{Bool, true, not, cond, ◌&&◌}
use mathlib.Core.List.Memᴰ
use mathlib.Core.List.{List, [], ◌∷◌, ◌++◌, flat_map, append_assoc, append-nil, Memᴰ}
use mathlib.Core.Option.{Option, none, some}
use lib.Dec.{T}
use lib.ListN.{length, take, drop, replicate}
use lib.Seq.{length-take-le}
use Rattle.model.specs.Lists.{At, every, index, is_empty}
use Rattle.model.specs.Refusal.{Refusal, refuse, Checked, refused, passed, ◌>>=◌}
use Rattle.model.specs.Product.{Ran, effective, run_from}
use Rattle.model.specs.Bytes.{Name, IsName, OneEvent}
use Rattle.model.specs.Sheet.{Board, written_sheet}
use Rattle.model.specs.Services.{lend, outcome_of, refused_by, RunAnswer, ran_answer}
use Rattle.model.specs.Board.{read_sheet, rewrite, move_on, start_places, split_names, run_names, board_run}
use Rattle.model.specs.BoardTable.{OnSheet, SaysSheet, ended, Unbroken, OddName, NamesOf, SheetRefused, Loads, BoardRefuses}
use Rattle.model.specs.Demands.{Lends}
use Rattle.model.proofs.Laws.{dec, T_true, T_false, not_T, contra, and_l, and_r, and_i, exists_intro, every_elim, not_every_elim}
use Rattle.model.proofs.ListLaws.{flat_map_append}
use Rattle.model.proofs.Positions.{at_below, at_mem, mem_at, split_at, take_mem, index_at, index_first, index_skip}
use Rattle.model.proofs.Verdicts.{refused_passed, same_refused, same_passed}
use Rattle.model.proofs.Lending.{lends}
use Rattle.model.proofs.GoodLines.{sheet_lines_lem}
use Rattle.model.proofs.Loading.{Loaded, loaded, bad, sheet_loaded, says_loaded, bad_loaded}
use Rattle.model.proofs.SheetMoves.{on_sheet, sheet_on}
use Rattle.model.proofs.OneEvent.{one_name}
use Rattle.model.proofs.NameLists.{unbroken_name, split_word, split_last, EachUnbroken, split_all, Split, split_names_lem}

-- ---- reading

pub loading : (s : List ℕ) → Loads s
loading s = record { refuses = λ r. (refused_bad r (sheet_loaded s), λ w. bad_loaded s w.0 w.1 ∙ ap {B = Checked Board} refused (sym w.2)); accepts = λ b. (passed_says b (sheet_loaded s), says_loaded s b); lines = sheet_lines_lem s }
  where
    refused_bad : (r : Refusal) → Loaded s (read_sheet s) → read_sheet s ≡ refused r → SheetRefused s r
    refused_bad r (loaded b e w) h = absurd (refused_passed r b (sym h ∙ e))
    refused_bad r (bad l e w) h = (l, w, same_refused {A = Board} r (refuse 15 l 0) (sym h ∙ e))

    passed_says : (b : Board) → Loaded s (read_sheet s) → read_sheet s ≡ passed b → SaysSheet s b
    passed_says b (loaded c e w) h = subst (SaysSheet s) (same_passed c b (sym e ∙ h)) w
    passed_says b (bad l e w) h = absurd (refused_passed (refuse 15 l 0) b (sym e ∙ h))

-- ---- writing what was read: the same bytes

pub rewriting : (s out : List ℕ) → Lends (SheetRefused s) (SaysSheet s) (λ _. s) out (rewrite s out)
unfolding rewrite
rewriting s out =
    subst (λ (c : Checked (List ℕ)). Lends (SheetRefused s) (SaysSheet s) (λ _. s) out (lend c out)) (go (read_sheet s) (loading s).accepts)
    (lends (SheetRefused s) (SaysSheet s) (read_sheet s) (loading s).refuses (loading s).accepts (λ _. s) out)
  where
    go : (c : Checked Board) → ((b : Board) → (c ≡ passed b) ↔ SaysSheet s b) → (c >>= λ _. passed s) ≡ (c >>= λ b. passed (written_sheet b))
    go (refused r) h = refl
    go (passed b) h = ap {B = Checked (List ℕ)} passed ((h b).0 refl).0

-- ---- row 14

pub one_unbroken : (e f : Name) → OneEvent e f → IsName f → Unbroken e
one_unbroken e f o n = unbroken_name e (one_name e f o n)

-- the names on a good sheet
pub sheet_unbroken : (s : List ℕ) (b : Board) → SaysSheet s b → (e : Name) → OnSheet b e → Unbroken e
sheet_unbroken s b w e (l, m, (x, i, o)) =
    let k = mem_at b l m in
    one_unbroken e x.event o ((w.1.good k.0 l k.1).moves x i).name

empty : (l : List ℕ) → T (is_empty l) → l ≡ []
unfolding is_empty
empty [] x = refl
empty (c ∷ l) x = absurd x

module _ (b : Board) where
  abbrev strange : Name → Bool
  strange e = not (effective move_on b e)

  abbrev fine : List Name → List ℕ → Bool
  fine es rest = every (effective move_on b) es && is_empty rest

  runs_fine : (es : List Name) (rest : List ℕ) → T (fine es rest) → run_names b es rest ≡ passed (run_from move_on b (start_places b) es)
  unfolding run_names
  runs_fine es rest t = rw (T_true (fine es rest) t)

  runs_odd : (es : List Name) (rest : List ℕ) → T (not (fine es rest)) → run_names b es rest ≡ refused (refuse 14 (index strange es) 0)
  unfolding run_names
  runs_odd es rest t = rw (T_false (fine es rest) t)

  odd_name : (t : List ℕ) (es : List Name) (rest : List ℕ) → Split [] t es rest → T (not (fine es rest)) → OddName (OnSheet b) t (index strange es)
  unfolding is_empty flat_map index
  odd_name t es rest p n = go (dec (every (effective move_on b) es))
    where
      at_one : (e : Name) × At es (index strange es) e × T (strange e) → OddName (OnSheet b) t (index strange es)
      at_one (e, a, u) =
          record {
            before = take k es;
            count = length-take-le k es (omega (arith, at_below es k e a));
            known = known;
            name = e;
            unbroken = p.names e (at_mem es k e a);
            rest = 10 ∷ (flat_map ended (drop (suc k) es) ++ rest);
            list =
                p.list ∙ ap (λ (l : List Name). flat_map ended l ++ rest) (split_at es k e a)
                ∙ ap (λ (l : List ℕ). l ++ rest) (flat_map_append ended (take k es) (e ∷ drop (suc k) es))
                ∙ simp append_assoc;
            odd = inr ((flat_map ended (drop (suc k) es) ++ rest, refl), λ w. contra (effective move_on b e) u (sheet_on b e w));
          }
        where
          k : ℕ
          k = index strange es

          known : (f : Name) → Memᴰ f (take k es) → OnSheet b f
          known f m = by (dec (effective move_on b f)) (take_mem es k f m)
            where
              by : T (effective move_on b f) ⊎ T (not (effective move_on b f)) → (j : ℕ) × (j < k) × At es j f → OnSheet b f
              by (inl x) w = on_sheet b f x
              by (inr x) w = absurd (omega (arith, index_first strange es w.0 f w.2 x, w.1))

      at_end : T (every (effective move_on b) es) → OddName (OnSheet b) t (index strange es)
      at_end x =
          record {
            before = es;
            count = sym (ap (index strange) (sym (append-nil es)) ∙ index_skip strange es [] each ∙ z);
            known = λ e m. on_sheet b e (every_elim (effective move_on b) es x e m);
            name = rest;
            unbroken = p.last;
            rest = [];
            list = p.list ∙ ap (λ (l : List ℕ). flat_map ended es ++ l) (sym (append-nil rest));
            odd = inl (refl, λ q. contra (every (effective move_on b) es && is_empty rest) n (and_i (every (effective move_on b) es) (is_empty rest) x (subst (λ (l : List ℕ). T (is_empty l)) (sym q) tt)));
          }
        where
          z : length es + 0 ≡ length es
          z = omega arith

          each : (e : Name) → Memᴰ e es → T (not (strange e))
          each e m = subst (λ (v : Bool). T (not (not v))) (sym (T_true (effective move_on b e) (every_elim (effective move_on b) es x e m))) tt

      go : T (every (effective move_on b) es) ⊎ T (not (every (effective move_on b) es)) → OddName (OnSheet b) t (index strange es)
      go (inl x) = at_end x
      go (inr x) = let w = not_every_elim (effective move_on b) es x in at_one (index_at strange es (exists_intro strange es w.0 w.1 w.2))

  name_odd : (t : List ℕ) (k : ℕ) → ((e : Name) → OnSheet b e → Unbroken e) → OddName (OnSheet b) t k
      → T (not (fine (split_names [] t).0 (split_names [] t).1)) × (index strange (split_names [] t).0 ≡ k)
  unfolding is_empty index every
  name_odd t k u o = go o.odd
    where
      abs : (e : Name) → OnSheet b e → T (not (strange e))
      abs e w = subst (λ (v : Bool). T (not (not v))) (sym (T_true (effective move_on b e) (sheet_on b e w))) tt

      whole : split_names [] t ≡ (o.before ++ (split_names [] (o.name ++ o.rest)).0, (split_names [] (o.name ++ o.rest)).1)
      whole = ap (split_names []) o.list ∙ split_all o.before (o.name ++ o.rest) (λ e m. u e (o.known e m))

      go : ((o.rest ≡ []) × (¬ (o.name ≡ []))) ⊎ (((after : List ℕ) × (o.rest ≡ 10 ∷ after)) × (¬ OnSheet b o.name))
          → T (not (fine (split_names [] t).0 (split_names [] t).1)) × (index strange (split_names [] t).0 ≡ k)
      go (inl (r, n)) =
          let q : split_names [] (o.name ++ o.rest) ≡ ([], o.name) = ap (λ (l : List ℕ). split_names [] (o.name ++ l)) r ∙ ap (split_names []) (append-nil o.name) ∙ split_last [] o.name o.unbroken in
          let e : split_names [] t ≡ (o.before ++ [], o.name) = rw q at whole in
          rw e (
            not_T (fine (o.before ++ []) o.name) (λ x. n (empty o.name (and_r (every (effective move_on b) (o.before ++ [])) (is_empty o.name) x))),
            index_skip strange o.before [] (λ f m. abs f (o.known f m)) ∙ omega (arith, o.count),
          )
      go (inr ((after, r), n)) =
          let q : split_names [] (o.name ++ o.rest) ≡ (o.name ∷ (split_names [] after).0, (split_names [] after).1) = ap (λ (l : List ℕ). split_names [] (o.name ++ l)) r ∙ split_word [] o.name after o.unbroken in
          let e : split_names [] t ≡ (o.before ++ (o.name ∷ (split_names [] after).0), (split_names [] after).1) = rw q at whole in
          let odd : T (strange o.name) = not_T (effective move_on b o.name) (λ x. n (on_sheet b o.name x)) in
          rw e (
            not_T (fine (o.before ++ (o.name ∷ (split_names [] after).0)) (split_names [] after).1)
                (λ x. n (on_sheet b o.name (every_elim (effective move_on b) (o.before ++ (o.name ∷ (split_names [] after).0))
                (and_l (every (effective move_on b) (o.before ++ (o.name ∷ (split_names [] after).0))) (is_empty (split_names [] after).1) x) o.name (Memᴰ.append_right o.before (Memᴰ.head refl))))),
            index_skip strange o.before (o.name ∷ (split_names [] after).0) (λ f m. abs f (o.known f m)) ∙ here odd,
          )
        where
          here : T (strange o.name) → length o.before + cond (strange o.name) 0 (suc (index strange (split_names [] after).0)) ≡ k
          here odd = rw (T_true (strange o.name) odd) (omega (arith, o.count))

-- ---- what the board's run comes to

abbrev pub listed : List ℕ → List Name
listed t = (split_names [] t).0

abbrev left : List ℕ → List ℕ
left t = (split_names [] t).1

pub split_list : (t : List ℕ) → Split [] t (listed t) (left t)
split_list t = split_names_lem [] t (λ m. elim m [ ])

-- the list is fine: nothing is refused
pub record Known (b : Board) (t : List ℕ) : Type 0 where
  pub all : T (every (effective move_on b) (listed t))
  pub ends : t ≡ flat_map ended (listed t)

all_known : (b : Board) (t : List ℕ) → T (fine b (listed t) (left t)) → Known b t
all_known b t x =
    record {
      all = and_l (every (effective move_on b) (listed t)) (is_empty (left t)) x;
      ends = (split_list t).list ∙ ap (λ (l : List ℕ). flat_map ended (listed t) ++ l) (empty (left t) (and_r (every (effective move_on b) (listed t)) (is_empty (left t)) x)) ∙ append-nil (flat_map ended (listed t));
    }

pub board_lists : (b : Board) (t : List ℕ) → NamesOf (OnSheet b) t ⊎ ((k : ℕ) × OddName (OnSheet b) t k)
board_lists b t = go (dec (fine b (listed t) (left t)))
  where
    go : T (fine b (listed t) (left t)) ⊎ T (not (fine b (listed t) (left t))) → NamesOf (OnSheet b) t ⊎ ((k : ℕ) × OddName (OnSheet b) t k)
    go (inl x) = let w = all_known b t x in inl (listed t, λ e m. on_sheet b e (every_elim (effective move_on b) (listed t) w.all e m), w.ends)
    go (inr x) = inr (index (strange b) (listed t), odd_name b t (listed t) (left t) (split_list t) x)

-- what the board answers
pub data BoardView (s t : List ℕ) : Type 0 where
  bad_sheet : (r : Refusal) → board_run s t ≡ ran_answer (refused r) → SheetRefused s r → BoardView s t
  odd_call : (b : Board) (k : ℕ) → board_run s t ≡ ran_answer (refused (refuse 14 k 0)) → SaysSheet s b → OddName (OnSheet b) t k → BoardView s t
  ran : (b : Board) → board_run s t ≡ ran_answer (passed (run_from move_on b (start_places b) (listed t))) → SaysSheet s b → Known b t → ((k : ℕ) → ¬ OddName (OnSheet b) t k) → BoardView s t

pub board_view : (s t : List ℕ) → BoardView s t
unfolding board_run
board_view s t = go (sheet_loaded s)
  where
    runs : (b : Board) → SaysSheet s b → read_sheet s ≡ passed b → T (fine b (listed t) (left t)) ⊎ T (not (fine b (listed t) (left t))) → BoardView s t
    runs b w e (inl x) =
        ran b (rw e (ap ran_answer (runs_fine b (listed t) (left t) x))) w
        (all_known b t x)
        (λ k o. contra (fine b (listed t) (left t)) (name_odd b t k (sheet_unbroken s b w) o).0 x)
    runs b w e (inr x) = odd_call b (index (strange b) (listed t)) (rw e (ap ran_answer (runs_odd b (listed t) (left t) x))) w (odd_name b t (listed t) (left t) (split_list t) x)

    go : Loaded s (read_sheet s) → BoardView s t
    go (loaded b e w) = runs b w e (dec (fine b (listed t) (left t)))
    go (bad l e w) = bad_sheet (refuse 15 l 0) (rw e) (l, w, refl)

bad_answer : (s t : List ℕ) (r : Refusal) → SheetRefused s r → board_run s t ≡ ran_answer (refused r)
unfolding board_run
bad_answer s t r w = rw (((loading s).refuses r).1 w)

pub odd_answer : (s t : List ℕ) (b : Board) (k : ℕ) → SaysSheet s b → OddName (OnSheet b) t k → board_run s t ≡ ran_answer (refused (refuse 14 k 0))
unfolding board_run
odd_answer s t b k w o =
    let n = name_odd b t k (sheet_unbroken s b w) o in
    rw (says_loaded s b w) (ap ran_answer (runs_odd b (listed t) (left t) n.0 ∙ ap {B = Checked Ran} (λ (i : ℕ). refused (refuse 14 i 0)) n.1))

by_refusal : (r q : Refusal) → (ran_answer (refused r)).outcome ≡ refused_by q → r ≡ q
unfolding ran_answer
by_refusal r q e = cc

pub not_ran : (a : Ran) (r : Refusal) → (ran_answer (passed a)).outcome ≡ refused_by r → ⊥
unfolding ran_answer outcome_of
not_ran a r e = go a.blocked e
  where
    go : (o : Option ℕ) → outcome_of a.ran o ≡ refused_by r → ⊥
    go none q = let z : ◌≡◌ {A = ℕ} 0 1 = cc in omega arith
    go (some m) q = let z : ◌≡◌ {A = ℕ} 0 1 = cc in omega arith

pub board_running : (s t : List ℕ) → BoardRefuses s t
unfolding ran_answer
board_running s t = record { refuses = λ r. (told r (board_view s t), back r); zeros = λ r e. zeros r e (board_view s t) }
  where
    Odd : Refusal → Type 0
    Odd r = (b : Board) × SaysSheet s b × (k : ℕ) × OddName (OnSheet b) t k × (r ≡ refuse 14 k 0)

    told : (r : Refusal) → BoardView s t → (board_run s t).outcome ≡ refused_by r → SheetRefused s r ⊎ Odd r
    told r (bad_sheet q e w) h = inl (subst (SheetRefused s) (by_refusal q r (sym (ap (λ (a : RunAnswer). a.outcome) e) ∙ h)) w)
    told r (odd_call b k e w o) h = inr (b, w, k, o, sym (by_refusal (refuse 14 k 0) r (sym (ap (λ (a : RunAnswer). a.outcome) e) ∙ h)))
    told r (ran b e w x n) h = absurd (not_ran (run_from move_on b (start_places b) (listed t)) r (sym (ap (λ (a : RunAnswer). a.outcome) e) ∙ h))

    back : (r : Refusal) → SheetRefused s r ⊎ Odd r → (board_run s t).outcome ≡ refused_by r
    back r (inl w) = ap (λ (a : RunAnswer). a.outcome) (bad_answer s t r w)
    back r (inr (b, w, k, o, q)) = ap (λ (a : RunAnswer). a.outcome) (odd_answer s t b k w o) ∙ ap refused_by (sym q)

    zeros : (r : Refusal) → (board_run s t).outcome ≡ refused_by r → BoardView s t → (board_run s t).places ≡ replicate 16 0
    zeros r h (bad_sheet q e w) = ap (λ (a : RunAnswer). a.places) e
    zeros r h (odd_call b k e w o) = ap (λ (a : RunAnswer). a.places) e
    zeros r h (ran b e w x n) = absurd (not_ran (run_from move_on b (start_places b) (listed t)) r (sym (ap (λ (a : RunAnswer). a.outcome) e) ∙ h))

-- a list of names that are on the sheet
pub board_ran : (s : List ℕ) (b : Board) (ws : List Name) → SaysSheet s b → EachUnbroken ws → T (every (effective move_on b) ws)
    → board_run s (flat_map ended ws) ≡ ran_answer (passed (run_from move_on b (start_places b) ws))
unfolding board_run split_names is_empty
board_ran s b ws w u x =
    let q : split_names [] (flat_map ended ws) ≡ (ws, []) = rw (append-nil (flat_map ended ws), append-nil ws) at (split_all ws [] u) in
    rw (says_loaded s b w, q) (ap ran_answer (runs_fine b ws [] (and_i (every (effective move_on b) ws) true x tt)))

-- A board that has the sheet of an accepted text alone runs the lists that the plan runs.
use Prim.Native.Nat.{ℕ, ◌<◌}
use native.Mathlib.Omega.{arith}
use mathlib.Core.Path.{◌≡◌, refl, ap, sym, ◌∙◌, subst}
use mathlib.Core.Logic.{◌⊎◌, inl, inr, ◌↔◌}
use mathlib.Core.List.{List, [], ◌∷◌, flat_map, Memᴰ}
use lib.Dec.{T}
use lib.ListN.{length, replicate}
use Rattle.model.specs.Lists.{every}
use Rattle.model.specs.Refusal.{Refusal, refuse, refused, passed}
use Rattle.model.specs.Product.{Ran, effective, run_from}
use Rattle.model.specs.Machine.{Machine, places, move}
use Rattle.model.specs.Bytes.{Name}
use Rattle.model.specs.Text.{Input, system, Limits}
use Rattle.model.specs.Sheet.{sheet, NamedLine, Board, board_of}
use Rattle.model.specs.Services.{whole, refused_by, RunAnswer, ran_answer, run}
use Rattle.model.specs.Board.{move_on, board_run}
use Rattle.model.specs.BoardTable.{OnSheet, SaysSheet, ended, OddName, SheetRefused}
use Rattle.model.specs.Demands.{OfSystem, SystemRuns, Answers, Spells, SpellsAll, SpellsOne, OwnSheet}
use Rattle.model.proofs.Laws.{and_l, and_r, every_intro}
use Rattle.model.proofs.Positions.{at_below, at_mem, at_same}
use Rattle.model.proofs.Places.{Good}
use Rattle.model.proofs.Together.{SameMoves, same_effective, same_run}
use Rattle.model.proofs.Pairs.{pairwise_map}
use Rattle.model.proofs.SheetMoves.{on_sheet, sheet_on}
use Rattle.model.proofs.Simulate.{Covers}
use Rattle.model.proofs.Verdicts.{refused_passed, same_passed}
use Rattle.model.proofs.Sheets.{board_length}
use Rattle.model.proofs.NameLists.{odd_map}
use Rattle.model.proofs.Loading.{says_loaded}
use Rattle.model.proofs.BoardCalls as B
use Rattle.model.proofs.OwnSheets.{same_move, same_starts, names_once, line_at, on_declared, good_sheet}

module _ (v : Input) (w : Limits v) (g : (m : Machine) → Memᴰ m v.machines → Good (system v) m) where
  -- ---- the board runs as the plan does

  same_moves : (x : Name) (e : ℕ) → Spells v.names x e → SameMoves move_on (move (system v)) (board_of v) v.machines x e
  same_moves x e s =
      record {
        one_each = board_length v;
        each = λ k l m a b.
            let c = line_at v w g k l a in
            ap (λ (z : NamedLine). move_on z x) c.is
            ∙ same_move (system v) v.names refl (names_once v w g) c.machine k x e s
            ∙ ap (λ (z : Machine). move (system v) z e) (at_same v.machines k c.machine m c.numbered b);
      }

  module _ (c : Covers (system v) v.machines) where
    pub known : (x : Name) → OnSheet (board_of v) x ↔ SpellsOne v.names x
    known x = (
      on_declared v w g x,
      λ s. on_sheet (board_of v) x
          (subst T (sym (same_effective move_on (move (system v)) (board_of v) v.machines x s.0 (same_moves x s.0 s.1))) (c.effective s.0 (at_below v.names s.0 s.1.0 s.1.1))),
    )

    all_known : (ws : List Name) (es : List ℕ) → SpellsAll v.names ws es → (x : Name) → Memᴰ x ws → SpellsOne v.names x
    all_known [] [] s x i = elim i [ ]
    all_known [] (e ∷ es) s x i = absurd s
    all_known (y ∷ ws) [] s x i = absurd s
    all_known (y ∷ ws) (e ∷ es) (a, s) x (Memᴰ.head q) = (e, subst (λ (z : Name). Spells v.names z e) (sym q) a)
    all_known (y ∷ ws) (e ∷ es) (a, s) x (Memᴰ.tail i) = all_known ws es s x i

    known_all : (ws : List Name) → T (every (effective move_on (board_of v)) ws) → (es : List ℕ) × SpellsAll v.names ws es
    unfolding every
    known_all [] t = ([], tt)
    known_all (x ∷ ws) t =
        let (e, s) = on_declared v w g x (on_sheet (board_of v) x (and_l (effective move_on (board_of v) x) (every (effective move_on (board_of v)) ws) t)) in
        let (es, r) = known_all ws (and_r (effective move_on (board_of v) x) (every (effective move_on (board_of v)) ws) t) in
        (e ∷ es, (s, r))

    spells_low : (ws : List Name) (es : List ℕ) → SpellsAll v.names ws es → OfSystem (system v) es
    spells_low [] [] s e i = elim i [ ]
    spells_low [] (d ∷ es) s e i = absurd s
    spells_low (x ∷ ws) [] s e i = absurd s
    spells_low (x ∷ ws) (d ∷ es) (a, s) e (Memᴰ.head q) = subst (λ (z : ℕ). z < length v.names) (sym q) (at_below v.names d a.0 a.1)
    spells_low (x ∷ ws) (d ∷ es) (a, s) e (Memᴰ.tail i) = spells_low ws es s e i

    -- what a board answers to names that spell events
    board_answer : (ws : List Name) (es : List ℕ) → SpellsAll v.names ws es
        → board_run (sheet v) (flat_map ended ws) ≡ ran_answer (passed (run_from (move (system v)) v.machines (places v.machines v.initial) es))
    unfolding board_of
    board_answer ws es s =
        B.board_ran (sheet v) (board_of v) ws (good_sheet v w g)
        (λ x i. let (e, (y, a, o)) = all_known ws es s x i in B.one_unbroken x y o (w.names y (at_mem v.names e y a)))
        (every_intro (effective move_on (board_of v)) ws (λ x i. sheet_on (board_of v) x ((known x).1 (all_known ws es s x i))))
        ∙ ap (λ (r : Ran). ran_answer (passed r))
        (ap (λ (qs : List ℕ). run_from move_on (board_of v) qs ws) (same_starts (system v) v.names refl (names_once v w g) 0 v.machines)
        ∙ same_run move_on (move (system v)) (board_of v) v.machines ws es (pairwise_map ws es same_moves s) (places v.machines v.initial))

    module _ (s : List ℕ) (is : (es : List ℕ) → OfSystem (system v) es → run s es ≡ ran_answer (passed (run_from (move (system v)) v.machines (places v.machines v.initial) es))) (answers : (es : List ℕ) → OfSystem (system v) es → Answers (system v) v.machines es (run s es)) where
      runs_alike : (ws : List Name) (es : List ℕ) → SpellsAll v.names ws es → board_run (sheet v) (flat_map ended ws) ≡ run s es
      runs_alike ws es x = board_answer ws es x ∙ sym (is es (spells_low ws es x))

      not_bad : (r : Refusal) → ¬ SheetRefused (sheet v) r
      not_bad r f = refused_passed r (board_of v) (sym (((B.loading (sheet v)).refuses r).1 f) ∙ says_loaded (sheet v) (board_of v) (good_sheet v w g))

      the_board : (b : Board) → SaysSheet (sheet v) b → b ≡ board_of v
      the_board b x = same_passed b (board_of v) (sym (says_loaded (sheet v) b x) ∙ says_loaded (sheet v) (board_of v) (good_sheet v w g))

      abbrev Spelt : List ℕ → Type 0
      Spelt t = (ws : List Name) × (es : List ℕ) × SpellsAll v.names ws es × (t ≡ flat_map ended ws)

      -- a list that ran has names of the plan's events
      ran_spelt : (b : Board) (t : List ℕ) → SaysSheet (sheet v) b → B.Known b t → Spelt t
      ran_spelt b t x n =
          let (es, a) = known_all (B.listed t) (subst (λ (z : Board). T (every (effective move_on z) (B.listed t))) (the_board b x) n.all) in
          (B.listed t, es, a, n.ends)

      either : (t : List ℕ) → Spelt t ⊎ ((k : ℕ) × OddName (SpellsOne v.names) t k)
      either t = go (B.board_view (sheet v) t)
        where
          go : B.BoardView (sheet v) t → Spelt t ⊎ ((k : ℕ) × OddName (SpellsOne v.names) t k)
          go (B.bad_sheet r e f) = absurd (not_bad r f)
          go (B.odd_call b k e x o) = inr (k, odd_map (OnSheet (board_of v)) (SpellsOne v.names) known t k (subst (λ (z : Board). OddName (OnSheet z) t k) (the_board b x) o))
          go (B.ran b e x n f) = inl (ran_spelt b t x n)

      odd : (t : List ℕ) (k : ℕ) → OddName (SpellsOne v.names) t k → board_run (sheet v) t ≡ record { outcome = refused_by (refuse 14 k 0); places = replicate 16 0 }
      unfolding ran_answer
      odd t k o =
          B.odd_answer (sheet v) t (board_of v) k (good_sheet v w g) (odd_map (SpellsOne v.names) (OnSheet (board_of v)) (λ x. ((known x).1, (known x).0)) t k o)

      abbrev Whole : List ℕ → Type 0
      Whole t = (ws : List Name) × (es : List ℕ) × SpellsAll v.names ws es × (t ≡ flat_map ended ws) × SystemRuns (system v) es

      not_whole : (r : Refusal) → ¬ ((ran_answer (refused r)).outcome ≡ whole)
      unfolding ran_answer
      not_whole r e = let z : ◌≡◌ {A = ℕ} 0 1 = cc in omega arith

      whole_is : (t : List ℕ) → ((board_run (sheet v) t).outcome ≡ whole) ↔ Whole t
      whole_is t = (λ e. go e (B.board_view (sheet v) t), back)
        where
          go : (board_run (sheet v) t).outcome ≡ whole → B.BoardView (sheet v) t → Whole t
          go h (B.bad_sheet r e f) = absurd (not_bad r f)
          go h (B.odd_call b k e x o) = absurd (not_whole (refuse 14 k 0) (sym (ap (λ (a : RunAnswer). a.outcome) e) ∙ h))
          go h (B.ran b e x n f) =
              let (ws, es, a, q) = ran_spelt b t x n in
              (ws, es, a, q, (answers es (spells_low ws es a)).ran_whole.0 (sym (ap (λ (z : RunAnswer). z.outcome) (runs_alike ws es a)) ∙ ap (λ (z : List ℕ). (board_run (sheet v) z).outcome) (sym q) ∙ h))

          back : Whole t → (board_run (sheet v) t).outcome ≡ whole
          back (ws, es, a, q, r) =
              ap (λ (z : List ℕ). (board_run (sheet v) z).outcome) q ∙ ap (λ (z : RunAnswer). z.outcome) (runs_alike ws es a)
              ∙ (answers es (spells_low ws es a)).ran_whole.1 r

      pub own_sheet : OwnSheet s v
      own_sheet = record { either = either; spelt = runs_alike; odd = odd; runs = whole_is }

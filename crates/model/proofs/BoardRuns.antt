-- What the board's run tells of any good sheet: the machines on it running together.
use Prim.Native.Nat.{ℕ, suc, ◌-◌, ◌≤◌, ◌<◌}
use native.Mathlib.Omega.{arith}
use mathlib.Core.Path.{◌≡◌, refl, ap, sym, ◌∙◌, subst}
use mathlib.Core.List.{List, [], ◌∷◌, map, flat_map, Memᴰ}
use mathlib.Core.Option.{Option, none, some, some-injective, none-ne-some}
use lib.ListN.{length, take, get_or, replicate, length-map, length-append, length-replicate}
use lib.Seq.{take-append_seam, take-length}
use Rattle.model.specs.Refusal.{passed}
use Rattle.model.specs.Product.{Ran, effective, blocker, run_from}
use Rattle.model.specs.Region.{ProductWalk, Blocks}
use Rattle.model.specs.Bytes.{Name}
use Rattle.model.specs.Sheet.{NamedLine, Board}
use Rattle.model.specs.Services.{whole, blocked, outcome_of, padded, ran_answer}
use Rattle.model.specs.Board.{move_on, start_places, board_run}
use Rattle.model.specs.BoardTable.{OnSheet, SaysSheet, HasMove, AtStart, BoardRuns, Sixteen, BoardTells}
use Rattle.model.proofs.Laws.{every_intro}
use Rattle.model.proofs.Positions.{at_mem, at_value, at_below, below_at, map_at}
use Rattle.model.proofs.Together.{Halts, step_effective, blocker_halts, run_length, RunEnd, ended, halted, run_end}
use Rattle.model.proofs.Joint.{AllMoves, halts_blocks, lower_passes, run_walks, walk_runs}
use Rattle.model.proofs.Faith.{get_d_padded}
use Rattle.model.proofs.SheetMoves.{sheet_on, board_moves}
use Rattle.model.proofs.BoardCalls.{sheet_unbroken, board_ran, not_ran}
use Rattle.model.specs.BoardTable as T

-- ---- the places

at_start_lem : (b : Board) → AtStart b (start_places b)
unfolding start_places
at_start_lem b =
    record {
      one_each = length-map b (λ (l : NamedLine). l.start);
      each = λ k l a. at_value (map (λ (l : NamedLine). l.start) b) k l.start 0 (map_at (λ (l : NamedLine). l.start) b k l a);
    }

-- lists of the same length with the same entries
same_places : (qs rs : List ℕ) → length qs ≡ length rs → ((k : ℕ) → k < length qs → get_or qs k 0 ≡ get_or rs k 0) → qs ≡ rs
same_places [] [] n h = refl
same_places [] (r ∷ rs) n h = absurd (omega arith)
same_places (q ∷ qs) [] n h = absurd (omega arith)
same_places (q ∷ qs) (r ∷ rs) n h =
    let a : q ≡ r = h 0 (omega arith) in
    let b : qs ≡ rs = same_places qs rs (omega arith) (λ k l. h (suc k) (omega arith)) in
    cc

only_start : (b : Board) (qs : List ℕ) → AtStart b qs → qs ≡ start_places b
only_start b qs s =
    same_places qs (start_places b) (s.one_each ∙ sym (at_start_lem b).one_each)
    (λ k l. let (x, a) = below_at b k (omega (arith, s.one_each)) in s.each k x a ∙ sym ((at_start_lem b).each k x a))

in_sixteen : (qs : List ℕ) → length qs ≤ 16 → Sixteen qs (padded qs)
unfolding padded
in_sixteen qs h =
    record {
      sixteen = length-append qs (replicate (16 - length qs) 0) ∙ omega (arith, length-replicate {A = ℕ} (16 - length qs) 0);
      used = take-append_seam qs (replicate (16 - length qs) 0);
      unused = get_d_padded qs (16 - length qs);
    }

-- ---- what is told

module _ (b : Board) (f : AllMoves move_on HasMove b) (few : length b ≤ 16) (es : List Name) (known : (e : Name) → Memᴰ e es → OnSheet b e) where
  abbrev r : Ran
  r = run_from move_on b (start_places b) es

  places_length : length r.places ≡ length b
  places_length = run_length move_on b es (start_places b) (at_start_lem b).one_each

  runs_so_far : BoardRuns b (take r.ran es) r.places
  runs_so_far = record { start = start_places b; stands = at_start_lem b; walk = run_walks move_on HasMove b f es (start_places b) }

  ran_to : (qs : List ℕ) → BoardRuns b es qs → r ≡ record { ran = length es; blocked = none; places = qs }
  ran_to qs x = walk_runs move_on HasMove b f es (start_places b) qs (subst (λ (ps : List ℕ). ProductWalk HasMove b ps es qs) (only_start b x.start x.stands) x.walk)

  sixteen : Sixteen r.places (padded r.places)
  sixteen = in_sixteen r.places (omega (arith, places_length))

  abbrev Blocked : ℕ → ℕ → Type 0
  Blocked n k = (n < length es) × ((qs : List ℕ) × BoardRuns b (take n es) qs × Sixteen qs (padded r.places) × Blocks HasMove b qs (get_or es n []) k × ((j : ℕ) → j < k → ¬ Blocks HasMove b qs (get_or es n []) j))

  is_blocked : (o : Option ℕ) (n k : ℕ) → outcome_of r.ran o ≡ blocked n k → (r.ran ≡ n) × (o ≡ some k)
  unfolding outcome_of
  is_blocked none n k e = let z : ◌≡◌ {A = ℕ} 0 1 = cc in absurd (omega arith)
  is_blocked (some i) n k e = let z : i ≡ k = cc in (cc, ap some z)

  is_whole : (o : Option ℕ) → outcome_of r.ran o ≡ whole → o ≡ none
  unfolding outcome_of
  is_whole none e = refl
  is_whole (some i) e = let z : ◌≡◌ {A = ℕ} 0 1 = cc in absurd (omega arith)

  blocked_at : (k : ℕ) → r.blocked ≡ some k → RunEnd move_on b es r → Blocked r.ran k
  blocked_at k q (ended x y) = absurd (none-ne-some k (sym x ∙ q))
  blocked_at k q (halted e a x n) =
      let t : blocker move_on b r.places e ≡ k = some-injective _ k (sym x ∙ q) in
      let h : Halts move_on e b r.places k =
      subst (Halts move_on e b r.places) t
      (blocker_halts move_on e b r.places places_length (sym (step_effective move_on b r.places e (sheet_on b e (known e (at_mem es r.ran e a)))) ∙ n)) in (
        at_below es r.ran e a,
        (
          r.places,
          runs_so_far,
          sixteen,
          subst (λ (w : Name). Blocks HasMove b r.places w k) (sym (at_value es r.ran e [] a)) (halts_blocks move_on HasMove b f r.places r.places (λ j l. refl) e k h),
          λ j l. subst (λ (w : Name). ¬ Blocks HasMove b r.places w j) (sym (at_value es r.ran e [] a)) (lower_passes move_on HasMove b f r.places r.places (λ i m. refl) e k h j l),
        ),
      )

  whole_runs : r.blocked ≡ none → RunEnd move_on b es r → (qs : List ℕ) × BoardRuns b es qs
  whole_runs q (ended x y) = (r.places, subst (λ (l : List Name). BoardRuns b l r.places) (ap (λ (n : ℕ). take n es) y ∙ take-length es) runs_so_far)
  whole_runs q (halted e a x n) = absurd (none-ne-some _ (sym q ∙ x))

  pub tells : BoardTells b es (ran_answer (passed r))
  unfolding ran_answer outcome_of
  tells =
      record {
        not_refused = λ q. not_ran r q;
        ran_whole = (λ e. whole_runs (is_whole r.blocked e) (run_end move_on b es (start_places b)), λ x. ap (λ (y : Ran). outcome_of y.ran y.blocked) (ran_to x.0 x.1));
        if_whole = λ qs x. subst (λ (y : Ran). Sixteen y.places (padded r.places)) (ran_to qs x) sixteen;
        if_blocked = λ n k e.
            let w = is_blocked r.blocked n k e in
            subst (λ (m : ℕ). Blocked m k) w.0 (blocked_at k w.1 (run_end move_on b es (start_places b)));
      }

pub board_telling : (s : List ℕ) (b : Board) → SaysSheet s b → (es : List Name) → ((e : Name) → Memᴰ e es → OnSheet b e) → BoardTells b es (board_run s (flat_map T.ended es))
board_telling s b w es h =
    subst (BoardTells b es) (sym (board_ran s b es w (λ e m. sheet_unbroken s b w e (h e m)) (every_intro (effective move_on b) es (λ e m. sheet_on b e (h e m)))))
    (tells b (board_moves s b w) w.1.most es h)

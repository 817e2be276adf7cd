-- The pass over the machines, as the rows tell it: those before machine m are merged, those from it on are as the text has them.
use Prim.Native.Nat.{ℕ, suc, ◌+◌, ◌*◌, ◌<◌, ◌≤◌}
use native.Mathlib.Omega.{arith}
use mathlib.Core.Path.{◌≡◌, refl, ap, sym, ◌∙◌, subst}
use mathlib.Core.Logic.{◌⊎◌, inl, inr, ◌↔◌}
use mathlib.Core.Bool.{not, ◌&&◌, ◌||◌}
use mathlib.Core.List.{List, ◌∷◌, ◌++◌}
use lib.Dec.{T, eqb, ltb, eqb→eq, lt→ltb}
use lib.ListN.{length, set}
use lib.Seq.{get_or-set_same, get_or-set_other}
use Rattle.model.specs.Lists.{At}
use Rattle.model.specs.Machine.{Machine, Decomposition, place_in, place_of, move, ready, common, excited}
use Rattle.model.specs.Merging.{place_count, merge_times}
use Rattle.model.specs.Text.{Input, system}
use Rattle.model.proofs.Laws.{dec, contra, and_l, and_r, and_i, order, every_intro, every_elim, below_suc, eqb_of}
use Rattle.model.proofs.Positions.{at_below, below_at, at_same, at_middle}
use Rattle.model.proofs.Bounds.{Within}
use Rattle.model.proofs.Places.{Good}
use Rattle.model.proofs.Merging.{State}
use Rattle.model.proofs.Moves.{MoveView, moves, stays, move_view}
use Rattle.state_set.specs.Rows.{member_at}
use Rattle.rows.specs.declared.Counts.{Counts}
use Rattle.rows.specs.Told.{entry}
use Rattle.regions.specs.Moves.{move_at}
use Rattle.closure.specs.Covers.{on_machine, meets}
use Rattle.merging.specs.Groups.{grouped, renumbered}
use Rattle.merging.specs.Bars.{Seen, Later, Barring}
use Rattle.merging.specs.Numbers.{Numbered, United}
use Rattle.merging.specs.Merges.{MergeRows, MachineMerged, SheetTold}
use Rattle.merging.proofs.Middle.{mid_here, count_mid}
use Rattle.merging.proofs.Barring.{Barred, place_low}
use Rattle.merging.proofs.Joined.{joined}
use Rattle.merging.proofs.Grouping.{machine_merged, state_after, place_after, move_after, count_after}
use Rattle.merging.proofs.Others.{other_at, at_other, replaced, ready_row}
use Rattle.merging.proofs.Telling.{RowsTell, says}

-- the machines with the first m merged, and the rows as they are then; `common` are the states common to the pre-places of each event on these m
pub record Standing (v : Input) (b : Within (system v)) (ms : Decomposition) (m : ℕ) (place sizes pre post earlier : List ℕ) : Type 0 where
  pub state : State (system v) b v.machines ms
  pub told : SheetTold v ms place sizes pre post
  pub rest : (k : ℕ) (x : Machine) → m ≤ k → At ms k x → At v.machines k x
  pub common : (e i : ℕ) → e < length v.names → T (member_at earlier e i) ↔ ((i < v.states) × ((k : ℕ) (x : Machine) → k < m → At ms k x → T (ready (system v) e i x)))

-- what the rows say of the machines as the text has them, and their bounds
pub record Given (v : Input) (sets pre later excitation : List ℕ) : Type 0 where
  pub post : List ℕ
  pub states : v.states ≤ 256
  pub machines : length v.machines ≤ 16
  pub moves : (k e : ℕ) (x : Machine) → At v.machines k x → e < length v.names → move_at pre post k e ≡ move (system v) x e
  pub sets_tell : (k q i : ℕ) (x : Machine) → At v.machines k x → q < 64 → member_at sets (k * 64 + q) i ≡ (ltb i v.states && eqb (place_of x i) q)
  pub later_tells : Later sets pre (length v.machines) (length v.names) (length later) later
  pub excitations : (e i : ℕ) → e < length v.names → member_at excitation e i ≡ excited (system v) e i

module _ (v : Input) (b : Within (system v)) (front back : Decomposition) (m : Machine) (x : Seen) (place sizes : List ℕ) where
  abbrev ms : Decomposition
  ms = front ++ (m ∷ back)

  module _ (pre0 : List ℕ) (g : Given v x.sets pre0 x.later x.excited) (st : Standing v b (front ++ (m ∷ back)) (length front) place sizes x.pre x.post x.earlier) (few : length m.places ≤ 64) where
    here : At v.machines (length front) m
    here = st.rest (length front) m (omega arith) (at_middle front back m)

    -- a later machine is as the text has it
    ready_later : (j e i : ℕ) (y : Machine) → At v.machines j y → e < length v.names → i < v.states → T (meets x.sets pre0 e j i) ↔ T (ready (system v) e i y)
    unfolding meets
    ready_later j e i y a l h =
        ready_row (system v) y pre0 g.post j e i (g.moves j e y a l) (λ q. member_at x.sets (j * 64 + q) i)
        (λ q w. (
          λ t. eqb→eq (place_of y i) q (and_r (ltb i v.states) (eqb (place_of y i) q) (subst T (g.sets_tell j q i y a w) t)),
          λ e. subst T (sym (g.sets_tell j q i y a w)) (and_i (ltb i v.states) (eqb (place_of y i) q) (lt→ltb i v.states h) (eqb_of (place_of y i) q e)),
        ))

    count : length (front ++ (m ∷ back)) ≡ length v.machines
    count = st.state.size

    in_front : length front < length v.machines
    in_front = omega (arith, at_below v.machines (length front) m here)

    others : (e i : ℕ) → e < length v.names
        → (T (member_at x.earlier e i) × T (member_at x.later (e * 16 + length front) i)) ↔ ((i < v.states) × T (common (system v) (front ++ back) e i))
    unfolding common
    others e i l = (
      λ t.
          let w = (st.common e i l).0 t.0 in
          let u = (g.later_tells.common (length front) e i in_front l).0 t.1 in
          (w.0, every_intro (ready (system v) e i) (front ++ back) (λ y k. let p = other_at m back front y k in side p.0 y p.1 w.0 w.1 u.1 (order p.0 (length front)) (order (length front) p.0) p.2)),
      λ t. (
        (st.common e i l).1 (t.0, λ k y h a. every_elim (ready (system v) e i) (front ++ back) t.1 y (at_other m back front k y a (λ q. omega arith))),
        (g.later_tells.common (length front) e i in_front l).1 (
          omega (arith, t.0, g.states),
          λ j h d.
              let y = below_at (front ++ (m ∷ back)) j (omega (arith, d, count)) in
              (ready_later j e i y.0 (st.rest j y.0 (omega arith) y.1) l t.0).1
              (every_elim (ready (system v) e i) (front ++ back) t.1 y.0 (at_other m back front j y.0 y.1 (λ q. omega arith))),
        ),
      ),
    )
      where
        side : (k : ℕ) (y : Machine) → At (front ++ (m ∷ back)) k y → i < v.states → ((k : ℕ) (y : Machine) → k < length front → At (front ++ (m ∷ back)) k y → T (ready (system v) e i y))
            → ((j : ℕ) → length front < j → j < length v.machines → T (meets x.sets pre0 e j i)) → (k < length front) ⊎ (length front ≤ k) → (length front < k) ⊎ (k ≤ length front) → ¬ (k ≡ length front) → T (ready (system v) e i y)
        side k y a h f f2 (inl o) q n = f k y o a
        side k y a h f f2 (inr o) (inl q) n =
            (ready_later k e i y (st.rest k y (omega arith) a) l h).0 (f2 k q (omega (arith, at_below (front ++ (m ∷ back)) k y a, count)))
        side k y a h f f2 (inr o) (inr q) n = absurd (n (omega arith))

    pub rows_tell : RowsTell (system v) front back m x
    rows_tell =
        record {
          states = g.states;
          places = few;
          moves = λ e l. st.told.moves.move (length front) e m (at_middle front back m) l;
          sets = λ q i l. g.sets_tell (length front) q i m here l;
          others = others;
          excitations = g.excitations;
        }

    -- ---- machine m is merged
    module _ (c : Counts) (place2 sizes2 pre2 post2 earlier2 : List ℕ) (events : c.events ≡ length v.names) (initial : c.initial ≡ v.initial)
        (rows : MergeRows c place sizes x.pre x.post) (y : MachineMerged c x (length front) place sizes place2 sizes2 pre2 post2 earlier2) where
      size : entry sizes (length front) ≡ length m.places
      size = st.told.counts (length front) m (at_middle front back m)

      barred : (a d : ℕ) → a < length m.places → d < length m.places → T (member_at y.numbers.bars a d) ↔ (Barred (system v) front back m a d ⊎ Barred (system v) front back m d a)
      barred =
          says (system v) front back m x rows_tell y.numbers.bars
          (subst (λ (n : ℕ). Barring x (length front) n (length v.names) y.numbers.bars) size
          (subst (λ (n : ℕ). Barring x (length front) (entry sizes (length front)) n y.numbers.bars) events y.numbers.barring))

      numbered : Numbered y.numbers.bars (length m.places) y.groups y.number
      numbered = subst (λ (n : ℕ). Numbered y.numbers.bars n y.groups y.number) size y.numbers.numbered

      abbrev gs : List (List ℕ)
      gs = grouped (member_at y.numbers.bars) (length m.places)

      abbrev n : Machine
      n = joined m gs

      good : Good (system v) m
      good = st.state.good m (mid_here m front back)

      low : (i : ℕ) → i < v.states → place_of m i < length m.places
      low i l = place_low (system v) m good i l

      place_new : (i : ℕ) → i < v.states → place_of n i ≡ entry y.number (place_of m i)
      place_new i l = place_after (system v) b v.machines front back m st.state (member_at y.numbers.bars) barred i l ∙ sym (numbered.each (place_of m i) (low i l))

      -- the ends of a move are places, and these have their numbers in the row
      same_numbers : (e : ℕ) → renumbered (entry y.number) (move (system v) m e) ≡ renumbered (place_in gs) (move (system v) m e)
      unfolding renumbered
      same_numbers e = go (move_view (system v) m e)
        where
          go : MoveView (system v) m e → renumbered (entry y.number) (move (system v) m e) ≡ renumbered (place_in gs) (move (system v) m e)
          go (stays r u) = rw r
          go (moves t r k h d) = rw (r, numbered.each (place_of m t.source) (low t.source (b.source t k)), numbered.each (place_of m t.target) (low t.target (b.target t k)))

      move_new : (e : ℕ) → e < length v.names → move_at pre2 post2 (length front) e ≡ move (system v) n e
      move_new e l =
          y.moves.moves e (omega (arith, l, events))
          ∙ ap (renumbered (entry y.number)) (st.told.moves.move (length front) e m (at_middle front back m) l)
          ∙ same_numbers e
          ∙ sym (move_after (system v) b v.machines front back m st.state (member_at y.numbers.bars) barred e)

      few_machines : (k : ℕ) (z : Machine) → At (front ++ (m ∷ back)) k z → k < 16
      few_machines k z a = omega (arith, at_below (front ++ (m ∷ back)) k z a, count, g.machines)

      -- the moves of the other machines
      move_old : (k e : ℕ) (z : Machine) → At (front ++ (m ∷ back)) k z → ¬ (k ≡ length front) → move_at pre2 post2 k e ≡ move_at x.pre x.post k e
      unfolding move_at
      move_old k e z a d = rw (y.moves.others_pre (e * 16 + k) apart, y.moves.others_post (e * 16 + k) apart)
        where
          apart : (j : ℕ) → ¬ (e * 16 + k ≡ j * 16 + length front)
          apart j q = d (omega (arith, q, few_machines k z a, in_front, g.machines))

      front_16 : length front < 16
      front_16 = omega (arith, in_front, g.machines)

      -- by whether it is this machine
      each : (P : ℕ → Machine → Type 0) → P (length front) n → ((k : ℕ) (z : Machine) → At (front ++ (m ∷ back)) k z → ¬ (k ≡ length front) → P k z)
          → (k : ℕ) (z : Machine) → At (front ++ (n ∷ back)) k z → P k z
      each P h f k z a = go (dec (eqb k (length front)))
        where
          go : T (eqb k (length front)) ⊎ T (not (eqb k (length front))) → P k z
          go (inl t) =
              let q = eqb→eq k (length front) t in
              subst (λ (j : ℕ). P j z) (sym q) (subst (P (length front)) (at_same (front ++ (n ∷ back)) (length front) n z (at_middle front back n) (subst (λ (j : ℕ). At (front ++ (n ∷ back)) j z) q a)) h)
          go (inr t) =
              let d : ¬ (k ≡ length front) = λ q. contra (eqb k (length front)) t (eqb_of k (length front) q) in
              f k z (replaced m back n front k z a d) d

      told_new : SheetTold v (front ++ (n ∷ back)) place2 sizes2 pre2 post2
      told_new =
          record {
            as_many = (state_after (system v) b v.machines front back m st.state (member_at y.numbers.bars) barred).size;
            counts =
                each (λ k z. entry sizes2 k ≡ length z.places)
                (ap (λ (l : List ℕ). entry l (length front)) y.count ∙ get_or-set_same sizes (length front) y.groups 0 (omega (arith, front_16, rows.sizes_size)) ∙ numbered.count ∙ sym (count_after (system v) b v.machines front back m st.state (member_at y.numbers.bars) barred))
                (λ k z a d. ap (λ (l : List ℕ). entry l k) y.count ∙ get_or-set_other sizes (length front) k y.groups 0 d ∙ st.told.counts k z a);
            starts =
                each (λ k z. entry place2 (k * 256 + v.initial) ≡ place_of z v.initial)
                (ap (λ (l : List ℕ). entry l (length front * 256 + v.initial)) y.start
                ∙ ap (λ (j : ℕ). entry (set place (length front * 256 + j) (entry y.number (entry place (length front * 256 + j)))) (length front * 256 + v.initial)) initial
                ∙ get_or-set_same place (length front * 256 + v.initial) (entry y.number (entry place (length front * 256 + v.initial))) 0 (omega (arith, front_16, rows.place_size_lem, initial, rows.initial))
                ∙ ap (entry y.number) (st.told.starts (length front) m (at_middle front back m))
                ∙ sym (place_new v.initial b.initial))
                (λ k z a d.
                ap (λ (l : List ℕ). entry l (k * 256 + v.initial)) y.start
                ∙ get_or-set_other place (length front * 256 + c.initial) (k * 256 + v.initial) (entry y.number (entry place (length front * 256 + c.initial))) 0 (λ q. d (omega (arith, q, initial, rows.initial)))
                ∙ st.told.starts k z a);
            moves =
                record {
                  rows = y.moves.rows;
                  move = λ k e z a l. each (λ j w. move_at pre2 post2 j e ≡ move (system v) w e) (move_new e l) (λ j w h d. move_old j e w h d ∙ st.told.moves.move j e w h l) k z a;
                };
          }

      -- the merged machine does not block where its set says
      ready_new : (e i : ℕ) → e < length v.names → i < v.states
          → T (not (on_machine pre2 e (length front)) || member_at y.met.unions (entry pre2 (e * 16 + length front)) i) ↔ T (ready (system v) e i n)
      ready_new e i l h = ready_row (system v) n pre2 post2 (length front) e i (move_new e l) (λ q. member_at y.met.unions q i) (λ q w. (λ t. to q t, λ t. from q t))
        where
          united : United x.sets (length front) (length m.places) y.number y.met.unions
          united = subst (λ (k : ℕ). United x.sets (length front) k y.number y.met.unions) size y.met.united

          to : (q : ℕ) → T (member_at y.met.unions q i) → place_of n i ≡ q
          to q t =
              let w = (united.members q i).0 t in
              let p = subst T (g.sets_tell (length front) w.0 i m here (omega (arith, w.1, few))) w.3 in
              place_new i h ∙ ap (entry y.number) (eqb→eq (place_of m i) w.0 (and_r (ltb i v.states) (eqb (place_of m i) w.0) p)) ∙ w.2

          from : (q : ℕ) → place_of n i ≡ q → T (member_at y.met.unions q i)
          from q t =
              (united.members q i).1 (
                place_of m i,
                low i h,
                sym (place_new i h) ∙ t,
                subst T (sym (g.sets_tell (length front) (place_of m i) i m here (omega (arith, low i h, few))))
                    (and_i (ltb i v.states) (eqb (place_of m i) (place_of m i)) (lt→ltb i v.states h) (eqb_of (place_of m i) (place_of m i) refl)),
              )

      common_new : (e i : ℕ) → e < length v.names
          → T (member_at earlier2 e i) ↔ ((i < v.states) × ((k : ℕ) (z : Machine) → k < suc (length front) → At (front ++ (n ∷ back)) k z → T (ready (system v) e i z)))
      common_new e i l = (λ t. to t, λ t. from t)
        where
          is : member_at earlier2 e i ≡ (member_at x.earlier e i && (not (on_machine pre2 e (length front)) || member_at y.met.unions (entry pre2 (e * 16 + length front)) i))
          is = y.met.narrowed.members e i (omega (arith, l, events))

          to : T (member_at earlier2 e i) → (i < v.states) × ((k : ℕ) (z : Machine) → k < suc (length front) → At (front ++ (n ∷ back)) k z → T (ready (system v) e i z))
          to t =
              let u = subst T is t in
              let w = (st.common e i l).0 (and_l (member_at x.earlier e i) (not (on_machine pre2 e (length front)) || member_at y.met.unions (entry pre2 (e * 16 + length front)) i) u) in
              let r = (ready_new e i l w.0).0 (and_r (member_at x.earlier e i) (not (on_machine pre2 e (length front)) || member_at y.met.unions (entry pre2 (e * 16 + length front)) i) u) in
              (w.0, λ k z d a. each (λ j q. j < suc (length front) → T (ready (system v) e i q)) (λ h. r) (λ j q h p o. w.1 j q (before j p (below_suc j (length front) o)) h) k z a d)
            where
              before : (j : ℕ) → ¬ (j ≡ length front) → (j < length front) ⊎ (j ≡ length front) → j < length front
              before j p (inl q) = q
              before j p (inr q) = absurd (p q)

          from : (i < v.states) × ((k : ℕ) (z : Machine) → k < suc (length front) → At (front ++ (n ∷ back)) k z → T (ready (system v) e i z)) → T (member_at earlier2 e i)
          from t =
              subst T (sym is)
              (and_i (member_at x.earlier e i) (not (on_machine pre2 e (length front)) || member_at y.met.unions (entry pre2 (e * 16 + length front)) i)
              ((st.common e i l).1 (t.0, λ k z d a. t.1 k z (omega arith) (replaced n back m front k z a (λ q. omega arith))))
              ((ready_new e i l t.0).1 (t.1 (length front) n (omega arith) (at_middle front back n))))

      pub standing_next : Standing v b (merge_times (place_count (length front) (front ++ (m ∷ back))) (system v) (length front) (front ++ (m ∷ back))) (suc (length front)) place2 sizes2 pre2 post2 earlier2
      standing_next =
          subst (λ (l : Decomposition). Standing v b l (suc (length front)) place2 sizes2 pre2 post2 earlier2)
          (sym (ap (λ (k : ℕ). merge_times k (system v) (length front) (front ++ (m ∷ back))) (count_mid front back m)
          ∙ machine_merged (system v) b v.machines front back m st.state (member_at y.numbers.bars) barred))
          (record {
            state = state_after (system v) b v.machines front back m st.state (member_at y.numbers.bars) barred;
            told = told_new;
            rest = λ k z l a. st.rest k z (omega arith) (replaced m back n front k z a (λ q. omega arith));
            common = common_new;
          })

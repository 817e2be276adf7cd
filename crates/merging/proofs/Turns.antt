-- Each machine in turn: the loop over the machines, and what it leaves.
use Prim.Native.Nat.{ℕ, suc, ◌+◌, ◌*◌, ◌<◌, ◌≤◌}
use native.Mathlib.Omega.{arith}
use mathlib.Core.Path.{◌≡◌, refl, ap, sym, ◌∙◌, subst}
use mathlib.Core.Logic.{◌⊎◌, inl, inr}
use mathlib.Core.Bool.{not}
use mathlib.Core.List.{List, ◌∷◌, ◌++◌}
use mathlib.Core.Option.{none}
use lib.Dec.{T, eqb, ltb, eqb→eq, ltb→lt, lt→ltb}
use lib.ListN.{length, set, take, drop, length-set}
use lib.Seq.{get_or-set_same, get_or-set_other, length-take-le}
use Rattle.model.specs.Lists.{At}
use Rattle.model.specs.Machine.{Machine, Decomposition, cover_refusal, excited}
use Rattle.model.specs.Merging.{place_count, merge_times, merged_below, merged}
use Rattle.model.specs.Text.{Input, system}
use Rattle.model.proofs.Laws.{dec, contra, eqb_of}
use Rattle.model.proofs.Positions.{below_at, split_at}
use Rattle.model.proofs.Bounds.{Within}
use Rattle.model.proofs.Coarser.{coarser_refl}
use Rattle.model.proofs.Demands.{Left10, left10, demand2}
use Rattle.state_set.specs.Rows.{member_at}
use Rattle.rows.specs.declared.Counts.{Counts}
use Rattle.rows.specs.declared.Tables.{Tables}
use Rattle.rows.specs.Told.{entry}
use Rattle.closure.specs.Covers.{InSets}
use Rattle.merging.specs.Bars.{Seen, seen, Later}
use Rattle.merging.specs.Numbers.{Filled}
use Rattle.merging.specs.Merges.{MergeRows, MachineMerged, SheetTold, HeldPast10, MachinesMerged, RestSame}
use Rattle.merging.proofs.Passing.{Standing, Given, standing_next}

-- ---- the rows keep their bounds

pub rows_next : {c : Counts} {x : Seen} {m : ℕ} {place sizes place2 sizes2 pre2 post2 earlier2 : List ℕ} → m < c.machines → c.machines ≤ 16 → MergeRows c place sizes x.pre x.post
    → MachineMerged c x m place sizes place2 sizes2 pre2 post2 earlier2 → MergeRows c place2 sizes2 pre2 post2
rows_next {c} {x} {m} {place} {sizes} {place2} {sizes2} {pre2} {post2} l few r y =
    record {
      initial = r.initial;
      place_size_lem = ap length y.start ∙ length-set place (m * 256 + c.initial) _ ∙ r.place_size_lem;
      sizes_size = ap length y.count ∙ length-set sizes m y.groups ∙ r.sizes_size;
      moves = y.moves.rows;
      counts = λ k h. subst (λ (z : List ℕ). entry z k ≤ 64) (sym y.count) (count k h (dec (eqb k m)));
      starts = λ k h. subst (λ (z : List ℕ). entry z (k * 256 + c.initial) < 64) (sym y.start) (start k h (dec (eqb k m)));
      ends = record { post_place = λ k e h g. end k e h g (dec (eqb k m)) };
    }
  where
    end : (k e : ℕ) → k < c.machines → e < c.events → T (eqb k m) ⊎ T (not (eqb k m)) → entry pre2 (e * 16 + k) < 64 → entry post2 (e * 16 + k) < 64
    end k e h g (inl t) = rw (eqb→eq k m t) (y.moves.ends e g)
    end k e h g (inr t) =
        let apart : (j : ℕ) → ¬ (e * 16 + k ≡ j * 16 + m) = λ j q. contra (eqb k m) t (eqb_of k m (omega (arith, q, h, l, few))) in
        rw (y.moves.others_pre (e * 16 + k) apart, y.moves.others_post (e * 16 + k) apart) (r.ends.post_place k e h g)

    count : (k : ℕ) → k < c.machines → T (eqb k m) ⊎ T (not (eqb k m)) → entry (set sizes m y.groups) k ≤ 64
    count k h (inl t) =
        let e = eqb→eq k m t in
        rw (e, get_or-set_same sizes m y.groups 0 (omega (arith, l, few, r.sizes_size))) (omega (arith, y.numbers.numbered.most, r.counts m l))
    count k h (inr t) = rw (get_or-set_other sizes m k y.groups 0 (λ e. contra (eqb k m) t (eqb_of k m e))) (r.counts k h)

    start : (k : ℕ) → k < c.machines → T (eqb k m) ⊎ T (not (eqb k m)) → entry (set place (m * 256 + c.initial) (entry y.number (entry place (m * 256 + c.initial)))) (k * 256 + c.initial) < 64
    start k h (inl t) =
        let e = eqb→eq k m t in
        rw (e, get_or-set_same place (m * 256 + c.initial) (entry y.number (entry place (m * 256 + c.initial))) 0 (omega (arith, l, few, r.place_size_lem, r.initial)))
        (y.numbers.numbered.row.small (entry place (m * 256 + c.initial)) (r.starts m l))
    start k h (inr t) =
        rw (get_or-set_other place (m * 256 + c.initial) (k * 256 + c.initial) (entry y.number (entry place (m * 256 + c.initial))) 0
        (λ e. contra (eqb k m) t (eqb_of k m (omega (arith, e, r.initial))))) (r.starts k h)

-- ---- the tables but for the places and their counts

pub counts_same : (old new : Tables) → RestSame old new → new.counts ≡ old.counts
counts_same old new r = ap (λ (p : Tables). p.counts) r

pub rest_further : (old mid new : Tables) → RestSame old mid → RestSame mid new → RestSame old new
rest_further old mid new r s = s ∙ ap (λ (p : Tables). record p { place = new.place; sizes = new.sizes }) r

-- ---- the loop

-- a text of which the rows as they were lent tell, past 12, with the places as sets and the states common on later machines
pub record Told12 (c : Counts) (x : Seen) (place sizes : List ℕ) (s : List ℕ) (v : Input) : Type 0 where
  pub held : HeldPast10 s v c place sizes x.pre x.post x.excited
  pub covered : cover_refusal (system v) v.machines ≡ none
  pub sets : InSets (system v) v.machines x.sets
  pub later : Later x.sets x.pre c.machines c.events (length x.later) x.later
  pub filled : Filled c.states c.events x.earlier

-- the first m machines are merged
pub record Turned (c : Counts) (x : Seen) (place0 sizes0 place sizes pre post earlier : List ℕ) (m : ℕ) : Type 0 where
  pub most : m ≤ c.machines
  pub rows : MergeRows c place sizes pre post
  pub words : length earlier ≡ 256
  pub stands : (s : List ℕ) (v : Input) → Told12 c x place0 sizes0 s v → (b : Within (system v)) → Standing v b (merged_below m (system v) v.machines) m place sizes pre post earlier

module _ {c : Counts} {x : Seen} {place0 sizes0 : List ℕ} where
  module _ (s : List ℕ) (v : Input) (t : Told12 c x place0 sizes0 s v) where
    left : Left10 v
    left = left10 s v (((demand2 s).as_far_as_10.passes v).0 t.held.passes)

    given : Given v x.sets x.pre x.later x.excited
    unfolding excited
    given =
        record {
          post = x.post;
          states = t.held.cover.states;
          machines = t.held.cover.machines;
          moves = t.held.cover.moves.move;
          sets_tell = t.sets.each;
          later_tells =
              subst (λ (n : ℕ). Later x.sets x.pre n (length v.names) (length x.later) x.later) t.held.machines
              (subst (λ (n : ℕ). Later x.sets x.pre c.machines n (length x.later) x.later) t.held.events t.later);
          excitations = λ e i l. t.held.cover.excitations.members e i (omega (arith, l, t.held.cover.events));
        }

    pub stands_first : (b : Within (system v)) → Standing v b v.machines 0 place0 sizes0 x.pre x.post x.earlier
    stands_first b =
        record {
          state = record { good = left.good; listed = left.left.listed; covers = t.covered; coarser = coarser_refl (system v) v.machines; size = refl };
          told =
              record {
                as_many = refl;
                counts = t.held.counts;
                starts = λ k m a. t.held.cover.places.each k v.initial m a b.initial;
                moves = t.held.cover.moves;
              };
          rest = λ k m l a. a;
          common = λ e i l. (
            λ u. (ltb→lt i v.states (subst T (all e i l) u), λ k m h a. absurd (omega arith)),
            λ u. subst T (sym (all e i l)) (lt→ltb i v.states u.0),
          );
        }
      where
        all : (e i : ℕ) → e < length v.names → member_at x.earlier e i ≡ ltb i v.states
        all e i l = t.filled.all e i (omega (arith, l, t.held.events)) ∙ ap (ltb i) t.held.states

    -- one machine further
    pub stands_next : {place sizes pre post earlier place2 sizes2 pre2 post2 earlier2 : List ℕ} {m : ℕ} {ms : Decomposition} (b : Within (system v)) → m < c.machines → MergeRows c place sizes pre post
        → Standing v b ms m place sizes pre post earlier
        → MachineMerged c (seen x.sets pre post earlier x.later x.excited) m place sizes place2 sizes2 pre2 post2 earlier2
        → Standing v b (merge_times (place_count m ms) (system v) m ms) (suc m) place2 sizes2 pre2 post2 earlier2
    stands_next {place} {sizes} {pre} {post} {earlier} {place2} {sizes2} {pre2} {post2} {earlier2} {m} {ms} b l r st y = go (below_at ms m below)
      where
        below : m < length ms
        below = omega (arith, st.state.size, t.held.machines, l)

        go : (k : Machine) × At ms m k → Standing v b (merge_times (place_count m ms) (system v) m ms) (suc m) place2 sizes2 pre2 post2 earlier2
        go w =
            subst (λ (d : Decomposition). Standing v b (merge_times (place_count m d) (system v) m d) (suc m) place2 sizes2 pre2 post2 earlier2) (sym whole)
            (subst (λ (n : ℕ). Standing v b (merge_times (place_count n (front ++ (w.0 ∷ back))) (system v) n (front ++ (w.0 ∷ back))) (suc n) place2 sizes2 pre2 post2 earlier2) size
            (standing_next v b front back w.0 (seen x.sets pre post earlier x.later x.excited) place sizes x.pre given
            (subst (λ (n : ℕ). Standing v b (front ++ (w.0 ∷ back)) n place sizes pre post earlier) (sym size) (subst (λ (d : Decomposition). Standing v b d m place sizes pre post earlier) whole st))
            (omega (arith, st.told.counts m w.0 w.1, r.counts m l)) c place2 sizes2 pre2 post2 earlier2 t.held.events t.held.initial r
            (subst (λ (n : ℕ). MachineMerged c (seen x.sets pre post earlier x.later x.excited) n place sizes place2 sizes2 pre2 post2 earlier2) (sym size) y)))
          where
            front : Decomposition
            front = take m ms

            back : Decomposition
            back = drop (suc m) ms

            whole : ms ≡ take m ms ++ (w.0 ∷ drop (suc m) ms)
            whole = split_at ms m w.0 w.1

            size : length (take m ms) ≡ m
            size = length-take-le m ms (omega (arith, below))

  pub turn_start : MergeRows c place0 sizes0 x.pre x.post → length x.earlier ≡ 256 → Turned c x place0 sizes0 place0 sizes0 x.pre x.post x.earlier 0
  unfolding merged_below
  turn_start r w = record { most = omega arith; rows = r; words = w; stands = λ s v t b. stands_first s v t b }

  pub turn_more : {place sizes pre post earlier place2 sizes2 pre2 post2 earlier2 : List ℕ} {m : ℕ} → Turned c x place0 sizes0 place sizes pre post earlier m → m < c.machines → c.machines ≤ 16
      → MachineMerged c (seen x.sets pre post earlier x.later x.excited) m place sizes place2 sizes2 pre2 post2 earlier2
      → Turned c x place0 sizes0 place2 sizes2 pre2 post2 earlier2 (m + 1)
  unfolding merged_below
  turn_more {place2 = place2} {sizes2 = sizes2} {pre2 = pre2} {post2 = post2} {earlier2 = earlier2} {m = m} w l few y =
      record {
        most = omega arith;
        rows = rows_next l few w.rows y;
        words = y.met.narrowed.size;
        stands = λ s v t b.
            subst (λ (k : ℕ). Standing v b (merged_below k (system v) v.machines) k place2 sizes2 pre2 post2 earlier2) (let e : suc m ≡ m + 1 = omega arith in e)
            (stands_next s v t b l w.rows (w.stands s v t b) y);
      }

  pub turn_end : {place sizes pre post earlier : List ℕ} {m : ℕ} → Turned c x place0 sizes0 place sizes pre post earlier m → c.machines ≤ m → MachinesMerged c x place0 sizes0 place sizes pre post
  unfolding merged
  turn_end {place} {sizes} {pre} {post} {earlier} {m} w l =
      record {
        rows = record { place_size_lem = w.rows.place_size_lem; sizes_size = w.rows.sizes_size; moves = w.rows.moves; counts = w.rows.counts };
        tells = λ s v h n i u f.
            let t : Told12 c x place0 sizes0 s v = record { held = h; covered = n; sets = i; later = u; filled = f } in
            subst (λ (k : ℕ). SheetTold v (merged_below k (system v) v.machines) place sizes pre post) (let e : m ≡ length v.machines = omega (arith, h.machines, w.most, l) in e)
            (w.stands s v t (left s v t).left.within).told;
      }

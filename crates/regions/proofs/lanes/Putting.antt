-- The moves of the first transitions, put into the rows lane by lane, are those of the machines.
use Prim.Native.Nat.{ℕ, ◌+◌, ◌*◌, ◌<◌, ◌≤◌}
use native.Mathlib.Omega.{arith}
use borrow.Author.Count.{below_more}
use mathlib.Core.Path.{◌≡◌, ap, ◌∙◌}
use mathlib.Core.List.{List}
use lib.ListN.{set, length-set}
use lib.Seq.{get_or-set_same, get_or-set_other}
use Rattle.rows.specs.declared.Counts.{Counts}
use Rattle.rows.specs.Told.{entry}
use Rattle.regions.specs.declared.crossings.Crossing.{Crossing}
use Rattle.regions.specs.Crossings.{pre_mark, MovesPut}
use Rattle.regions.specs.Columns.{lane_at, Lane, Comparable, EventPut, EventsPut}
use Rattle.regions.proofs.lanes.Columns.{lane_crossing}

module _ {columns : List ℕ} {from to e : ℕ} where
  -- one lane more
  pub lane_put :
      {pre₀ post₀ pre post : List ℕ} {m x y : ℕ} → m < 16 → e < 64 → x ≡ pre_mark (lane_at columns from to m) → y ≡ (lane_at columns from to m).post
      → EventPut columns from to e pre₀ post₀ pre post m → EventPut columns from to e pre₀ post₀ (set pre (e * 16 + m) x) (set post (e * 16 + m) y) (m + 1)
  lane_put {pre = pre} {post} {m} {x} {y} lm le p q s =
      record {
        rows =
            record {
              pre_size = length-set pre (e * 16 + m) x ∙ s.rows.pre_size;
              post_size = length-set post (e * 16 + m) y ∙ s.rows.post_size;
            };
        pres =
            below_more _ m (λ j b. get_or-set_other pre (e * 16 + m) (e * 16 + j) x 0 (λ r. omega arith) ∙ s.pres j b)
            (get_or-set_same pre (e * 16 + m) x 0 (omega (arith, s.rows.pre_size)) ∙ p);
        posts =
            below_more _ m (λ j b. get_or-set_other post (e * 16 + m) (e * 16 + j) y 0 (λ r. omega arith) ∙ s.posts j b)
            (get_or-set_same post (e * 16 + m) y 0 (omega (arith, s.rows.post_size)) ∙ q);
        pres_kept = λ i b. get_or-set_other pre (e * 16 + m) i x 0 (λ r. omega arith) ∙ s.pres_kept i b;
        posts_kept = λ i b. get_or-set_other post (e * 16 + m) i y 0 (λ r. omega arith) ∙ s.posts_kept i b;
      }

-- in the lane of a machine stand its moves
pub moves_put :
    (c : Counts) {source target place first next columns : List ℕ} → Comparable source target first next c.states c.events c.transitions
    → ((m : ℕ) → m < c.machines → Lane place c.states columns m) → c.machines ≤ 16 → {pre post : List ℕ} → EventsPut source target first columns c.events pre post
    → MovesPut source target place first c.events c.machines pre post
moves_put c {place = place} {first} q lanes few s =
    record {
      rows = s.rows;
      pres = λ m h e l. s.pres e l m (omega arith) ∙ ap pre_mark (lane_crossing c q lanes m h (entry first e) (q.chain.begins e l));
      posts = λ m h e l. s.posts e l m (omega arith) ∙ ap (λ (z : Crossing). z.post) (lane_crossing c q lanes m h (entry first e) (q.chain.begins e l));
    }

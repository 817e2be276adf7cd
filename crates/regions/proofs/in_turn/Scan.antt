-- What the scan of a machine has found so far. The code has no row of events, so what speaks of one holds for each that the chains are made from.
use Prim.Native.Nat.{ℕ, ◌+◌, ◌*◌, ◌<◌, ◌≤◌}
use native.Mathlib.Omega.{arith}
use mathlib.Core.Path.{◌≡◌, ap, ◌∙◌}
use mathlib.Core.Bool.{Bool, true, false, not}
use mathlib.Core.List.{List}
use lib.Dec.{T}
use lib.ListN.{set, length-set}
use lib.Seq.{get_or-set_same, get_or-set_other}
use borrow.Author.Count.{below_more}
use Rattle.model.specs.Lists.{every}
use Rattle.model.specs.TransitionSystem.{TransitionSystem}
use Rattle.model.specs.Machine.{Machine, uniform, nonuniform_event}
use Rattle.model.proofs.Laws.{not_T, contra}
use Rattle.rows.specs.Told.{entry, transition_at}
use Rattle.rows.proofs.Searches.{searched}
use Rattle.regions.specs.declared.crossings.Crossing.{Crossing}
use Rattle.regions.specs.Moves.{move_at}
use Rattle.regions.specs.Indexed.{Indexed, Chained}
use Rattle.regions.specs.Crossings.{crossing_at, agreeing, pre_mark, Scannable, Scanned, EarlierKept}
use Rattle.regions.proofs.crossings.Alike.{Level, level_uniform}
use Rattle.regions.proofs.chains.Links.{first_next}
use Rattle.regions.proofs.chains.Walks.{Walk, walk_next, T-passed}
use Rattle.regions.proofs.crossings.Crossed.{rows_level, rows_uneven, rows_move}

-- the transitions of event e before k agree with the crossing
abbrev pub Walked : List ℕ → List ℕ → List ℕ → List ℕ → List ℕ → ℕ → ℕ → ℕ → Crossing → ℕ → Type 0
Walked source target place first next n m e one k = Walk first next n e (λ j. agreeing one (crossing_at source target place m j)) k

pub walked_next :
    (source target place : List ℕ) {first next : List ℕ} {n : ℕ} (m : ℕ) {e : ℕ} (one : Crossing) {k : ℕ} (k2 : ℕ) (other : Crossing) (r : Bool) → k < n → k2 ≡ entry next k
    → other ≡ crossing_at source target place m k → r ≡ agreeing one other → r ≡ true
    → Walked source target place first next n m e one k → Walked source target place first next n m e one k2
walked_next source target place m one k2 other r l q oq rq f w = walk_next k2 l q (T-passed r _ (rq ∙ ap (agreeing one) oq) f) w

-- the events before e are level, and their moves in the rows
pub record Sofar (source target place first next : List ℕ) (n m : ℕ) (pre₀ post₀ pre post : List ℕ) (e : ℕ) : Type 0 where
  pub kept : EarlierKept m pre₀ post₀ pre post
  pub alike : (d : ℕ) → d < e → (event : List ℕ) → Indexed event n first next → (j : ℕ) → j < n → entry event j ≡ d
      → T (agreeing (crossing_at source target place m (entry first d)) (crossing_at source target place m j))
  pub pres : (d : ℕ) → d < e → entry pre (d * 16 + m) ≡ pre_mark (crossing_at source target place m (entry first d))
  pub posts : (d : ℕ) → d < e → entry post (d * 16 + m) ≡ (crossing_at source target place m (entry first d)).post

-- an entry of machine m changes nothing before it
kept_put :
    (m : ℕ) (pre₀ post₀ pre post : List ℕ) (e x y : ℕ) → m < 16 → EarlierKept m pre₀ post₀ pre post → EarlierKept m pre₀ post₀ (set pre (e * 16 + m) x) (set post (e * 16 + m) y)
unfolding move_at
kept_put m pre₀ post₀ pre post e x y lm k = record {
  rows = record { pre_size = length-set pre (e * 16 + m) x ∙ k.rows.pre_size; post_size = length-set post (e * 16 + m) y ∙ k.rows.post_size };
  same = λ j d l b. let q : d * 16 + j ≡ e * 16 + m → ⊥ = λ r. omega arith in
      rw (get_or-set_other pre (e * 16 + m) (d * 16 + j) x 0 q, get_or-set_other post (e * 16 + m) (d * 16 + j) y 0 q) (k.same j d l b);
}

module _ {source target place first next : List ℕ} {n m : ℕ} where
  pub sofar_next :
      {pre₀ post₀ pre post : List ℕ} {e : ℕ} (one : Crossing) (k x : ℕ) → one ≡ crossing_at source target place m (entry first e) → x ≡ pre_mark one → m < 16 → e < 64 → n ≤ k
      → Walked source target place first next n m e one k → Sofar source target place first next n m pre₀ post₀ pre post e
      → Sofar source target place first next n m pre₀ post₀ (set pre (e * 16 + m) x) (set post (e * 16 + m) one.post) (e + 1)
  sofar_next {pre₀} {post₀} {pre} {post} {e} one k x q p lm le l w s = record {
    kept = kept_put m pre₀ post₀ pre post e x one.post lm s.kept;
    alike = below_more _ e s.alike (λ event i j b r. rw q at (w.passed event i j (omega arith) b r));
    pres = below_more _ e (λ d b. get_or-set_other pre (e * 16 + m) (d * 16 + m) x 0 (λ r. omega arith) ∙ s.pres d b)
        (get_or-set_same pre (e * 16 + m) x 0 (omega (arith, s.kept.rows.pre_size)) ∙ p ∙ ap pre_mark q);
    posts = below_more _ e (λ d b. get_or-set_other post (e * 16 + m) (d * 16 + m) one.post 0 (λ r. omega arith) ∙ s.posts d b)
        (get_or-set_same post (e * 16 + m) one.post 0 (omega (arith, s.kept.rows.post_size)) ∙ ap (λ (z : Crossing). z.post) q);
  }

-- the transitions of event d lead through machine m like f, which is one of them, and the rows have f's move
pub record Settled (source event target place : List ℕ) (n m : ℕ) (pre post : List ℕ) (d f : ℕ) : Type 0 where
  pub low : f < n
  pub label : entry event f ≡ d
  pub alike : (j : ℕ) → j < n → entry event j ≡ d → T (agreeing (crossing_at source target place m f) (crossing_at source target place m j))
  pub pre_mark_lem : entry pre (d * 16 + m) ≡ pre_mark (crossing_at source target place m f)
  pub post_place : entry post (d * 16 + m) ≡ (crossing_at source target place m f).post

-- the events before e are settled
module _ {source event target place : List ℕ} {n m : ℕ} {pre post : List ℕ} {e : ℕ} (first : List ℕ) (ts : TransitionSystem) (mach : Machine) (s : Scannable ts mach m source event target place n)
    (most : e ≤ ts.events) (settled : (d : ℕ) → d < e → Settled source event target place n m pre post d (entry first d)) where
  level : (d : ℕ) → d < e → Level ts mach d (transition_at source event target (entry first d))
  level d l = let v = settled d l in rows_level ts mach m source event target place n s d (entry first d) v.low v.label v.alike

  even : (d : ℕ) → d < e → T (not (not (every (uniform ts d) mach.places)))
  even d l = not_T (not (every (uniform ts d) mach.places)) (λ x. contra (every (uniform ts d) mach.places) x (level_uniform ts mach s.within s.placed d (transition_at source event target (entry first d)) (level d l)))

  pub answered : (e < ts.events → T (not (every (uniform ts e) mach.places))) → Scanned ts mach m pre post e
  unfolding nonuniform_event
  answered here = record {
    most = most;
    event = searched (λ d. not (every (uniform ts d) mach.places)) ts.events e most even here;
    moves = λ d l. let v = settled d l in rows_move ts mach m source event target place n s pre post d (entry first d) v.low (level d l) v.pre_mark_lem v.post_place;
  }

-- at the first event that is not level, or past the last
module _ {source target place first next : List ℕ} {n m events : ℕ} {pre₀ post₀ pre post : List ℕ} {e : ℕ} (le : events ≤ 64) (ch : Chained n events first next) (so : Sofar source target place first next n m pre₀ post₀ pre post e) (ed : e ≤ events)
    (event : List ℕ) (ts : TransitionSystem) (mach : Machine) (i : Indexed event n first next) (s : Scannable ts mach m source event target place n) (q : events ≡ ts.events) where
  begins : (d : ℕ) → d < events → entry event (entry first d) ≡ d
  begins d l = (first_next i d (omega arith)).stands (ch.begins d l)

  settled : (d : ℕ) → d < e → Settled source event target place n m pre post d (entry first d)
  settled d l = record { low = ch.begins d (omega arith); label = begins d (omega arith); alike = so.alike d l event i; pre_mark_lem = so.pres d l; post_place = so.posts d l }

  pub scanned_all : events ≤ e → Scanned ts mach m pre post events
  scanned_all l =
      let z : e ≡ events = omega arith in rw z at (answered first ts mach s (omega arith) settled (λ b. absurd (omega arith)))

  pub scanned_uneven :
      (one other : Crossing) (r : Bool) (k : ℕ) → e < events → k < n → one ≡ crossing_at source target place m (entry first e) → other ≡ crossing_at source target place m k
      → r ≡ agreeing one other → r ≡ false → Walked source target place first next n m e one k → Scanned ts mach m pre post e
  scanned_uneven one other r k l lk p oq rq f w =
      answered first ts mach s (omega arith) settled
      (λ _. rows_uneven ts mach m source event target place n s e (entry first e) k (ch.begins e l) lk (begins e l) (w.stands event i lk) (rw (← p, ← oq, ← rq, f) tt))

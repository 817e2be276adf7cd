-- The search for the reached states: what holds at each turn of its loop, why the loop ends, and what it has found then.
use Prim.Native.Nat.{ℕ, ◌<◌}
use mathlib.Core.Path.{◌≡◌, sym, ◌∙◌, subst}
use mathlib.Core.Logic.{◌⊎◌, inl, inr}
use mathlib.Core.Bool.{Bool, true, false, not, ◌&&◌, ◌||◌}
use mathlib.Core.List.{List, Memᴰ}
use mathlib.Core.Option.{none, some}
use lib.Dec.{T, eqb, eqb→eq, eqb_refl}
use Rattle.model.specs.Lists.{lowest}
use Rattle.model.specs.TransitionSystem.{Transition, TransitionSystem}
use Rattle.model.proofs.Laws.{dec, contra, T_true, and_l, and_r, and_i, or_l, or_r, or_e, exists_intro, exists_elim, lowest_none}
use Rattle.model.proofs.Reach.{Leads, here, by}
use Rattle.state_set.specs.declared.StateSet.{StateSet}
use Rattle.state_set.specs.Member.{member}
use Rattle.state_set.specs.Rows.{member_at}
use Rattle.transition_system.specs.Sets.{joins, Has, Successors, Closed, Image}
use Rattle.transition_system.specs.Reaches.{Reaches}
use Rattle.transition_system.proofs.Counting.{count_below, fewer, member_low, lowest_hit}

-- the state's successors are still to be found: it is not seen, or it waits
abbrev pending : StateSet → StateSet → ℕ → Bool
pending seen waiting i = not (member seen i && not (member waiting i))

pub remaining : StateSet → StateSet → ℕ
remaining seen waiting = count_below (pending seen waiting) 256

pub record Search (row : List ℕ) (initial : ℕ) (seen waiting : StateSet) : Type 0 where
  pub begins : T (member seen initial)
  pub inside : (i : ℕ) → T (member seen i) → Has row i
  pub within : (i : ℕ) → T (member waiting i) → T (member seen i)
  pub closed : (i u : ℕ) → T (member seen i) → T (not (member waiting i)) → T (member_at row i u) → T (member seen u)
  pub only : (ts : TransitionSystem) → ts.initial ≡ initial → Successors ts.transitions row → (i : ℕ) → T (member seen i) → Leads ts i

pub begun : {row : List ℕ} {initial : ℕ} {seen waiting : StateSet} → Has row initial → ((i : ℕ) → member seen i ≡ eqb i initial)
    → ((i : ℕ) → member waiting i ≡ eqb i initial) → Search row initial seen waiting
begun {row} {initial} {seen} {waiting} l f w =
    record {
      begins = rw (f initial) (eqb_refl initial);
      inside = λ i t. subst (Has row) (sym (eqb→eq i initial (rw (f i) at t))) l;
      within = λ i t. rw (f i) (rw (w i) at t);
      closed = λ i u t n m. absurd (contra (eqb i initial) (rw (w i) at n) (rw (f i) at t));
      only = λ ts e h i t. subst (Leads ts) (e ∙ sym (eqb→eq i initial (rw (f i) at t))) here;
    }

-- one turn: the states that wait are done, and those that they lead to are seen, and wait where they are fresh
pub record Turn (row : List ℕ) (seen waiting next seen' waiting' : StateSet) : Type 0 where
  pub image : Image row waiting next
  pub waits : (i : ℕ) → member waiting' i ≡ (member next i && not (member seen i))
  pub finds : (i : ℕ) → member seen' i ≡ (member seen i || member waiting' i)

leads_on : (ts : TransitionSystem) (row : List ℕ) → Successors ts.transitions row → (s u : ℕ) → Has row s → T (member_at row s u) → Leads ts s → Leads ts u
unfolding joins
leads_on ts row h s u l m p =
    let w = exists_elim (joins s u) ts.transitions (rw (h.members s u l) at m) in
    let t = w.0 in
    let source : t.source ≡ s = eqb→eq t.source s (and_l (eqb t.source s) (eqb t.target u) w.2) in
    let target : t.target ≡ u = eqb→eq t.target u (and_r (eqb t.source s) (eqb t.target u) w.2) in
    subst (Leads ts) target (by t w.1 (subst (Leads ts) (sym source) p))

-- the states that wait have sets
pub waits_inside : {row : List ℕ} {initial : ℕ} {seen waiting : StateSet} → Search row initial seen waiting → (s : ℕ) → T (member waiting s) → Has row s
waits_inside h s x = h.inside s (h.within s x)

module _ {row : List ℕ} {initial : ℕ} {seen waiting next seen' waiting' : StateSet}
    (h : Search row initial seen waiting) (t : Turn row seen waiting next seen' waiting') where
  keeps : (i : ℕ) → T (member seen i) → T (member seen' i)
  keeps i x = rw (t.finds i) (or_l (member seen i) (member waiting' i) x)

  adds : (i : ℕ) → T (member next i) → T (member seen' i)
  adds i x = go (dec (member seen i))
    where
      go : T (member seen i) ⊎ T (not (member seen i)) → T (member seen' i)
      go (inl y) = keeps i y
      go (inr y) =
          rw (t.finds i) (or_r (member seen i) (member waiting' i) (rw (t.waits i) (and_i (member next i) (not (member seen i)) x y)))

  -- the states that waited are done now, and what was done is done still
  pub less : (s : ℕ) → some s ≡ lowest (member waiting) 256 → remaining seen' waiting' < remaining seen waiting
  unfolding remaining
  less s e = fewer (pending seen' waiting') (pending seen waiting) still 256 s (member_low waiting s in_waiting) now before
    where
      in_waiting : T (member waiting s)
      in_waiting = lowest_hit (member waiting) 256 s e

      in_seen : T (member seen s)
      in_seen = h.within s in_waiting

      -- a: seen, w: waiting, x: to be found
      undone : (a w x : Bool) → T (not ((a || (x && not a)) && not (x && not a))) → T (not (a && not w))
      undone false w x n = tt
      undone true true x n = tt
      undone true false true n = n
      undone true false false n = n

      still : (i : ℕ) → T (pending seen' waiting' i) → T (pending seen waiting i)
      still i n = undone (member seen i) (member waiting i) (member next i) (rw (t.finds i, t.waits i) at n)

      before : T (pending seen waiting s)
      before = rw (T_true (member seen s) in_seen, T_true (member waiting s) in_waiting) tt

      done : (a x : Bool) → T a → T (not (not ((a || (x && not a)) && not (x && not a))))
      done false x m = absurd m
      done true true m = tt
      done true false m = tt

      now : T (not (pending seen' waiting' s))
      now = rw (t.finds s, t.waits s) (done (member seen s) (member next s) in_seen)

  pub again : Closed row → Search row initial seen' waiting'
  again k =
      record {
        begins = keeps initial h.begins;
        inside = λ i x. inside i (seen_or_fresh i x);
        within = λ i x. rw (t.finds i) (or_r (member seen i) (member waiting' i) x);
        closed = closed;
        only = λ ts p q i x. only ts p q i (seen_or_fresh i x);
      }
    where
      seen_or_fresh : (i : ℕ) → T (member seen' i) → T (member seen i) ⊎ T (member waiting' i)
      seen_or_fresh i x = or_e (member seen i) (member waiting' i) (rw (t.finds i) at x)

      -- a state that waits leads to a fresh one
      from : (i : ℕ) → T (member waiting' i) → (s : ℕ) × T (member waiting s) × T (member_at row s i)
      from i x = t.image.only i (and_l (member next i) (not (member seen i)) (rw (t.waits i) at x))

      inside : (i : ℕ) → T (member seen i) ⊎ T (member waiting' i) → Has row i
      inside i (inl x) = h.inside i x
      inside i (inr x) = let (s, w, m) = from i x in k.inside s i (waits_inside h s w) m

      only : (ts : TransitionSystem) → ts.initial ≡ initial → Successors ts.transitions row → (i : ℕ)
          → T (member seen i) ⊎ T (member waiting' i) → Leads ts i
      only ts p q i (inl x) = h.only ts p q i x
      only ts p q i (inr x) = let (s, w, m) = from i x in leads_on ts row q s i (waits_inside h s w) m (h.only ts p q s (h.within s w))

      closed : (i u : ℕ) → T (member seen' i) → T (not (member waiting' i)) → T (member_at row i u) → T (member seen' u)
      closed i u x n m = go (seen_or_fresh i x) (dec (member waiting i))
        where
          go : T (member seen i) ⊎ T (member waiting' i) → T (member waiting i) ⊎ T (not (member waiting i)) → T (member seen' u)
          go (inr y) d = absurd (contra (member waiting' i) n y)
          go (inl y) (inl z) = adds u (t.image.into i u z m)
          go (inl y) (inr z) = keeps u (h.closed i u y z m)

-- no state waits any more
pub reaches : {row : List ℕ} {initial : ℕ} {seen waiting : StateSet} → Search row initial seen waiting → none ≡ lowest (member waiting) 256
    → (ts : TransitionSystem) → ts.initial ≡ initial → Successors ts.transitions row → Reaches ts seen
unfolding joins
reaches {row} {initial} {seen} {waiting} h e ts p q =
    record {
      begins = T_true (member seen ts.initial) (rw p h.begins);
      closed = λ t k m. T_true (member seen t.target) (follow t k (rw m tt));
      only = λ i m. h.only ts p q i (rw m tt);
    }
  where
    follow : (t : Transition) → Memᴰ t ts.transitions → T (member seen t.source) → T (member seen t.target)
    follow t k m =
        let low : t.source < 256 = member_low seen t.source m in
        h.closed t.source t.target m (lowest_none (member waiting) 256 (sym e) t.source low)
        (rw (q.members t.source t.target (h.inside t.source m))
        (exists_intro (joins t.source t.target) ts.transitions t k
        (and_i (eqb t.source t.source) (eqb t.target t.target) (eqb_refl t.source) (eqb_refl t.target))))

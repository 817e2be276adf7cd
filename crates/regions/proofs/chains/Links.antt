-- The chains of transitions, event by event: between one and the next stands none of the event. If every event has a transition, each chain has a beginning.
use Prim.Native.Nat.{ℕ, zero, suc, ◌+◌, ◌-◌, ◌<◌, ◌≤◌}
use native.Mathlib.Omega.{arith}
use mathlib.Core.Path.{◌≡◌, ap, sym, ◌∙◌, subst}
use mathlib.Core.Logic.{◌⊎◌, inl, inr}
use mathlib.Core.Bool.{not, cond}
use mathlib.Core.List.{List}
use mathlib.Core.Option.{none}
use lib.Dec.{T, eqb, eqb→eq}
use Rattle.model.specs.Lists.{exists}
use Rattle.model.specs.TransitionSystem.{Transition, unused_event}
use Rattle.model.proofs.Laws.{dec, contra, eqb_of, cond_true, cond_false, order, not_not, exists_elim, lowest_none}
use Rattle.rows.specs.declared.Tables.{Tables}
use Rattle.rows.specs.Told.{entry, system_of}
use Rattle.rows.specs.Bounded.{Bounded}
use Rattle.rows.proofs.Fronts.{front_member}
use Rattle.regions.specs.Indexed.{next_in, next_of, Indexed, Chained}

-- r is the first position from k on with the event e, or the end
pub record Next (event : List ℕ) (e k end r : ℕ) : Type 0 where
  pub least : k ≤ r
  pub free : (i : ℕ) → k ≤ i → i < r → entry event i ≡ e → ⊥
  pub stands : r < end → entry event r ≡ e

next_in_lem : (event : List ℕ) (e k j : ℕ) → Next event e k (k + j) (next_in event e k j)
unfolding next_in
next_in_lem event e k zero = record { least = omega arith; free = λ i a b q. omega arith; stands = λ l. absurd (omega arith) }
next_in_lem event e k (suc j) = go (dec (eqb (entry event k) e)) (next_in_lem event e (suc k) j)
  where
    go : T (eqb (entry event k) e) ⊎ T (not (eqb (entry event k) e)) → Next event e (suc k) (suc k + j) (next_in event e (suc k) j)
        → Next event e k (k + suc j) (cond (eqb (entry event k) e) k (next_in event e (suc k) j))
    go (inl t) v =
        rw (cond_true (eqb (entry event k) e) k (next_in event e (suc k) j) t)
        (record { least = omega arith; free = λ i a b q. omega arith; stands = λ l. eqb→eq (entry event k) e t })
    go (inr t) v =
        rw (cond_false (eqb (entry event k) e) k (next_in event e (suc k) j) t)
        (record { least = omega (arith, v.least); free = free; stands = λ l. v.stands (omega arith) })
      where
        free : (i : ℕ) → k ≤ i → i < next_in event e (suc k) j → entry event i ≡ e → ⊥
        free i a b q = at (order k i)
          where
            at : (k < i) ⊎ (i ≤ k) → ⊥
            at (inl l) = v.free i l b q
            at (inr l) =
                let s : i ≡ k = omega arith in
                contra (eqb (entry event k) e) t (eqb_of (entry event k) e (subst (λ (z : ℕ). entry event z ≡ e) s q))

next_of_lem : (event : List ℕ) (n e k : ℕ) → k ≤ n → Next event e k n (next_of event n e k)
next_of_lem event n e k l =
    let q : k + (n - k) ≡ n = omega arith in
    subst (λ (z : ℕ). Next event e k z (next_of event n e k)) q (next_in_lem event e k (n - k))

-- the first of an event, and after each transition the next of its event
pub first_next : {event first next : List ℕ} {n : ℕ} → Indexed event n first next → (e : ℕ) → e < 64 → Next event e 0 n (entry first e)
first_next {event} {n = n} i e l = rw (i.starts e l) (next_of_lem event n e 0 (omega arith))

pub after_next : {event first next : List ℕ} {n : ℕ} → Indexed event n first next → (k : ℕ) → k < n → Next event (entry event k) (suc k) n (entry next k)
after_next {event} {n = n} i k l = rw (i.follows k l) (next_of_lem event n (entry event k) (suc k) l)

-- a transition of the event
used : (p : Tables) → unused_event (system_of p) ≡ none → (e : ℕ) → e < p.counts.events → (k : ℕ) × (k < p.counts.transitions) × (entry p.event k ≡ e)
unfolding system_of unused_event
used p u e h =
    let (t, m, s) = exists_elim _ _ (not_not (exists (λ (t : Transition). eqb t.event e) (system_of p).transitions) (lowest_none _ _ u e h)) in
    let (k, l, q) = front_member _ _ _ _ t m in
    (k, l, sym (ap (λ (v : Transition). v.event) q) ∙ eqb→eq t.event e s)

pub chained : (p : Tables) → Bounded p → unused_event (system_of p) ≡ none → (first next : List ℕ) → Indexed p.event p.counts.transitions first next
    → Chained p.counts.transitions p.counts.events first next
chained p b u first next i =
    record {
      first_size = i.first_size;
      room = i.room;
      begins = λ e h. let (k, l, q) = used p u e h in at e h k l q (order k (entry first e));
      rises = λ k h. (after_next i k h).least;
    }
  where
    at : (e : ℕ) → e < p.counts.events → (k : ℕ) → k < p.counts.transitions → entry p.event k ≡ e → (k < entry first e) ⊎ (entry first e ≤ k) → entry first e < p.counts.transitions
    at e h k l q (inl o) = absurd ((first_next i e (omega (arith, b.events))).free k (omega arith) o q)
    at e h k l q (inr o) = omega arith

-- The states to which a set of states leads: what holds at each turn of the loop that joins their sets, and why it ends.
use Prim.Native.Nat.{ℕ, ◌<◌}
use mathlib.Core.Path.{◌≡◌, sym, subst}
use mathlib.Core.Logic.{◌⊎◌, inl, inr}
use mathlib.Core.Bool.{not, ◌&&◌, ◌||◌, and-false}
use mathlib.Core.List.{List}
use mathlib.Core.Option.{none, some}
use lib.Dec.{T, eqb, eqb→eq, eqb_refl}
use Rattle.model.specs.Lists.{lowest}
use Rattle.model.proofs.Laws.{contra, not_not, and_l, and_not, or_l, or_r, or_e, T_true, lowest_none}
use Rattle.state_set.specs.declared.StateSet.{StateSet}
use Rattle.state_set.specs.Member.{member}
use Rattle.state_set.specs.Rows.{set_at, member_at}
use Rattle.state_set.proofs.Sets.{four, empty_member}
use Rattle.transition_system.specs.Sets.{Image}
use Rattle.transition_system.proofs.Counting.{count_below, fewer, member_low, lowest_hit}

pub size : StateSet → ℕ
size set = count_below (member set) 256

-- `rest`: the states whose sets are not yet in `all`
pub record Joined (row : List ℕ) (from rest all : StateSet) : Type 0 where
  pub part : (s : ℕ) → T (member rest s) → T (member from s)
  pub into : (s u : ℕ) → T (member from s) → T (not (member rest s)) → T (member_at row s u) → T (member all u)
  pub only : (u : ℕ) → T (member all u) → (s : ℕ) × T (member from s) × T (member_at row s u)

pub join_start : {row : List ℕ} {from : StateSet} → Joined row from from (four 0 0 0 0)
join_start {row} {from} =
    record {
      part = λ s x. x;
      into = λ s u x n m. absurd (contra (member from s) n x);
      only = λ u x. absurd (rw (empty_member u) at x);
    }

module _ {row : List ℕ} {from rest all : StateSet} (j : Joined row from rest all) where
  pub join_end : none ≡ lowest (member rest) 256 → Image row from all
  join_end e =
      record {
        into = λ s u x m. j.into s u x (lowest_none (member rest) 256 (sym e) s (member_low from s x)) m;
        only = j.only;
      }

  -- the lowest of the rest is s: what `without_lowest`, `load` and `join` gave
  module _ (rest' : StateSet) {s : ℕ} (e : some s ≡ lowest (member rest) 256) (r : (i : ℕ) → member rest' i ≡ (member rest i && not (eqb i s))) where
    in_rest : T (member rest s)
    in_rest = lowest_hit (member rest) 256 s e

    pub join_less : size rest' < size rest
    unfolding size
    join_less =
        fewer (member rest') (member rest) (λ i x. and_l (member rest i) (not (eqb i s)) (rw (r i) at x)) 256 s (member_low rest s in_rest)
        (rw (r s, T_true (eqb s s) (eqb_refl s), and-false (member rest s)) tt) in_rest

    pub join_more : {all' next : StateSet} {k : ℕ} → k ≡ s → next ≡ set_at row k → ((i : ℕ) → member all' i ≡ (member all i || member next i))
        → Joined row from rest' all'
    unfolding member_at
    join_more {all'} {next} {k} p q a =
        record {
          part = λ i x. j.part i (and_l (member rest i) (not (eqb i s)) (rw (r i) at x));
          into = λ i u x n m. rw (a u) (into i u x m (and_not (member rest i) (not (eqb i s)) (rw (r i) at n)));
          only = λ u x. only u (or_e (member all u) (member next u) (rw (a u) at x));
        }
      where
        next_is : (u : ℕ) → member next u ≡ member_at row s u
        next_is u = rw (q, p)

        into : (i u : ℕ) → T (member from i) → T (member_at row i u) → T (not (member rest i)) ⊎ T (not (not (eqb i s))) → T (member all u || member next u)
        into i u x m (inl n) = or_l (member all u) (member next u) (j.into i u x n m)
        into i u x m (inr n) =
            let same : i ≡ s = eqb→eq i s (not_not (eqb i s) n) in
            or_r (member all u) (member next u) (rw (next_is u) (subst (λ (v : ℕ). T (member_at row v u)) same m))

        only : (u : ℕ) → T (member all u) ⊎ T (member next u) → (v : ℕ) × T (member from v) × T (member_at row v u)
        only u (inl x) = j.only u x
        only u (inr x) = (s, j.part s in_rest, rw (next_is u) at x)

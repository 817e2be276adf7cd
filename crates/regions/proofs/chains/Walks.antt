-- A walk along the chain of an event, with a test that each of its transitions is put to. The code has no row of events, so what speaks of one holds for each that the
-- chains are made from.
use Prim.Native.Nat.{ℕ, suc, ◌<◌, ◌≤◌}
use native.Mathlib.Omega.{arith}
use mathlib.Core.Path.{◌≡◌, subst}
use mathlib.Core.Logic.{◌⊎◌, inl, inr}
use mathlib.Core.Bool.{Bool, true}
use mathlib.Core.List.{List}
use lib.Dec.{T}
use Rattle.model.proofs.Laws.{order}
use Rattle.rows.specs.Told.{entry}
use Rattle.regions.specs.Indexed.{Indexed}
use Rattle.regions.proofs.chains.Links.{Next, first_next, after_next}

-- the transitions of event e before k pass, and at k stands one of e
pub record Walk (first next : List ℕ) (n e : ℕ) (test : ℕ → Bool) (k : ℕ) : Type 0 where
  pub passed : (event : List ℕ) → Indexed event n first next → (j : ℕ) → j < k → j < n → entry event j ≡ e → T (test j)
  pub stands : (event : List ℕ) → Indexed event n first next → k < n → entry event k ≡ e

module _ {first next : List ℕ} {n e : ℕ} {test : ℕ → Bool} where
  pub walk_start : (k : ℕ) → e < 64 → k ≡ entry first e → Walk first next n e test k
  walk_start k l q = record {
    passed = λ event x j a b h. absurd ((start event x).free j (omega arith) a h);
    stands = λ event x. (start event x).stands;
  }
    where
      start : (event : List ℕ) → Indexed event n first next → Next event e 0 n k
      start event x = rw q (first_next x e l)

  pub walk_next : {k : ℕ} (k2 : ℕ) → k < n → k2 ≡ entry next k → T (test k) → Walk first next n e test k → Walk first next n e test k2
  walk_next {k} k2 l q t w = record { passed = passed; stands = λ event x. (after event x).stands }
    where
      after : (event : List ℕ) → Indexed event n first next → Next event e (suc k) n k2
      after event x = subst (λ (d : ℕ). Next event d (suc k) n k2) (w.stands event x l) (rw q (after_next x k l))

      passed : (event : List ℕ) → Indexed event n first next → (j : ℕ) → j < k2 → j < n → entry event j ≡ e → T (test j)
      passed event x j a b h = at (order j k) (order k j)
        where
          at : (j < k) ⊎ (k ≤ j) → (k < j) ⊎ (j ≤ k) → T (test j)
          at (inl y) z = w.passed event x j y b h
          at (inr y) (inl z) = absurd ((after event x).free j z a h)
          at (inr y) (inr z) = let s : j ≡ k = omega arith in rw s t

-- what the code's test says
pub T-passed : (r b : Bool) → r ≡ b → r ≡ true → T b
T-passed r b q f = rw (← q, f) tt

-- How many numbers pass a test, which falls with each turn of a search; and what a set's lowest state tells.
use Prim.Native.Nat.{ℕ, zero, suc, ◌+◌, ◌<◌, ◌≤◌}
use native.Mathlib.Omega.{arith}
use mathlib.Core.Path.{◌≡◌, ◌∙◌}
use mathlib.Core.Logic.{◌⊎◌, inl, inr}
use mathlib.Core.Bool.{Bool, true, false, not, cond}
use mathlib.Core.Option.{Option, none, some, some-ne-none}
use Rattle.std.specs.Prelude.{Some, None, is_some}
use Rattle.std.specs.Prelude as Std
use lib.Dec.{T}
use Rattle.model.specs.Lists.{lowest}
use Rattle.model.proofs.Laws.{order, Lowest, found, absent, lowest_view, below_suc}
use Rattle.state_set.specs.declared.StateSet.{StateSet}
use Rattle.state_set.specs.Member.{member, state_found}
use Rattle.state_set.proofs.Sets.{no_member}

-- ---- how many numbers below n pass a test
one : Bool → ℕ
one b = cond b 1 0

pub count_below : (ℕ → Bool) → ℕ → ℕ
count_below f zero = 0
count_below f (suc n) = one (f n) + count_below f n

one_le : (a b : Bool) → (T a → T b) → one a ≤ one b
unfolding one
one_le true true h = omega arith
one_le true false h = absurd (h tt)
one_le false true h = omega arith
one_le false false h = omega arith

one_lt : (a b : Bool) → T (not a) → T b → one a < one b
unfolding one
one_lt true b n t = absurd n
one_lt false true n t = omega arith
one_lt false false n t = absurd t

one_most : (b : Bool) → one b ≤ 1
unfolding one
one_most true = omega arith
one_most false = omega arith

pub most : (f : ℕ → Bool) (n : ℕ) → count_below f n ≤ n
unfolding count_below
most f zero = omega arith
most f (suc n) = omega (arith, one_most (f n), most f n)

module _ (f g : ℕ → Bool) (h : (i : ℕ) → T (f i) → T (g i)) where
  no_more : (n : ℕ) → count_below f n ≤ count_below g n
  unfolding count_below
  no_more zero = omega arith
  no_more (suc n) = omega (arith, one_le (f n) (g n) (h n), no_more n)

  -- a test that fails where another passes, and passes nowhere else, passes less often
  pub fewer : (n k : ℕ) → k < n → T (not (f k)) → T (g k) → count_below f n < count_below g n
  unfolding count_below
  fewer zero k l t u = absurd (omega arith)
  fewer (suc n) k l t u = go (below_suc k n l) (fewer n k)
    where
      go : (k < n) ⊎ (k ≡ n) → (k < n → T (not (f k)) → T (g k) → count_below f n < count_below g n)
          → one (f n) + count_below f n < one (g n) + count_below g n
      go (inl m) ih = omega (arith, ih m t u, one_le (f n) (g n) (h n))
      go (inr e) ih = omega (arith, no_more n, one_lt (f n) (g n) (rw e at t) (rw e at u))

-- ---- the members of a set are below 256
pub member_low : (s : StateSet) (i : ℕ) → T (member s i) → i < 256
member_low s i t = go (order i 256)
  where
    go : (i < 256) ⊎ (256 ≤ i) → i < 256
    go (inl l) = l
    go (inr l) = absurd (rw (no_member s i l) at t)

-- a number that `lowest` answers
pub lowest_hit : (f : ℕ → Bool) (n k : ℕ) → some k ≡ lowest f n → T (f k)
lowest_hit f n k e = go (lowest_view f n)
  where
    go : Lowest f n → T (f k)
    go (found j p l t h) = let same : j ≡ k = cc in rw same at t
    go (absent p h) = absurd (some-ne-none k (e ∙ p))

-- ---- what a search's answer tells of it, once it is tested
module _ {o : Option ℕ} where
  pub finds_none : (r : Std.Option ℕ) → state_found r ≡ o → is_some r ≡ false → none ≡ o
  unfolding state_found
  finds_none None e t = e
  finds_none (Some s) e t = cc

  pub finds_some : (r : Std.Option ℕ) → state_found r ≡ o → is_some r ≡ true → (s : ℕ) × (some s ≡ o)
  unfolding state_found
  finds_some None e t = cc
  finds_some (Some s) e t = (s, e)

-- An event on one of the first machines, and the lowest that is on none.
use Prim.Native.Nat.{ℕ, zero, suc, ◌+◌, ◌*◌, ◌<◌}
use native.Mathlib.Omega.{arith}
use mathlib.Core.Path.{◌≡◌, refl, sym}
use mathlib.Core.Logic.{◌⊎◌, inl, inr}
use mathlib.Core.Bool.{Bool, true, false, not, or-true}
use mathlib.Core.List.{List}
use mathlib.Core.Option.{none, some}
use lib.Dec.{ltb}
use lib.ListN.{length, get_or}
use Rattle.std.specs.Bool.{MatchBool}
use Rattle.std.specs.List.{range_with_len, HoldsAt, AllWithin}
use Rattle.std.proofs.lemmas.List.FromFn.{length-range_with_len, get_or-range_with_len}
use Rattle.model.specs.Lists.{lowest}
use Rattle.model.proofs.Laws.{below_suc, lowest_is, none_lowest}
use Rattle.rows.specs.Told.{entry}
use Rattle.closure.specs.Covers.{on_machine, on_some}

-- the event is on the machine if its entry is a place
pub on_entry : (pre : List ℕ) (e k : ℕ) {q : ℕ} → q ≡ entry pre (e * 16 + k) → ltb q 64 ≡ on_machine pre e k
unfolding on_machine
on_entry pre e k v = rw v

on_some_lem : (pre : List ℕ) (e k n : ℕ) → k < n → on_machine pre e k ≡ true → on_some pre e n ≡ true
unfolding on_some
on_some_lem pre e k zero l t = absurd (omega arith)
on_some_lem pre e k (suc n) l t = go (below_suc k n l) (λ b. on_some_lem pre e k n b t)
  where
    go : (k < n) ⊎ (k ≡ n) → (k < n → on_some pre e n ≡ true) → on_some pre e (suc n) ≡ true
    go (inl b) ih = rw (ih b)
    go (inr b) ih = rw (sym b, t, or-true (on_some pre e k))

on_none_lem : (pre : List ℕ) (e n : ℕ) → ((k : ℕ) → k < n → on_machine pre e k ≡ false) → on_some pre e n ≡ false
unfolding on_some
on_none_lem pre e zero h = refl
on_none_lem pre e (suc n) h = rw (on_none_lem pre e n (λ k l. h k (omega arith)), h n (omega arith))

-- what `any` over the first n machines tells
pub on_any : (pre : List ℕ) (e n : ℕ) (r : Bool)
    → MatchBool r ((k : ℕ) × (k < length (range_with_len 0 n)) × HoldsAt (λ m. on_machine pre e m ≡ true) (range_with_len 0 n) k)
    (AllWithin (λ m. on_machine pre e m ≡ false) (range_with_len 0 n) 0 (length (range_with_len 0 n))) → r ≡ on_some pre e n
on_any pre e n true h =
    let (k, l, t) = h in
    let b : k < n = rw length-range_with_len at l in
    let same : get_or (range_with_len 0 n) k 0 ≡ k = let q = get_or-range_with_len 0 n k 0 b in omega (arith, q) in
    sym (on_some_lem pre e k n b (rw same at (t 0)))
on_any pre e n false h =
    sym (on_none_lem pre e n (λ k l.
    let same : get_or (range_with_len 0 n) k 0 ≡ k = let q = get_or-range_with_len 0 n k 0 l in omega (arith, q) in
    rw same at (h k 0 (omega arith) (rw length-range_with_len l))))

-- the search stops at an event that is on no machine, or comes to the end
module _ (pre : List ℕ) (machines n : ℕ) where
  pub ineffective_found : (e : ℕ) → e < n → ((j : ℕ) → j < e → on_some pre j machines ≡ true) → on_some pre e machines ≡ false
      → some e ≡ lowest (λ j. not (on_some pre j machines)) n
  ineffective_found e l each q = sym (lowest_is _ n e l (rw q tt) (λ j b. rw (each j b) tt))

  pub all_effective : ((j : ℕ) → j < n → on_some pre j machines ≡ true) → none ≡ lowest (λ j. not (on_some pre j machines)) n
  all_effective each = sym (none_lowest _ n (λ j b. rw (each j b) tt))

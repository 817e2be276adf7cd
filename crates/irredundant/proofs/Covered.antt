-- The machines beside one of them: whether they cover an event, and whether they cover every event.
use Prim.Native.Nat.{ℕ, ◌+◌, ◌*◌, ◌<◌}
use native.Mathlib.Nat.{zero-add}
use native.Mathlib.Omega.{arith}
use mathlib.Core.Path.{◌≡◌, refl, sym, ap, ◌∙◌}
use mathlib.Core.Bool.{Bool, true, false, not, ◌&&◌, ◌||◌, or-true, and-false, false≢true}
use mathlib.Core.List.{List}
use borrow.Author.Tests.{not-true, not-false}
use lib.ListN.{length, get_or}
use Rattle.std.specs.Prelude.{Option, Some, None}
use Rattle.std.specs.Option as S
use Rattle.std.specs.Bool.{MatchBool}
use Rattle.std.specs.List.{AllWithin, HoldsAt, range_with_len}
use Rattle.std.proofs.lemmas.List.FromFn.{length-range_with_len, get_or-range_with_len}
use Rattle.model.specs.Lists.{is_some, lowest}
use Rattle.model.proofs.Laws.{T_true, not_not, is_some_none, lowest_none, none_lowest}
use Rattle.state_set.specs.declared.StateSet.{StateSet}
use Rattle.state_set.specs.Member.{member, state_found}
use Rattle.state_set.specs.Rows.{set_at, member_at}
use Rattle.rows.proofs.Searches.{lowest_same}
use Rattle.closure.specs.Covers.{on_some}
use Rattle.irredundant.specs.Kept.{none_below, covered_without}

-- ---- one event
-- event e is on a kept machine after m, or on a machine before it
pub record On (pre : List ℕ) (onAbove : List Bool) (m e : ℕ) : Type 0 where
  pub on : (get_or onAbove e false || on_some pre e m) ≡ true

module _ {pre : List ℕ} {onAbove : List Bool} {m e : ℕ} where
  pub is_on_above : get_or onAbove e false ≡ true → On pre onAbove m e
  is_on_above q = record { on = rw q }

  pub is_before : {r : Bool} → r ≡ on_some pre e m → r ≡ true → On pre onAbove m e
  is_before {r} v q = record { on = rw (sym v, q) (or-true (get_or onAbove e false)) }

module _ (pre below above : List ℕ) (onAbove : List Bool) (excited : List ℕ) (m e : ℕ) where
  -- or neither
  pub off_all : {r : Bool} → get_or onAbove e false ≡ false → r ≡ on_some pre e m → r ≡ false
      → false ≡ covered_without pre below above onAbove excited m e
  unfolding covered_without
  off_all {r} h v q = rw (h, sym v, q)

  abbrev beyond : ℕ → Bool
  beyond i = (member_at below (e * 16 + m) i && member_at above e i) && not (member_at excited e i)

  -- what the calls gave: the sets of machine m and of those that are kept, what is common, the excitation set, what is left, and its lowest state
  module _ (a b c x y : StateSet) (o : Option ℕ) (va : a ≡ set_at below (e * 16 + m)) (vb : b ≡ set_at above e)
      (vc : (i : ℕ) → member c i ≡ (member a i && member b i)) (vx : x ≡ set_at excited e)
      (vy : (i : ℕ) → member y i ≡ (member c i && not (member x i))) (vo : state_found o ≡ lowest (member y) 256) where
    lowest_left : state_found o ≡ lowest beyond 256
    unfolding member_at
    lowest_left = vo ∙ lowest_same _ _ 256 (λ i _. vy i ∙ rw (vc i, va, vb, vx))

    pub none_left : o ≡ None → On pre onAbove m e → true ≡ covered_without pre below above onAbove excited m e
    unfolding covered_without none_below is_some state_found
    none_left q h = rw (h.on, sym lowest_left, q)

    pub some_left : {s : ℕ} → o ≡ Some s → false ≡ covered_without pre below above onAbove excited m e
    unfolding covered_without none_below is_some state_found
    some_left q = rw (sym lowest_left, q) (sym (and-false (get_or onAbove e false || on_some pre e m)))

    pub is_left : {r : Bool} → S.is_some o ≡ not r → On pre onAbove m e → r ≡ covered_without pre below above onAbove excited m e
    is_left {r} v h = go o refl
      where
        go : (x : Option ℕ) → o ≡ x → r ≡ covered_without pre below above onAbove excited m e
        go None q = not-false r (sym v ∙ ap S.is_some q) ∙ none_left q h
        go (Some s) q = not-true r (sym v ∙ ap S.is_some q) ∙ some_left q

-- ---- every event
module _ (f : ℕ → Bool) (n : ℕ) where
  pub all_pass : ((j : ℕ) → j < n → f j ≡ true) → none_below (λ e. not (f e)) n ≡ true
  unfolding none_below is_some
  all_pass h = rw (none_lowest (λ e. not (f e)) n (λ j b. rw (h j b) tt))

  pub each_passes : none_below (λ e. not (f e)) n ≡ true → (j : ℕ) → j < n → f j ≡ true
  unfolding none_below
  each_passes q j l = T_true (f j) (not_not (f j) (lowest_none _ n (is_some_none (lowest (λ e. not (f e)) n) (rw q tt)) j l))

  pub not_covered : {e : ℕ} {r : Bool} → e < n → r ≡ f e → not r ≡ true → none_below (λ e. not (f e)) n ≡ false
  not_covered {e} {r} l v q = go (none_below (λ e. not (f e)) n) refl
    where
      go : (t : Bool) → none_below (λ e. not (f e)) n ≡ t → none_below (λ e. not (f e)) n ≡ false
      go true w = absurd (false≢true (sym (not-true r q) ∙ v ∙ each_passes w e l))
      go false w = w

-- what `all` answers of the events
pub all_covered : (f : ℕ → Bool) (n : ℕ) (r : Bool)
    → MatchBool r (AllWithin (λ e. f e ≡ true) (range_with_len 0 n) 0 (length (range_with_len 0 n)))
    ((k : ℕ) × (k < length (range_with_len 0 n)) × HoldsAt (λ e. f e ≡ false) (range_with_len 0 n) k)
    → r ≡ none_below (λ e. not (f e)) n
all_covered f n true h =
    sym (all_pass f n (λ j b. rw (get_or-range_with_len 0 n j 0 b, zero-add) at (h j 0 (omega arith) (omega (arith, length-range_with_len 0 n)))))
all_covered f n false (k, l, h) = go (none_below (λ e. not (f e)) n) refl
  where
    low : k < n
    low = omega (arith, length-range_with_len 0 n)

    fails : f k ≡ false
    fails = rw (get_or-range_with_len 0 n k 0 low, zero-add) at (h 0)

    go : (t : Bool) → none_below (λ e. not (f e)) n ≡ t → false ≡ none_below (λ e. not (f e)) n
    go true w = absurd (false≢true (sym fails ∙ each_passes f n w k low))
    go false w = sym w

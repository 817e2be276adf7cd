-- The checks as far as 7, 10 and 12 in the model's words, by what the code finds out on its way: whether the text is read, and what 4 to 12 say of its value.
use Prim.Native.Nat.{ℕ}
use mathlib.Core.Path.{◌≡◌, refl}
use mathlib.Core.List.{List}
use mathlib.Core.Option.{Option, none, some, or_else}
use Rattle.model.specs.Refusal.{Refusal, passed, unless, refusal_of, ◌>>=◌, ◌>>◌}
use Rattle.model.specs.TransitionSystem.{system_refusal}
use Rattle.model.specs.Machine.{machines_refusal, cover_refusal}
use Rattle.model.specs.Text.{Input, system, read}
use Rattle.model.specs.Services.{as_far_as7, as_far_as10, as_far_as12}
use Rattle.rows.proofs.Verdicts.{was_refused}
use Rattle.stages.specs.Order.{refusal_to10}

-- two checks, one after the other, are one
joined : (v : Input) (a : Option Refusal) (f : Input → Option Refusal)
    → ((unless a >> passed v) >>= λ w. unless (f w) >> passed w) ≡ (unless (or_else a (f v)) >> passed v)
unfolding or_else
joined v (some r) f = refl
joined v none f = refl

-- ---- as far as 7

only_check : (v : Input) (o : Option Refusal) → refusal_of (unless o >> passed v) ≡ o
only_check v none = refl
only_check v (some r) = refl

module _ (s : List ℕ) where
  -- refused by 1 to 3
  pub unread_7 : (r : Refusal) → refusal_of (read s) ≡ some r → refusal_of (as_far_as7 s) ≡ some r
  unfolding as_far_as7
  unread_7 r e = rw (was_refused (read s) r e)

  module _ (v : Input) (e : read s ≡ passed v) where
    -- the refusal is that of 4 to 7
    pub refusal_7 : refusal_of (as_far_as7 s) ≡ system_refusal (system v)
    unfolding as_far_as7
    refusal_7 = rw e (only_check v (system_refusal (system v)))

    pub passed_7 : system_refusal (system v) ≡ none → as_far_as7 s ≡ passed v
    unfolding as_far_as7
    passed_7 h = rw (e, h)

-- ---- as far as 10

module _ (s : List ℕ) where
  -- refused by 1 to 3
  pub unread_10 : (r : Refusal) → refusal_of (read s) ≡ some r → refusal_of (as_far_as10 s) ≡ some r
  unfolding as_far_as10 as_far_as7
  unread_10 r e = rw (was_refused (read s) r e)

  module _ (v : Input) (e : read s ≡ passed v) where
    in_one : as_far_as10 s ≡ (unless (refusal_to10 (system v) v.machines) >> passed v)
    unfolding as_far_as10 as_far_as7 refusal_to10
    in_one = rw e (joined v (system_refusal (system v)) (λ w. machines_refusal (system w) 0 w.machines))

    -- the refusal is that of 4 to 10
    pub refusal_10 : refusal_of (as_far_as10 s) ≡ refusal_to10 (system v) v.machines
    refusal_10 = rw in_one (only_check v (refusal_to10 (system v) v.machines))

    pub passed_10 : refusal_to10 (system v) v.machines ≡ none → as_far_as10 s ≡ passed v
    passed_10 h = rw h at in_one

-- ---- as far as 12

module _ (s : List ℕ) where
  -- refused by 1 to 10
  pub refused_12 : (r : Refusal) → refusal_of (as_far_as10 s) ≡ some r → refusal_of (as_far_as12 s) ≡ some r
  unfolding as_far_as12
  refused_12 r e = rw (was_refused (as_far_as10 s) r e)

  module _ (v : Input) (e : as_far_as10 s ≡ passed v) where
    -- the refusal is that of 11 and 12
    pub refusal_12 : refusal_of (as_far_as12 s) ≡ cover_refusal (system v) v.machines
    unfolding as_far_as12
    refusal_12 = rw e (only_check v (cover_refusal (system v) v.machines))

    pub passed_12 : cover_refusal (system v) v.machines ≡ none → as_far_as12 s ≡ passed v
    unfolding as_far_as12
    passed_12 h = rw (e, h)

-- The number that a word says is small, that of an event and any other.
use Prim.Native.Nat.{ℕ, suc, ◌<◌, ◌≤◌, min}
use native.Mathlib.Omega.{arith}
use mathlib.Core.Path.{◌≡◌, sym, ◌∙◌}
use mathlib.Core.Bool.{Bool, true, false, cond}
use mathlib.Core.List.{List, [], ◌∷◌}
use mathlib.Core.Option.{none, some, some-ne-none, some-injective}
use lib.ListN.{length}
use Rattle.model.specs.Lists.{index}
use Rattle.model.specs.Bytes.{decimal, same_name}
use Rattle.model.specs.Text.{event_number}
use Rattle.rows.specs.Names.{names_in}
use Rattle.rows.proofs.Names.{length_names}
use Rattle.std.specs.Prelude.{Some, None}
use Rattle.std.specs.Prelude as Std
use Rattle.command_line.specs.Words.{is_numeral, said, number_said}

index_most : {A : Type 0} (f : A → Bool) (l : List A) → index f l ≤ length l
unfolding index
index_most f [] = omega arith
index_most f (x ∷ l) = go (f x) (index_most f l)
  where
    go : (t : Bool) → index f l ≤ length l → cond t 0 (suc (index f l)) ≤ suc (length l)
    go true h = omega arith
    go false h = omega arith

pub event_small : (s ats lens w : List ℕ) {events e : ℕ} → events ≤ 64 → e ≡ event_number (names_in s ats lens events) w
    → (n : ℕ) → said (Some e) ≡ some n → n < 256
unfolding said event_number
event_small s ats lens w {events} {e} h p n q =
    let names = names_in s ats lens events in
    omega (arith, index_most (same_name w) names, length_names s ats lens events, some-injective e n q)

pub number_small : (w : List ℕ) (r : Std.Option ℕ) → said r ≡ number_said 255 w → (n : ℕ) → said r ≡ some n → n < 256
unfolding number_said
number_small w r p n q = go (is_numeral w) (sym p ∙ q)
  where
    go : (t : Bool) → cond t (some (min (decimal w) 255)) none ≡ some n → n < 256
    go true e = omega (arith, some-injective (min (decimal w) 255) n e)
    go false e = absurd (some-ne-none n (sym e))

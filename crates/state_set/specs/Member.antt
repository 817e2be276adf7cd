-- The states of a set: state i is digit i % 64 of word i / 64. No number from 256 on is a member.
use Rattle.std.specs.Prelude.{ℕ, zero, suc, ◌/◌, ◌%◌, ◌^◌, Bool, eqb, Some, None}
use Rattle.std.specs.Prelude as Std
use Rattle.std.proofs.Math.Option.{Option, none, some}
use Rattle.state_set.specs.declared.StateSet.{StateSet}

-- digit i of a number in base two, counted from 0 at the low end
unfoldable pub bit : ℕ → ℕ → Bool
bit w i = eqb (w / 2 ^ i % 2) 1

unfoldable pub word_at : StateSet → ℕ → ℕ
word_at s zero = s.w0
word_at s (suc zero) = s.w1
word_at s (suc (suc zero)) = s.w2
word_at s (suc (suc (suc zero))) = s.w3
word_at s (suc (suc (suc (suc k)))) = zero

unfoldable pub member : StateSet → ℕ → Bool
member s i = bit (word_at s (i / 64)) (i % 64)

unfoldable pub state_found : Std.Option ℕ → Option ℕ
state_found None = none
state_found (Some s) = some s

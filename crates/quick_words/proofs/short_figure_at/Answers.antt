-- `quick_words::short_figure_at` meets its contract: the bytes stand in the order in which they are read, and a third is no digit.
use Rattle.std.proofs.Common.{◌≡◌, ℕ, true, refl, arith}
use Rattle.model.specs.Bytes.{is_digit}
use Rattle.quick_words.proofs.Standing.{forwards}
use Rattle.quick_words.proofs.short_figure_at.Goals as goal

no_digit : is_digit 0 ≡ true → ⊥
unfolding is_digit
no_digit e = let z : ◌≡◌ {A = ℕ} 0 1 = cc in omega arith

pub returns : goal.returns
returns c =
    forwards _ _ _ _ _ _ _ c.args.s.now c.args.at c.requires refl refl c.digit_value-x.ensures (cc) (λ t. absurd (no_digit t))
    c.sized_figure.ensures

-- `quick_words::first_bytes` meets its contract: two shifts are one by their sum.
use Rattle.std.proofs.Common.{◌≡◌, ℕ, ◌+◌, ◌-◌, ◌*◌, ◌/◌, ◌^◌, ap, ◌∙◌, arith, shr-shr}
use Rattle.quick_words.proofs.first_bytes.Goals as goal

pub returns : goal.returns
returns c =
    let w = c.args.word in
    let half = 32 - 4 * c.args.count in
    let e : half + half ≡ 8 * (8 - c.args.count) = omega arith in
    shr-shr w half half ∙ ap (λ (n : ℕ). w / 2 ^ n) e

-- The row of the machines' places is the list of them with 0 after it.
use Prim.Native.Nat.{ℕ, ◌-◌, ◌<◌, ◌≤◌}
use native.Mathlib.Omega.{arith}
use mathlib.Core.Path.{◌≡◌, sym, ◌∙◌}
use mathlib.Core.Logic.{◌⊎◌, inl, inr}
use mathlib.Core.List.{List}
use lib.ListN.{length, replicate, length-append, length-replicate, get_or-append}
use lib.Seq.{ext_get_or}
use Rattle.model.specs.Services.{padded}
use Rattle.model.proofs.Laws.{order}
use Rattle.model.proofs.Faith.{get_d_padded}
use Rattle.rows.specs.Told.{entry}
use Rattle.product.specs.Stepping.{Standing}

-- the list of places with 0 after it
pub padded_stands : (qs : List ℕ) → length qs ≤ 16 → Standing (entry qs) (length qs) (padded qs)
unfolding padded
padded_stands qs h =
    let zeros : List ℕ = replicate (16 - length qs) 0 in
    record {
      size = omega (arith, length-append qs zeros, length-replicate {A = ℕ} (16 - length qs) 0);
      stands = λ k l. get_or-append qs zeros 0 k l;
      unused = λ k l. get_d_padded qs (16 - length qs) k l;
    }

-- there is one such row
pub stands_padded : (qs : List ℕ) {row : List ℕ} → length qs ≤ 16 → Standing (entry qs) (length qs) row → row ≡ padded qs
stands_padded qs {row} h s =
    let z = padded_stands qs h in
    ext_get_or 0 row (padded qs) (s.size ∙ sym z.size) (λ k l. go z k (order k (length qs)))
  where
    go : Standing (entry qs) (length qs) (padded qs) → (k : ℕ) → (k < length qs) ⊎ (length qs ≤ k) → entry row k ≡ entry (padded qs) k
    go z k (inl b) = s.stands k b ∙ sym (z.stands k b)
    go z k (inr b) = s.unused k b ∙ sym (z.unused k b)

-- One comparison of two transitions in all lanes.
use Prim.Native.Nat.{ℕ, zero, suc, ◌+◌, ◌<◌}
use native.Mathlib.Omega.{arith}
use native.Mathlib.Numerals.{add-one}
use mathlib.Core.Path.{◌≡◌, refl, sym, ◌∙◌}
use mathlib.Core.Logic.{◌⊎◌, inl, inr}
use mathlib.Core.Bool.{Bool, not, ◌&&◌, ◌||◌}
use mathlib.Core.List.{List}
use lib.Dec.{T, eqb, eqb→eq}
use Rattle.model.proofs.Laws.{dec, and_l, and_r, and_i, or_e, or_l, or_r, T_true, T_false, not_T, contra, eqb_of, below_suc}
use Rattle.rows.specs.Told.{entry}
use Rattle.regions.specs.Crossings.{agreeing}
use Rattle.regions.specs.Columns.{lane_at, lanes_agree}
use Rattle.regions.proofs.crossings.Alike.{Alike, agreeing_alike, alike_agreeing}

-- the test of two crossings without a branch
lane_test : (a b p q : ℕ) → ((eqb a p && eqb b q) || (eqb a b && eqb p q)) ≡ agreeing (record { pre = a; post = b }) (record { pre = p; post = q })
lane_test a b p q = go (dec ((eqb a p && eqb b q) || (eqb a b && eqb p q)))
  where
    forth : T (eqb a p && eqb b q) ⊎ T (eqb a b && eqb p q) → Alike (record { pre = a; post = b }) (record { pre = p; post = q })
    forth (inl h) = inr (eqb→eq a p (and_l (eqb a p) (eqb b q) h), eqb→eq b q (and_r (eqb a p) (eqb b q) h))
    forth (inr h) = inl (eqb→eq a b (and_l (eqb a b) (eqb p q) h), eqb→eq p q (and_r (eqb a b) (eqb p q) h))

    back : Alike (record { pre = a; post = b }) (record { pre = p; post = q }) → T ((eqb a p && eqb b q) || (eqb a b && eqb p q))
    back (inl h) = or_r (eqb a p && eqb b q) (eqb a b && eqb p q) (and_i (eqb a b) (eqb p q) (eqb_of a b h.0) (eqb_of p q h.1))
    back (inr h) = or_l (eqb a p && eqb b q) (eqb a b && eqb p q) (and_i (eqb a p) (eqb b q) (eqb_of a p h.0) (eqb_of b q h.1))

    go : T ((eqb a p && eqb b q) || (eqb a b && eqb p q)) ⊎ T (not ((eqb a p && eqb b q) || (eqb a b && eqb p q)))
        → ((eqb a p && eqb b q) || (eqb a b && eqb p q)) ≡ agreeing (record { pre = a; post = b }) (record { pre = p; post = q })
    go (inl t) =
        T_true ((eqb a p && eqb b q) || (eqb a b && eqb p q)) t
        ∙ sym (T_true (agreeing (record { pre = a; post = b }) (record { pre = p; post = q })) (alike_agreeing (record { pre = a; post = b }) (record { pre = p; post = q }) (forth (or_e (eqb a p && eqb b q) (eqb a b && eqb p q) t))))
    go (inr t) =
        T_false ((eqb a p && eqb b q) || (eqb a b && eqb p q)) t
        ∙ sym (T_false (agreeing (record { pre = a; post = b }) (record { pre = p; post = q })) (not_T (agreeing (record { pre = a; post = b }) (record { pre = p; post = q })) (λ h. contra ((eqb a p && eqb b q) || (eqb a b && eqb p q)) t (back (agreeing_alike (record { pre = a; post = b }) (record { pre = p; post = q }) h)))))

module _ (columns : List ℕ) (from to from2 to2 : ℕ) where
  -- one lane more
  pub lanes_more : (m : ℕ) (all : Bool) → all ≡ lanes_agree columns from to from2 to2 m
      → (all && ((eqb (entry columns (from + m)) (entry columns (from2 + m)) && eqb (entry columns (to + m)) (entry columns (to2 + m))) || (eqb (entry columns (from + m)) (entry columns (to + m)) && eqb (entry columns (from2 + m)) (entry columns (to2 + m)))))
      ≡ lanes_agree columns from to from2 to2 (m + 1)
  unfolding lanes_agree lane_at
  lanes_more m all q = rw (add-one m, q, lane_test (entry columns (from + m)) (entry columns (to + m)) (entry columns (from2 + m)) (entry columns (to2 + m)))

  -- alike in all, alike in one
  pub lane_of : (n m : ℕ) → m < n → T (lanes_agree columns from to from2 to2 n) → T (agreeing (lane_at columns from to m) (lane_at columns from2 to2 m))
  unfolding lanes_agree
  lane_of zero m l t = absurd (omega arith)
  lane_of (suc n) m l t =
      go (below_suc m n l) (λ h. lane_of n m h (and_l (lanes_agree columns from to from2 to2 n) (agreeing (lane_at columns from to n) (lane_at columns from2 to2 n)) t))
    where
      go : (m < n) ⊎ (m ≡ n) → (m < n → T (agreeing (lane_at columns from to m) (lane_at columns from2 to2 m))) → T (agreeing (lane_at columns from to m) (lane_at columns from2 to2 m))
      go (inl h) f = f h
      go (inr h) f = rw h (and_r (lanes_agree columns from to from2 to2 n) (agreeing (lane_at columns from to n) (lane_at columns from2 to2 n)) t)

-- a transition leads like itself
pub lanes_self : (columns : List ℕ) (from to n : ℕ) → T (lanes_agree columns from to from to n)
unfolding lanes_agree
lanes_self columns from to zero = tt
lanes_self columns from to (suc n) =
    and_i (lanes_agree columns from to from to n) (agreeing (lane_at columns from to n) (lane_at columns from to n)) (lanes_self columns from to n)
    (alike_agreeing (lane_at columns from to n) (lane_at columns from to n) (inr (refl, refl)))

-- The chains of transitions, made from the last transition to the first.
use Prim.Native.Nat.{ℕ, suc, ◌-◌, ◌<◌, ◌≤◌}
use native.Mathlib.Decide.{ℕ_discrete}
use native.Mathlib.Omega.{arith}
use borrow.Author.Tests.{eq-eqb, ne_eqb}
use mathlib.Core.Path.{◌≡◌, ap, sym, ◌∙◌}
use mathlib.Core.List.{List}
use lib.ListN.{length, set, replicate, length-set, length-replicate, get_or-replicate}
use lib.Seq.{get_or-set_same, get_or-set_other}
use Rattle.rows.specs.Told.{entry}
use Rattle.regions.specs.Indexed.{next_in, next_of}

module _ (event : List ℕ) (n e k : ℕ) where
  next_end : n ≤ k → next_of event n e k ≡ k
  unfolding next_in
  next_end h = let z : n - k ≡ 0 = omega arith in rw z

  next_here : k < n → entry event k ≡ e → next_of event n e k ≡ k
  unfolding next_in
  next_here h q = let z : n - k ≡ suc (n - suc k) = omega arith in rw (z, eq-eqb (entry event k) e q)

  next_past : k < n → ¬ (entry event k ≡ e) → next_of event n e k ≡ next_of event n e (suc k)
  unfolding next_in
  next_past h q = let z : n - k ≡ suc (n - suc k) = omega arith in rw (z, ne_eqb (entry event k) e q)

-- the rows tell of the transitions from k on
pub record Indexing (event : List ℕ) (n k : ℕ) (first next : List ℕ) : Type 0 where
  pub most : k ≤ n
  pub first_size : length first ≡ 64
  pub room : n ≤ length next
  pub starts : (e : ℕ) → e < 64 → entry first e ≡ next_of event n e k
  pub follows : (j : ℕ) → k ≤ j → j < n → entry next j ≡ next_of event n (entry event j) (suc j)

pub index_none : (event : List ℕ) (n : ℕ) (first next : List ℕ) → first ≡ replicate 64 n → n ≤ length next → Indexing event n n first next
index_none event n first next p q =
    record {
      most = omega arith;
      first_size = ap length p ∙ length-replicate 64 n;
      room = q;
      starts = λ e h. ap (λ (l : List ℕ). entry l e) p ∙ get_or-replicate 64 e n 0 h ∙ sym (next_end event n e n (omega arith));
      follows = λ j h b. absurd (omega arith);
    }

-- one transition more
pub index_more :
    {event first next : List ℕ} {n k j e r : ℕ} → Indexing event n k first next → suc j ≡ k → e ≡ entry event j → e < 64 → r ≡ j
    → Indexing event n j (set first e r) (set next j (entry first e))
index_more {event} {first} {next} {n} {k} {j} {e} {r} i q at low here =
    record {
      most = omega (arith, i.most);
      first_size = length-set first e r ∙ i.first_size;
      room = omega (arith, length-set next j (entry first e), i.room);
      starts = λ d h. start d h (ℕ_discrete d e);
      follows = λ l h b. follow l h b (ℕ_discrete l j);
    }
  where
    start : (d : ℕ) → d < 64 → Dec (d ≡ e) → entry (set first e r) d ≡ next_of event n d j
    start d h (yes s) =
        rw (s, get_or-set_same first e r 0 (omega (arith, i.first_size))) (here ∙ sym (next_here event n e j (omega (arith, i.most)) (sym at)))
    start d h (no s) =
        get_or-set_other first e d r 0 s
        ∙ i.starts d h
        ∙ rw (← q) (sym (next_past event n d j (omega (arith, i.most)) (λ w. s (sym w ∙ sym at))))

    follow : (l : ℕ) → j ≤ l → l < n → Dec (l ≡ j) → entry (set next j (entry first e)) l ≡ next_of event n (entry event l) (suc l)
    follow l h b (yes s) =
        rw (s, get_or-set_same next j (entry first e) 0 (omega (arith, i.room, i.most)), ← at, q) (i.starts e low)
    follow l h b (no s) = get_or-set_other next j l (entry first e) 0 s ∙ i.follows l (omega arith) b

-- Rows of sets that loops fill: the first numbers, the merged places as sets, and the common states on one machine more.
use Prim.Native.Nat.{ℕ, ◌+◌, ◌*◌, ◌<◌, ◌≤◌}
use native.Mathlib.Omega.{arith}
use mathlib.Core.Path.{◌≡◌, sym, ◌∙◌}
use mathlib.Core.Logic.{◌⊎◌, inl, inr}
use mathlib.Core.Bool.{not, ◌&&◌, ◌||◌, and-true}
use mathlib.Core.List.{List}
use borrow.Author.Tests.{lt-ltb, le-ltb, eq-eqb}
use lib.Dec.{T, eqb, eqb→eq, ltb}
use lib.ListN.{length, replicate, length-replicate}
use Rattle.model.proofs.Laws.{below_suc, and_l, and_r, or_l, or_r, or_e}
use Rattle.state_set.specs.declared.StateSet.{StateSet}
use Rattle.state_set.specs.Member.{member}
use Rattle.state_set.specs.Rows.{set_at, member_at, Stored, Joined}
use Rattle.state_set.proofs.Sets.{four, empty_member}
use Rattle.state_set.proofs.Rows.{stored_here, stored_else, empty_row}
use Rattle.rows.specs.Told.{entry}
use Rattle.closure.specs.Covers.{on_machine}
use Rattle.merging.specs.Numbers.{Filled, United}

-- ---- the first numbers
-- so far those below x
pub record FirstNumbers (n : ℕ) (set : StateSet) (x : ℕ) : Type 0 where
  pub most : x ≤ n
  pub members : (i : ℕ) → member set i ≡ ltb i x

pub first_start : {n : ℕ} → FirstNumbers n (four 0 0 0 0) 0
first_start = record { most = omega arith; members = λ i. empty_member i ∙ sym (le-ltb i 0 (omega arith)) }

-- ---- the same set for each event
pub record FilledSoFar (n events : ℕ) (row : List ℕ) (e : ℕ) : Type 0 where
  pub most : e ≤ events
  pub filled : Filled n e row

pub fill_more :
    {n events e : ℕ} {row row2 : List ℕ} (a : StateSet) → FilledSoFar n events row e → e < events → ((i : ℕ) → member a i ≡ ltb i n) → Stored e a row row2
    → FilledSoFar n events row2 (e + 1)
fill_more {n} {e = e} {row} {row2} a f l m s =
    record { most = omega arith; filled = record { size = s.size ∙ f.filled.size; all = λ j i h. at j i (below_suc j e (omega arith)) } }
  where
    at : (j i : ℕ) → (j < e) ⊎ (j ≡ e) → member_at row2 j i ≡ ltb i n
    at j i (inl h) = stored_else s j i (λ p. omega arith) ∙ f.filled.all j i h
    at j i (inr h) = stored_here s j i h ∙ m i

-- ---- the merged places as sets
pub record Uniting (sets : List ℕ) (m size : ℕ) (number unions : List ℕ) (q : ℕ) : Type 0 where
  pub most : q ≤ size
  pub united : United sets m q number unions

-- place q has number c and state i
abbrev Holds : List ℕ → ℕ → ℕ → List ℕ → ℕ → ℕ → Type 0
Holds sets m size number c i = (q : ℕ) × (q < size) × (entry number q ≡ c) × T (member_at sets (m * 64 + q) i)

-- a row of empty sets has the states of no place
pub no_unions : (n : ℕ) → n ≡ 256 → (sets : List ℕ) (m : ℕ) (number : List ℕ) → United sets m 0 number (replicate n 0)
no_unions n e sets m number =
    record { words = length-replicate {A = ℕ} n 0 ∙ e; members = λ c i. (λ t. absurd (rw (empty_row n c i) at t), λ h. absurd (omega (arith, h.1))) }

module _ {sets : List ℕ} {m size : ℕ} {number : List ℕ} where
  pub unite_more :
      {unions unions2 : List ℕ} {q k : ℕ} (a : StateSet) → Uniting sets m size number unions q → q < size → k ≡ entry number q → a ≡ set_at sets (m * 64 + q)
      → Joined k a unions unions2 → Uniting sets m size number unions2 (q + 1)
  unfolding member_at
  unite_more {unions} {unions2} {q} {k} a u l v w s =
      record { most = omega arith; united = record { words = s.size ∙ u.united.words; members = λ c i. (into c i, from c i) } }
    where
      into : (c i : ℕ) → T (member_at unions2 c i) → Holds sets m (q + 1) number c i
      into c i t = go (or_e (member_at unions c i) (eqb c k && member a i) (rw (s.members c i) at t))
        where
          go : T (member_at unions c i) ⊎ T (eqb c k && member a i) → Holds sets m (q + 1) number c i
          go (inl x) = let h = (u.united.members c i).0 x in (h.0, omega (arith, h.1), h.2, h.3)
          go (inr x) =
              let e : c ≡ k = eqb→eq c k (and_l (eqb c k) (member a i) x) in
              (q, omega arith, sym v ∙ sym e, rw w at (and_r (eqb c k) (member a i) x))

      from : (c i : ℕ) → Holds sets m (q + 1) number c i → T (member_at unions2 c i)
      from c i h = rw (s.members c i) (go (below_suc h.0 q (omega (arith, h.1))))
        where
          go : (h.0 < q) ⊎ (h.0 ≡ q) → T (member_at unions c i || (eqb c k && member a i))
          go (inl b) = or_l (member_at unions c i) (eqb c k && member a i) ((u.united.members c i).1 (h.0, b, h.2, h.3))
          go (inr b) =
              let e : c ≡ k = sym h.2 ∙ rw (v, b) in
              or_r (member_at unions c i) (eqb c k && member a i) (rw (eq-eqb c k e, w, sym b) h.3)

-- ---- the common states, event by event
-- done for the first e events, and the sets of the others are as they were
pub record Narrowing (unions pre : List ℕ) (m events : ℕ) (old new : List ℕ) (e : ℕ) : Type 0 where
  pub most : e ≤ events
  pub size : length new ≡ 256
  pub done : (j i : ℕ) → j < e → member_at new j i ≡ (member_at old j i && (not (on_machine pre j m) || member_at unions (entry pre (j * 16 + m)) i))
  pub rest : (j i : ℕ) → e ≤ j → member_at new j i ≡ member_at old j i

module _ {unions pre : List ℕ} {m events : ℕ} {old : List ℕ} where
  -- the event is not on the machine
  pub narrow_skip :
      {row next : List ℕ} {e q : ℕ} → Narrowing unions pre m events old row e → e < events → q ≡ entry pre (e * 16 + m) → 64 ≤ q → next ≡ row
      → Narrowing unions pre m events old next (e + 1)
  unfolding on_machine
  narrow_skip {row} {next} {e} {q} x l v h w =
      rw w (record { most = omega arith; size = x.size; done = λ j i b. at j i (below_suc j e (omega arith)); rest = λ j i b. x.rest j i (omega arith) })
    where
      at : (j i : ℕ) → (j < e) ⊎ (j ≡ e)
          → member_at row j i ≡ (member_at old j i && (not (ltb (entry pre (j * 16 + m)) 64) || member_at unions (entry pre (j * 16 + m)) i))
      at j i (inl b) = x.done j i b
      at j i (inr b) =
          x.rest j i (omega arith)
          ∙ rw (b, le-ltb (entry pre (e * 16 + m)) 64 (omega arith)) (sym (and-true (member_at old e i)))

  -- a is the set of the event, b that of its pre-place, and both is what they have in common
  pub narrow_more :
      {row new next : List ℕ} {e q : ℕ} (a b both : StateSet) → Narrowing unions pre m events old row e → e < events → q ≡ entry pre (e * 16 + m) → q < 64
      → a ≡ set_at row e → b ≡ set_at unions q → ((i : ℕ) → member both i ≡ (member a i && member b i)) → Stored e both row new → next ≡ new
      → Narrowing unions pre m events old next (e + 1)
  unfolding on_machine member_at
  narrow_more {row} {new} {next} {e} {q} a b both x l v h p r y s w =
      rw w (record {
        most = omega arith;
        size = s.size ∙ x.size;
        done = λ j i c. at j i (below_suc j e (omega arith));
        rest = λ j i c. stored_else s j i (λ z. omega arith) ∙ x.rest j i (omega arith);
      })
    where
      at : (j i : ℕ) → (j < e) ⊎ (j ≡ e)
          → member_at new j i ≡ (member_at old j i && (not (ltb (entry pre (j * 16 + m)) 64) || member_at unions (entry pre (j * 16 + m)) i))
      at j i (inl c) = stored_else s j i (λ z. omega arith) ∙ x.done j i c
      at j i (inr c) =
          stored_here s j i c ∙ y i
          ∙ rw (c, lt-ltb (entry pre (e * 16 + m)) 64 (omega arith), p, r, v, sym (x.rest e i (omega arith)))

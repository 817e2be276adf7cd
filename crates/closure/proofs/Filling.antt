-- The places of all machines as sets, filled state by state, and each state machine by machine.
use Prim.Native.Nat.{ℕ, suc, ◌+◌, ◌*◌, ◌<◌, ◌≤◌}
use native.Mathlib.Numerals.{add-one}
use native.Mathlib.Decide.{ℕ_discrete}
use native.Mathlib.Omega.{arith}
use mathlib.Core.Path.{◌≡◌, refl, sym, ◌∙◌, subst}
use mathlib.Core.Logic.{◌⊎◌, inl, inr}
use mathlib.Core.Bool.{Bool, false, ◌&&◌, ◌||◌, and-true, and-false, or-false}
use mathlib.Core.List.{List}
use borrow.Author.Tests.{lt-ltb, le-ltb, eq-eqb, ne_eqb}
use lib.Dec.{eqb, ltb}
use lib.ListN.{length, replicate, length-replicate}
use Rattle.model.proofs.Laws.{below_suc, order}
use Rattle.state_set.specs.declared.StateSet.{StateSet}
use Rattle.state_set.specs.Member.{member}
use Rattle.state_set.specs.Rows.{member_at, Inserted, Joined}
use Rattle.state_set.proofs.Rows.{empty_row}
use Rattle.rows.specs.Told.{entry}
use Rattle.closure.specs.Covers.{PlaceSets}

-- machine m has state i, of the first x, in place q
abbrev holds : List ℕ → ℕ → ℕ → ℕ → ℕ → Bool
holds place m x q i = ltb i x && eqb (entry place (m * 256 + i)) q

-- the sets of the machines before m have state x already, the others only those before x
pub record Filling (place : List ℕ) (words machines x : ℕ) (sets : List ℕ) (m : ℕ) : Type 0 where
  pub most : m ≤ machines
  pub size : length sets ≡ words
  pub done : (k q i : ℕ) → k < m → q < 64 → member_at sets (k * 64 + q) i ≡ holds place k (x + 1) q i
  pub left : (k q i : ℕ) → m ≤ k → k < machines → q < 64 → member_at sets (k * 64 + q) i ≡ holds place k x q i
  pub others : (j i : ℕ) → machines * 64 ≤ j → member_at sets j i ≡ false

-- a single state is joined to a set
pub single_joined : {k x : ℕ} {a : StateSet} {old new : List ℕ} → Joined k a old new → ((i : ℕ) → member a i ≡ eqb i x) → Inserted k x old new
single_joined {k} {x} {a} {old} {new} s q = record { size = s.size; members = λ j i. rw (← q i) (s.members j i) }

-- one state more
one_more_lem : (f : ℕ → Bool) (x i : ℕ) → (ltb i (x + 1) && f i) ≡ ((ltb i x && f i) || (f x && eqb i x))
one_more_lem f x i = go (ℕ_discrete i x)
  where
    go : Dec (i ≡ x) → (ltb i (x + 1) && f i) ≡ ((ltb i x && f i) || (f x && eqb i x))
    go (yes e) = rw (e, lt-ltb x (x + 1) (omega arith), le-ltb x x (omega arith), eq-eqb x x refl, and-true (f x))
    go (no n) = rw (ne_eqb i x n, and-false (f x), or-false (ltb i x && f i), same (order i x))
      where
        same : (i < x) ⊎ (x ≤ i) → ltb i (x + 1) ≡ ltb i x
        same (inl l) = lt-ltb i (x + 1) (omega arith) ∙ sym (lt-ltb i x l)
        same (inr l) = le-ltb i (x + 1) (omega arith) ∙ sym (le-ltb i x l)

module _ {place : List ℕ} {words machines x : ℕ} where
  pub fill_start : {sets : List ℕ} → PlaceSets place x words machines sets → Filling place words machines x sets 0
  fill_start p = record { most = omega arith; size = p.size; done = λ k q i l. absurd (omega arith); left = λ k q i _. p.members k q i; others = p.others }

  -- machine m has the state in no place
  pub fill_skip :
      {sets next : List ℕ} {m q : ℕ} → Filling place words machines x sets m → m < machines → q ≡ entry place (m * 256 + x) → 64 ≤ q → next ≡ sets
      → Filling place words machines x next (m + 1)
  fill_skip {sets} {next} {m} {q} f l v h e = rw e skipped
    where
      here : (r i : ℕ) → r < 64 → member_at sets (m * 64 + r) i ≡ holds place m (x + 1) r i
      here r i b =
          f.left m r i (omega arith) l b
          ∙ sym (one_more_lem (λ j. eqb (entry place (m * 256 + j)) r) x i
          ∙ rw (ne_eqb (entry place (m * 256 + x)) r (λ e. omega arith)) (or-false (holds place m x r i)))

      skipped : Filling place words machines x sets (m + 1)
      skipped =
          record {
            most = omega arith;
            size = f.size;
            done = λ k r i a b. at k r i b (below_suc k m (omega arith));
            left = λ k r i a. f.left k r i (omega arith);
            others = f.others;
          }
        where
          at : (k r i : ℕ) → r < 64 → (k < m) ⊎ (k ≡ m) → member_at sets (k * 64 + r) i ≡ holds place k (x + 1) r i
          at k r i b (inl a) = f.done k r i a b
          at k r i b (inr a) = rw a (here r i b)

  -- or in place q, whose set it joins
  pub fill_more :
      {sets new next : List ℕ} {m q s : ℕ} → Filling place words machines x sets m → m < machines → q ≡ entry place (m * 256 + x) → q < 64 → s ≡ x
      → Inserted (m * 64 + q) s sets new → next ≡ new → Filling place words machines x next (m + 1)
  fill_more {sets} {new} {next} {m} {q} {s} f l v h w p u = rw u filled
    where
      kept : (j i : ℕ) → ¬ (j ≡ m * 64 + q) → member_at new j i ≡ member_at sets j i
      kept j i o = p.members j i ∙ rw (ne_eqb j (m * 64 + q) o) (or-false (member_at sets j i))

      same : (r : ℕ) → eqb (m * 64 + r) (m * 64 + q) ≡ eqb q r
      same r = go (ℕ_discrete q r)
        where
          go : Dec (q ≡ r) → eqb (m * 64 + r) (m * 64 + q) ≡ eqb q r
          go (yes e) = eq-eqb (m * 64 + r) (m * 64 + q) (omega arith) ∙ sym (eq-eqb q r e)
          go (no o) = ne_eqb (m * 64 + r) (m * 64 + q) (λ e. o (omega arith)) ∙ sym (ne_eqb q r o)

      here : (r i : ℕ) → r < 64 → member_at new (m * 64 + r) i ≡ holds place m (x + 1) r i
      here r i b = p.members (m * 64 + r) i ∙ rw (f.left m r i (omega arith) l b, w, one_more_lem (λ j. eqb (entry place (m * 256 + j)) r) x i, sym v, same r)

      at : (k r i : ℕ) → r < 64 → (k < m) ⊎ (k ≡ m) → member_at new (k * 64 + r) i ≡ holds place k (x + 1) r i
      at k r i b (inl a) = kept (k * 64 + r) i (λ e. omega arith) ∙ f.done k r i a b
      at k r i b (inr a) = rw a (here r i b)

      filled : Filling place words machines x new (m + 1)
      filled =
          record {
            most = omega arith;
            size = p.size ∙ f.size;
            done = λ k r i a b. at k r i b (below_suc k m (omega arith));
            left = λ k r i a c b. kept (k * 64 + r) i (λ e. omega arith) ∙ f.left k r i (omega arith) c b;
            others = λ j i a. kept j i (λ e. omega arith) ∙ f.others j i a;
          }

  pub fill_end : {sets : List ℕ} {m : ℕ} → Filling place words machines x sets m → machines ≤ m → PlaceSets place (suc x) words machines sets
  fill_end {sets} {m} f l = rw (← add-one x) (record { size = f.size; members = λ k q i b h. f.done k q i (omega arith) h; others = f.others })

-- ---- state by state
-- the places of the first x states, which are at most all
pub record Made (place : List ℕ) (n words machines : ℕ) (sets : List ℕ) (x : ℕ) : Type 0 where
  pub most : x ≤ n
  pub made : PlaceSets place x words machines sets

module _ {place : List ℕ} {n words machines : ℕ} where
  pub made_start : {sets : List ℕ} → PlaceSets place n words 0 sets → Made place n words machines sets 0
  made_start p =
      record {
        most = omega arith;
        made =
            record {
              size = p.size;
              members = λ k q i a b. p.others (k * 64 + q) i (omega arith) ∙ rw (le-ltb i 0 (omega arith));
              others = λ j i l. p.others j i (omega arith);
            };
      }

  pub made_more : {sets next : List ℕ} {x : ℕ} → Made place n words machines sets x → x < n → PlaceSets place (suc x) (length sets) machines next
      → Made place n words machines next (x + 1)
  made_more {x = x} d l p = record { most = omega arith; made = rw (add-one x, sym d.made.size) p }

  pub made_end : {sets : List ℕ} {x : ℕ} → Made place n words machines sets x → n ≤ x → PlaceSets place n words machines sets
  made_end {sets} {x} d l = let q : x ≡ n = omega arith in subst (λ (k : ℕ). PlaceSets place k words machines sets) q d.made

-- no machine yet
pub no_machines_lem : (place : List ℕ) (n words : ℕ) → PlaceSets place n words 0 (replicate words 0)
no_machines_lem place n words =
    record { size = length-replicate {A = ℕ} words 0; members = λ k q i l h. absurd (omega arith); others = λ j i l. empty_row words j i }

-- Rows of sets: what is stored where, and what a row of empty and one of full sets has.
use mathlib.Core.Path.{◌≡◌, refl, ap, sym, ◌∙◌}
use mathlib.Core.Bool.{Bool, false, cond, ◌&&◌, ◌||◌, and-false, or-false}
use mathlib.Core.List.{List}
use Prim.Native.Nat.{ℕ, zero, suc, ◌+◌, ◌*◌, ◌/◌, ◌%◌, ◌<◌, ◌≤◌}
use native.Mathlib.Decide.{ℕ_discrete, dec_lt}
use native.Mathlib.Omega.{arith}
use borrow.Author.Tests.{eq-eqb, ne_eqb}
use lib.Bits.{bit_or}
use lib.Dec.{eqb, ltb}
use lib.ListN.{length, get_or, set, replicate, length-set, get_or-replicate}
use lib.Seq.{get_or-set_same, get_or-set_other}
use Rattle.state_set.specs.Member.{bit, member, word_at}
use Rattle.state_set.specs.Rows.{set_at, member_at, Stored, Inserted, WordJoined, Joined}
use Rattle.state_set.specs.declared.StateSet.{StateSet}
use Rattle.state_set.proofs.Digits.{zero_bit, or_bit}
use Rattle.state_set.proofs.Sets.{no_member, empty_member, full_word, full_member, shifted, shifted_bit}

-- ---- a set is stored, word by word
abbrev one : List ℕ → ℕ → StateSet → List ℕ
one row k a = set row (k * 4) a.w0

abbrev two : List ℕ → ℕ → StateSet → List ℕ
two row k a = set (one row k a) (k * 4 + 1) a.w1

abbrev three : List ℕ → ℕ → StateSet → List ℕ
three row k a = set (two row k a) (k * 4 + 2) a.w2

abbrev all : List ℕ → ℕ → StateSet → List ℕ
all row k a = set (three row k a) (k * 4 + 3) a.w3

module _ (row : List ℕ) (k : ℕ) (a : StateSet) where
  -- a word of another set
  kept : (p : ℕ) → (p / 4 ≡ k → ⊥) → get_or (all row k a) p 0 ≡ get_or row p 0
  kept p n =
      let n0 : p ≡ k * 4 → ⊥ = λ e. n (omega arith) in
      let n1 : p ≡ k * 4 + 1 → ⊥ = λ e. n (omega arith) in
      let n2 : p ≡ k * 4 + 2 → ⊥ = λ e. n (omega arith) in
      let n3 : p ≡ k * 4 + 3 → ⊥ = λ e. n (omega arith) in
      simp get_or-set_other

  other_set : (j : ℕ) → (j ≡ k → ⊥) → set_at (all row k a) j ≡ set_at row j
  unfolding set_at
  other_set j n =
      rw (
        kept (j * 4) (λ e. n (omega arith)),
        kept (j * 4 + 1) (λ e. n (omega arith)),
        kept (j * 4 + 2) (λ e. n (omega arith)),
        kept (j * 4 + 3) (λ e. n (omega arith)),
      )

  this_set : k * 4 + 3 < length row → set_at (all row k a) k ≡ a
  unfolding set_at
  this_set h =
      let n01 : k * 4 ≡ k * 4 + 1 → ⊥ = λ e. omega arith in
      let n02 : k * 4 ≡ k * 4 + 2 → ⊥ = λ e. omega arith in
      let n03 : k * 4 ≡ k * 4 + 3 → ⊥ = λ e. omega arith in
      let n12 : k * 4 + 1 ≡ k * 4 + 2 → ⊥ = λ e. omega arith in
      let n13 : k * 4 + 1 ≡ k * 4 + 3 → ⊥ = λ e. omega arith in
      let n23 : k * 4 + 2 ≡ k * 4 + 3 → ⊥ = λ e. omega arith in
      let l0 : k * 4 < length row = omega arith in
      let l1 : k * 4 + 1 < length (one row k a) = simp length-set (omega arith) in
      let l2 : k * 4 + 2 < length (two row k a) = simp length-set (omega arith) in
      let l3 : k * 4 + 3 < length (three row k a) = simp length-set (omega arith) in
      simp (get_or-set_other, get_or-set_same)

  pub stored : k * 4 + 3 < length row → Stored k a row (all row k a)
  stored h = record { size = simp length-set; sets = λ j. go j (ℕ_discrete j k) }
    where
      go : (j : ℕ) → Dec (j ≡ k) → set_at (all row k a) j ≡ cond (eqb j k) a (set_at row j)
      go j (yes e) = rw (eq-eqb j k e, e) (this_set h)
      go j (no n) = rw (ne_eqb j k n) (other_set j n)

-- ---- the members of the sets, once one is stored
module _ {k : ℕ} {a : StateSet} {old new : List ℕ} (s : Stored k a old new) where
  members : (j i : ℕ) {t : Bool} → eqb j k ≡ t → member_at new j i ≡ member (cond t a (set_at old j)) i
  unfolding member_at
  members j i q = ap (λ (x : StateSet). member x i) (s.sets j ∙ ap (λ (t : Bool). cond t a (set_at old j)) q)

  pub stored_here : (j i : ℕ) → j ≡ k → member_at new j i ≡ member a i
  stored_here j i e = members j i (eq-eqb j k e)

  pub stored_else : (j i : ℕ) → ¬ (j ≡ k) → member_at new j i ≡ member_at old j i
  unfolding member_at
  stored_else j i n = members j i (ne_eqb j k n)

-- ---- a state of a set is a digit of one word
-- the word of set k that a state stands in
abbrev place : ℕ → ℕ → ℕ
place k x = k * 4 + x / 64

word_at_lem : (row : List ℕ) (k q : ℕ) → q < 4 → word_at (set_at row k) q ≡ get_or row (k * 4 + q) 0
unfolding word_at set_at
word_at_lem row k zero l = let e : k * 4 + 0 ≡ k * 4 = omega arith in rw e
word_at_lem row k (suc zero) l = refl
word_at_lem row k (suc (suc zero)) l = refl
word_at_lem row k (suc (suc (suc zero))) l = refl
word_at_lem row k (suc (suc (suc (suc q)))) l = absurd (omega arith)

pub digit_at : (row : List ℕ) (k x : ℕ) → x < 256 → member_at row k x ≡ bit (get_or row (place k x) 0) (x % 64)
unfolding member_at member
digit_at row k x l = ap (λ (w : ℕ). bit w (x % 64)) (word_at_lem row k (x / 64) (omega arith))

no_digit : (row : List ℕ) (k x : ℕ) → 256 ≤ x → member_at row k x ≡ false
unfolding member_at
no_digit row k x l = no_member (set_at row k) x l

-- ---- a state is added
module _ (old : List ℕ) (k x : ℕ) (low : x < 256) (h : k * 4 + 3 < length old) where
  -- the row with the state in
  abbrev added : List ℕ
  added = set old (place k x) (bit_or (get_or old (place k x) 0) (shifted x))

  -- the word that changes, and the others
  same_word_lem : (j i : ℕ) → i < 256 → place j i ≡ place k x → member_at added j i ≡ (member_at old j i || (eqb j k && eqb i x))
  same_word_lem j i l p =
      let inside : place k x < length old = omega arith in
      let e : j ≡ k = omega arith in
      rw (digit_at added j i l, digit_at old j i l, p, get_or-set_same old (place k x) _ 0 inside, or_bit, shifted_bit x i (omega arith), eq-eqb j k e)

  other_word : (j i : ℕ) → i < 256 → (place j i ≡ place k x → ⊥) → member_at added j i ≡ (member_at old j i || (eqb j k && eqb i x))
  other_word j i l n =
      rw (digit_at added j i l, digit_at old j i l, get_or-set_other old (place k x) (place j i) _ 0 n, neither (ℕ_discrete j k))
      (sym (or-false (bit (get_or old (place j i) 0) (i % 64))))
    where
      neither : Dec (j ≡ k) → (eqb j k && eqb i x) ≡ false
      neither (yes e) = rw (ne_eqb i x (λ d. n (omega arith))) (and-false (eqb j k))
      neither (no d) = rw (ne_eqb j k d)

  pub inserted : Inserted k x old added
  inserted = record { size = simp length-set; members = λ j i. at j i (dec_lt i 256) (ℕ_discrete (place j i) (place k x)) }
    where
      at : (j i : ℕ) → Dec (i < 256) → Dec (place j i ≡ place k x) → member_at added j i ≡ (member_at old j i || (eqb j k && eqb i x))
      at j i (yes l) (yes p) = same_word_lem j i l p
      at j i (yes l) (no n) = other_word j i l n
      at j i (no m) d =
          rw (no_digit added j i (omega arith), no_digit old j i (omega arith), ne_eqb i x (λ e. m (omega arith))) (sym (and-false (eqb j k)))

-- ---- a set is joined to another, word by word
pub word_joined : (old : List ℕ) (at word : ℕ) → at < length old → WordJoined at word old (set old at (bit_or (get_or old at 0) word))
word_joined old at word l = record { size = length-set old at _; digits = λ p i. go p i (ℕ_discrete p at) }
  where
    go : (p i : ℕ) → Dec (p ≡ at) → bit (get_or (set old at (bit_or (get_or old at 0) word)) p 0) i ≡ (bit (get_or old p 0) i || (eqb p at && bit word i))
    go p i (yes e) = rw (e, get_or-set_same old at (bit_or (get_or old at 0) word) 0 l, eq-eqb at at refl) (or_bit (get_or old at 0) word i)
    go p i (no n) = rw (get_or-set_other old at p (bit_or (get_or old at 0) word) 0 n, ne_eqb p at n) (sym (or-false (bit (get_or old p 0) i)))

pub word_empty : (old : List ℕ) (at word : ℕ) → word ≡ 0 → WordJoined at word old old
word_empty old at word q =
    record { size = refl; digits = λ p i. rw (q, zero_bit i, and-false (eqb p at)) (sym (or-false (bit (get_or old p 0) i))) }

module _ {at word : ℕ} {old new : List ℕ} (s : WordJoined at word old new) (p i : ℕ) where
  joined_there : p ≡ at → bit (get_or new p 0) i ≡ (bit (get_or old p 0) i || bit word i)
  joined_there e = s.digits p i ∙ rw (eq-eqb p at e)

  joined_else : ¬ (p ≡ at) → bit (get_or new p 0) i ≡ bit (get_or old p 0) i
  joined_else n = s.digits p i ∙ rw (ne_eqb p at n) (or-false (bit (get_or old p 0) i))

module _ {k : ℕ} {a : StateSet} {old r1 r2 r3 new : List ℕ} (s0 : WordJoined (k * 4) a.w0 old r1) (s1 : WordJoined (k * 4 + 1) a.w1 r1 r2) (s2 : WordJoined (k * 4 + 2) a.w2 r2 r3) (s3 : WordJoined (k * 4 + 3) a.w3 r3 new) where
  joined_word : (j q d : ℕ) → q < 4 → Dec (j ≡ k) → bit (get_or new (j * 4 + q) 0) d ≡ (bit (get_or old (j * 4 + q) 0) d || (eqb j k && bit (word_at a q) d))
  unfolding word_at
  joined_word j q d l (no n) =
      joined_else s3 (j * 4 + q) d (λ e. n (omega arith))
      ∙ joined_else s2 (j * 4 + q) d (λ e. n (omega arith))
      ∙ joined_else s1 (j * 4 + q) d (λ e. n (omega arith))
      ∙ joined_else s0 (j * 4 + q) d (λ e. n (omega arith))
      ∙ rw (ne_eqb j k n) (sym (or-false (bit (get_or old (j * 4 + q) 0) d)))
  joined_word j q d l (yes e) = rw (eq-eqb j k e) (here q l)
    where
      here : (q : ℕ) → q < 4 → bit (get_or new (j * 4 + q) 0) d ≡ (bit (get_or old (j * 4 + q) 0) d || bit (word_at a q) d)
      here zero l =
          joined_else s3 (j * 4 + 0) d (λ z. omega arith) ∙ joined_else s2 (j * 4 + 0) d (λ z. omega arith)
          ∙ joined_else s1 (j * 4 + 0) d (λ z. omega arith) ∙ joined_there s0 (j * 4 + 0) d (omega arith)
      here (suc zero) l =
          joined_else s3 (j * 4 + 1) d (λ z. omega arith) ∙ joined_else s2 (j * 4 + 1) d (λ z. omega arith)
          ∙ joined_there s1 (j * 4 + 1) d (omega arith) ∙ rw (joined_else s0 (j * 4 + 1) d (λ z. omega arith))
      here (suc (suc zero)) l =
          joined_else s3 (j * 4 + 2) d (λ z. omega arith) ∙ joined_there s2 (j * 4 + 2) d (omega arith)
          ∙ rw (joined_else s1 (j * 4 + 2) d (λ z. omega arith), joined_else s0 (j * 4 + 2) d (λ z. omega arith))
      here (suc (suc (suc zero))) l =
          joined_there s3 (j * 4 + 3) d (omega arith)
          ∙ rw (joined_else s2 (j * 4 + 3) d (λ z. omega arith), joined_else s1 (j * 4 + 3) d (λ z. omega arith), joined_else s0 (j * 4 + 3) d (λ z. omega arith))
      here (suc (suc (suc (suc q)))) l = absurd (omega arith)

  pub joined : Joined k a old new
  unfolding member
  joined = record { size = s3.size ∙ s2.size ∙ s1.size ∙ s0.size; members = λ j i. at j i (dec_lt i 256) }
    where
      at : (j i : ℕ) → Dec (i < 256) → member_at new j i ≡ (member_at old j i || (eqb j k && member a i))
      at j i (yes l) = rw (digit_at new j i l, digit_at old j i l) (joined_word j (i / 64) (i % 64) (omega arith) (ℕ_discrete j k))
      at j i (no m) = rw (no_digit new j i (omega arith), no_digit old j i (omega arith), no_member a i (omega arith)) (sym (and-false (eqb j k)))

-- ---- a fresh row
zero_at : (n p : ℕ) → ◌≡◌ {A = ℕ} (get_or (replicate n 0) p 0) 0
zero_at zero p = refl
zero_at (suc n) zero = refl
zero_at (suc n) (suc p) = zero_at n p

pub empty_row : (n k i : ℕ) → member_at (replicate n 0) k i ≡ false
unfolding member_at set_at
empty_row n k i = rw (zero_at n (k * 4), zero_at n (k * 4 + 1), zero_at n (k * 4 + 2), zero_at n (k * 4 + 3)) (empty_member i)

pub full_row : (n k i : ℕ) → k * 4 + 3 < n → member_at (replicate n full_word) k i ≡ ltb i 256
unfolding member_at set_at
full_row n k i l = rw (at (k * 4) (omega arith), at (k * 4 + 1) (omega arith), at (k * 4 + 2) (omega arith), at (k * 4 + 3) l) (full_member i)
  where
    at : (p : ℕ) → p < n → get_or (replicate n full_word) p 0 ≡ full_word
    at p h = get_or-replicate n p full_word 0 h

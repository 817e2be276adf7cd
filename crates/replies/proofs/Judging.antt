-- Words judged one after another: those that are left decide.
use Prim.Native.Nat.{ℕ, zero, suc, ◌+◌, ◌-◌, ◌<◌, ◌≤◌, min}
use native.Mathlib.Omega.{arith}
use mathlib.Core.Path.{◌≡◌, refl, ap, sym, ◌∙◌}
use mathlib.Core.Logic.{◌⊎◌, inl, inr}
use mathlib.Core.Bool.{Bool, true, false, cond, and-false}
use mathlib.Core.List.{List, [], ◌∷◌, map}
use mathlib.Core.Option.{none, some, some-injective, some-ne-none}
use borrow.Author.Tests.{le-leb, lt-leb, lt-ltb, le-ltb}
use lib.Dec.{leb, ltb}
use lib.ListN.{length, take, drop, drop_of_length-le}
use Rattle.model.specs.declared.Refusal.{Refusal}
use Rattle.model.specs.declared.Refusal.TheVariants.{Malformed, LimitExceeded, Undeclared, SelfLoop, Nondeterministic, UnusedEvent, Unreachable, DuplicateState, UncoveredState, NotARegion, IneffectiveEvent, NotExcitationClosed, BufferTooShort, UnknownEvent, BadSheet}
use Rattle.model.specs.Bytes.{decimal}
use Rattle.model.specs.Cases.{tabled}
use Rattle.model.proofs.Laws.{order}
use Rattle.command_line.specs.declared.Service.{Service}
use Rattle.command_line.specs.declared.Service.TheVariants.{Check, Steps, Name, Run, Thin, Merge, Quote, Sheet, Board, Help, Explain, Unknown}
use Rattle.std.specs.Prelude.{Some, None}
use Rattle.std.specs.Prelude as Std
use Rattle.std.specs.Bool.{then_some}
use Rattle.std.specs.List.{AllWithin, HoldsAt}
use Rattle.std.proofs.Common.{Bor, nat_eq}
use lib.Pointwise.{pointwise}
use Rattle.command_line.proofs.Spelling.{same_bytes}
use Rattle.command_line.specs.Words.{is_numeral, said, number_said}
use Rattle.command_line.specs.WordRow.{words_in, WordCut}
use Rattle.command_line.specs.Program.{service_asked, further_words}
use Rattle.replies.specs.Replies.{is_refusal, refusal_names, number_from, refusal_said, takes, least_words, wrong_from, is_unknown, wrong_word}
use Rattle.command_line.proofs.Cutting.{no_words}

-- ---- the number of a word in a table

abbrev pub read_names : List (Bor (List ℕ)) → List (List ℕ)
read_names = map (λ x. x.now)

-- what the code's test says of a name
module _ (w : List ℕ) where
  abbrev pub Is : Bool → Bor (List ℕ) → Type 0
  Is t x = pointwise nat_eq w x.now ≡ t

  -- it is the first at i
  pub found_at : (n : ℕ) (t : List (Bor (List ℕ))) (i : ℕ) → (i < length t) × HoldsAt (Is true) t i × AllWithin (Is false) t 0 i → number_from n w (read_names t) ≡ Some (i + n)
  unfolding number_from
  found_at n [] i (h, y, f) = absurd (omega arith)
  found_at n (x ∷ t) zero (h, y, f) =
      let z : 0 + n ≡ n = omega arith in
      rw (← same_bytes w x.now, y x, z)
  found_at n (x ∷ t) (suc i) (h, y, f) =
      let z : i + (n + 1) ≡ suc i + n = omega arith in
      rw (← same_bytes w x.now, f 0 x (omega arith) (omega arith), found_at (n + 1) t i (omega arith, (λ d. y d), λ k d a b. f (suc k) d (omega arith) (omega arith)), z)

  pub found_nowhere : (n : ℕ) (t : List (Bor (List ℕ))) → AllWithin (Is false) t 0 (length t) → number_from n w (read_names t) ≡ None
  unfolding number_from
  found_nowhere n [] f = refl
  found_nowhere n (x ∷ t) f = rw (← same_bytes w x.now, f 0 x (omega arith) (omega arith)) (found_nowhere (n + 1) t (λ k d a b. f (suc k) d (omega arith) (omega arith)))

-- ---- the refusal that a word says

-- every refusal of the table can be explained
pub each_explained : (r : Refusal) → is_refusal (tabled r).number ≡ true
unfolding is_refusal tabled
each_explained (Malformed l) = refl
each_explained (LimitExceeded l) = refl
each_explained (Undeclared l) = refl
each_explained (SelfLoop l) = refl
each_explained (Nondeterministic l e) = refl
each_explained (UnusedEvent e) = refl
each_explained (Unreachable q) = refl
each_explained (DuplicateState m q) = refl
each_explained (UncoveredState m q) = refl
each_explained (NotARegion m e) = refl
each_explained (IneffectiveEvent e) = refl
each_explained (NotExcitationClosed e q) = refl
each_explained (BufferTooShort n) = refl
each_explained (UnknownEvent p) = refl
each_explained (BadSheet l) = refl

-- by what the code finds: a number as far as 65535, or none
module _ (w : List ℕ) (r : Std.Option ℕ) (p : said r ≡ number_said 65535 w) where
  pub named : r ≡ None → {q : Std.Option ℕ} → q ≡ number_from 1 w refusal_names → q ≡ refusal_said w
  unfolding said number_said refusal_said
  named e {q} k = go (is_numeral w) (ap said (sym e) ∙ p)
    where
      go : (t : Bool) → none ≡ cond t (some (min (decimal w) 65535)) none → q ≡ cond t (cond (is_refusal (decimal w)) (Some (decimal w)) None) (number_from 1 w refusal_names)
      go true z = absurd (some-ne-none _ (sym z))
      go false z = k

  module _ {n : ℕ} (e : r ≡ Some n) where
    as_cond : (t : Bool) → then_some t n ≡ cond t (Some n) None
    as_cond true = refl
    as_cond false = refl

    -- no refusal is so large that its number is cut down
    uncut : (d : ℕ) → n ≡ min d 65535 → cond (is_refusal n) (Some n) None ≡ cond (is_refusal d) (Some d) None
    unfolding is_refusal
    uncut d z = go (order d 65535)
      where
        go : (d < 65535) ⊎ (65535 ≤ d) → cond (is_refusal n) (Some n) None ≡ cond (is_refusal d) (Some d) None
        go (inl l) = let y : n ≡ d = omega arith in rw y
        go (inr l) = let y : n ≡ 65535 = omega arith in rw (y, lt-leb d 15 (omega arith), and-false)

    pub numbered : then_some (is_refusal n) n ≡ refusal_said w
    unfolding said number_said refusal_said
    numbered = as_cond (is_refusal n) ∙ go (is_numeral w) (ap said (sym e) ∙ p)
      where
        go : (y : Bool) → some n ≡ cond y (some (min (decimal w) 65535)) none
            → cond (is_refusal n) (Some n) None ≡ cond y (cond (is_refusal (decimal w)) (Some (decimal w)) None) (number_from 1 w refusal_names)
        go true z = uncut (decimal w) (some-injective n (min (decimal w) 65535) z)
        go false z = absurd (some-ne-none n z)

-- ---- the words after a service

-- k words between the service and `at`, and the service takes each
pub record Right (a : Service) (s : List ℕ) (k at : ℕ) : Type 0 where
  pub few : k ≤ at
  pub within : at ≤ length s + 1
  pub left : wrong_from a k (words_in (drop at s)) ≡ wrong_from a 0 (further_words (words_in s))

module _ {s : List ℕ} {a : Service} where
  pub right_start : {at : ℕ} → at ≤ length s → words_in (drop at s) ≡ further_words (words_in s) → Right a s 0 at
  right_start h e = record { few = omega arith; within = omega arith; left = ap (wrong_from a 0) e }

  module _ {k at : ℕ} (f : Right a s k at) where
    module _ (l : at < length s) {end : ℕ} (c : WordCut s at end) {t : Bool} (p : t ≡ takes a k (take (end - at) (drop at s))) where
      by_next : cond t (wrong_from a (k + 1) (words_in (drop (end + 1) s))) (Some (k + 2)) ≡ wrong_from a 0 (further_words (words_in s))
      unfolding wrong_from
      by_next = rw p (ap (wrong_from a k) (sym (c.cut l)) ∙ f.left)

      pub wrong_here : t ≡ false → Some (k + 2) ≡ wrong_from a 0 (further_words (words_in s))
      wrong_here n = rw n at by_next

      pub right_more : t ≡ true → Right a s (k + 1) (end + 1)
      right_more n = record { few = omega (arith, f.few, c.least); within = omega (arith, c.most); left = rw n at by_next }

    at_end : length s ≤ at → cond (leb (least_words a) k) None (Some (k + 2)) ≡ wrong_from a 0 (further_words (words_in s))
    unfolding wrong_from
    at_end h = ap (wrong_from a k) (sym (no_words [] refl) ∙ ap words_in (sym (drop_of_length-le s h))) ∙ f.left

    -- the code asks whether k is less
    pub left_out : length s ≤ at → then_some (ltb k (least_words a)) (k + 2) ≡ wrong_from a 0 (further_words (words_in s))
    left_out h = by_order (least_words a) (order k (least_words a)) ∙ at_end h
      where
        by_order : (n : ℕ) → (k < n) ⊎ (n ≤ k) → then_some (ltb k n) (k + 2) ≡ cond (leb n k) None (Some (k + 2))
        by_order n (inl l) = rw (lt-ltb k n l, lt-leb n k l)
        by_order n (inr l) = rw (le-ltb k n l, le-leb n k l)

-- ---- all words

-- the last is no service
known : (a : Service) → ¬ (a ≡ Unknown) → is_unknown a ≡ false
unfolding is_unknown
known Check k = refl
known Steps k = refl
known Name k = refl
known Run k = refl
known Thin k = refl
known Merge k = refl
known Quote k = refl
known Sheet k = refl
known Board k = refl
known Help k = refl
known Explain k = refl
known Unknown k = absurd (k refl)

module _ (s : List ℕ) {a : Service} (p : a ≡ service_asked (words_in s)) where
  wrong_as : cond (is_unknown a) (Some 1) (wrong_from a 0 (further_words (words_in s))) ≡ wrong_word (words_in s)
  unfolding wrong_word
  wrong_as = rw p

  pub first_wrong : a ≡ Unknown → Some 1 ≡ wrong_word (words_in s)
  unfolding is_unknown
  first_wrong e = rw e at wrong_as

  pub wrong_behind : ¬ (a ≡ Unknown) → {r : Std.Option ℕ} → r ≡ wrong_from a 0 (further_words (words_in s)) → r ≡ wrong_word (words_in s)
  wrong_behind k {r} e = e ∙ (rw (known a k) at wrong_as)

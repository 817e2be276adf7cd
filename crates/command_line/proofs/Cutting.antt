-- Words in one row of bytes: the bytes before the next 0 are the first word, and the others stand behind it.
use Prim.Native.Nat.{ℕ, zero, suc, ◌+◌, ◌-◌, ◌<◌, ◌≤◌, min}
use native.Mathlib.Numerals.{add-one}
use native.Mathlib.Omega.{arith}
use mathlib.Core.Path.{◌≡◌, refl, ap, sym, ◌∙◌}
use mathlib.Core.Logic.{◌⊎◌, inl, inr}
use mathlib.Core.Bool.{Bool, true, false, cond}
use mathlib.Core.List.{List, [], ◌∷◌}
use mathlib.Core.Option.{none, some, some-ne-none, some-injective}
use borrow.Author.Tests.{eq-eqb, ne_eqb}
use lib.Dec.{eqb}
use lib.ListN.{length, get_or, take, drop, length-drop, drop_of_length-le}
use lib.Seq.{drop-drop, take_all}
use Rattle.std.specs.List.{AllWithin, HoldsAt}
use Rattle.model.proofs.Laws.{order}
use Rattle.command_line.specs.declared.Service.{Service}
use Rattle.command_line.specs.declared.Service.TheVariants.{Check}
use Rattle.command_line.specs.Words.{service_said, number_said, event_said}
use Rattle.command_line.specs.WordRow.{begun_by, words_in, only_word, WordCut, BeginsAt}
use Rattle.command_line.specs.Program.{service_asked, further_words, size_said, one_event_said}

-- ---- the first word

first_cut : (s : List ℕ) (n : ℕ) → n ≤ length s → ((i : ℕ) → i < n → get_or s i 0 ≡ 0 → ⊥) → (n < length s → get_or s n 0 ≡ 0) → 0 < length s
    → words_in s ≡ take n s ∷ words_in (drop (suc n) s)
unfolding words_in begun_by
first_cut [] n h f z l = absurd (omega arith)
first_cut (b ∷ s) zero h f z l = rw (eq-eqb b 0 (z (omega arith)))
first_cut (b ∷ []) (suc zero) h f z l = rw (ne_eqb b 0 (f 0 (omega arith)))
first_cut (b ∷ []) (suc (suc n)) h f z l = absurd (omega arith)
first_cut (b ∷ c ∷ s) (suc n) h f z l =
    rw
    (ne_eqb b 0 (f 0 (omega arith)))
    (ap (begun_by b) (first_cut (c ∷ s) n (omega arith) (λ i k. f (suc i) (omega arith)) (λ k. z (omega arith)) (omega arith)))

-- the bytes from `at` on as the code has them, none of the first n is 0, and the next is 0 or there is none
module _ (s : List ℕ) (at : ℕ) (h : at ≤ length s) where
  abbrev pub behind : List ℕ
  behind = take (length s - at) (drop at s)

  as_drop : behind ≡ drop at s
  as_drop = take_all (length s - at) (drop at s) (omega (arith, length-drop at s))

  cut_at : (n : ℕ) → n ≤ length behind → AllWithin (λ x. x ≡ 0 → ⊥) behind 0 n → (n < length behind → get_or behind n 0 ≡ 0) → WordCut s at (at + n)
  cut_at n m f z =
      let e : at + n - at ≡ n = omega arith in
      let k : suc (at + n) ≡ at + suc n = omega arith in
      let size = length-drop at s in
      let same = as_drop in
      record {
        least = omega arith;
        most = omega (arith, ap length same);
        cut = λ l.
            rw (e, add-one (at + n), k)
            (first_cut (drop at s) n (omega (arith, ap length same))
            (λ i b. rw same at (f i 0 (omega arith) b))
            (λ b. rw same at (z (omega (arith, ap length same))))
            (omega (arith, ap length same))
            ∙ ap (λ (x : List ℕ). take n (drop at s) ∷ words_in x) (drop-drop (suc n) at s));
      }

  pub cut_found : (n : ℕ) → (n < length behind) × HoldsAt (λ x. x ≡ 0) behind n × AllWithin (λ x. x ≡ 0 → ⊥) behind 0 n → WordCut s at (at + n)
  cut_found n p = cut_at n (omega (arith, p.0)) p.2 (λ _. p.1 0)

  pub cut_rest : AllWithin (λ x. x ≡ 0 → ⊥) behind 0 (length behind) → WordCut s at (length s)
  cut_rest f =
      let e : at + length behind ≡ length s = omega (arith, ap length as_drop, length-drop at s) in
      rw e at (cut_at (length behind) (omega arith) f (λ l. absurd (omega arith)))

-- the words from a place on
pub words_from : (row : List ℕ) (at : ℕ) {vs : List (List ℕ)} → words_in (drop at row) ≡ vs → words_in (take (length row - at) (drop at row)) ≡ vs
words_from row at e = ap words_in (take_all (length row - at) (drop at row) (omega (arith, length-drop at row))) ∙ e

-- ---- how many words

pub no_words : (s : List ℕ) → length s ≡ 0 → words_in s ≡ []
unfolding words_in
no_words [] h = refl
no_words (b ∷ s) h = absurd (omega arith)

-- some word, and others
pub data Some (ws : List (List ℕ)) : Type 0 where
  words : (w : List ℕ) (vs : List (List ℕ)) → ws ≡ w ∷ vs → Some ws

pub some_words : (s : List ℕ) → 0 < length s → Some (words_in s)
unfolding words_in begun_by
some_words [] h = absurd (omega arith)
some_words (b ∷ s) h = go (eqb b 0) (words_in s)
  where
    go : (t : Bool) (ws : List (List ℕ)) → Some (cond t ([] ∷ ws) (begun_by b ws))
    go true ws = words [] ws refl
    go false [] = words (b ∷ []) [] refl
    go false (w ∷ ws) = words (b ∷ w) ws refl

module _ {s : List ℕ} {end : ℕ} (c : WordCut s 0 end) where
  pub first_of : 0 < length s → words_in s ≡ take end s ∷ words_in (drop (end + 1) s)
  first_of l = let z : end - 0 ≡ end = omega arith in rw z at (c.cut l)

  -- one word
  lone : 0 < length s → length s ≤ end + 1 → words_in s ≡ take end s ∷ []
  lone l h = first_of l ∙ ap (λ (x : List (List ℕ)). take end s ∷ x) (ap words_in (drop_of_length-le s h) ∙ no_words [] refl)

  -- two or more
  module _ (h : end + 1 < length s) where
    more : Some (words_in (drop (end + 1) s))
    more = some_words (drop (end + 1) s) (omega (arith, length-drop (end + 1) s))

    two : {A : Type 0} (f : List (List ℕ) → A) (a : A) → ((w v : List ℕ) (ws : List (List ℕ)) → f (w ∷ v ∷ ws) ≡ a) → a ≡ f (words_in s)
    two f a e = go more
      where
        go : Some (words_in (drop (end + 1) s)) → a ≡ f (words_in s)
        go (words v vs q) = sym (ap f (first_of (omega arith) ∙ ap (λ (x : List (List ℕ)). take end s ∷ x) q) ∙ e (take end s) v vs)

  -- ---- what is asked

  pub asks_first : {r : Service} → 0 < length s → r ≡ service_said (take end s) → r ≡ service_asked (words_in s)
  unfolding service_asked
  asks_first h e = e ∙ sym (ap service_asked (first_of h))

  pub further_behind : end < length s → words_in (drop (end + 1) s) ≡ further_words (words_in s)
  unfolding further_words
  further_behind h = sym (ap further_words (first_of (omega arith)))

  pub further_none : length s ≤ end → words_in (drop end s) ≡ further_words (words_in s)
  unfolding further_words
  further_none h = ap words_in (drop_of_length-le s h) ∙ no_words [] refl ∙ go (length s) refl
    where
      go : (n : ℕ) → length s ≡ n → [] ≡ further_words (words_in s)
      go zero e = sym (ap further_words (no_words s e))
      go (suc n) e = sym (ap further_words (lone (omega arith) (omega arith)))

  pub further_from : {at : ℕ} → at ≡ min (end + 1) (length s) → (at ≤ length s) × (words_in (drop at s) ≡ further_words (words_in s))
  further_from {at} e = (omega arith, go (order end (length s)))
    where
      go : (end < length s) ⊎ (length s ≤ end) → words_in (drop at s) ≡ further_words (words_in s)
      go (inl h) = let z : at ≡ end + 1 = omega arith in rw z (further_behind h)
      go (inr h) = let z : at ≡ end = omega (arith, c.most) in rw z (further_none h)

  pub only_one : 0 < length s → length s ≤ end + 1 → only_word (words_in s) ≡ some (take end s)
  unfolding only_word
  only_one h l = ap only_word (lone h l)

  pub only_more : end + 1 < length s → only_word (words_in s) ≡ none
  unfolding only_word
  only_more h = sym (two h only_word none (λ w v ws. refl))

pub asks_nothing : (s : List ℕ) → length s ≡ 0 → Check ≡ service_asked (words_in s)
unfolding service_asked
asks_nothing s h = sym (ap service_asked (no_words s h))

pub only_none : (s : List ℕ) → length s ≡ 0 → only_word (words_in s) ≡ none
unfolding only_word
only_none s h = ap only_word (no_words s h)

-- ---- what the only word says

pub usual_size : (s : List ℕ) (usual : ℕ) → length s ≡ 0 → some usual ≡ size_said usual (words_in s)
unfolding size_said
usual_size s usual h = sym (ap (size_said usual) (no_words s h))

pub one_size : (usual : ℕ) (ws : List (List ℕ)) {w : List ℕ} → only_word ws ≡ some w → number_said 65535 w ≡ size_said usual ws
unfolding only_word size_said
one_size usual [] e = absurd (some-ne-none _ (sym e))
one_size usual (v ∷ []) {w} e = ap (number_said 65535) (sym (some-injective v w e))
one_size usual (v ∷ u ∷ ws) e = absurd (some-ne-none _ (sym e))

pub no_size : (usual : ℕ) (s : List ℕ) → (length s ≡ 0 → ⊥) → only_word (words_in s) ≡ none → none ≡ size_said usual (words_in s)
unfolding only_word size_said
no_size usual s h = go (some_words s (omega (arith, h)))
  where
    by : (w : List ℕ) (ws : List (List ℕ)) → only_word (w ∷ ws) ≡ none → none ≡ size_said usual (w ∷ ws)
    by w [] e = absurd (some-ne-none w e)
    by w (v ∷ ws) e = refl

    go : Some (words_in s) → only_word (words_in s) ≡ none → none ≡ size_said usual (words_in s)
    go (words w ws q) e = by w ws (sym (ap only_word q) ∙ e) ∙ sym (ap (size_said usual) q)

pub one_event : (names : List (List ℕ)) (ws : List (List ℕ)) {w : List ℕ} → only_word ws ≡ some w → event_said names w ≡ one_event_said names ws
unfolding only_word one_event_said
one_event names [] e = absurd (some-ne-none _ (sym e))
one_event names (v ∷ []) {w} e = ap (event_said names) (sym (some-injective v w e))
one_event names (v ∷ u ∷ ws) e = absurd (some-ne-none _ (sym e))

pub no_event : (names : List (List ℕ)) (ws : List (List ℕ)) → only_word ws ≡ none → none ≡ one_event_said names ws
unfolding only_word one_event_said
no_event names [] e = refl
no_event names (v ∷ []) e = absurd (some-ne-none v e)
no_event names (v ∷ u ∷ ws) e = refl

-- ---- the word with a number

further_as : (k : ℕ) (ws : List (List ℕ)) → further_words (drop k ws) ≡ drop (suc k) ws
unfolding further_words
further_as zero [] = refl
further_as zero (w ∷ ws) = refl
further_as (suc k) [] = refl
further_as (suc k) (w ∷ ws) = further_as k ws

-- n - 1 words stand before `at`
pub record WordsBefore (number : ℕ) (s : List ℕ) (n at : ℕ) : Type 0 where
  pub one : 1 ≤ n
  pub near : n - 1 ≤ number - 1
  pub begun : BeginsAt n s at

pub before_first : {number : ℕ} {s : List ℕ} → WordsBefore number s 1 0
before_first = record { one = omega arith; near = omega arith; begun = record { most = omega arith; others = refl } }

pub before_next : {number : ℕ} {s : List ℕ} {n at : ℕ} → WordsBefore number s n at → n < number → {size : ℕ} → size ≤ length (take (length s - at) (drop at s))
    → words_in (drop size (take (length s - at) (drop at s))) ≡ further_words (words_in (take (length s - at) (drop at s))) → WordsBefore number s (n + 1) (at + size)
before_next {number} {s} {n} {at} p l {size} h e =
    let whole : take (length s - at) (drop at s) ≡ drop at s = take_all (length s - at) (drop at s) (omega (arith, length-drop at s)) in
    record {
      one = omega arith;
      near = omega arith;
      begun =
          record {
            most = omega (arith, p.begun.most, length-drop at s, ap length whole);
            others =
                ap words_in (sym (ap (drop size) whole ∙ drop-drop size at s))
                ∙ e
                ∙ ap (λ (x : List ℕ). further_words (words_in x)) whole
                ∙ ap further_words p.begun.others
                ∙ further_drop (n - 1) (words_in s)
                ∙ ap (λ (k : ℕ). drop k (words_in s)) (after n p.one);
          };
    }
  where
    further_drop : (k : ℕ) (ws : List (List ℕ)) → further_words (drop k ws) ≡ drop (k + 1) ws
    further_drop k ws = further_as k ws ∙ ap (λ (j : ℕ). drop j ws) (sym (add-one k))

    after : (m : ℕ) → 1 ≤ m → m - 1 + 1 ≡ m + 1 - 1
    after m l = omega arith

pub before_number : {number : ℕ} {s : List ℕ} {n at : ℕ} → WordsBefore number s n at → number ≤ n → BeginsAt number s at
before_number {number} {s} {n} p h =
    let z : n - 1 ≡ number - 1 = omega (arith, p.near) in
    record { most = p.begun.most; others = p.begun.others ∙ ap (λ (k : ℕ). drop k (words_in s)) z }

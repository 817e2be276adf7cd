-- Along a text from one position to the next: a run of bytes of one kind, and the bytes of a literal.
use Prim.Native.Nat.{ℕ, zero, suc, ◌+◌, ◌-◌, ◌<◌, ◌≤◌}
use native.Mathlib.Numerals.{add-one}
use native.Mathlib.Omega.{arith}
use mathlib.Core.Path.{◌≡◌, refl, ap, sym, ◌∙◌}
use mathlib.Core.Bool.{Bool, true, false, cond}
use mathlib.Core.List.{List, [], ◌∷◌}
use lib.ListN.{length, get_or, drop, drop_of_length-le}
use lib.Seq.{drop-cons, drop-drop}
use borrow.Author.Tests.{eq-eqb, ne_eqb}
use Rattle.model.specs.Bytes.{leading, starts}
use Rattle.model.specs.Reading.{lit_bytes}
use Rattle.lexer.specs.Words.{as_literal}
use Rattle.std.specs.Prelude.{Some, None}

-- the byte at i is of the kind p
pub record Passes (p : ℕ → Bool) (s : List ℕ) (i : ℕ) : Type 0 where
  pub passes : p (get_or s i 0) ≡ true
  pub within : i < length s

-- it is not, or the text ends before it
pub record Fails (p : ℕ → Bool) (s : List ℕ) (i : ℕ) : Type 0 where
  pub fails : p (get_or s i 0) ≡ false

module _ (p : ℕ → Bool) where
  inside : (s : List ℕ) (i : ℕ) → p 0 ≡ false → p (get_or s i 0) ≡ true → i < length s
  inside [] i z h = let q : ◌≡◌ {A = ℕ} 0 1 = cc in absurd (omega arith)
  inside (a ∷ s) zero z h = omega arith
  inside (a ∷ s) (suc i) z h = let k = inside s i z h in omega arith

  stops : (s : List ℕ) (i : ℕ) → p (get_or s i 0) ≡ false → leading p (drop i s) ≡ 0
  stops [] zero h = refl
  stops [] (suc i) h = refl
  stops (a ∷ s) zero h = simp h
  stops (a ∷ s) (suc i) h = stops s i h

  goes_on : (k : ℕ) (t : List ℕ) → k ≤ leading p t → k + leading p (drop k t) ≡ leading p t
  goes_on zero t h = omega arith
  goes_on (suc k) [] h = absurd (omega arith)
  goes_on (suc k) (b ∷ t) h = go (p b) h (goes_on k t)
    where
      go : (q : Bool) → suc k ≤ cond q (suc (leading p t)) 0 → (k ≤ leading p t → k + leading p (drop k t) ≡ leading p t)
          → suc k + leading p (drop k t) ≡ cond q (suc (leading p t)) 0
      go true h r = let e = r (omega arith) in omega arith
      go false h r = absurd (omega arith)

  -- from a position inside a run, the run ends where it does from its beginning
  pub run_rest : (s : List ℕ) (at i : ℕ) → at ≤ i → i ≤ at + leading p (drop at s) → i + leading p (drop i s) ≡ at + leading p (drop at s)
  run_rest s at i h k =
      let q : at + (i - at) ≡ i = omega arith in
      let d : drop (i - at) (drop at s) ≡ drop i s = rw (drop-drop, q) in
      omega (arith, rw d at (goes_on (i - at) (drop at s) (omega arith)))

module _ {p : ℕ → Bool} {s : List ℕ} {i : ℕ} where
  -- t is what the code's own test says of b, the byte at i; 0 stands for the end, and is of no kind
  module _ {b : ℕ} {t : Bool} (e : t ≡ p b) (k : b ≡ get_or s i 0) where
    pub passing : p 0 ≡ false → t ≡ true → Passes p s i
    passing z n = let h : p (get_or s i 0) ≡ true = sym (e ∙ ap p k) ∙ n in record { passes = h; within = inside p s i z h }

    pub failing : t ≡ false → Fails p s i
    failing n = record { fails = sym (e ∙ ap p k) ∙ n }

  pub run_cons : Passes p s i → drop i s ≡ get_or s i 0 ∷ drop (i + 1) s
  run_cons h = rw (add-one i) (drop-cons s i 0 h.within)

  pub run_more : Passes p s i → leading p (drop i s) ≡ suc (leading p (drop (i + 1) s))
  run_more h = simp (run_cons h, h.passes)

  pub run_stop : Fails p s i → leading p (drop i s) ≡ 0
  run_stop h = stops p s i h.fails

-- a loop that compares the bytes at `at` with those of w stands at i in w: what is left to compare decides
pub record Matching (s : List ℕ) (at : ℕ) (w : List ℕ) (i : ℕ) : Type 0 where
  pub left : starts (drop i w) (drop (at + i) s) ≡ starts w (drop at s)
  pub within : 0 < i → at + i ≤ length s

no_literal : (s : List ℕ) (at : ℕ) (w : List ℕ) → starts w (drop at s) ≡ false → None ≡ as_literal (lit_bytes w s at)
no_literal s at w e = simp e

module _ {s : List ℕ} {at : ℕ} {w : List ℕ} where
  pub match_start : Matching s at w 0
  match_start = let z : at + 0 ≡ at = omega arith in record { left = rw z; within = λ h. absurd (omega arith) }

  module _ {i : ℕ} (inv : Matching s at w i) (h : i < length w) where
    pub match_more : at + i < length s → get_or s (at + i) 0 ≡ get_or w i 0 → Matching s at w (i + 1)
    match_more k e =
        let n : at + (i + 1) ≡ suc (at + i) = omega arith in
        record {
          left = rw (n, add-one i) (sym (rw (drop-cons w i 0 h, drop-cons s (at + i) 0 k, eq-eqb _ _ (sym e)) refl) ∙ inv.left);
          within = λ _. omega arith;
        }

    pub match_differ : at + i < length s → (get_or s (at + i) 0 ≡ get_or w i 0 → ⊥) → None ≡ as_literal (lit_bytes w s at)
    match_differ k e =
        no_literal s at w (sym inv.left ∙ rw (drop-cons w i 0 h, drop-cons s (at + i) 0 k, ne_eqb (get_or w i 0) (get_or s (at + i) 0) (λ q. e (sym q))) refl)

    pub match_short : length s ≤ at + i → None ≡ as_literal (lit_bytes w s at)
    match_short k = no_literal s at w (sym inv.left ∙ rw (drop-cons w i 0 h, drop_of_length-le s k) refl)

  pub match_end : Matching s at w (length w) → Some (at + length w) ≡ as_literal (lit_bytes w s at)
  match_end inv =
      let e : starts w (drop at s) ≡ true = sym inv.left ∙ rw (drop_of_length-le w {i = length w} (omega arith)) refl in
      simp e

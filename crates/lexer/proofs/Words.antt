-- The code's answers to a figure and to a name, one law for each way out.
use Prim.Native.Nat.{ℕ, suc, ◌+◌, ◌-◌, ◌*◌, ◌<◌, ◌≤◌}
use native.Mathlib.Nat.{add_assoc, add-zero}
use native.Mathlib.Omega.{arith}
use mathlib.Core.Path.{◌≡◌, ap, ◌∙◌}
use mathlib.Core.Logic.{◌⊎◌, inl, inr}
use mathlib.Core.Bool.{Bool, and-false}
use mathlib.Core.List.{List, ◌∷◌}
use lib.ListN.{length, get_or, drop}
use lib.Seq.{length-take-le, get_or-drop, get_or-take}
use borrow.Author.Tests.{ne_eqb, le-leb, lt-leb}
use Rattle.model.specs.Bytes.{leading, is_digit, is_letter, is_name_byte, is_figure, is_name}
use Rattle.model.specs.Reading.{part, figure, name}
use Rattle.model.proofs.Laws.{order}
use Rattle.model.proofs.Words.{leading_le}
use Rattle.std.specs.Prelude.{Some, None}
use Rattle.lexer.specs.Words.{found_figure, as_figure, as_name}
use Rattle.lexer.proofs.Runs.{Passes, Fails, run_cons, run_more, run_stop}
use Rattle.lexer.proofs.Packing.{run, named, Halves, both, behind, halves_name}

-- the word that a run of the kind p makes: its length and its first byte
module _ (p : ℕ → Bool) (s : List ℕ) (at : ℕ) where
  sized : length (part s at (leading p (drop at s))) ≡ leading p (drop at s)
  sized = length-take-le (leading p (drop at s)) (drop at s) (leading_le p (drop at s))

  first : 0 < leading p (drop at s) → get_or (part s at (leading p (drop at s))) 0 0 ≡ get_or s at 0
  first h = rw (get_or-take, get_or-drop, add-zero)

pub figure_none : (s : List ℕ) (at : ℕ) → Fails is_digit s at → None ≡ as_figure (figure s at)
unfolding is_figure
figure_none s at f = simp (run_stop f)

-- the number that the digit at a position writes
abbrev value : List ℕ → ℕ → ℕ
value s i = get_or s i 0 - 48

module _ {s : List ℕ} {at : ℕ} (d : Passes is_digit s at) where
  pub figure_1 : Fails is_digit s (at + 1) → {v : ℕ} → v ≡ value s at → Some (found_figure v (at + 1)) ≡ as_figure (figure s at)
  unfolding is_figure
  figure_1 f e = simp (run_cons d, d.passes, run_stop f) (ap (λ (v : ℕ). Some (found_figure v (at + 1))) (omega arith))

  pub figure_zero : Passes is_digit s (at + 1) → get_or s at 0 ≡ 48 → None ≡ as_figure (figure s at)
  unfolding is_figure
  figure_zero d1 z =
      let n = leading is_digit (drop at s) in
      let l : 1 < n = omega (arith, run_more d, run_more d1) in
      simp (sized is_digit s at, first is_digit s at (omega arith), z, ne_eqb n 1 (λ q. omega arith), le-leb 1 n (omega arith), and-false)

-- two digits, or more, that begin with no zero
pub record Two (s : List ℕ) (at : ℕ) : Type 0 where
  pub d0 : Passes is_digit s at
  pub d1 : Passes is_digit s (at + 1)
  pub no_zero : get_or s at 0 ≡ 48 → ⊥

module _ {s : List ℕ} {at : ℕ} (t : Two s at) where
  two : drop at s ≡ get_or s at 0 ∷ get_or s (at + 1) 0 ∷ drop (at + 2) s
  two = simp (run_cons t.d0, run_cons t.d1, add_assoc at 1 1)

  pub figure_2 : Fails is_digit s (at + 2) → {v : ℕ} → v ≡ value s at * 10 + value s (at + 1) → Some (found_figure v (at + 2)) ≡ as_figure (figure s at)
  unfolding is_figure
  figure_2 f e =
      simp (two, t.d0.passes, t.d1.passes, run_stop f, ne_eqb (get_or s at 0) 48 t.no_zero) (ap (λ (v : ℕ). Some (found_figure v (at + 2))) (omega arith))

  module _ (d2 : Passes is_digit s (at + 2)) where
    three : drop at s ≡ get_or s at 0 ∷ get_or s (at + 1) 0 ∷ get_or s (at + 2) 0 ∷ drop (at + 3) s
    three = simp (two, run_cons d2, add_assoc at 2 1)

    pub figure_3 : Fails is_digit s (at + 3) → {v : ℕ} → v ≡ (value s at * 10 + value s (at + 1)) * 10 + value s (at + 2)
        → Some (found_figure v (at + 3)) ≡ as_figure (figure s at)
    unfolding is_figure
    figure_3 f e =
        simp (three, t.d0.passes, t.d1.passes, d2.passes, run_stop f, ne_eqb (get_or s at 0) 48 t.no_zero)
        (ap (λ (v : ℕ). Some (found_figure v (at + 3))) (omega arith))

    pub figure_long : Passes is_digit s (at + 3) → None ≡ as_figure (figure s at)
    unfolding is_figure
    figure_long d3 =
        let n = leading is_digit (drop at s) in
        let e : n ≡ suc (suc (suc (leading is_digit (drop (at + 3) s)))) = simp (three, t.d0.passes, t.d1.passes, d2.passes) in
        let l : 3 < n = omega (arith, run_more d3) in
        simp (sized is_digit s at, lt-leb n 3 l, le-leb 1 n (omega arith))

pub name_none : (s : List ℕ) (at : ℕ) → Fails is_letter s at → None ≡ as_name (name s at)
unfolding is_name
name_none s at f = go (order 0 (run s at))
  where
    go : (0 < run s at) ⊎ (run s at ≤ 0) → None ≡ as_name (name s at)
    go (inl h) = simp (first is_name_byte s at h, f.fails, and-false)
    go (inr h) = let z : run s at ≡ 0 = omega arith in simp z

module _ {s : List ℕ} {at m e h l : ℕ} (p : Halves s at m e h l) where
  pub name_long : Passes is_name_byte s e → None ≡ as_name (name s at)
  unfolding is_name
  name_long b =
      let n = run s at in
      let g : 16 < n = omega (arith, both p, behind p, run_more b) in
      simp (sized is_name_byte s at, lt-leb n 16 g, le-leb 1 n (omega arith))

  module _ (f : Passes is_letter s at) where
    letter : Passes is_name_byte s at
    unfolding is_name_byte
    letter = record { passes = simp f.passes; within = f.within }

    -- the two runs have the whole of the name
    whole : e ≡ at + run s at → Some (named (e - at) h l e) ≡ as_name (name s at)
    unfolding is_name
    whole q =
        let n = run s at in
        let d : e - at ≡ n = omega arith in
        let g : 0 < n = omega (arith, run_more letter) in
        let u : n ≤ 16 = omega (arith, both p) in
        ap Some (halves_name p) ∙ rw (d, q) (simp (sized is_name_byte s at, le-leb 1 n g, le-leb n 16 u, first is_name_byte s at g, f.passes))

    pub name_short : (e - at ≡ 16 → ⊥) → Some (named (e - at) h l e) ≡ as_name (name s at)
    name_short d = whole (omega (arith, both p))

    pub name_16 : Fails is_name_byte s e → Some (named (e - at) h l e) ≡ as_name (name s at)
    name_16 b = whole (omega (arith, behind p, run_stop b))

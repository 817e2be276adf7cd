-- The places of the machines, one after another, and the line of a run.
use Prim.Native.Nat.{ℕ, ◌+◌, ◌*◌, ◌≤◌, ◌<◌}
use native.Mathlib.Numerals.{add-one}
use native.Mathlib.Omega.{arith}
use mathlib.Core.Path.{◌≡◌, ap, sym, ◌∙◌}
use mathlib.Core.List.{List, [], ◌∷◌, ◌++◌, flat_map, append-nil}
use lib.ListN.{length, get_or, take, length-append, length-take}
use lib.Seq.{take-suc, take_all}
use Rattle.model.specs.Bytes.{bytes, numeral}
use Rattle.model.specs.Printed.{spaced, places_word}
use Rattle.model.proofs.ListLaws.{flat_map_append}
use Rattle.writers.specs.Written.{Writes}
use Rattle.writers.proofs.Writing.{writes_none, writes_append}
use Rattle.writers.proofs.Refusals.{numeral_most, numeral_three}

pub spaced_one : (n : ℕ) → spaced (n ∷ []) ≡ bytes " " ++ numeral n
unfolding spaced flat_map
spaced_one n = append-nil (bytes " " ++ numeral n)

pub spaced_append : (a b : List ℕ) → spaced (a ++ b) ≡ spaced a ++ spaced b
unfolding spaced
spaced_append a b = flat_map_append (λ n. bytes " " ++ numeral n) a b

-- the places of m machines are written, each with a space before it
pub record Placed (places : List ℕ) (at : ℕ) (out left : List ℕ) (i m : ℕ) : Type 0 where
  pub most : m ≤ length places
  pub short : i ≤ at + 4 * m
  pub written : Writes (spaced (take m places)) at out i left

module _ {places : List ℕ} {at : ℕ} {out : List ℕ} where
  pub placed_none : Placed places at out out at 0
  unfolding spaced flat_map
  placed_none = record { most = omega arith; short = omega arith; written = writes_none }

  pub placed_add : {left mid after : List ℕ} {i j k m q : ℕ} → Placed places at out left i m → m < length places
      → q ≡ get_or places m 0 → q < 256 → Writes (bytes " ") i left j mid → Writes (numeral q) j mid k after → Placed places at out after k (m + 1)
  placed_add {m = m} {q = q} p inside e low v w =
      record {
        most = omega arith;
        short = omega (arith, p.short, v.after, w.after, numeral_three q (omega arith));
        written = rw one_more_lem (writes_append p.written (writes_append v w));
      }
    where
      one_more_lem : spaced (take (m + 1) places) ≡ spaced (take m places) ++ (bytes " " ++ numeral q)
      one_more_lem =
          ap spaced (ap (λ k. take k places) (add-one m) ∙ take-suc places m 0 inside) ∙ spaced_append (take m places) (get_or places m 0 ∷ [])
          ∙ ap (λ w. spaced (take m places) ++ w) (spaced_one (get_or places m 0) ∙ ap (λ k. bytes " " ++ numeral k) (sym e))

  pub placed_end : {all left after : List ℕ} {a i j m : ℕ} → Writes (bytes "(places") a all at out → Placed places at out left i m → length places ≤ m
      → Writes (bytes "))\n") i left j after → Writes (places_word places) a all j after
  unfolding places_word
  placed_end {m = m} w p h v = writes_append w (writes_append (rw (take_all m places h) at p.written) v)

-- how long the places of 16 machines may be
spaced_most : (ns : List ℕ) → length (spaced ns) ≤ 21 * length ns
unfolding spaced flat_map
spaced_most [] = omega arith
spaced_most (n ∷ ns) = omega (arith, spaced_most ns, numeral_most n, length-append (bytes " " ++ numeral n) (spaced ns), length-append (bytes " ") (numeral n))

pub places_most : (places : List ℕ) (n : ℕ) → n ≤ 16 → length (places_word (take n places)) ≤ 346
unfolding places_word
places_most places n h =
    let ns = take n places in
    omega (
      arith,
      length-append (bytes "(places") (spaced ns ++ bytes "))\n"),
      length-append (spaced ns) (bytes "))\n"),
      spaced_most ns,
      length-take n places,
    )

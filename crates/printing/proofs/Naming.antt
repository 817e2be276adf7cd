-- What is printed for Name, by its ways out. A name has 16 bytes at most.
use Prim.Native.Nat.{ℕ, ◌+◌, ◌-◌, ◌<◌, ◌≤◌}
use native.Mathlib.Omega.{arith}
use mathlib.Core.Path.{◌≡◌, sym}
use mathlib.Core.Logic.{◌⊎◌, inl, inr}
use mathlib.Core.List.{List, [], ◌++◌}
use borrow.Author.Tests.{lt-ltb, le-ltb}
use lib.ListN.{length, take, drop, length-append, length-take}
use Rattle.model.specs.declared.Refusal as D
use Rattle.model.specs.Bytes.{bytes}
use Rattle.model.specs.Cases.{tabled}
use Rattle.model.specs.Refusal.{refused}
use Rattle.model.specs.Services.{as_far_as7, written_refusal, name, handed_back, name_refusal}
use Rattle.model.specs.Printed.{printed_by, name_line, printed_name}
use Rattle.model.proofs.Laws.{order}
use Rattle.model.proofs.Order.{Verdict, turned_down, let_through}
use Rattle.model.proofs.Positions.{get_d_mem}
use Rattle.model.proofs.Texts.{limits_of}
use Rattle.model.proofs.Verdicts.{verdict7}
use Rattle.std.specs.Prelude.{Ok, Err}
use Rattle.writers.specs.Written.{Writes}
use Rattle.rows.proofs.Verdicts.{was_passed, was_refused}
use Rattle.name_service.specs.declared.NamePart.{NamePart}
use Rattle.name_service.specs.Parts.{Named, part_in, part_refusal}
use Rattle.printing.specs.Shown.{Shows}
use Rattle.printing.proofs.Showing.{shows_written, shows_same}

-- what Name hands back is no longer than a name
handed_most : (s : List ℕ) (e : ℕ) → (handed_back (name s e)).size ≤ 16
unfolding handed_back name
handed_most s e = go (verdict7 s)
  where
    go : Verdict 7 s (as_far_as7 s) → (handed_back (name s e)).size ≤ 16
    go (turned_down r q f) = rw q (omega arith)
    go (let_through v q p) = known (order e (length v.names))
      where
        known : (e < length v.names) ⊎ (length v.names ≤ e) → (handed_back (name s e)).size ≤ 16
        known (inl l) = rw (q, lt-ltb e (length v.names) l) ((limits_of s v p.reads).names _ (get_d_mem v.names e [] l)).most
        known (inr l) = rw (q, le-ltb e (length v.names) l) (omega arith)

-- Name is refused
pub name_refused : {s : List ℕ} {e : ℕ} {why : D.Refusal} → Named s e (Err why) → {n : ℕ} {left : List ℕ} → Shows (written_refusal (tabled why)) n left
    → Shows (printed_name s e) n left
unfolding printed_name printed_by name_refusal part_refusal
name_refused {s} {e} {why} h w = let z : name s e ≡ refused (tabled why) = was_refused (name s e) (tabled why) (sym h.verdict) in rw z w

module _ {s : List ℕ} {e : ℕ} {r : NamePart} (h : Named s e (Ok r)) where
  begins : r.from ≡ (handed_back (name s e)).from
  unfolding part_in
  begins = h.begins

  ends : r.end ≡ (handed_back (name s e)).from + (handed_back (name s e)).size
  unfolding part_in
  ends = h.ends

  -- the part lies in the text
  pub part_inside : (r.from ≤ r.end) × (r.end ≤ length s)
  unfolding part_in
  part_inside = (omega (arith, begins, ends), h.inside)

  -- and is short
  pub part_most : r.end - r.from ≤ 16
  part_most = omega (arith, begins, ends, handed_most s e)

  -- the name, with the end of its line
  abbrev word : List ℕ
  word = take (r.end - r.from) (drop r.from s) ++ bytes "\n"

  word_most : length word ≤ 17
  word_most =
      omega (arith, part_most, length-append (take (r.end - r.from) (drop r.from s)) (bytes "\n"), length-take (r.end - r.from) (drop r.from s))

  -- it is what is printed
  word_told : word ≡ printed_name s e
  unfolding printed_name printed_by name_line name_refusal handed_back part_refusal
  word_told =
      let (p, z) = was_passed (name s e) (sym h.verdict) in
      let size : r.end - r.from ≡ (handed_back (name s e)).size = omega (arith, begins, ends) in
      rw (size, begins, z)

  pub name_shown : {n : ℕ} {out left : List ℕ} → length out ≡ 32768 → Writes word 0 out n left → Shows (printed_name s e) n left
  name_shown l w = shows_same word_told (shows_written w (omega (arith, word_most)) l)

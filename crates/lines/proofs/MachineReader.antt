-- The reader of a machine line, by all its places, and the answer to it by how they were marked.
use Prim.Native.Nat.{ℕ, ◌≤◌}
use native.Mathlib.Omega.{arith}
use mathlib.Core.Path.{◌≡◌, refl, ap, sym, ◌∙◌}
use mathlib.Core.Bool.{Bool, true, false, ◌&&◌, and-eq-true_iff}
use mathlib.Core.List.{List, [], ◌∷◌}
use lib.Dec.{eqb, leb, eqb→eq}
use lib.ListN.{length, drop}
use Rattle.std.specs.Prelude.{Some, None, Option}
use Rattle.model.specs.Machine.{Place}
use Rattle.model.specs.Bytes.{bytes, starts}
use Rattle.model.specs.Reading.{Parsed, fail, got, after, lit_bytes, many}
use Rattle.model.specs.Form.{Line, machine, place, machine_line}
use Rattle.model.proofs.Laws.{and_l}
use Rattle.lexer.proofs.Loops.{many_more, many_none}
use Rattle.lines.specs.Lines.{all_below, has_row, without_row, machine_row, as_machine}
use Rattle.lines.specs.Marking.{Marking, PlacesFound, PlacesRead}
use Rattle.lines.specs.declared.marks.Places.{Places}
use Rattle.lines.specs.declared.MachineLine.{MachineLine}
use Rattle.lines.proofs.marks.Marked.{declared_places}
use Rattle.lines.proofs.marks.Filling.{Unmarked, filled_places}
use Rattle.lines.proofs.marks.PlaceReader.{moves_place}

-- what is read after the places ps, at their end
closing : List ℕ → List Place → ℕ → Parsed Line
closing s [] e = fail
closing s (p ∷ ps) e = after (lit_bytes (bytes ")\n") s e) (λ _ k. got (machine (p ∷ ps)) k)

-- the head of a machine line stands at a position, to `a`
pub record Headed (s : List ℕ) (at a : ℕ) : Type 0 where
  pub read : lit_bytes (bytes "(machine") s at ≡ got tt a

machine_closing : {s : List ℕ} {at a : ℕ} → Headed s at a → machine_line s at ≡ closing s (many place s a).0 (many place s a).1
unfolding machine_line closing
machine_closing {s} {at} {a} h = rw h.read (go (place s a) refl)
  where
    go : (o : Parsed Place) → place s a ≡ o
        → after o (λ p b. after (lit_bytes (bytes ")\n") s (many place s b).1) (λ _ k. got (machine (p ∷ (many place s b).0)) k))
        ≡ closing s (many place s a).0 (many place s a).1
    go fail e = rw (many_none moves_place s a e)
    go (got p b) e = rw (many_more moves_place s a p b e)

-- where a place begins, no line ends
place_no_end : (l : List ℕ) → starts (bytes " (") l ≡ true → starts (bytes ")\n") l ≡ false
place_no_end [] e = let z : ◌≡◌ {A = ℕ} 0 1 = cc in absurd (omega arith)
place_no_end (b ∷ l) e = rw (← eqb→eq 32 b (and_l (eqb 32 b) (starts (40 ∷ []) l) (rw e tt)))

-- the places of a line are read and marked
pub record Listed (n : ℕ) (s : List ℕ) (at : ℕ) (all : Places) (after : Marking) : Type 0 where
  pub from : ℕ
  pub start : Marking
  pub head : Headed s at from
  pub unmarked : Unmarked start
  pub found : PlacesFound n start (many place s from) all after

-- the answers to the places
pub places_broken : (n : ℕ) (m : Marking) (s : List ℕ) (r : List Place × ℕ) {a : Option Places} (after : Marking) → PlacesRead n m s r a after → a ≡ None
    → starts (bytes " (") (drop r.1 s) ≡ true
unfolding PlacesRead
places_broken n m s r after h e = rw e at h

pub places_found : (n : ℕ) (m : Marking) (s : List ℕ) (r : List Place × ℕ) {a : Option Places} (after : Marking) {all : Places}
    → PlacesRead n m s r a after → a ≡ Some all → PlacesFound n m r all after
unfolding PlacesRead
places_found n m s r after h e = rw e at h

-- the line has no form
pub headless : (s : List ℕ) (at : ℕ) → lit_bytes (bytes "(machine") s at ≡ fail → machine_line s at ≡ fail
unfolding machine_line
headless s at e = rw e

unended : {s : List ℕ} {at a : ℕ} → Headed s at a → lit_bytes (bytes ")\n") s (many place s a).1 ≡ fail → machine_line s at ≡ fail
unfolding closing
unended {s} {a = a} h e = machine_closing h ∙ go (many place s a).0
  where
    go : (ps : List Place) → closing s ps (many place s a).1 ≡ fail
    go [] = refl
    go (p ∷ ps) = rw e

pub broken : {s : List ℕ} {at a : ℕ} → Headed s at a → starts (bytes " (") (drop (many place s a).1 s) ≡ true → machine_line s at ≡ fail
broken {s} {a = a} h e = unended h (rw (place_no_end (drop (many place s a).1 s) e))

module _ {n : ℕ} {s : List ℕ} {at : ℕ} {all : Places} {after : Marking} (l : Listed n s at all after) where
  abbrev listed : List Place
  listed = (many place s l.from).0

  line : machine_line s at ≡ closing s listed all.next
  line = machine_closing l.head ∙ ap (closing s listed) (sym l.found.ends)

  pub no_places : all.count ≡ 0 → machine_line s at ≡ fail
  unfolding closing
  no_places e = line ∙ go listed (sym l.found.counted ∙ e)
    where
      go : (ps : List Place) → length ps ≡ 0 → closing s ps all.next ≡ fail
      go [] z = refl
      go (p ∷ ps) z = absurd (omega arith)

  pub unclosed : lit_bytes (bytes ")\n") s all.next ≡ fail → machine_line s at ≡ fail
  unclosed e = unended l.head (rw (← l.found.ends) e)

  closed : (all.count ≡ 0 → ⊥) → {next : ℕ} → lit_bytes (bytes ")\n") s all.next ≡ got tt next → machine_line s at ≡ got (machine listed) next
  unfolding closing
  closed h {next} e = line ∙ go listed (λ z. h (l.found.counted ∙ z))
    where
      go : (ps : List Place) → (length ps ≡ 0 → ⊥) → closing s ps all.next ≡ got (machine ps) next
      go [] z = absurd (z refl)
      go (p ∷ ps) z = rw e

  declares : after.declared ≡ all_below n listed
  declares =
      ap (λ (m : Marking). m.declared) l.found.rows ∙ declared_places n 0 l.start listed
      ∙ ap (λ (b : Bool). b && all_below n listed) l.unmarked.declared

-- some places are listed, and the line ends after them
pub record Ended (n : ℕ) (s : List ℕ) (at : ℕ) (all : Places) (after : Marking) (next : ℕ) : Type 0 where
  pub places : Listed n s at all after
  pub some : all.count ≡ 0 → ⊥
  pub read : lit_bytes (bytes ")\n") s all.next ≡ got tt next

module _ {n : ℕ} {s : List ℕ} {at : ℕ} {all : Places} {after : Marking} {next : ℕ} (l : Ended n s at all after next) where
  abbrev ps : List Place
  ps = listed l.places

  counted : all.count ≡ length ps
  counted = l.places.found.counted

  formed : machine_line s at ≡ got (machine ps) next
  formed = closed l.places l.some l.read

  -- the code's test is the definition's
  limits : (leb all.count 64 && after.declared) ≡ has_row n ps
  unfolding has_row
  limits = λ i. leb (counted i) 64 && declares l.places i

  pub past : (leb all.count 64 && after.declared) ≡ false → {r : MachineLine} → r ≡ without_row all.count after.declared next → Some r ≡ as_machine n (machine_line s at)
  unfolding as_machine
  past w q = rw (formed, sym limits ∙ w, ← declares l.places, ← counted) (ap Some q)

  pub placed : n ≤ 256 → (leb all.count 64 && after.declared) ≡ true
      → Some (record { places = all.count; declared = after.declared; duplicate = after.duplicate; row = after.row; next = next }) ≡ as_machine n (machine_line s at)
  unfolding as_machine machine_row
  placed u h =
      let w : has_row n ps ≡ true = sym limits ∙ h in
      let d : after.declared ≡ true = ((and-eq-true_iff (leb all.count 64) after.declared).0 h).1 in
      let f = l.places.found.rows ∙ filled_places n ps u w l.places.unmarked in
      let e : Some (machine_row n ps next) ≡ as_machine n (machine_line s at) = rw (formed, w) in
      (λ i. Some (record { places = counted i; declared = d i; duplicate = (f i).duplicate; row = (f i).row; next = next })) ∙ e

-- no form
pub no_machine_lem : (n : ℕ) (o : Parsed Line) → o ≡ fail → None ≡ as_machine n o
unfolding as_machine
no_machine_lem n o e = rw e

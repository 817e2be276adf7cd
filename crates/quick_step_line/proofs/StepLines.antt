-- A step line is read where its words stand one after another.
use Rattle.std.proofs.Common.{◌≡◌, ℕ, ◌+◌, ◌-◌, ◌*◌, ◌<◌, ◌≤◌, Bool, true, ◌&&◌, eqb, ltb, List, [], length, get_or, drop, sym, refl, ap, ◌∙◌, arith, length-drop, ltb-true, eqb-true}
use Rattle.model.specs.Bytes.{bytes, Name, IsName, OneEvent}
use Rattle.model.specs.Reading.{got, part}
use Rattle.model.specs.Form.{step, written, step_line}
use Rattle.model.specs.Lists.{every}
use Rattle.model.proofs.Laws.{both}
use Rattle.model.proofs.Lines.{step_complete}
use Rattle.model.proofs.OneEvent.{one_name}
use Rattle.model.proofs.Words.{Spans, then, spans_part}
use Rattle.lexer.specs.Words.{packed}
use Rattle.names.specs.Held.{PackedNames, Same}
use Rattle.names.proofs.HeldNames.{entry_name, entry_same}
use Rattle.quick_words.specs.declared.Figure.{Figure}
use Rattle.quick_words.specs.Guessed.{FigureStands, GuessedFigure, Packs}
use Rattle.quick_words.proofs.Standing.{byte}
use Rattle.quick_words.proofs.Packing.{told_four}
use Rattle.quick_step_line.specs.Quick.{ReadsStep, NameSize, Framed}

-- the same bytes, where the positions are written another way
moved : {s w : List ℕ} {i j p q : ℕ} → i ≡ p → j ≡ q → Spans s i w j → Spans s p w q
moved e f h = rw (← e, ← f) h

words : {s : List ℕ} {at m1 m2 m3 m4 m5 m6 next a b : ℕ} {w : Name} → IsName w → Spans s at (bytes "(step ") m1 → FigureStands s m1 a m2
    → Spans s m2 (bytes " ") m3 → Spans s m3 w m4 → Spans s m4 (bytes " ") m5 → FigureStands s m5 b m6 → Spans s m6 (bytes ")\n") next
    → step_line s at ≡ got (step a w b) next
unfolding written
words {s} {at} {next = next} {a} {b} {w} o p1 p2 p3 p4 p5 p6 p7 =
    let p = then p1 (then p2.spans (then p3 (then p4 (then p5 (then p6.spans p7))))) in
    step_complete a w b p2.most o p6.most s at (drop next s) p.bytes ∙ ap (got (step a w b)) (sym p.moved)

-- the fixed bytes, by the code's tests
module _ (s : List ℕ) (each : (i : ℕ) → get_or s i 0 < 256) (at : ℕ) where
  pub opening : (v : ℕ) (p q : Bool) → at + 8 ≤ length s → v ≡ packed (part s at 4) → (p ≡ true → Spans s (at + 4) (bytes "p") (at + 4 + 1))
      → (q ≡ true → Spans s (at + 5) (bytes " ") (at + 5 + 1)) → ((eqb v 678655077 && p) && q) ≡ true → Spans s at (bytes "(step ") (at + 6)
  unfolding every
  opening v p q b e cp cq t =
      let (t1, tq) = both (eqb v 678655077 && p) q t in
      let (tv, tp) = both (eqb v 678655077) p t1 in
      then (told_four s each at v (bytes "(ste") tt refl (omega arith) e tv) (then (moved refl (omega arith) (cp tp)) (moved refl (omega arith) (cq tq)))

  pub closing : at + 2 ≤ length s → {w : ℕ} → w ≡ get_or s at 0 * 256 + get_or s (at + 1) 0 → eqb w 10506 ≡ true
      → Spans s at (bytes ")\n") (at + 2)
  closing h {w} e t =
      let q = eqb-true w 10506 t in
      let k = each (at + 1) in
      then (byte s at (at + 1) at refl refl (omega arith) (omega arith)) (byte s (at + 1) (at + 2) (at + 1) refl (omega arith) (omega arith) (omega arith))

-- the code's tests of the bytes around the words
pub framed : (s : List ℕ) (at from to end : ℕ) → 1 ≤ from → 1 ≤ end → (o p q r : Bool) → (o ≡ true → Spans s at (bytes "(step ") (at + 6))
    → (p ≡ true → Spans s (from - 1) (bytes " ") (from - 1 + 1)) → (q ≡ true → Spans s to (bytes " ") (to + 1))
    → (r ≡ true → Spans s (end - 1) (bytes ")\n") (end - 1 + 2)) → (((o && p) && q) && r) ≡ true → Framed s at from to end
framed s at from to end lf le o p q r co cp cq cr t =
    let (t3, tr) = both ((o && p) && q) r t in
    let (t2, tq) = both (o && p) q t3 in
    let (to', tp) = both o p t2 in
    record {
      opening = co to';
      before = moved refl (omega arith) (cp tp);
      behind = cq tq;
      closing = moved refl (omega arith) (cr tr);
    }

-- the words where the code guesses them: the name is one of event k, and the line ends at `end`
module _ (s lens highs lows : List ℕ) (at n count k size end h l : ℕ) (a b : Figure) (room : at + 40 ≤ length s) (lo : at + 12 ≤ end) (hi : end ≤ at + 36)
    (fa : GuessedFigure s (at + 6) (at + 6 + a.size) a) (fb : GuessedFigure s (end - 1 - b.size) (end - 1) b)
    (sized : NameSize (at + 7 + a.size) (end - 2 - b.size) size) (packed : Packs s (at + 7 + a.size) size h l) where
  abbrev from : ℕ
  from = at + 7 + a.size

  abbrev to : ℕ
  to = end - 2 - b.size

  line : Framed s at from to end → a.found ≡ true → b.found ≡ true → k < count → Same lens highs lows size h l k
      → (es : List Name) → PackedNames es count lens highs lows
      → (w : Name) × OneEvent w (get_or es k []) × (step_line s at ≡ got (step a.value w b.value) (end + 1))
  line p ta tb c m es r =
      let e = get_or es k [] in
      let w = part s from size in
      let (long, high, low) = entry_same r k c m in
      let o : IsName e = entry_name r k c in
      let f : from + size ≡ to = sized.ends (omega (arith, o.least)) in
      let d : size ≤ length (drop from s) = omega (arith, length-drop from s, fa.most, sized.most) in
      let i : OneEvent w e = packed.one e o long high low in (
        w,
        i,
        words (one_name w e i o) p.opening (fa.stands ta) (moved (omega arith) refl p.before) (spans_part s from size to f d)
            (moved refl (omega (arith, fb.most)) p.behind) (fb.stands tb) p.closing,
      )

  pub verified : (p q : Bool) → (p ≡ true → Framed s at from to end) → (q ≡ true → Same lens highs lows size h l k)
      → ((((p && a.found) && b.found) && q) && ((ltb a.value n && ltb b.value n) && ltb k count)) ≡ true
      → ReadsStep s at n count lens highs lows a.value k b.value (end + 1)
  verified p q cp cq t =
      let x = p && a.found in
      let y = ltb a.value n && ltb b.value n in
      let (t1, declared) = both ((x && b.found) && q) (y && ltb k count) t in
      let (formed, eq) = both (x && b.found) q t1 in
      let (t2, eb) = both x b.found formed in
      let (ep, ea) = both p a.found t2 in
      let (t3, dk) = both y (ltb k count) declared in
      let (da, db) = both (ltb a.value n) (ltb b.value n) t3 in
      let c = ltb-true k count dk in
      record {
        source = ltb-true a.value n da;
        event = c;
        target = ltb-true b.value n db;
        line = line (cp ep) ea eb c (cq eq);
      }

-- A move is read where its words stand one after another.
use Prim.Native.Nat.{ℕ, ◌+◌, ◌<◌, ◌≤◌}
use native.Mathlib.Omega.{arith}
use mathlib.Core.Path.{◌≡◌, refl, ap, sym, ◌∙◌}
use mathlib.Core.Bool.{Bool, true, ◌&&◌}
use mathlib.Core.List.{List, [], ◌∷◌}
use lib.Dec.{ltb, eqb}
use lib.ListN.{length, get_or, drop, length-drop}
use borrow.Author.Tests.{ltb-true}
use Rattle.model.specs.Bytes.{bytes, Name, IsName, OneEvent}
use Rattle.model.specs.Lists.{every}
use Rattle.model.specs.Reading.{got, part}
use Rattle.model.specs.Sheet.{NamedMove, move_bytes, written_move, move_form}
use Rattle.model.proofs.Laws.{both}
use Rattle.model.proofs.OneEvent.{one_name}
use Rattle.model.proofs.SheetForms.{move_complete}
use Rattle.model.proofs.Words.{Spans, then, spans_part}
use Rattle.lexer.specs.Words.{packed}
use Rattle.names.specs.Held.{Same}
use Rattle.names.proofs.HeldNames.{entry_name, entry_same}
use Rattle.quick_words.specs.declared.Figure.{Figure}
use Rattle.quick_words.specs.Guessed.{FigureStands, GuessedFigure, Packs}
use Rattle.quick_words.proofs.Packing.{told_four}
use Rattle.quick_move.specs.Quick.{ReadsMove, Framed}

words : {s : List ℕ} {at m1 m2 m3 m4 m5 m6 next a b : ℕ} {w : Name} → IsName w → Spans s at (bytes " (move ") m1 → Spans s m1 w m2
    → Spans s m2 (bytes " ") m3 → FigureStands s m3 a m4 → Spans s m4 (bytes " ") m5 → FigureStands s m5 b m6 → Spans s m6 (bytes ")") next
    → move_form s at ≡ got (record { event = w; pre = a; post = b }) next
unfolding written_move move_bytes
words {s} {at} {next = next} {a} {b} {w} o p1 p2 p3 p4 p5 p6 p7 =
    let x : NamedMove = record { event = w; pre = a; post = b } in
    let p = then p1 (then p2 (then p3 (then p4.spans (then p5 (then p6.spans p7))))) in
    move_complete x (record { event = o; pre = p4.most; post = p6.most }) s at (drop next s) tt p.bytes ∙ ap (got x) (sym p.moved)

-- the same bytes, where the position after them is written another way
ended : {s w : List ℕ} {at j q : ℕ} → j ≡ q → Spans s at w j → Spans s at w q
ended f h = rw (← f) h

-- the code's tests of the first seven bytes
pub opening : (s : List ℕ) → ((i : ℕ) → get_or s i 0 < 256) → (at v : ℕ) (o p q : Bool) → at + 8 ≤ length s → v ≡ packed (part s at 4)
    → (o ≡ true → Spans s (at + 4) (bytes "v") (at + 4 + 1)) → (p ≡ true → Spans s (at + 5) (bytes "e") (at + 5 + 1)) → (q ≡ true → Spans s (at + 6) (bytes " ") (at + 6 + 1))
    → (((eqb v 539520367 && o) && p) && q) ≡ true → Spans s at (bytes " (move ") (at + 7)
unfolding every
opening s each at v o p q b e co cp cq t =
    let (t2, tq) = both ((eqb v 539520367 && o) && p) q t in
    let (t1, tp) = both (eqb v 539520367 && o) p t2 in
    let (tv, to) = both (eqb v 539520367) o t1 in
    then (told_four s each at v (bytes " (mo") tt refl (omega arith) e tv)
    (then (ended (omega arith) (co to)) (then (ended (omega arith) (cp tp)) (ended (omega arith) (cq tq))))

-- the code's tests of the bytes around the words
pub framed : (s : List ℕ) (at to mid end : ℕ) (o p q r : Bool) → (o ≡ true → Spans s at (bytes " (move ") (at + 7))
    → (p ≡ true → Spans s to (32 ∷ []) (to + 1)) → (q ≡ true → Spans s mid (32 ∷ []) (mid + 1)) → (r ≡ true → Spans s end (41 ∷ []) (end + 1))
    → (((o && p) && q) && r) ≡ true → Framed s at to mid end
framed s at to mid end o p q r co cp cq cr t =
    let (t3, tr) = both ((o && p) && q) r t in
    let (t2, tq) = both (o && p) q t3 in
    let (to', tp) = both o p t2 in
    record { opening = co to'; behind = cp tp; between = cq tq; closing = cr tr }

-- the code's tests of an entry
pub known : (lens highs lows : List ℕ) (n h l k count : ℕ) (q : Bool) → (q ≡ true → Same lens highs lows n h l k) → (q && ltb k count) ≡ true
    → (k < count) × Same lens highs lows n h l k
known lens highs lows n h l k count q c t = let (eq, b) = both q (ltb k count) t in (ltb-true k count b, c eq)

-- the words where the code guesses them
module _ (s lens highs lows : List ℕ) (at count size h l : ℕ) (a b : Figure) where
  abbrev from : ℕ
  from = at + 7

  abbrev to : ℕ
  to = from + size

  abbrev mid : ℕ
  mid = to + 1 + a.size

  abbrev end : ℕ
  end = mid + 1 + b.size

  pub verified : at + 40 ≤ length s → size ≤ 16 → Packs s from size h l → GuessedFigure s (to + 1) mid a → GuessedFigure s (mid + 1) end b
      → (p : Bool) → (p ≡ true → Framed s at to mid end) → ((p && a.found) && b.found) ≡ true
      → (k : ℕ) → (k < count) × Same lens highs lows size h l k → ReadsMove s at count lens highs lows k a.value b.value (end + 1)
  verified room most packed fa fb p cp t k (c, m) =
      let (t1, eb) = both (p && a.found) b.found t in
      let (ep, ea) = both p a.found t1 in
      let f = cp ep in
      let d : size ≤ length (drop from s) = omega (arith, length-drop from s) in
      record {
        event = c;
        move = λ es r.
            let e = get_or es k [] in
            let w = part s from size in
            let o : IsName e = entry_name r k c in
            let (long, high, low) = entry_same r k c m in
            let i : OneEvent w e = packed.one e o long high low in (
              w,
              i,
              words (one_name w e i o) f.opening (spans_part s from size to refl d) f.behind (fa.stands ea) f.between (fb.stands eb) f.closing,
            );
      }

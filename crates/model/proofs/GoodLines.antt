-- Good lines: the test of a line decides what a good line is; the lines that a sheet begins with, and the bytes 10 at their ends.
use Prim.Native.Nat.{ℕ, zero, suc, ◌+◌, ◌≤◌, ◌<◌}
use native.Mathlib.Omega.{arith}
use mathlib.Core.Path.{◌≡◌, refl, ap, sym, ◌∙◌, subst}
use mathlib.Core.Logic.{◌⊎◌, inl, inr}
use mathlib.Core.Bool.{Bool, not, ◌&&◌}
use mathlib.Core.List.{List, [], ◌∷◌, ◌++◌, map, flat_map, append_assoc, append-nil, append_cancel_left, Memᴰ}
use lib.Dec.{T, leb, ltb, eqb, leb→le, le→leb, ltb→lt, lt→ltb, eqb→eq}
use lib.ListN.{length, take, drop, length-append}
use lib.Seq.{take-append_seam, length-take-le}
use Rattle.model.specs.Lists.{At, every, count}
use Rattle.model.specs.Bytes.{Name, OneEvent}
use Rattle.model.specs.Text.{distinct}
use Rattle.model.specs.Sheet.{NamedMove, NamedLine, Board, written_move, move_bytes, written_line, written_count, written_sheet}
use Rattle.model.specs.Board.{is_good_move, names_on, is_good_line}
use Rattle.model.specs.BoardTable.{GoodMove, GoodLine, BeginsSheet, SaysSheet}
use Rattle.model.proofs.Laws.{contra, and_l, and_r, and_i, neqb, eqb_of, every_elim, every_intro}
use Rattle.model.proofs.ListLaws.{flat_map_append}
use Rattle.model.proofs.Positions.{at_below, mem_at, at_middle, at_map, map_at}
use Rattle.model.proofs.Counting.{count_append}
use Rattle.model.proofs.Words.{past}
use Rattle.model.proofs.Sheets.{at_snoc}
use Rattle.model.proofs.SheetForms.{MoveFormed, LineFormed}
use Rattle.model.proofs.LineEnds.{ends, figure_ends, name_ends, none_in_each}
use Rattle.model.proofs.OneEvent.{Apart, distinct_apart, apart_distinct}
use Rattle.model.proofs.SheetNames.{few_of, of_few}

-- ---- a good line

good_move : (n : ℕ) (x : NamedMove) → MoveFormed x → T (is_good_move n x) → GoodMove n x
unfolding is_good_move
good_move n x f t =
    let r = and_r (ltb x.pre n) (ltb x.post n && not (eqb x.pre x.post)) t in
    record {
      name = f.event;
      pre = ltb→lt x.pre n (and_l (ltb x.pre n) (ltb x.post n && not (eqb x.pre x.post)) t);
      post = ltb→lt x.post n (and_l (ltb x.post n) (not (eqb x.pre x.post)) r);
      differ = λ q. contra (eqb x.pre x.post) (and_r (ltb x.post n) (not (eqb x.pre x.post)) r) (eqb_of x.pre x.post q);
    }

move_good : (n : ℕ) (x : NamedMove) → GoodMove n x → T (is_good_move n x)
unfolding is_good_move
move_good n x g =
    and_i (ltb x.pre n) (ltb x.post n && not (eqb x.pre x.post)) (lt→ltb x.pre n g.pre)
    (and_i (ltb x.post n) (not (eqb x.pre x.post)) (lt→ltb x.post n g.post) (neqb x.pre x.post g.differ))

abbrev event_of : NamedMove → Name
event_of x = x.event

module _ (before : Board) (l : NamedLine) where
  abbrev N : Bool
  N = eqb l.number (length before)

  abbrev P1 : Bool
  P1 = leb 1 l.place_count

  abbrev P2 : Bool
  P2 = leb l.place_count 64

  abbrev S : Bool
  S = ltb l.start l.place_count

  abbrev M : Bool
  M = every (is_good_move l.place_count) l.moves

  abbrev D : Bool
  D = distinct (map event_of l.moves)

  abbrev F : Bool
  F = leb (length (names_on (before ++ (l ∷ [])))) 64

  pub good_line : LineFormed l → T (is_good_line before l) → GoodLine before l
  unfolding is_good_line
  good_line f t =
      let t1 = and_r N (P1 && (P2 && (S && (M && (D && F))))) t in
      let t2 = and_r P1 (P2 && (S && (M && (D && F)))) t1 in
      let t3 = and_r P2 (S && (M && (D && F))) t2 in
      let t4 = and_r S (M && (D && F)) t3 in
      let t5 = and_r M (D && F) t4 in
      record {
        number = eqb→eq l.number (length before) (and_l N (P1 && (P2 && (S && (M && (D && F))))) t);
        places_least = leb→le 1 l.place_count (and_l P1 (P2 && (S && (M && (D && F)))) t1);
        places_most = leb→le l.place_count 64 (and_l P2 (S && (M && (D && F))) t2);
        start = ltb→lt l.start l.place_count (and_l S (M && (D && F)) t3);
        moves = λ x m. good_move l.place_count x (f.moves x m) (every_elim (is_good_move l.place_count) l.moves (and_l M (D && F) t4) x m);
        once = λ i j x y a b o. distinct_apart (map event_of l.moves) (and_l D F t5) i j x.event y.event (map_at event_of l.moves i x a) (map_at event_of l.moves j y b) o;
        names = few_of (before ++ (l ∷ [])) (leb→le (length (names_on (before ++ (l ∷ [])))) 64 (and_r D F t5));
      }

  pub line_good : GoodLine before l → T (is_good_line before l)
  unfolding is_good_line
  line_good g =
      and_i N (P1 && (P2 && (S && (M && (D && F))))) (eqb_of l.number (length before) g.number)
      (and_i P1 (P2 && (S && (M && (D && F)))) (le→leb 1 l.place_count g.places_least)
      (and_i P2 (S && (M && (D && F))) (le→leb l.place_count 64 g.places_most)
      (and_i S (M && (D && F)) (lt→ltb l.start l.place_count g.start)
      (and_i M (D && F) (every_intro (is_good_move l.place_count) l.moves (λ x m. move_good l.place_count x (g.moves x m)))
      (and_i D F (apart_distinct (map event_of l.moves) apart) (le→leb (length (names_on (before ++ (l ∷ [])))) 64 (of_few (before ++ (l ∷ [])) g.names)))))))
    where
      apart : Apart (map event_of l.moves)
      apart i j e f a b o =
          let x = at_map event_of l.moves i e a in
          let y = at_map event_of l.moves j f b in
          g.once i j x.0 y.0 x.1 y.1 (subst (λ (z : Name). OneEvent z y.0.event) x.2 (subst (λ (z : Name). OneEvent e z) y.2 o))

  -- the figures of a good line have three digits at most
  pub formed_of : length before ≤ 999 → GoodLine before l → LineFormed l
  formed_of h g =
      record {
        number = omega (arith, g.number);
        count = omega (arith, g.places_most);
        start = omega (arith, g.start, g.places_most);
        moves = λ x m.
            let y = g.moves x m in
            record { event = y.name; pre = omega (arith, y.pre, g.places_most); post = omega (arith, y.post, g.places_most) };
      }

-- ---- the lines that a sheet begins with

take_left : {A : Type 0} (b c : List A) (k : ℕ) → k ≤ length b → take k (b ++ c) ≡ take k b
take_left b c zero h = refl
take_left [] c (suc k) h = absurd (omega arith)
take_left (x ∷ b) c (suc k) h = ap (λ l. x ∷ l) (take_left b c k (omega arith))

lines_last : (b : Board) (l : NamedLine) (rest : List ℕ) → flat_map written_line (b ++ (l ∷ [])) ++ rest ≡ flat_map written_line b ++ (written_line l ++ rest)
unfolding flat_map
lines_last b l rest =
    ap (λ (x : List ℕ). x ++ rest) (flat_map_append written_line b (l ∷ []))
    ∙ append_assoc (flat_map written_line b) (written_line l ++ []) rest
    ∙ ap (λ (x : List ℕ). flat_map written_line b ++ (x ++ rest)) (append-nil (written_line l))

module _ (s : List ℕ) (n : ℕ) (b : Board) where
  -- one line more
  pub opens_next : (l : NamedLine) (rest after : List ℕ) → BeginsSheet s n b rest → length b < n → GoodLine b l → rest ≡ written_line l ++ after → BeginsSheet s n (b ++ (l ∷ [])) after
  opens_next l rest after o h g e =
      record {
        least = o.least;
        most = o.most;
        few = simp length-append (omega arith);
        good = λ k x a. good k x (at_snoc b l k x a);
        bytes = o.bytes ∙ ap (λ (w : List ℕ). written_count n ++ (flat_map written_line b ++ w)) e ∙ ap (λ (w : List ℕ). written_count n ++ w) (sym (lines_last b l after));
      }
    where
      good : (k : ℕ) (x : NamedLine) → At b k x ⊎ ((k ≡ length b) × (x ≡ l)) → GoodLine (take k (b ++ (l ∷ []))) x
      good k x (inl a) = subst (λ (c : Board). GoodLine c x) (sym (take_left b (l ∷ []) k (omega (arith, at_below b k x a)))) (o.good k x a)
      good k x (inr a) =
          subst (λ (i : ℕ). GoodLine (take i (b ++ (l ∷ []))) x) (sym a.0)
          (subst (λ (c : Board). GoodLine c x) (sym (take-append_seam b (l ∷ []))) (subst (GoodLine b) (sym a.1) g))

  -- what one line more says of the bytes after these
  pub next_opens : (l : NamedLine) (rest after : List ℕ) → BeginsSheet s n b rest → BeginsSheet s n (b ++ (l ∷ [])) after → (length b < n) × GoodLine b l × (rest ≡ written_line l ++ after)
  next_opens l rest after o q = (
    omega (arith, q.few, length-append b (l ∷ [])),
    subst (λ (c : Board). GoodLine c l) (take-append_seam b (l ∷ [])) (q.good (length b) l (at_middle b [] l)),
    append_cancel_left (flat_map written_line b) rest (written_line l ++ after)
        (append_cancel_left (written_count n) (flat_map written_line b ++ rest) (flat_map written_line b ++ (written_line l ++ after))
        (sym o.bytes ∙ q.bytes ∙ ap (λ (w : List ℕ). written_count n ++ w) (lines_last b l after))),
  )

  -- the position after them
  pub opens_at : (rest : List ℕ) → BeginsSheet s n b rest → drop (0 + length (written_count n) + length (flat_map written_line b)) s ≡ rest
  opens_at rest o = past s (0 + length (written_count n)) (flat_map written_line b) rest (past s 0 (written_count n) (flat_map written_line b ++ rest) o.bytes)

  -- the end of a good sheet
  pub opens_says : length s ≤ 32768 → length b ≡ n → BeginsSheet s n b [] → SaysSheet s b
  unfolding written_sheet
  opens_says h q o =
      (w, record { least = omega (arith, o.least); most = omega (arith, o.most); good = o.good; size = subst (λ (x : List ℕ). length x ≤ 32768) w h })
    where
      w : s ≡ written_sheet b
      w = o.bytes ∙ ap (λ (x : List ℕ). written_count n ++ x) (append-nil (flat_map written_line b)) ∙ ap (λ (k : ℕ). written_count k ++ flat_map written_line b) (sym q)

pub says_opens : (s : List ℕ) (b : Board) → SaysSheet s b → BeginsSheet s (length b) b []
unfolding written_sheet
says_opens s b (e, g) =
    record {
      least = g.least;
      most = g.most;
      few = omega arith;
      good = g.good;
      bytes = e ∙ ap (λ (x : List ℕ). written_count (length b) ++ x) (sym (append-nil (flat_map written_line b)));
    }

-- ---- every line has one byte 10, at its end

move_ends : (x : NamedMove) → MoveFormed x → ends (written_move x) ≡ 0
unfolding written_move move_bytes count
move_ends x f =
    simp (count_append (eqb 10)) (omega (arith, name_ends x.event f.event, figure_ends x.pre f.pre, figure_ends x.post f.post))

line_ends : (l : NamedLine) → LineFormed l → ends (written_line l) ≡ 1
unfolding written_line count
line_ends l f =
    simp (count_append (eqb 10))
    (omega (
      arith,
      figure_ends l.number f.number,
      figure_ends l.place_count f.count,
      figure_ends l.start f.start,
      none_in_each written_move l.moves (λ x m. move_ends x (f.moves x m)),
    ))

count_ends : (n : ℕ) → n ≤ 999 → ends (written_count n) ≡ 1
unfolding written_count count
count_ends n h = simp (count_append (eqb 10)) (omega (arith, figure_ends n h))

lines_end : (b : Board) → ((l : NamedLine) → Memᴰ l b → LineFormed l) → ends (flat_map written_line b) ≡ length b
unfolding flat_map count
lines_end [] h = refl
lines_end (l ∷ b) h =
    count_append (eqb 10) (written_line l) (flat_map written_line b)
    ∙ omega (arith, line_ends l (h l (Memᴰ.head refl)), lines_end b (λ k m. h k (Memᴰ.tail m)))

pub sheet_lines_lem : (s : List ℕ) (n : ℕ) (b : Board) (rest : List ℕ) → BeginsSheet s n b rest → ends s ≡ suc (length b) + ends rest
sheet_lines_lem s n b rest o =
    ap ends o.bytes ∙ count_append (eqb 10) (written_count n) (flat_map written_line b ++ rest)
    ∙ omega (
      arith,
      count_append (eqb 10) (flat_map written_line b) rest,
      count_ends n (omega (arith, o.most)),
      lines_end b each,
    )
  where
    each : (l : NamedLine) → Memᴰ l b → LineFormed l
    each l m =
        let k = mem_at b l m in
        let h = at_below b k.0 l k.1 in
        formed_of (take k.0 b) l (omega (arith, length-take-le k.0 b (omega arith), o.few, o.most)) (o.good k.0 l k.1)

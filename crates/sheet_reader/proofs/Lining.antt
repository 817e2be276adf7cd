-- A machine's line, by the ways out of the code.
use Prim.Native.Nat.{ℕ, ◌≤◌, ◌<◌}
use native.Mathlib.Omega.{arith}
use mathlib.Core.Path.{◌≡◌, refl, ap, sym, ◌∙◌, subst}
use mathlib.Core.Bool.{Bool, true, false, not, ◌&&◌, false≢true}
use mathlib.Core.List.{List, [], ◌∷◌, ◌++◌, map}
use mathlib.Core.Option.{Option, none, some}
use lib.Dec.{T, T_not, eqb, leb, ltb, leb→le, le→leb}
use lib.ListN.{length}
use Rattle.model.specs.Lists.{every}
use Rattle.model.specs.Bytes.{bytes, Name}
use Rattle.model.specs.Reading.{Parsed, fail, got, after, lit_bytes, items, many}
use Rattle.model.specs.Text.{distinct}
use Rattle.model.specs.Sheet.{NamedMove, NamedLine, Board, move_form, Head, head_form, line_form}
use Rattle.model.specs.Board.{is_good_move, add_names, names_on, is_good_line}
use Rattle.model.proofs.Laws.{and_l, and_r, and_i}
use Rattle.model.proofs.OneEvent.{distinct_apart, apart_distinct}
use Rattle.std.specs.Prelude.{Some, None, Result, Ok, Err}
use Rattle.std.specs.Prelude as Std
use Rattle.lexer.proofs.Answers.{word_missing, word_got}
use Rattle.sheet_lines.specs.declared.HeadLine.{HeadLine}
use Rattle.sheet_lines.specs.Moves.{head_line, as_head}
use Rattle.sheet_reader.specs.declared.moves.BadLine.{BadLine}
use Rattle.sheet_reader.specs.BoardRows.{Rows, store_moves, TellsBoard}
use Rattle.sheet_reader.specs.Lent.{Lent, rows_of, HoldsRows}
use Rattle.sheet_reader.specs.Storing.{LeavesMoves, ReadsMoves}
use Rattle.sheet_reader.specs.Lines.{Told, LineLeft, good, bad, ReadsLine}
use Rattle.sheet_reader.proofs.LineMoves.{names_last}
use Rattle.sheet_reader.proofs.LineRows.{event_of, Line, LineStored, all_fit, one_stops, store_line}

-- ---- the line's head first

abbrev line_with : Head → List NamedMove → NamedLine
line_with h xs = record { number = h.number; place_count = h.place_count; start = h.start; moves = xs }

module _ (s : List ℕ) where
  abbrev rest : Head → ℕ → Parsed NamedLine
  rest h m = after (items move_form s m) (λ xs k. after (lit_bytes (bytes ")\n") s k) (λ _ n. got (line_with h xs) n))

  pub head_missing : {r : Std.Option HeadLine} (at : ℕ) → r ≡ as_head (head_form s at) → r ≡ None → line_form s at ≡ fail
  unfolding line_form as_head
  head_missing at p q = rw (word_missing head_line (head_form s at) p q)

  abbrev pub head_of : HeadLine → Head
  head_of h = record { number = h.number; place_count = h.places; start = h.start }

  -- the line after its head: the moves, and its end
  abbrev pub closed : HeadLine → Parsed NamedLine
  closed h = after (lit_bytes (bytes ")\n") s (many move_form s h.next).1) (λ _ n. got (line_with (head_of h) (many move_form s h.next).0) n)

  pub head_got : {r : Std.Option HeadLine} {h : HeadLine} (at : ℕ) → r ≡ as_head (head_form s at) → r ≡ Some h → line_form s at ≡ closed h
  unfolding line_form as_head head_line
  head_got at p q =
      let (g, n, e, w) = word_got head_line (head_form s at) p q in
      rw e (ap (λ (x : HeadLine). closed x) w)

  line_is : (h : HeadLine) (l : NamedLine) (next : ℕ) → closed h ≡ got l next → l ≡ line_with (head_of h) (many move_form s h.next).0
  line_is h l next e = go (lit_bytes (bytes ")\n") s (many move_form s h.next).1) e
    where
      go : (o : Parsed (Unit {0})) → after o (λ _ n. got (line_with (head_of h) (many move_form s h.next).0) n) ≡ got l next → l ≡ line_with (head_of h) (many move_form s h.next).0
      go fail q = let z : ◌≡◌ {A = ℕ} 0 1 = cc in absurd (omega arith)
      go (got x n) q = cc

-- ---- what makes it good

abbrev pub head_test : HeadLine → ℕ → Bool
head_test h m = eqb h.number m && (leb 1 h.places && (leb h.places 64 && ltb h.start h.places))

module _ (b : Board) (h : HeadLine) (xs : List NamedMove) where
  abbrev l : NamedLine
  l = record { number = h.number; place_count = h.places; start = h.start; moves = xs }

  abbrev N : Bool
  N = eqb h.number (length b)

  abbrev P1 : Bool
  P1 = leb 1 h.places

  abbrev P2 : Bool
  P2 = leb h.places 64

  abbrev S : Bool
  S = ltb h.start h.places

  abbrev M : Bool
  M = every (is_good_move h.places) xs

  abbrev D : Bool
  D = distinct (map event_of xs)

  abbrev F : Bool
  F = leb (length (names_on (b ++ (l ∷ [])))) 64

  head_part : T (is_good_line b l) → T (head_test h (length b))
  unfolding is_good_line
  head_part t =
      let t1 = and_r N (P1 && (P2 && (S && (M && (D && F))))) t in
      let t2 = and_r P1 (P2 && (S && (M && (D && F)))) t1 in
      let t3 = and_r P2 (S && (M && (D && F))) t2 in
      and_i N (P1 && (P2 && S)) (and_l N (P1 && (P2 && (S && (M && (D && F))))) t)
      (and_i P1 (P2 && S) (and_l P1 (P2 && (S && (M && (D && F)))) t1) (and_i P2 S (and_l P2 (S && (M && (D && F))) t2) (and_l S (M && (D && F)) t3)))

  line_part : (ns : List Name) → ns ≡ names_on b → T (is_good_line b l) → Line b l [] h.places ns xs
  unfolding is_good_line
  line_part ns q t =
      let t1 = and_r N (P1 && (P2 && (S && (M && (D && F))))) t in
      let t2 = and_r P1 (P2 && (S && (M && (D && F)))) t1 in
      let t3 = and_r P2 (S && (M && (D && F))) t2 in
      let t4 = and_r S (M && (D && F)) t3 in
      let t5 = and_r M (D && F) t4 in
      record {
        good = and_l M (D && F) t4;
        apart = distinct_apart (map event_of xs) (and_l D F t5);
        few = subst (λ (k : ℕ). k ≤ 64) (ap length (names_last b l xs ∙ ap (λ (z : List Name). add_names z xs) (sym q))) (leb→le (length (names_on (b ++ (l ∷ [])))) 64 (and_r D F t5));
      }

  parts_line : (ns : List Name) → ns ≡ names_on b → T (head_test h (length b)) → Line b l [] h.places ns xs → T (is_good_line b l)
  unfolding is_good_line
  parts_line ns q t g =
      let t1 = and_r N (P1 && (P2 && S)) t in
      let t2 = and_r P1 (P2 && S) t1 in
      and_i N (P1 && (P2 && (S && (M && (D && F))))) (and_l N (P1 && (P2 && S)) t)
      (and_i P1 (P2 && (S && (M && (D && F)))) (and_l P1 (P2 && S) t1)
      (and_i P2 (S && (M && (D && F))) (and_l P2 S t2)
      (and_i S (M && (D && F)) (and_r P2 S t2)
      (and_i M (D && F) g.good
      (and_i D F (apart_distinct (map event_of xs) g.apart)
      (le→leb (length (names_on (b ++ (l ∷ [])))) 64
      (subst (λ (k : ℕ). k ≤ 64) (ap length (ap (λ (z : List Name). add_names z xs) q ∙ sym (names_last b l xs))) g.few)))))))

pub places_most : (h : HeadLine) (m : ℕ) → head_test h m ≡ true → h.places ≤ 64
places_most h m f =
    let g : T (head_test h m) = subst T (sym f) tt in
    let g1 = and_r (eqb h.number m) (leb 1 h.places && (leb h.places 64 && ltb h.start h.places)) g in
    let g2 = and_r (leb 1 h.places) (leb h.places 64 && ltb h.start h.places) g1 in
    leb→le h.places 64 (and_l (leb h.places 64) (ltb h.start h.places) g2)

-- ---- the ways out

module _ (s : List ℕ) (at m count : ℕ) (t : Lent) where
  pub reads_none : line_form s at ≡ fail → {b : BadLine} (c : ℕ) (u : Lent) → ReadsLine s at m count t (Err b) c u
  reads_none e c u = record { left = λ b k w. bad refl (λ l next p. cc) }

  module _ (h : HeadLine) (e : line_form s at ≡ closed s h) where
    abbrev xs : List NamedMove
    xs = (many move_form s h.next).0

    pub reads_head : head_test h m ≡ false → {b : BadLine} (c : ℕ) (u : Lent) → ReadsLine s at m count t (Err b) c u
    reads_head f c u =
        record {
          left = λ b k w. bad refl (λ l next p g.
              T_not (head_test h (length b)) (subst (λ (x : Bool). T (not x)) (sym (subst (λ (i : ℕ). head_test h i ≡ false) k f)) tt)
              (head_part b h xs (subst (λ (x : NamedLine). T (is_good_line b x)) (line_is s h l next (sym e ∙ p)) g)));
        }

    module _ (f : head_test h m ≡ true) (room : m < 16) {r : Result ℕ BadLine} {c : ℕ} {u : Lent} (a : ReadsMoves s h.next m h.places count t r c u) where
      stored : (b : Board) → m ≡ length b → (w : Told b count t) → LineStored b (l b h xs) [] h.places w.names xs (store_moves m h.places (rows_of w.names t) xs)
      stored b k w =
          subst (λ (i : ℕ). LineStored b (l b h xs) [] h.places w.names xs (store_moves i h.places (rows_of w.names t) xs)) (sym k)
          (store_line b (l b h xs) (omega arith) h.places (places_most h m f) xs (rows_of w.names t) w.tells)

      pub reads_bad : {b : BadLine} → r ≡ Err b → ReadsLine s at m count t (Err b) c u
      unfolding LeavesMoves
      reads_bad n =
          record {
            left = λ b k w. bad refl (λ l' next p g.
                go b k w (store_moves m h.places (rows_of w.names t) xs) (a.leaves w.names w.held) (stored b k w)
                (line_part b h xs w.names w.tells.names (subst (λ (x : NamedLine). T (is_good_line b x)) (line_is s h l' next (sym e ∙ p)) g)));
          }
        where
          go : (b : Board) → m ≡ length b → (w : Told b count t) → (o : Option Rows) → LeavesMoves o (many move_form s h.next).1 r c u
              → LineStored b (l b h xs) [] h.places w.names xs o → Line b (l b h xs) [] h.places w.names xs → ⊥
          go b k w o v (one_stops y x) g = x g
          go b k w none v (all_fit d y x tl) g = cc
          go b k w (some d) v (all_fit d' y x tl) g = let z = v.0 in cc

      module _ {end : ℕ} (n : r ≡ Ok end) where
        pub reads_open : lit_bytes (bytes ")\n") s end ≡ fail → {b : BadLine} → ReadsLine s at m count t (Err b) c u
        unfolding LeavesMoves
        reads_open y =
            record {
              left = λ b k w. bad refl (λ l' next p g.
                  go b k w (store_moves m h.places (rows_of w.names t) xs) (a.leaves w.names w.held) l' next p);
            }
          where
            go : (b : Board) → m ≡ length b → (w : Told b count t) → (o : Option Rows) → LeavesMoves o (many move_form s h.next).1 r c u → (l' : NamedLine) (next : ℕ) → line_form s at ≡ got l' next → ⊥
            go b k w none v l' next p = false≢true (rw n at v)
            go b k w (some d) v l' next p =
                let same : (many move_form s h.next).1 ≡ end = let z = v.0 in cc in
                let x : fail ≡ got l' next =
                sym (ap (λ (i : ℕ). after (lit_bytes (bytes ")\n") s i) (λ _ j. got (line_with (head_of s h) xs) j)) same ∙ ap (λ (o : Parsed (Unit {0})). after o (λ _ j. got (line_with (head_of s h) xs) j)) y) ∙ sym e ∙ p in
                cc

        pub reads_good : (next : ℕ) → lit_bytes (bytes ")\n") s end ≡ got tt next → ReadsLine s at m count t (Ok (record { start = h.start; next = next })) c u
        unfolding LeavesMoves
        reads_good next y =
            record {
              left = λ b k w. go b k w (store_moves m h.places (rows_of w.names t) xs) (a.leaves w.names w.held) (stored b k w);
            }
          where
            go : (b : Board) → m ≡ length b → (w : Told b count t) → (o : Option Rows) → LeavesMoves o (many move_form s h.next).1 r c u
                → LineStored b (l b h xs) [] h.places w.names xs o → LineLeft b (line_form s at) (Ok (record { start = h.start; next = next })) c u
            go b k w none v st = absurd (false≢true (rw n at v))
            go b k w (some d) v (one_stops q x) = absurd cc
            go b k w (some d) v (all_fit q x g tl) =
                let dc : d ≡ q = cc in
                let last : (many move_form s h.next).1 ≡ end = let z = v.0 in cc in
                good (l b h xs) (record { start = h.start; next = next }) refl
                (e ∙ ap (λ (i : ℕ). after (lit_bytes (bytes ")\n") s i) (λ _ j. got (line_with (head_of s h) xs) j)) last ∙ ap (λ (o : Parsed (Unit {0})). after o (λ _ j. got (line_with (head_of s h) xs) j)) y)
                (parts_line b h xs w.names w.tells.names (subst (λ (i : ℕ). T (head_test h i)) k (subst T (sym f) tt)) g)
                a.most refl
                (record {
                  names = d.names;
                  held = v.1.held;
                  tells = subst (TellsBoard (b ++ (l b h xs ∷ []))) (sym dc ∙ same d v.1) tl;
                })
              where
                same : (d : Rows) → HoldsRows d c u → d ≡ rows_of d.names u
                same d hh = λ i. record { names = d.names; pre = sym hh.pre i; post = sym hh.post i }

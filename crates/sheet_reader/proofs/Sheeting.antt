-- The whole sheet: the loop's invariant and its ways out.
use Prim.Native.Nat.{ℕ, zero, suc, ◌+◌, ◌-◌, ◌≤◌, ◌<◌}
use native.Mathlib.Omega.{arith}
use mathlib.Core.Path.{◌≡◌, refl, ap, sym, ◌∙◌}
use mathlib.Core.Bool.{false, ◌&&◌, false≢true}
use mathlib.Core.List.{List, [], ◌∷◌, ◌++◌, map, flat_map}
use mathlib.Core.Option.{none, none-ne-some}
use lib.Dec.{T, leb, ltb, ltb→lt, leb→le, le→leb, eqb}
use lib.ListN.{length, get_or, set, replicate, length-append, length-map, length-replicate}
use lib.Seq.{sets}
use Rattle.model.specs.Lists.{every}
use Rattle.model.specs.Refusal.{refuse, refused, passed, need, ◌>>◌}
use Rattle.model.specs.Reading.{Parsed, fail, got}
use Rattle.model.specs.Text.{distinct}
use Rattle.model.specs.Sheet.{NamedMove, NamedLine, Board, count_form, line_form}
use Rattle.model.specs.Board.{is_good_move, add_names, names_on, is_good_line, machine_then, machines_from, count_then, read_sheet, start_places}
use Rattle.model.proofs.Laws.{T_true, T_false, not_T, and_l, and_r}
use Rattle.model.proofs.ListLaws.{map_append, sets_snoc}
use Rattle.rows.specs.Rows.{row}
use Rattle.sheet_reader.specs.declared.machine_line.LineAt.{LineAt}
use Rattle.std.specs.Prelude.{Result, Ok, Err}
use Rattle.model.specs.declared.Refusal.TheVariants.{BadSheet}
use Rattle.sheet_reader.specs.declared.moves.BadLine.{BadLine}
use Rattle.regions.specs.Moves.{move_at}
use Rattle.sheet_reader.specs.BoardRows.{cell, move_in}
use Rattle.sheet_reader.specs.Lent.{Lent, rows_of, Holding}
use Rattle.sheet_reader.specs.Lines.{Told, LineLeft, good, bad, ReadsLine}
use Rattle.names.specs.declared.Names.{Names}
use Rattle.names.specs.Held.{no_names}
use Rattle.rows.specs.declared.Moves.{Moves}
use Rattle.sheet_reader.specs.Sheets.{FreshBoard, FreshSheet, SheetLeft, ReadsSheet}

-- ---- fresh rows

get_d_replicate : (n k x : ℕ) → k < n → get_or (replicate n x) k 0 ≡ x
get_d_replicate zero k x h = absurd (omega arith)
get_d_replicate (suc n) zero x h = refl
get_d_replicate (suc n) (suc k) x h = get_d_replicate n k x (omega arith)

module _ (t : Lent) (ps : List ℕ) (f : FreshBoard t ps) where
  no_move : (e k : ℕ) → e < 64 → k < 16 → move_in (rows_of [] t) e k ≡ none
  unfolding move_at
  no_move e k a b =
      let z : get_or t.pre (cell e k) 0 ≡ 255 = ap (λ (l : List ℕ). get_or l (cell e k) 0) f.pre ∙ get_d_replicate 1024 (cell e k) 255 (omega arith) in
      rw z

  fresh_told : Told [] 0 t
  unfolding names_on add_names flat_map distinct
  fresh_told =
      record {
        names = [];
        held = record {
          packed = record { counted = refl; most = omega arith; names = λ e m. elim m [ ]; lengths = f.lens; high = f.highs; low = f.lows };
          once = tt;
        };
        tells = record {
          names = refl;
          few = omega arith;
          rows = record { pre_size = ap length f.pre ∙ length-replicate {A = ℕ} 1024 255; post_size = f.post_size };
          on = λ k l e w c a i. absurd (none-ne-some w i);
          no_event = λ e k a b c. no_move e k a b;
          no_machine_lem = λ e k a b c. no_move e k a b;
        };
      }

-- ---- the loop

pub fresh_sheet : {names : Names} {moves : Moves} → names ≡ no_names → moves.pre ≡ replicate 1024 255 → length moves.post ≡ 1024
    → FreshSheet (record { names = names; moves = moves; starts = replicate 16 0 })
unfolding row
fresh_sheet {names} {moves} e pre size =
    rw e (record {
      no_names = refl;
      rows = record { lens = refl; highs = refl; lows = refl; pre = pre; post_size = size; places = refl };
    })

pub told_holding : {b : Board} {count : ℕ} {t : Lent} → Told b count t → Holding count t
told_holding w = record { names = w.names; held = w.held }

-- k lines are read, c names and the rows u are there, and the next line is at i
pub record Lining (s : List ℕ) (n c i k : ℕ) (u : Lent) (ps : List ℕ) : Type 0 where
  pub board : Board
  pub counted : length board ≡ k
  pub within : k ≤ n
  pub most : n ≤ 16
  pub few : c ≤ 64
  pub told : Told board c u
  pub places : ps ≡ row 16 0 (start_places board)
  pub goes : read_sheet s ≡ machines_from (n - k) s board i

pub lining_start : (s : List ℕ) (c : ℕ) (t : Lent) (ps : List ℕ) → c ≡ 0 → FreshBoard t ps → length s ≤ 32768 → (n i : ℕ) → count_form s 0 ≡ got n i → 1 ≤ n → n ≤ 16 → Lining s n c i 0 t ps
unfolding read_sheet count_then start_places
lining_start s c t ps none_yet f h n i e a b =
    let z : n - 0 ≡ n = omega arith in
    record {
      board = [];
      counted = refl;
      within = omega arith;
      most = b;
      few = omega arith;
      told = rw none_yet (fresh_told t ps f);
      places = f.places;
      goes = rw (T_true (leb (length s) 32768) (le→leb (length s) 32768 h), e, T_true (leb 1 n) (le→leb 1 n a), T_true (leb n 16) (le→leb n 16 b), z);
    }

-- before the lines of the machines
pub sheet_long : (s : List ℕ) (c : ℕ) (u : Lent) (ps : List ℕ) → 32768 < length s → ReadsSheet s (Err (BadSheet 0)) c u ps
unfolding read_sheet SheetLeft
sheet_long s c u ps h =
    let z : leb (length s) 32768 ≡ false = T_false (leb (length s) 32768) (not_T (leb (length s) 32768) (λ t. omega (arith, leb→le (length s) 32768 t))) in
    record { left = rw z (0, refl, refl) }

module _ (s : List ℕ) (c : ℕ) (u : Lent) (ps : List ℕ) (h : length s ≤ 32768) where
  pub count_none : count_form s 0 ≡ fail → ReadsSheet s (Err (BadSheet 1)) c u ps
  unfolding read_sheet count_then SheetLeft
  count_none e = record { left = rw (T_true (leb (length s) 32768) (le→leb (length s) 32768 h), e) (1, refl, refl) }

  pub count_low : (n i : ℕ) → count_form s 0 ≡ got n i → n < 1 → ReadsSheet s (Err (BadSheet 1)) c u ps
  unfolding read_sheet count_then SheetLeft
  count_low n i e a =
      let z : leb 1 n ≡ false = T_false (leb 1 n) (not_T (leb 1 n) (λ t. omega (arith, leb→le 1 n t))) in
      record { left = rw (T_true (leb (length s) 32768) (le→leb (length s) 32768 h), e, z) (1, refl, refl) }

  pub count_high : (n i : ℕ) → count_form s 0 ≡ got n i → 1 ≤ n → 16 < n → ReadsSheet s (Err (BadSheet 1)) c u ps
  unfolding read_sheet count_then SheetLeft
  count_high n i e b a =
      let z : leb n 16 ≡ false = T_false (leb n 16) (not_T (leb n 16) (λ t. omega (arith, leb→le n 16 t))) in
      record { left = rw (T_true (leb (length s) 32768) (le→leb (length s) 32768 h), e, T_true (leb 1 n) (le→leb 1 n b), z) (1, refl, refl) }

-- the start of a good line
start_low : (b : Board) (l : NamedLine) → T (is_good_line b l) → l.start < 64
unfolding is_good_line
start_low b l t =
    let N = eqb l.number (length b) in
    let P1 = leb 1 l.place_count in
    let P2 = leb l.place_count 64 in
    let S = ltb l.start l.place_count in
    let R = every (is_good_move l.place_count) l.moves && (distinct (map (λ (x : NamedMove). x.event) l.moves) && leb (length (names_on (b ++ (l ∷ [])))) 64) in
    let t1 = and_r N (P1 && (P2 && (S && R))) t in
    let t2 = and_r P1 (P2 && (S && R)) t1 in
    let t3 = and_r P2 (S && R) t2 in
    omega (arith, leb→le l.place_count 64 (and_l P2 (S && R) t2), ltb→lt l.start l.place_count (and_l S R t3))

-- no good line stands there
bad_next : (s : List ℕ) (b : Board) (o : Parsed NamedLine) (m : ℕ) → ((l : NamedLine) (next : ℕ) → o ≡ got l next → ¬ T (is_good_line b l))
    → machine_then b o (machines_from m s) ≡ refused (refuse 15 (length b + 2) 0)
unfolding machine_then
bad_next s b fail m h = refl
bad_next s b (got l next) m h = rw (T_false (is_good_line b l) (not_T (is_good_line b l) (h l next refl)))

module _ {s : List ℕ} {n c i k : ℕ} {u : Lent} {ps : List ℕ} (inv : Lining s n c i k u ps) where
  module _ (low : k < n) {r : Result LineAt BadLine} {d : ℕ} {w : Lent} (a : ReadsLine s i k c u r d w) where
    next_line_lem : LineLeft inv.board (line_form s i) r d w
    next_line_lem = a.left inv.board (sym inv.counted) inv.told

    goes_on : read_sheet s ≡ machine_then inv.board (line_form s i) (machines_from (n - (k + 1)) s)
    unfolding machines_from
    goes_on = let z : n - k ≡ suc (n - (k + 1)) = omega arith in inv.goes ∙ ap (λ (m : ℕ). machines_from m s inv.board i) z

    pub lining_bad : {b : BadLine} → r ≡ Err b → (x : ℕ) (qs : List ℕ) → ReadsSheet s (Err (BadSheet (k + 2))) x w qs
    unfolding SheetLeft
    lining_bad f x qs = go next_line_lem
      where
        go : LineLeft inv.board (line_form s i) r d w → ReadsSheet s (Err (BadSheet (k + 2))) x w qs
        go (good l y g e t m q v) = absurd cc
        go (bad g h) =
            let z : read_sheet s ≡ refused (refuse 15 (length inv.board + 2) 0) = goes_on ∙ bad_next s inv.board (line_form s i) (n - (k + 1)) h in
            record { left = rw z (k + 2, refl, ap (λ (x : ℕ). refuse 15 (x + 2) 0) inv.counted) }

    module _ {x : LineAt} (f : r ≡ Ok x) where
      pub start_byte : x.start < 256
      start_byte = go next_line_lem
        where
          go : LineLeft inv.board (line_form s i) r d w → x.start < 256
          go (good l y g e t m q v) = let z : y.start ≡ x.start = cc in omega (arith, start_low inv.board l t, q)
          go (bad g h) = absurd (false≢true (rw f at g))

      pub lining_more : Lining s n d x.next (k + 1) w (set ps k x.start)
      unfolding machine_then start_places row
      lining_more = go next_line_lem
        where
          go : LineLeft inv.board (line_form s i) r d w → Lining s n d x.next (k + 1) w (set ps k x.start)
          go (bad g h) = absurd (false≢true (rw f at g))
          go (good l y g e t m q v) =
              record {
                board = inv.board ++ (l ∷ []);
                counted = simp length-append (omega (arith, inv.counted));
                within = omega arith;
                most = inv.most;
                few = m;
                told = v;
                places = stored;
                goes = goes_on ∙ rw (e, T_true (is_good_line inv.board l) t, same);
              }
            where
              same : y ≡ x
              same = cc

              stored : set ps k x.start ≡ sets (replicate 16 0) 0 (map (λ (x : NamedLine). x.start) (inv.board ++ (l ∷ [])))
              stored =
                  let z : 0 + length (map (λ (x : NamedLine). x.start) inv.board) ≡ k = omega (arith, length-map inv.board (λ (x : NamedLine). x.start), inv.counted) in
                  rw (inv.places, ← same, q, ← z)
                  (sym (sets_snoc (replicate 16 0) 0 (map (λ (x : NamedLine). x.start) inv.board) l.start)
                  ∙ ap (sets (replicate 16 0) 0) (sym (map_append (λ (x : NamedLine). x.start) inv.board (l ∷ []))))

  module _ (high : n ≤ k) where
    ended : read_sheet s ≡ (need (refuse 15 (length inv.board + 2) 0) (leb (length s) i) >> passed inv.board)
    unfolding machines_from
    ended = let z : n - k ≡ 0 = omega arith in inv.goes ∙ ap (λ (m : ℕ). machines_from m s inv.board i) z

    pub lining_rest : i < length s → ReadsSheet s (Err (BadSheet (n + 2))) c u ps
    unfolding SheetLeft
    lining_rest h =
        let z : leb (length s) i ≡ false = T_false (leb (length s) i) (not_T (leb (length s) i) (λ t. omega (arith, leb→le (length s) i t))) in
        let all : length inv.board ≡ n = omega (arith, inv.counted, inv.within) in
        record { left = rw (ended, z) (n + 2, refl, ap (λ (x : ℕ). refuse 15 (x + 2) 0) all) }

    pub lining_end : length s ≤ i → ReadsSheet s (Ok n) c u ps
    unfolding SheetLeft
    lining_end h =
        let all : length inv.board ≡ n = omega (arith, inv.counted, inv.within) in
        record {
          left = rw (ended, T_true (leb (length s) i) (le→leb (length s) i h)) (ap Ok (sym all), omega (arith, inv.counted, inv.within, inv.most), inv.few, inv.told, inv.places);
        }

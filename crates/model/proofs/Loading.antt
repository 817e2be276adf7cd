-- A board loads its sheet: the reader decides row 15, and reading and writing are inverse on good sheets.
use Prim.Native.Nat.{ℕ, zero, suc, ◌+◌, ◌-◌, ◌≤◌, ◌<◌}
use native.Mathlib.Omega.{arith}
use mathlib.Core.Path.{◌≡◌, refl, ap, sym, ◌∙◌, subst}
use mathlib.Core.Logic.{◌⊎◌, inl, inr}
use mathlib.Core.Bool.{Bool, not, ◌&&◌}
use mathlib.Core.List.{List, [], ◌∷◌, ◌++◌, flat_map, append_assoc, append-nil}
use mathlib.Core.Option.{none-ne-some}
use lib.Dec.{T, leb, leb→le, le→leb, nleb→lt}
use lib.ListN.{length, take, drop, length-append, length-drop, drop_of_length-le}
use Rattle.model.specs.Lists.{At}
use Rattle.model.specs.Refusal.{refuse, Checked, refused, passed, need, ◌>>◌}
use Rattle.model.specs.Reading.{Parsed, fail, got}
use Rattle.model.specs.Sheet.{NamedLine, Board, written_line, written_count, line_form, count_form}
use Rattle.model.specs.Board.{is_good_line, machine_then, machines_from, count_then, read_sheet}
use Rattle.model.specs.BoardTable.{GoodLine, BeginsSheet, BadSheet, too_long, line_1, line, SaysSheet}
use Rattle.model.proofs.Laws.{dec, T_true, T_false, not_T, contra, and_l, and_r, and_i, order}
use Rattle.model.proofs.Words.{Spans, inside, past}
use Rattle.model.proofs.SheetForms.{LineFormed, line_complete, line_sound, line_positive, count_complete, count_sound}
use Rattle.model.proofs.GoodLines.{good_line, line_good, formed_of, opens_next, next_opens, opens_at, opens_says, says_opens}

-- ---- one line

-- what the reader finds after these lines
pub data Next (s : List ℕ) (n : ℕ) (b : Board) (at : ℕ) : Type 0 where
  stands : (l : NamedLine) (next : ℕ) → line_form s at ≡ got l next → T (is_good_line b l) → next ≤ length s → at < next → BeginsSheet s n (b ++ (l ∷ [])) (drop next s) → Next s n b at
  misses : ((rest : Board → ℕ → Checked Board) → machine_then b (line_form s at) rest ≡ refused (refuse 15 (length b + 2) 0))
      → ((l : NamedLine) (after : List ℕ) → ¬ BeginsSheet s n (b ++ (l ∷ [])) after) → Next s n b at

good_found : (s : List ℕ) (n : ℕ) (b : Board) (at : ℕ) (rest : List ℕ) → drop at s ≡ rest → BeginsSheet s n b rest
    → (l : NamedLine) (after : List ℕ) → BeginsSheet s n (b ++ (l ∷ [])) after → T (is_good_line b l) × (line_form s at ≡ got l (at + length (written_line l)))
good_found s n b at rest d o l after q =
    let w = next_opens s n b l rest after o q in
    (line_good b l w.1, line_complete l (formed_of b l (omega (arith, o.few, o.most)) w.1) s at after tt (d ∙ w.2))

got_same : {A : Type 0} (o : Parsed A) (x y : A) (m n : ℕ) → o ≡ got x m → o ≡ got y n → x ≡ y
got_same o x y m n p q = cc

fail_got : {A : Type 0} (o : Parsed A) (x : A) (m : ℕ) → o ≡ fail → o ≡ got x m → ⊥
fail_got o x m p q = let z : ◌≡◌ {A = ℕ} 0 1 = cc in omega arith

pub next_view : (s : List ℕ) (n : ℕ) (b : Board) (at : ℕ) → at ≤ length s → length b < n → BeginsSheet s n b (drop at s) → Next s n b at
unfolding machine_then
next_view s n b at h few o = go (line_form s at) refl
  where
    go : (p : Parsed NamedLine) → line_form s at ≡ p → Next s n b at
    go fail e =
        misses (λ rest. rw e) (λ l after q. fail_got (line_form s at) l (at + length (written_line l)) e (good_found s n b at (drop at s) refl o l after q).1)
    go (got l next) e = by (dec (is_good_line b l)) (line_sound s at l next e)
      where
        by : T (is_good_line b l) ⊎ T (not (is_good_line b l)) → LineFormed l × Spans s at (written_line l) next → Next s n b at
        by (inl t) (f, p) =
            stands l next e t (inside h p) (omega (arith, p.moved, line_positive l)) (opens_next s n b l (drop at s) (drop next s) o few (good_line b l f t) p.bytes)
        by (inr t) (f, p) =
            misses (λ rest. rw (e, T_false (is_good_line b l) t))
            (λ k after q.
            let w = good_found s n b at (drop at s) refl o k after q in
            contra (is_good_line b l) t (subst (λ (x : NamedLine). T (is_good_line b x)) (got_same (line_form s at) k l (at + length (written_line k)) next w.1 e) w.0))

-- ---- all lines

pub data Loaded (s : List ℕ) (c : Checked Board) : Type 0 where
  loaded : (b : Board) → c ≡ passed b → SaysSheet s b → Loaded s c
  bad : (l : ℕ) → c ≡ refused (refuse 15 l 0) → BadSheet s l → Loaded s c

drop_empty : (s : List ℕ) (at : ℕ) → at < length s → ¬ (drop at s ≡ [])
drop_empty s at h e = omega (arith, simp length-drop at (ap length e))

module _ (s : List ℕ) (short : length s ≤ 32768) where
  loop : (k n : ℕ) (b : Board) (at : ℕ) → at ≤ length s → length b + k ≡ n → BeginsSheet s n b (drop at s) → Loaded s (machines_from k s b at)
  unfolding machines_from machine_then
  loop zero n b at h q o = go (dec (leb (length s) at))
    where
      go : T (leb (length s) at) ⊎ T (not (leb (length s) at)) → Loaded s (need (refuse 15 (length b + 2) 0) (leb (length s) at) >> passed b)
      go (inl t) =
          rw (T_true (leb (length s) at) t)
          (loaded b refl (opens_says s n b short (omega arith) (subst (BeginsSheet s n b) (drop_of_length-le s (leb→le (length s) at t)) o)))
      go (inr t) =
          rw (T_false (leb (length s) at) t)
          (bad (length b + 2) refl (line short n b (drop at s) o (λ w. drop_empty s at (nleb→lt (length s) at t) w.1)
          (λ l after p. omega (arith, p.few, length-append b (l ∷ []), q))))
  loop (suc k) n b at h q o = go (next_view s n b at h (omega arith) o) (loop k n)
    where
      go : Next s n b at → ((c : Board) (to : ℕ) → to ≤ length s → length c + k ≡ n → BeginsSheet s n c (drop to s) → Loaded s (machines_from k s c to))
          → Loaded s (machine_then b (line_form s at) (machines_from k s))
      go (stands l next e t i j p) ih = rw (e, T_true (is_good_line b l) t) (ih (b ++ (l ∷ [])) next i (simp length-append (omega arith)) p)
      go (misses e f) ih = rw (e (machines_from k s)) (bad (length b + 2) refl (line short n b (drop at s) o (λ w. omega (arith, w.0, q)) f))

  -- ---- the bytes of good lines are read on

  goes : (ys : Board) (m k : ℕ) (xs : Board) (at : ℕ) (rest : List ℕ) → m ≡ length ys + k → length xs + length ys ≤ 999
      → ((j : ℕ) (l : NamedLine) → At ys j l → GoodLine (xs ++ take j ys) l) → drop at s ≡ flat_map written_line ys ++ rest
      → machines_from m s xs at ≡ machines_from k s (xs ++ ys) (at + length (flat_map written_line ys))
  unfolding machines_from machine_then flat_map
  goes [] m k xs at rest q h g e =
      let a : m ≡ k = omega arith in
      let z : at + 0 ≡ at = omega arith in
      rw (a, z, append-nil xs)
  goes (y ∷ ys) zero k xs at rest q h g e = absurd (omega arith)
  goes (y ∷ ys) (suc m) k xs at rest q h g e =
      let gy : GoodLine xs y = subst (λ (c : Board). GoodLine c y) (append-nil xs) (g 0 y refl) in
      let p : drop at s ≡ written_line y ++ (flat_map written_line ys ++ rest) = e ∙ append_assoc (written_line y) (flat_map written_line ys) rest in
      let r : line_form s at ≡ got y (at + length (written_line y)) = line_complete y (formed_of xs y (omega arith) gy) s at (flat_map written_line ys ++ rest) tt p in
      let z : at + length (written_line y) + length (flat_map written_line ys) ≡ at + length (written_line y ++ flat_map written_line ys) = omega (arith, length-append (written_line y) (flat_map written_line ys)) in
      let ih : machines_from m s (xs ++ (y ∷ [])) (at + length (written_line y)) ≡ machines_from k s ((xs ++ (y ∷ [])) ++ ys) (at + length (written_line y) + length (flat_map written_line ys)) =
      goes ys m k (xs ++ (y ∷ [])) (at + length (written_line y)) rest (omega arith) (simp length-append (omega arith))
      (λ j l a. subst (λ (c : Board). GoodLine c l) (sym (append_assoc xs (y ∷ []) (take j ys))) (g (suc j) l a))
      (past s at (written_line y) (flat_map written_line ys ++ rest) p) in
      rw (r, T_true (is_good_line xs y) (line_good xs y gy), ih, append_assoc xs (y ∷ []) ys, z)

  -- ---- line 1

  read_count : read_sheet s ≡ count_then (count_form s 0) (λ n next. machines_from n s [] next)
  unfolding read_sheet
  read_count = rw (T_true (leb (length s) 32768) (le→leb (length s) 32768 short))

  abbrev counts : ℕ → Bool
  counts n = leb 1 n && leb n 16

  counts_of_lem : (n : ℕ) (rest : List ℕ) → BeginsSheet s n [] rest → T (counts n)
  counts_of_lem n rest o = and_i (leb 1 n) (leb n 16) (le→leb 1 n o.least) (le→leb n 16 o.most)

  opens_1 : (n next : ℕ) → T (counts n) → Spans s 0 (written_count n) next → BeginsSheet s n [] (drop next s)
  unfolding flat_map
  opens_1 n next t p =
      record {
        least = leb→le 1 n (and_l (leb 1 n) (leb n 16) t);
        most = leb→le n 16 (and_r (leb 1 n) (leb n 16) t);
        few = omega arith;
        good = λ k l a. absurd (none-ne-some l a);
        bytes = p.bytes;
      }

  count_found : (n : ℕ) (b : Board) (rest : List ℕ) → BeginsSheet s n b rest → count_form s 0 ≡ got n (0 + length (written_count n))
  count_found n b rest o = count_complete n (omega (arith, o.most)) s 0 (flat_map written_line b ++ rest) tt o.bytes

  -- a sheet that begins so is read as far
  opens_read : (n k : ℕ) (b : Board) (rest : List ℕ) → n ≡ length b + k → BeginsSheet s n b rest
      → read_sheet s ≡ machines_from k s b (0 + length (written_count n) + length (flat_map written_line b))
  unfolding count_then
  opens_read n k b rest q o =
      let t : T (counts n) = and_i (leb 1 n) (leb n 16) (le→leb 1 n o.least) (le→leb n 16 o.most) in
      let z : read_sheet s ≡ machines_from n s [] (0 + length (written_count n)) = read_count ∙ rw (count_found n b rest o, T_true (counts n) t) in
      z ∙ goes b n k [] (0 + length (written_count n)) rest q (omega (arith, o.few, o.most)) o.good (past s 0 (written_count n) (flat_map written_line b ++ rest) o.bytes)

  short_loaded : Loaded s (read_sheet s)
  unfolding count_then
  short_loaded = rw read_count (go (count_form s 0) refl)
    where
      go : (p : Parsed ℕ) → count_form s 0 ≡ p → Loaded s (count_then p (λ n next. machines_from n s [] next))
      go fail e = bad 1 refl (line_1 short (λ n rest o. fail_got (count_form s 0) n (0 + length (written_count n)) e (count_found n [] rest o)))
      go (got n next) e = by (dec (counts n)) (count_sound s 0 n next e)
        where
          by : T (counts n) ⊎ T (not (counts n)) → (n ≤ 999) × Spans s 0 (written_count n) next
              → Loaded s (need (refuse 15 1 0) (counts n) >> machines_from n s [] next)
          by (inl t) (h, p) = rw (T_true (counts n) t) (loop n n [] next (inside (omega arith) p) (omega arith) (opens_1 n next t p))
          by (inr t) (h, p) =
              rw (T_false (counts n) t)
              (bad 1 refl (line_1 short (λ m rest o. contra (counts n) t
              (subst (λ (x : ℕ). T (counts x)) (got_same (count_form s 0) m n (0 + length (written_count m)) next (count_found m [] rest o) e) (counts_of_lem m rest o)))))

  says_read : (b : Board) → SaysSheet s b → read_sheet s ≡ passed b
  unfolding machines_from
  says_read b w =
      let o : BeginsSheet s (length b) b [] = says_opens s b w in
      let at = 0 + length (written_count (length b)) + length (flat_map written_line b) in
      let d : drop at s ≡ [] = opens_at s (length b) b [] o in
      opens_read (length b) 0 b [] (omega arith) o
      ∙ rw (T_true (leb (length s) at) (le→leb (length s) at (omega (arith, ap length d, length-drop at s))))

  bad_read : (l : ℕ) → BadSheet s l → read_sheet s ≡ refused (refuse 15 l 0)
  unfolding machines_from count_then
  bad_read l (too_long h) = absurd (omega arith)
  bad_read l (line_1 h f) = rw read_count (go (count_form s 0) refl)
    where
      go : (p : Parsed ℕ) → count_form s 0 ≡ p → count_then p (λ n next. machines_from n s [] next) ≡ refused (refuse 15 1 0)
      go fail e = refl
      go (got n next) e = by (dec (counts n)) (count_sound s 0 n next e)
        where
          by : T (counts n) ⊎ T (not (counts n)) → (n ≤ 999) × Spans s 0 (written_count n) next
              → (need (refuse 15 1 0) (counts n) >> machines_from n s [] next) ≡ refused (refuse 15 1 0)
          by (inl t) (i, p) = absurd (f n (drop next s) (opens_1 n next t p))
          by (inr t) (i, p) = rw (T_false (counts n) t)
  bad_read l (line h n b rest o w f) = go (n - length b) (omega (arith, o.few))
    where
      at : ℕ
      at = 0 + length (written_count n) + length (flat_map written_line b)

      d : drop at s ≡ rest
      d = opens_at s n b rest o

      within : at ≤ length s
      within = omega (arith, ap length o.bytes, length-append (written_count n) (flat_map written_line b ++ rest), length-append (flat_map written_line b) rest)

      go : (k : ℕ) → n ≡ length b + k → read_sheet s ≡ refused (refuse 15 (length b + 2) 0)
      go zero q = opens_read n 0 b rest q o ∙ end (dec (leb (length s) at))
        where
          end : T (leb (length s) at) ⊎ T (not (leb (length s) at)) → (need (refuse 15 (length b + 2) 0) (leb (length s) at) >> passed b) ≡ refused (refuse 15 (length b + 2) 0)
          end (inl t) = absurd (w (omega arith, sym d ∙ drop_of_length-le s (leb→le (length s) at t)))
          end (inr t) = rw (T_false (leb (length s) at) t)
      go (suc k) q = opens_read n (suc k) b rest q o ∙ by (next_view s n b at within (omega arith) (subst (BeginsSheet s n b) (sym d) o))
        where
          by : Next s n b at → machine_then b (line_form s at) (machines_from k s) ≡ refused (refuse 15 (length b + 2) 0)
          by (stands x next e t i j p) = absurd (f x (drop next s) p)
          by (misses e g) = e (machines_from k s)

-- ---- what `read_sheet` comes to

read_long : (s : List ℕ) → 32768 < length s → read_sheet s ≡ refused (refuse 15 0 0)
unfolding read_sheet
read_long s h =
    rw (T_false (leb (length s) 32768) (not_T (leb (length s) 32768) (λ t. let p : length s ≤ 32768 = leb→le (length s) 32768 t in omega arith)))

pub sheet_loaded : (s : List ℕ) → Loaded s (read_sheet s)
sheet_loaded s = go (order 32768 (length s))
  where
    go : (32768 < length s) ⊎ (length s ≤ 32768) → Loaded s (read_sheet s)
    go (inl h) = bad 0 (read_long s h) (too_long h)
    go (inr h) = short_loaded s h

pub says_loaded : (s : List ℕ) (b : Board) → SaysSheet s b → read_sheet s ≡ passed b
says_loaded s b w = says_read s (subst (λ (x : List ℕ). length x ≤ 32768) (sym w.0) w.1.size) b w

pub bad_loaded : (s : List ℕ) (l : ℕ) → BadSheet s l → read_sheet s ≡ refused (refuse 15 l 0)
bad_loaded s l (too_long h) = read_long s h
bad_loaded s l (line_1 h f) = bad_read s h l (line_1 h f)
bad_loaded s l (line h n b rest o w f) = bad_read s h l (line h n b rest o w f)

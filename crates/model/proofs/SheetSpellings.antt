-- A sheet with its moves spelt in other ways is good or bad alike, at the same line, and runs alike.
use Prim.Native.Nat.{ℕ, zero, suc, ◌+◌, ◌-◌, ◌≤◌, ◌<◌}
use native.Mathlib.Omega.{arith}
use mathlib.Core.Path.{◌≡◌, refl, ap, sym, ◌∙◌, subst}
use mathlib.Core.Logic.{◌⊎◌, inl, inr}
use mathlib.Core.List.{List, [], ◌∷◌, ◌++◌, flat_map}
use lib.ListN.{length, take, drop, length-append}
use Rattle.model.specs.Lists.{Pairwise}
use Rattle.model.specs.Refusal.{refuse, refused, passed}
use Rattle.model.specs.Bytes.{digits, Name}
use Rattle.model.specs.Sheet.{NamedMove, NamedLine, Board, move_bytes, written_move, written_line, written_count}
use Rattle.model.specs.Board.{read_sheet, board_run}
use Rattle.model.specs.BoardTable.{OnSheet, GoodLine, BeginsSheet, too_long, line}
use Rattle.model.specs.Spelling.{RespeltMove, RespeltLine, RespeltSheet, LoadedAlike}
use Rattle.model.proofs.Laws.{order}
use Rattle.model.proofs.Pairs.{pairwise_same, pairwise_sym, pairwise_length, pairwise_snoc, pairwise_take, pairwise_at, pairwise_mem}
use Rattle.model.proofs.OneEvent.{one_sym, one_trans, one_name, one_length}
use Rattle.model.proofs.Loading.{Next, stands, misses, next_view, says_loaded, bad_loaded}
use Rattle.model.proofs.Verdicts.{refused_passed}
use Rattle.model.proofs.GoodLines.{opens_next, next_opens, opens_at, opens_says}
use Rattle.model.proofs.SheetsAlike.{boards_alike}

-- ---- a good sheet stays good

move_sym : (x y : NamedMove) → RespeltMove x y → RespeltMove y x
move_sym x y r = record { event = one_sym x.event y.event r.event; pre = sym r.pre; post = sym r.post }

line_sym : (l k : NamedLine) → RespeltLine l k → RespeltLine k l
line_sym l k r =
    record { number = sym r.number; place_count = sym r.place_count; start = sym r.start; moves = pairwise_sym l.moves k.moves move_sym r.moves }

lines_sym : (b c : Board) → Pairwise RespeltLine b c → Pairwise RespeltLine c b
lines_sym b c = pairwise_sym b c line_sym

same_size : (b c : Board) → Pairwise RespeltLine b c → length b ≡ length c
same_size = pairwise_length RespeltLine

on_other : (b c : Board) → Pairwise RespeltLine b c → (e : Name) → OnSheet c e → OnSheet b e
on_other b c p e (k, m, (y, i, o)) =
    let (l, j, r) = pairwise_mem RespeltLine c b (lines_sym b c p) k m in
    let (x, h, q) = pairwise_mem RespeltMove k.moves l.moves r.moves y i in
    (l, j, (x, h, one_trans e y.event x.event o q.event))

good_again : (b c : Board) (l k : NamedLine) → Pairwise RespeltLine b c → RespeltLine l k → GoodLine b l → GoodLine c k
good_again b c l k p r g =
    record {
      number = sym r.number ∙ g.number ∙ same_size b c p;
      places_least = subst (λ (n : ℕ). 1 ≤ n) r.place_count g.places_least;
      places_most = subst (λ (n : ℕ). n ≤ 64) r.place_count g.places_most;
      start = omega (arith, g.start, r.start, r.place_count);
      moves = λ y i.
          let (x, j, z) = pairwise_mem RespeltMove k.moves l.moves back y i in
          let m = g.moves x j in
          record {
            name = one_name y.event x.event z.event m.name;
            pre = omega (arith, m.pre, z.pre, r.place_count);
            post = omega (arith, m.post, z.post, r.place_count);
            differ = λ q. m.differ (sym z.pre ∙ q ∙ z.post);
          };
      once = λ i j x y a d o.
          let (u, e, f) = pairwise_at RespeltMove k.moves l.moves back i x a in
          let (v, h, q) = pairwise_at RespeltMove k.moves l.moves back j y d in
          g.once i j u v e h
          (one_trans u.event x.event v.event (one_sym x.event u.event f.event) (one_trans x.event y.event v.event o q.event));
      names =
          record {
            names = g.names.names;
            most = g.names.most;
            all = λ e s. g.names.all e (on_other (b ++ (l ∷ [])) (c ++ (k ∷ [])) (pairwise_snoc RespeltLine b c l k p r) e s);
          };
    }
  where
    back : Pairwise RespeltMove k.moves l.moves
    back = (line_sym l k r).moves

moves_long : (xs ys : List NamedMove) → Pairwise RespeltMove xs ys → length (flat_map written_move xs) ≡ length (flat_map written_move ys)
unfolding flat_map written_move move_bytes
moves_long [] [] p = refl
moves_long [] (y ∷ ys) p = absurd p
moves_long (x ∷ xs) [] p = absurd p
moves_long (x ∷ xs) (y ∷ ys) p =
    let q = one_length x.event y.event p.0.event in
    let a = ap (λ (n : ℕ). length (digits n)) p.0.pre in
    let z = ap (λ (n : ℕ). length (digits n)) p.0.post in
    let ih = moves_long xs ys p.1 in
    simp length-append (omega (arith, q, a, z, ih))

lines_long : (b c : Board) → Pairwise RespeltLine b c → length (flat_map written_line b) ≡ length (flat_map written_line c)
unfolding flat_map written_line
lines_long [] [] p = refl
lines_long [] (k ∷ c) p = absurd p
lines_long (l ∷ b) [] p = absurd p
lines_long (l ∷ b) (k ∷ c) p =
    let n = ap (λ (n : ℕ). length (digits n)) p.0.number in
    let a = ap (λ (n : ℕ). length (digits n)) p.0.place_count in
    let z = ap (λ (n : ℕ). length (digits n)) p.0.start in
    let q = moves_long l.moves k.moves p.0.moves in
    let ih = lines_long b c p.1 in
    simp length-append (omega (arith, n, a, z, q, ih))

same_line : (l : NamedLine) → RespeltLine l l
same_line l = record { number = refl; place_count = refl; start = refl; moves = pairwise_same RespeltMove l.moves (λ x m. record { event = refl; pre = refl; post = refl }) }

data Both (s t : List ℕ) : Type 0 where
  bad : (l : ℕ) → read_sheet s ≡ refused (refuse 15 l 0) → read_sheet t ≡ refused (refuse 15 l 0) → Both s t
  good : (b c : Board) → read_sheet s ≡ passed b → read_sheet t ≡ passed c → Pairwise RespeltLine b c → Both s t

module _ (s t : List ℕ) (short : length s ≤ 32768) (too : length t ≤ 32768) where
  onwards : (k n : ℕ) (b c : Board) (rest : List ℕ) → length b + k ≡ n → BeginsSheet s n b rest → BeginsSheet t n c rest → Pairwise RespeltLine b c → Both s t
  onwards zero n b c [] q o r p =
      good b c (says_loaded s b (opens_says s n b short (omega arith) o)) (says_loaded t c (opens_says t n c too (omega (arith, same_size b c p)) r)) p
  onwards zero n b c (x ∷ rest) q o r p =
      bad (length b + 2)
      (bad_loaded s (length b + 2) (line short n b (x ∷ rest) o (λ w. let z : ◌≡◌ {A = ℕ} (suc (length rest)) 0 = ap length w.1 in omega arith) (λ l after u. omega (arith, u.few, length-append b (l ∷ []), q))))
      (subst (λ (m : ℕ). read_sheet t ≡ refused (refuse 15 (m + 2) 0)) (sym (same_size b c p))
      (bad_loaded t (length c + 2) (line too n c (x ∷ rest) r (λ w. let z : ◌≡◌ {A = ℕ} (suc (length rest)) 0 = ap length w.1 in omega arith)
      (λ l after u. omega (arith, u.few, length-append c (l ∷ []), q, same_size b c p)))))
  onwards (suc k) n b c rest q o r p =
      go (next_view s n b at inside (omega arith) (subst (BeginsSheet s n b) (sym d) o)) (onwards k n)
    where
      at : ℕ
      at = 0 + length (written_count n) + length (flat_map written_line b)

      d : drop at s ≡ rest
      d = opens_at s n b rest o

      inside : at ≤ length s
      inside = omega (arith, ap length o.bytes, length-append (written_count n) (flat_map written_line b ++ rest), length-append (flat_map written_line b) rest)

      go : Next s n b at → ((b c : Board) (rest : List ℕ) → length b + k ≡ n → BeginsSheet s n b rest → BeginsSheet t n c rest → Pairwise RespeltLine b c → Both s t) → Both s t
      go (stands l next e h i j u) ih =
          let w = next_opens s n b l rest (drop next s) o u in
          ih (b ++ (l ∷ [])) (c ++ (l ∷ [])) (drop next s) (simp length-append (omega arith)) u
          (opens_next t n c l rest (drop next s) r (omega (arith, same_size b c p)) (good_again b c l l p (same_line l) w.1) w.2)
          (pairwise_snoc RespeltLine b c l l p (same_line l))
      go (misses e f) ih =
          bad (length b + 2) (bad_loaded s (length b + 2) (line short n b rest o (λ w. omega (arith, w.0, q)) f))
          (subst (λ (m : ℕ). read_sheet t ≡ refused (refuse 15 (m + 2) 0)) (sym (same_size b c p))
          (bad_loaded t (length c + 2) (line too n c rest r (λ w. omega (arith, w.0, q, same_size b c p))
          (λ l after u.
          let w = next_opens t n c l rest after r u in
          f l after (opens_next s n b l rest after o (omega arith) (good_again c b l l (lines_sym b c p) (same_line l) w.1) w.2)))))

module _ (s t : List ℕ) (r : RespeltSheet s t) where
  as_long : length s ≡ length t
  as_long =
      ap length r.begins.bytes ∙ length-append (written_count r.count) (flat_map written_line r.board ++ r.rest)
      ∙ ap (λ (m : ℕ). length (written_count r.count) + m)
      (length-append (flat_map written_line r.board) r.rest ∙ ap (λ (m : ℕ). m + length r.rest) (lines_long r.board r.others r.respelt) ∙ sym (length-append (flat_map written_line r.others) r.rest))
      ∙ sym (length-append (written_count r.count) (flat_map written_line r.others ++ r.rest)) ∙ ap length (sym r.bytes)

  begins_too : BeginsSheet t r.count r.others r.rest
  begins_too =
      record {
        least = r.begins.least;
        most = r.begins.most;
        few = omega (arith, r.begins.few, same_size r.board r.others r.respelt);
        good = λ k l a.
            let (x, i, z) = pairwise_at RespeltLine r.others r.board (lines_sym r.board r.others r.respelt) k l a in
            good_again (take k r.board) (take k r.others) x l (pairwise_take RespeltLine k r.board r.others r.respelt) (line_sym l x z) (r.begins.good k x i);
        bytes = r.bytes;
      }

  two : Both s t
  two = go (order 32768 (length s))
    where
      go : (32768 < length s) ⊎ (length s ≤ 32768) → Both s t
      go (inl h) = bad 0 (bad_loaded s 0 (too_long h)) (bad_loaded t 0 (too_long (omega (arith, as_long))))
      go (inr h) =
          onwards s t h (omega (arith, as_long)) (r.count - length r.board) r.count r.board r.others r.rest (omega (arith, r.begins.few)) r.begins begins_too r.respelt

  pub sheet_respelling_holds : LoadedAlike s t
  unfolding board_run
  sheet_respelling_holds = go two
    where
      go : Both s t → LoadedAlike s t
      go (bad l x y) = record { loading = λ q. (λ z. y ∙ sym x ∙ z, λ z. x ∙ sym y ∙ z); running = λ ns ms o. rw (x, y) refl }
      go (good b c x y p) =
          record {
            loading = λ q. (λ z. absurd (refused_passed q b (sym z ∙ x)), λ z. absurd (refused_passed q c (sym z ∙ y)));
            running = λ ns ms o. rw (x, y, boards_alike b c p ns ms o) refl;
          }

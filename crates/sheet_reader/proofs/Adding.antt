-- A move into the rows, by the ways out of the code.
use Prim.Native.Nat.{ℕ, ◌+◌, ◌<◌, ◌≤◌}
use native.Mathlib.Omega.{arith}
use mathlib.Core.Path.{◌≡◌, refl, ap, sym, ◌∙◌, subst}
use mathlib.Core.Bool.{Bool, true, false, not, ◌&&◌}
use mathlib.Core.List.Memᴰ
use mathlib.Core.List.{List, [], ◌∷◌, ◌++◌, map, Memᴰ}
use mathlib.Core.Logic.{◌⊎◌, inl, inr}
use mathlib.Core.Option.{Option, none, some}
use lib.Dec.{T, eqb, ltb, ltb→lt, lt→ltb}
use lib.ListN.{length, get_or, set, replicate, length-append}
use Rattle.model.specs.Lists.{is_some, exists}
use Rattle.model.specs.Bytes.{Name, IsName, OneEvent, same_name}
use Rattle.model.specs.Text.{event_number, distinct}
use Rattle.model.specs.Sheet.{NamedMove}
use Rattle.model.specs.Board.{good_ends, is_good_move, add_name}
use Rattle.model.proofs.Laws.{T_true, T_false, not_T, and_l, and_r, not_below}
use Rattle.model.proofs.ListLaws.{store}
use Rattle.model.proofs.OneEvent.{one_among, distinct_apart, apart_distinct}
use Rattle.model.proofs.SheetNames.{apart_snoc}
use Rattle.lexer.specs.Words as Words
use Rattle.rows.specs.Rows.{row}
use Rattle.regions.specs.Moves.{move_at}
use Rattle.names.specs.Held.{Finds}
use Rattle.std.specs.Prelude.{Some, None, IfSome, unwrap_or}
use Rattle.std.specs.Prelude as Std
use Rattle.sheet_lines.specs.declared.MoveLine.{MoveLine}
use Rattle.sheet_reader.specs.BoardRows.{Rows, cell, move_in, store_move}
use Rattle.sheet_reader.specs.Lent.{Lent, lent_rows, rows_of, Held, HoldsRows}
use Rattle.sheet_reader.specs.Storing.{StoresMove, Leaves, IsWord, move_of, AddsMove}
use Rattle.sheet_reader.proofs.LineMoves.{Looked, old, new, looked}

-- ---- by the event's number

ends_low : (p q n : ℕ) → good_ends n p q ≡ true → (p < n) × (q < n)
ends_low p q n e =
    let t : T (good_ends n p q) = subst T (sym e) tt in
    let r = and_r (ltb p n) (ltb q n && not (eqb p q)) t in
    (ltb→lt p n (and_l (ltb p n) (ltb q n && not (eqb p q)) t), ltb→lt q n (and_l (ltb q n) (not (eqb p q)) r))

pub pre_byte : (p q n : ℕ) → good_ends n p q ≡ true → n ≤ 64 → p < 256
pre_byte p q n e h = omega (arith, (ends_low p q n e).0)

pub post_byte : (p q n : ℕ) → good_ends n p q ≡ true → n ≤ 64 → q < 256
post_byte p q n e h = omega (arith, (ends_low p q n e).1)

module _ (m n e p q : ℕ) (pre post : List ℕ) where
  abbrev taken : Bool
  taken = is_some (move_at pre post m e)

  abbrev Stores : Bool → List ℕ → List ℕ → Type 0
  Stores = StoresMove m n e p q pre post

  no_store : (good_ends n p q && not taken) ≡ false → Stores false pre post
  no_store h = record { tested = sym h; pre_set = λ z. absurd (subst T (sym z) tt); post_set = λ z. absurd (subst T (sym z) tt) }

  pub stores_ends : good_ends n p q ≡ false → Stores false pre post
  stores_ends h = no_store (ap (λ (b : Bool). b && not taken) h)

  module _ (g : good_ends n p q ≡ true) where
    pub stores_taken : get_or pre (cell e m) 0 < 64 → Stores false pre post
    unfolding move_at is_some
    stores_taken h = no_store (rw (g, T_true (ltb (get_or pre (cell e m) 0) 64) (lt→ltb (get_or pre (cell e m) 0) 64 h)))

    pub stores_free : 64 ≤ get_or pre (cell e m) 0 → (a b : ℕ) → a ≡ p → b ≡ q → Stores true (set pre (cell e m) a) (set post (cell e m) b)
    unfolding move_at is_some
    stores_free h a b i j =
        record {
          tested = rw (g, T_false (ltb (get_or pre (cell e m) 0) 64) (not_below (get_or pre (cell e m) 0) 64 h));
          pre_set = λ _. ap (set pre (cell e m)) i;
          post_set = λ _. ap (set post (cell e m)) j;
        }

-- of the move with this name
module _ {m n e p q : ℕ} {pre post : List ℕ} {r : Bool} {pre' post' : List ℕ} (f : StoresMove m n e p q pre post r pre' post') (low : e < 64)
    (ns : List Name) (w : Name) (k : e ≡ event_number ns w) where
  abbrev before : Rows
  before = record { names = ns; pre = pre; post = post }

  abbrev move : NamedMove
  move = record { event = w; pre = p; post = q }

  test_is : (good_ends n p q && (ltb (event_number ns w) 64 && not (is_some (move_at pre post m (event_number ns w))))) ≡ r
  test_is =
      subst (λ (i : ℕ). (good_ends n p q && (ltb i 64 && not (is_some (move_at pre post m i)))) ≡ r) k
      (ap (λ (b : Bool). good_ends n p q && (b && not (is_some (move_at pre post m e)))) (T_true (ltb e 64) (lt→ltb e 64 low)) ∙ sym f.tested)

  pub store_none : r ≡ false → store_move m n before move ≡ none
  unfolding store_move is_good_move
  store_none h = rw (test_is, h)

  pub store_some : r ≡ true → store_move m n before move ≡ some (record { names = add_name ns w; pre = pre'; post = post' })
  unfolding store_move is_good_move
  store_some h = rw (test_is, h, f.pre_set h, f.post_set h, k)

-- ---- names

-- one more in a row
row_snoc : (f : Name → ℕ) (ns : List Name) (w : Name) (e v : ℕ) (l : List ℕ) → l ≡ row 64 0 (map f ns) → e ≡ length ns → v ≡ f w
    → set l e v ≡ row 64 0 (map f (ns ++ (w ∷ [])))
unfolding row
row_snoc f ns w e v l p q r = store f l (replicate 64 0) ns w e v p q r

-- a name that is there
pub name_known : (ns : List Name) (w : Name) → event_number ns w < length ns → add_name ns w ≡ ns
name_known ns w h = go (looked ns w)
  where
    go : Looked ns w → add_name ns w ≡ ns
    go (old a s z) = z
    go (new a s z) = absurd (omega arith)

-- one that is not
once_more : (ns : List Name) (w : Name) → T (distinct ns) → ((f : Name) → Memᴰ f ns → ¬ OneEvent w f) → T (distinct (ns ++ (w ∷ [])))
once_more ns w t n =
    apart_distinct (ns ++ (w ∷ []))
    (apart_snoc ns w (distinct_apart ns t) (not_T (exists (same_name w) ns) (λ z. let v = one_among w ns z in n v.0 v.1 v.2)))

each_name : (ns : List Name) (w : Name) → ((v : Name) → Memᴰ v ns → IsName v) → IsName w → (v : Name) → Memᴰ v (ns ++ (w ∷ [])) → IsName v
each_name ns w r i v j = go (Memᴰ.append_cases ns j)
  where
    go : Memᴰ v ns ⊎ Memᴰ v (w ∷ []) → IsName v
    go (inl k) = r v k
    go (inr k) = subst IsName (sym (Memᴰ.eq_of_singleton k)) i

module _ (count : ℕ) (t : Lent) (x : MoveLine) (e : ℕ) (pre post : List ℕ) (few : e < 64) where
  abbrev added : Lent
  added = lent_rows (set t.lens e x.name.«len») (set t.highs e x.name.«high») (set t.lows e x.name.«low») pre post

  held_new : (ns : List Name) (w : Name) → Held ns count t → IsWord x w → e ≡ event_number ns w → count ≤ e → Held (add_name ns w) (count + 1) added
  held_new ns w r i k h = go (looked ns w)
    where
      go : Looked ns w → Held (add_name ns w) (count + 1) added
      go (old a s z) = absurd (omega (arith, r.packed.counted))
      go (new a s z) =
          subst (λ (l : List Name). Held l (count + 1) added) (sym z)
          (record {
            packed = record {
              counted = simp length-append (omega (arith, r.packed.counted));
              most = simp length-append (omega arith);
              names = each_name ns w r.packed.names i.name;
              lengths = row_snoc length ns w e x.name.«len» t.lens r.packed.lengths (k ∙ a) i.long;
              high = row_snoc Words.high ns w e x.name.«high» t.highs r.packed.high (k ∙ a) i.high;
              low = row_snoc Words.low ns w e x.name.«low» t.lows r.packed.low (k ∙ a) i.low;
            };
            once = once_more ns w r.once s;
          })

-- ---- a move by its words

-- the number of a name that is looked up
pub number_most : {count : ℕ} (r : Std.Option ℕ) → IfSome r (λ k. k < count) → unwrap_or r count ≤ count
number_most None b = omega arith
number_most (Some k) b = omega arith

module _ (m n count : ℕ) (t : Lent) (x : MoveLine) where
  leaves_none : (o : Option Rows) → o ≡ none → (c : ℕ) (u : Lent) → Leaves o false c u
  unfolding Leaves
  leaves_none o z c u = rw z refl

  leaves_some : (o : Option Rows) (v : Rows) → o ≡ some v → (c : ℕ) (u : Lent) → HoldsRows v c u → Leaves o true c u
  unfolding Leaves
  leaves_some o v z c u h = rw z (refl, h)

  too_many : (ns : List Name) (w : Name) → 64 ≤ event_number ns w → store_move m n (rows_of ns t) (move_of w x) ≡ none
  unfolding store_move
  too_many ns w h =
      let number = event_number ns w in
      let free = not (is_some (move_in (rows_of ns t) number m)) in
      let test = is_good_move n (move_of w x) && (ltb number 64 && free) in
      rw (T_false test (not_T test (λ z. omega (arith, ltb→lt number 64 (and_l (ltb number 64) free (and_r (is_good_move n (move_of w x)) (ltb number 64 && free) z))))))

  module _ {found : Std.Option ℕ} (f : Finds count t.lens t.highs t.lows x.name.«len» x.name.«high» x.name.«low» found) (e : ℕ) (number : e ≡ unwrap_or found count) where
    is : (ns : List Name) (w : Name) → Held ns count t → IsWord x w → e ≡ event_number ns w
    is ns w r i = number ∙ f.number ns r.packed w i.name i.long i.high i.low

    pub adds_full : 64 ≤ e → AddsMove m n count t x false count t
    adds_full h = record { leaves = λ ns w r i. leaves_none _ (too_many ns w (omega (arith, is ns w r i))) count t }

    module _ (low : e < 64) {r : Bool} {pre post : List ℕ} (stores : StoresMove m n e x.pre x.post t.pre t.post r pre post) where
      pub adds_bad : r ≡ false → (c : ℕ) (u : Lent) → AddsMove m n count t x false c u
      adds_bad h c u = record { leaves = λ ns w z i. leaves_none _ (store_none stores low ns w (is ns w z i) h) c u }

      pub adds_known : r ≡ true → e < count → AddsMove m n count t x true count (lent_rows t.lens t.highs t.lows pre post)
      adds_known h b =
          record {
            leaves = λ ns w z i.
                let k = is ns w z i in
                leaves_some _ _ (store_some stores low ns w k h) count _
                (record { held = known ns w z k; pre = refl; post = refl });
          }
        where
          known : (ns : List Name) (w : Name) → Held ns count t → e ≡ event_number ns w → Held (add_name ns w) count (lent_rows t.lens t.highs t.lows pre post)
          known ns w z k =
              subst (λ (l : List Name). Held l count (lent_rows t.lens t.highs t.lows pre post)) (sym (name_known ns w (omega (arith, z.packed.counted))))
              (record { packed = z.packed; once = z.once })

      pub adds_new : r ≡ true → count ≤ e → AddsMove m n count t x true (count + 1)
          (lent_rows (set t.lens e x.name.«len») (set t.highs e x.name.«high») (set t.lows e x.name.«low») pre post)
      adds_new h b =
          record {
            leaves = λ ns w z i.
                let k = is ns w z i in
                leaves_some _ _ (store_some stores low ns w k h) (count + 1) _
                (record { held = held_new count t x e pre post low ns w z i k b; pre = refl; post = refl });
          }

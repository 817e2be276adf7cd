-- The names of a list from a position on: whether one of them is odd, and the loop that looks for it.
use Rattle.std.specs.Prelude.{Some, None}
use Prim.Native.Nat.{ℕ, suc, ◌+◌, ◌<◌, ◌≤◌}
use native.Mathlib.Omega.{arith}
use mathlib.Core.Path.{◌≡◌, ap, sym, ◌∙◌}
use mathlib.Core.Logic.{◌⊎◌, inl, inr}
use mathlib.Core.Bool.{Bool, not, ◌&&◌}
use mathlib.Core.List.{List, ◌∷◌}
use mathlib.Core.Option.{none, some}
use lib.Dec.{T}
use lib.ListN.{length, length-drop, drop_of_length-le}
use Rattle.model.specs.Lists.{every, index, is_empty}
use Rattle.model.specs.Product.{effective}
use Rattle.model.specs.Bytes.{Name}
use Rattle.model.specs.Reading.{fail, got}
use Rattle.model.specs.Text.{event_number}
use Rattle.model.specs.Sheet.{Board, name_form}
use Rattle.model.specs.Board.{move_on}
use Rattle.model.proofs.Laws.{T_true, T_false}
use Rattle.model.proofs.BoardNames.{names_end, names_more, names_odd}
use Rattle.sheet_reader.specs.Lent.{Lent, lent_rows}
use Rattle.board_service.specs.declared.name_list.EventAt.{EventAt}
use Rattle.board_service.specs.Listed.{Numbered, ReadsName}
use Rattle.board_service.specs.Boards.{names_from, odd_from, Loaded, odd_is, FindsOdd}
use Rattle.board_service.proofs.Knowing.{on_name, off_name}

module _ (b : Board) (k : ℕ) where
  abbrev fine : List Name × List ℕ → Bool
  fine p = every (effective move_on b) p.0 && is_empty p.1

  odd_more : (w : Name) (p : List Name × List ℕ) → T (effective move_on b w) → odd_from b k (w ∷ p.0, p.1) ≡ odd_from b (k + 1) p
  unfolding odd_from every index
  odd_more w p t =
      let i = index (λ e. not (effective move_on b e)) p.0 in
      let z : k + suc i ≡ k + 1 + i = omega arith in
      rw (T_true (effective move_on b w) t, z)

  odd_first : (w : Name) (p : List Name × List ℕ) → T (not (effective move_on b w)) → odd_from b k (w ∷ p.0, p.1) ≡ some k
  unfolding odd_from every index
  odd_first w p t = let z : k + 0 ≡ k = omega arith in rw (T_false (effective move_on b w) t, z)

  odd_now : (p : List Name × List ℕ) → T (not (fine p)) × (index (λ e. not (effective move_on b e)) p.0 ≡ 0) → odd_from b k p ≡ some k
  unfolding odd_from
  odd_now p (t, q) = let z : k + 0 ≡ k = omega arith in rw (T_false (fine p) t, q, z)

-- ---- the name at a position

module _ {t : List ℕ} {at count : ℕ} {lens highs lows : List ℕ} where
  module _ {b : Board} {pre post : List ℕ} (o : Loaded b count (lent_rows lens highs lows pre post)) where
    -- the name, and the number that the rows have for it
    pub own_name : {next e : ℕ} → Numbered t at count lens highs lows next e → (w : Name) × (name_form t at ≡ got w next) × (e ≡ event_number o.told.names w)
    own_name n = n.number o.told.names o.told.held.packed o.told.held.once

    module _ (k : ℕ) where
      pub seek_more : {x : EventAt} → ReadsName t at count lens highs lows (Some x) → odd_from b k (names_from t at) ≡ odd_from b (k + 1) (names_from t x.next)
      seek_more {x} r =
          let n = r.found in
          let (w, h, q) = own_name n.numbered in
          ap (odd_from b k) (names_more t at w x.next h) ∙ odd_more b k w (names_from t x.next) (on_name o.told w (omega (arith, n.low, q)))

      pub seek_odd : at < length t → ReadsName t at count lens highs lows None → odd_from b k (names_from t at) ≡ some k
      seek_odd h r = go r.found
        where
          go : (name_form t at ≡ fail) ⊎ ((next : ℕ) × Numbered t at count lens highs lows next count) → odd_from b k (names_from t at) ≡ some k
          go (inl f) = odd_now b k (names_from t at) (names_odd t at o.sheet b o.says f (λ z. omega (arith, h, ap length z, length-drop at t)))
          go (inr (next, n)) =
              let (w, f, q) = own_name n in
              ap (odd_from b k) (names_more t at w next f) ∙ odd_first b k w (names_from t next) (off_name o.told w (omega (arith, q)))

pub seek_end : {b : Board} {count : ℕ} {u : Lent} → Loaded b count u → (t : List ℕ) (at k : ℕ) → length t ≤ at → odd_from b k (names_from t at) ≡ none
unfolding odd_from every is_empty
seek_end o t at k h = rw (names_end t at (drop_of_length-le t h))

-- ---- the loop

-- k names stand before position i, and all of them are known
pub record Seeking (t : List ℕ) (at before count : ℕ) (lens highs lows : List ℕ) (k i : ℕ) : Type 0 where
  pub inside : i ≤ length t
  pub ordered : k ≤ i
  pub same : (b : Board) (pre post : List ℕ) → Loaded b count (lent_rows lens highs lows pre post) → odd_from b k (names_from t i) ≡ odd_from b before (names_from t at)

module _ {t : List ℕ} {at before count : ℕ} {lens highs lows : List ℕ} where
  module _ {k i : ℕ} (inv : Seeking t at before count lens highs lows k i) where
    pub seeking_odd : i < length t → ReadsName t i count lens highs lows None → FindsOdd t at before count lens highs lows (Some k)
    unfolding odd_is
    seeking_odd h a = record { odd = λ b pre post o. sym (sym (inv.same b pre post o) ∙ seek_odd o k h a) }

    pub seeking_more : {x : EventAt} → ReadsName t i count lens highs lows (Some x) → Seeking t at before count lens highs lows (k + 1) x.next
    seeking_more {x} a =
        record {
          inside = a.found.inside;
          ordered = omega (arith, a.found.later, inv.ordered);
          same = λ b pre post o. sym (seek_more o k a) ∙ inv.same b pre post o;
        }

    pub seeking_end : length t ≤ i → FindsOdd t at before count lens highs lows None
    unfolding odd_is
    seeking_end h = record { odd = λ b pre post o. sym (sym (inv.same b pre post o) ∙ seek_end o t i k h) }

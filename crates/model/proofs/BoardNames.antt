-- A list of names read one by one: what is no name with its byte 10 is on no move or not ended, so that code need not look for byte 10.
use Prim.Native.Nat.{ℕ, suc, ◌+◌}
use native.Mathlib.Omega.{arith}
use mathlib.Core.Path.{◌≡◌, refl, ap, ◌∙◌, subst}
use mathlib.Core.Logic.{◌⊎◌, inl, inr}
use mathlib.Core.Bool.{not, cond, ◌&&◌}
use mathlib.Core.List.{List, [], ◌∷◌, ◌++◌, flat_map, append_assoc}
use lib.Dec.{T}
use lib.ListN.{length, drop}
use Rattle.model.specs.Lists.{every, index, is_empty}
use Rattle.model.specs.Bytes.{bytes, is_name_byte, is_letter, is_capital, is_digit, Name, IsName}
use Rattle.model.specs.Reading.{fail, got, lit_bytes, name}
use Rattle.model.specs.Sheet.{Board, name_form}
use Rattle.model.specs.Product.{effective}
use Rattle.model.specs.Board.{move_on, split_names}
use Rattle.model.specs.BoardTable.{OnSheet, SaysSheet, ended}
use Rattle.model.proofs.Laws.{dec, T_false}
use Rattle.model.proofs.Positions.{mem_at}
use Rattle.model.proofs.Words.{past, done, by, lit_complete, lit_sound, name_complete, name_sound}
use Rattle.model.proofs.OneEvent.{one_name}
use Rattle.model.proofs.NameLists.{unbroken_name, split_word, Split}
use Rattle.model.proofs.SheetMoves.{on_sheet}
use Rattle.model.proofs.BoardCalls.{split_list}

-- the names on a good sheet are names
sheet_name : (s : List ℕ) (b : Board) → SaysSheet s b → (e : Name) → OnSheet b e → IsName e
sheet_name s b w e (l, m, (x, i, o)) = let k = mem_at b l m in one_name e x.event o ((w.1.good k.0 l k.1).moves x i).name

module _ (t : List ℕ) (at : ℕ) where
  abbrev ahead : List Name × List ℕ
  ahead = split_names [] (drop at t)

  pub names_end : drop at t ≡ [] → ahead ≡ ([], [])
  unfolding split_names
  names_end e = rw e

  pub names_more : (e : Name) (next : ℕ) → name_form t at ≡ got e next → ahead ≡ (e ∷ (split_names [] (drop next t)).0, (split_names [] (drop next t)).1)
  unfolding name_form
  names_more e next h =
      by (name t at) _ h λ w m e1 r1.
      by (lit_bytes (bytes "\n") t m) _ r1 λ x k e2 r2.
      let (n, p) = name_sound t at w m e1 in
      let q = lit_sound (bytes "\n") t m x k e2 in
      let a : w ≡ e = cc in
      let c : k ≡ next = cc in
      let z : drop at t ≡ w ++ (10 ∷ drop k t) = p.bytes ∙ ap (λ (l : List ℕ). w ++ l) q.bytes in
      let y : split_names [] (drop at t) ≡ (w ∷ (split_names [] (drop k t)).0, (split_names [] (drop k t)).1) = ap (split_names []) z ∙ split_word [] w (drop k t) (unbroken_name w n) in
      subst (λ (v : Name). ahead ≡ (v ∷ (split_names [] (drop next t)).0, (split_names [] (drop next t)).1)) a
      (subst (λ (i : ℕ). ahead ≡ (w ∷ (split_names [] (drop i t)).0, (split_names [] (drop i t)).1)) c y)

  name_found : (w : Name) (rest : List ℕ) → IsName w → drop at t ≡ w ++ (10 ∷ rest) → name_form t at ≡ got w (at + length w + 1)
  unfolding name_form is_name_byte is_letter is_capital is_digit
  name_found w rest n e =
      let m = at + length w in
      let q : drop m t ≡ 10 ∷ rest = past t at w (10 ∷ rest) e in
      done (name t at) _ w m (name_complete w n t at (10 ∷ rest) tt e)
      (done (lit_bytes (bytes "\n") t m) _ tt (m + 1) (lit_complete (bytes "\n") t m rest q) refl)

  pub names_odd : (s : List ℕ) (b : Board) → SaysSheet s b → name_form t at ≡ fail → ¬ (drop at t ≡ [])
      → T (not (every (effective move_on b) ahead.0 && is_empty ahead.1)) × (index (λ e. not (effective move_on b e)) ahead.0 ≡ 0)
  unfolding every index is_empty flat_map
  names_odd s b g f n = go ahead.0 ahead.1 (split_list (drop at t))
    where
      go : (ws : List Name) (rest : List ℕ) → Split [] (drop at t) ws rest → T (not (every (effective move_on b) ws && is_empty rest)) × (index (λ e. not (effective move_on b e)) ws ≡ 0)
      go [] [] p = absurd (n p.list)
      go [] (c ∷ rest) p = (tt, refl)
      go (w ∷ ws) rest p = by_test (dec (effective move_on b w))
        where
          list : drop at t ≡ w ++ (10 ∷ (flat_map ended ws ++ rest))
          list = p.list ∙ simp append_assoc

          by_test : T (effective move_on b w) ⊎ T (not (effective move_on b w)) → T (not ((effective move_on b w && every (effective move_on b) ws) && is_empty rest)) × (cond (not (effective move_on b w)) 0 (suc (index (λ e. not (effective move_on b e)) ws)) ≡ 0)
          by_test (inl x) =
              let h : name_form t at ≡ got w (at + length w + 1) = name_found w (flat_map ended ws ++ rest) (sheet_name s b g w (on_sheet b w x)) list in
              let z : ◌≡◌ {A = ℕ} 0 1 = cc in
              absurd (omega arith)
          by_test (inr x) = rw (T_false (effective move_on b w) x) (tt, refl)

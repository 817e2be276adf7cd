-- A local that holds an array, as the row of its elements, and back: what lending an array asks of a walk.
-- Assumes `Logic`.
use Prim.Native.Nat.{ℕ}
use mathlib.Core.Path.{◌≡◌}
use mathlib.Core.List.{List, [], ◌∷◌}
use seplogic.Ra.Ura.{Ura}
use base.Fraction.{full_share}
use lib.ListN.{length}
use mir.Syntax.{Ty, ty_array}
use mir.Raw.{raw as raw_ty}
use mir.Val.{Val}
use base.Logic.{ent, sep, ex, id⊢}
use base.Fml.{Fml, fsep, fat}
use types.Logic.{Logic, sem}
use types.Kit.{‵, ◌$◌, ◌∵◌, !, qed, by, drop, use1, fsplit, fjoin, fpack, feq_i, done}
use types.SemTy.{cells}
use types.Share.{arr_parts}
use denote.RattleType.{RattleType}
use denote.Memory.{mem, shares, part_at, part_of, cell_at, lone}
use denote.Array.{Array}
use denote.ArrayMemory.{Single, Array-apart, Array-whole}
use denote.Index.{row, whole_in, whole_out}

module _ {M : Type 1} {𝓤 : Ura M} (𝓛 : Logic 𝓤) (R : RattleType) (n l : ℕ) where
  abbrev τ : Ty
  τ = ty_array (lone R.mir) n

  -- the elements as they lie in the local l; so they can be lent as `&`
  abbrev pub Row : List R.Denot → Fml
  Row xs = (arr_parts (shares R) n).part full_share xs l 0

  pub row_in : Single R.mir → (xs : List R.Denot) (v : Val) → ent 𝓤 (sep 𝓤 (sem 𝓛 (fat full_share τ l 0 v)) (sem 𝓛 ((Array R n).own_val xs (v ∷ [])))) (sem 𝓛 (Row xs))
  unfolding part_of
  row_in single xs v =
      qed 𝓛 (‵ (fat full_share τ l 0 v) ∷ ‵ ((Array R n).own_val xs (v ∷ [])) ∷ []) ∵ use1 𝓛 (‵ (fat full_share (raw_ty τ) l 0 v)) (𝓛.laws.at_raw full_share τ l 0 v) $ fjoin ! $
      fpack ! (List Val) (λ us. fsep (cell_at full_share (Array R n).mir us l 0) ((Array R n).own_val xs us)) (v ∷ []) $
      use1 𝓛 (‵ (Row xs)) (Array-apart 𝓛 R full_share single n xs l 0) $ done !

  pub row_out : (xs : List R.Denot) → ent 𝓤 (sem 𝓛 (Row xs)) (ex 𝓤 (λ (vs : List Val). sep 𝓤 (sem 𝓛 (cell_at full_share (Array R n).mir vs l 0)) (sem 𝓛 ((Array R n).own_val xs vs))))
  unfolding part_of
  row_out xs = qed 𝓛 (‵ (Row xs) ∷ []) ∵ use1 𝓛 (‵ (part_at (Array R n) full_share xs l 0)) (Array-whole 𝓛 R full_share n xs l 0) $ by ! (id⊢ 𝓤 _)

  -- as cells they can be lent as `&mut`
  pub row_cells : (xs : List R.Denot) → ent 𝓤 (sem 𝓛 (Row xs)) (sem 𝓛 (cells (mem R) xs l 0))
  row_cells xs = qed 𝓛 (‵ (Row xs) ∷ []) ∵ fsplit ! $ drop ! $ use1 𝓛 (‵ (cells (mem R) xs l 0)) (whole_in 𝓛 R xs l 0) $ done !

  pub cells_row : (xs : List R.Denot) → length xs ≡ n → ent 𝓤 (sem 𝓛 (cells (mem R) xs l 0)) (sem 𝓛 (Row xs))
  cells_row xs size = qed 𝓛 (‵ (cells (mem R) xs l 0) ∷ []) ∵ use1 𝓛 (‵ (row R full_share xs l 0)) (whole_out 𝓛 R xs l 0) $ feq_i ! ℕ (length xs) n size $ fjoin ! $ done !

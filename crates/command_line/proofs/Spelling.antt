-- Two words are the same bytes. A service is said by its name: the names are tried in the order of the table.
use Prim.Native.Nat.{ℕ, suc, ◌+◌, ◌<◌, ◌≤◌}
use native.Mathlib.Numerals.{add-one}
use native.Mathlib.Omega.{arith}
use mathlib.Core.Path.{◌≡◌, refl, ap, sym, ◌∙◌, subst}
use mathlib.Core.Bool.{Bool, true, false, cond, ◌&&◌}
use mathlib.Core.List.{List, [], ◌∷◌, append-nil}
use lib.Dec.{T, eqb, eqb→eq, eqb_refl}
use lib.ListN.{length, get_or, drop, drop_of_length-le}
use lib.Pointwise.{pointwise}
use lib.Seq.{drop-cons}
use Rattle.std.proofs.Common.{Bor, nat_eq}
use Rattle.std.specs.Prelude.{Option, Some, None}
use Rattle.model.specs.Reading.{fail, got, lit_bytes}
use Rattle.model.proofs.Laws.{T_true, T_false, not_T, and_l, and_r, and_i}
use Rattle.model.proofs.Words.{lit_complete, lit_sound}
use Rattle.lexer.specs.Words.{as_literal}
use Rattle.lexer.proofs.Answers.{literal_missing, literal_got}
use Rattle.command_line.specs.declared.Service.{Service}
use Rattle.command_line.specs.declared.Service.TheVariants.{Unknown}
use Rattle.command_line.specs.Words.{same_word, service_said}

-- what `==` on slices tests
pub same_bytes : (a b : List ℕ) → pointwise nat_eq a b ≡ same_word a b
same_bytes [] [] = refl
same_bytes [] (y ∷ b) = refl
same_bytes (x ∷ a) [] = refl
same_bytes (x ∷ a) (y ∷ b) = ap (λ (t : Bool). eqb x y && t) (same_bytes a b)

same_eq : (a b : List ℕ) → T (same_word a b) → a ≡ b
same_eq [] [] t = refl
same_eq [] (y ∷ b) t = absurd t
same_eq (x ∷ a) [] t = absurd t
same_eq (x ∷ a) (y ∷ b) t =
    let p : x ≡ y = eqb→eq x y (and_l (eqb x y) (same_word a b) t) in
    let q : a ≡ b = same_eq a b (and_r (eqb x y) (same_word a b) t) in
    cc

same_refl : (a : List ℕ) → T (same_word a a)
same_refl [] = tt
same_refl (x ∷ a) = and_i (eqb x x) (same_word a a) (eqb_refl x) (same_refl a)

module _ (a b : List ℕ) where
  differ : (a ≡ b → ⊥) → false ≡ same_word a b
  differ h = sym (T_false (same_word a b) (not_T (same_word a b) (λ t. h (same_eq a b t))))

  pub unequal : (length a ≡ length b → ⊥) → false ≡ same_word a b
  unequal h = differ (λ e. h (ap length e))

  -- r answers whether a begins with b
  module _ {r : Option ℕ} (p : r ≡ as_literal (lit_bytes b a 0)) where
    pub unlike : r ≡ None → false ≡ same_word a b
    unlike m =
        differ λ e.
        let f : lit_bytes b a 0 ≡ fail = literal_missing (lit_bytes b a 0) p m in
        let g : lit_bytes b a 0 ≡ got tt (0 + length b) = lit_complete b a 0 [] (e ∙ sym (append-nil b)) in
        let z : ◌≡◌ {A = ℕ} 0 1 = cc in
        omega arith

    pub alike : {n : ℕ} → r ≡ Some n → length a ≡ length b → true ≡ same_word a b
    alike {n} m h =
        let s = lit_sound b a 0 tt n (literal_got (lit_bytes b a 0) p m) in
        let l : length a ≤ n = omega (arith, s.moved) in
        let d : drop n a ≡ [] = drop_of_length-le a l in
        let e : a ≡ b = s.bytes ∙ rw d (append-nil b) in
        sym (T_true (same_word a b) (subst (λ (x : List ℕ). T (same_word a x)) e (same_refl a)))

-- what a word says by a table of names
unfoldable pub named : List ℕ → List (Bor (List ℕ) × Service) → Service
named w [] = Unknown
named w (x ∷ t) = cond (same_word w x.0.now) x.1 (named w t)

-- the names before i are others: those that follow decide
pub record Tried (w : List ℕ) (table : List (Bor (List ℕ) × Service)) (i : ℕ) : Type 0 where
  pub left : named w (drop i table) ≡ service_said w

module _ {w : List ℕ} {table : List (Bor (List ℕ) × Service)} {i : ℕ} (t : Tried w table i) where
  module _ (h : i < length table) (d : Bor (List ℕ) × Service) {r : Bool} (p : r ≡ pointwise nat_eq w (get_or table i d).0.now) where
    next : cond r (get_or table i d).1 (named w (drop (suc i) table)) ≡ service_said w
    unfolding named
    next = rw (p, same_bytes w (get_or table i d).0.now) (rw (drop-cons table i d h) at t.left)

    pub says : r ≡ true → (get_or table i d).1 ≡ service_said w
    says y = rw y at next

    pub tried_more : r ≡ false → Tried w table (i + 1)
    tried_more n = record { left = rw (add-one i) (rw n at next) }

  pub says_none : length table ≤ i → Unknown ≡ service_said w
  unfolding named
  says_none h = rw (drop_of_length-le table h) at t.left

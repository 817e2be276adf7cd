-- A word that is a name to its end: the longest run of name bytes is the whole word.
use Prim.Native.Nat.{ℕ, suc}
use native.Mathlib.Omega.{arith}
use mathlib.Core.Path.{◌≡◌, refl, ap, sym, ◌∙◌}
use mathlib.Core.Bool.{Bool, true, false, cond, ◌&&◌, and-true, and-false}
use mathlib.Core.List.{List, [], ◌∷◌}
use borrow.Author.Tests.{eqb-true}
use lib.Dec.{eqb, eqb-zero-suc, eqb-suc-suc}
use lib.ListN.{length, take}
use lib.Seq.{take-length}
use Rattle.std.specs.Prelude.{Option, Some, None, MatchOption}
use Rattle.model.specs.Lists.{every}
use Rattle.model.specs.Bytes.{leading, is_name_byte, is_name}
use Rattle.model.specs.Reading.{name}
use Rattle.model.proofs.Laws.{T_true}
use Rattle.model.proofs.Words.{guarded}
use Rattle.lexer.specs.Words.{as_name}
use Rattle.lexer.specs.declared.NameAt.{NameAt}
use Rattle.lexer.proofs.Answers.{name_got}
use Rattle.command_line.specs.Words.{is_name_word}

-- every byte passes if and only if the run has all of them
run_all : (p : ℕ → Bool) (w : List ℕ) → every p w ≡ eqb (leading p w) (length w)
unfolding every
run_all p [] = refl
run_all p (b ∷ w) = go (p b) (run_all p w)
  where
    go : (t : Bool) → every p w ≡ eqb (leading p w) (length w) → (t && every p w) ≡ eqb (cond t (suc (leading p w)) 0) (suc (length w))
    go true ih = ih ∙ sym (eqb-suc-suc (leading p w) (length w))
    go false ih = sym (eqb-zero-suc (length w))

module _ (w : List ℕ) where
  abbrev run : ℕ
  run = leading is_name_byte w

  -- the whole word is a name if its run of name bytes is one, and is the whole word
  by_run : is_name_word w ≡ (eqb run (length w) && is_name (take run w))
  unfolding is_name_word
  by_run = rw (run_all is_name_byte w) (go (eqb run (length w)) refl)
    where
      go : (t : Bool) → eqb run (length w) ≡ t → (t && is_name w) ≡ (t && is_name (take run w))
      go true e = ap is_name (sym (take-length w) ∙ ap (λ (k : ℕ). take k w) (sym (eqb-true run (length w) e)))
      go false e = refl

  -- r is the code's answer to a name at the beginning of the word
  module _ {r : Option NameAt} (p : r ≡ as_name (name w 0)) where
    pub no_name : r ≡ None → false ≡ is_name_word w
    no_name m = go (is_name (take run w)) refl
      where
        go : (t : Bool) → is_name (take run w) ≡ t → false ≡ is_name_word w
        go true e = let z : ◌≡◌ {A = ℕ} 0 1 = cc in absurd (omega arith)
        go false e = sym (by_run ∙ rw (e, and-false))

    pub name_to_end : {f : NameAt} → r ≡ Some f → eqb f.next (length w) ≡ is_name_word w
    name_to_end {f} m =
        guarded (is_name (take run w)) (name_got (name w 0) p m).read λ t _ e.
        let z : f.next ≡ run = omega arith in
        sym (by_run ∙ rw (T_true (is_name (take run w)) t, and-true, z))

    pub name_told : MatchOption r (false ≡ is_name_word w) (λ f. eqb f.next (length w) ≡ is_name_word w)
    name_told = go r refl
      where
        go : (q : Option NameAt) → r ≡ q → MatchOption q (false ≡ is_name_word w) (λ f. eqb f.next (length w) ≡ is_name_word w)
        go None m = no_name m
        go (Some f) m = name_to_end m

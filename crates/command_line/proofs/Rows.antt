-- Words put into a row one after another are the words that are read from it.
use Prim.Native.Nat.{ℕ}
use mathlib.Core.Path.{◌≡◌, refl, ap, sym, ◌∙◌}
use mathlib.Core.List.{List, [], ◌∷◌, ◌++◌, append_assoc, Memᴰ}
use borrow.Author.Tests.{ne_eqb}
use Rattle.command_line.specs.WordRow.{begun_by, words_in, row_of}

-- one word more
pub row_snoc : (ws : List (List ℕ)) (w : List ℕ) → row_of (ws ++ (w ∷ [])) ≡ row_of ws ++ (w ++ (0 ∷ []))
row_snoc [] w = refl
row_snoc (v ∷ ws) w = ap (λ (x : List ℕ). v ++ (0 ∷ x)) (row_snoc ws w) ∙ sym (append_assoc v (0 ∷ row_of ws) (w ++ (0 ∷ [])))

first_word : (w rest : List ℕ) → (Memᴰ 0 w → ⊥) → words_in (w ++ (0 ∷ rest)) ≡ w ∷ words_in rest
unfolding words_in begun_by
first_word [] rest h = refl
first_word (b ∷ w) rest h =
    rw (ne_eqb b 0 (λ e. h (Memᴰ.head (sym e)))) (ap (begun_by b) (first_word w rest (λ m. h (Memᴰ.tail m))))

-- no word of a command line has a byte 0
pub words_in_row : (ws : List (List ℕ)) → ((w : List ℕ) → Memᴰ w ws → Memᴰ 0 w → ⊥) → words_in (row_of ws) ≡ ws
unfolding words_in
words_in_row [] h = refl
words_in_row (w ∷ ws) h =
    first_word w (row_of ws) (h w (Memᴰ.head refl)) ∙ ap (λ (x : List (List ℕ)). w ∷ x) (words_in_row ws (λ v m. h v (Memᴰ.tail m)))

-- Readers one after another: grouped in another way, and a word with the space before it.
use Prim.Native.Nat.{ℕ}
use mathlib.Core.Path.{◌≡◌, refl, sym, ◌∙◌}
use mathlib.Core.List.{List}
use Rattle.model.specs.Bytes.{bytes}
use Rattle.model.specs.Reading.{Parsed, fail, got, Reader, after, lit_bytes}

after_after : {A B C : Type 0} (o : Parsed A) (f : A → ℕ → Parsed B) (g : B → ℕ → Parsed C) → after (after o f) g ≡ after o (λ a n. after (f a n) g)
after_after fail f g = refl
after_after (got a n) f g = refl

-- readers that go on in the same way
pub after_same : {A B : Type 0} (o : Parsed A) {f g : A → ℕ → Parsed B} → ((a : A) (n : ℕ) → f a n ≡ g a n) → after o f ≡ after o g
after_same fail h = refl
after_same (got a n) h = h a n

-- the first of two readers, and those behind them
after_both : {A B C : Type 0} (o : Parsed A) (f : A → ℕ → Parsed B) (g : B → ℕ → Parsed C) {k : A → ℕ → Parsed C}
    → ((a : A) (n : ℕ) → k a n ≡ after (f a n) g) → after o k ≡ after (after o f) g
after_both o f g h = after_same o h ∙ sym (after_after o f g)

-- a word with the space before it
pub joined : {A B : Type 0} (q : Reader A) (s : List ℕ) (at : ℕ) {f g : A → ℕ → Parsed B} → ((a : A) (n : ℕ) → f a n ≡ g a n)
    → after (lit_bytes (bytes " ") s at) (λ _ m. after (q s m) f) ≡ after (after (lit_bytes (bytes " ") s at) (λ _ m. q s m)) g
joined q s at {f} {g} h = after_both (lit_bytes (bytes " ") s at) (λ _ m. q s m) g (λ _ m. after_same (q s m) h)

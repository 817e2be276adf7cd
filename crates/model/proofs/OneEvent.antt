-- Names that are one event: byte by byte, as a test, among others, and apart.
use Prim.Native.Nat.{ℕ, zero, suc, ◌+◌, ◌<◌, ◌≤◌}
use native.Mathlib.Omega.{arith}
use mathlib.Core.Path.{◌≡◌, refl, ap, sym, ◌∙◌, subst}
use mathlib.Core.Logic.{◌⊎◌, inl, inr}
use mathlib.Core.Bool.{not, ◌&&◌}
use mathlib.Core.List.{List, [], ◌∷◌, map, Memᴰ}
use mathlib.Core.Option.{some-injective, none-ne-some}
use lib.Dec.{T, leb, leb→le, le→leb, eqb, eqb→eq}
use lib.ListN.{length, get_or, length-map}
use Rattle.model.specs.Lists.{At, Pairwise, exists}
use Rattle.model.specs.Bytes.{is_capital, Letter, Digit, Name, IsName, lower, OneEvent, Among, same_name}
use Rattle.model.specs.Text.{distinct}
use Rattle.model.specs.Table.{DeclaredTwice}
use Rattle.model.specs.Spelling.{SmallOf, SameButCase}
use Rattle.model.proofs.Laws.{dec, T_true, T_false, cond_true, cond_false, exists_intro, exists_elim, eqb_of, and_l, and_r, and_i, and_not, not_not, not_T, contra, order}
use Rattle.model.proofs.Positions.{at_mem, mem_at}

-- ---- bytes

pub data Lowered (b : ℕ) : Type 0 where
  capital : 65 ≤ b → b ≤ 90 → lower b ≡ b + 32 → Lowered b
  other : (b < 65) ⊎ (90 < b) → lower b ≡ b → Lowered b

pub lowered : (b : ℕ) → Lowered b
unfolding lower is_capital
lowered b = go (dec (leb 65 b && leb b 90))
  where
    outside : ¬ ((65 ≤ b) × (b ≤ 90)) → (b < 65) ⊎ (65 ≤ b) → (90 < b) ⊎ (b ≤ 90) → (b < 65) ⊎ (90 < b)
    outside n (inl x) y = inl x
    outside n (inr x) (inl y) = inr y
    outside n (inr x) (inr y) = absurd (n (x, y))

    go : T (leb 65 b && leb b 90) ⊎ T (not (leb 65 b && leb b 90)) → Lowered b
    go (inl t) =
        capital (leb→le 65 b (and_l (leb 65 b) (leb b 90) t)) (leb→le b 90 (and_r (leb 65 b) (leb b 90) t)) (cond_true (leb 65 b && leb b 90) (b + 32) b t)
    go (inr t) =
        other
        (outside (λ w. contra (leb 65 b && leb b 90) t (and_i (leb 65 b) (leb b 90) (le→leb 65 b w.0) (le→leb b 90 w.1))) (order b 65) (order 90 b))
        (cond_false (leb 65 b && leb b 90) (b + 32) b t)

pub case_of_lem : (a b : ℕ) → lower a ≡ lower b → SameButCase a b
case_of_lem a b q = go (lowered a) (lowered b)
  where
    go : Lowered a → Lowered b → SameButCase a b
    go (capital x y e) (capital v w f) = inl (omega arith)
    go (capital x y e) (other v f) = inr (inl (record { least = x; most = y; small = sym f ∙ sym q ∙ e }))
    go (other x e) (capital v w f) = inr (inr (record { least = v; most = w; small = sym e ∙ q ∙ f }))
    go (other x e) (other v f) = inl (sym e ∙ q ∙ f)

small_lower : (a b : ℕ) → SmallOf a b → lower a ≡ lower b
small_lower a b s = go (lowered a) (lowered b)
  where
    go : Lowered a → Lowered b → lower a ≡ lower b
    go (capital x y e) (capital v w f) = absurd (omega (arith, s.most, s.small))
    go (capital x y e) (other v f) = e ∙ sym s.small ∙ sym f
    go (other (inl x) e) l = absurd (omega (arith, s.least))
    go (other (inr x) e) l = absurd (omega (arith, s.most))

pub of_case : (a b : ℕ) → SameButCase a b → lower a ≡ lower b
of_case a b (inl q) = ap lower q
of_case a b (inr (inl s)) = small_lower a b s
of_case a b (inr (inr s)) = sym (small_lower b a s)

-- ---- names, byte by byte

pub one_case : (e f : Name) → OneEvent e f → Pairwise SameButCase e f
one_case [] [] p = tt
one_case [] (b ∷ f) p = let z : ◌≡◌ {A = ℕ} 0 1 = cc in absurd (omega arith)
one_case (a ∷ e) [] p = let z : ◌≡◌ {A = ℕ} 0 1 = cc in absurd (omega arith)
one_case (a ∷ e) (b ∷ f) p =
    let x : lower a ≡ lower b = cc in
    let y : map lower e ≡ map lower f = cc in
    (case_of_lem a b x, one_case e f y)

pub case_one : (e f : Name) → Pairwise SameButCase e f → OneEvent e f
case_one [] [] p = refl
case_one [] (b ∷ f) p = absurd p
case_one (a ∷ e) [] p = absurd p
case_one (a ∷ e) (b ∷ f) p =
    let x : lower a ≡ lower b = of_case a b p.0 in
    let y : map lower e ≡ map lower f = case_one e f p.1 in
    cc

-- the test
pub one_of : (e f : Name) → T (same_name e f) → OneEvent e f
one_of [] [] t = refl
one_of [] (b ∷ f) t = absurd t
one_of (a ∷ e) [] t = absurd t
one_of (a ∷ e) (b ∷ f) t =
    let p : lower a ≡ lower b = eqb→eq (lower a) (lower b) (and_l (eqb (lower a) (lower b)) (same_name e f) t) in
    let q : map lower e ≡ map lower f = one_of e f (and_r (eqb (lower a) (lower b)) (same_name e f) t) in
    cc

pub of_one : (e f : Name) → OneEvent e f → T (same_name e f)
of_one [] [] p = tt
of_one [] (b ∷ f) p = let z : ◌≡◌ {A = ℕ} 0 1 = cc in absurd (omega arith)
of_one (a ∷ e) [] p = let z : ◌≡◌ {A = ℕ} 0 1 = cc in absurd (omega arith)
of_one (a ∷ e) (b ∷ f) p =
    let x : lower a ≡ lower b = cc in
    let y : map lower e ≡ map lower f = cc in
    and_i (eqb (lower a) (lower b)) (same_name e f) (eqb_of (lower a) (lower b) x) (of_one e f y)

pub one_refl : (e : Name) → OneEvent e e
one_refl e = refl

pub one_sym : (e f : Name) → OneEvent e f → OneEvent f e
one_sym e f p = sym p

pub one_trans : (e f g : Name) → OneEvent e f → OneEvent f g → OneEvent e g
one_trans e f g p q = p ∙ q

-- names that are one event are the same to the test
pub same_test : (e f x : Name) → OneEvent e f → same_name e x ≡ same_name f x
same_test e f x o = go (dec (same_name f x))
  where
    go : T (same_name f x) ⊎ T (not (same_name f x)) → same_name e x ≡ same_name f x
    go (inl t) = T_true (same_name e x) (of_one e x (one_trans e f x o (one_of f x t))) ∙ sym (T_true (same_name f x) t)
    go (inr t) =
        T_false (same_name e x) (not_T (same_name e x) (λ u. contra (same_name f x) t (of_one f x (one_trans f e x (one_sym e f o) (one_of e x u)))))
        ∙ sym (T_false (same_name f x) t)

sym_test : (e f : Name) → same_name e f ≡ same_name f e
sym_test e f = go (dec (same_name f e))
  where
    go : T (same_name f e) ⊎ T (not (same_name f e)) → same_name e f ≡ same_name f e
    go (inl t) = T_true (same_name e f) (of_one e f (one_sym f e (one_of f e t))) ∙ sym (T_true (same_name f e) t)
    go (inr t) = T_false (same_name e f) (not_T (same_name e f) (λ u. contra (same_name f e) t (of_one f e (one_sym e f (one_of e f u))))) ∙ sym (T_false (same_name f e) t)

pub both_test : (e f x y : Name) → OneEvent e f → OneEvent x y → same_name e x ≡ same_name f y
both_test e f x y o p = same_test e f x o ∙ sym_test f x ∙ same_test x y f p ∙ sym_test y f

pub one_length : (e f : Name) → OneEvent e f → length e ≡ length f
one_length e f p = sym (length-map e lower) ∙ ap length p ∙ length-map f lower

-- ---- what is one event with a name is a name

letter_case : (a b : ℕ) → SameButCase a b → Letter b → Letter a
letter_case a b (inl q) l = subst Letter (sym q) l
letter_case a b (inr (inl s)) l = inr (s.least, s.most)
letter_case a b (inr (inr s)) l = inl (omega (arith, s.least, s.small), omega (arith, s.most, s.small))

pub stays : (a b : ℕ) → SameButCase a b → ¬ Letter a → a ≡ b
stays a b (inl q) n = q
stays a b (inr (inl s)) n = absurd (n (inr (s.least, s.most)))
stays a b (inr (inr s)) n = absurd (n (letter_case a b (inr (inr s)) (inr (s.least, s.most))))

byte_case : (a b : ℕ) → SameButCase a b → Letter b ⊎ (Digit b ⊎ (b ≡ 45)) → Letter a ⊎ (Digit a ⊎ (a ≡ 45))
byte_case a b (inl q) l = subst (λ (x : ℕ). Letter x ⊎ (Digit x ⊎ (x ≡ 45))) (sym q) l
byte_case a b (inr (inl s)) l = inl (inr (s.least, s.most))
byte_case a b (inr (inr s)) l = inl (letter_case a b (inr (inr s)) (inr (s.least, s.most)))

each_case : (P : ℕ → Type 0) → ((a b : ℕ) → SameButCase a b → P b → P a) → (e f : Name) → Pairwise SameButCase e f → ((b : ℕ) → Memᴰ b f → P b)
    → (a : ℕ) → Memᴰ a e → P a
each_case P h [] f p n a m = elim m [ ]
each_case P h (x ∷ e) [] p n a m = absurd p
each_case P h (x ∷ e) (y ∷ f) p n a (Memᴰ.head q) = subst P (sym q) (h x y p.0 (n y (Memᴰ.head refl)))
each_case P h (x ∷ e) (y ∷ f) p n a (Memᴰ.tail m) = each_case P h e f p.1 (λ b i. n b (Memᴰ.tail i)) a m

pub one_name : (e f : Name) → OneEvent e f → IsName f → IsName e
one_name e f o n =
    record {
      least = omega (arith, one_length e f o, n.least);
      most = omega (arith, one_length e f o, n.most);
      letter = first e f (one_case e f o) n.least n.letter;
      each = each_case (λ b. Letter b ⊎ (Digit b ⊎ (b ≡ 45))) byte_case e f (one_case e f o) n.each;
    }
  where
    first : (e f : Name) → Pairwise SameButCase e f → 1 ≤ length f → Letter (get_or f 0 0) → Letter (get_or e 0 0)
    first e [] p h l = absurd (omega arith)
    first [] (y ∷ f) p h l = absurd p
    first (x ∷ e) (y ∷ f) p h l = letter_case x y p.0 l

-- ---- among these

pub one_among : (e : Name) (es : List Name) → T (exists (same_name e) es) → Among e es
one_among e es t = let w = exists_elim (same_name e) es t in (w.0, w.1, one_of e w.0 w.2)

pub among_one : (e : Name) (es : List Name) → Among e es → T (exists (same_name e) es)
among_one e es (f, m, o) = exists_intro (same_name e) es f m (of_one e f o)

-- ---- names of which no two are one event

abbrev pub Apart : List Name → Type 0
Apart es = (i j : ℕ) (e f : Name) → At es i e → At es j f → OneEvent e f → i ≡ j

pub distinct_apart : (es : List Name) → T (distinct es) → Apart es
unfolding distinct
distinct_apart [] t i j e f a b o = absurd (none-ne-some e a)
distinct_apart (x ∷ es) t zero zero e f a b o = refl
distinct_apart (x ∷ es) t zero (suc j) e f a b o =
    absurd (contra (exists (same_name x) es) (and_l (not (exists (same_name x) es)) (distinct es) t)
    (among_one x es (f, at_mem es j f b, subst (λ (y : Name). OneEvent y f) (sym (some-injective x e a)) o)))
distinct_apart (x ∷ es) t (suc i) zero e f a b o =
    absurd (contra (exists (same_name x) es) (and_l (not (exists (same_name x) es)) (distinct es) t)
    (among_one x es (e, at_mem es i e a, one_sym e x (subst (λ (y : Name). OneEvent e y) (sym (some-injective x f b)) o))))
distinct_apart (x ∷ es) t (suc i) (suc j) e f a b o =
    ap suc (distinct_apart es (and_r (not (exists (same_name x) es)) (distinct es) t) i j e f a b o)

pub apart_distinct : (es : List Name) → Apart es → T (distinct es)
unfolding distinct
apart_distinct [] h = tt
apart_distinct (x ∷ es) h =
    and_i (not (exists (same_name x) es)) (distinct es)
    (not_T (exists (same_name x) es) (λ t. no (one_among x es t)))
    (apart_distinct es (λ i j e f a b o. let q : suc i ≡ suc j = h (suc i) (suc j) e f a b o in omega arith))
  where
    no : Among x es → ⊥
    no w = let k = mem_at es w.0 w.1 in let q : 0 ≡ suc k.0 = h 0 (suc k.0) x w.0 refl k.1 w.2 in omega arith

pub not_distinct : (es : List Name) → T (not (distinct es)) → DeclaredTwice es
unfolding distinct
not_distinct [] t = absurd t
not_distinct (x ∷ es) t = go (not_distinct es) (and_not (not (exists (same_name x) es)) (distinct es) t)
  where
    go : (T (not (distinct es)) → DeclaredTwice es) → T (not (not (exists (same_name x) es))) ⊎ T (not (distinct es)) → DeclaredTwice (x ∷ es)
    go ih (inl u) =
        let (f, m, o) = one_among x es (not_not (exists (same_name x) es) u) in
        let (k, a) = mem_at es f m in
        (0, suc k, x, f, omega arith, refl, a, o)
    go ih (inr u) = let (i, j, e, f, h, a, b, o) = ih u in (suc i, suc j, e, f, omega arith, a, b, o)

pub apart_once : (es : List Name) → Apart es → ¬ DeclaredTwice es
apart_once es h (i, j, e, f, l, a, b, o) = let q : i ≡ j = h i j e f a b o in omega arith

pub once_apart : (es : List Name) → ¬ DeclaredTwice es → Apart es
once_apart es n i j e f a b o = go (order i j) (order j i)
  where
    go : (i < j) ⊎ (j ≤ i) → (j < i) ⊎ (i ≤ j) → i ≡ j
    go (inl x) y = absurd (n (i, j, e, f, x, a, b, o))
    go (inr x) (inl y) = absurd (n (j, i, f, e, y, b, a, one_sym e f o))
    go (inr x) (inr y) = omega arith

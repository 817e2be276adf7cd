-- A list of names, each ended by byte 10: what it is taken apart into.
use Prim.Native.Nat.{ℕ}
use native.Mathlib.Omega.{arith}
use mathlib.Core.Path.{◌≡◌, refl, ap, sym, ◌∙◌, subst}
use mathlib.Core.Logic.{◌⊎◌, inl, inr, ◌↔◌}
use mathlib.Core.Bool.{not, cond}
use mathlib.Core.List.Memᴰ
use mathlib.Core.List.{List, [], ◌∷◌, ◌++◌, flat_map, append_assoc, append-nil, Memᴰ}
use lib.Dec.{T, eqb, eqb→eq}
use Rattle.model.specs.Bytes.{Name, IsName, Letter, Digit}
use Rattle.model.specs.Board.{split_names}
use Rattle.model.specs.BoardTable.{ended, Unbroken, OddName}
use Rattle.model.proofs.Laws.{dec, T_true, T_false, contra, neqb, eqb_of}

-- ---- a list of names

pub unbroken_name : (w : Name) → IsName w → Unbroken w
unbroken_name w n m = go (n.each 10 m)
  where
    go : Letter 10 ⊎ (Digit 10 ⊎ (◌≡◌ {A = ℕ} 10 45)) → ⊥
    go (inl (inl l)) = omega (arith, l.0)
    go (inl (inr l)) = omega (arith, l.0)
    go (inr (inl d)) = omega (arith, d.0)
    go (inr (inr q)) = omega (arith, q)

pub split_word : (w e t : List ℕ) → Unbroken e → split_names w (e ++ (10 ∷ t)) ≡ ((w ++ e) ∷ (split_names [] t).0, (split_names [] t).1)
unfolding split_names
split_word w [] t u = rw (append-nil w)
split_word w (b ∷ e) t u =
    rw (T_false (eqb b 10) (neqb b 10 (λ q. u (Memᴰ.head (sym q)))), split_word (w ++ (b ∷ [])) e t (λ m. u (Memᴰ.tail m)), append_assoc w (b ∷ []) e)

pub split_last : (w e : List ℕ) → Unbroken e → split_names w e ≡ ([], w ++ e)
unfolding split_names
split_last w [] u = rw (append-nil w)
split_last w (b ∷ e) u =
    rw (T_false (eqb b 10) (neqb b 10 (λ q. u (Memᴰ.head (sym q)))), split_last (w ++ (b ∷ [])) e (λ m. u (Memᴰ.tail m)), append_assoc w (b ∷ []) e)

abbrev pub EachUnbroken : List Name → Type 0
EachUnbroken es = (e : Name) → Memᴰ e es → Unbroken e

pub split_all : (es : List Name) (t : List ℕ) → EachUnbroken es → split_names [] (flat_map ended es ++ t) ≡ (es ++ (split_names [] t).0, (split_names [] t).1)
unfolding flat_map
split_all [] t u = refl
split_all (e ∷ es) t u =
    let q : flat_map ended (e ∷ es) ++ t ≡ e ++ (10 ∷ (flat_map ended es ++ t)) = simp append_assoc in
    rw (q, split_word [] e (flat_map ended es ++ t) (u e (Memᴰ.head refl)), split_all es t (λ f m. u f (Memᴰ.tail m)))

-- what is found: the names and what stands after them are the list
pub record Split (w t : List ℕ) (es : List Name) (rest : List ℕ) : Type 0 where
  pub list : w ++ t ≡ flat_map ended es ++ rest
  pub names : EachUnbroken es
  pub last : Unbroken rest

pub split_names_lem : (w t : List ℕ) → Unbroken w → Split w t (split_names w t).0 (split_names w t).1
unfolding split_names flat_map
split_names_lem w [] u = record { list = append-nil w; names = λ e m. elim m [ ]; last = u }
split_names_lem w (b ∷ t) u = go (dec (eqb b 10)) (split_names_lem [] t (λ m. elim m [ ])) (split_names_lem (w ++ (b ∷ [])) t)
  where
    none_in : ¬ (b ≡ 10) → Unbroken (w ++ (b ∷ []))
    none_in n m = at (Memᴰ.append_cases w m)
      where
        at : Memᴰ 10 w ⊎ Memᴰ 10 (b ∷ []) → ⊥
        at (inl i) = u i
        at (inr i) = n (sym (Memᴰ.eq_of_singleton i))

    first_name : (es : List Name) → EachUnbroken es → EachUnbroken (w ∷ es)
    first_name es h e (Memᴰ.head q) = subst Unbroken (sym q) u
    first_name es h e (Memᴰ.tail m) = h e m

    go : T (eqb b 10) ⊎ T (not (eqb b 10)) → Split [] t (split_names [] t).0 (split_names [] t).1
        → (Unbroken (w ++ (b ∷ [])) → Split (w ++ (b ∷ [])) t (split_names (w ++ (b ∷ [])) t).0 (split_names (w ++ (b ∷ [])) t).1)
        → Split w (b ∷ t) (cond (eqb b 10) (w ∷ (split_names [] t).0, (split_names [] t).1) (split_names (w ++ (b ∷ [])) t)).0
        (cond (eqb b 10) (w ∷ (split_names [] t).0, (split_names [] t).1) (split_names (w ++ (b ∷ [])) t)).1
    go (inl x) i j =
        let q : b ≡ 10 = eqb→eq b 10 x in
        rw (T_true (eqb b 10) x)
        (record {
          list =
              ap (λ (c : ℕ). w ++ (c ∷ t)) q ∙ ap (λ (l : List ℕ). w ++ (10 ∷ l)) i.list
              ∙ sym (append_assoc w (10 ∷ []) (flat_map ended (split_names [] t).0 ++ (split_names [] t).1))
              ∙ sym (append_assoc (ended w) (flat_map ended (split_names [] t).0) (split_names [] t).1);
          names = first_name (split_names [] t).0 i.names;
          last = i.last;
        })
    go (inr x) i j =
        let k = j (none_in (λ q. contra (eqb b 10) x (eqb_of b 10 q))) in
        rw (T_false (eqb b 10) x) (record { list = sym (append_assoc w (b ∷ []) t) ∙ k.list; names = k.names; last = k.last })

-- names that are known alike
pub odd_map : (P Q : Name → Type 0) → ((e : Name) → P e ↔ Q e) → (t : List ℕ) (k : ℕ) → OddName P t k → OddName Q t k
odd_map P Q f t k o =
    record {
      before = o.before;
      count = o.count;
      known = λ e m. (f e).0 (o.known e m);
      name = o.name;
      unbroken = o.unbroken;
      rest = o.rest;
      list = o.list;
      odd = go o.odd;
    }
  where
    go : ((o.rest ≡ []) × (¬ (o.name ≡ []))) ⊎ (((after : List ℕ) × (o.rest ≡ 10 ∷ after)) × (¬ P o.name))
        → ((o.rest ≡ []) × (¬ (o.name ≡ []))) ⊎ (((after : List ℕ) × (o.rest ≡ 10 ∷ after)) × (¬ Q o.name))
    go (inl x) = inl x
    go (inr (x, n)) = inr (x, λ q. n ((f o.name).1 q))

-- The places 0 to n - 1 in groups, each place in just one of them and no group empty. Such groups are the places of a machine of which only its n states are known, so that
-- what the model says of merging two places holds of merging two groups.
use Prim.Native.Nat.{ℕ, ◌<◌, ◌≤◌}
use native.Mathlib.Omega.{arith}
use mathlib.Core.Path.{◌≡◌, refl, ap, sym, ◌∙◌, subst}
use mathlib.Core.Logic.{◌⊎◌, inl, inr}
use mathlib.Core.Bool.{not}
use mathlib.Core.List.{List, [], ◌∷◌, ◌++◌, map, flatten, append_assoc, Memᴰ}
use lib.Dec.{T, eqb, eqb→eq}
use lib.ListN.{length}
use Rattle.model.specs.Lists.{At, exists, count, elem, numbers}
use Rattle.model.specs.TransitionSystem.{TransitionSystem}
use Rattle.model.specs.Machine.{place_in}
use Rattle.model.specs.Merging.{merge_places, merge_machine}
use Rattle.model.proofs.Laws.{not_T, contra, eqb_of, not_lt, or_e, exists_intro}
use Rattle.model.proofs.ListLaws.{map_mem}
use Rattle.model.proofs.Positions.{numbers_below, at_mem, below_at, number_at, at_number}
use Rattle.model.proofs.Counting.{count_append, count_some, count_twice}
use Rattle.model.proofs.Bounds.{Within, ListedPlace, Listed}
use Rattle.model.proofs.Places.{Good, home}
use Rattle.model.proofs.Arcs.{place_number, in_place}
use Rattle.model.proofs.MergePlaces.{elem_right, elem_either, merge_good, merge_listed}

-- n states, and nothing that leads from one to another
abbrev states_only : ℕ → TransitionSystem
states_only n = record { states = n; events = 0; initial = 0; transitions = [] }

pub record Parts (n : ℕ) (gs : List (List ℕ)) : Type 0 where
  pub good : Good (states_only n) (record { places = gs })
  pub listed : Listed (states_only n) (record { places = gs })

abbrev pub single : ℕ → List ℕ
single q = q ∷ []

-- ---- members
pub mem_elem : (x : ℕ) (l : List ℕ) → Memᴰ x l → T (elem x l)
unfolding elem
mem_elem x l k = exists_intro (eqb x) l x k (eqb_of x x refl)

pub elem_mem : (x : ℕ) (l : List ℕ) → T (elem x l) → Memᴰ x l
unfolding elem exists
elem_mem x [] t = absurd t
elem_mem x (y ∷ l) t = go (or_e (eqb x y) (exists (eqb x) l) t) (elem_mem x l)
  where
    go : T (eqb x y) ⊎ T (exists (eqb x) l) → (T (exists (eqb x) l) → Memᴰ x l) → Memᴰ x (y ∷ l)
    go (inl u) ih = Memᴰ.head (eqb→eq x y u)
    go (inr u) ih = Memᴰ.tail (ih u)

pub flatten_append : (a b : List (List ℕ)) → flatten (a ++ b) ≡ flatten a ++ flatten b
unfolding flatten
flatten_append [] b = refl
flatten_append (x ∷ a) b = ap (λ (l : List ℕ). x ++ l) (flatten_append a b) ∙ sym (append_assoc x (flatten a) (flatten b))

pub flatten_single : (l : List ℕ) → flatten (map single l) ≡ l
unfolding flatten
flatten_single [] = refl
flatten_single (x ∷ l) = ap (λ (k : List ℕ). x ∷ k) (flatten_single l)

module _ {n : ℕ} {gs : List (List ℕ)} (r : Parts n gs) where
  -- each place is in the group of its number, and a group's places are places
  pub in_group : (q : ℕ) → q < n → (g : List ℕ) × At gs (place_in gs q) g × T (elem q g)
  in_group q l = let w = in_place (states_only n) (record { places = gs }) r.good q l in (w.place, w.numbered, w.contains)

  pub group_low : (c : ℕ) (g : List ℕ) (q : ℕ) → At gs c g → T (elem q g) → q < n
  group_low c g q a t = (r.listed g (at_mem gs c g a)).within q t

  pub group_number : (c : ℕ) (g : List ℕ) (q : ℕ) → At gs c g → T (elem q g) → place_in gs q ≡ c
  group_number c g q a t = place_number gs c g q a t (r.good.base.once q (group_low c g q a t))

  pub group_some : (c : ℕ) (g : List ℕ) → At gs c g → (q : ℕ) × T (elem q g)
  group_some c g a = (r.listed g (at_mem gs c g a)).nonempty

  pub merge_parts : (i j : ℕ) → i < j → j < length gs → Parts n (merge_places i j gs)
  unfolding merge_machine
  merge_parts i j h k = go (below_at gs j k)
    where
      go : (g : List ℕ) × At gs j g → Parts n (merge_places i j gs)
      go (g, a) =
          let w = group_some j g a in
          let l = group_low j g w.0 a w.1 in
          let b : Within (states_only n) = record { initial = omega (arith, l); source = λ t x. elim x [ ]; event = λ t x. elim x [ ]; target = λ t x. elim x [ ] } in
          record {
            good = merge_good (states_only n) b i j (record { places = gs }) h k r.good;
            listed = merge_listed (states_only n) b i j (record { places = gs }) h k r.listed;
          }

-- ---- some groups and the other places by themselves
module _ {n : ℕ} (gs : List (List ℕ)) (rest : List ℕ) (r : Parts n (gs ++ map single rest)) where
  all_of : flatten (gs ++ map single rest) ≡ flatten gs ++ rest
  all_of = flatten_append gs (map single rest) ∙ ap (λ (l : List ℕ). flatten gs ++ l) (flatten_single rest)

  pub rest_low : (x : ℕ) → Memᴰ x rest → x < n
  rest_low x k =
      let h = home (gs ++ map single rest) x (subst (λ (l : List ℕ). T (elem x l)) (sym all_of) (elem_right x (flatten gs) rest (mem_elem x rest k))) in
      (r.listed h.place h.listed).within x h.holds

  pub rest_out : (x : ℕ) → Memᴰ x rest → T (not (elem x (flatten gs)))
  unfolding elem
  rest_out x k =
      not_T (elem x (flatten gs)) (λ t. omega (
        arith,
        r.good.base.once x (rest_low x k),
        ap (count (eqb x)) all_of,
        count_append (eqb x) (flatten gs) rest,
        count_some (eqb x) (flatten gs) t,
        count_some (eqb x) rest (mem_elem x rest k),
      ))

  pub out_rest : (x : ℕ) → x < n → T (not (elem x (flatten gs))) → Memᴰ x rest
  out_rest x l o = go (elem_either x (flatten gs) rest (subst (λ (k : List ℕ). T (elem x k)) all_of (r.good.base.placed x l)))
    where
      go : T (elem x (flatten gs)) ⊎ T (elem x rest) → Memᴰ x rest
      go (inl t) = absurd (contra (elem x (flatten gs)) o t)
      go (inr t) = elem_mem x rest t

-- ---- at the beginning each place is by itself
numbers_once : (n x : ℕ) → count (eqb x) (numbers n) ≤ 1
numbers_once n x = not_lt 1 (count (eqb x) (numbers n)) (λ h. let w = count_twice x (numbers n) h in omega (arith, w.2, at_number n w.0 x w.3, at_number n w.1 x w.4))

pub single_parts : (n : ℕ) → Parts n (map single (numbers n))
single_parts n =
    record {
      good =
          record {
            base =
                record {
                  once = λ x l. subst (λ (k : List ℕ). count (eqb x) k ≤ 1) (sym (flatten_single (numbers n))) (numbers_once n x);
                  placed = λ x l. subst (λ (k : List ℕ). T (elem x k)) (sym (flatten_single (numbers n))) (mem_elem x (numbers n) (at_mem (numbers n) x x (number_at n x l)));
                };
            uniform = λ e l. absurd (omega (arith, l));
          };
      listed = λ g k. alone g (map_mem single (numbers n) g k);
    }
  where
    alone : (g : List ℕ) → (x : ℕ) × Memᴰ x (numbers n) × (g ≡ single x) → ListedPlace (states_only n) g
    alone g (x, k, e) =
        rw e (record {
          within = λ s t. within s (elem_mem s (single x) t);
          nonempty = (x, mem_elem x (single x) (Memᴰ.head refl));
        })
      where
        within : (s : ℕ) → Memᴰ s (single x) → s < n
        within s (Memᴰ.head q) = subst (λ (z : ℕ). z < n) (sym q) (numbers_below n x k)
        within s (Memᴰ.tail q) = elim q [ ]

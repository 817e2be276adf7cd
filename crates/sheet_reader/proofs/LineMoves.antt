-- A line with one move more, and a name looked up among names.
use Prim.Native.Nat.{ℕ, suc, ◌<◌}
use mathlib.Core.Path.{◌≡◌, refl, ap, ◌∙◌}
use mathlib.Core.Logic.{◌⊎◌, inl, inr}
use mathlib.Core.Bool.{Bool, true, false, not, cond, ◌||◌}
use mathlib.Core.List.{List, [], ◌∷◌, ◌++◌, flat_map, append-nil, Memᴰ}
use mathlib.Core.Option.{none, some, map}
use lib.Dec.{T}
use lib.ListN.{length, get_or}
use Rattle.model.specs.Lists.{At, exists, first, index}
use Rattle.model.specs.Product.{Move}
use Rattle.model.specs.Bytes.{Name, OneEvent, same_name}
use Rattle.model.specs.Text.{event_number}
use Rattle.model.specs.Sheet.{NamedMove, NamedLine, Board}
use Rattle.model.specs.Board.{add_name, add_names, names_on, move_on}
use Rattle.model.specs.BoardTable.{OnLine}
use Rattle.model.proofs.Laws.{dec, not_T, contra, cond_true, cond_false}
use Rattle.model.proofs.ListLaws.{flat_map_append}
use Rattle.model.proofs.Positions.{at_get_d, index_below, index_passes}
use Rattle.model.proofs.OneEvent.{one_of, of_one, among_one}

-- ---- names

pub add_names_lem : (ns : List Name) (xs ys : List NamedMove) → add_names ns (xs ++ ys) ≡ add_names (add_names ns xs) ys
unfolding add_names
add_names_lem ns [] ys = refl
add_names_lem ns (x ∷ xs) ys = add_names_lem (add_name ns x.event) xs ys

-- a line with these moves
abbrev pub with : NamedLine → List NamedMove → NamedLine
with l xs = record { number = l.number; place_count = l.place_count; start = l.start; moves = xs }

pub names_last : (b : Board) (l : NamedLine) (xs : List NamedMove) → names_on (b ++ (with l xs ∷ [])) ≡ add_names (names_on b) xs
unfolding names_on flat_map
names_last b l xs =
    ap (add_names []) (flat_map_append (λ (k : NamedLine). k.moves) b (with l xs ∷ []) ∙ ap (λ (ys : List NamedMove). flat_map (λ (k : NamedLine). k.moves) b ++ ys) (append-nil xs))
    ∙ add_names_lem [] (flat_map (λ (k : NamedLine). k.moves) b) xs

-- ---- a line with one move more

first_old : {A : Type 0} (f : A → Bool) (xs : List A) (x : A) → T (not (f x)) → first f (xs ++ (x ∷ [])) ≡ first f xs
unfolding first
first_old f [] x n = cond_false (f x) (some x) none n
first_old f (y ∷ xs) x n = ap (λ o. cond (f y) (some y) o) (first_old f xs x n)

first_new : {A : Type 0} (f : A → Bool) (xs : List A) (x : A) → ((y : A) → Memᴰ y xs → T (not (f y))) → T (f x) → first f (xs ++ (x ∷ [])) ≡ some x
unfolding first
first_new f [] x h t = cond_true (f x) (some x) none t
first_new f (y ∷ xs) x h t = cond_false (f y) (some y) (first f (xs ++ (x ∷ []))) (h y (Memᴰ.head refl)) ∙ first_new f xs x (λ z m. h z (Memᴰ.tail m)) t

abbrev pub places : NamedMove → Move
places x = record { pre = x.pre; post = x.post }

module _ (l : NamedLine) (xs : List NamedMove) (x : NamedMove) (w : Name) where
  pub move_old : (¬ OneEvent w x.event) → move_on (with l (xs ++ (x ∷ []))) w ≡ move_on (with l xs) w
  unfolding move_on
  move_old n = ap (map places) (first_old (λ (y : NamedMove). same_name w y.event) xs x (not_T (same_name w x.event) (λ t. n (one_of w x.event t))))

  pub move_new : OneEvent w x.event → (¬ OnLine (with l xs) w) → move_on (with l (xs ++ (x ∷ []))) w ≡ some (places x)
  unfolding move_on
  move_new o n =
      ap (map places)
      (first_new (λ (y : NamedMove). same_name w y.event) xs x (λ y m. not_T (same_name w y.event) (λ t. n (y, m, one_of w y.event t))) (of_one w x.event o))

-- ---- a name looked up

abbrev pub Spelt : List Name → ℕ → Name → Type 0
Spelt ns e w = (f : Name) × At ns e f × OneEvent w f

-- looking a name up among names: its number, or it is new
pub data Looked (ns : List Name) (w : Name) : Type 0 where
  old : event_number ns w < length ns → Spelt ns (event_number ns w) w → add_name ns w ≡ ns → Looked ns w
  new : event_number ns w ≡ length ns → ((f : Name) → Memᴰ f ns → ¬ OneEvent w f) → add_name ns w ≡ ns ++ (w ∷ []) → Looked ns w

index_none : {A : Type 0} (f : A → Bool) (l : List A) → T (not (exists f l)) → index f l ≡ length l
unfolding index exists
index_none f [] n = refl
index_none f (x ∷ l) n = go (f x) refl n (index_none f l)
  where
    go : (b : Bool) → f x ≡ b → T (not (b || exists f l)) → (T (not (exists f l)) → index f l ≡ length l) → cond b 0 (suc (index f l)) ≡ suc (length l)
    go true q k ih = absurd k
    go false q k ih = ap suc (ih k)

pub looked : (ns : List Name) (w : Name) → Looked ns w
unfolding event_number add_name
looked ns w = go (dec (exists (same_name w) ns))
  where
    go : T (exists (same_name w) ns) ⊎ T (not (exists (same_name w) ns)) → Looked ns w
    go (inl t) =
        let h = index_below (same_name w) ns t in
        old h (get_or ns (index (same_name w) ns) [], at_get_d ns (index (same_name w) ns) [] h, one_of w (get_or ns (index (same_name w) ns) []) (index_passes (same_name w) ns [] t))
        (cond_true (exists (same_name w) ns) ns (ns ++ (w ∷ [])) t)
    go (inr t) =
        new (index_none (same_name w) ns t) (λ f m o. contra (exists (same_name w) ns) t (among_one w ns (f, m, o))) (cond_false (exists (same_name w) ns) ns (ns ++ (w ∷ [])) t)

-- Two places of a machine merged, by the places' numbers.
use Prim.Native.Nat.{ℕ, zero, suc, ◌<◌, ◌≤◌}
use native.Mathlib.Omega.{arith}
use mathlib.Core.Path.{◌≡◌, refl, ap}
use mathlib.Core.List.{List, [], ◌∷◌, ◌++◌}
use mathlib.Core.Option.{some, none-ne-some, some-injective}
use lib.ListN.{length, get_or}
use Rattle.model.specs.Lists.{At}
use Rattle.model.specs.Machine.{Place, Machine}
use Rattle.model.specs.Merging.{removed, merge_places, merge_machine}
use Rattle.model.specs.Merged.{MergedPlaces}

removed_length : (k : ℕ) (l : List Place) → k < length l → suc (length (removed k l)) ≡ length l
unfolding removed
removed_length k [] h = absurd (omega arith)
removed_length zero (x ∷ l) h = refl
removed_length (suc k) (x ∷ l) h = ap suc (removed_length k l (omega arith))

removed_lower : (k : ℕ) (l : List Place) (n : ℕ) (a : Place) → n < k → At l n a → At (removed k l) n a
unfolding removed
removed_lower k [] n a h e = e
removed_lower zero (x ∷ l) n a h e = absurd (omega arith)
removed_lower (suc k) (x ∷ l) zero a h e = e
removed_lower (suc k) (x ∷ l) (suc n) a h e = removed_lower k l n a (omega arith) e

removed_higher : (k : ℕ) (l : List Place) (n : ℕ) (a : Place) → k ≤ n → At l (suc n) a → At (removed k l) n a
unfolding removed
removed_higher k [] n a h e = absurd (none-ne-some a e)
removed_higher zero (x ∷ l) n a h e = e
removed_higher (suc k) (x ∷ l) zero a h e = absurd (omega arith)
removed_higher (suc k) (x ∷ l) (suc n) a h e = removed_higher k l n a (omega arith) e

merge_length : (i j : ℕ) (ps : List Place) → i < j → j < length ps → suc (length (merge_places i j ps)) ≡ length ps
unfolding merge_places removed
merge_length i zero ps h k = absurd (omega arith)
merge_length i (suc j) [] h k = absurd (omega arith)
merge_length zero (suc j) (p ∷ ps) h k = ap suc (removed_length j ps (omega arith))
merge_length (suc i) (suc j) (p ∷ ps) h k = ap suc (merge_length i j ps (omega arith) (omega arith))

merge_both : (i j : ℕ) (ps : List Place) → i < j → (a b : Place) → At ps i a → At ps j b → At (merge_places i j ps) i (a ++ b)
unfolding merge_places removed
merge_both i zero ps h a b x y = absurd (omega arith)
merge_both i (suc j) [] h a b x y = absurd (none-ne-some b y)
merge_both zero (suc j) (p ∷ ps) h a b x y = ap some (here p (get_or ps j []) (some-injective p a x) (value ps j y))
  where
    value : (l : List Place) (k : ℕ) → At l k b → get_or l k [] ≡ b
    value [] k e = absurd (none-ne-some b e)
    value (q ∷ l) zero e = some-injective q b e
    value (q ∷ l) (suc k) e = value l k e

    here : (c d : Place) → c ≡ a → d ≡ b → c ++ d ≡ a ++ b
    here c d e f = cc
merge_both (suc i) (suc j) (p ∷ ps) h a b x y = merge_both i j ps (omega arith) a b x y

merge_lower_lem : (i j : ℕ) (ps : List Place) → i < j → (n : ℕ) (a : Place) → n < j → ¬ (n ≡ i) → At ps n a → At (merge_places i j ps) n a
unfolding merge_places removed
merge_lower_lem i zero ps h n a l d x = absurd (omega arith)
merge_lower_lem i (suc j) [] h n a l d x = absurd (none-ne-some a x)
merge_lower_lem zero (suc j) (p ∷ ps) h zero a l d x = absurd (d refl)
merge_lower_lem zero (suc j) (p ∷ ps) h (suc n) a l d x = removed_lower j ps n a (omega arith) x
merge_lower_lem (suc i) (suc j) (p ∷ ps) h zero a l d x = x
merge_lower_lem (suc i) (suc j) (p ∷ ps) h (suc n) a l d x = merge_lower_lem i j ps (omega arith) n a (omega arith) (λ e. d (ap suc e)) x

merge_higher : (i j : ℕ) (ps : List Place) → i < j → (n : ℕ) (a : Place) → j ≤ n → At ps (suc n) a → At (merge_places i j ps) n a
unfolding merge_places removed
merge_higher i zero ps h n a l x = absurd (omega arith)
merge_higher i (suc j) [] h n a l x = absurd (none-ne-some a x)
merge_higher zero (suc j) (p ∷ ps) h zero a l x = absurd (omega arith)
merge_higher zero (suc j) (p ∷ ps) h (suc n) a l x = removed_higher j ps n a (omega arith) x
merge_higher (suc i) (suc j) (p ∷ ps) h zero a l x = absurd (omega arith)
merge_higher (suc i) (suc j) (p ∷ ps) h (suc n) a l x = merge_higher i j ps (omega arith) n a (omega arith) x

pub merged_places : (i j : ℕ) (m : Machine) → i < j → j < length m.places → MergedPlaces i j m.places (merge_machine i j m).places
unfolding merge_machine
merged_places i j m h k =
    record {
      one_fewer = merge_length i j m.places h k;
      both = merge_both i j m.places h;
      below = merge_lower_lem i j m.places h;
      above = merge_higher i j m.places h;
    }

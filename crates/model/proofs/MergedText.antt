-- The text with the merged machines is within the limits.
use Prim.Native.Nat.{ℕ, zero, suc, ◌+◌, ◌<◌, ◌≤◌}
use native.Mathlib.Omega.{arith}
use mathlib.Core.Path.{◌≡◌, ap, sym, ◌∙◌}
use mathlib.Core.Logic.{◌⊎◌, inl, inr}
use mathlib.Core.List.{List, [], ◌∷◌, ◌++◌, map, flat_map, Memᴰ}
use lib.ListN.{length, get_or, length-append}
use Rattle.model.specs.TransitionSystem.{Transition}
use Rattle.model.specs.Machine.{Place, Machine, Decomposition}
use Rattle.model.specs.Bytes.{bytes, digits}
use Rattle.model.specs.Form.{Line, states, events, step, machine, written, written_place}
use Rattle.model.specs.Text.{Input, shortest, lines_with, write, MachineLimits, Limits}
use Rattle.model.specs.Merging.{removed, merge_places, merge_machine, merge_in, place_count, with_machines}
use Rattle.model.proofs.ListLaws.{flat_map_append}
use Rattle.model.proofs.Positions.{at_mem}
use Rattle.model.proofs.MergeNumbers.{merged_places}
use Rattle.model.proofs.MergePlaces.{Origin, kept, union, origin}

-- ---- a merged place is written in fewer bytes

place_size : Place → ℕ
place_size p = length (written_place p)

rest_size : List ℕ → ℕ
rest_size xs = length (flat_map (λ y. bytes " " ++ digits y) xs)

rest_append : (xs ys : List ℕ) → rest_size (xs ++ ys) ≡ rest_size xs + rest_size ys
unfolding rest_size
rest_append xs ys = ap length (flat_map_append (λ y. bytes " " ++ digits y) xs ys) ∙ length-append (flat_map (λ y. bytes " " ++ digits y) xs) (flat_map (λ y. bytes " " ++ digits y) ys)

place_size_lem : (x : ℕ) (xs : List ℕ) → place_size (x ∷ xs) ≡ 3 + (length (digits x) + rest_size xs)
unfolding place_size written_place rest_size
place_size_lem x xs =
    omega (arith, length-append (digits x) (flat_map (λ y. bytes " " ++ digits y) xs ++ bytes ")"), length-append (flat_map (λ y. bytes " " ++ digits y) xs) (bytes ")"))

rest_cons : (y : ℕ) (ys : List ℕ) → rest_size (y ∷ ys) ≡ 1 + (length (digits y) + rest_size ys)
unfolding rest_size flat_map
rest_cons y ys = omega (arith, length-append (digits y) (flat_map (λ y. bytes " " ++ digits y) ys))

rest_size_lem : (ys : List ℕ) → rest_size ys ≤ place_size ys
unfolding rest_size flat_map
rest_size_lem [] = omega arith
rest_size_lem (y ∷ ys) = omega (arith, rest_cons y ys, place_size_lem y ys)

union_size : (a b : Place) → place_size (a ++ b) ≤ place_size a + place_size b
union_size [] b = omega arith
union_size (x ∷ xs) b = omega (arith, place_size_lem x (xs ++ b), place_size_lem x xs, rest_append xs b, rest_size_lem b)

places_size : List Place → ℕ
places_size ps = length (flat_map written_place ps)

cons_size : (p : Place) (ps : List Place) → places_size (p ∷ ps) ≡ place_size p + places_size ps
unfolding places_size place_size flat_map
cons_size p ps = length-append (written_place p) (flat_map written_place ps)

removed_size : (k : ℕ) (ps : List Place) → k < length ps → place_size (get_or ps k []) + places_size (removed k ps) ≡ places_size ps
unfolding removed
removed_size k [] h = absurd (omega arith)
removed_size zero (p ∷ ps) h = sym (cons_size p ps)
removed_size (suc k) (p ∷ ps) h = omega (arith, removed_size k ps (omega arith), cons_size p ps, cons_size p (removed k ps))

merge_size : (i j : ℕ) (ps : List Place) → i < j → j < length ps → places_size (merge_places i j ps) ≤ places_size ps
unfolding merge_places removed
merge_size i zero ps h k = absurd (omega arith)
merge_size i (suc j) [] h k = absurd (omega arith)
merge_size zero (suc j) (p ∷ ps) h k =
    omega (arith, cons_size (p ++ get_or ps j []) (removed j ps), cons_size p ps, union_size p (get_or ps j []), removed_size j ps (omega arith))
merge_size (suc i) (suc j) (p ∷ ps) h k = omega (arith, cons_size p (merge_places i j ps), cons_size p ps, merge_size i j ps (omega arith) (omega arith))

-- ---- the whole text

abbrev machine_lines : Decomposition → List Line
machine_lines ms = map (λ (m : Machine). machine m.places) ms

pub machines_size : Decomposition → ℕ
machines_size ms = length (flat_map written (machine_lines ms))

machine_size : (m : Machine) → length (written (machine m.places)) ≡ 10 + places_size m.places
unfolding written places_size
machine_size m = omega (arith, length-append (flat_map written_place m.places) (bytes ")\n"))

machines_size_lem : (m : Machine) (ms : Decomposition) → machines_size (m ∷ ms) ≡ 10 + (places_size m.places + machines_size ms)
unfolding machines_size flat_map
machines_size_lem m ms = omega (arith, length-append (written (machine m.places)) (flat_map written (machine_lines ms)), machine_size m)

pub in_size : (k i j : ℕ) (ms : Decomposition) → i < j → j < place_count k ms → machines_size (merge_in k i j ms) ≤ machines_size ms
unfolding merge_in place_count merge_machine
in_size k i j [] h l = absurd (omega arith)
in_size zero i j (m ∷ ms) h l = omega (arith, machines_size_lem m ms, machines_size_lem (record { places = merge_places i j m.places }) ms, merge_size i j m.places h l)
in_size (suc k) i j (m ∷ ms) h l = omega (arith, machines_size_lem m ms, machines_size_lem m (merge_in k i j ms), in_size k i j ms h l)

step_lines : Input → List Line
step_lines v = map (λ (t : Transition). step t.source (get_or v.names t.event []) t.target) v.transitions

write_size : (v : Input) → length (write v) ≡ length (written (states v.states (shortest v.initial))) + (length (written (events v.names)) + (length (flat_map written (step_lines v)) + machines_size v.machines))
unfolding write lines_with step_lines machines_size flat_map
write_size v =
    omega (
      arith,
      length-append (written (states v.states (shortest v.initial))) (written (events v.names) ++ flat_map written (step_lines v ++ machine_lines v.machines)),
      length-append (written (events v.names)) (flat_map written (step_lines v ++ machine_lines v.machines)),
      ap length (flat_map_append written (step_lines v) (machine_lines v.machines)),
      length-append (flat_map written (step_lines v)) (flat_map written (machine_lines v.machines)),
    )

-- ---- the limits

pub merge_limits : (v : Input) (i j : ℕ) (m : Machine) → i < j → j < length m.places → MachineLimits v m → MachineLimits v (merge_machine i j m)
unfolding merge_machine
merge_limits v i j m h k l =
    record {
      least = omega (arith, fewer, h, k);
      most = omega (arith, fewer, l.most);
      nonempty = λ r q. some_state r (origin i j m.places h k r q);
      below = λ r q x y. low r x y (origin i j m.places h k r q);
    }
  where
    fewer : suc (length (merge_places i j m.places)) ≡ length m.places
    fewer = (merged_places i j m h k).one_fewer

    some_state : (r : Place) → Origin i j m.places r → 1 ≤ length r
    some_state r (kept q) = l.nonempty r q
    some_state r (union a b x y e) = rw e (omega (arith, length-append a b, l.nonempty a (at_mem m.places i a x)))

    either : (a b : Place) (x : ℕ) → Memᴰ x (a ++ b) → Memᴰ x a ⊎ Memᴰ x b
    either [] b x q = inr q
    either (z ∷ a) b x (Memᴰ.head e) = inl (Memᴰ.head e)
    either (z ∷ a) b x (Memᴰ.tail q) = up (either a b x q)
      where
        up : Memᴰ x a ⊎ Memᴰ x b → Memᴰ x (z ∷ a) ⊎ Memᴰ x b
        up (inl w) = inl (Memᴰ.tail w)
        up (inr w) = inr w

    low : (r : Place) (x : ℕ) → Memᴰ x r → Origin i j m.places r → x < v.states
    low r x y (kept q) = l.below r q x y
    low r x y (union a b s t e) = go (either a b x (rw e at y))
      where
        go : Memᴰ x a ⊎ Memᴰ x b → x < v.states
        go (inl w) = l.below a (at_mem m.places i a s) x w
        go (inr w) = l.below b (at_mem m.places j b t) x w

-- what the limits ask of machines
pub record Fits (v : Input) (ms : Decomposition) : Type 0 where
  pub size : machines_size ms ≤ machines_size v.machines
  pub limits : (m : Machine) → Memᴰ m ms → MachineLimits v m

pub fits_limits : (v : Input) (ms : Decomposition) → Limits v → Fits v ms → length ms ≡ length v.machines → Limits (with_machines v ms)
unfolding step_lines
fits_limits v ms l f e =
    record {
      text = omega (arith, write_size v, write_size (with_machines v ms), f.size, l.text);
      states_least = l.states_least;
      states_most = l.states_most;
      initial = l.initial;
      names_most = l.names_most;
      names = l.names;
      distinct = l.distinct;
      transitions_most = l.transitions_most;
      transitions = λ t k. let w = l.transitions t k in record { source = w.source; event = w.event; target = w.target };
      machines_least = omega (arith, e, l.machines_least);
      machines_most = omega (arith, e, l.machines_most);
      machines = λ m k. let w = f.limits m k in record { least = w.least; most = w.most; nonempty = w.nonempty; below = w.below };
    }

-- Slip 4 of document 02 holds, of every text.
use Prim.Native.Nat.{ℕ, zero, suc, ◌<◌, ◌≤◌}
use native.Mathlib.Omega.{arith}
use mathlib.Core.Path.{◌≡◌, refl, ap, sym, ◌∙◌, subst}
use mathlib.Core.Logic.{◌⊎◌, inl, inr, ◌↔◌}
use mathlib.Core.Bool.{not}
use mathlib.Core.List.{List, [], ◌∷◌, ◌++◌, flatten, Memᴰ}
use mathlib.Core.Option.{none, map, some, none-ne-some, some-injective}
use lib.Dec.{T, eqb, ltb}
use lib.ListN.{length, get_or}
use Rattle.model.specs.Lists.{At, every, count, elem}
use Rattle.model.specs.Refusal.{Refusal, refuse, Checked, refused, passed, ◌>>=◌}
use Rattle.model.specs.TransitionSystem.{Transition, TransitionSystem, system_refusal}
use Rattle.model.specs.Machine.{Place, Machine, Decomposition, duplicate_state, unplaced_state, uniform, nonuniform_event, machine_refusal, machines_refusal, cover_refusal}
use Rattle.model.specs.Region.{IsTransitionSystem, IsMachine, IsRegion, states_of, Enter, Exit, Arc, HasEvent}
use Rattle.model.specs.Text.{Input, system, write, MachineLimits, Limits}
use Rattle.model.specs.Sheet.{sheet}
use Rattle.model.specs.Table.{Refused, Passes}
use Rattle.model.specs.Services.{as_far_as7, as_far_as10, as_far_as12, lend, merge}
use Rattle.model.specs.Demands.{Lends, Decides}
use Rattle.model.specs.Merging.{merge_machine, merged, with_machines, merged_input, merge_in}
use Rattle.model.specs.Merged.{MergedPlaces, Pass, Merged, MergedText, Merges}
use Rattle.model.proofs.Laws.{order, not_T, contra, none_or_else, none_lowest, every_intro, not_below}
use Rattle.model.proofs.Positions.{at_get_d, at_below, at_same}
use Rattle.model.proofs.Regions.{all_alike_iff}
use Rattle.model.proofs.Places.{Good}
use Rattle.model.proofs.Simulate.{covers_of}
use Rattle.model.proofs.Faith.{faithful}
use Rattle.model.proofs.Verdicts.{decides, read_iff, verdict12, refused_passed, same_passed}
use Rattle.model.proofs.Texts.{limits_of, write_reads}
use Rattle.model.proofs.Lending.{lends}
use Rattle.model.proofs.Demands.{Left12, left12, no_fork, demand2, demand3}
use Rattle.model.proofs.Coarser.{coarser_refl}
use Rattle.model.proofs.MergeNumbers.{merged_places}
use Rattle.model.proofs.MergePlaces.{elem_left, elem_right}
use Rattle.model.proofs.Merging.{State, merge_all, below_keeps, merged_state, merged_pass, merged_maximal, merge_length}
use Rattle.model.proofs.MergeResult.{pass_only}
use Rattle.model.proofs.MergedText.{in_size, merge_limits, Fits, fits_limits}

-- ---- machines that are good pass 8 to 10

good_none : (p : TransitionSystem) (k : ℕ) (m : Machine) → Good p m → machine_refusal p k m ≡ none
unfolding machine_refusal duplicate_state unplaced_state nonuniform_event
good_none p k m g =
    none_or_else _ _
    (ap (map (λ s. refuse 8 k s)) (none_lowest (λ s. ltb 1 (count (eqb s) (flatten m.places))) p.states (λ s l. not_below 1 (count (eqb s) (flatten m.places)) (g.base.once s l))))
    (none_or_else _ _
    (ap (map (λ s. refuse 9 k s))
    (none_lowest (λ s. not (elem s (flatten m.places))) p.states (λ s l. not_T (not (elem s (flatten m.places))) (λ n. contra (elem s (flatten m.places)) n (g.base.placed s l)))))
    (ap (map (λ e. refuse 10 k e))
    (none_lowest (λ e. not (every (uniform p e) m.places)) p.events
    (λ e l. not_T (not (every (uniform p e) m.places)) (λ n. contra (every (uniform p e) m.places) n (every_intro (uniform p e) m.places (λ r q. g.uniform e l r q)))))))

all_none : (p : TransitionSystem) (k : ℕ) (ms : Decomposition) → ((m : Machine) → Memᴰ m ms → Good p m) → machines_refusal p k ms ≡ none
unfolding machines_refusal
all_none p k [] g = refl
all_none p k (m ∷ ms) g = none_or_else _ _ (good_none p k m (g m (Memᴰ.head refl))) (all_none p (suc k) ms (λ n i. g n (Memᴰ.tail i)))

-- a value within the limits whose plan and machines pass is what its text gives
text_passes : (v : Input) → Limits v → system_refusal (system v) ≡ none → machines_refusal (system v) 0 v.machines ≡ none → cover_refusal (system v) v.machines ≡ none → as_far_as12 (write v) ≡ passed v
unfolding as_far_as12 as_far_as10 as_far_as7
text_passes v l a b c = rw ((read_iff (write v) v).1 (write_reads v l), a, b, c)

module _ (v : Input) (r : Limits v) (l : Left12 v) where
  state : State (system v) l.left.left.within v.machines v.machines
  state =
      record {
        good = l.left.good;
        listed = l.left.left.listed;
        covers = l.refuses;
        coarser = coarser_refl (system v) v.machines;
        size = refl;
      }

  merged_ok : State (system v) l.left.left.within v.machines (merged (system v) v.machines)
  merged_ok = merged_state (system v) l.left.left.within v.machines state

  fits : Fits v (merged (system v) v.machines)
  unfolding merged
  fits =
      below_keeps (system v) l.left.left.within (Fits v)
      (λ k i j ns h x n f.
      record {
        size = omega (arith, in_size k i j ns h x, f.size);
        limits = merge_all (MachineLimits v) k i j ns h x f.limits (λ m y. merge_limits v i j m h y);
      })
      (length v.machines) v.machines
      (record { size = omega arith; limits = r.machines })

  merged_limits : Limits (with_machines v (merged (system v) v.machines))
  merged_limits = fits_limits v (merged (system v) v.machines) r fits merged_ok.size

  merged_text : as_far_as12 (write (with_machines v (merged (system v) v.machines))) ≡ passed (with_machines v (merged (system v) v.machines))
  merged_text =
      text_passes (with_machines v (merged (system v) v.machines)) merged_limits l.left.left.refuses
      (all_none (system v) 0 (merged (system v) v.machines) merged_ok.good) merged_ok.covers

  merged_once : Pass (system v) 0 v.machines (merged (system v) v.machines)
  merged_once = merged_pass (system v) l.left.left.within v.machines state

  merged_holds : Merged v (merged (system v) v.machines)
  merged_holds =
      let ns = merged (system v) v.machines in
      let w = with_machines v ns in
      let b = l.left.left.within in
      let p : Passes 12 (write w) w = ((demand2 (write w)).as_far_as_12.passes w).0 merged_text in
      let says = (demand2 (write w)).shown w p in
      record {
        accepted = p;
        runs = λ es d. faithful (system v) ns b (no_fork v l.left.left) merged_ok.good merged_ok.listed (covers_of (system v) ns merged_ok.covers) es;
        maximal = merged_maximal (system v) b v.machines state;
        shown = says;
        fits = subst (λ (y : List ℕ). length y ≤ 32768) (sym says.says.0) says.says.1.size;
        boards = (demand3 (write w)).boards w p;
      }

-- ---- an event between two places leaves the machine when they are merged

module _ (p : TransitionSystem) (b : IsTransitionSystem p) (m : Machine) (g : IsMachine p m) where
  -- a place of the merged machine: one that was there under a number that is neither, or the union
  data Was (i j : ℕ) (r : Place) : Type 0 where
    other : (n : ℕ) → ¬ (n ≡ i) → ¬ (n ≡ j) → At m.places n r → Was i j r
    both : (a c : Place) → At m.places i a → At m.places j c → r ≡ a ++ c → Was i j r

  was : (i j q : ℕ) (r : Place) → i < j → j < length m.places → At (merge_machine i j m).places q r → Was i j r
  was i j q r h k x = go (order q i) (order i q) (order q j)
    where
      w : MergedPlaces i j m.places (merge_machine i j m).places
      w = merged_places i j m h k

      low : suc q < suc (length (merge_machine i j m).places)
      low = omega (arith, at_below (merge_machine i j m).places q r x)

      below : (n : ℕ) → n < length m.places → At m.places n (get_or m.places n [])
      below n = at_get_d m.places n []

      is : (c : Place) → At (merge_machine i j m).places q c → r ≡ c
      is c y = at_same (merge_machine i j m).places q r c x y

      kept_low : ¬ (q ≡ i) → q < j → Was i j r
      kept_low d l =
          let y = below q (omega (arith, l, k)) in
          other q d (λ (e : q ≡ j). omega (arith, e, l)) (rw (is (get_or m.places q []) (w.below q (get_or m.places q []) l d y)) y)

      go : (q < i) ⊎ (i ≤ q) → (i < q) ⊎ (q ≤ i) → (q < j) ⊎ (j ≤ q) → Was i j r
      go (inl y) z u = kept_low (λ (e : q ≡ i). omega (arith, e, y)) (omega (arith, y, h))
      go (inr y) (inl z) (inl u) = kept_low (λ (e : q ≡ i). omega (arith, e, z)) u
      go (inr y) (inr z) u =
          let e : q ≡ i = omega (arith, y, z) in
          let a = get_or m.places i [] in
          let c = get_or m.places j [] in
          let ai = below i (omega (arith, h, k)) in
          let cj = below j k in
          both a c ai cj (at_same (merge_machine i j m).places i r (a ++ c) (subst (λ (n : ℕ). At (merge_machine i j m).places n r) e x) (w.both a c ai cj))
      go (inr y) (inl z) (inr u) =
          let s = below (suc q) (omega (arith, low, w.one_fewer)) in
          other (suc q) (λ (e : suc q ≡ i). omega (arith, e, z)) (λ (e : suc q ≡ j). omega (arith, e, u))
          (rw (is (get_or m.places (suc q) []) (w.above q (get_or m.places (suc q) []) u s)) s)

  -- a state is in one place only
  alone : (n l : ℕ) (r c : Place) (s : ℕ) → s < p.states → At m.places n r → At m.places l c → T (elem s r) → T (elem s c) → n ≡ l
  alone n l r c s o x y h k = let w = (g.one_place s o).1 in w.only n r x h ∙ sym (w.only l c y k)

  event_leaves : (i j e : ℕ) → i < j → Arc p m i e j ⊎ Arc p m j e i → ¬ HasEvent (Arc p) (merge_machine i j m) e
  event_leaves i j e h a x = go a
    where
      t : Transition
      t = x.2.pre.1.transition

      kt : Memᴰ t p.transitions
      kt = x.2.pre.1.listed

      low : e < p.events
      low = subst (λ (n : ℕ). n < p.events) x.2.pre.1.label (b.within t kt).1

      source_of : (c : Place) → IsRegion p (states_of c) → Exit p e (states_of c) → T (elem t.source c)
      source_of c r o = (((all_alike_iff p e (states_of c)).0 (r.each e low)).leave o t kt x.2.pre.1.label).0

      target_of : (c : Place) → IsRegion p (states_of c) → Enter p e (states_of c) → T (elem t.target c)
      target_of c r o = (((all_alike_iff p e (states_of c)).0 (r.each e low)).enter o t kt x.2.pre.1.label).1

      -- the step leads from one of the two places to one of the two
      end : (n l : ℕ) (c d : Place) → (n ≡ i) ⊎ (n ≡ j) → (l ≡ i) ⊎ (l ≡ j) → j < length m.places → At m.places n c → At m.places l d
          → T (elem t.source c) → T (elem t.target d) → ⊥
      end n l c d u v k y z f o = at (was i j x.0 x.2.source h k x.2.source_number)
        where
          at : Was i j x.2.source → ⊥
          at (other q di dj w) = out u (alone q n x.2.source c t.source (b.within t kt).0 w y x.2.pre.1.holds.0 f)
            where
              out : (n ≡ i) ⊎ (n ≡ j) → q ≡ n → ⊥
              out (inl e1) e2 = di (e2 ∙ e1)
              out (inr e1) e2 = dj (e2 ∙ e1)
          at (both a1 c1 w1 w2 q) = contra (elem t.target x.2.source) x.2.pre.1.holds.1 (subst (λ (r : Place). T (elem t.target r)) (sym q) (within v))
            where
              within : (l ≡ i) ⊎ (l ≡ j) → T (elem t.target (a1 ++ c1))
              within (inl e1) = elem_left t.target a1 c1 (subst (λ (r : Place). T (elem t.target r)) (at_same m.places i d a1 (subst (λ (n1 : ℕ). At m.places n1 d) e1 z) w1) o)
              within (inr e1) = elem_right t.target a1 c1 (subst (λ (r : Place). T (elem t.target r)) (at_same m.places j d c1 (subst (λ (n1 : ℕ). At m.places n1 d) e1 z) w2) o)

      go : Arc p m i e j ⊎ Arc p m j e i → ⊥
      go (inl c) =
          end i j c.source c.target (inl refl) (inr refl) (at_below m.places j c.target c.target_number) c.source_number c.target_number
          (source_of c.source c.pre.0 c.pre.1) (target_of c.target c.post.0 c.post.1)
      go (inr c) =
          end j i c.source c.target (inr refl) (inl refl) (at_below m.places j c.source c.source_number) c.source_number c.target_number
          (source_of c.source c.pre.0 c.pre.1) (target_of c.target c.post.0 c.post.1)

-- one machine is changed
in_machine : (k i j : ℕ) (ms : Decomposition) (m : Machine) → At ms k m → At (merge_in k i j ms) k (merge_machine i j m)
unfolding merge_in
in_machine k i j [] m a = absurd (none-ne-some m a)
in_machine zero i j (v ∷ ms) m a = ap (λ (x : Machine). some (merge_machine i j x)) (some-injective v m a)
in_machine (suc k) i j (v ∷ ms) m a = in_machine k i j ms m a

others : (k i j n : ℕ) (ms : Decomposition) (m : Machine) → ¬ (n ≡ k) → At ms n m → At (merge_in k i j ms) n m
unfolding merge_in
others k i j n [] m d a = a
others zero i j zero (v ∷ ms) m d a = absurd (d refl)
others zero i j (suc n) (v ∷ ms) m d a = a
others (suc k) i j zero (v ∷ ms) m d a = a
others (suc k) i j (suc n) (v ∷ ms) m d a = others k i j n ms m (λ e. d (ap suc e)) a

-- ---- the call

module _ (s : List ℕ) where
  d : Decides 12 s (as_far_as12 s)
  d = decides 12 s (as_far_as12 s) (verdict12 s)

  -- the check, and then the pass
  merged_of : Checked Input
  merged_of = as_far_as12 s >>= λ v. passed (merged_input v)

  merged_refuses : (r : Refusal) → (merged_of ≡ refused r) ↔ Refused 12 s r
  unfolding merged_of
  merged_refuses r = (λ e. (d.refuses r).0 (go (as_far_as12 s) e), λ f. rw ((d.refuses r).1 f))
    where
      go : (c : Checked Input) → (c >>= λ v. passed (merged_input v)) ≡ refused r → c ≡ refused r
      go (refused q) e = e
      go (passed v) e = absurd (refused_passed r (merged_input v) (sym e))

  once : (v : Input) → Passes 12 s v → Pass (system v) 0 v.machines (merged (system v) v.machines)
  once v p = merged_once v (limits_of s v p.reads) (left12 s v p)

  only : (v : Input) (ns : Decomposition) → Passes 12 s v → Pass (system v) 0 v.machines ns → merged (system v) v.machines ≡ ns
  only v ns p x = pass_only (system v) 0 v.machines (merged (system v) v.machines) ns (once v p) x

  merged_given : (w : Input) → (merged_of ≡ passed w) ↔ MergedText s w
  unfolding merged_of merged_input
  merged_given w = (λ e. go (as_far_as12 s) refl e, λ m. rw ((d.passes m.value).1 m.checked) (ap {B = Checked Input} passed (back m)))
    where
      go : (c : Checked Input) → as_far_as12 s ≡ c → (c >>= λ v. passed (with_machines v (merged (system v) v.machines))) ≡ passed w → MergedText s w
      go (refused q) x e = absurd (refused_passed q w e)
      go (passed v) x e =
          let p = (d.passes v).0 x in
          record { value = v; checked = p; split = merged (system v) v.machines; left = once v p; same = sym (same_passed (with_machines v (merged (system v) v.machines)) w e) }

      back : (m : MergedText s w) → with_machines m.value (merged (system m.value) m.value.machines) ≡ w
      back m =
          let v = m.value in
          ap (with_machines v) (only v m.split m.checked m.left) ∙ sym m.same

  merge_lends : (out : List ℕ) → Lends (Refused 12 s) (MergedText s) sheet out (merge s out)
  unfolding merge merged_of
  merge_lends out = subst (Lends (Refused 12 s) (MergedText s) sheet out) (again (as_far_as12 s)) (lends (Refused 12 s) (MergedText s) merged_of merged_refuses merged_given sheet out)
    where
      again : (c : Checked Input) → lend ((c >>= λ v. passed (merged_input v)) >>= λ w. passed (sheet w)) out ≡ lend (c >>= λ v. passed (sheet (merged_input v))) out
      again (refused r) = refl
      again (passed v) = refl

  pub merges_hold : Merges s
  merges_hold =
      record {
        places = merged_places;
        in_machine = in_machine;
        others = others;
        as_many = merge_length;
        leaves = λ v p m g. event_leaves (system v) ((demand2 s).transition_system v p) m g;
        one_result = λ v p. (merged (system v) v.machines, once v p, λ os x. sym (only v os p x));
        result = λ v p ns x. subst (Merged v) (only v ns p x) (merged_holds v (limits_of s v p.reads) (left12 s v p));
        lends = merge_lends;
      }

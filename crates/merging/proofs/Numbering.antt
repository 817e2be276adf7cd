-- Group after group: the numbers of their places, and how many groups there are.
use Prim.Native.Nat.{ℕ, zero, suc, ◌+◌, ◌<◌, ◌≤◌}
use native.Mathlib.Omega.{arith}
use mathlib.Core.Path.{◌≡◌, refl, ap, sym, ◌∙◌}
use mathlib.Core.Logic.{◌⊎◌, inl, inr}
use mathlib.Core.Bool.{Bool, false, not, cond, ◌&&◌, and-true, and-false, and_assoc, or-false}
use mathlib.Core.List.{List, [], ◌∷◌, ◌++◌, flatten}
use mathlib.Core.Option.{none, some}
use borrow.Author.Tests.{lt-ltb, eq-eqb}
use lib.Dec.{T, eqb, eqb→eq, ltb, ltb→lt}
use lib.ListN.{length, replicate, length-append, length-replicate}
use Rattle.model.specs.Lists.{exists, elem, lowest}
use Rattle.model.specs.Machine.{place_in}
use Rattle.model.proofs.Laws.{dec, and_l, or_e, contra, not_not, not_T, cond_true, cond_false, lowest_is, lowest_none, none_lowest}
use Rattle.model.proofs.ListLaws.{exists_append}
use Rattle.model.proofs.Positions.{index_skip}
use Rattle.model.proofs.Places.{elem_flatten, at_head, at_tail}
use Rattle.state_set.specs.declared.StateSet.{StateSet}
use Rattle.state_set.specs.Member.{member}
use Rattle.state_set.specs.Rows.{member_at}
use Rattle.rows.specs.Told.{entry}
use Rattle.merging.specs.Groups.{ungrouped, grown, grouped_from, grouped}
use Rattle.merging.specs.Numbers.{SmallRow, SmallSet, Gathered, Numbered}
use Rattle.transition_system.proofs.Counting.{count_below, fewer, most}
use Rattle.merging.proofs.Taking.{grouped_more, ungrouped_more, grown_ungrouped}
use Rattle.merging.proofs.Gathering.{lowest_of, size_of, size_less}

-- ---- the number of a place once there is one group more
place_old : (gs : List (List ℕ)) (g : List ℕ) (q : ℕ) → T (elem q (flatten gs)) → place_in (gs ++ (g ∷ [])) q ≡ place_in gs q
unfolding flatten elem exists
place_old [] g q t = absurd t
place_old (h ∷ gs) g q t = go (dec (elem q h)) (place_old gs g q)
  where
    go : T (elem q h) ⊎ T (not (elem q h)) → (T (elem q (flatten gs)) → place_in (gs ++ (g ∷ [])) q ≡ place_in gs q)
        → place_in (h ∷ (gs ++ (g ∷ []))) q ≡ place_in (h ∷ gs) q
    go (inl u) ih = at_head h (gs ++ (g ∷ [])) q u ∙ sym (at_head h gs q u)
    go (inr u) ih = at_tail h (gs ++ (g ∷ [])) q u ∙ ap suc (ih (other (or_e (elem q h) (elem q (flatten gs)) (rw (exists_append (eqb q) h (flatten gs)) at t)))) ∙ sym (at_tail h gs q u)
      where
        other : T (elem q h) ⊎ T (elem q (flatten gs)) → T (elem q (flatten gs))
        other (inl v) = absurd (contra (elem q h) u v)
        other (inr v) = v

place_new : (gs : List (List ℕ)) (g : List ℕ) (q : ℕ) → T (ungrouped gs q) → T (elem q g) → place_in (gs ++ (g ∷ [])) q ≡ length gs
unfolding ungrouped place_in
place_new gs g q u t =
    let none-of-them = index_skip (elem q) gs (g ∷ []) (λ h m. not_T (elem q h) (λ v. contra (elem q (flatten gs)) u (elem_flatten gs h q m v))) in
    omega (arith, none-of-them, at_head g [] q t)

-- ---- the next group, if there is one
module _ (bars : ℕ → ℕ → Bool) (n : ℕ) (gs : List (List ℕ)) where
  no_group : (k : ℕ) → lowest (ungrouped gs) n ≡ none → grouped_from k bars n gs ≡ gs
  unfolding grouped_from
  no_group zero e = refl
  no_group (suc k) e = rw (e, grouped_from)

  next_group : (k q : ℕ) → lowest (ungrouped gs) n ≡ some q
      → grouped_from (suc k) bars n gs ≡ grouped_from k bars n (gs ++ (grown n bars n gs (q ∷ []) ∷ []))
  unfolding grouped_from
  next_group k q e = rw (e, grouped_from)

-- a single place
elem_one : (q x : ℕ) → elem q (x ∷ []) ≡ eqb q x
unfolding elem exists
elem_one q x = or-false (eqb q x)

-- a row of zeros
no_numbers : (n q : ℕ) → entry (replicate n 0) q < 64
no_numbers zero q = omega arith
no_numbers (suc n) zero = omega arith
no_numbers (suc n) (suc q) = no_numbers n q

pub zeros_small : SmallRow (replicate 64 0)
zeros_small = record { words = length-replicate {A = ℕ} 64 0; small = λ q l. no_numbers 64 q }

-- ---- what holds at each turn
pub record Numbering (bars : List ℕ) (size : ℕ) (left : StateSet) (groups : ℕ) (number : List ℕ) : Type 0 where
  pub words : length number ≡ 64
  pub small : (q : ℕ) → q < 64 → entry number q < 64
  pub made : List (List ℕ)
  pub fuel : ℕ
  pub goes_on : grouped (member_at bars) size ≡ grouped_from fuel (member_at bars) size made
  pub count : groups ≡ length made
  pub lefts : (q : ℕ) → member left q ≡ (ltb q size && ungrouped made q)
  pub each : (q : ℕ) → q < size → T (elem q (flatten made)) → entry number q ≡ place_in made q
  pub lasts : count_below (member left) size ≤ fuel
  pub bound : groups + count_below (member left) size ≤ size

module _ {bars : List ℕ} {size : ℕ} where
  pub number_start :
      {left : StateSet} {number : List ℕ} → length number ≡ 64 → ((q : ℕ) → q < 64 → entry number q < 64) → ((i : ℕ) → member left i ≡ ltb i size)
      → Numbering bars size left 0 number
  unfolding grouped ungrouped flatten elem exists
  number_start {left} {number} s h f =
      record {
        words = s;
        small = h;
        made = [];
        fuel = size;
        goes_on = refl;
        count = refl;
        lefts = λ q. f q ∙ sym (and-true (ltb q size));
        each = λ q l t. absurd t;
        lasts = most (member left) size;
        bound = omega (arith, most (member left) size);
      }

  module _ {left : StateSet} {groups : ℕ} {number : List ℕ} (w : Numbering bars size left groups number) where
    left_below : (q : ℕ) → T (member left q) → q < size
    left_below q t = ltb→lt q size (and_l (ltb q size) (ungrouped w.made q) (rw (w.lefts q) at t))

    left_is : (q : ℕ) → q < size → member left q ≡ ungrouped w.made q
    left_is q l = w.lefts q ∙ rw (lt-ltb q size l)

    pub number_end : size ≤ 64 → none ≡ lowest (member left) 256 → Numbered bars size groups number
    number_end b e =
        record {
          row = record { words = w.words; small = w.small };
          most = omega (arith, w.bound);
          count = w.count ∙ ap length (sym same);
          each = λ q l. w.each q l (in_some q l) ∙ ap (λ (gs : List (List ℕ)). place_in gs q) (sym same);
        }
      where
        out : (q : ℕ) → q < size → T (not (ungrouped w.made q))
        out q l = rw (← left_is q l) (lowest_none (member left) 256 (sym e) q (omega arith))

        same : grouped (member_at bars) size ≡ w.made
        same = w.goes_on ∙ no_group (member_at bars) size w.made w.fuel (none_lowest (ungrouped w.made) size out)

        in_some : (q : ℕ) → q < size → T (elem q (flatten w.made))
        in_some q l = not_not (elem q (flatten w.made)) (unfold ungrouped in out q l)

    -- q, the lowest that is left, begins a group
    module _ {q : ℕ} (e : some q ≡ lowest (member left) 256) where
      q_below : q < size
      q_below = left_below q (lowest_of e).hit

      begins : lowest (ungrouped w.made) size ≡ some q
      begins =
          let m = lowest_of e in
          lowest_is (ungrouped w.made) size q q_below (rw (← left_is q q_below) m.hit)
          (λ j l. rw (← left_is j (omega (arith, q_below))) (m.before j l))

      -- so there is still a number for it
      pub group_below : size ≤ 64 → groups < 64
      group_below b = omega (arith, w.bound, some_left)
        where
          some_left : 0 < count_below (member left) size
          some_left = omega (arith, fewer (λ i. false) (member left) (λ i t. absurd t) size q q_below tt (lowest_of e).hit)

      pub first_below : size ≤ 64 → q < 64
      first_below b = omega (arith, q_below)

      module _ (others : StateSet) (o : (i : ℕ) → member others i ≡ (member left i && not (eqb i q))) where
        pub others_small : size ≤ 64 → SmallSet (member others)
        others_small b = record { below = λ i t. omega (arith, left_below i (and_l (member left i) (not (eqb i q)) (rw (o i) at t))) }

        -- the others are what a group of q alone leaves
        others_left : (i : ℕ) → member others i ≡ (ltb i size && ungrouped (w.made ++ ((q ∷ []) ∷ [])) i)
        others_left i =
            o i ∙ rw (w.lefts i, ungrouped_more w.made (q ∷ []) i, elem_one i q) (and_assoc (ltb i size) (ungrouped w.made i) (not (eqb i q)))

        module _ (rest : StateSet) {x : ℕ} {new : List ℕ} (g : Gathered bars (member others) q x number (member rest) new) where
          part : (i : ℕ) → T (member rest i) → T (member left i && not (eqb i q))
          part i t = rw (← o i) (g.fewer i t)

          pub number_less : size_of rest < size_of left
          number_less = let m = lowest_of e in size_less left rest q m.low m.hit part

          pub number_more : size ≤ 64 → x ≡ groups → Numbering bars size rest (groups + 1) new
          number_more b y = go w.fuel w.goes_on w.lasts
            where
              group : List ℕ
              group = grown size (member_at bars) size w.made (q ∷ [])

              less : count_below (member rest) size < count_below (member left) size
              less =
                  fewer (member rest) (member left) (λ i t. and_l (member left i) (not (eqb i q)) (part i t)) size q q_below
                  (not_T (member rest q) (λ t. rw (eq-eqb q q refl, and-false (member left q)) at (part q t))) (lowest_of e).hit

              fresh : (i : ℕ) → T (elem i group) → T (ungrouped w.made i)
              fresh =
                  grown_ungrouped size (member_at bars) size w.made (q ∷ [])
                  (λ i t. rw (eqb→eq i q (rw (elem_one i q) at t)) (rw (← left_is q q_below) (lowest_of e).hit))

              told : ((i : ℕ) → member rest i ≡ (ltb i size && ungrouped (w.made ++ (group ∷ [])) i))
                  × ((i : ℕ) → i < 64 → entry new i ≡ cond (elem i group) x (entry number i))
              told = g.gathers size w.made b others_left

              numbered : (i : ℕ) → i < size → T (elem i group) ⊎ T (not (elem i group)) → T (elem i (flatten (w.made ++ (group ∷ []))))
                  → entry new i ≡ place_in (w.made ++ (group ∷ [])) i
              numbered i l (inl u) t =
                  told.1 i (omega arith) ∙ cond_true (elem i group) x (entry number i) u ∙ y ∙ w.count ∙ sym (place_new w.made group i (fresh i u) u)
              numbered i l (inr u) t =
                  told.1 i (omega arith) ∙ cond_false (elem i group) x (entry number i) u
                  ∙ w.each i l (old (or_e (elem i (flatten w.made)) (elem i group) (rw (grouped_more w.made group i) at t)))
                  ∙ sym (place_old w.made group i (old (or_e (elem i (flatten w.made)) (elem i group) (rw (grouped_more w.made group i) at t))))
                where
                  old : T (elem i (flatten w.made)) ⊎ T (elem i group) → T (elem i (flatten w.made))
                  old (inl v) = v
                  old (inr v) = absurd (contra (elem i group) u v)

              small_at : (i : ℕ) → i < 64 → T (elem i group) ⊎ T (not (elem i group)) → entry new i < 64
              small_at i l (inl u) = rw (told.1 i l ∙ cond_true (elem i group) x (entry number i) u ∙ y) (group_below b)
              small_at i l (inr u) = rw (told.1 i l ∙ cond_false (elem i group) x (entry number i) u) (w.small i l)

              go : (k : ℕ) → grouped (member_at bars) size ≡ grouped_from k (member_at bars) size w.made → count_below (member left) size ≤ k
                  → Numbering bars size rest (groups + 1) new
              go zero p h = absurd (omega (arith, less))
              go (suc k) p h =
                  record {
                    words = g.size;
                    small = λ i l. small_at i l (dec (elem i group));
                    made = w.made ++ (group ∷ []);
                    fuel = k;
                    goes_on = p ∙ next_group (member_at bars) size w.made k q begins;
                    count = omega (arith, w.count, length-append w.made (group ∷ []));
                    lefts = told.0;
                    each = λ i l t. numbered i l (dec (elem i group)) t;
                    lasts = omega (arith, less);
                    bound = omega (arith, less, w.bound);
                  }

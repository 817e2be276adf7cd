-- A group as the rows tell it: the set of the places left, the set of those that the group may take, and the row of numbers.
use Prim.Native.Nat.{ℕ, ◌<◌, ◌≤◌}
use native.Mathlib.Omega.{arith}
use mathlib.Core.Path.{◌≡◌, refl, ap, sym, ◌∙◌}
use mathlib.Core.Bool.{Bool, not, ◌&&◌, and-false}
use mathlib.Core.List.{List, [], ◌∷◌, ◌++◌}
use mathlib.Core.Option.{none, some, some-ne-none}
use borrow.Author.Tests.{eq-eqb}
use lib.Dec.{T, eqb, ltb}
use lib.ListN.{length, set, length-set}
use Rattle.model.specs.Lists.{lowest}
use Rattle.model.proofs.Laws.{and_l, and_r, and_i, not_T, Lowest, found, absent, lowest_view, lowest_none}
use Rattle.state_set.specs.declared.StateSet.{StateSet}
use Rattle.state_set.specs.Member.{member}
use Rattle.state_set.specs.Rows.{set_at, member_at}
use Rattle.merging.specs.Groups.{ungrouped}
use Rattle.merging.specs.Numbers.{SmallSet, Gathered}
use Rattle.transition_system.proofs.Counting.{count_below, fewer}
use Rattle.merging.proofs.Taking.{Grows, grow_start, grow_end, grow_more}

-- ---- the lowest of a set
pub record LowestOf (f : ℕ → Bool) (q : ℕ) : Type 0 where
  pub low : q < 256
  pub hit : T (f q)
  pub before : (j : ℕ) → j < q → T (not (f j))

pub lowest_of : {f : ℕ → Bool} {q : ℕ} → some q ≡ lowest f 256 → LowestOf f q
lowest_of {f} {q} e = go (lowest_view f 256)
  where
    go : Lowest f 256 → LowestOf f q
    go (found j p l t h) = let same : q ≡ j = cc in rw same (record { low = l; hit = t; before = h })
    go (absent p h) = absurd (some-ne-none q (e ∙ p))

-- how many places a set has
pub size_of : StateSet → ℕ
size_of a = count_below (member a) 256

-- one of them is taken out
pub size_less : (a b : StateSet) (q : ℕ) → q < 256 → T (member a q) → ((i : ℕ) → T (member b i) → T (member a i && not (eqb i q))) → size_of b < size_of a
unfolding size_of
size_less a b q l t h =
    fewer (member b) (member a) (λ i x. and_l (member a i) (not (eqb i q)) (h i x)) 256 q l (not_T (member b q) (λ x. out (h q x))) t
  where
    out : T (member a q && not (eqb q q)) → ⊥
    out x = rw (eq-eqb q q refl, and-false (member a q)) at x

-- ---- what holds at each turn; n, the groups before and the row before the first number are not known here
pub record Gathering (bars begun : List ℕ) (left : StateSet) (first group : ℕ) (rest free : StateSet) (number : List ℕ) : Type 0 where
  pub words : length number ≡ 64
  pub part : (q : ℕ) → T (member rest q) → T (member left q)
  pub inside : (q : ℕ) → T (member free q) → T (member rest q)
  pub grows : (old : List ℕ) (n : ℕ) (gs : List (List ℕ)) → length old ≡ 64 → begun ≡ set old first group → n ≤ 64
      → ((q : ℕ) → member left q ≡ (ltb q n && ungrouped (gs ++ ((first ∷ []) ∷ [])) q))
      → Grows (member_at bars) n gs first group old (member rest) (member free) number

module _ {bars : List ℕ} {left : StateSet} {first group : ℕ} where
  -- a is the set of what the first place bars
  pub gather_start :
      {begun : List ℕ} {k : ℕ} (a : StateSet) {free : StateSet} → first < 64 → length begun ≡ 64 → k ≡ first → a ≡ set_at bars k
      → ((i : ℕ) → member free i ≡ (member left i && not (member a i))) → Gathering bars begun left first group left free begun
  unfolding member_at
  gather_start {begun} {k} a {free} l s e v f =
      record {
        words = s;
        part = λ q t. t;
        inside = λ q t. and_l (member left q) (not (member a q)) (rw (f q) at t);
        grows = λ old n gs size b small h. grow_start l size b h (λ q. f q ∙ rw (v, e));
      }

  module _ {begun : List ℕ} {rest free : StateSet} {number : List ℕ} (w : Gathering bars begun left first group rest free number) where
    pub gather_end : {old : List ℕ} {k : ℕ} → length old ≡ 64 → k ≡ first → begun ≡ set old k group → none ≡ lowest (member free) 256
        → Gathered bars (member left) first group old (member rest) number
    gather_end {old} s f b e =
        record {
          size = w.words;
          fewer = w.part;
          gathers = λ n gs small h. grow_end (w.grows old n gs s (b ∙ ap (λ (j : ℕ). set old j group) f) small h) (λ q l. lowest_none (member free) 256 (sym e) q (omega arith));
        }

    -- q, the lowest that is free, is taken
    module _ {q : ℕ} (e : some q ≡ lowest (member free) 256) where
      pub taken_below : SmallSet (member left) → q < 64
      taken_below s = s.below q (w.part q (w.inside q (lowest_of e).hit))

      module _ (one rest2 : StateSet) (o : (i : ℕ) → member one i ≡ eqb i q) (r : (i : ℕ) → member rest2 i ≡ (member rest i && not (member one i))) where
        rests : (i : ℕ) → member rest2 i ≡ (member rest i && not (eqb i q))
        rests i = r i ∙ rw (o i)

        pub gather_less : size_of rest2 < size_of rest
        gather_less = let m = lowest_of e in size_less rest rest2 q m.low (w.inside q m.hit) (λ i x. rw (rests i) at x)

        -- b is the set of what q bars
        pub gather_more :
            {k j : ℕ} (others b : StateSet) {free2 : StateSet} → SmallSet (member left) → k ≡ q → j ≡ q → ((i : ℕ) → member others i ≡ (member free i && not (eqb i q)))
            → b ≡ set_at bars j → ((i : ℕ) → member free2 i ≡ (member others i && not (member b i)))
            → Gathering bars begun left first group rest2 free2 (set number k group)
        unfolding member_at
        gather_more {k} {j} others b {free2} s kq jq x v f =
            rw kq (record {
              words = length-set number q group ∙ w.words;
              part = λ i t. w.part i (and_l (member rest i) (not (eqb i q)) (rw (rests i) at t));
              inside = inner;
              grows = λ old n gs size b small h.
                  let m = lowest_of e in
                  grow_more (w.grows old n gs size b small h) q m.hit m.before rests small w.words frees;
            })
          where
            frees : (i : ℕ) → member free2 i ≡ ((member free i && not (eqb i q)) && not (member (set_at bars q) i))
            frees i = f i ∙ rw (x i, v, jq)

            inner : (i : ℕ) → T (member free2 i) → T (member rest2 i)
            inner i t =
                let u = and_l (member free i && not (eqb i q)) (not (member (set_at bars q) i)) (rw (frees i) at t) in
                rw (rests i) (and_i (member rest i) (not (eqb i q)) (w.inside i (and_l (member free i) (not (eqb i q)) u)) (and_r (member free i) (not (eqb i q)) u))

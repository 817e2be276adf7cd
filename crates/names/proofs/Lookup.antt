-- Looking names up in rows: the first entry with a name's length and numbers is its event's number, and names are distinct if each is the first of its own.
use Rattle.std.proofs.Common.{◌≡◌, ℕ, ◌+◌, ◌<◌, ◌≤◌, true, false, not, T, ◌⊎◌, List, [], length, get_or, take, drop, sym, ap, ◌∙◌, inl, inr, arith, below_more, Option, Some, None, unwrap_or, Bool, eqb, eqb-true, eq-eqb}
use Rattle.std.specs.Option.{option_eq}
use Rattle.model.specs.Lists.{exists, index}
use Rattle.model.specs.Bytes.{Name, IsName, OneEvent, same_name}
use Rattle.model.specs.Text.{event_number, distinct}
use Rattle.model.proofs.Laws.{dec, not_T, T_true, T_false}
use Rattle.model.proofs.Positions.{at_below, at_get_d, get_d_mem, at_value, index_first, index_below, index_passes}
use Rattle.model.proofs.OneEvent.{one_of, of_one, one_refl, one_sym, one_trans, one_length, among_one, distinct_apart, not_distinct}
use Rattle.lexer.specs.Words.{packed, high, low}
use Rattle.rows.proofs.Searches.{index_is}
use Rattle.names.specs.Held.{PackedNames, Same, Finds}
use Rattle.names.proofs.HeldNames.{entry, entry_name, entry_told}

-- the entry k has what is sought if and only if it is this event's name
module _ {es : List Name} {count : ℕ} {lens highs lows : List ℕ} (r : PackedNames es count lens highs lows) (k : ℕ) (b : k < count)
    {e : Name} {n h l : ℕ} (w : IsName e) (p : n ≡ length e) (q : h ≡ high e) (o : l ≡ low e) where
  same_name_lem : Same lens highs lows n h l k → T (same_name e (get_or es k []))
  same_name_lem s = of_one e (get_or es k []) (entry_told r k b w p q o s)

  name_same : T (same_name e (get_or es k [])) → Same lens highs lows n h l k
  name_same u =
      let i : OneEvent e (get_or es k []) = one_of e (get_or es k []) u in
      let t = entry r k b in
      record {
        high = t.high ∙ ap (λ (x : List ℕ). packed (take 8 x)) (sym i) ∙ sym q;
        low = t.low ∙ ap (λ (x : List ℕ). packed (drop 8 x)) (sym i) ∙ sym o;
        long = t.long ∙ sym (one_length e (get_or es k []) i) ∙ sym p;
      }

-- the entries before k are others
abbrev Passed : List ℕ → List ℕ → List ℕ → ℕ → ℕ → ℕ → ℕ → Type 0
Passed lens highs lows n h l k = (j : ℕ) → j < k → Same lens highs lows n h l j → ⊥

module _ {count : ℕ} {lens highs lows : List ℕ} {n h l : ℕ} where
  first : {k : ℕ} → Passed lens highs lows n h l k → k ≤ count → (k < count → Same lens highs lows n h l k)
      → (es : List Name) → PackedNames es count lens highs lows → (e : Name) → IsName e → n ≡ length e → h ≡ high e → l ≡ low e
      → k ≡ event_number es e
  unfolding event_number
  first {k} s m t es r e w p q o =
      index_is (same_name e) es [] k (omega (arith, r.counted))
      (λ j i. not_T (same_name e (get_or es j [])) (λ u. s j i (name_same r j (omega arith) w p q o u)))
      (λ i. same_name_lem r k (omega (arith, r.counted)) w p q o (t (omega (arith, r.counted))))

  -- the search stops at the entry, or at the end
  pub finds : {k : ℕ} → Passed lens highs lows n h l k → k < count → Same lens highs lows n h l k → Finds count lens highs lows n h l (Some k)
  finds s b t = record { below = b; number = first s (omega arith) (λ _. t) }

  pub finds_none : Passed lens highs lows n h l count → Finds count lens highs lows n h l None
  finds_none s = record { below = tt; number = first s (omega arith) (λ b. absurd (omega arith)) }

-- what looking the entry k up answers
abbrev FindsEntry : ℕ → List ℕ → List ℕ → List ℕ → ℕ → Option ℕ → Type 0
FindsEntry count lens highs lows k x = Finds count lens highs lows (get_or lens k 0) (get_or highs k 0) (get_or lows k 0) x

finds_entry : {es : List Name} {count : ℕ} {lens highs lows : List ℕ} {k : ℕ} {x : Option ℕ} → PackedNames es count lens highs lows → k < count
    → FindsEntry count lens highs lows k x → unwrap_or x count ≡ event_number es (get_or es k [])
finds_entry {es} {k = k} r b f = let t = entry r k b in f.number es r (get_or es k []) (entry_name r k b) t.long t.high t.low

-- the code's test of what looking the entry k up answers
abbrev IsEntry : Option ℕ → ℕ → Bool
IsEntry x k = option_eq eqb x (Some k)

is_entry : (x : Option ℕ) (k count : ℕ) → IsEntry x k ≡ true → unwrap_or x count ≡ k
is_entry None k count e = cc
is_entry (Some j) k count e = eqb-true j k e

other_entry : (x : Option ℕ) (k count : ℕ) → k < count → IsEntry x k ≡ false → unwrap_or x count ≡ k → ⊥
other_entry None k count b e q = omega arith
other_entry (Some j) k count b e q = let t = eq-eqb j k q in cc

-- the names before k are the first of their own
pub record Firsts (count : ℕ) (lens highs lows : List ℕ) (k : ℕ) : Type 0 where
  pub most : k ≤ count
  pub own : (es : List Name) → PackedNames es count lens highs lows → (j : ℕ) → j < k → event_number es (get_or es j []) ≡ j

-- of distinct names each is the first of its own, however it is written
pub event_number_lem : (es : List Name) (k : ℕ) → k < length es → T (distinct es) → (e : Name) → OneEvent e (get_or es k []) → event_number es e ≡ k
unfolding event_number
event_number_lem es k b t e o =
    let n = index (same_name e) es in
    let f = get_or es n [] in
    let u : T (exists (same_name e) es) = among_one e es (get_or es k [], get_d_mem es k [] b, o) in
    let p : OneEvent e f = one_of e f (index_passes (same_name e) es [] u) in
    distinct_apart es t n k f (get_or es k []) (at_get_d es n [] (index_below (same_name e) es u)) (at_get_d es k [] b) (one_trans f e (get_or es k []) (one_sym e f p) o)

pub own_number : (es : List Name) (k : ℕ) → k < length es → T (distinct es) → event_number es (get_or es k []) ≡ k
own_number es k b t = event_number_lem es k b t (get_or es k []) (one_refl (get_or es k []))

-- a name that stands earlier too
repeated : (es : List Name) (k : ℕ) → k < length es → (event_number es (get_or es k []) ≡ k → ⊥) → false ≡ distinct es
repeated es k b o = sym (T_false (distinct es) (not_T (distinct es) (λ t. o (own_number es k b t))))

-- each name is the first of its own
alone : (es : List Name) → ((k : ℕ) → k < length es → event_number es (get_or es k []) ≡ k) → true ≡ distinct es
unfolding event_number
alone es o = go (dec (distinct es))
  where
    go : T (distinct es) ⊎ T (not (distinct es)) → true ≡ distinct es
    go (inl t) = sym (T_true (distinct es) t)
    go (inr t) =
        let (i, j, e, f, b, p, q, same) = not_distinct es t in
        let m : index (same_name f) es ≤ i = index_first (same_name f) es i e p (of_one f e (one_sym e f same)) in
        let n : event_number es (get_or es j []) ≡ j = o j (at_below es j f q) in
        let s : get_or es j [] ≡ f = at_value es j f [] q in
        absurd (omega (arith, rw s at n))

pub firsts_start : {count : ℕ} {lens highs lows : List ℕ} → Firsts count lens highs lows 0
firsts_start = record { most = omega arith; own = λ es r j i. absurd (omega arith) }

module _ {count : ℕ} {lens highs lows : List ℕ} {k : ℕ} (f : Firsts count lens highs lows k) where
  module _ (b : k < count) {x : Option ℕ} (g : FindsEntry count lens highs lows k x) where
    pub firsts_more : IsEntry x k ≡ true → Firsts count lens highs lows (k + 1)
    firsts_more e =
        record {
          most = omega arith;
          own = λ es r. below_more (λ j. event_number es (get_or es j []) ≡ j) k (f.own es r) (sym (finds_entry r b g) ∙ is_entry x k count e);
        }

    pub firsts_stop : IsEntry x k ≡ false → (es : List Name) → PackedNames es count lens highs lows → false ≡ distinct es
    firsts_stop e es r = repeated es k (omega (arith, r.counted)) (λ u. other_entry x k count b e (finds_entry r b g ∙ u))

  pub firsts_end : count ≤ k → (es : List Name) → PackedNames es count lens highs lows → true ≡ distinct es
  firsts_end b es r = alone es (λ j i. f.own es r j (omega (arith, r.counted)))

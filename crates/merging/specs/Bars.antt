-- Which places of a machine bar each other, as the rows tell.
use Rattle.std.specs.Prelude.{ℕ, suc, ◌+◌, ◌*◌, ◌<◌, ◌≤◌, ◌≡◌, ◌↔◌, ◌⊎◌, Bool, not, ◌&&◌, List, T, ltb, length}
use Rattle.model.specs.Lists.{is_some, lowest}
use Rattle.state_set.specs.Rows.{member_at}
use Rattle.rows.specs.Told.{entry}
use Rattle.closure.specs.Covers.{on_machine, meets}
use Rattle.rows.specs.declared.Moves.{Moves}
use Rattle.merging.specs.declared.Lent.{Lent}
use Rattle.merging.specs.declared.bar_rows.BarRows.{BarRows}

-- ---- the states common to pre-places on later machines

-- the sets of machine m are made from those of machine m + 1, and those after are as they were
pub record Extends (sets pre : List ℕ) (m events : ℕ) (old new : List ℕ) : Type 0 where
  pub size : length new ≡ length old
  pub next : (e i : ℕ) → e < events → member_at new (e * 16 + m) i ≡ (member_at old (e * 16 + suc m) i && meets sets pre e (suc m) i)
  pub after : (k e i : ℕ) → m < k → k < 16 → member_at new (e * 16 + k) i ≡ member_at old (e * 16 + k) i

-- every set has all states
pub record Full (events : ℕ) (row : List ℕ) : Type 0 where
  pub full : (e k i : ℕ) → e < events → k < 16 → member_at row (e * 16 + k) i ≡ ltb i 256

-- set e * 16 + k has the states common to the pre-places of event e on the machines after k
pub record Later (sets pre : List ℕ) (machines events words : ℕ) (row : List ℕ) : Type 0 where
  pub size : length row ≡ words
  pub common : (k e i : ℕ) → k < machines → e < events
      → T (member_at row (e * 16 + k) i) ↔ ((i < 256) × ((j : ℕ) → k < j → j < machines → T (meets sets pre e j i)))

-- ---- bars

-- some number below 256 passes both tests
unfoldable pub have_in_common : (ℕ → Bool) → (ℕ → Bool) → Bool
have_in_common f g = is_some (lowest (λ i. f i && g i) 256)

-- a and c are p and q, in this order or the other
abbrev pub Pair : ℕ → ℕ → ℕ → ℕ → Type 0
Pair p q a c = ((a ≡ p) × (c ≡ q)) ⊎ ((a ≡ q) × (c ≡ p))

-- each of two places is also in the set of the other
pub record Paired (p q : ℕ) (old new : List ℕ) : Type 0 where
  pub words : length new ≡ length old
  pub members : (a c : ℕ) → T (member_at new a c) ↔ (T (member_at old a c) ⊎ Pair p q a c)

-- place q of machine m has one of these states
abbrev pub HasOne : List ℕ → ℕ → ℕ → (ℕ → Bool) → ℕ → Type 0
HasOne sets m size states q = (q < size) × T (have_in_common states (member_at sets (m * 64 + q)))

-- so are p and each place that has one of these states
pub record MetPaired (sets : List ℕ) (m size : ℕ) (states : ℕ → Bool) (p : ℕ) (old new : List ℕ) : Type 0 where
  pub words : length new ≡ length old
  pub members : (a c : ℕ) → T (member_at new a c) ↔ (T (member_at old a c) ⊎ ((q : ℕ) × HasOne sets m size states q × Pair p q a c))

-- the open states of event e for machine m: common to its pre-places on the machines before m and after it, and outside its excitation set
unfoldable pub open_in : List ℕ → List ℕ → List ℕ → ℕ → ℕ → ℕ → Bool
open_in earlier later excited m e i = (member_at earlier e i && member_at later (e * 16 + m) i) && not (member_at excited e i)

-- the rows that tell which places bar each other
pub record Seen : Type 0 where
  pub sets : List ℕ
  pub pre : List ℕ
  pub post : List ℕ
  pub earlier : List ℕ
  pub later : List ℕ
  pub excited : List ℕ

abbrev pub seen : List ℕ → List ℕ → List ℕ → List ℕ → List ℕ → List ℕ → Seen
seen sets pre post earlier later excited = record { sets = sets; pre = pre; post = post; earlier = earlier; later = later; excited = excited }

-- the same as the code has them
abbrev pub seen_by : BarRows → Seen
seen_by x = seen x.sets.now x.moves.now.pre x.moves.now.post x.earlier.now x.later.now x.excited.now

-- those of one machine: the rows that the pass leaves as they are, the moves, and the states common on the machines before
abbrev pub seen_in : Lent → Moves → List ℕ → Seen
seen_in x moves earlier = seen x.sets.now moves.pre moves.post earlier x.later.now x.excited.now

pub record SeenSizes (machines events : ℕ) (x : Seen) : Type 0 where
  pub sets_size : machines * 256 ≤ length x.sets
  pub later_size : events * 64 ≤ length x.later

-- a move of the first machines and events that has a pre-place has a post-place
pub record Ends (machines events : ℕ) (pre post : List ℕ) : Type 0 where
  pub post_place : (k e : ℕ) → k < machines → e < events → entry pre (e * 16 + k) < 64 → entry post (e * 16 + k) < 64

abbrev pub open_for : Seen → ℕ → ℕ → ℕ → Bool
open_for x m e = open_in x.earlier x.later x.excited m e

-- event e bars its pre-place on machine m from a place: a and c are these two
pub record EventBars (x : Seen) (m size e a c : ℕ) : Type 0 where
  pub on : T (on_machine x.pre e m)
  pub opens : T (is_some (lowest (open_for x m e) 256))
  pub place : ℕ
  pub barred : (place ≡ entry x.post (e * 16 + m)) ⊎ HasOne x.sets m size (open_for x m e) place
  pub pair : Pair (entry x.pre (e * 16 + m)) place a c

pub record EventPaired (x : Seen) (m size e : ℕ) (old new : List ℕ) : Type 0 where
  pub words : length new ≡ length old
  pub members : (a c : ℕ) → T (member_at new a c) ↔ (T (member_at old a c) ⊎ EventBars x m size e a c)

-- set a has the places that a bars, as far as the first n events say
pub record Barring (x : Seen) (m size n : ℕ) (row : List ℕ) : Type 0 where
  pub words : length row ≡ 256
  pub members : (a c : ℕ) → T (member_at row a c) ↔ ((e : ℕ) × (e < n) × EventBars x m size e a c)

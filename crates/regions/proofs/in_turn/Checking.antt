-- The loop over the machines: 8, 9 and 10 of each in turn. What is asked of the whole is asked of the machines from k on, and the rows tell the moves on those
-- before k.
use Rattle.std.specs.Prelude.{Option, Some, None, Ok, Err}
use Prim.Native.Nat.{ℕ, suc, ◌+◌, ◌<◌, ◌≤◌}
use native.Mathlib.Omega.{arith}
use native.Mathlib.Numerals.{add-one}
use mathlib.Core.Path.{◌≡◌, refl, sym, ◌∙◌}
use mathlib.Core.Logic.{◌⊎◌, inl, inr}
use mathlib.Core.List.{List}
use mathlib.Core.Option.{none, some, some-ne-none, or_else}
use lib.ListN.{drop, drop_of_length-le}
use lib.Seq.{drop-cons}
use Rattle.model.specs.declared.Refusal as D
use Rattle.model.specs.declared.Refusal.TheVariants as C
use Rattle.model.specs.Lists.{At}
use Rattle.model.specs.Cases.{tabled}
use Rattle.model.specs.TransitionSystem.{TransitionSystem}
use Rattle.model.specs.Machine.{Machine, Decomposition, duplicate_state, unplaced_state, nonuniform_event, machine_refusal, machines_refusal}
use Rattle.model.specs.Machine as M
use Rattle.model.proofs.Laws.{below_suc}
use Rattle.model.proofs.Positions.{at_below, below_at, at_value}
use Rattle.rows.specs.declared.Tables.{Tables}
use Rattle.rows.specs.Tables.{verdict_refusal}
use Rattle.rows.specs.Told.{entry, system_of, MachineTold, MachinesTold}
use Rattle.rows.specs.Bounded.{Bounded}
use Rattle.rows.proofs.Searches.{below_in, below_out}
use Rattle.regions.specs.Moves.{move_at, MoveRows}
use Rattle.regions.specs.Crossings.{Scannable, Scanned, EarlierKept}
use Rattle.regions.specs.Regions.{Answer}
use Rattle.regions.proofs.in_turn.Marks.{Uncovered, twice_found, twice_none, unplaced_search, scannable}

pub record Checking (p : Tables) (k : ℕ) (pre post : List ℕ) : Type 0 where
  pub most : k ≤ p.counts.machines
  pub rows : MoveRows pre post
  pub rest : (ms : Decomposition) → MachinesTold (system_of p) p ms → machines_refusal (system_of p) 0 ms ≡ machines_refusal (system_of p) k (drop k ms)
  pub moves : (ms : Decomposition) → MachinesTold (system_of p) p ms → (j e : ℕ) (m : Machine) → j < k → At ms j m → e < p.counts.events
      → move_at pre post j e ≡ M.move (system_of p) m e

pub check_start : {p : Tables} {pre post : List ℕ} → MoveRows pre post → Checking p 0 pre post
check_start r = record { most = omega arith; rows = r; rest = λ ms t. refl; moves = λ ms t j e m h a l. absurd (omega arith) }

-- the machines from k on begin with machine k
rest_at : (ts : TransitionSystem) (ms : Decomposition) (k : ℕ) (m : Machine) → At ms k m
    → machines_refusal ts k (drop k ms) ≡ or_else (machine_refusal ts k m) (machines_refusal ts (suc k) (drop (suc k) ms))
unfolding machines_refusal
rest_at ts ms k m a = rw (drop-cons ms k m (at_below ms k m a), at_value ms k m m a)

-- every machine that the rows may tell of as machine k has the property
abbrev Every : Tables → ℕ → (Machine → Type 0) → Type 0
Every p k P = (m : Machine) → MachineTold (system_of p) p k m → P m

module _ {p : Tables} {k : ℕ} {pre post : List ℕ} (c : Checking p k pre post) (here : k < p.counts.machines) where
  -- machine k is refused
  stopped : (why : D.Refusal) → Every p k (λ m. machine_refusal (system_of p) k m ≡ some (tabled why)) → {pre2 post2 : List ℕ} → Answer p (Err why) pre2 post2
  unfolding verdict_refusal or_else
  stopped why h = (λ ms t. sym (c.rest ms t ∙ at ms t), λ ms t q. absurd (some-ne-none _ q))
    where
      at : (ms : Decomposition) → MachinesTold (system_of p) p ms → machines_refusal (system_of p) k (drop k ms) ≡ some (tabled why)
      at ms t =
          let (m, a) = below_at ms k (omega (arith, t.counted)) in
          rest_at (system_of p) ms k m a ∙ rw (h m (t.machine k m a))

  -- machine k passes
  passing : {pre2 post2 : List ℕ} → EarlierKept k pre post pre2 post2 → Bounded p
      → Every p k (λ m. (machine_refusal (system_of p) k m ≡ none) × ((e : ℕ) → e < p.counts.events → move_at pre2 post2 k e ≡ M.move (system_of p) m e))
      → Checking p (k + 1) pre2 post2
  unfolding or_else
  passing {pre2} {post2} kept b h = record { most = omega arith; rows = kept.rows; rest = rest; moves = moves }
    where
      rest : (ms : Decomposition) → MachinesTold (system_of p) p ms → machines_refusal (system_of p) 0 ms ≡ machines_refusal (system_of p) (k + 1) (drop (k + 1) ms)
      rest ms t =
          let (m, a) = below_at ms k (omega (arith, t.counted)) in
          rw add-one (c.rest ms t ∙ rest_at (system_of p) ms k m a ∙ rw (h m (t.machine k m a)).0)

      moves : (ms : Decomposition) → MachinesTold (system_of p) p ms → (j e : ℕ) (m : Machine) → j < k + 1 → At ms j m → e < p.counts.events
          → move_at pre2 post2 j e ≡ M.move (system_of p) m e
      moves ms t j e m l a low = go (below_suc j k (omega arith))
        where
          go : (j < k) ⊎ (j ≡ k) → move_at pre2 post2 j e ≡ M.move (system_of p) m e
          go (inl y) = kept.same j e y (omega (arith, b.events)) ∙ c.moves ms t j e m y a low
          go (inr y) = rw y ((h m (t.machine k m (rw y at a))).1 e low)

pub check_end : {p : Tables} {k : ℕ} {pre post : List ℕ} → Checking p k pre post → p.counts.machines ≤ k → Answer p (Ok tt) pre post
unfolding verdict_refusal machines_refusal system_of
check_end {k = k} c h = (
  λ ms t. sym (c.rest ms t ∙ rw (drop_of_length-le ms {i = k} (omega (arith, t.counted)))),
  λ ms t q. record { rows = c.rows; move = λ k e m a l. c.moves ms t k e m (omega (arith, at_below ms k m a, t.counted)) a l },
)

-- ---- the three tests of one machine

module _ (ts : TransitionSystem) (k : ℕ) (m : Machine) where
  refused_8 : (x : ℕ) → duplicate_state ts m ≡ some x → machine_refusal ts k m ≡ some (tabled (C.DuplicateState k x))
  unfolding machine_refusal tabled or_else
  refused_8 x e = rw e

  refused_9 : (x : ℕ) → duplicate_state ts m ≡ none → unplaced_state ts m ≡ some x → machine_refusal ts k m ≡ some (tabled (C.UncoveredState k x))
  unfolding machine_refusal tabled or_else
  refused_9 x d e = rw (d, e)

  refused_10 : (x : ℕ) → duplicate_state ts m ≡ none → unplaced_state ts m ≡ none → nonuniform_event ts m ≡ some x
      → machine_refusal ts k m ≡ some (tabled (C.NotARegion k x))
  unfolding machine_refusal tabled or_else
  refused_10 x d u e = rw (d, u, e)

  clear : duplicate_state ts m ≡ none → unplaced_state ts m ≡ none → nonuniform_event ts m ≡ none → machine_refusal ts k m ≡ none
  unfolding machine_refusal or_else
  clear d u e = rw (d, u, e)

pub duplicate_stop : {p : Tables} {k : ℕ} {pre post pre2 post2 : List ℕ} → Checking p k pre post → k < p.counts.machines → ¬ (entry p.duplicate k ≡ 256)
    → Answer p (Err (C.DuplicateState k (entry p.duplicate k))) pre2 post2
duplicate_stop {p} {k} c here h = stopped c here _ (λ m t. refused_8 (system_of p) k m (entry p.duplicate k) (twice_found t h))

-- past 8, and what the search for 9 has found
pub record Sought (p : Tables) (k : ℕ) (r : Option ℕ) (pre post : List ℕ) : Type 0 where
  pub before : Checking p k pre post
  pub here : k < p.counts.machines
  pub bounded : Bounded p
  pub single : entry p.duplicate k ≡ 256
  pub search : Uncovered p.place k p.counts.states r

pub uncovered_stop : {p : Tables} {k x : ℕ} {pre post pre2 post2 : List ℕ} → Sought p k (Some x) pre post → Answer p (Err (C.UncoveredState k x)) pre2 post2
uncovered_stop {p} {k} {x} s =
    stopped s.before s.here _ (λ m t. refused_9 (system_of p) k m x (twice_none t s.single) (sym (unplaced_search t s.bounded) ∙ s.search))

-- past 9, and the scan for 10 has come to e
pub record Crossed (p : Tables) (k e : ℕ) (pre post pre2 post2 : List ℕ) : Type 0 where
  pub sought : Sought p k None pre post
  pub scan : (m : Machine) → Scannable (system_of p) m k p.source p.event p.target p.place p.counts.transitions → Scanned (system_of p) m k pre2 post2 e
  pub kept : EarlierKept k pre post pre2 post2

module _ {p : Tables} {k e : ℕ} {pre post pre2 post2 : List ℕ} (s : Crossed p k e pre post pre2 post2) where
  once : Every p k (λ m. duplicate_state (system_of p) m ≡ none)
  once m t = twice_none t s.sought.single

  all : Every p k (λ m. unplaced_state (system_of p) m ≡ none)
  all m t = sym (unplaced_search t s.sought.bounded) ∙ s.sought.search

  scanned : Every p k (λ m. Scanned (system_of p) m k pre2 post2 e)
  scanned m t = s.scan m (scannable t s.sought.bounded (once m t) (all m t) s.sought.here)

  pub region_stop : {pre3 post3 : List ℕ} → e < p.counts.events → Answer p (Err (C.NotARegion k e)) pre3 post3
  unfolding system_of
  region_stop h =
      stopped s.sought.before s.sought.here _
      (λ m t. refused_10 (system_of p) k m e (once m t) (all m t) (sym (scanned m t).event ∙ below_in p.counts.events e h))

  pub check_more : p.counts.events ≤ e → Checking p (k + 1) pre2 post2
  unfolding system_of
  check_more h =
      passing s.sought.before s.sought.here s.kept s.sought.bounded
      (λ m t. (
        clear (system_of p) k m (once m t) (all m t) (sym (scanned m t).event ∙ below_out p.counts.events e h),
        λ d l. (scanned m t).moves d (omega arith),
      ))

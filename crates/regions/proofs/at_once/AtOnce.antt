-- All machines at once: no machine lists a state twice, each places every state, and each transition leads through it like the first of its event. Then
-- every machine passes, and the moves are those of the first transitions.
use Rattle.std.specs.Prelude.{Ok}
use Prim.Native.Nat.{ℕ, zero, suc, ◌<◌, ◌≤◌}
use native.Mathlib.Omega.{arith}
use native.Mathlib.Numerals.{add-one}
use mathlib.Core.Path.{◌≡◌, refl}
use mathlib.Core.List.{List}
use Rattle.model.specs.Machine.{Machine}
use Rattle.rows.specs.declared.Counts.{Counts}
use Rattle.rows.specs.declared.Tables.{Tables}
use Rattle.rows.specs.Tables.{tables_in}
use Rattle.rows.specs.Told.{entry, system_of}
use Rattle.rows.specs.Bounded.{Bounded}
use Rattle.regions.specs.Indexed.{Indexed, Chained}
use Rattle.regions.specs.Crossings.{Scannable, Scanned, MovesPut}
use Rattle.regions.specs.Columns.{Comparable, AlikeAtOnce}
use Rattle.regions.specs.Regions.{rows_of, Answer}
use Rattle.rows.specs.Sizes.{CheckedSizes}
use Rattle.regions.proofs.chains.Links.{first_next}
use Rattle.regions.proofs.in_turn.Marks.{covered}
use Rattle.regions.proofs.in_turn.Scan.{Settled, answered}
use Rattle.regions.proofs.in_turn.Checking.{Checking, check_start, check_more, check_end, Crossed}

module _ (c : Counts) {source event target duplicate place first next : List ℕ} (b : Bounded (rows_of c source event target duplicate place)) (ch : Chained c.transitions c.events first next) where
  pub comparable : CheckedSizes source event target duplicate place → Comparable source target first next c.states c.events c.transitions
  comparable r =
      record {
        source_size = r.crossed.sources;
        target_size = r.crossed.targets;
        most = b.transitions;
        most_events = b.events;
        chain = ch;
        sources = b.source;
        targets = b.target;
      }

module _ (c : Counts) (ats lens sizes : List ℕ) {source event target duplicate place first next : List ℕ} (b : Bounded (tables_in c ats lens source event target sizes duplicate place))
    (ch : Chained c.transitions c.events first next) (i : Indexed event c.transitions first next) {pre post : List ℕ} (single : (m : ℕ) → m < c.machines → entry duplicate m ≡ 256)
    (agree : AlikeAtOnce c source target place first next) (moves : MovesPut source target place first c.events c.machines pre post) where
  abbrev p : Tables
  p = tables_in c ats lens source event target sizes duplicate place

  settled : (m : ℕ) → m < p.counts.machines → (d : ℕ) → d < p.counts.events → Settled source event target place c.transitions m pre post d (entry first d)
  settled m h d l =
      record {
        low = ch.begins d l;
        label = (first_next i d (omega (arith, b.events))).stands (ch.begins d l);
        alike = agree.alike event i m h d l;
        pre_mark_lem = moves.pres m h d l;
        post_place = moves.posts m h d l;
      }

  scan : (m : ℕ) → m < p.counts.machines → (mach : Machine) → Scannable (system_of p) mach m p.source p.event p.target p.place p.counts.transitions
      → Scanned (system_of p) mach m pre post p.counts.events
  unfolding system_of
  scan m h mach s = answered first (system_of p) mach s (omega arith) (settled m h) (λ l. absurd (omega arith))

  crossed : {k : ℕ} → Checking p k pre post → k < p.counts.machines → Crossed p k p.counts.events pre post pre post
  crossed {k} c h =
      record {
        sought =
            record {
              before = c;
              here = h;
              bounded = b;
              single = single k h;
              search = covered p.place k p.counts.states (agree.placed k h);
            };
        scan = scan k h;
        kept = record { rows = moves.rows; same = λ j e l x. refl };
      }

  pass : (k : ℕ) → k ≤ p.counts.machines → Checking p k pre post
  pass zero l = check_start moves.rows
  pass (suc k) l = rw (add-one k) at (check_more (crossed (pass k (omega arith)) l) (omega arith))

  pub all_pass : Answer p (Ok tt) pre post
  all_pass = check_end (pass p.counts.machines (omega arith)) (omega arith)

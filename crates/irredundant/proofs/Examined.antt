-- The machines examined from the highest to the lowest: what is counted, and that the marks are those that thinning keeps.
use Prim.Native.Nat.{ℕ, suc, ◌+◌, ◌-◌, ◌*◌, ◌^◌, ◌<◌, ◌≤◌}
use native.Mathlib.Nat.{pow-suc}
use native.Mathlib.Omega.{arith}
use mathlib.Core.Path.{◌≡◌, refl, sym, ap, ◌∙◌}
use mathlib.Core.Bool.{Bool, true, false, not}
use mathlib.Core.List.{List, [], ◌∷◌}
use mathlib.Core.Option.{none}
use mir.Val.{bool_byte}
use lib.ListN.{length, get_or, drop, replicate, length-drop}
use lib.Pow.{pow_pos, pow_mono}
use lib.Seq.{drop-cons, drop-length}
use Rattle.model.specs.Lists.{At, count}
use Rattle.model.specs.TransitionSystem.{TransitionSystem}
use Rattle.model.specs.Machine.{Machine, Decomposition, kept_marks, select, suffices}
use Rattle.model.proofs.Kept.{kept_length, kept_examined, select_count}
use Rattle.model.proofs.Positions.{below_at, at_value}
use Rattle.state_set.proofs.Sets.{full_word}
use Rattle.model.specs.declared.Refusal as D
use Rattle.rows.specs.declared.Counts.{Counts}
use Rattle.rows.specs.Tables.{verdict_refusal}
use Rattle.closure.specs.Covers.{PlaceSets, SetsTold, CoverJudged}
use Rattle.closure.proofs.Cover.{sets_told}
use Rattle.irredundant.specs.declared.Kept.{Kept}
use Rattle.std.specs.Prelude.{Result, Ok, Err}
use Rattle.irredundant.specs.Kept.{set_number, ThinsTo, ThinsBySets, Thins, Below, Adds, redundant}
use Rattle.irredundant.proofs.Beside.{Tells, tells_none, tells_more, select_without, suffices_same}

-- the rows once a machine is examined, and r says that it is redundant: those with it if it stays, or those that there were
pub data Next (sets pre : List ℕ) (m events : ℕ) (r : Bool) (above : List ℕ) (onAbove : List Bool) (above2 : List ℕ)
    (onAbove2 : List Bool) : Type 0 where
  added : (row : List ℕ) (marks : List Bool) → r ≡ false → Adds sets pre m events above onAbove row marks → above2 ≡ row → onAbove2 ≡ marks
      → Next sets pre m events r above onAbove above2 onAbove2
  same : r ≡ true → above2 ≡ above → onAbove2 ≡ onAbove → Next sets pre m events r above onAbove above2 onAbove2

next_sizes : {sets pre : List ℕ} {m events : ℕ} {r : Bool} {above above2 : List ℕ} {onAbove onAbove2 : List Bool}
    → Next sets pre m events r above onAbove above2 onAbove2
    → (length above2 ≡ length above) × (length onAbove2 ≡ length onAbove)
next_sizes (added row marks t g p q) = (rw p g.above_size, rw q g.on_size)
next_sizes (same t p q) = (ap length p, ap length q)

-- ---- what the marks say
-- the marks of the machines from `left` on, and the rows of those that are kept
pub record Examined (ts : TransitionSystem) (ms : Decomposition) (above : List ℕ) (onAbove : List Bool) (kept size left : ℕ) : Type 0 where
  pub number : kept ≡ set_number (drop left (kept_marks ts ms))
  pub counted : size ≡ count (λ b. b) (drop left (kept_marks ts ms))
  pub rows : Tells ts (select (drop left (kept_marks ts ms)) (drop left ms)) above onAbove

-- one mark more
number_more : (b : Bool) (marks : List Bool) {n : ℕ} → n ≡ set_number marks → n * 2 + bool_byte b ≡ set_number (b ∷ marks)
unfolding set_number
number_more true marks v = omega arith
number_more false marks v = omega arith

count_more : (b : Bool) (marks : List Bool) {n : ℕ} → n ≡ count (λ b. b) marks → n + bool_byte b ≡ count (λ b. b) (b ∷ marks)
unfolding count
count_more true marks v = omega arith
count_more false marks v = omega arith

module _ {ts : TransitionSystem} {ms : Decomposition} {pre post sets excited : List ℕ} (told : SetsTold ts ms pre post sets excited) where
  examined_none : Examined ts ms (replicate 256 full_word) (replicate 64 false) 0 0 (length ms)
  unfolding set_number count select
  examined_none = record { number = rw no_marks; counted = rw no_marks; rows = rw no_marks (tells_none ts told.states told.events) }
    where
      no_marks : drop (length ms) (kept_marks ts ms) ≡ []
      no_marks = ap (λ (n : ℕ). drop n (kept_marks ts ms)) (sym (kept_length ts ms)) ∙ drop-length (kept_marks ts ms)

  -- machine k is the next
  module _ (k : ℕ) (low : k < length ms) {below above : List ℕ} {onAbove : List Bool} {kept size : ℕ} {r : Bool}
      (before : Below sets pre (length ms) ts.events below) (x : Examined ts ms above onAbove kept size (suc k))
      (v : r ≡ redundant pre below above onAbove excited (k + size) k ts.events) where
    abbrev marks : List Bool
    marks = drop (suc k) (kept_marks ts ms)

    abbrev others : Decomposition
    others = select marks (drop (suc k) ms)

    size_is : size ≡ length others
    size_is =
        x.counted
        ∙ select_count marks (drop (suc k) ms) (length-drop (suc k) (kept_marks ts ms) ∙ rw (kept_length ts ms) (sym (length-drop (suc k) ms)))

    -- its mark is what the code answers
    mark : get_or (kept_marks ts ms) k false ≡ not r
    mark =
        kept_examined ts ms k low
        ∙ ap not (ap (suffices ts) (select_without k marks ms low) ∙ sym (v ∙ suffices_same told k x.rows low before (ap (λ (n : ℕ). k + n) size_is)))

    marks_more : drop k (kept_marks ts ms) ≡ not r ∷ marks
    marks_more = drop-cons (kept_marks ts ms) k false (omega (arith, kept_length ts ms)) ∙ ap (λ (b : Bool). b ∷ marks) mark

    machines_more : (m : Machine) → At ms k m → drop k ms ≡ m ∷ drop (suc k) ms
    machines_more m a = drop-cons ms k m low ∙ ap (λ (n : Machine). n ∷ drop (suc k) ms) (at_value ms k m m a)

    rows_more : {above2 : List ℕ} {onAbove2 : List Bool} (b : Bool) → Next sets pre k ts.events b above onAbove above2 onAbove2
        → (m : Machine) → At ms k m → Tells ts (select (not b ∷ marks) (m ∷ drop (suc k) ms)) above2 onAbove2
    unfolding select
    rows_more b (added row on t g p q) m a = rw (t, p, q) (tells_more told k x.rows m a g)
    rows_more b (same t p q) m a = rw (t, p, q) x.rows

    examined_more : {above2 : List ℕ} {onAbove2 : List Bool} → Next sets pre k ts.events r above onAbove above2 onAbove2
        → Examined ts ms above2 onAbove2 (kept * 2 + bool_byte (not r)) (size + bool_byte (not r)) k
    examined_more g =
        let w = below_at ms k low in
        record {
          number = rw marks_more (number_more (not r) marks x.number);
          counted = rw marks_more (count_more (not r) marks x.counted);
          rows = rw (marks_more, machines_more w.0 w.1) (rows_more r g w.0 w.1);
        }

-- ---- the loop
-- it has come to machine `left`; what the rows say is said of any machines that they tell
pub record Thinning (excited sets pre : List ℕ) (machines events : ℕ) (above : List ℕ) (onAbove : List Bool) (kept size left : ℕ) : Type 0 where
  pub most : left ≤ machines
  pub few : size + left ≤ machines
  pub low : kept < 2 ^ (machines - left)
  pub above_size : length above ≡ 256
  pub on_size : length onAbove ≡ 64
  pub marks : (ts : TransitionSystem) (ms : Decomposition) (post : List ℕ) → SetsTold ts ms pre post sets excited → machines ≡ length ms
      → events ≡ ts.events → Examined ts ms above onAbove kept size left

pub byte_small : (b : Bool) → bool_byte b ≤ 1
byte_small true = omega arith
byte_small false = omega arith

module _ {excited sets pre : List ℕ} {machines events : ℕ} where
  pub thin_start : Thinning excited sets pre machines events (replicate 256 full_word) (replicate 64 false) 0 0 machines
  thin_start =
      record {
        most = omega arith;
        few = omega arith;
        low = pow_pos (machines - machines);
        above_size = refl;
        on_size = refl;
        marks = λ ts ms post told a b. rw a (examined_none told);
      }

  -- one digit more has room in 16
  pub thin_room : {above : List ℕ} {onAbove : List Bool} {kept size left : ℕ}
      → Thinning excited sets pre machines events above onAbove kept size left → machines ≤ 16 → 0 < left → kept < 32768
  thin_room {left = left} t l h =
      let p : 2 ^ (machines - left) ≤ 2 ^ 15 = pow_mono {i = machines - left} {j = 15} (omega arith) in
      omega (arith, t.low, p)

  -- machine m is examined, and r says that it is redundant
  pub thin_more :
      {below above above2 : List ℕ} {onAbove onAbove2 : List Bool} {kept size left m : ℕ} {r : Bool} → Below sets pre machines events below
      → Thinning excited sets pre machines events above onAbove kept size left → left ≡ suc m
      → r ≡ redundant pre below above onAbove excited (m + size) m events
      → Next sets pre m events r above onAbove above2 onAbove2
      → Thinning excited sets pre machines events above2 onAbove2 (kept * 2 + bool_byte (not r)) (size + bool_byte (not r)) m
  thin_more {below} {above} {above2} {onAbove} {onAbove2} {kept} {size} {left} {m} {r} before t q v g =
      record {
        most = omega (arith, t.most);
        few = omega (arith, t.few, byte_small (not r));
        low = rw (further, pow-suc 2 (machines - left)) (omega (arith, t.low, byte_small (not r)));
        above_size = (next_sizes g).0 ∙ t.above_size;
        on_size = (next_sizes g).1 ∙ t.on_size;
        marks = λ ts ms post told b d.
            examined_more told m (omega (arith, t.most)) (rw (b, d) at before) (rw q at (t.marks ts ms post told b d)) (rw d at v) (rw d at g);
      }
    where
      further : machines - m ≡ suc (machines - left)
      further = omega (arith, t.most)

  pub thin_end : {above : List ℕ} {onAbove : List Bool} {kept size left : ℕ}
      → Thinning excited sets pre machines events above onAbove kept size left → left ≤ 0
      → ThinsBySets pre sets excited machines events record { machines = kept; size = size }
  thin_end {left = left} t l =
      let q : left ≡ 0 = omega arith in
      record {
        keeps = λ ts ms post told a b.
            let x = t.marks ts ms post told a b in
            record { machines = x.number ∙ rw q; size = x.counted ∙ rw q };
      }

-- ---- 11 and 12, and then what is kept
module _ {c : Counts} {pre place excited : List ℕ} {v : Result (Unit {0}) D.Refusal} (judged : CoverJudged c pre place excited v) where
  pub thin_refused : {why : D.Refusal} → v ≡ Err why → Thins c pre place excited (Err why)
  unfolding ThinsTo verdict_refusal
  thin_refused e = record { thins = λ ts ms post told a b d. sym (judged.judges ts ms post told a b d) ∙ ap verdict_refusal e }

  pub thin_kept : {u : Unit {0}} {words : ℕ} {sets : List ℕ} {k : Kept} → v ≡ Ok u → (verdict_refusal v ≡ none → PlaceSets place c.states words c.machines sets)
      → ThinsBySets pre sets excited c.machines c.events k → Thins c pre place excited (Ok k)
  unfolding ThinsTo verdict_refusal
  thin_kept e filled t =
      record {
        thins = λ ts ms post told a b d.
            let sets = filled (ap verdict_refusal e) in (
              sym (judged.judges ts ms post told a b d) ∙ ap verdict_refusal e,
              t.keeps ts ms post (sets_told told (rw (sym a) at sets) (sym d)) (sym d) (sym b),
            );
      }

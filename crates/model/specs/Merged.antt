-- What slip 4 of document 02, "Fewer places on a board", says of its pass and of the call. Each sentence of it stands beside its statement.
-- Believed, as statements over the notions of Region, Table and Demands. Proved of every text (proofs/Merges: merges_hold).
use Rattle.std.specs.Prelude.{ℕ, suc, ◌<◌, ◌≤◌, ◌≡◌, ◌⊎◌, List, ◌++◌, length}
use Rattle.model.specs.Lists.{At}
use Rattle.model.specs.Refusal.{Refusal}
use Rattle.model.specs.TransitionSystem.{TransitionSystem}
use Rattle.model.specs.Machine.{Place, Machine, Decomposition}
use Rattle.model.specs.Region.{IsMachine, Arc, HasEvent}
use Rattle.model.specs.Text.{Input, system, write}
use Rattle.model.specs.Sheet.{sheet}
use Rattle.model.specs.Table.{Uncovered, Refused, Passes}
use Rattle.model.specs.Services.{merge}
use Rattle.model.specs.Demands.{Lends, Sheet, OfSystem, Faithful, OwnSheet}
use Rattle.model.specs.Merging.{merge_machine, merge_in, with_machines}

-- places i and j, i the lower: "the lower number takes both sets and higher ones close up"
pub record MergedPlaces (i j : ℕ) (before after : List Place) : Type 0 where
  pub one_fewer : suc (length after) ≡ length before
  pub both : (a b : Place) → At before i a → At before j b → At after i (a ++ b)
  pub below : (n : ℕ) (a : Place) → n < j → ¬ (n ≡ i) → At before n a → At after n a
  pub above : (n : ℕ) (a : Place) → j ≤ n → At before (suc n) a → At after n a

-- "after which 11 and 12 still pass": places i and j, i the lower, of machine k
pub record Mergeable (ts : TransitionSystem) (k : ℕ) (ms : Decomposition) (i j : ℕ) : Type 0 where
  pub machine : Machine
  pub numbered : At ms k machine
  pub lower : i < j
  pub higher : j < length machine.places
  pub covered : (r : Refusal) → ¬ Uncovered ts (merge_in k i j ms) r

-- "by lower number, then by higher"
abbrev pub Before : ℕ → ℕ → ℕ → ℕ → Type 0
Before a b i j = (a < i) ⊎ ((a ≡ i) × (b < j))

-- "a pass over machines in rising order and, in each, over pairs of places …, that makes each merge …, taking the pair again from the lowest after a
-- merge", from machine k on: the first pair that can be merged is merged, and the pairs are gone over again; where none can, the next machine is due
pub data Pass (ts : TransitionSystem) : ℕ → Decomposition → Decomposition → Type 0 where
  merges : {k : ℕ} {ms ns : Decomposition} (i j : ℕ) → Mergeable ts k ms i j → ((a b : ℕ) → Before a b i j → ¬ Mergeable ts k ms a b)
      → Pass ts k (merge_in k i j ms) ns → Pass ts k ms ns
  next : {k : ℕ} {ms ns : Decomposition} → k < length ms → ((i j : ℕ) → ¬ Mergeable ts k ms i j) → Pass ts (suc k) ms ns → Pass ts k ms ns
  done : {k : ℕ} {ms : Decomposition} → length ms ≤ k → Pass ts k ms ms

-- what holds of a split that the pass leaves
pub record Merged (v : Input) (ns : Decomposition) : Type 0 where
  -- "The result is accepted": as a text it passes as far as 12, so its places are regions with each state in just one, and 11 and 12 pass
  pub accepted : Passes 12 (write (with_machines v ns)) (with_machines v ns)
  -- "runs the lists of the plan", each machine then in the place that contains the plan's state
  pub runs : (es : List ℕ) → OfSystem (system v) es → Faithful (system v) ns es
  -- "and admits no further single merge"
  pub maximal : (k i j : ℕ) → ¬ Mergeable (system v) k ns i j
  -- its sheet shows the machines that the theory derives, fits, and makes a board run the lists of the plan
  pub shown : Sheet (with_machines v ns)
  pub fits : length (sheet (with_machines v ns)) ≤ 32768
  pub boards : OwnSheet (write (with_machines v ns)) (with_machines v ns)

-- w is the value of a text that passes as far as 12, with the machines that the pass leaves
pub record MergedText (s : List ℕ) (w : Input) : Type 0 where
  pub value : Input
  pub checked : Passes 12 s value
  pub split : Decomposition
  pub left : Pass (system value) 0 value.machines split
  pub same : w ≡ with_machines value split

pub record Merges (s : List ℕ) : Type 0 where
  -- one merge, by numbers: two places of one machine, and no other machine is touched
  pub places : (i j : ℕ) (m : Machine) → i < j → j < length m.places → MergedPlaces i j m.places (merge_machine i j m).places
  pub in_machine : (k i j : ℕ) (ms : Decomposition) (m : Machine) → At ms k m → At (merge_in k i j ms) k (merge_machine i j m)
  pub others : (k i j n : ℕ) (ms : Decomposition) (m : Machine) → ¬ (n ≡ k) → At ms n m → At (merge_in k i j ms) n m
  pub as_many : (k i j : ℕ) (ms : Decomposition) → length (merge_in k i j ms) ≡ length ms
  -- "an event between the two leaves that machine"
  pub leaves : (v : Input) → Passes 7 s v → (m : Machine) → IsMachine (system v) m → (i j e : ℕ) → i < j
      → Arc (system v) m i e j ⊎ Arc (system v) m j e i → ¬ HasEvent (Arc (system v)) (merge_machine i j m) e
  -- the pass leaves one split, and no other
  pub one_result : (v : Input) → Passes 12 s v
      → (ns : Decomposition) × Pass (system v) 0 v.machines ns × ((os : Decomposition) → Pass (system v) 0 v.machines os → os ≡ ns)
  pub result : (v : Input) → Passes 12 s v → (ns : Decomposition) → Pass (system v) 0 v.machines ns → Merged v ns
  -- "The answer is the merged split's sheet, refused as in Check and sheet": 1 to 12 of the text as it is given, 13 with the merged sheet's size
  pub lends : (out : List ℕ) → Lends (Refused 12 s) (MergedText s) sheet out (merge s out)

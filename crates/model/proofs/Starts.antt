-- The demands, of plans that start elsewhere than in state 0.
use Prim.Native.Nat.{ℕ, ◌≤◌}
use native.Mathlib.Omega.{arith}
use mathlib.Core.Path.{refl}
use mathlib.Core.List.{List, [], ◌∷◌}
use Rattle.model.specs.Refusal.{refuse}
use Rattle.model.specs.Bytes.{bytes}
use Rattle.model.specs.Text.{Input}
use Rattle.model.specs.Table.{phase, Refused, Passes}
use Rattle.model.specs.Starts.{y_away, y_alone, y_input, y0, y1, starts, StartsAway, RefusedAway}
use Rattle.model.proofs.Demands.{demand2, demand3}

-- a text that passes as far as one row passes as far as the rows before it
earlier : (n m : ℕ) → phase n ≤ phase m → (s : List ℕ) (v : Input) → Passes m s v → Passes n s v
earlier n m h s v p = record { reads = p.reads; clear = λ q k o. p.clear q (omega arith) o }

pub starts_away : StartsAway (bytes y_away) (y_input 3 (y0 ∷ y1 ∷ []))
unfolding phase
starts_away =
    let s = bytes y_away in
    let v = y_input 3 (y0 ∷ y1 ∷ []) in
    let p : Passes 12 s v = ((demand2 s).as_far_as_12.passes v).0 starts.away in
    let p7 : Passes 7 s v = earlier 7 12 (omega arith) s v p in
    record {
      initial = refl;
      passes = p;
      own_lines = (demand2 s).own_lines v;
      limits = (demand2 s).limits v p.reads;
      writes = (demand2 s).writes v ((demand2 s).limits v p.reads);
      all_states = (demand2 s).all_states v p.reads;
      transition_system = (demand2 s).transition_system v p7;
      runs = (demand2 s).runs v p7;
      machines = (demand2 s).machines v (earlier 10 12 (omega arith) s v p);
      closure = (demand2 s).closure v p;
      shown = (demand2 s).shown v p;
      lists = (demand3 s).accepted v p;
      boards = (demand3 s).boards v p;
    }

pub refused_away : RefusedAway (bytes y_alone) (y_input 3 (y0 ∷ []))
unfolding phase
refused_away =
    let s = bytes y_alone in
    let v = y_input 3 (y0 ∷ []) in
    let p : Passes 10 s v = ((demand2 s).as_far_as_10.passes v).0 starts.alone in
    let f : Refused 12 s (refuse 11 1 0) = ((demand2 s).as_far_as_12.refuses (refuse 11 1 0)).0 starts.alone_refused in
    record {
      initial = refl;
      passes = p;
      refused_open = f;
      differ = (demand3 s).refused_open v p (refuse 11 1 0) f;
      converse = (demand3 s).converse v (earlier 7 10 (omega arith) s v p);
    }

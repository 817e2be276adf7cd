-- The sixteen machine numbers side by side.
use Rattle.std.specs.Prelude.{ℕ, Option, MatchOption, true, ◌≤◌, ◌<◌, ◌≡◌, Bool, not, List, T, length}
use Rattle.std.proofs.Math.Option.{some}
use Rattle.model.specs.Product.{fire}
use Rattle.rows.specs.Told.{entry}
use Rattle.regions.specs.Moves.{move_at}
use Rattle.product.specs.Stepping.{PlaceBounds, blocks_at}

-- a machine that blocks
pub record Blocking (pre : List ℕ) (machines : ℕ) (places : List ℕ) (e : ℕ) : Type 0 where
  pub machine : ℕ
  pub among : machine < machines
  pub blocks : T (blocks_at pre places e machine)

-- the machine numbers before m are passed: all are ready and stand in `moved` where they go, or one blocks; the others are as they stood
pub record Lanes (pre post : List ℕ) (machines : ℕ) (places : List ℕ) (e : ℕ) (moved : List ℕ) (all : Bool) (m : ℕ) : Type 0 where
  pub most : m ≤ 16
  pub size : length moved ≡ 16
  pub went : T all → (k : ℕ) → k < m → k < machines → fire (move_at pre post) k e (entry places k) ≡ some (entry moved k)
  pub halted : T (not all) → Blocking pre machines places e
  pub later : (k : ℕ) → m ≤ k → entry moved k ≡ entry places k
  pub unused : (k : ℕ) → machines ≤ k → entry moved k ≡ entry places k

-- event e from these places, for as many machines as have a bound: one blocks, or all have moved
abbrev pub Moves : List ℕ → List ℕ → List ℕ → List ℕ → ℕ → Option (List ℕ) → Type 0
Moves pre post bounds places e r =
    (machines : ℕ) → PlaceBounds machines bounds → MatchOption r (Blocking pre machines places e) (λ moved. Lanes pre post machines places e moved true 16)

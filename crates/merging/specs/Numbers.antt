-- The new numbers of places, and the rows with the new numbers.
use Rattle.std.specs.Prelude.{ℕ, ◌+◌, ◌*◌, ◌<◌, ◌≤◌, ◌≡◌, ◌↔◌, Bool, not, cond, ◌&&◌, ◌||◌, List, [], ◌∷◌, ◌++◌, T, eqb, ltb, length}
use Rattle.model.specs.Lists.{elem}
use Rattle.model.specs.Machine.{place_in}
use Rattle.state_set.specs.Rows.{member_at}
use Rattle.rows.specs.Told.{entry}
use Rattle.regions.specs.Moves.{move_at, MoveRows}
use Rattle.closure.specs.Covers.{on_machine}
use Rattle.merging.specs.Groups.{ungrouped, grown, grouped, renumbered}

-- each of the first sets has all of n states
pub record Filled (n events : ℕ) (row : List ℕ) : Type 0 where
  pub size : length row ≡ 256
  pub all : (e i : ℕ) → e < events → member_at row e i ≡ ltb i n

-- a set of places
pub record SmallSet (f : ℕ → Bool) : Type 0 where
  pub below : (q : ℕ) → T (f q) → q < 64

-- numbers of places, for 64 places
pub record SmallRow (number : List ℕ) : Type 0 where
  pub words : length number ≡ 64
  pub small : (q : ℕ) → q < 64 → entry number q < 64

-- The place `first`, of n, begins a group after the groups gs, `left` being the places in none of them: it grows as `grown` says, its places get the number, and `rest`
-- are the places still in none.
pub record Gathered (bars : List ℕ) (left : ℕ → Bool) (first group : ℕ) (old : List ℕ) (rest : ℕ → Bool) (new : List ℕ) : Type 0 where
  pub size : length new ≡ 64
  pub fewer : (q : ℕ) → T (rest q) → T (left q)
  pub gathers : (n : ℕ) (gs : List (List ℕ)) → n ≤ 64 → ((q : ℕ) → left q ≡ (ltb q n && ungrouped (gs ++ ((first ∷ []) ∷ [])) q))
      → ((q : ℕ) → rest q ≡ (ltb q n && ungrouped (gs ++ (grown n (member_at bars) n gs (first ∷ []) ∷ [])) q))
      × ((q : ℕ) → q < 64 → entry new q ≡ cond (elem q (grown n (member_at bars) n gs (first ∷ []))) group (entry old q))

-- the row has the number of each place's group, and there are so many groups
pub record Numbered (bars : List ℕ) (size groups : ℕ) (number : List ℕ) : Type 0 where
  pub row : SmallRow number
  pub most : groups ≤ size
  pub count : groups ≡ length (grouped (member_at bars) size)
  pub each : (q : ℕ) → q < size → entry number q ≡ place_in (grouped (member_at bars) size) q

unfoldable pub new_pre : ℕ → ℕ → ℕ
new_pre p q = cond (eqb p q) 255 p

-- the moves of machine m have the new numbers, those of the other machines are as they were
pub record Renumbered (number : List ℕ) (m events : ℕ) (pre post pre2 post2 : List ℕ) : Type 0 where
  pub rows : MoveRows pre2 post2
  pub moves : (e : ℕ) → e < events → move_at pre2 post2 m e ≡ renumbered (entry number) (move_at pre post m e)
  pub others_pre : (i : ℕ) → ((e : ℕ) → ¬ (i ≡ e * 16 + m)) → entry pre2 i ≡ entry pre i
  pub others_post : (i : ℕ) → ((e : ℕ) → ¬ (i ≡ e * 16 + m)) → entry post2 i ≡ entry post i
  pub ends : (e : ℕ) → e < events → entry pre2 (e * 16 + m) < 64 → entry post2 (e * 16 + m) < 64

-- set c has the states of the first places of machine m that have the number c
pub record United (sets : List ℕ) (m size : ℕ) (number unions : List ℕ) : Type 0 where
  pub words : length unions ≡ 256
  pub members : (c i : ℕ) → T (member_at unions c i) ↔ ((q : ℕ) × (q < size) × (entry number q ≡ c) × T (member_at sets (m * 64 + q) i))

-- the set of each event has only states of its pre-place on machine m, where it has one
pub record Narrowed (unions pre : List ℕ) (m events : ℕ) (old new : List ℕ) : Type 0 where
  pub size : length new ≡ 256
  pub members : (e i : ℕ) → e < events → member_at new e i ≡ (member_at old e i && (not (on_machine pre e m) || member_at unions (entry pre (e * 16 + m)) i))

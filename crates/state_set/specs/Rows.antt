-- Sets in a row of words, four words each.
use Rattle.std.specs.Prelude.{ℕ, ◌+◌, ◌*◌, ◌≡◌, Bool, cond, ◌&&◌, ◌||◌, List, eqb, length, get_or}
use Rattle.state_set.specs.declared.StateSet.{StateSet}
use Rattle.state_set.specs.Member.{bit, member}

unfoldable pub set_at : List ℕ → ℕ → StateSet
set_at row k =
    record {
      w0 = get_or row (k * 4) 0;
      w1 = get_or row (k * 4 + 1) 0;
      w2 = get_or row (k * 4 + 2) 0;
      w3 = get_or row (k * 4 + 3) 0;
    }

-- state i is in set k
unfoldable pub member_at : List ℕ → ℕ → ℕ → Bool
member_at row k i = member (set_at row k) i

-- set k is now a, the others are as they were
pub record Stored (k : ℕ) (a : StateSet) (old new : List ℕ) : Type 0 where
  pub size : length new ≡ length old
  pub sets : (j : ℕ) → set_at new j ≡ cond (eqb j k) a (set_at old j)

-- set k has the state too, the others are as they were
pub record Inserted (k state : ℕ) (old new : List ℕ) : Type 0 where
  pub size : length new ≡ length old
  pub members : (j i : ℕ) → member_at new j i ≡ (member_at old j i || (eqb j k && eqb i state))

-- the word at a position has the digits of another too, the others are as they were
pub record WordJoined (at word : ℕ) (old new : List ℕ) : Type 0 where
  pub size : length new ≡ length old
  pub digits : (p i : ℕ) → bit (get_or new p 0) i ≡ (bit (get_or old p 0) i || (eqb p at && bit word i))

-- set k has the states of a too, the others are as they were
pub record Joined (k : ℕ) (a : StateSet) (old new : List ℕ) : Type 0 where
  pub size : length new ≡ length old
  pub members : (j i : ℕ) → member_at new j i ≡ (member_at old j i || (eqb j k && member a i))

-- What stands at the beginning of a buffer, and what is left to be printed of an answer.
use Rattle.std.specs.Prelude.{ℕ, zero, suc, ◌/◌, ◌%◌, ◌^◌, ◌≤◌, ◌≡◌, cond, List, [], ◌∷◌, ◌++◌, leb, eqb, length, take}
use Rattle.std.proofs.Math.Option.{none, some}
use Rattle.model.specs.Refusal.{Refusal, refuse, Checked, refused, passed}
use Rattle.model.specs.Services.{Outcome, whole, blocked, refused_by, written_refusal}
use Rattle.model.specs.Printed.{ran_word, places_word}
pub use Rattle.answers.specs.Answers.{answered}

-- the first n bytes of the buffer are this word, and the buffer has its length
pub record Shows (word : List ℕ) (n : ℕ) (out : List ℕ) : Type 0 where
  pub size : n ≡ length word
  pub shown : take n out ≡ word
  pub buffer : length out ≡ 32768

-- ---- a call that lends bytes

-- what it has left in the buffer is no longer than that
pub record FitsBuffer (c : Checked ℕ) : Type 0 where
  pub most : (n : ℕ) → c ≡ passed n → n ≤ 32768

-- what it left, with so many bytes lent; 13 with the size needed, if fewer are lent
unfoldable pub lent_line : ℕ → Checked ℕ → List ℕ → List ℕ
lent_line lent (refused r) left = written_refusal r
lent_line lent (passed n) left = cond (leb n lent) (take n left) (written_refusal (refuse 13 n 0))

-- ---- a run

-- no more machines are in use than have a place, unless it is refused
pub record FewMachines (o : Outcome) (machines : ℕ) : Type 0 where
  pub few : ((r : Refusal) → ¬ (o ≡ refused_by r)) → machines ≤ 16

-- how far it went, and these places
unfoldable pub outcome_line : Outcome → List ℕ → List ℕ
outcome_line whole qs = ran_word 0 none ++ places_word qs
outcome_line (blocked n m) qs = ran_word n (some m) ++ places_word qs
outcome_line (refused_by r) qs = written_refusal r

-- ---- thin

-- the machines below k whose bit is set
unfoldable pub kept_below : ℕ → ℕ → List ℕ
kept_below set zero = []
kept_below set (suc k) = kept_below set k ++ cond (eqb (set / 2 ^ k % 2) 1) (k ∷ []) []

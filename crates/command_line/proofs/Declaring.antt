-- The names of a text in rows: which event a word names.
use Prim.Native.Nat.{ℕ, ◌<◌, ◌≤◌}
use native.Mathlib.Omega.{arith}
use mathlib.Core.Path.{◌≡◌, ap, sym, ◌∙◌}
use mathlib.Core.Bool.{Bool, true, false}
use mathlib.Core.List.{List, []}
use Rattle.model.specs.Bytes.{same_name}
use Rattle.model.specs.Text.{event_number}
use Rattle.rows.proofs.Searches.{Upto, index_is}
use Rattle.rows.specs.Names.{names_in}
use Rattle.rows.proofs.Names.{name_in, cut, cut_name, name_at_lem, length_names}

-- ---- the event that a word names
module _ (s ats lens w : List ℕ) where
  -- t is what the code says of the word and of the name of event e, from its place to its end
  pub by_cut : (e : ℕ) {t b : Bool} → t ≡ same_name w (cut s ats lens e) → t ≡ b → same_name w (name_in s ats lens e) ≡ b
  by_cut e p q = sym (ap (same_name w) (cut_name s ats lens e)) ∙ sym p ∙ q

  module _ {n e : ℕ} (u : Upto (λ j. same_name w (name_in s ats lens j) ≡ false) n e) where
    -- the search stops at an event, or at the end
    stopped : (e < n → same_name w (name_in s ats lens e) ≡ true) → e ≡ event_number (names_in s ats lens n) w
    unfolding event_number
    stopped h =
        index_is (same_name w) (names_in s ats lens n) [] e (omega (arith, u.most, length_names s ats lens n))
        (λ j l. rw (name_at_lem s ats lens n j (omega (arith, u.most)), u.each j l) tt)
        (λ l. let b : e < n = omega (arith, length_names s ats lens n) in rw (name_at_lem s ats lens n e b, h b) tt)

    pub event_is : same_name w (name_in s ats lens e) ≡ true → e ≡ event_number (names_in s ats lens n) w
    event_is h = stopped (λ _. h)

    pub event_none : n ≤ e → n ≡ event_number (names_in s ats lens n) w
    event_none h = let z : n ≡ e = omega (arith, u.most) in z ∙ stopped (λ l. absurd (omega arith))

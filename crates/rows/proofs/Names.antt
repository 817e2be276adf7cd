-- The names of the events, by their places in the text: how many, which stands where, and that they are those that the text declares.
use Prim.Native.Nat.{ℕ, zero, suc, ◌+◌, ◌-◌, ◌≤◌, ◌<◌}
use native.Mathlib.Omega.{arith}
use mathlib.Core.Path.{◌≡◌, refl, ◌∙◌}
use mathlib.Core.Logic.{◌⊎◌, inl, inr}
use mathlib.Core.List.{List, [], ◌∷◌, ◌++◌}
use lib.ListN.{length, get_or, take, drop, length-append, length-drop, get_or-append}
use lib.Seq.{get_or_at, length-take-le, take-suc, take-length}
use Rattle.model.specs.Bytes.{Name}
use Rattle.model.specs.Text.{Input}
use Rattle.model.proofs.Laws.{below_suc}
use Rattle.rows.specs.declared.Tables.{Tables}
use Rattle.rows.specs.Told.{entry, name_of, Told}
use Rattle.rows.specs.Bounded.{NamesInside}
use Rattle.rows.specs.Names.{names_in, row_names}
use Rattle.rows.proofs.Telling.{told_events}

-- the names, by their places in the text
module _ (s ats lens : List ℕ) where
  abbrev pub name_in : ℕ → Name
  name_in e = take (entry lens e) (drop (entry ats e) s)

  -- the same, from its place to its end
  abbrev pub cut : ℕ → Name
  cut e = take (entry ats e + entry lens e - entry ats e) (drop (entry ats e) s)

  pub cut_name : (e : ℕ) → cut e ≡ name_in e
  cut_name e = let z : entry ats e + entry lens e - entry ats e ≡ entry lens e = omega arith in rw z

  pub length_names : (n : ℕ) → length (names_in s ats lens n) ≡ n
  unfolding names_in
  length_names zero = refl
  length_names (suc n) = omega (arith, length-append (names_in s ats lens n) (name_in n ∷ []), length_names n)

  pub name_at_lem : (n e : ℕ) → e < n → get_or (names_in s ats lens n) e [] ≡ name_in e
  unfolding names_in
  name_at_lem zero e h = absurd (omega arith)
  name_at_lem (suc n) e h = go (below_suc e n h) (name_at_lem n e)
    where
      go : (e < n) ⊎ (e ≡ n) → (e < n → get_or (names_in s ats lens n) e [] ≡ name_in e) → get_or (names_in s ats lens n ++ (name_in n ∷ [])) e [] ≡ name_in e
      go (inl l) ih = get_or-append (names_in s ats lens n) (name_in n ∷ []) [] e (omega (arith, length_names n)) ∙ ih l
      go (inr q) ih = rw q (get_or_at (names_in s ats lens n) (name_in n) [] [] n (length_names n))

  pub name_inside : {n : ℕ} → NamesInside s ats lens n → (e : ℕ) → e < n → entry ats e + entry lens e ≤ length s
  unfolding NamesInside
  name_inside h = h

  pub length_name : (n e : ℕ) → NamesInside s ats lens n → e < n → length (name_in e) ≡ entry lens e
  unfolding NamesInside
  length_name n e h l = length-take-le (entry lens e) (drop (entry ats e) s) (omega (arith, h e l, length-drop (entry ats e) s))

-- the names that the rows have
module _ (s : List ℕ) (v : Input) (p : Tables) (told : Told s v p) where
  names_told : (n : ℕ) → n ≤ length v.names → names_in s p.name_at p.name_len n ≡ take n v.names
  unfolding names_in name_of
  names_told zero h = refl
  names_told (suc n) h = rw (take-suc v.names n [] h, names_told n (omega arith), told.name n h)

  pub told_names : row_names s p ≡ v.names
  told_names = rw (told_events told, names_told (length v.names) (omega arith), take-length v.names)

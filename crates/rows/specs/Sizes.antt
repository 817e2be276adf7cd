-- The sizes of rows: of those that crossings are read from, of those that the checks go over, and of all.
use Rattle.std.specs.Prelude.{ℕ, ◌≡◌, List, length}
use Rattle.rows.specs.declared.Tables.{Tables}

pub record CrossedSizes (source target place : List ℕ) : Type 0 where
  pub sources : length source ≡ 1024
  pub targets : length target ≡ 1024
  pub places : length place ≡ 4096

pub record CheckedSizes (source event target duplicate place : List ℕ) : Type 0 where
  pub crossed : CrossedSizes source target place
  pub events : length event ≡ 1024
  pub duplicates : length duplicate ≡ 16

pub record Sized (p : Tables) : Type 0 where
  pub checked : CheckedSizes p.source p.event p.target p.duplicate p.place
  pub name_places : length p.name_at ≡ 64
  pub name_lengths : length p.name_len ≡ 64
  pub place_counts : length p.sizes ≡ 16

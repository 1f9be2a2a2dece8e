-- Some of the rows of a screen.
use Rattle.std.specs.Prelude.{◌≡◌, ℕ, Bool, true, false, List, Option, Some, None, slice_get}
use Rattle.mgs_model.specs.Rows.{Row}

abbrev pub told_in : Option Bool → Bool
told_in None = false
told_in (Some b) = b

-- a set has a row
abbrev pub has_row : ℕ → List Bool → Bool
has_row i set = told_in (slice_get set i)

-- it has none
pub record IsNone (set : List Bool) : Type 0 where
  pub each : (i : ℕ) → has_row i set ≡ false

-- each row of a set is in another one
pub record AreIn (inner outer : List Bool) : Type 0 where
  pub each : (i : ℕ) → has_row i inner ≡ true → has_row i outer ≡ true

-- the rows that a set has not are the same
pub record AreSameApart (set : List Bool) (old new : List Row) : Type 0 where
  pub each : (i : ℕ) → has_row i set ≡ false → slice_get new i ≡ slice_get old i

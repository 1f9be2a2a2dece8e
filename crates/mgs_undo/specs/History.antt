-- What a record of edits shows.
use Rattle.std.specs.Prelude.{ℕ, Bool, ◌==◌, List}
use Rattle.mgs_model.specs.World.{Item}

-- the kept edits, the latest first, and the serial of the last one
pub record History : Type 0 where
  pub items : List Item
  pub serial : ℕ

abbrev pub has_serial : ℕ → Item → Bool
has_serial n x = x.serial == n

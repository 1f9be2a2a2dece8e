-- What a server is seen as: its world, and what its store tells.
use Rattle.mgs_model.specs.World.{World}
use Rattle.mgs_births.specs.Telling.{StoreTold}

pub record Kept : Type 0 where
  pub world : World
  pub store : StoreTold

abbrev pub kept : World → StoreTold → Kept
kept w t = record { world = w; store = t }

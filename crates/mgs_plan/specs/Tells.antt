-- What an act touches, by what it comes to.
use Rattle.std.specs.Prelude.{Option, Some, None}
use Rattle.mgs_laws.specs.Apart.{touched_by}
use Rattle.mgs_model.specs.Outcome.{Outcome}
use Rattle.mgs_model.specs.declared.touched.Touched.{Touched}
use Rattle.mgs_model.specs.declared.touched.Touched.TheVariants.{Nowhere}

-- a session that is not there does nothing
abbrev pub touched_in : Option Outcome → Touched
touched_in None = Nowhere
touched_in (Some o) = touched_by o.effect

-- EFFECTS, one after another.
use Rattle.std.specs.Prelude.{◌≡◌, List, [], ◌∷◌}
use Rattle.mgs_model.specs.World.{World, Buffer}
use Rattle.mgs_model.specs.Outcome.{Effect}
use Rattle.mgs_model.specs.Apply.{buffers_after}
use Rattle.mgs_model.specs.Events.{Event, run, run_effects}

-- what they make of these buffers
abbrev pub effects_done : List Effect → List Buffer → List Buffer
effects_done [] buffers = buffers
effects_done (f ∷ fs) buffers = effects_done fs (buffers_after f buffers)

-- after any run the buffers are what its effects make of them
abbrev pub AreOfEffects : Type 0
AreOfEffects = (w : World) (es : List Event) → (run w es).buffers ≡ effects_done (run_effects w es) w.buffers

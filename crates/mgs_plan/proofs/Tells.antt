-- What an act does not touch is as it was.
use Rattle.std.proofs.Common.{◌≡◌, ℕ, Bool, Option, Some, None, sym, ap, ◌∙◌}
use Rattle.mgs_laws.specs.Apart.{Apart, touched_by}
use Rattle.mgs_model.specs.Apply.{act, applied, outcome_in}
use Rattle.mgs_model.specs.Outcome.{Act, Outcome}
use Rattle.mgs_model.specs.World.{World}
use Rattle.mgs_model.specs.declared.touched.Touched.{Touched}
use Rattle.mgs_model.specs.declared.touched.Touched.TheVariants.{Nowhere}
use Rattle.mgs_laws.proofs.Apart.{apart_apply, apart_same}
use Rattle.mgs_plan.specs.Tells.{touched_in}

pub apart_act : (w : World) (id : ℕ) (c : Act) (stored : Bool) → Apart (touched_in (outcome_in w id c stored)) id w (act w id c stored)
apart_act w id c stored = go (outcome_in w id c stored)
  where
    go : (o : Option Outcome) → Apart (touched_in o) id w (applied w id o)
    go None = apart_same Nowhere id w
    go (Some o) = apart_apply w id o

-- of what an act is known to come to
pub tells_known : (p : Option Outcome) (o : Outcome) (touched : Touched) → p ≡ Some o → touched ≡ touched_by o.effect → touched ≡ touched_in p
tells_known p o touched known is = is ∙ sym (ap touched_in known)

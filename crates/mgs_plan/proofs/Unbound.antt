-- A word of keys that runs no command.
use Rattle.std.proofs.Common.{ℕ, List, Option, refl}
use Rattle.mgs_model.specs.Access.{Directory}
use Rattle.mgs_model.specs.Acts.{outcome}
use Rattle.mgs_model.specs.Outcome.{Unbound}
use Rattle.mgs_model.specs.declared.echo_text.Message.TheVariants.{Says}
use Rattle.mgs_model.specs.declared.echo_text.Notice.TheVariants.{KeyNotBound}
use Rattle.mgs_buffers.specs.MarkedBuffer.{MarkedBuffer}
use Rattle.mgs_session.specs.declared.Session.{Session}
use Rattle.mgs_plan.specs.Deciding.{IsOutcome}
use Rattle.mgs_plan.specs.declared.outcome.Outcome.TheVariants.{Fails}

pub unbound_planned : (directory : Directory) (ks : List MarkedBuffer) (xs : List Session) (next : Option ℕ) (h : Session) → IsOutcome directory ks xs next h Unbound (Fails (Says KeyNotBound))
unfolding outcome
unbound_planned directory ks xs next h = λ stored. refl

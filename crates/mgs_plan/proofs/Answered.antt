-- What comes to pass where a command is known to be one of its family.
use Rattle.std.proofs.Common.{◌≡◌, ℕ, List, Option, sym, subst}
use Rattle.mgs_model.specs.Access.{Directory}
use Rattle.mgs_model.specs.Outcome.{Run}
use Rattle.mgs_model.specs.declared.session.ByName.{ByName}
use Rattle.mgs_model.specs.declared.session.Command.{Command}
use Rattle.mgs_model.specs.declared.session.Command.TheVariants.{Named}
use Rattle.mgs_buffers.specs.MarkedBuffer.{MarkedBuffer}
use Rattle.mgs_session.specs.declared.Session.{Session}
use Rattle.mgs_plan.specs.Deciding.{IsPlanned}
use Rattle.mgs_plan.specs.Searching.{typed_act}
use Rattle.mgs_plan.specs.declared.outcome.Outcome.{Outcome}
use Rattle.mgs_world.specs.Worlds.{state_of}

pub of_command : {k c : Command} (directory : Directory) (ks : List MarkedBuffer) (h : Session) (n : Option ℕ) (typed : List ℕ) (o : Outcome) → k ≡ c
    → IsPlanned directory ks h (typed_act c n typed (state_of h.state)) o → IsPlanned directory ks h (typed_act k n typed (state_of h.state)) o
of_command directory ks h n typed o is planned = subst (λ (c : Command). IsPlanned directory ks h (typed_act c n typed (state_of h.state)) o) (sym is) planned

pub of_named : {k c : ByName} (directory : Directory) (ks : List MarkedBuffer) (h : Session) (typed : List ℕ) (o : Outcome) → k ≡ c
    → ((n : Option ℕ) → IsPlanned directory ks h (Run (Named c) n typed) o) → (n : Option ℕ) → IsPlanned directory ks h (Run (Named k) n typed) o
of_named directory ks h typed o is planned = subst (λ (c : ByName). (n : Option ℕ) → IsPlanned directory ks h (Run (Named c) n typed) o) (sym is) planned

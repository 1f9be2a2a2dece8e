use Rattle.std.proofs.Common.{ℕ, sym, subst}
use Rattle.std.specs.Prelude.{Err}
use Rattle.mgs_model.specs.Plans as model
use Rattle.mgs_model.specs.declared.session.Command.{Command}
use Rattle.mgs_edit.specs.Planned.{IsPlan}
use Rattle.mgs_edit.specs.Reading.{IsInsertion}
use Rattle.mgs_edit.proofs.families.plan_command.Goals as goal

pub returns-in-Err : goal.returns-in-Err
returns-in-Err g c =
    subst (λ (k : Command). IsPlan k c.args.around.now (g.T.Text.text c.args.text.now) (Err c.in-Err.failure)) (sym c.in-Insert.is)
    (subst (λ (n : ℕ). IsInsertion (model.insertion c.in-Insert.put) c.args.around.now n (Err c.in-Err.failure)) c.len.ensures.value c.in-Err.ensures.plan)

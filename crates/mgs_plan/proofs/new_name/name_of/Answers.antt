use Rattle.std.proofs.Common.{sym}
use Rattle.mgs_model.specs.Names.{is_name}
use Rattle.mgs_world.proofs.Marks.{false_from}
use Rattle.mgs_buffers.proofs.Spelled.{name_is_text}
use Rattle.mgs_plan.proofs.new_name.name_of.Goals as goal

pub returns-in-Err-clause-form : goal.returns-in-Err-clause-form
returns-in-Err-clause-form c = sym (false_from (is_name c.args.bytes.now) (λ named. absurd (c.in-Err.ensures.cases.0 (name_is_text c.args.bytes.now named))))

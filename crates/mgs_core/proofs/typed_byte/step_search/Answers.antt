use Rattle.std.proofs.Common.{◌∙◌, sym}
use Rattle.mgs_core.proofs.Sought.{searched_step}
use Rattle.mgs_core.proofs.typed_byte.step_search.Goals as goal

pub returns : goal.returns
returns c directory ks =
    searched_step directory ks c.args.session.now c.take_search.new.session c.step_taken.new.session c.in-Some.search c.args.byte c.step_taken.new.before c.step_taken.result
    (sym c.take_search.ensures.search ∙ c.in-Some.is) c.take_search.ensures.rest (c.step_taken.ensures directory ks)

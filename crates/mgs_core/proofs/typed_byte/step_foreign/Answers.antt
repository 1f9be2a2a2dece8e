use Rattle.std.proofs.Common.{◌∙◌}
use Rattle.mgs_core.proofs.Sought.{search_leaves}
use Rattle.mgs_core.proofs.typed_byte.step_foreign.Goals as goal

pub returns : goal.returns
returns c directory ks =
    let y = c.args.session.now in
    rw c.search_for.ensures (search_leaves directory ks y c.leave_search.new.session c.step_key.new.session c.args.place c.args.sought c.of-last.result c.args.byte c.step_key.result
    (c.of-last.ensures ∙ c.as_slice.ensures.value) c.requires.ascii c.requires.leaves c.leave_search.ensures c.step_key.ensures.keyed (c.step_key.ensures.step directory ks))

use Rattle.mgs_session.specs.declared.search.Aim.TheVariants.{Find, Replace}
use Rattle.mgs_core.proofs.Sought.{aimed}
use Rattle.mgs_core.proofs.typed_byte.step_taken.Goals as goal

pub returns-in-Find : goal.returns-in-Find
returns-in-Find c directory ks =
    aimed directory ks c.args.session.now c.step_find.new.session c.args.search (Find c.in-Find.sought) c.args.byte c.step_find.new.before c.step_find.result c.in-Find.is (c.step_find.ensures directory ks)

pub returns-in-Replace : goal.returns-in-Replace
returns-in-Replace c directory ks =
    aimed directory ks c.args.session.now c.step_replace.new.session c.args.search (Replace c.in-Replace.replacing) c.args.byte c.step_replace.new.before c.step_replace.result c.in-Replace.is (c.step_replace.ensures directory ks)

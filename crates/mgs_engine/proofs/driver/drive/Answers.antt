use Rattle.mgs_engine.specs.Drives.{all_asked}
use Rattle.mgs_engine.proofs.Driven.{driven_part, driven_taped, driven_world}
use Rattle.mgs_engine.proofs.driver.drive.Goals as goal

pub returns-clause-err : goal.returns-clause-err
returns-clause-err g c = rw c.tape.view_is at c.make_each.ensures.err

pub returns-clause-world : goal.returns-clause-world
returns-clause-world g c = driven_world c.make_each.result _ _ (all_asked c.args.calls.now) (rw c.tape.view_is at c.make_each.ensures.ok)

pub returns-clause-part : goal.returns-clause-part
returns-clause-part g c = driven_part c.make_each.result _ _ (all_asked c.args.calls.now) (rw c.tape.view_is at c.make_each.ensures.err)

pub returns-clause-screens : goal.returns-clause-screens
returns-clause-screens g c =
    driven_taped c.make_each.result _ _ (all_asked c.args.calls.now) (rw c.tape.view_is at c.make_each.ensures.ok) (rw c.tape.view_is at c.make_each.ensures.err)

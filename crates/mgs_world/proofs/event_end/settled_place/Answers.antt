use Rattle.std.proofs.Common.{arith}
use Rattle.mgs_world.proofs.Settles.{settled_here}
use Rattle.mgs_world.proofs.event_end.settled_place.Goals as goal

pub returns-then-settled-top-clause-value : goal.returns-then-settled-top-clause-value
returns-then-settled-top-clause-value g c =
    settled_here c.args.directory.now c.args.user.now c.args.height c.args.buffers.now c.args.window_marks.now c.find-found.result _ _ _ _
    c.find-found.ensures c.requires.kept c.requires.top c.pos-top.ensures.value c.pos-point.ensures.value c.text.ensures.text c.settled_top-settled.ensures.value
    (omega (arith, c.if-settled-top.true))

use Rattle.std.proofs.Common.{◌∙◌, ap, length, arith}
use Rattle.mgs_session.specs.declared.Session.{Session}
use Rattle.mgs_world.proofs.Only.{only_twice}
use Rattle.mgs_arrange.proofs.WindowsGone.{below_step, first_stays}
use Rattle.mgs_arrange.proofs.removal.delete_below.Goals as goal

pub loop-buffers-preserved : goal.loop-buffers-preserved
loop-buffers-preserved g c =
    let inv = c.loop-buffers.invariant in
    let x = c.loop-buffers.session in
    record {
      sound = c.leave.ensures.sound;
      rearranged = only_twice c.args.buffers.now c.loop-buffers.buffers c.leave.new.buffers c.args.session.now x c.leave.new.session inv.rearranged c.leave.ensures.rearranged;
      same = below_step c.loop-buffers.buffers c.leave.new.buffers x c.leave.new.session inv.first (omega (arith, c.loop-buffers-test.true, ap length c.as_slice.ensures.value)) c.leave.ensures.gone ∙ inv.same;
      first = ap (λ (s : Session). s.windows.selected) c.leave.ensures.windows ∙ first_stays x.windows.selected inv.first;
    }

use Rattle.std.proofs.Common.{◌<◌, ◌∙◌, ℕ, ap, arith}
use Rattle.mgs_world.specs.Worlds.{session_of}
use Rattle.mgs_arrange.specs.Arranged.{window_gone}
use Rattle.mgs_world.proofs.Only.{only_twice}
use Rattle.mgs_arrange.proofs.WindowsGone.{above_step}
use Rattle.mgs_arrange.proofs.removal.delete_above.Goals as goal

pub loop-session-preserved : goal.loop-session-preserved
loop-session-preserved g c =
    let inv = c.loop-session.invariant in
    let x = c.loop-session.session in
    let some : 0 < x.windows.selected = omega (arith, c.selected.ensures.value, c.loop-session-test.true) in
    record {
      sound = c.leave.ensures.sound;
      rearranged = only_twice c.args.buffers.now c.loop-session.buffers c.leave.new.buffers c.args.session.now x c.leave.new.session inv.rearranged c.leave.ensures.rearranged;
      same =
          above_step c.loop-session.buffers c.leave.new.buffers x c.leave.new.session some (omega (arith, c.selected.ensures.value, c.selected.ensures.within))
          (c.leave.ensures.gone ∙ ap (λ (k : ℕ). window_gone 0 k (session_of c.loop-session.buffers x)) c.selected-selected.ensures.value)
          ∙ inv.same;
    }

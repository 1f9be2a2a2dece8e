use Rattle.mgs_world.proofs.Killed.{world_killed}
use Rattle.mgs_world.proofs.kill.kill_buffer.Goals as goal

pub returns-clause-world : goal.returns-clause-world
returns-clause-world g c = λ directory next.
    rw (c.in_ok-kill_as.ensures.ok, c.forget.ensures) (world_killed directory c.args.name.now c.args.buffers.now c.args.sessions.now next)

use Rattle.mgs_world.specs.Worlds.{world_of}
use Rattle.mgs_core.proofs.Apart.{apart_stays}
use Rattle.mgs_core.proofs.turn.settle_unless.Goals as goal

pub returns-then-stands-clause-world : goal.returns-then-stands-clause-world
returns-then-stands-clause-world g c next =
    apart_stays c.args.touched.now c.args.id (world_of c.args.directory.now c.args.buffers.now c.args.sessions.now next) (c.requires.stands c.if-stands.true next)

use Rattle.std.proofs.Common.{refl}
use Rattle.mgs_births.specs.Telling.{first_told}
use Rattle.mgs_server.specs.Listening.{first_world}
use Rattle.mgs_server.proofs.First.{engine_first}
use Rattle.mgs_server.proofs.server.engine_of.Goals as goal

pub returns : goal.returns
returns g c =
    engine_first c.new-2.result c.in_ok-core.core (first_world c.args.directory c.args.buffers) (first_told g.S.Store.failed g.S.Store.accepted c.args.store)
    c.in_ok-core.ensures refl c.new-2.ensures.world c.new-2.ensures.store c.new-2.ensures.ids c.new-2.ensures.ended

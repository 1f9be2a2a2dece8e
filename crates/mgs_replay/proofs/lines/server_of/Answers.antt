use Rattle.mgs_replay.proofs.Setting.{no_queues}
use Rattle.mgs_replay.proofs.lines.server_of.Goals as goal

pub returns-clause-queues : goal.returns-clause-queues
returns-clause-queues g c = no_queues c.new.result c.in_ok-core.core.world c.new.ensures.ids c.in_ok-core.ensures.sessions

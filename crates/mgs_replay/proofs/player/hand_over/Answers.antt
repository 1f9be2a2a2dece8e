use Rattle.mgs_replay.proofs.Served.{labels_told, ready_told, world_told}
use Rattle.mgs_replay.proofs.player.hand_over.Goals as goal

pub returns-in-Ok-clause-ready : goal.returns-in-Ok-clause-ready
returns-in-Ok-clause-ready g c = ready_told c.tell_all.result c.args.server.now c.take_all.new.server c.tell_all.new.server c.args.clients.now c.take_all.new.self c.requires c.in-Ok.ensures c.tell_all.ensures

pub returns-in-Ok-clause-world : goal.returns-in-Ok-clause-world
returns-in-Ok-clause-world g c = world_told c.tell_all.result c.args.server.now c.take_all.new.server c.tell_all.new.server c.args.clients.now c.take_all.new.self c.requires c.in-Ok.ensures c.tell_all.ensures

pub returns-in-Ok-clause-labels : goal.returns-in-Ok-clause-labels
returns-in-Ok-clause-labels g c = labels_told c.tell_all.result c.args.server.now c.take_all.new.server c.args.clients.now c.take_all.new.self c.requires c.in-Ok.ensures

use Rattle.mgs_server.proofs.Moving.{placed}
use Rattle.mgs_server.proofs.accept.place.Goals as goal

pub returns-clause-taken : goal.returns-clause-taken
returns-clause-taken c = placed c.insert.result c.args.peers.now c.insert.new.self c.in_ok-peer.peer c.in_ok-peer.ensures c.insert.ensures.was_vacant c.insert.ensures.updates c.insert.ensures.err

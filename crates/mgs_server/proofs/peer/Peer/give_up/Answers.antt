use Rattle.mgs_server.proofs.Moving.{closing_broken}
use Rattle.mgs_server.proofs.peer.Peer.give_up.Goals as goal

pub returns-clause-closing : goal.returns-clause-closing
returns-clause-closing g c = closing_broken g.E.Sessions.does _ _ _ _ c.break_off.ensures

use Rattle.std.proofs.Common.{ap, ◌∙◌}
use Rattle.mio.specs.Events.{items}
use Rattle.mgs_server.specs.Peers.{keys_in}
use Rattle.mgs_server.proofs.Turning.{turned_in}
use Rattle.mgs_server.proofs.server.Server.turn.Goals as goal

pub returns-clause-ok : goal.returns-clause-ok
returns-clause-ok g c =
    turned_in g.E.Sessions.does g.E.Sessions.live g.E.Sessions.pending g.E.Sessions.is_ended g.E.Served.tells g.E.Served.runs _ c.self.inside.sessions c.serve.new.engine c.expire.new.engine c.tell_ended.new.self c.self.inside.sockets.peers c.wait.new.self.peers c.serve.new.self.peers c.expire.new.self.peers
    (keys_in (items c.self.inside.sockets.events)) (keys_in (items c.wait.new.self.events)) (keys_in (items c.expire.new.self.events)) c.self.inside.tickets c.self.inside.port c.args.self.now
    c.wait.ensures.peers c.serve.ensures.served (ap (λ events. keys_in (items events)) (c.expire.ensures.events ∙ c.serve.ensures.events)) c.serve.ensures.moved (c.expire.ensures.moved c.self.inside.tickets)
    c.expire.ensures.engine c.expire.ensures.closes c.tell_ended.ensures.told c.tell_ended.ensures.runs c.self.view_is

use Rattle.std.proofs.Common.{ap, sym, subst, ◌∙◌}
use Rattle.mgs_model.specs.Events.{is_open}
use Rattle.mgs_replay.specs.declared.client.Cause.TheVariants.{Closed}
use Rattle.mgs_replay.proofs.Events.{waiting_gone}
use Rattle.mgs_replay.proofs.Players.{closed_key}
use Rattle.mgs_replay.proofs.Staying.{Beside, beside_close, closed_none}
use Rattle.mgs_replay.proofs.player.close_session.Goals as goal

pub hand_over-requires : goal.hand_over-requires
hand_over-requires g c =
    let old = c.args.server.now in
    let new = c.close.new.server in
    let beside : Beside c.args.id old.world new.world = subst (Beside c.args.id old.world) (sym c.in-Ok.ensures.world) (beside_close c.args.id old.world) in
    rw c.end.ensures
    (waiting_gone old new c.args.label.now c.args.id Closed c.args.clients.now c.requires.ready c.requires.session beside
    (ap (is_open c.args.id) c.in-Ok.ensures.world ∙ closed_none c.args.id old.world) c.in-Ok.ensures.does.1)

pub returns-in-Ok-clause-closes : goal.returns-in-Ok-clause-closes
returns-in-Ok-clause-closes g c =
    closed_key c.hand_over.result c.args.server.now c.close.new.server c.hand_over.new.server c.args.label.now c.args.id c.args.clients.now c.end.new.self c.hand_over.new.clients
    c.in-Ok.ensures.world c.end.ensures c.hand_over.ensures.world c.hand_over.ensures.labels

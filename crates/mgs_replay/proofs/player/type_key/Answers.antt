use Rattle.mgs_engine.proofs.Prompt.{handles_prompt}
use Rattle.mgs_replay.proofs.Players.{typed_key, waiting_keyed}
use Rattle.mgs_replay.proofs.player.type_key.Goals as goal

pub hand_over-requires : goal.hand_over-requires
hand_over-requires g c =
    rw c.end_if_quit.ensures
    (waiting_keyed c.in-Ok.keyed c.args.server.now c.byte.new.server c.args.label.now c.args.id c.args.key c.args.clients.now c.requires.ready c.requires.session
    (handles_prompt c.args.server.now c.byte.new.server c.args.id c.args.key c.in-Ok.keyed c.in-Ok.ensures.0 c.requires.ready.taken) c.in-Ok.ensures.1)

pub returns-in-Ok-clause-types : goal.returns-in-Ok-clause-types
returns-in-Ok-clause-types g c =
    typed_key c.hand_over.result c.args.server.now c.byte.new.server c.hand_over.new.server c.args.label.now c.args.id c.args.key c.in-Ok.keyed c.args.clients.now c.end_if_quit.new.clients c.hand_over.new.clients
    (handles_prompt c.args.server.now c.byte.new.server c.args.id c.args.key c.in-Ok.keyed c.in-Ok.ensures.0 c.requires.ready.taken) c.end_if_quit.ensures c.hand_over.ensures.world c.hand_over.ensures.labels

use Rattle.std.proofs.Common.{sym, ◌∙◌}
use Rattle.mgs_replay.specs.Served.{player_of, session_in}
use Rattle.mgs_replay.proofs.Players.{types_nothing}
use Rattle.mgs_replay.proofs.player.type_one.Goals as goal

pub returns-in-None-clause-types : goal.returns-in-None-clause-types
returns-in-None-clause-types g c =
    types_nothing (session_in c.args.label.now c.args.clients.now) (player_of c.args.server.now c.args.clients.now) c.args.label.now c.args.key (sym c.session_of.ensures ∙ c.in-None.is)

use Rattle.mgs_replay.proofs.Players.{shows_run}
use Rattle.mgs_replay.proofs.player.run_line.Goals as goal

pub returns-in-Show-clause-runs : goal.returns-in-Show-clause-runs
returns-in-Show-clause-runs g c =
    rw c.in-Show.is (shows_run c.show_line.result c.args.server.now c.args.clients.now c.in-Show.label c.args.out.now.items c.show_line.new.out.items c.requires c.show_line.ensures)

use Rattle.std.proofs.Common.{[], Option, sym, subst}
use Rattle.mgs_script.specs.Lines.{Said, line_view}
use Rattle.mgs_replay.specs.Players.{setting}
use Rattle.mgs_replay.specs.Turns.{LineDoes}
use Rattle.mgs_replay.proofs.Setting.{set_does}
use Rattle.mgs_replay.proofs.lines.set_line.Goals as goal

pub returns-in-Ok-run : goal.returns-in-Ok-run
returns-in-Ok-run c =
    let w = c.args.setup.now in
    let v = c.run.new.self in
    subst (λ (o : Option Said). LineDoes o (setting w) (setting v) []) (sym c.in-Ok.ensures) (set_does w v (line_view c.in-Ok.line) c.in-Ok-run.ensures)

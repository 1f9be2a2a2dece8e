use Rattle.std.proofs.Common.{sym, ◌∙◌}
use Rattle.mgs_engine.proofs.Repaints.{still_redrawn}
use Rattle.mgs_engine.proofs.draw.redraw_at.Goals as goal

pub returns-else-may_differ-clause-redrawn : goal.returns-else-may_differ-clause-redrawn
returns-else-may_differ-clause-redrawn g c =
    still_redrawn c.args.core.now.world c.args.screen.now (c.requires.drawn (sym c.may_differ.ensures ∙ c.if-may_differ.false)) c.requires.on_time

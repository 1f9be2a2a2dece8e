use Rattle.std.proofs.Common.{ap, ◌∙◌}
use Rattle.mgs_engine.specs.declared.session_screen.Screen.{Screen}
use Rattle.mgs_engine.proofs.Repaints.{paint_repaint}
use Rattle.mgs_engine.proofs.draw.paint_changed.Goals as goal

pub returns-clause-repaint : goal.returns-clause-repaint
returns-clause-repaint c =
    paint_repaint c.args.screen.now c.show.new.screen c.repaint.ensures.0 (ap (λ (x : Screen). x.id) c.show.ensures) (ap (λ (x : Screen). x.shown) c.show.ensures)
    (ap (λ (x : Screen). x.queue) c.show.ensures ∙ c.repaint.ensures.1) c.repaint.ensures.2

use Rattle.std.proofs.Common.{ap, ◌∙◌}
use Rattle.mgs_engine.specs.declared.session_screen.Screen.{Screen}
use Rattle.mgs_engine.proofs.ScreenLemmas.{paint_room}
use Rattle.mgs_engine.proofs.Repaints.{paint_first}
use Rattle.mgs_engine.proofs.draw.paint_whole.Goals as goal

pub first-requires : goal.first-requires
first-requires c = paint_room c.args.screen.now c.rows.ensures.picture c.requires.taken

pub returns-clause-first : goal.returns-clause-first
returns-clause-first c =
    paint_first c.args.screen.now c.show.new.screen c.first.ensures.0 c.requires.taken (ap (λ (x : Screen). x.shown) c.show.ensures)
    (ap (λ (x : Screen). x.queue) c.show.ensures ∙ c.first.ensures.1) c.first.ensures.2

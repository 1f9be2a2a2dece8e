use Rattle.std.proofs.Common.{ap, ◌∙◌}
use Rattle.mgs_engine.specs.declared.session_screen.Screen.{Screen}
use Rattle.mgs_engine.specs.Screens.{shown_size}
use Rattle.mgs_engine.proofs.Repaints.{ahead_redrawn, ahead_screen}
use Rattle.mgs_engine.proofs.draw.redraw.Goals as goal

pub paint_in_time-requires : goal.paint_in_time-requires
paint_in_time-requires g c = record {
  screen = ahead_screen c.args.core.now.world c.args.screen.now c.draw_again-rows.new.screen c.draw_again-rows.result c.requires.known c.draw_again-rows.ensures.ahead c.requires.screen;
  apart = c.draw_again-rows.ensures.ahead.apart;
  on_time = ap (λ (x : Screen). x.late) c.draw_again-rows.ensures.ahead.same ∙ c.requires.on_time;
}

pub returns-clause-size : goal.returns-clause-size
returns-clause-size g c = c.paint_in_time.ensures.size ∙ ap shown_size c.draw_again-rows.ensures.ahead.same

pub returns-clause-redrawn : goal.returns-clause-redrawn
returns-clause-redrawn g c =
    ahead_redrawn c.args.core.now.world c.args.screen.now c.draw_again-rows.new.screen c.paint_in_time.new.screen c.draw_again-rows.result c.draw_again-rows.ensures.ahead c.paint_in_time.ensures.size
    c.paint_in_time.ensures.late c.paint_in_time.ensures.shown c.paint_in_time.ensures.next c.paint_in_time.ensures.texts c.paint_in_time.ensures.repaint c.paint_in_time.ensures.prompt

use Rattle.std.proofs.Common.{ap, ◌∙◌}
use Rattle.mgs_engine.specs.declared.session_screen.Screen.{Screen}
use Rattle.mgs_engine.specs.Screens.{shown_size}
use Rattle.mgs_engine.proofs.Repaints.{ahead_screen, ahead_drawn}
use Rattle.mgs_engine.proofs.draw.draw_first.Goals as goal

pub paint_whole-requires : goal.paint_whole-requires
paint_whole-requires g c = record {
  screen = ahead_screen c.args.core.now.world c.args.screen.now c.draw_next-rows.new.screen c.draw_next-rows.result c.requires.known c.draw_next-rows.ensures.ahead c.requires.screen;
  taken = ap (λ (x : Screen). x.queue) c.draw_next-rows.ensures.ahead.same ∙ c.requires.taken;
  apart = c.draw_next-rows.ensures.ahead.apart;
}

pub returns-clause-size : goal.returns-clause-size
returns-clause-size g c = c.paint_whole.ensures.size ∙ ap shown_size c.draw_next-rows.ensures.ahead.same

pub returns-clause-drawn : goal.returns-clause-drawn
returns-clause-drawn g c =
    ahead_drawn c.args.core.now.world c.args.screen.now c.draw_next-rows.new.screen c.paint_whole.new.screen c.draw_next-rows.result c.draw_next-rows.ensures.ahead
    c.paint_whole.ensures.size c.paint_whole.ensures.shown c.paint_whole.ensures.next c.paint_whole.ensures.texts

pub returns-clause-late : goal.returns-clause-late
returns-clause-late g c = c.paint_whole.ensures.late ∙ ap (λ (x : Screen). x.late) c.draw_next-rows.ensures.ahead.same

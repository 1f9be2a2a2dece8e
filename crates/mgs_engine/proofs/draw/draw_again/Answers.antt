use Rattle.std.proofs.Common.{sym, subst}
use Rattle.mgs_world.specs.Worlds.{sizes}
use Rattle.mgs_engine.specs.Screens.{IsKnown, texts_left}
use Rattle.mgs_engine.proofs.Repaints.{ahead_left, ready_left, screen_left}
use Rattle.mgs_engine.proofs.draw.draw_again.Goals as goal

pub draw_next-requires-clause-known : goal.draw_next-requires-clause-known
draw_next-requires-clause-known g c = subst (IsKnown (sizes c.args.core.now.world)) (sym c.forget.ensures) c.requires.known

pub draw_next-requires-clause-screen : goal.draw_next-requires-clause-screen
draw_next-requires-clause-screen g c =
    screen_left (texts_left c.args.touched.now c.args.screen.now.drawn_texts) c.args.screen.now c.forget.new.screen c.requires.screen c.forget.ensures

pub draw_next-requires-clause-ready : goal.draw_next-requires-clause-ready
draw_next-requires-clause-ready g c = ready_left c.args.core.now.world c.args.touched.now c.args.screen.now c.forget.new.screen c.requires.ready c.forget.ensures

pub returns-clause-ahead : goal.returns-clause-ahead
returns-clause-ahead g c =
    ahead_left c.args.core.now.world (texts_left c.args.touched.now c.args.screen.now.drawn_texts) c.args.screen.now c.forget.new.screen c.draw_next.new.screen c.draw_next.result c.forget.ensures c.draw_next.ensures.ahead

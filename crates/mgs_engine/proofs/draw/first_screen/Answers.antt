use Rattle.std.proofs.Common.{Some, sym, ap, ◌∙◌}
use Rattle.mgs_world.specs.declared.size.Size.{Size}
use Rattle.mgs_engine.proofs.Repaints.{ready_blank, same_size}
use Rattle.mgs_engine.proofs.draw.first_screen.Goals as goal

pub draw_first-requires-clause-known : goal.draw_first-requires-clause-known
draw_first-requires-clause-known g c =
    c.requires.known
    ∙ ap (λ (z : Size). Some z) (sym (same_size c.args.size.id c.args.size.rows c.args.size.cols _ _ c.in_ok-screen.ensures.rows c.in_ok-screen.ensures.cols))

pub draw_first-requires-clause-screen : goal.draw_first-requires-clause-screen
draw_first-requires-clause-screen g c = record { rows = c.in_ok-screen.ensures.screen.rows; cols = c.in_ok-screen.ensures.screen.cols }

pub draw_first-requires-clause-ready : goal.draw_first-requires-clause-ready
draw_first-requires-clause-ready g c = ready_blank c.args.core.now.world _ c.in_ok-screen.ensures.level c.in_ok-screen.ensures.untold

pub returns-clause-size : goal.returns-clause-size
returns-clause-size g c =
    c.draw_first.ensures.size
    ∙ same_size c.args.size.id c.args.size.rows c.args.size.cols _ _ c.in_ok-screen.ensures.rows c.in_ok-screen.ensures.cols

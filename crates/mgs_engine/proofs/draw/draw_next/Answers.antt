use Rattle.std.proofs.Common.{sym, ap, subst}
use Rattle.mgs_model.specs.Picture.{Picture}
use Rattle.mgs_grid.specs.RowSets.{AreSameApart}
use Rattle.mgs_screen.specs.TextsDrawn.{AreStanding}
use Rattle.mgs_engine.proofs.Repaints.{session_known}
use Rattle.mgs_engine.proofs.draw.draw_next.Goals as goal

pub redraw-requires-clause-open : goal.redraw-requires-clause-open
redraw-requires-clause-open g c = rw (c.requires.screen.rows, c.requires.screen.cols) c.requires.known

pub redraw-requires-clause-stands : goal.redraw-requires-clause-stands
redraw-requires-clause-stands g c =
    subst (λ (p : Picture). AreStanding c.args.core.now.world.buffers p c.args.screen.now.drawn_texts) (sym c.requires.ready.level) c.requires.ready.stands

pub returns-clause-ahead : goal.returns-clause-ahead
returns-clause-ahead g c =
    let s = session_known c.args.core.now.world c.args.screen.now c.requires.known in
    record {
      session = s.0;
      found = s.1;
      same = ap (λ (p : Picture). record c.args.screen.now { next = p; drawn_texts = c.redraw.new.drawn_texts }) (c.redraw.ensures.grid s.0 s.1);
      stands = c.redraw.ensures.stands;
      apart = subst (λ (p : Picture). AreSameApart c.redraw.result p.lines c.redraw.new.grid.lines) c.requires.ready.level c.redraw.ensures.apart;
    }

use Rattle.std.proofs.Common.{◌∙◌, sym, ap, subst, arith}
use Rattle.mgs_session.specs.declared.Session.{Session}
use Rattle.mgs_windows.specs.Panes.{WindowList}
use Rattle.mgs_world.specs.Worlds.{session_of}
use Rattle.mgs_arrange.specs.Arranging.{IsResized}
use Rattle.mgs_arrange.proofs.WindowsResized.{given_not, given_so, given_uses}
use Rattle.mgs_arrange.proofs.heights.give.Goals as goal

pub returns-then-height-rows-clause-given : goal.returns-then-height-rows-clause-given
returns-then-height-rows-clause-given c ks =
    ap (session_of ks) c.break_off.ensures
    ∙ given_not c.args.from c.args.to c.args.rows ks c.args.session.now c.requires.from (omega (arith, c.if-height-rows.true, c.height.ensures))

pub returns-clause-same : goal.returns-clause-same
returns-clause-same c =
    let x : Session = c.args.session.now in
    subst (λ (w : WindowList). IsResized x (record x { windows = w })) (sym c.give.ensures) (given_uses c.args.from c.args.to c.args.rows x)

pub returns-clause-given : goal.returns-clause-given
returns-clause-given c ks =
    let x : Session = c.args.session.now in
    ap (λ (w : WindowList). session_of ks (record x { windows = w })) c.give.ensures
    ∙ given_so c.args.from c.args.to c.args.rows ks x c.requires.from (omega (arith, c.if-height-rows.false, c.height.ensures))

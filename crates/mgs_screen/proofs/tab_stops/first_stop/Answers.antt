use Rattle.std.proofs.Common.{arith, subst}
use Rattle.std.specs.Prelude.{Option, IfSome}
use Rattle.mgs_screen.specs.TabStops.{IsTabStop}
use Rattle.mgs_screen.specs.declared.tab_stops.TabStop.{TabStop}
use Rattle.mgs_screen.proofs.TabStops.{known_before}
use Rattle.mgs_screen.proofs.tab_stops.first_stop.Goals as goal

pub returns : goal.returns
returns c = λ text is within known.
    known_before text c.args.start c.args.p c.in-Some.stop is within (omega (arith, c.if-stop-start.false)) (omega (arith, c.if-p-stop.false))
    (subst (λ (o : Option TabStop). IfSome o (IsTabStop text)) c.in-Some.is known)

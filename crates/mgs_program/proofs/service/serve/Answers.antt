use Rattle.mgs_program.proofs.Turning.{leads_next}
use Rattle.mgs_program.proofs.service.serve.Goals as goal

pub loop-preserved : goal.loop-preserved
loop-preserved g c = record { leads = leads_next g.T.TakesTurns.turns g.T.TakesTurns.fails _ _ _ c.loop.invariant.leads c.in-Ok.ensures.ok }

use Rattle.std.proofs.Common.{◌∙◌, sym}
use Rattle.mgs_core.proofs.Told.{started_quietly}
use Rattle.mgs_core.proofs.byte_acts.do_key_act.Goals as goal

pub returns-in-Some-clause-ok : goal.returns-in-Some-clause-ok
returns-in-Some-clause-ok g c id next place = started_quietly _ _ _ id c.args.done c.in-Some.direction (sym c.started_by.ensures ∙ c.in-Some.is) (λ n. c.start_search.ensures.world id next n place)

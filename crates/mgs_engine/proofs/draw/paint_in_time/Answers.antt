use Rattle.mgs_engine.proofs.Repaints.{marked_shown}
use Rattle.mgs_engine.proofs.draw.paint_in_time.Goals as goal

pub returns-then-is_past-clause-shown : goal.returns-then-is_past-clause-shown
returns-then-is_past-clause-shown c = marked_shown c.args.screen.now c.mark_late.new.screen c.mark_late.ensures

use Rattle.std.proofs.Common.{◌∙◌}
use Rattle.mgs_engine.proofs.Ends.{past}
use Rattle.mgs_engine.proofs.due.with_ended.Goals as goal

pub loop-id-preserved : goal.loop-id-preserved
loop-id-preserved c = record {
  above = λ h. c.lesser-least.ensures.above (c.loop-id.invariant.above h);
  before = λ x h. c.loop-id.invariant.before x (c.lesser-least.ensures.before x h);
  ended = λ x h b. c.loop-id.invariant.ended x h (c.lesser-least.ensures.before x b) ∙ past x c.loop-id.id-index c.args.ended.now _ c.loop-id-test.true (c.lesser-least.ensures.id x h b);
}

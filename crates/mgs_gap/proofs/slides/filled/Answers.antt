use Rattle.std.proofs.Common.{◌∙◌, arith}
use Rattle.mgs_gap.proofs.Runs.{fill_next}
use Rattle.mgs_gap.proofs.slides.filled.Goals as goal

pub loop-i-preserved : goal.loop-i-preserved
loop-i-preserved c =
    let less = c.loop-i-test.true in let put = c.args.put in
    record {
      at = c.write.ensures.0 ∙ c.loop-i.invariant.at;
      slots = c.write.ensures.1 ∙ fill_next c.args.cells.slots c.loop-i.cells.slots put.0 c.loop-i.i put.1.now c.index-chars-i.result (omega (arith, less, c.requires.room)) (omega (arith, less)) c.loop-i.invariant.slots c.index-chars-i.is;
    }

use Rattle.mgs_keep.specs.Sums.{summed}
use Rattle.mgs_keep.proofs.Sums.{piece_summed}
use Rattle.mgs_keep.proofs.kept_texts.text_sum.Goals as goal

pub loop-at-preserved : goal.loop-at-preserved
loop-at-preserved g c = record {
  within = c.piece-piece.ensures.within;
  made = piece_summed c.loop-at.sum c.piece_sum-sum.result (summed 0xcbf2_9ce4_8422_2325 (g.T.Text.text c.args.text.now)) c.loop-at.at (g.T.Text.text c.args.text.now) c.piece-piece.result.now c.piece-piece.ensures.piece c.piece_sum-sum.ensures c.loop-at.invariant.made;
}

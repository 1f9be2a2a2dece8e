use Rattle.std.specs.Prelude.{string_bytes}
use Rattle.mgs_keep.proofs.Bodies.{piece_more}
use Rattle.mgs_keep.proofs.kept_texts.body_of.Goals as goal

pub loop-at-preserved : goal.loop-at-preserved
loop-at-preserved g c = record {
  within = c.piece-piece.ensures.within;
  made = piece_more (string_bytes c.loop-at.body) (string_bytes c.push_piece.new.body) (g.T.Text.text c.args.text.now) c.piece-piece.result.now c.loop-at.at c.piece-piece.ensures.piece c.in_ok-push_piece.ensures c.loop-at.invariant.made;
}

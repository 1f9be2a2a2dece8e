use Rattle.std.specs.Prelude.{string_bytes}
use Rattle.mgs_keep.proofs.Bodies.{character_more}
use Rattle.mgs_keep.proofs.kept_texts.push_piece.Goals as goal

pub loop-i-preserved : goal.loop-i-preserved
loop-i-preserved c = character_more (string_bytes c.loop-i.body) (string_bytes c.push.new.self) _ c.args.piece.now c.loop-i.i c.index-piece-i.result c.loop-i-test.true c.index-piece-i.is c.in_ok-push.ensures.bytes c.loop-i.invariant

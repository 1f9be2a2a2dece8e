use Rattle.std.proofs.Common.{rules}
use Rattle.mgs_rewind.proofs.Pieces.{index_passed}
use Rattle.mgs_rewind.proofs.list_change.index_told.Goals as goal

pub loop-i-preserved : goal.loop-i-preserved
loop-i-preserved c = record {
  within = search rules;
  left =
      index_passed c.loop-i.i c.args.count c.args.text.now c.in_ok-is_number.field-0 _ (search rules) (search rules) (search rules) c.loop-i.invariant.left;
}

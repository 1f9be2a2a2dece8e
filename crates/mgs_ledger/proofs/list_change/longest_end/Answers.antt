use Rattle.std.proofs.Common.{rules}
use Rattle.mgs_ledger.proofs.ListEnds.{end_found, end_passed}
use Rattle.mgs_ledger.proofs.list_change.longest_end.Goals as goal

pub returns-then-are_alike-clause-count : goal.returns-then-are_alike-clause-count
returns-then-are_alike-clause-count c = end_found c.loop-count.count _ c.args.was.now c.args.is.now c.are_alike.result (search rules) (search rules) c.if-are_alike.true c.loop-count.invariant.left

pub loop-count-preserved : goal.loop-count-preserved
loop-count-preserved c = record {
  in_was = search rules;
  in_is = search rules;
  left = end_passed c.loop-count.count _ c.args.was.now c.args.is.now c.are_alike.result (search rules) (search rules) c.if-are_alike.false c.loop-count.invariant.left;
}

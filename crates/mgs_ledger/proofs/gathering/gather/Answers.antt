use Rattle.std.proofs.Common.{rules}
use Rattle.mgs_ledger.proofs.Counts.{is_gathered}
use Rattle.mgs_ledger.proofs.gathering.gather.Goals as goal

pub returns : goal.returns
returns c =
    is_gathered c.args.told.now c.args.at c.args.events.now.items c.count.new.events.items c.args.tally.now c.tally_row.new.tally c.has_row-is_equal.result c.has_all_rows-is_full.result c.tally_row.result
    (search rules) (search rules) (search rules) (search rules)

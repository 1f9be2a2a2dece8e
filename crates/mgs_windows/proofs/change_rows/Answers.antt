use Rattle.mgs_windows.proofs.Heights.{set_rows_set}
use Rattle.mgs_windows.proofs.change_rows.Goals as goal

pub returns : goal.returns
returns c = set_rows_set c.args.windows.now c.args.index c.index-windows-index.result c.index-windows-index.result c.args.rows

use Rattle.mgs_windows.proofs.Heights.{set_showing_rows}
use Rattle.mgs_windows.proofs.show_rows.Goals as goal

pub returns : goal.returns
returns c = set_showing_rows c.args.windows.now c.args.index c.index-windows-index.result c.args.rows

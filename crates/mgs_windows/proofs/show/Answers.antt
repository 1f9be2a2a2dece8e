use Rattle.mgs_windows.proofs.Heights.{set_showing}
use Rattle.mgs_windows.proofs.show.Goals as goal

pub returns : goal.returns
returns c = set_showing c.args.windows.now c.args.index c.index-windows-index.result c.index-windows-index.result c.args.window_marks

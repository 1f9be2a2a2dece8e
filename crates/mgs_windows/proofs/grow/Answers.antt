use Rattle.std.proofs.Common.{arith}
use Rattle.mgs_windows.proofs.Heights.{height_or, set_grown}
use Rattle.mgs_windows.proofs.grow.Goals as goal

-- src/lib.rt:71:5
pub overflow_add-windows : goal.overflow_add-windows
overflow_add-windows c = omega (arith, c.requires.most, height_or c.args.windows.now c.args.index c.index-windows-index.result c.requires.within)

-- src/lib.rt:65:1
pub returns : goal.returns
returns c = set_grown c.args.windows.now c.args.index c.index-windows-index.result c.index-windows-index-2.result c.index-windows-index-2.result c.args.rows

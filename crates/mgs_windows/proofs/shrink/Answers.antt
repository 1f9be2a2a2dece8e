use Rattle.std.proofs.Common.{arith}
use Rattle.mgs_windows.proofs.Heights.{height_or, set_shrunk}
use Rattle.mgs_windows.proofs.shrink.Goals as goal

-- src/lib.rt:81:5
pub overflow_sub-windows : goal.overflow_sub-windows
overflow_sub-windows c = omega (arith, c.requires.stays, height_or c.args.windows.now c.args.index c.index-windows-index.result c.requires.within)

-- src/lib.rt:75:1
pub returns : goal.returns
returns c = set_shrunk c.args.windows.now c.args.index c.index-windows-index.result c.index-windows-index-2.result c.index-windows-index-2.result c.args.rows

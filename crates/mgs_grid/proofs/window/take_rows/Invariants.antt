use Rattle.std.proofs.Common.{◌≡◌, take, drop}
use Rattle.mgs_grid.proofs.window.take_rows.Given as goal

abbrev pub invariant-loop-i : goal.invariant-loop-i
invariant-loop-i l = record {
  done : take l.i l.lines ≡ take l.i l.from;
  left : drop l.i l.lines ≡ drop l.i l.fn.lines;
}

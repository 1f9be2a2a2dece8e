use Rattle.std.proofs.Common.{◌≡◌, ◌++◌, ◌-◌}
use Rattle.mgs_replay.specs.Prints.{rows_text}
use Rattle.mgs_replay.proofs.print.print_rows.Given as goal

abbrev pub invariant-loop : goal.invariant-loop
invariant-loop l = l.out.items ++ rows_text (l.rows - l.counter) l.cols l.left ≡ l.fn.out.items ++ rows_text l.rows l.cols l.cells

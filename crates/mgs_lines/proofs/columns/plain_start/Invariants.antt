use Rattle.std.proofs.Common.{take, All}
use Rattle.mgs_model.specs.Cells.{IsPrintable}
use Rattle.mgs_lines.proofs.columns.plain_start.Given as goal

abbrev pub invariant-loop-i : goal.invariant-loop-i
invariant-loop-i l = record { plain : All IsPrintable (take l.i l.run) }

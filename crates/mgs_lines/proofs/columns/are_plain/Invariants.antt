use Rattle.std.proofs.Common.{◌≡◌, true, take, All}
use Rattle.mgs_model.specs.Cells.{IsPrintable}
use Rattle.mgs_lines.proofs.columns.are_plain.Given as goal

abbrev pub invariant-loop-c : goal.invariant-loop-c
invariant-loop-c l = record { plain : l.plain ≡ true → All IsPrintable (take l.c-index l.chars) }

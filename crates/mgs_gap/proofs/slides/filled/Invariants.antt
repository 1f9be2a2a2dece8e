use Rattle.std.proofs.Common.{◌≡◌}
use Rattle.mgs_gap.specs.Places.{written}
use Rattle.mgs_gap.proofs.slides.filled.Given as goal

abbrev pub invariant-loop-i : goal.invariant-loop-i
invariant-loop-i l = record {
  at : l.cells.at ≡ l.fn.cells.at;
  slots : l.cells.slots ≡ written l.fn.cells.slots l.to l.chars l.i;
}

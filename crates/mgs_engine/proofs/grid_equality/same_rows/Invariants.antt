use Rattle.std.proofs.Common.{◌≡◌, length, drop}
use Rattle.std.specs.Cmp.Lexicographic.{pointwise}
use Rattle.mgs_engine.specs.Slow.{same_row}
use Rattle.mgs_engine.proofs.grid_equality.same_rows.Given as goal

-- what is left decides
abbrev pub invariant-loop-i : goal.invariant-loop-i
invariant-loop-i l = record {
  count : length l.a ≡ length l.b;
  rest : pointwise same_row l.a l.b ≡ pointwise same_row (drop l.i l.a) (drop l.i l.b);
}

use Rattle.std.proofs.Common.{ℕ, arith}
use Rattle.std.proofs.lemmas.List.{set_past}
use Rattle.std.proofs.lemmas.Bool.Decides.{nat_tests}
use Rattle.mgs_grid.specs.Cells.{put}
use Rattle.mgs_grid.proofs.cells.put.Goals as goal

pub returns-then-column-shift-2 : goal.returns-then-column-shift-2
unfolding put
returns-then-column-shift-2 c = grind (arith, nat_tests)

pub returns-else-column-shift : goal.returns-else-column-shift
unfolding put
returns-else-column-shift c = grind (arith, nat_tests, set_past {X = ℕ})

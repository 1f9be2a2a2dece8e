use Rattle.std.proofs.Common.{◌≡◌, arith}
use Rattle.mgs_grid.proofs.Pictures.{blank_is}
use Rattle.mgs_grid.proofs.grid.Grid.new.Goals as goal

pub invariant_of-result : goal.invariant_of-result
invariant_of-result c =
    let all : c.loop.counter ≡ c.args.rows = omega arith in
    rw (c.loop.invariant, all) (blank_is c.args.rows c.args.cols c.requires)

use Rattle.std.proofs.Common.{◌≡◌}
use Rattle.mgs_config.specs.World.{paths_in, paths_of}
use Rattle.mgs_config.proofs.Firsts.{rows_before}
use Rattle.mgs_config.proofs.config.read_paths.Given as goal

-- the paths so far
abbrev pub invariant-loop-row : goal.invariant-loop-row
invariant-loop-row l = paths_of l.files.items ≡ paths_in (rows_before l.rows l.row-index)

use Rattle.std.proofs.Common.{◌≡◌}
use Rattle.mgs_config.specs.Buffers.{entries_in}
use Rattle.mgs_config.proofs.Firsts.{rows_before}
use Rattle.mgs_config.proofs.buffer_tables.read_list.Given as goal

-- the entries so far
abbrev pub invariant-loop-value : goal.invariant-loop-value
invariant-loop-value l = l.list ≡ entries_in (rows_before l.values l.value-index)

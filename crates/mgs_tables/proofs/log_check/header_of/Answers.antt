use Rattle.std.proofs.Common.{sym, ◌∙◌}
use Rattle.sqlite_wal.proofs.FormatLemmas.{part_front}
use Rattle.mgs_tables.proofs.log_check.header_of.Goals as goal

pub returns : goal.returns
returns c = c.copy_from_slice.ensures.after ∙ sym (part_front _ 32)

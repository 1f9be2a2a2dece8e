use Rattle.std.proofs.Common.{◌≡◌, [], None}
use Rattle.mgs_config.specs.Faults.{first_fault}
use Rattle.mgs_config.specs.Files.{AreBuffers, GivesNoMore, table_refused}
use Rattle.mgs_buffers.specs.MarkedBuffer.{AreUnmarked}
use Rattle.mgs_config.proofs.Firsts.{rows_before}
use Rattle.mgs_config.proofs.fill.read_buffers.Given as goal

-- the buffers so far, of tables without a fault
abbrev pub invariant-loop-before : goal.invariant-loop-before
invariant-loop-before g l = record {
  buffers : AreBuffers (g.F.Files.tells l.initial.files) (g.F.Files.gives l.initial.files) (rows_before l.rows l.before) l.buffers;
  unmarked : AreUnmarked l.buffers;
  same : g.F.Files.tells l.files ≡ g.F.Files.tells l.initial.files;
  kept : GivesNoMore (g.F.Files.gives l.files) (g.F.Files.gives l.initial.files);
  count : g.F.Files.count l.files ≡ g.F.Files.count l.initial.files;
  none : first_fault (table_refused (g.F.Files.tells l.initial.files) l.directory) [] (rows_before l.rows l.before) ≡ None;
}

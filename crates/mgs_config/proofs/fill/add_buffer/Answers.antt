use Rattle.std.proofs.Common.{length, sym}
use Rattle.toml.specs.View.{view}
use Rattle.mgs_buffers.specs.MarkedBuffer.{has_buffer}
use Rattle.mgs_config.specs.Buffers.{are_known, name_of}
use Rattle.mgs_config.proofs.Own.{own_counted}
use Rattle.mgs_config.proofs.fill.add_buffer.Goals as goal

pub returns-in-Some-clause-count : goal.returns-in-Some-clause-count
returns-in-Some-clause-count g c =
    own_counted (has_buffer (name_of (view c.args.row.now)) c.args.buffers.now) (are_known c.args.directory.now (view c.args.row.now)) (length c.args.buffers.now) (view c.args.row.now) c.in-Some.fault _
    (sym c.in-Some.ensures)

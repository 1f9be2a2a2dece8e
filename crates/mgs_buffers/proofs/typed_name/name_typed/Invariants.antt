use Rattle.std.proofs.Common.{◌≡◌}
use Rattle.mgs_buffers.specs.MarkedBuffer.{has_buffer}
use Rattle.mgs_buffers.specs.Contents.{marked_all}
use Rattle.mgs_buffers.proofs.typed_name.name_typed.Given as goal

-- one of those that are left has the name where one of all has it
abbrev pub invariant-loop-name : goal.invariant-loop-name
invariant-loop-name g l =
    has_buffer l.typed (marked_all g.T.Text.text g.T.Text.marks l.name-iterator) ≡ has_buffer l.typed (marked_all g.T.Text.text g.T.Text.marks l.fn.all.entries)

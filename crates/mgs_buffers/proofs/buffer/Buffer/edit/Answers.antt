use Rattle.std.proofs.Common.{sym, arith}
use Rattle.mgs_buffers.specs.Contents.{marked_of}
use Rattle.mgs_buffers.proofs.Edits.{nothing_edited}
use Rattle.mgs_buffers.proofs.buffer.Buffer.edit.Goals as goal

pub returns-then-is_empty-clause-ok : goal.returns-then-is_empty-clause-ok
returns-then-is_empty-clause-ok g c = λ name. sym (nothing_edited c.args.a c.args.b c.args.put.now (marked_of g.T.Text.text g.T.Text.marks name c.args.self.now) (omega (arith, c.if-a-b.true)) c.if-is_empty.ensures)

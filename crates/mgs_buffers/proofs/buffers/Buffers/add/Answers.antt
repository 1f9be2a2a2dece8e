use Rattle.std.proofs.Common.{refl, sym, subst}
use Rattle.mgs_buffers.specs.MarkedBuffer.{AreUnmarked, marked_new}
use Rattle.mgs_buffers.proofs.Unmarked.{unmarked_added}
use Rattle.mgs_buffers.proofs.buffers.Buffers.add.Goals as goal

pub returns-in-Ok-add_last-clause-unmarked : goal.returns-in-Ok-add_last-clause-unmarked
returns-in-Ok-add_last-clause-unmarked g c = λ none.
    subst AreUnmarked (sym c.in-Ok-add_last.ensures.ok) (unmarked_added c.args.self.now (marked_new c.in-Ok.names.0 c.in-Ok.names.1 c.args.list c.args.text.now c.args.has_file) refl none)

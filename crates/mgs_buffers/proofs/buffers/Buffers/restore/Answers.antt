use Rattle.std.proofs.Common.{refl, sym, subst}
use Rattle.mgs_buffers.specs.MarkedBuffer.{AreUnmarked, marked_restored}
use Rattle.mgs_buffers.proofs.Unmarked.{unmarked_added}
use Rattle.mgs_buffers.proofs.buffers.Buffers.restore.Goals as goal

pub returns-in-Ok-clause-unmarked : goal.returns-in-Ok-clause-unmarked
returns-in-Ok-clause-unmarked g c = λ none.
    subst AreUnmarked (sym c.in-Ok.ensures.ok) (unmarked_added c.args.self.now (marked_restored c.rights.inside.name.now c.rights.inside.owners.now c.copy.result c.args.text.now c.args.has_file c.args.modified) refl none)

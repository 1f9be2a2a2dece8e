use Rattle.std.proofs.Common.{ap}
use Rattle.mgs_buffers.specs.Found.{Named}
use Rattle.mgs_buffers.proofs.Finds.{found_kept}
use Rattle.mgs_buffers.proofs.found.Found.name.Goals as goal

pub returns-clause-value : goal.returns-clause-value
returns-clause-value g c = ap (λ (f : Named). f.name) c.self.view_is

pub returns-clause-kept : goal.returns-clause-kept
returns-clause-kept g c = found_kept g.T.Text.text g.T.Text.marks c.self.inside.name.now c.self.inside.buffers.now c.self.inside.place c.self.inside.buffer.now c.args.self.now c.self.invariant c.self.view_is

use Rattle.mgs_buffers.proofs.Finds.{found_at}
use Rattle.mgs_buffers.proofs.found.Found.place.Goals as goal

pub returns : goal.returns
returns g c = found_at g.T.Text.text g.T.Text.marks c.self.inside.name.now c.self.inside.buffers.now c.self.inside.place c.self.inside.buffer.now c.args.self.now c.self.invariant c.self.view_is

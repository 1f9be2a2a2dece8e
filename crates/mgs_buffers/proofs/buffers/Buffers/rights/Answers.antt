use Rattle.mgs_buffers.proofs.Judged.{rules_found, rules_none}
use Rattle.mgs_buffers.proofs.buffers.Buffers.rights.Goals as goal

pub returns-in-Some : goal.returns-in-Some
returns-in-Some g c = rules_found g.T.Text.text g.T.Text.marks c.self.inside.all.entries c.args.self.now c.args.i c.in-Some.name.now c.in-Some.buffer.now c.self.view_is c.in-Some.ensures.entry

pub returns-in-None : goal.returns-in-None
returns-in-None g c = rules_none g.T.Text.text g.T.Text.marks c.self.inside.all.entries c.args.self.now c.args.i c.self.view_is c.in-None.ensures.entry

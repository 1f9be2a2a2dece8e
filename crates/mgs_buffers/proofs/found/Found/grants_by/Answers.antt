use Rattle.std.proofs.Common.{ap, ◌∙◌}
use Rattle.mgs_model.specs.World.{may}
use Rattle.mgs_buffers.specs.Judging.{rules_kept}
use Rattle.mgs_buffers.specs.MarkedBuffer.{MarkedBuffer}
use Rattle.mgs_buffers.proofs.Finds.{found_is, found_ruled}
use Rattle.mgs_buffers.proofs.Judged.{right_there}
use Rattle.mgs_buffers.proofs.found.Found.grants_by.Goals as goal

pub grants_by-requires : goal.grants_by-requires
grants_by-requires g c =
    let s = c.self.inside in
    right_there s.place c.args.directory.now s.buffer.now.owners s.buffer.now.list (rules_kept c.args.self.now.all) c.args.judge.now c.requires
    (found_ruled g.T.Text.text g.T.Text.marks s.name.now s.buffers.now s.place s.buffer.now c.args.self.now c.self.invariant c.self.view_is)

pub returns-clause-value : goal.returns-clause-value
returns-clause-value g c =
    let s = c.self.inside in
    c.grants_by.ensures.value c.args.self.now.name
    ∙ ap (λ (k : MarkedBuffer). may c.args.directory.now c.args.user.now c.args.right k.buffer)
    (found_is g.T.Text.text g.T.Text.marks s.name.now s.buffers.now s.place s.buffer.now c.args.self.now c.self.invariant c.self.view_is)

pub returns-clause-judged : goal.returns-clause-judged
returns-clause-judged g c =
    let s = c.self.inside in
    c.grants_by.ensures.stays (rules_kept c.args.self.now.all) c.requires
    (found_ruled g.T.Text.text g.T.Text.marks s.name.now s.buffers.now s.place s.buffer.now c.args.self.now c.self.invariant c.self.view_is)

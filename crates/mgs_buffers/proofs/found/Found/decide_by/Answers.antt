use Rattle.std.proofs.Common.{ap, ◌∙◌}
use Rattle.std.specs.Prelude.{◌∷◌, []}
use Rattle.mgs_model.specs.Access.{decider, decision_by}
use Rattle.mgs_buffers.specs.Judging.{rules_kept}
use Rattle.mgs_buffers.specs.MarkedBuffer.{MarkedBuffer}
use Rattle.mgs_buffers.proofs.Finds.{found_is, found_ruled}
use Rattle.mgs_buffers.proofs.Judged.{right_there}
use Rattle.mgs_buffers.proofs.found.Found.decide_by.Goals as goal

pub decide_by-requires : goal.decide_by-requires
decide_by-requires g c =
    let s = c.self.inside in
    right_there s.place c.args.directory.now s.buffer.now.owners s.buffer.now.list (rules_kept c.args.self.now.all) c.args.judge.now c.requires
    (found_ruled g.T.Text.text g.T.Text.marks s.name.now s.buffers.now s.place s.buffer.now c.args.self.now c.self.invariant c.self.view_is)

pub returns-clause-value : goal.returns-clause-value
returns-clause-value g c =
    let s = c.self.inside in
    c.decide_by.ensures.value
    ∙ ap (λ (k : MarkedBuffer). decision_by (decider c.args.directory.now k.buffer.owners c.args.user.now k.buffer.entries) (c.args.right ∷ []))
    (found_is g.T.Text.text g.T.Text.marks s.name.now s.buffers.now s.place s.buffer.now c.args.self.now c.self.invariant c.self.view_is)

pub returns-clause-judged : goal.returns-clause-judged
returns-clause-judged g c =
    let s = c.self.inside in
    c.decide_by.ensures.stays (rules_kept c.args.self.now.all) c.requires
    (found_ruled g.T.Text.text g.T.Text.marks s.name.now s.buffers.now s.place s.buffer.now c.args.self.now c.self.invariant c.self.view_is)

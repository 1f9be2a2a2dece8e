use Rattle.std.proofs.Common.{sym, ◌∙◌}
use Rattle.mgs_buffers.specs.Judging.{rules_kept}
use Rattle.mgs_buffers.proofs.Judged.{right_there, ruled_at}
use Rattle.mgs_buffers.proofs.Told.{told_found, told_none}
use Rattle.mgs_buffers.proofs.buffers.Buffers.attributes.Goals as goal

pub told-requires : goal.told-requires
told-requires g c =
    right_there c.args.i c.args.directory.now c.in-Some.buffer.now.owners c.in-Some.buffer.now.list (rules_kept c.args.self.now) c.args.judge.now c.requires
    (ruled_at g.T.Text.text g.T.Text.marks c.self.inside.all.entries c.args.self.now c.args.i c.in-Some.name.now c.in-Some.buffer.now c.self.view_is (sym c.in-Some.ensures.entry))

pub returns-in-Some : goal.returns-in-Some
returns-in-Some g c = record {
  value = c.told.ensures.value ∙ told_found g.T.Text.text g.T.Text.marks c.args.directory.now c.args.user.now c.self.inside.all.entries c.args.self.now c.args.i c.in-Some.name.now c.in-Some.buffer.now c.self.view_is c.in-Some.ensures.entry;
  judged = c.told.ensures.stays (rules_kept c.args.self.now) c.requires
      (ruled_at g.T.Text.text g.T.Text.marks c.self.inside.all.entries c.args.self.now c.args.i c.in-Some.name.now c.in-Some.buffer.now c.self.view_is (sym c.in-Some.ensures.entry));
}

pub returns-in-None : goal.returns-in-None
returns-in-None g c = record {
  value = told_none g.T.Text.text g.T.Text.marks c.args.directory.now c.args.user.now c.self.inside.all.entries c.args.self.now c.args.i c.self.view_is c.in-None.ensures.entry;
  judged = c.requires;
}

use Rattle.std.proofs.Common.{List, sym}
use Rattle.mgs_buffers.specs.Contents.{marked_all, marked_of}
use Rattle.mgs_buffers.specs.MarkedBuffer.{MarkedBuffer}
use Rattle.mgs_buffers.specs.Judging.{rules_kept}
use Rattle.mgs_buffers.proofs.Judged.{right_there, ruled_at}
use Rattle.mgs_buffers.proofs.Completed.{found_more, found_past, marked_past, marked_there}
use Rattle.mgs_buffers.proofs.completion.with_place.Goals as goal
use Rattle.std.proofs.Common.{refl}

pub with_buffer-requires : goal.with_buffer-requires
with_buffer-requires g c =
    let ks : List MarkedBuffer = marked_all g.T.Text.text g.T.Text.marks c.args.all.now.entries in
    right_there c.args.place c.args.typed.directory.now c.in-Some.buffer.now.owners c.in-Some.buffer.now.list (rules_kept ks) c.args.judge.now c.requires
    (ruled_at g.T.Text.text g.T.Text.marks c.args.all.now.entries ks c.args.place c.in-Some.name.now c.in-Some.buffer.now refl (sym c.in-Some.ensures.entry))

pub returns-in-Some : goal.returns-in-Some
returns-in-Some g c =
    let ks : List MarkedBuffer = marked_all g.T.Text.text g.T.Text.marks c.args.all.now.entries in
    record {
      within = c.with_buffer.ensures.within;
      same = found_more c.args.typed.directory.now c.args.typed.user.now c.args.typed.input.now _ _ ks c.args.place (marked_of g.T.Text.text g.T.Text.marks c.in-Some.name.now c.in-Some.buffer.now)
          (marked_there g.T.Text.text g.T.Text.marks c.args.all.now.entries c.args.place c.in-Some.name.now c.in-Some.buffer.now (sym c.in-Some.ensures.entry)) c.with_buffer.ensures.value;
      judged = c.with_buffer.ensures.stays (rules_kept ks) c.requires
          (ruled_at g.T.Text.text g.T.Text.marks c.args.all.now.entries ks c.args.place c.in-Some.name.now c.in-Some.buffer.now refl (sym c.in-Some.ensures.entry));
    }

pub returns-in-None : goal.returns-in-None
returns-in-None g c = record {
  within = λ h. h;
  same = found_past c.args.typed.directory.now c.args.typed.user.now c.args.typed.input.now _ _ c.args.place (marked_past g.T.Text.text g.T.Text.marks c.args.all.now.entries c.args.place (sym c.in-None.ensures.entry));
  judged = c.requires;
}

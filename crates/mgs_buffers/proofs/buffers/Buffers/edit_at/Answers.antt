use Rattle.std.proofs.Common.{◌≡◌, ◌≤◌, false, sym, subst, length}
use Rattle.mgs_model.specs.Acts.{is_full}
use Rattle.mgs_buffers.specs.MarkedBuffer.{MarkedBuffer, AreWithinLimit, marked_edited}
use Rattle.mgs_buffers.proofs.MarkedLemmas.{kept-at_place, kept-written, kept-same, OnOk-map, OnErr-map}
use Rattle.mgs_buffers.proofs.Limits.{limit-edited, ended}
use Rattle.mgs_buffers.proofs.Places.{place_within, room_left}
use Rattle.mgs_buffers.proofs.buffers.Buffers.edit_at.Goals as goal

pub pair_mut-buffer-requires : goal.pair_mut-buffer-requires
pair_mut-buffer-requires g c = place_within g.T.Text.text g.T.Text.marks c.args.writer.name.now c.args.writer.at c.self.inside.all.entries c.args.self.now c.self.view_is c.requires.kept c.requires.place

pub edit_in_room-requires-clause-within : goal.edit_in_room-requires-clause-within
edit_in_room-requires-clause-within g c =
    let is = kept-at_place g.T.Text.text g.T.Text.marks c.args.writer.name.now c.self.inside.all.entries c.args.self.now c.args.writer.at _ c.pair_mut-buffer.result.1.now c.self.view_is c.requires.place c.pair_mut-buffer.ensures.value in
    subst (λ (k : MarkedBuffer). c.args.b ≤ length k.buffer.text) (sym is) c.requires.within

pub edit_in_room-requires-clause-room : goal.edit_in_room-requires-clause-room
edit_in_room-requires-clause-room g c =
    let is = kept-at_place g.T.Text.text g.T.Text.marks c.args.writer.name.now c.self.inside.all.entries c.args.self.now c.args.writer.at _ c.pair_mut-buffer.result.1.now c.self.view_is c.requires.place c.pair_mut-buffer.ensures.value in
    subst (λ (k : MarkedBuffer). is_full (length k.buffer.text) k.buffer.serial c.args.a c.args.b c.args.put.now ≡ false) (sym is) c.requires.room

pub returns-clause-ok : goal.returns-clause-ok
returns-clause-ok g c =
    OnOk-map c.edit_in_room.result
    (kept-written g.T.Text.text g.T.Text.marks c.args.writer.name.now (marked_edited c.args.a c.args.b c.args.put.now) c.self.inside.all.entries c.args.self.now c.args.writer.at _ c.pair_mut-buffer.result.1.now c.edit_in_room.new.self c.self.view_is c.requires.place c.pair_mut-buffer.ensures.value)
    c.edit_in_room.ensures.ok

pub returns-clause-err : goal.returns-clause-err
returns-clause-err g c =
    OnErr-map c.edit_in_room.result
    (kept-same g.T.Text.text g.T.Text.marks c.self.inside.all.entries c.args.self.now c.args.writer.at _ c.pair_mut-buffer.result.1.now c.edit_in_room.new.self c.self.view_is c.pair_mut-buffer.ensures.value)
    c.edit_in_room.ensures.err

pub invariant_of-self : goal.invariant_of-self
invariant_of-self g c =
    let old = subst AreWithinLimit c.self.view_is c.self.invariant in
    ended c.edit_in_room.result c.edit_in_room.ensures.ok c.edit_in_room.ensures.err
    (λ does. subst AreWithinLimit (sym (kept-written g.T.Text.text g.T.Text.marks c.args.writer.name.now (marked_edited c.args.a c.args.b c.args.put.now) c.self.inside.all.entries c.args.self.now c.args.writer.at _ c.pair_mut-buffer.result.1.now c.edit_in_room.new.self c.self.view_is c.requires.place c.pair_mut-buffer.ensures.value does))
    (limit-edited c.args.writer.name.now c.args.a c.args.b c.args.put.now c.args.self.now old c.requires.order c.requires.within (room_left _ _ c.args.a c.args.b c.args.put.now c.requires.order c.requires.within c.requires.edit c.requires.room)))
    (λ same. subst AreWithinLimit (sym (kept-same g.T.Text.text g.T.Text.marks c.self.inside.all.entries c.args.self.now c.args.writer.at _ c.pair_mut-buffer.result.1.now c.edit_in_room.new.self c.self.view_is c.pair_mut-buffer.ensures.value same)) old)

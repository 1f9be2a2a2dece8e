use Rattle.std.proofs.Common.{◌+◌, ◌≤◌, length, sym, ap, subst, arith}
use Rattle.mgs_model.proofs.Moved.{edited_name}
use Rattle.mgs_buffers.specs.MarkedBuffer.{MarkedBuffer, HasBuffer, marked_edited}
use Rattle.mgs_buffers.proofs.Changes.{marked_at-added, HasBuffer-added, IsMark-added, IsMark-edited, HasBuffer-changed}
use Rattle.mgs_tests.proofs.buffers.moved.Goals as goal

pub edit_as-requires-clause-kept : goal.edit_as-requires-clause-kept
edit_as-requires-clause-kept g c = HasBuffer-added _ _ _ _ _ c.requires.kept c.in_ok-id.ensures.ok

pub edit_as-requires-clause-serial : goal.edit_as-requires-clause-serial
edit_as-requires-clause-serial g c =
    omega (arith, ap (λ (k : MarkedBuffer). k.buffer.serial) (marked_at-added _ _ _ _ _ c.requires.kept c.in_ok-id.ensures.ok), c.requires.serial)

pub edit_as-requires-clause-room : goal.edit_as-requires-clause-room
edit_as-requires-clause-room g c =
    subst (λ (k : MarkedBuffer). length k.buffer.text + length c.args.put.now ≤ 1048576)
    (sym (marked_at-added _ _ _ _ _ c.requires.kept c.in_ok-id.ensures.ok)) c.requires.room

pub pos-now-requires-clause-kept : goal.pos-now-requires-clause-kept
pos-now-requires-clause-kept g c =
    subst (HasBuffer c.args.name.now) (sym c.in-Ok.ensures.ok)
    (HasBuffer-changed c.args.name.now (marked_edited 0 0 c.args.put.now) (λ k. edited_name 0 0 c.args.put.now k.buffer) c.add_mark.new.self (HasBuffer-added _ _ _ _ _ c.requires.kept c.in_ok-id.ensures.ok))

pub pos-now-requires-clause-mark : goal.pos-now-requires-clause-mark
pos-now-requires-clause-mark g c =
    IsMark-edited c.args.name.now c.in_ok-id.id 0 0 c.args.put.now c.add_mark.new.self c.edit_as.new.self
    (HasBuffer-added _ _ _ _ _ c.requires.kept c.in_ok-id.ensures.ok) (IsMark-added _ _ _ _ _ c.requires.kept c.in_ok-id.ensures.ok) c.in-Ok.ensures.ok

pub drop_mark-requires-clause-kept : goal.drop_mark-requires-clause-kept
drop_mark-requires-clause-kept g c =
    subst (HasBuffer c.args.name.now) (sym c.in-Ok.ensures.ok)
    (HasBuffer-changed c.args.name.now (marked_edited 0 0 c.args.put.now) (λ k. edited_name 0 0 c.args.put.now k.buffer) c.add_mark.new.self (HasBuffer-added _ _ _ _ _ c.requires.kept c.in_ok-id.ensures.ok))

pub drop_mark-requires-clause-mark : goal.drop_mark-requires-clause-mark
drop_mark-requires-clause-mark g c =
    IsMark-edited c.args.name.now c.in_ok-id.id 0 0 c.args.put.now c.add_mark.new.self c.edit_as.new.self
    (HasBuffer-added _ _ _ _ _ c.requires.kept c.in_ok-id.ensures.ok) (IsMark-added _ _ _ _ _ c.requires.kept c.in_ok-id.ensures.ok) c.in-Ok.ensures.ok

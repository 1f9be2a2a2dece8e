use Rattle.std.proofs.Common.{◌≤◌, length, refl, sym, subst}
use Rattle.mgs_buffers.specs.MarkedBuffer.{MarkedBuffer, HasBuffer, marked_placed}
use Rattle.mgs_buffers.proofs.Changes.{marked_at-added, HasBuffer-added, IsMark-added, IsMark-placed, HasBuffer-changed}
use Rattle.mgs_tests.proofs.buffers.placed.Goals as goal

pub place-requires-clause-kept : goal.place-requires-clause-kept
place-requires-clause-kept g c = HasBuffer-added _ _ _ _ _ c.requires.kept c.in_ok-id.ensures.ok

pub place-requires-clause-mark : goal.place-requires-clause-mark
place-requires-clause-mark g c = IsMark-added _ _ _ _ _ c.requires.kept c.in_ok-id.ensures.ok

pub place-requires-clause-within : goal.place-requires-clause-within
place-requires-clause-within g c =
    subst (λ (k : MarkedBuffer). c.args.q ≤ length k.buffer.text) (sym (marked_at-added _ _ _ _ _ c.requires.kept c.in_ok-id.ensures.ok)) c.requires.to

pub pos-requires-clause-kept : goal.pos-requires-clause-kept
pos-requires-clause-kept g c =
    subst (HasBuffer c.args.name.now) (sym c.place.ensures)
    (HasBuffer-changed c.args.name.now (marked_placed c.in_ok-id.id c.args.q) (λ k. refl) c.add_mark.new.self (HasBuffer-added _ _ _ _ _ c.requires.kept c.in_ok-id.ensures.ok))

pub pos-requires-clause-mark : goal.pos-requires-clause-mark
pos-requires-clause-mark g c =
    IsMark-placed c.args.name.now c.in_ok-id.id c.args.q c.add_mark.new.self c.place.new.self
    (HasBuffer-added _ _ _ _ _ c.requires.kept c.in_ok-id.ensures.ok) (IsMark-added _ _ _ _ _ c.requires.kept c.in_ok-id.ensures.ok) c.place.ensures

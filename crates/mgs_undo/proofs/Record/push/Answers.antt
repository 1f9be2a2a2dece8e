use Rattle.std.proofs.Common.{◌+◌, ◌-◌, ap, ◌∙◌}
use Rattle.std.specs.Option.{option_map}
use Rattle.circular_buffer.specs.Buffer.{Buffer}
use Rattle.mgs_undo.specs.declared.Edit.{Edit}
use Rattle.mgs_undo.specs.Numbered.{item_of, numbered}
use Rattle.mgs_undo.proofs.NumberedLemmas.{history, pushed, oldest}
use Rattle.mgs_undo.proofs.UndoingLemmas.{recorded}
use Rattle.mgs_undo.proofs.Record.push.Goals as goal

pub returns-clause-kept : goal.returns-clause-kept
returns-clause-kept c =
    ap (λ (b : Buffer Edit). history (numbered (c.self.inside.serial + 1) b.items) (c.self.inside.serial + 1)) c.push_front.ensures.items
    ∙ pushed c.self.inside.serial c.self.inside.edits.capacity c.args.edit c.self.inside.edits.items c.args.self.now c.self.invariant.capacity c.self.view_is

pub returns-clause-buffer : goal.returns-clause-buffer
returns-clause-buffer c = λ x a b put shown same edit.
    (ap (λ (k : Buffer Edit). history (numbered (c.self.inside.serial + 1) k.items) (c.self.inside.serial + 1)) c.push_front.ensures.items
    ∙ pushed c.self.inside.serial c.self.inside.edits.capacity c.args.edit c.self.inside.edits.items c.args.self.now c.self.invariant.capacity c.self.view_is)
    ∙ recorded c.args.self.now c.args.edit x a b put shown same edit

pub returns-clause-oldest : goal.returns-clause-oldest
returns-clause-oldest c =
    ap (option_map (item_of (c.args.self.now.serial - 999))) c.push_front.ensures.value
    ∙ oldest c.self.inside.serial c.self.inside.edits.capacity c.args.edit c.self.inside.edits.items c.args.self.now c.self.invariant.capacity c.self.view_is

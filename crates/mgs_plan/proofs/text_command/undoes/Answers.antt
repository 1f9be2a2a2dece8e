use Rattle.std.proofs.Common.{◌≡◌, ℕ, List, length, Option, Some, sym, ap, subst, ◌∙◌}
use Rattle.std.specs.Prelude.{find}
use Rattle.mgs_model.specs.Plans as plans
use Rattle.mgs_model.specs.Plans.{undo as model_undo, undo_target, undone}
use Rattle.mgs_model.specs.World.{Item}
use Rattle.mgs_undo.specs.History.{has_serial}
use Rattle.mgs_undo.specs.Numbered.{item_of}
use Rattle.mgs_buffers.specs.MarkedBuffer.{marked_at}
use Rattle.mgs_edit.specs.Reading.{undoing}
use Rattle.mgs_plan.specs.Actions.{CanDo, action_outcome, edit_outcome}
use Rattle.mgs_model.specs.declared.echo_text.Message.TheVariants.{Says}
use Rattle.mgs_model.specs.declared.echo_text.Notice.TheVariants.{NoFurtherUndo}
use Rattle.mgs_plan.specs.declared.action.Action.TheVariants.{Fails}
use Rattle.mgs_plan.proofs.Plans.{at_buffer}
use Rattle.mgs_plan.proofs.text_command.undoes.Goals as goal

pub returns-in-None-clause-value : goal.returns-in-None-clause-value
returns-in-None-clause-value g c = λ state kill rest.
    let b = (marked_at c.args.found.now.name c.args.found.now.all).buffer in
    let name = c.name-name.result.now in
    let known : plans.Around = record rest { size = length b.text } in
    let target = c.undo_target-target.ensures known ∙ ap (λ n. undo_target (undoing c.args.kind name n known)) c.serial-serial.ensures in
    subst (λ (m : List ℕ). action_outcome state m b.text b.items kill (Fails (Says NoFurtherUndo)) ≡ edit_outcome state m (length b.text) b.serial (model_undo b.items (undoing c.args.kind m b.serial known))) c.name-name.ensures.value
    (ap (λ (o : Option Item). edit_outcome state name (length b.text) b.serial (undone (undoing c.args.kind name b.serial known) o))
    (c.in-None.ensures ∙ ap (λ n. find (has_serial n) b.items) target))

pub returns-in-Some-clause-value : goal.returns-in-Some-clause-value
returns-in-Some-clause-value g c = λ state kill rest.
    let b = (marked_at c.args.found.now.name c.args.found.now.all).buffer in
    let name = c.name-name.result.now in
    let known : plans.Around = record rest { size = length b.text } in
    let found = c.in-Some.ensures in
    let item = item_of c.undo_target-target.result c.in-Some.edit.now in
    let target = c.undo_target-target.ensures known ∙ ap (λ n. undo_target (undoing c.args.kind name n known)) c.serial-serial.ensures in
    subst (λ (m : List ℕ). action_outcome state m b.text b.items kill c.takes_back.result ≡ edit_outcome state m (length b.text) b.serial (model_undo b.items (undoing c.args.kind m b.serial known))) c.name-name.ensures.value
    (at_buffer (λ t n. action_outcome state name t b.items kill c.takes_back.result ≡ edit_outcome state name (length t) n (undone (undoing c.args.kind name n (record rest { size = length t })) (Some item)))
    (g.T.Text.text c.text.result.now) b.text c.serial-serial.result b.serial c.text.ensures.text c.serial-serial.ensures
    (c.takes_back.ensures.value state b.items kill c.args.kind rest (sym found))
    ∙ ap (λ (o : Option Item). edit_outcome state name (length b.text) b.serial (undone (undoing c.args.kind name b.serial known) o))
    (found ∙ ap (λ n. find (has_serial n) b.items) target))

pub returns-in-Some-clause-can : goal.returns-in-Some-clause-can
returns-in-Some-clause-can g c = λ kill.
    let b = (marked_at c.args.found.now.name c.args.found.now.all).buffer in
    at_buffer (λ t n. CanDo t b.items kill n c.takes_back.result)
    (g.T.Text.text c.text.result.now) b.text c.serial-serial.result b.serial c.text.ensures.text c.serial-serial.ensures
    (c.takes_back.ensures.can b.items kill (sym (c.in-Some.ensures)))

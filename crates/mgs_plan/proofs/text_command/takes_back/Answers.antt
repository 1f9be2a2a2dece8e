use Rattle.std.proofs.Common.{◌≡◌, ℕ, List, length, Some, find, sym, ap, ◌∙◌}
use Rattle.std.proofs.lemmas.Bool.{ne_eqb}
use Rattle.std.specs.Prelude.{Bool, Ok, Err, if◌then◌else◌}
use Rattle.mgs_model.specs.Plans as plans
use Rattle.mgs_model.specs.Plans.{taken_back}
use Rattle.mgs_model.specs.World.{Item}
use Rattle.mgs_model.specs.declared.echo_text.Message.TheVariants.{Says}
use Rattle.mgs_model.specs.declared.echo_text.Notice.TheVariants.{BufferFull}
use Rattle.mgs_undo.specs.History.{has_serial}
use Rattle.mgs_undo.specs.Numbered.{item_of}
use Rattle.mgs_edit.specs.Reading.{undoing, undone_read}
use Rattle.mgs_plan.specs.Actions.{edit_outcome, removed_by, removed_or_none}
use Rattle.mgs_plan.proofs.text_command.takes_back.Goals as goal

-- what comes back is what the edit took out
returned : (serial target : ℕ) (items : List Item) (item : Item) → serial ≡ target → find (has_serial target) items ≡ Some item → removed_by serial items ≡ item.removed
returned serial target items item same found = ap (λ n. removed_by n items) same ∙ ap removed_or_none found

pub returns-clause-value : goal.returns-clause-value
returns-clause-value g c = λ state items kill kind rest found.
    let text = g.T.Text.text c.args.text.now in
    let name = c.args.name.now in
    let u = c.undo.result in
    let item = item_of c.args.target c.args.edit.now in
    let back = returned u.serial c.args.target items item c.undo.ensures.serial found in
    let len : length (removed_by u.serial items) ≡ u.len = ap (λ (t : List ℕ). length t) back ∙ sym c.undo.ensures.len in
    let said : plans.Change → _ = λ change. edit_outcome state name (length text) c.args.serial (Ok change) in
    c.undoes_so.ensures.value state name items kill len
    ∙ ap (λ (t : List ℕ). said (undone_read text kill t u)) back
    ∙ ap said (c.undo.ensures.plan text kill kind rest)
    ∙ ap (λ (n : ℕ). said (taken_back (undoing kind name c.args.serial (record rest { size = n })) item)) c.len.ensures.value
    ∙ sym (ap (λ (full : Bool). edit_outcome state name (length text) c.args.serial (if full then Err (Says BufferFull) else Ok (taken_back (undoing kind name c.args.serial (record rest { size = length text })) item))) (ne_eqb c.args.serial 18446744073709551615 c.if-serial-eq18446744073709551615.false))

pub returns-clause-can : goal.returns-clause-can
returns-clause-can g c = λ items kill found.
    let u = c.undo.result in
    let item = item_of c.args.target c.args.edit.now in
    let back = returned u.serial c.args.target items item c.undo.ensures.serial found in
    c.undoes_so.ensures.can items kill (ap (λ (t : List ℕ). length t) back ∙ sym c.undo.ensures.len) c.undo.ensures.finish

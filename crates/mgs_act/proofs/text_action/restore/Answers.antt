use Rattle.std.proofs.Common.{◌≡◌, ℕ, ◌+◌, ◌-◌, ◌≤◌, ◌&&◌, ◌||◌, nat_lt, ◌==◌, Bool, true, false, cond, List, [], length, refl, sym, ap, subst, ◌∙◌, arith, ltb-false}
use Rattle.mgs_model.specs.Acts.{is_full}
use Rattle.mgs_model.specs.Text.{is_edit}
use Rattle.mgs_model.specs.Apply.{change_first}
use Rattle.mgs_buffers.specs.MarkedBuffer.{marked_at, marked_edited, marked_named}
use Rattle.mgs_plan.specs.Actions.{removed_by}
use Rattle.mgs_plan.proofs.Leaving.{no_edit}
use Rattle.mgs_world.proofs.WindowMarks.{when_err}
use Rattle.mgs_act.proofs.text_action.restore.Goals as goal

not_long : (edits long last : Bool) → edits ≡ true → (edits && (long || last)) ≡ false → long ≡ false
not_long true true last e r = cc
not_long true false last e r = refl
not_long false long last e r = cc

-- an edit that has room makes a text within the limit
has_room : (size serial a b : ℕ) (put : List ℕ) → is_edit a b put ≡ true → is_full size serial a b put ≡ false → size - (b - a) + length put ≤ 1048576
has_room size serial a b put e r =
    ltb-false 1048576 (size - (b - a) + length put) (not_long (is_edit a b put) (nat_lt 1048576 (size - (b - a) + length put)) (serial == 18446744073709551615) e r)

pub returns-then-not-is_undo_an_edit-clause-ok : goal.returns-then-not-is_undo_an_edit-clause-ok
returns-then-not-is_undo_an_edit-clause-ok g c = λ kill.
    let u = c.args.undone.now in
    let ks = c.args.buffers.now in
    let removed = removed_by u.serial (marked_at c.args.writer.name.now ks).buffer.items in
    let edited = change_first (marked_named c.args.writer.name.now) (marked_edited u.from (u.from + u.gone) removed) ks in
    sym (ap (λ (e : Bool). cond e edited ks) (sym (c.is_undo_an_edit.ensures removed (c.requires.can []).len) ∙ c.if-not-is_undo_an_edit.true))

pub returns-then-not-is_undo_an_edit-clause-end : goal.returns-then-not-is_undo_an_edit-clause-end
returns-then-not-is_undo_an_edit-clause-end g c =
    let u = c.args.undone.now in
    let removed = removed_by u.serial (marked_at c.args.writer.name.now c.args.buffers.now).buffer.items in
    omega (arith, (no_edit u.from (u.from + u.gone) removed (sym (c.is_undo_an_edit.ensures removed (c.requires.can []).len) ∙ c.if-not-is_undo_an_edit.true)).1)

pub returns-in_err-back-clause-may : goal.returns-in_err-back-clause-may
returns-in_err-back-clause-may g c =
    let removed = removed_by c.args.undone.now.serial (marked_at c.args.writer.name.now c.args.buffers.now).buffer.items in
    when_err _ (sym (c.is_undo_an_edit.ensures removed (c.requires.can []).len) ∙ c.if-not-is_undo_an_edit.false)

pub overflow_add-to : goal.overflow_add-to
overflow_add-to g c = omega (arith, (c.requires.can []).within)

pub edit_at-requires-clause-within : goal.edit_at-requires-clause-within
edit_at-requires-clause-within g c = (c.requires.can []).within

pub edit_at-requires-clause-edit : goal.edit_at-requires-clause-edit
edit_at-requires-clause-edit g c =
    let u = c.args.undone.now in
    let removed = removed_by u.serial (marked_at c.args.writer.name.now c.args.buffers.now).buffer.items in
    subst (λ (put : List ℕ). is_edit u.from (u.from + u.gone) put ≡ true) (sym (c.deref.ensures.value ∙ c.in_ok-back.ensures)) (sym (c.is_undo_an_edit.ensures removed (c.requires.can []).len) ∙ c.if-not-is_undo_an_edit.false)

pub edit_at-requires-clause-room : goal.edit_at-requires-clause-room
edit_at-requires-clause-room g c =
    let u = c.args.undone.now in
    let b = (marked_at c.args.writer.name.now c.args.buffers.now).buffer in
    subst (λ (put : List ℕ). is_full (length b.text) b.serial u.from (u.from + u.gone) put ≡ false) (sym (c.deref.ensures.value ∙ c.in_ok-back.ensures)) (c.requires.can []).room

pub returns-in_err-edit_at-clause-may : goal.returns-in_err-edit_at-clause-may
returns-in_err-edit_at-clause-may g c =
    let removed = removed_by c.args.undone.now.serial (marked_at c.args.writer.name.now c.args.buffers.now).buffer.items in
    when_err _ (sym (c.is_undo_an_edit.ensures removed (c.requires.can []).len) ∙ c.if-not-is_undo_an_edit.false)

pub overflow_add-result : goal.overflow_add-result
overflow_add-result g c =
    let u = c.args.undone.now in
    let b = (marked_at c.args.writer.name.now c.args.buffers.now).buffer in
    let removed = removed_by u.serial b.items in
    let room = has_room (length b.text) b.serial u.from (u.from + u.gone) removed (sym (c.is_undo_an_edit.ensures removed (c.requires.can []).len) ∙ c.if-not-is_undo_an_edit.false) (c.requires.can []).room in
    omega (arith, room, (c.requires.can []).within, ap (λ (chars : List ℕ). length chars) c.in_ok-back.ensures)

-- what was taken out then comes back
pub returns-clause-ok : goal.returns-clause-ok
returns-clause-ok g c = λ kill.
    let u = c.args.undone.now in
    let ks = c.args.buffers.now in
    let removed = removed_by u.serial (marked_at c.args.writer.name.now ks).buffer.items in
    let edited = λ (put : List ℕ). change_first (marked_named c.args.writer.name.now) (marked_edited u.from (u.from + u.gone) put) ks in
    c.in_ok-edit_at.ensures.ok
    ∙ ap edited (c.deref.ensures.value ∙ c.in_ok-back.ensures)
    ∙ sym (ap (λ (e : Bool). cond e (edited removed) ks) (sym (c.is_undo_an_edit.ensures removed (c.requires.can []).len) ∙ c.if-not-is_undo_an_edit.false))

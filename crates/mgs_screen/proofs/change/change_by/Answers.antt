use Rattle.std.proofs.Common.{◌+◌, ◌-◌, ◌≤◌, ℕ, List, sym, ap, subst, ◌∙◌, arith, length}
use Rattle.std.specs.List.{count_by}
use Rattle.mgs_model.specs.Lines.{is_feed}
use Rattle.mgs_screen.specs.Changes.{IsLineEdited}
use Rattle.mgs_screen.proofs.Changes.{line_mono, edited_line, shown_moved}
use Rattle.mgs_screen.proofs.change.change_by.Goals as goal

pub overflow_sub-result : goal.overflow_sub-result
overflow_sub-result g c =
    let text : List ℕ = g.T.Text.text c.args.text.now in
    let within = c.fits.ensures.within c.if-not-fits.false in
    omega (arith, line_mono text c.args.start c.args.edit.now.at c.if-edit-start.false (omega (arith, within, c.len-len.ensures.value)), c.requires, c.line_of-line.ensures)

pub returns-then-lies_before : goal.returns-then-lies_before
returns-then-lies_before g c = λ old new serial e item came count.
    let text : List ℕ = g.T.Text.text c.args.text.now in
    let within : c.args.edit.now.at + c.args.edit.now.added ≤ length text = omega (arith, c.fits.ensures.within c.if-not-fits.false, c.len-len.ensures.value) in
    shown_moved old new e serial c.args.edit.now text c.args.from c.args.start c.args.size item came count within
    (omega (arith, c.fits.ensures.sizes c.if-not-fits.false, c.len-len.ensures.value, c.len-removed.ensures))
    (omega (arith, c.lies_before.ensures.old c.if-lies_before.true, c.len-removed.ensures))
    (omega (arith, c.lies_before.ensures.new c.if-lies_before.true, c.len-removed.ensures))

pub returns : goal.returns
returns g c = λ old new serial e item came count.
    let text : List ℕ = g.T.Text.text c.args.text.now in
    let at : ℕ = c.args.edit.now.at in
    let line : ℕ = c.line_of-line.result in
    let down : ℕ = line - c.args.above in
    let within : at + c.args.edit.now.added ≤ length text = omega (arith, c.fits.ensures.within c.if-not-fits.false, c.len-len.ensures.value) in
    subst (λ (n : ℕ). IsLineEdited down n c.args.start old.text text) (sym c.if-from-start.false) (
    edited_line old new e serial c.args.edit.now text c.args.start c.args.above line c.args.size item came count within
    (omega (arith, c.fits.ensures.sizes c.if-not-fits.false, c.len-len.ensures.value, c.len-removed.ensures)) c.if-edit-start.false
    (ap (count_by is_feed) (sym c.deref.ensures.value) ∙ c.is_in_line.ensures c.if-not-is_in_line.false)
    c.line_of-line.ensures (sym c.line_of.ensures ∙ c.if-line_of-line.false) c.requires)

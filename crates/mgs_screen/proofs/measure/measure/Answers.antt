use Rattle.std.proofs.Common.{◌≡◌, ℕ, List, length, sym, ap, subst, ◌∙◌}
use Rattle.std.specs.Prelude.{slice_range}
use Rattle.mgs_model.specs.Cells.{cells}
use Rattle.mgs_model.specs.Lines.{column, line_of, line_start, start_of}
use Rattle.mgs_marks.specs.Marks.{or_zero, position_in}
use Rattle.mgs_lines.proofs.Feeds.{start_of_line, line_of_start}
use Rattle.mgs_screen.specs.Screens.{IsMeasured}
use Rattle.mgs_screen.proofs.Drawings.{measured}
use Rattle.mgs_screen.proofs.TabStops.{line_begins, stop_on}
use Rattle.mgs_screen.proofs.measure.measure.Goals as goal

pub returns-clause-is : goal.returns-clause-is
returns-clause-is g c =
    let text : List ℕ = g.T.Text.text c.args.text.now in
    let point : ℕ = c.pos-point.result in
    let top : ℕ = c.pos-top.result in
    let line : ℕ = c.line_of-line.result in
    let above : ℕ = c.line_of-above.result in
    let row : ℕ = c.saturating_sub.result in
    let place : ℕ = c.cells_to-column.result in
    let start : ℕ = c.start_of.result in
    let from : start ≡ line_start text top = c.start_of.ensures.value ∙ ap (λ (n : ℕ). start_of n text) c.line_of-above.ensures ∙ start_of_line text top c.pos-top.ensures.within in
    let here : c.start_of-line_start.result ≡ line_start text point = line_begins text c.line_of-line.result c.start_of-line_start.result point c.start_of-line_start.ensures.value c.line_of-line.ensures c.pos-point.ensures.within in
    let counted : place ≡ column text point = c.cells_to-column.ensures.value ∙ ap (λ (n : ℕ). length (cells (slice_range text n point))) here in
    let is : IsMeasured text point top line row place start = measured text point top line above row place start c.line_of-line.ensures c.line_of-above.ensures c.saturating_sub.ensures counted from in
    let marks = g.T.Text.marks c.args.text.now in
    subst (λ (n : ℕ). IsMeasured text (position_in marks c.args.window_marks.now.point) n line row place start) (sym (ap or_zero c.pos-top.ensures.value)) (
    subst (λ (n : ℕ). IsMeasured text n top line row place start) (sym (ap or_zero c.pos-point.ensures.value)) is)

pub returns-clause-top : goal.returns-clause-top
returns-clause-top g c =
    let text : List ℕ = g.T.Text.text c.args.text.now in
    let top : ℕ = c.pos-top.result in
    let from : c.start_of.result ≡ line_start text top = c.start_of.ensures.value ∙ ap (λ (n : ℕ). start_of n text) c.line_of-above.ensures ∙ start_of_line text top c.pos-top.ensures.within in
    record {
      within = c.start_of.ensures.within;
      number = ap (line_of text) from ∙ line_of_start text top c.pos-top.ensures.within ∙ sym c.line_of-above.ensures;
      begins = sym c.start_of.ensures.value;
    }

pub near_stop-stop-requires-clause-stop : goal.near_stop-stop-requires-clause-stop
near_stop-stop-requires-clause-stop g c =
    let text : List ℕ = g.T.Text.text c.args.text.now in
    let point : ℕ = c.pos-point.result in
    let here : c.start_of-line_start.result ≡ line_start text point = line_begins text c.line_of-line.result c.start_of-line_start.result point c.start_of-line_start.ensures.value c.line_of-line.ensures c.pos-point.ensures.within in
    c.first_stop-first.ensures text here c.pos-point.ensures.within c.requires.known

pub returns-clause-stop : goal.returns-clause-stop
returns-clause-stop g c =
    let text : List ℕ = g.T.Text.text c.args.text.now in
    let point : ℕ = c.pos-point.result in
    let here : c.start_of-line_start.result ≡ line_start text point = line_begins text c.line_of-line.result c.start_of-line_start.result point c.start_of-line_start.ensures.value c.line_of-line.ensures c.pos-point.ensures.within in
    stop_on text c.start_of-line_start.result point c.near_stop-stop.result here c.near_stop-stop.ensures

use Rattle.std.proofs.Common.{◌∙◌, List, ap}
use Rattle.mgs_model.specs.Rows.{Row}
use Rattle.mgs_model.specs.Picture.{Picture}
use Rattle.mgs_grid.proofs.Panes.{text_by_row}
use Rattle.mgs_grid.proofs.grid.Grid.draw_text_row.Goals as goal

pub returns-clause-pane : goal.returns-clause-pane
returns-clause-pane g c = λ i pane is.
    let p : Picture = c.args.self.now in
    c.draw_line.ensures ∙ ap (λ (ls : List Row). record p { lines = ls }) (text_by_row i c.args.at c.args.start c.args.shift pane (g.T.Text.text c.args.text.now) p c.rows.ensures.picture.count is)

use Rattle.std.proofs.Common.{ℕ, Bool, List, sym, ap, ◌∙◌}
use Rattle.mgs_model.specs.Access.{Directory}
use Rattle.mgs_model.specs.Draw.{pane_rows}
use Rattle.mgs_model.specs.Picture.{Picture}
use Rattle.mgs_model.specs.Seen.{Pane}
use Rattle.mgs_grid.specs.Panes.{with_rows}
use Rattle.mgs_buffers.specs.MarkedBuffer.{MarkedBuffer}
use Rattle.mgs_windows.specs.declared.RowPane.{RowPane}
use Rattle.mgs_screen.specs.Listings.{rows_to}
use Rattle.mgs_screen.proofs.RowPanes.{entries_gone}
use Rattle.mgs_screen.proofs.list_rows.draw_rows.Goals as goal

-- what is drawn of these rows
abbrev rows_drawn : Directory → List ℕ → List MarkedBuffer → ℕ → ℕ → Bool → Picture → RowPane → Picture
rows_drawn d user ks first height selected p rows = with_rows first (pane_rows selected p.cols height (rows_to d user ks rows)) p

pub returns-in-NoRows-clause-grid : goal.returns-in-NoRows-clause-grid
returns-in-NoRows-clause-grid g c = λ selected.
    c.draw_none.ensures selected
    ∙ sym (ap (rows_drawn c.args.viewer.now.directory.now c.args.viewer.now.user.now c.args.buffers.now c.args.first c.args.window.now.height selected c.args.grid.now) c.in-NoRows.is)

pub returns-in-Buffers-clause-grid : goal.returns-in-Buffers-clause-grid
returns-in-Buffers-clause-grid g c = λ selected.
    c.draw_listing.ensures.grid selected
    ∙ sym (ap (rows_drawn c.args.viewer.now.directory.now c.args.viewer.now.user.now c.args.buffers.now c.args.first c.args.window.now.height selected c.args.grid.now) c.in-Buffers.is)

pub returns-else-has-clause-grid : goal.returns-else-has-clause-grid
returns-else-has-clause-grid g c = λ selected.
    let p : Picture = c.args.grid.now in
    c.draw_none-else-has.ensures selected
    ∙ ap (λ (pane : Pane). with_rows c.args.first (pane_rows selected p.cols c.args.window.now.height pane) p) (sym (entries_gone c.args.viewer.now.directory.now c.args.viewer.now.user.now _ c.args.buffers.now _ (sym c.has.ensures ∙ c.if-has.false)))
    ∙ sym (ap (rows_drawn c.args.viewer.now.directory.now c.args.viewer.now.user.now c.args.buffers.now c.args.first c.args.window.now.height selected p) c.in-Entries.is)

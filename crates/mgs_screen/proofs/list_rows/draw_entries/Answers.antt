use Rattle.std.proofs.Common.{ℕ, List, [], ◌∷◌, ◌++◌, Option, sym, ap, ◌∙◌, arith}
use Rattle.mgs_model.specs.Rows.{Row, mode_row}
use Rattle.mgs_grid.specs.Cells.{rows_put}
use Rattle.mgs_model.specs.Picture.{Picture}
use Rattle.mgs_model.specs.Draw.{rows_from, entries_shown}
use Rattle.mgs_buffers.specs.Found.{Named}
use Rattle.mgs_buffers.specs.MarkedBuffer.{marked_at}
use Rattle.mgs_grid.specs.Lists.{acl_mode}
use Rattle.mgs_screen.specs.Listings.{entries_told, name_to}
use Rattle.mgs_screen.proofs.Sights.{mode_below}
use Rattle.mgs_screen.proofs.Listings.{entries_pane_is}
use Rattle.mgs_screen.proofs.list_rows.draw_entries.Goals as goal

pub returns-clause-grid : goal.returns-clause-grid
returns-clause-grid g c = λ selected.
    let old : Picture = c.args.grid.now in
    let f : Named = c.find-found.result in
    let texts : Named → List (List ℕ) = λ (y : Named). entries_shown (entries_told c.args.viewer.now.directory.now c.args.viewer.now.user.now (marked_at y.name y.all).buffer) in
    let shown : Named → Option (List ℕ) = λ (y : Named). name_to c.args.viewer.now.directory.now c.args.viewer.now.user.now y.all y.name in
    let drawn : Named → Option (List ℕ) → Picture = λ (y : Named) (name : Option (List ℕ)).
    record old { lines = rows_put c.args.sight.first (rows_from old.cols c.args.sight.height c.args.sight.row (texts y) ++ mode_row old.cols (acl_mode name) ∷ []) old.lines } in
    mode_below c.args.sight.first c.args.sight.height c.args.sight.row (texts f) (acl_mode c.shown_name-shown.result) old c.draw_acl.new.grid c.draw_acl_mode.new.self (omega (arith, c.requires.room, c.rows.ensures.picture.count)) c.draw_acl.ensures.grid c.draw_acl_mode.ensures
    ∙ ap (drawn f) c.shown_name-shown.ensures.value
    ∙ ap (λ (y : Named). drawn y (shown y)) c.find-found.ensures
    ∙ ap (λ (rs : List Row). record old { lines = rows_put c.args.sight.first rs old.lines }) (sym (entries_pane_is selected old.cols c.args.sight.height c.args.sight.row c.args.viewer.now.directory.now c.args.viewer.now.user.now c.args.name.now c.args.buffers.now c.requires.kept))

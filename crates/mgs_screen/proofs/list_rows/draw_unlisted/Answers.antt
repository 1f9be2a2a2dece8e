use Rattle.std.proofs.Common.{ℕ, List, [], ap, ◌∙◌, arith}
use Rattle.mgs_grid.specs.Lists.{unlisted_text}
use Rattle.mgs_screen.specs.Listings.{row_drawn}
use Rattle.mgs_screen.proofs.Sights.{drawn_none, row_more}
use Rattle.mgs_screen.proofs.list_rows.draw_unlisted.Goals as goal

pub returns : goal.returns
returns c =
    let text : List ℕ = unlisted_text c.args.decision in
    c.draw_cause.ensures
    ∙ ap (row_drawn c.args.sight 0 text) (drawn_none c.args.sight c.args.grid.now c.draw_blank.new.self c.draw_blank.ensures)
    ∙ row_more c.args.sight [] text c.args.grid.now (omega (arith, c.requires, c.rows.ensures.picture.count))

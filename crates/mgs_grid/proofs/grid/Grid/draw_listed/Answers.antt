use Rattle.std.proofs.Common.{ℕ, List, arith}
use Rattle.mgs_model.specs.Draw.{listing_text}
use Rattle.mgs_model.specs.Rows.{plain_row}
use Rattle.mgs_model.specs.Picture.{Picture}
use Rattle.mgs_grid.proofs.Pictures.{plain_is}
use Rattle.mgs_grid.proofs.OneRow.{row_picture, row_drawn}
use Rattle.mgs_grid.proofs.grid.Grid.draw_listed.Goals as goal

pub invariant_of-self : goal.invariant_of-self
invariant_of-self c =
    let old : Picture = record { rows = c.self.inside.rows; cols = c.self.inside.cols; lines = c.self.inside.lines.items; row = c.self.inside.row; col = c.self.inside.col } in
    let words : List ℕ = listing_text (record { name = c.args.name.now; modified = c.args.modified; size = c.args.size; owners = c.args.owners.now }) in
    row_picture old c.args.self.now c.args.row c.index_mut.result.now c.draw_listed.new.self (λ (n : ℕ). plain_row n words) c.self.invariant c.self.view_is c.requires c.index_mut.ensures.value c.draw_listed.ensures.row
    (plain_is c.self.inside.cols words (omega (arith, c.self.invariant.size.some_cols)) c.draw_listed.ensures.printable)

pub returns : goal.returns
returns c =
    let old : Picture = record { rows = c.self.inside.rows; cols = c.self.inside.cols; lines = c.self.inside.lines.items; row = c.self.inside.row; col = c.self.inside.col } in
    let words : List ℕ = listing_text (record { name = c.args.name.now; modified = c.args.modified; size = c.args.size; owners = c.args.owners.now }) in
    row_drawn old c.args.self.now c.args.row c.index_mut.result.now c.draw_listed.new.self (λ (n : ℕ). plain_row n words) c.self.invariant c.self.view_is c.requires c.index_mut.ensures.value c.draw_listed.ensures.row

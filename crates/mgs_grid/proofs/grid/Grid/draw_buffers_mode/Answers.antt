use Rattle.std.proofs.Common.{ℕ, List, arith}
use Rattle.std.specs.Prelude.{codes}
use Rattle.std.proofs.Common.{refl}
use Rattle.mgs_grid.proofs.Plain.{plain_printable}
use Rattle.mgs_model.specs.Rows.{mode_row}
use Rattle.mgs_model.specs.Picture.{Picture}
use Rattle.mgs_grid.proofs.Pictures.{mode_is}
use Rattle.mgs_grid.proofs.OneRow.{row_picture, row_drawn}
use Rattle.mgs_grid.proofs.grid.Grid.draw_buffers_mode.Goals as goal

pub invariant_of-self : goal.invariant_of-self
invariant_of-self c =
    let old : Picture = record { rows = c.self.inside.rows; cols = c.self.inside.cols; lines = c.self.inside.lines.items; row = c.self.inside.row; col = c.self.inside.col } in
    let words : List ℕ = codes "-Buffers" in
    row_picture old c.args.self.now c.args.row c.index_mut.result.now c.draw_buffers_mode.new.self (λ (n : ℕ). mode_row n words) c.self.invariant c.self.view_is c.requires c.index_mut.ensures.value c.draw_buffers_mode.ensures
    (mode_is c.self.inside.cols words (omega (arith, c.self.invariant.size.some_cols)) (plain_printable words refl))

pub returns : goal.returns
returns c =
    let old : Picture = record { rows = c.self.inside.rows; cols = c.self.inside.cols; lines = c.self.inside.lines.items; row = c.self.inside.row; col = c.self.inside.col } in
    let words : List ℕ = codes "-Buffers" in
    row_drawn old c.args.self.now c.args.row c.index_mut.result.now c.draw_buffers_mode.new.self (λ (n : ℕ). mode_row n words) c.self.invariant c.self.view_is c.requires c.index_mut.ensures.value c.draw_buffers_mode.ensures

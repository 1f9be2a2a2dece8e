use Rattle.std.proofs.Common.{◌∙◌, length, arith}
use Rattle.std.proofs.lemmas.List.{with_items_is}
use Rattle.mgs_grid.proofs.Fits.{blank_cells}
use Rattle.mgs_grid.proofs.screen_row.Line.draw_blank.Goals as goal

pub invariant_of-self : goal.invariant_of-self
invariant_of-self c = λ yes. blank_cells (length c.deref_mut.result.now) _ (with_items_is c.self.inside.text c.fill.new.row (omega arith) ∙ c.fill.ensures)

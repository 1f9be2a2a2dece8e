use Rattle.std.proofs.Common.{false, ℕ, List, sym, ap, ◌∙◌}
use Rattle.mgs_model.specs.Rows.{Row}
use Rattle.mgs_grid.proofs.Fits.{blank_cells, blank_row}
use Rattle.mgs_grid.proofs.screen_row.Line.blank.Goals as goal

pub returns : goal.returns
returns c =
    ap (λ (t : List ℕ). let r : Row = record { text = t; reversed = false } in r) (c.in-Ok.ensures.items_if_clones_equal (λ y e. e)) ∙ sym (blank_row c.args.cols)

pub invariant_of-result : goal.invariant_of-result
invariant_of-result c = λ yes. blank_cells c.args.cols c.in-Ok.text.items (c.in-Ok.ensures.items_if_clones_equal (λ y e. e))

use Rattle.std.proofs.Common.{ℕ, List, ◌++◌, length, ap, ◌∙◌}
use Rattle.mgs_model.specs.Cells.{cells}
use Rattle.mgs_grid.specs.Cells.{over}
use Rattle.mgs_grid.proofs.Drawn.{chars_both, ends_both}
use Rattle.mgs_grid.proofs.prompts.put_prompt.Goals as goal

pub returns-clause-row : goal.returns-clause-row
returns-clause-row c =
    chars_both c.asking.result.text.now c.args.input.now c.args.row.now _ _ c.args.shift _ c.put_chars-start.ensures.row c.put_chars-start.ensures.next c.put_text.ensures.row
    ∙ ap (λ (k : List ℕ). over c.args.row.now c.args.shift 0 (cells (k ++ c.args.input.now))) c.asking.ensures.text

pub returns-clause-next : goal.returns-clause-next
returns-clause-next c =
    ends_both c.asking.result.text.now c.args.input.now _ _ c.put_chars-start.ensures.next c.put_text.ensures.next
    ∙ ap (λ (k : List ℕ). length (cells (k ++ c.args.input.now))) c.asking.ensures.text

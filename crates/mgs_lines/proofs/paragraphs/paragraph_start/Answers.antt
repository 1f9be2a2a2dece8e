use Rattle.std.proofs.Common.{ℕ, List, ◌-◌, arith, ◌∙◌}
use Rattle.mgs_lines.proofs.Feeds.{line_start_again}
use Rattle.mgs_lines.proofs.LinesByNumber.{start_above, paragraph_above}
use Rattle.mgs_lines.proofs.paragraphs.paragraph_start.Goals as goal

pub above_blank_lines-start-requires-clause-start : goal.above_blank_lines-start-requires-clause-start
above_blank_lines-start-requires-clause-start g c =
    let xs : List ℕ = g.T.Text.text c.args.text.now in
    rw c.line_start.ensures.value (line_start_again xs (c.args.p - 1) (omega arith))

pub above_written_lines-requires-clause-start : goal.above_written_lines-requires-clause-start
above_written_lines-requires-clause-start g c =
    let xs : List ℕ = g.T.Text.text c.args.text.now in
    start_above xs c.args.p c.line_start.result c.above_blank_lines-start.result (omega arith) c.requires c.line_start.ensures.value c.above_blank_lines-start.ensures.value

pub returns-clause-value : goal.returns-clause-value
returns-clause-value g c =
    let xs : List ℕ = g.T.Text.text c.args.text.now in
    c.above_written_lines.ensures.value ∙ paragraph_above xs c.args.p c.line_start.result c.above_blank_lines-start.result (omega arith) c.requires c.line_start.ensures.value c.above_blank_lines-start.ensures.value

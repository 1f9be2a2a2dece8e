use Rattle.std.proofs.Common.{ℕ, List, arith, ◌∙◌}
use Rattle.mgs_lines.proofs.Feeds.{line_start_again}
use Rattle.mgs_lines.proofs.LinesByNumber.{paragraph_past, paragraph_there, start_below}
use Rattle.mgs_lines.proofs.paragraphs.paragraph_end.Goals as goal

pub below_blank_lines-start-requires-clause-start : goal.below_blank_lines-start-requires-clause-start
below_blank_lines-start-requires-clause-start g c =
    let xs : List ℕ = g.T.Text.text c.args.text.now in
    rw c.line_start.ensures.value (line_start_again xs c.args.p c.requires)

pub returns-then-start-len-clause-value : goal.returns-then-start-len-clause-value
returns-then-start-len-clause-value g c =
    let xs : List ℕ = g.T.Text.text c.args.text.now in
    paragraph_past xs c.args.p c.line_start.result c.below_blank_lines-start.result c.requires c.line_start.ensures.value c.below_blank_lines-start.ensures.value (omega arith)

pub below_written_lines-requires-clause-start : goal.below_written_lines-requires-clause-start
below_written_lines-requires-clause-start g c =
    let xs : List ℕ = g.T.Text.text c.args.text.now in
    start_below xs c.line_start.result c.below_blank_lines-start.result c.below_blank_lines-start.ensures.value (omega arith)

pub returns-clause-value : goal.returns-clause-value
returns-clause-value g c =
    let xs : List ℕ = g.T.Text.text c.args.text.now in
    c.below_written_lines.ensures.value ∙ paragraph_there xs c.args.p c.line_start.result c.below_blank_lines-start.result c.requires c.line_start.ensures.value c.below_blank_lines-start.ensures.value (omega arith)

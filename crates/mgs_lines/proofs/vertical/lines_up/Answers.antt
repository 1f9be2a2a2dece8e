use Rattle.std.proofs.Common.{ℕ, List, arith}
use Rattle.mgs_model.specs.Lines.{line_of}
use Rattle.mgs_lines.proofs.Feeds.{start_of_line, start_of_mono}
use Rattle.mgs_lines.proofs.vertical.lines_up.Goals as goal

pub returns-clause-within : goal.returns-clause-within
returns-clause-within g c =
    let xs : List ℕ = g.T.Text.text c.args.text.now in
    let up = start_of_mono c.saturating_sub.result (line_of xs c.args.p) xs (omega (arith, c.saturating_sub.ensures, c.line_of.ensures)) in
    omega (arith, c.start_of.ensures.value, up, start_of_line xs c.args.p c.requires)

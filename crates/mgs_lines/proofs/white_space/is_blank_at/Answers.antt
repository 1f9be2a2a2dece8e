use Rattle.std.proofs.Common.{ℕ, List, ap, ◌∙◌}
use Rattle.std.specs.Prelude.{slice_range}
use Rattle.mgs_model.specs.Lines.{line_end, line_start}
use Rattle.mgs_model.specs.Walks.{is_blank}
use Rattle.mgs_lines.proofs.Runs.{line_end_of_start}
use Rattle.mgs_lines.proofs.white_space.is_blank_at.Goals as goal

pub returns : goal.returns
returns g c =
    let xs : List ℕ = g.T.Text.text c.args.text.now in
    let here = ap (λ s. is_blank (slice_range xs s (line_end xs s))) c.line_start.ensures.value in
    c.is_blank_line.ensures ∙ (here ∙ ap (λ e. is_blank (slice_range xs (line_start xs c.args.p) e)) (line_end_of_start xs c.args.p c.requires))

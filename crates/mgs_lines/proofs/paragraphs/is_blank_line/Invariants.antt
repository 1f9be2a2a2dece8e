use Rattle.std.proofs.Common.{◌≡◌, List, ℕ}
use Rattle.std.specs.Prelude.{slice_range}
use Rattle.mgs_model.specs.Lines.{line_end}
use Rattle.mgs_model.specs.Walks.{is_blank}
use Rattle.mgs_lines.proofs.paragraphs.is_blank_line.Given as goal

-- what was passed is white
abbrev pub invariant-loop-i : goal.invariant-loop-i
invariant-loop-i g l =
    let xs : List ℕ = g.T.Text.text l.text in
    is_blank (slice_range xs l.i (line_end xs l.i)) ≡ is_blank (slice_range xs l.start (line_end xs l.start))

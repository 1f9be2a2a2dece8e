use Rattle.std.proofs.Common.{◌≡◌, ◌≤◌}
use Rattle.mgs_model.specs.Lines.{line_of, line_start}
use Rattle.mgs_model.specs.Walks.{back, lines, is_written}
use Rattle.mgs_lines.proofs.fill_lines.paragraph_start.Given as goal

abbrev pub invariant-loop-at : goal.invariant-loop-at
invariant-loop-at g l =
    record {
      within : l.at ≤ l.p;
      start : line_start (g.T.Text.text l.text) l.at ≡ l.at;
      same : back is_written (lines (g.T.Text.text l.text)) (line_of (g.T.Text.text l.text) l.at) ≡ back is_written (lines (g.T.Text.text l.text)) (line_of (g.T.Text.text l.text) l.p);
    }

abbrev pub decreases-loop-at : goal.decreases-loop-at
decreases-loop-at g l = l.at

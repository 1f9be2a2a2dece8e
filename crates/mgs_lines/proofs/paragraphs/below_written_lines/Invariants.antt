use Rattle.std.proofs.Common.{◌≡◌, ◌≤◌, ◌-◌, length}
use Rattle.mgs_model.specs.Lines.{line_of, line_start}
use Rattle.mgs_model.specs.Walks.{over, lines, is_written}
use Rattle.mgs_lines.proofs.paragraphs.below_written_lines.Given as goal

abbrev pub invariant-loop-end : goal.invariant-loop-end
invariant-loop-end g l =
    record {
      from : l.fn.start ≤ l.at;
      within : l.at ≤ length (g.T.Text.text l.text);
      number : l.line ≡ line_of (g.T.Text.text l.text) l.at;
      few : l.line ≤ l.at;
      start : line_start (g.T.Text.text l.text) l.at ≡ l.at;
      same : over is_written (lines (g.T.Text.text l.text)) (line_of (g.T.Text.text l.text) l.at) ≡ over is_written (lines (g.T.Text.text l.text)) (line_of (g.T.Text.text l.text) l.fn.start);
    }

abbrev pub decreases-loop-end : goal.decreases-loop-end
decreases-loop-end g l = length (g.T.Text.text l.text) - l.at

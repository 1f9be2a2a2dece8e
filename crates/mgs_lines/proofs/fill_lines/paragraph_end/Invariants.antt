use Rattle.std.proofs.Common.{◌≡◌, ◌≤◌, ◌+◌, ◌-◌, length}
use Rattle.mgs_model.specs.Lines.{line_of, line_end}
use Rattle.mgs_model.specs.Walks.{over, lines, is_written}
use Rattle.mgs_lines.proofs.fill_lines.paragraph_end.Given as goal

-- the lines below the line that ends here end where those below the position's line do
abbrev pub invariant-loop-end : goal.invariant-loop-end
invariant-loop-end g l =
    record {
      from : l.p ≤ l.end;
      after : line_end (g.T.Text.text l.text) l.p ≤ l.end;
      within : l.end ≤ length (g.T.Text.text l.text);
      at_end : line_end (g.T.Text.text l.text) l.end ≡ l.end;
      same : over is_written (lines (g.T.Text.text l.text)) (line_of (g.T.Text.text l.text) l.end + 1) ≡ over is_written (lines (g.T.Text.text l.text)) (line_of (g.T.Text.text l.text) l.p + 1);
    }

abbrev pub decreases-loop-end : goal.decreases-loop-end
decreases-loop-end g l = length (g.T.Text.text l.text) - l.end

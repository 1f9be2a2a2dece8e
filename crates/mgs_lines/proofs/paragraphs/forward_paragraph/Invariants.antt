use Rattle.std.proofs.Common.{◌≡◌, ◌≤◌, ◌-◌, length}
use Rattle.mgs_model.specs.Walks.{forward_paragraphs}
use Rattle.mgs_lines.proofs.paragraphs.forward_paragraph.Given as goal

-- the paragraphs that are left, from here, end where all do
abbrev pub invariant-loop-i : goal.invariant-loop-i
invariant-loop-i g l =
    record {
      within : l.at ≤ length (g.T.Text.text l.text);
      same : forward_paragraphs (g.T.Text.text l.text) l.at (l.times - l.i) ≡ forward_paragraphs (g.T.Text.text l.text) l.p l.times;
    }

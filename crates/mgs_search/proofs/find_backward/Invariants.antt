use Rattle.std.proofs.Common.{◌≡◌, ◌≤◌, length}
use Rattle.mgs_model.specs.Searching.{last_match_before, last_match}
use Rattle.mgs_search.proofs.find_backward.Given as goal

-- before here as up to the start
abbrev pub invariant-loop-left : goal.invariant-loop-left
invariant-loop-left g l =
    record {
      within : l.left ≤ length (g.T.Text.text l.text);
      same : last_match_before l.pattern (g.T.Text.text l.text) l.left ≡ last_match l.pattern (g.T.Text.text l.text) l.from;
    }

abbrev pub decreases-loop-left : goal.decreases-loop-left
decreases-loop-left g l = l.left

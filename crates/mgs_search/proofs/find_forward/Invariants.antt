use Rattle.std.proofs.Common.{◌≡◌, ◌≤◌, ◌-◌, length}
use Rattle.mgs_model.specs.Searching.{first_match}
use Rattle.mgs_search.proofs.find_forward.Given as goal

-- from here on as from the start
abbrev pub invariant-loop-p : goal.invariant-loop-p
invariant-loop-p g l =
    record {
      within : l.p ≤ length (g.T.Text.text l.text);
      same : first_match l.pattern (g.T.Text.text l.text) l.p ≡ first_match l.pattern (g.T.Text.text l.text) l.from;
    }

abbrev pub decreases-loop-p : goal.decreases-loop-p
decreases-loop-p g l = length (g.T.Text.text l.text) - l.p

use Rattle.std.proofs.Common.{◌≡◌, drop}
use Rattle.mgs_model.specs.Searching.{begins}
use Rattle.mgs_search.proofs.matches_at.Given as goal

-- what is left of the pattern stands at what is left of the text
abbrev pub invariant-loop-i : goal.invariant-loop-i
invariant-loop-i g l =
    begins (drop l.i l.pattern) (drop l.i (drop l.p (g.T.Text.text l.text))) ≡ begins l.pattern (drop l.p (g.T.Text.text l.text))

use Rattle.std.proofs.Common.{◌≡◌, ◌+◌, drop}
use Rattle.mgs_model.specs.Lines.{start_of}
use Rattle.mgs_text.proofs.Text.start_of.Given as goal

-- after the lines that were passed, what is left to pass begins at the place
abbrev pub invariant-loop-i : goal.invariant-loop-i
invariant-loop-i g l = l.i + start_of l.left (drop l.i (g.Self.Text.text l.self)) ≡ start_of l.line (g.Self.Text.text l.self)

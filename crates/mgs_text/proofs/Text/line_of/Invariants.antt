use Rattle.std.proofs.Common.{◌≡◌, ◌≤◌}
use Rattle.mgs_model.specs.Lines.{line_of}
use Rattle.mgs_text.proofs.Text.line_of.Given as goal

abbrev pub invariant-loop-i : goal.invariant-loop-i
invariant-loop-i g l = record { value : l.line ≡ line_of (g.Self.Text.text l.self) l.i; few : l.line ≤ l.i }

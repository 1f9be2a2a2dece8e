use Rattle.std.proofs.Common.{◌≡◌, ◌++◌, drop}
use Rattle.std.specs.Prelude.{string_bytes}
use Rattle.mgs_ledger.specs.Spelling.{entry_lines}
use Rattle.mgs_ledger.proofs.rights_spelling.lines_of.Given as goal

-- what is spelled, and the lines of what is left, are the lines of all
abbrev pub invariant-loop-entry : goal.invariant-loop-entry
invariant-loop-entry l = string_bytes l.text ++ entry_lines (drop l.entry-index l.entries) ≡ entry_lines l.entries

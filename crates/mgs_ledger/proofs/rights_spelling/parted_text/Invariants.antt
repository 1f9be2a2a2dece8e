use Rattle.std.proofs.Common.{◌≡◌, ◌++◌, true, drop}
use Rattle.std.specs.Prelude.{string_bytes}
use Rattle.mgs_ledger.specs.Spelling.{parted}
use Rattle.mgs_ledger.proofs.rights_spelling.parted_text.Given as goal

-- what is spelled, and the entries that are left, are all
abbrev pub invariant-loop-entry : goal.invariant-loop-entry
invariant-loop-entry l = string_bytes l.text ++ parted l.is_first (drop l.entry-index l.entries) ≡ parted true l.entries

-- How the program ends by a script that it replays.
use Rattle.std.specs.Prelude.{◌≡◌, ℕ, ◌+◌, List, Option, Result, Ok, Err, IfSome, codes}
use Rattle.mgs_command.specs.declared.preparation.TheConstants.{DONE, FAILED}
use Rattle.mgs_model.specs.declared.limits.TheConstants.{SCRIPT_LIMIT}
use Rattle.mgs_replay.specs.Faults.{IsCounted}
use Rattle.mgs_replay.specs.Reads.{TakesAtMost, LeavesUnread, KeepsLimit}
use Rattle.mgs_replay.specs.Replayed.{WrittenOrUnread}
use Rattle.mgs_replay.specs.declared.script.ReplayFault.{ReplayFault}
use Rattle.mgs_replay.specs.declared.script.ReplayFault.TheVariants as ends

-- what is told of a fault, behind the number of its line where it has one
abbrev pub fault_text : ReplayFault → List ℕ
fault_text (ends.Line n) = codes "refused"
fault_text ends.Read = codes "read failed"
fault_text ends.Write = codes "write failed"
fault_text ends.Short = codes "no memory"

-- the status behind a replay
abbrev pub status_after : Result (Unit {0}) ReplayFault → ℕ
status_after (Ok done) = DONE
status_after (Err fault) = FAILED

-- A script was replayed with some outcome: what was read and written is what belongs to that, and the program ends by its status.
pub record Replays (left rest old new : Option (List ℕ)) (ending : ℕ) : Type 0 where
  pub outcome : Result (Unit {0}) ReplayFault
  pub written : IfSome left (λ script. WrittenOrUnread script old new outcome)
  pub line : IsCounted outcome
  pub unread : LeavesUnread outcome old new
  pub limit : KeepsLimit left outcome old new
  pub taken : TakesAtMost left rest (SCRIPT_LIMIT + 1)
  pub status : ending ≡ status_after outcome

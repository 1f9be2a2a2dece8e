-- A script was replayed.
use Rattle.std.proofs.Common.{◌≡◌, ℕ, ◌+◌, List, Option, Result}
use Rattle.std.specs.Prelude.{IfSome}
use Rattle.mgs_model.specs.declared.limits.TheConstants.{SCRIPT_LIMIT}
use Rattle.mgs_replay.specs.Faults.{IsCounted}
use Rattle.mgs_replay.specs.Reads.{TakesAtMost, LeavesUnread, KeepsLimit}
use Rattle.mgs_replay.specs.Replayed.{WrittenOrUnread}
use Rattle.mgs_replay.specs.declared.script.ReplayFault.{ReplayFault}
use Rattle.mgs_program.specs.Replays.{Replays, status_after}

-- with this outcome
pub replayed : (outcome : Result (Unit {0}) ReplayFault) (left rest old new : Option (List ℕ)) (ending : ℕ) → IfSome left (λ script. WrittenOrUnread script old new outcome) → IsCounted outcome
    → LeavesUnread outcome old new → KeepsLimit left outcome old new → TakesAtMost left rest (SCRIPT_LIMIT + 1) → ending ≡ status_after outcome → Replays left rest old new ending
replayed outcome left rest old new ending written line unread limit taken status =
    record { outcome = outcome; written = written; line = line; unread = unread; limit = limit; taken = taken; status = status }

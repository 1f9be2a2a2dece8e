-- What reading a script does to the reader's bytes.
use Rattle.std.specs.Prelude.{◌≡◌, ℕ, ◌+◌, ◌-◌, ◌<◌, ◌≤◌, ◌++◌, Bool, true, false, List, [], length, Option, Result, Ok, Err, IfSome}
use Rattle.std.specs.Io.KnownBytes.{Consumes, IsAtEnd}
use Rattle.mgs_model.specs.declared.limits.TheConstants.{SCRIPT_LIMIT}
use Rattle.mgs_replay.specs.declared.script.ScriptFault.{ScriptFault}
use Rattle.mgs_replay.specs.declared.script.ReplayFault.{ReplayFault}
use Rattle.mgs_replay.specs.declared.script.ReplayFault.TheVariants as ends

-- at most n bytes were taken from the reader
abbrev pub TakesAtMost : Option (List ℕ) → Option (List ℕ) → ℕ → Type 0
TakesAtMost old new n = (bytes : List ℕ) × Consumes old new bytes × (length bytes ≤ n)

-- one read: true where there may be more
abbrev pub PieceRead : Option (List ℕ) → Option (List ℕ) → List ℕ → List ℕ → Result Bool ScriptFault → Type 0
PieceRead old new had has (Ok true) = (bytes : List ℕ) × Consumes old new bytes × (has ≡ had ++ bytes) × (length has ≤ SCRIPT_LIMIT)
PieceRead old new had has (Ok false) = Consumes old new [] × IsAtEnd new × (has ≡ had)
PieceRead old new had has (Err f) = TakesAtMost old new (SCRIPT_LIMIT + 1 - length had)

-- a replay of a script that was not read leaves the writer's bytes as they were
abbrev pub LeavesUnread : Result (Unit {0}) ReplayFault → Option (List ℕ) → Option (List ℕ) → Type 0
LeavesUnread (Ok done) old new = Unit {0}
LeavesUnread (Err (ends.Line n)) old new = Unit {0}
LeavesUnread (Err ends.Read) old new = new ≡ old
LeavesUnread (Err ends.Write) old new = Unit {0}
LeavesUnread (Err ends.Short) old new = Unit {0}

-- a replay of a script past its limit ends by that, or out of memory, and the writer's bytes are as they were
abbrev pub IsTooLong : Result (Unit {0}) ReplayFault → Option (List ℕ) → Option (List ℕ) → Type 0
IsTooLong (Ok done) old new = ⊥
IsTooLong (Err (ends.Line n)) old new = ⊥
IsTooLong (Err ends.Read) old new = new ≡ old
IsTooLong (Err ends.Write) old new = ⊥
IsTooLong (Err ends.Short) old new = new ≡ old

-- the same of what a reader has left, where that is known
abbrev pub KeepsLimit : Option (List ℕ) → Result (Unit {0}) ReplayFault → Option (List ℕ) → Option (List ℕ) → Type 0
KeepsLimit left result old new = IfSome left (λ script. SCRIPT_LIMIT < length script → IsTooLong result old new)

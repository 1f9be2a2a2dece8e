-- Why a line ends a replay.
use Rattle.std.specs.Prelude.{ℕ, ◌≤◌, Result, Ok, Err}
use Rattle.mgs_script.specs.declared.line.LineFault.{LineFault}
use Rattle.mgs_script.specs.declared.line.LineFault.TheVariants as lines
use Rattle.mgs_replay.specs.declared.lines.TurnFault.{TurnFault}
use Rattle.mgs_replay.specs.declared.lines.TurnFault.TheVariants as turns
use Rattle.mgs_replay.specs.declared.script.ReplayFault.{ReplayFault}
use Rattle.mgs_replay.specs.declared.script.ReplayFault.TheVariants as ends

-- a refused line, or out of memory
abbrev pub fault_of : LineFault → TurnFault
fault_of lines.Bad = turns.Refused
fault_of lines.Short = turns.Short

-- how a replay ends by a fault of the line of that number
abbrev pub end_at : ℕ → TurnFault → ReplayFault
end_at n turns.Refused = ends.Line n
end_at n turns.Write = ends.Write
end_at n turns.Short = ends.Short

-- lines are counted from 1
abbrev pub IsCounted : {A : Type 0} → Result A ReplayFault → Type 0
IsCounted (Ok a) = Unit {0}
IsCounted (Err (ends.Line n)) = 1 ≤ n
IsCounted (Err ends.Read) = Unit {0}
IsCounted (Err ends.Write) = Unit {0}
IsCounted (Err ends.Short) = Unit {0}

-- the same of a script that was read
abbrev pub IsPlayed : {A : Type 0} → Result A ReplayFault → Type 0
IsPlayed (Ok a) = Unit {0}
IsPlayed (Err (ends.Line n)) = 1 ≤ n
IsPlayed (Err ends.Read) = ⊥
IsPlayed (Err ends.Write) = Unit {0}
IsPlayed (Err ends.Short) = Unit {0}

-- the same of lines that print nothing
abbrev pub IsSet : {A : Type 0} → Result A ReplayFault → Type 0
IsSet (Ok a) = Unit {0}
IsSet (Err (ends.Line n)) = 1 ≤ n
IsSet (Err ends.Read) = ⊥
IsSet (Err ends.Write) = ⊥
IsSet (Err ends.Short) = Unit {0}

-- Connections as the code holds them.
use Rattle.std.specs.Prelude.{◌≡◌, ℕ, List, Result, Ok, Err}
use Rattle.mgs_wire.specs.declared.conn.Stage.{Stage}
use Rattle.mgs_wire.specs.declared.conn.Stage.TheVariants as code
use Rattle.mgs_model.specs.declared.errors.OpenFault.{OpenFault}
use Rattle.mgs_wire.specs.declared.refusal.Refusal.{Refusal}
use Rattle.mgs_wire.specs.Calls.{Call, Open, Refuse}
use Rattle.mgs_wire.specs.Login.{Opening, refusal_of}
use Rattle.mgs_wire.specs.LinesRead.{IsLoginLine}
use Rattle.mgs_wire.specs.Connections.{Connection, Logging_in, Serving, Refused, Over}

-- the bytes are those of the login line, or those of the refusal's line that are left
abbrev pub connection : Stage → List ℕ → Connection
connection code.Login bytes = Logging_in bytes
connection (code.Session id) bytes = Serving id
connection code.Refused bytes = Refused bytes
connection (code.Over session) bytes = Over session

abbrev pub IsStage : Stage → List ℕ → Type 0
IsStage code.Login bytes = IsLoginLine bytes
IsStage (code.Session id) bytes = Unit {0}
IsStage code.Refused bytes = Unit {0}
IsStage (code.Over session) bytes = Unit {0}

-- the session's id, or why the login is refused
abbrev pub login_answer : Result ℕ OpenFault → Result ℕ Refusal
login_answer (Ok id) = Ok id
login_answer (Err fault) = Err (refusal_of fault)

-- what an admission by this name gives: a session is asked for, or the refusal stands
abbrev pub LogsIn : {E : Type 0} → (E → Call → E → Type 0) → List ℕ → Result Opening Refusal → Result ℕ Refusal → E → E → Type 0
LogsIn does name (Ok o) result old new = (answer : Result ℕ OpenFault) × does old (Open o.user o.rows o.cols answer) new × (result ≡ login_answer answer)
LogsIn does name (Err r) result old new = (result ≡ Err r) × does old (Refuse name r) new

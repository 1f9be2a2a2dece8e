-- PUMPS: what one read of a connection, and one writing to it, do.
use Rattle.std.specs.Prelude.{◌≡◌, ◌≢◌, ℕ, zero, suc, ◌+◌, ◌<◌, ◌≤◌, Bool, true, false, List, [], ◌∷◌, take, drop, length, Option, Result, Ok, Err}
use Rattle.std.specs.Io.KnownBytes.{Appends, Consumes, IsAtEnd, Keeps}
use Rattle.std.specs.IoError.{error_kind}
use Rattle.std.specs.declared.io.Error.{Error}
use Rattle.std.specs.declared.io.ErrorKind.{ErrorKind}
use Rattle.std.specs.declared.io.ErrorKind.TheVariants.{WouldBlock}
use Rattle.mgs_model.specs.declared.limits.TheConstants.{READ_LIMIT}
use Rattle.mgs_wire.specs.declared.pump.PumpedIn.{PumpedIn}
use Rattle.mgs_wire.specs.declared.pump.PumpedIn.TheVariants.{Took, Idle, Finished, Failed}
use Rattle.mgs_wire.specs.declared.pump.PumpedOut.{PumpedOut}
use Rattle.mgs_wire.specs.declared.pump.PumpedOut.TheVariants as out
use Rattle.mgs_wire.specs.Calls.{Call}
use Rattle.mgs_wire.specs.Connections.{Connection, is_reading, stopped, waiting, Receives, Ends, Breaks, Writes}

-- what a read comes to by the error that it gave: where the reader would block nothing has changed, and any other error is a failure
pub record HearsOf {E : Type 0} (does : E → Call → E → Type 0) (kind : ErrorKind) (answer : PumpedIn) (conn : Connection) (old : E) (next : Connection) (new : E) : Type 0 where
  pub blocked : kind ≡ WouldBlock → (answer ≡ Idle) × (next ≡ conn) × (new ≡ old)
  pub failed : kind ≢ WouldBlock → (answer ≡ Failed) × Breaks does conn old next new

-- what one read of a connection comes to, by what the reader answered: no byte is its end, and n bytes are the first n of `buf`
abbrev pub Hears : {E : Type 0} → (E → Call → E → Type 0) → (ℕ → E → Bool) → List (List ℕ × List ℕ) → Result ℕ Error → List ℕ → PumpedIn → Connection → E → Connection → E → Type 0
Hears does live tickets (Ok zero) buf answer conn old next new = (answer ≡ Finished) × Ends does conn old next new
Hears does live tickets (Ok (suc n)) buf answer conn old next new = (answer ≡ Took (suc n)) × Receives does live tickets (take (suc n) buf) conn old next new
Hears does live tickets (Err e) buf answer conn old next new = HearsOf does (error_kind e) answer conn old next new

-- one read of a connection that is read: what the reader has left goes from `left` to `rest`, the connection from `conn` to
-- `next`, and the server from `old` to `new`
abbrev pub Reads : {E : Type 0} → (E → Call → E → Type 0) → (ℕ → E → Bool) → List (List ℕ × List ℕ) → PumpedIn → Option (List ℕ) → Option (List ℕ) → Connection → E → Connection → E → Type 0
Reads does live tickets (Took n) left rest conn old next new =
    (bytes : List ℕ) × Consumes left rest bytes × (length bytes ≡ n) × (1 ≤ n) × (n ≤ READ_LIMIT) × Receives does live tickets bytes conn old next new
Reads does live tickets Idle left rest conn old next new = Keeps left rest × (next ≡ conn) × (new ≡ old)
Reads does live tickets Finished left rest conn old next new = Consumes left rest [] × IsAtEnd rest × Ends does conn old next new
Reads does live tickets Failed left rest conn old next new = Keeps left rest × Breaks does conn old next new

-- a connection that is read is read once
abbrev pub PumpsIn : {E : Type 0} → (E → Call → E → Type 0) → (ℕ → E → Bool) → List (List ℕ × List ℕ) → PumpedIn → Option (List ℕ) → Option (List ℕ) → Connection → E → Connection → E → Type 0
PumpsIn does live tickets result left rest conn old next new = is_reading live conn old ≡ true → Reads does live tickets result left rest conn old next new

-- any other is finished, and stays so
abbrev pub Finishes : {E : Type 0} → (ℕ → E → Bool) → PumpedIn → Connection → E → Connection → E → Type 0
Finishes live result conn old next new = is_reading live conn old ≡ false → (result ≡ Finished) × (next ≡ stopped conn) × (new ≡ old)

-- how many of so many bytes were written at each answer
abbrev pub IsCount : PumpedOut → ℕ → ℕ → Type 0
IsCount out.Drained n all = n ≡ all
IsCount out.Blocked n all = n < all
IsCount out.Failed n all = n < all

-- how a writing ends by an error of the writer: it would block, or it failed
pub record StopsBy (kind : ErrorKind) (outcome : PumpedOut) : Type 0 where
  pub blocked : kind ≡ WouldBlock → outcome ≡ out.Blocked
  pub failed : kind ≢ WouldBlock → outcome ≡ out.Failed

-- what becomes of a connection of which n bytes were written; where writing failed it is over
abbrev pub Leaves : {E : Type 0} → (E → Call → E → Type 0) → PumpedOut → ℕ → Connection → E → Connection → E → Type 0
Leaves does out.Drained n conn old next new = Writes does n conn old next new
Leaves does out.Blocked n conn old next new = Writes does n conn old next new
Leaves {E = E} does out.Failed n conn old next new = (written : Connection) × (mid : E) × Writes does n conn old written mid × Breaks does written mid next new

-- a first part of the bytes that wait is written: what the writer holds goes from `held` to `holds`
pub record WritesFirst {E : Type 0} (does : E → Call → E → Type 0) (outcome : PumpedOut) (bytes : List ℕ) (held holds : Option (List ℕ)) (conn : Connection) (old : E) (next : Connection) (new : E) : Type 0 where
  pub count : ℕ
  pub counted : IsCount outcome count (length bytes)
  pub written : Appends held holds (take count bytes)
  pub leaves : Leaves does outcome count conn old next new

-- so of the bytes that wait for a connection
abbrev pub PumpsOut : {E : Type 0} → (E → Call → E → Type 0) → (ℕ → E → List ℕ) → PumpedOut → Option (List ℕ) → Option (List ℕ) → Connection → E → Connection → E → Type 0
PumpsOut does pending result held holds conn old next new = WritesFirst does result (waiting pending conn old) held holds conn old next new

-- BY WHICH WRITES: a writer is a type `W` of states with a word, `answers old bytes answer new`: a write of these bytes was answered so

-- what answer a writing ends by: no byte was taken, or an error
abbrev pub EndsBy : Result ℕ Error → PumpedOut → Type 0
EndsBy (Ok zero) outcome = outcome ≡ out.Failed
EndsBy (Ok (suc n)) outcome = ⊥
EndsBy (Err e) outcome = StopsBy (error_kind e) outcome

-- it ends where no bytes are left, or by a write of all that are
abbrev pub PutsLast : {W : Type 0} → (W → List ℕ → Result ℕ Error → W → Type 0) → List ℕ → PumpedOut → W → W → Type 0
PutsLast answers bytes out.Drained old new = (bytes ≡ []) × (new ≡ old)
PutsLast answers bytes outcome old new = (1 ≤ length bytes) × (answer : Result ℕ Error) × answers old bytes answer new × EndsBy answer outcome

-- before that each write was of all that were left, and took so many; together they took `count`
abbrev pub Puts : {W : Type 0} → (W → List ℕ → Result ℕ Error → W → Type 0) → List ℕ → List ℕ → PumpedOut → ℕ → W → W → Type 0
Puts answers [] bytes outcome count old new = (count ≡ 0) × PutsLast answers bytes outcome old new
Puts {W = W} answers (n ∷ ns) bytes outcome count old new = (mid : W) × (rest : ℕ) × answers old bytes (Ok n) mid × (count ≡ n + rest) × Puts answers ns (drop n bytes) outcome rest mid new

-- bytes are written as far as the writer takes them
pub record Put {W : Type 0} (answers : W → List ℕ → Result ℕ Error → W → Type 0) (bytes : List ℕ) (outcome : PumpedOut) (count : ℕ) (old new : W) : Type 0 where
  pub taken : List ℕ
  pub puts : Puts answers taken bytes outcome count old new

-- so are those that wait for a connection, and what was written of them waits no longer
pub record PutsOut {E W : Type 0} (does : E → Call → E → Type 0) (pending : ℕ → E → List ℕ) (answers : W → List ℕ → Result ℕ Error → W → Type 0) (outcome : PumpedOut) (conn : Connection) (old : E) (before : W) (next : Connection) (new : E) (after : W) : Type 0 where
  pub count : ℕ
  pub put : Put answers (waiting pending conn old) outcome count before after
  pub leaves : Leaves does outcome count conn old next new

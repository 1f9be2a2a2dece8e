-- CONNECTIONS: what becomes of one by the bytes that are read of it, and by how reading and writing end.
use Rattle.std.specs.Prelude.{◌≡◌, ◌==◌, ℕ, nat_le, Bool, true, false, MatchBool, List, [], ◌++◌, drop, length, Option, Some, None, Result, Ok, Err}
use Rattle.mgs_model.specs.declared.errors.OpenFault.{OpenFault}
use Rattle.mgs_wire.specs.declared.login.TheConstants.{LOGIN_LIMIT}
use Rattle.mgs_wire.specs.declared.refusal.Refusal.{Refusal}
use Rattle.mgs_wire.specs.declared.refusal.Refusal.TheVariants as refusals
use Rattle.mgs_wire.specs.Login.{Opening, line_in, after_line, admission, name_in, refusal_of, refusal_line}
use Rattle.mgs_wire.specs.Calls.{Call, Open, Refuse, Close, Took, Typed}

pub data Connection : Type 0 where
  -- its login line, as far as it was read
  Logging_in : (line : List ℕ) → Connection
  -- its bytes are a session's
  Serving : (id : ℕ) → Connection
  -- its login was refused; what is still to be written of the line that tells of it
  Refused : (left : List ℕ) → Connection
  -- nothing more is read or written; the session that it had, if it had one
  Over : (session : Option ℕ) → Connection

-- a refused login, before its line is written
abbrev pub refused : Refusal → Connection
refused r = Refused (refusal_line r)

-- the session that the login opened, also after its end
abbrev pub session_of : Connection → Option ℕ
session_of (Logging_in line) = None
session_of (Serving id) = Some id
session_of (Refused left) = None
session_of (Over session) = session

-- WHAT IS READ

-- a login was answered, and these bytes stand after its line
abbrev pub Answered : {E : Type 0} → (E → Call → E → Type 0) → (ℕ → E → Bool) → Result ℕ OpenFault → List ℕ → E → Connection → E → Type 0
Answered does live (Ok id) rest old next new = (next ≡ Serving id) × Typed does live id rest old new
Answered does live (Err fault) rest old next new = (next ≡ refused (refusal_of fault)) × (new ≡ old)

-- a login by this name is refused before a session is asked for
abbrev pub TurnsAway : {E : Type 0} → (E → Call → E → Type 0) → List ℕ → Refusal → E → Connection → E → Type 0
TurnsAway does name r old next new = (next ≡ refused r) × does old (Refuse name r) new

-- a login line is whole that says this name, and these bytes stand after it: keys of the session that it opens, or dropped
abbrev pub Enters : {E : Type 0} → (E → Call → E → Type 0) → (ℕ → E → Bool) → List ℕ → Result Opening Refusal → List ℕ → E → Connection → E → Type 0
Enters {E = E} does live name (Ok o) rest old next new =
    (answer : Result ℕ OpenFault) × (mid : E) × does old (Open o.user o.rows o.cols answer) mid × Answered does live answer rest mid next new
Enters does live name (Err r) rest old next new = TurnsAway does name r old next new

-- this login line is whole
abbrev pub EntersBy : {E : Type 0} → (E → Call → E → Type 0) → (ℕ → E → Bool) → List (List ℕ × List ℕ) → List ℕ → List ℕ → E → Connection → E → Type 0
EntersBy does live tickets line rest old next new = Enters does live (name_in line) (admission tickets line) rest old next new

-- the line is whole where a line feed was read
abbrev pub Continues : {E : Type 0} → (E → Call → E → Type 0) → (ℕ → E → Bool) → List (List ℕ × List ℕ) → List ℕ → Option (List ℕ) → E → Connection → E → Type 0
Continues does live tickets line None old next new = (next ≡ Logging_in line) × (new ≡ old)
Continues does live tickets line (Some rest) old next new = EntersBy does live tickets line rest old next new

-- these are all bytes since the connection began: a login line of at most 128 bytes before its line feed, and what stands
-- after it; a longer one is refused as soon as its 129th byte is read
abbrev pub ReadsLogin : {E : Type 0} → (E → Call → E → Type 0) → (ℕ → E → Bool) → List (List ℕ × List ℕ) → List ℕ → E → Connection → E → Type 0
ReadsLogin does live tickets bytes old next new =
    MatchBool
    (nat_le (length (line_in bytes)) LOGIN_LIMIT)
    (Continues does live tickets (line_in bytes) (after_line bytes) old next new)
    (TurnsAway does [] refusals.Line old next new)

-- what these bytes, read of a connection, come to
abbrev pub Receives : {E : Type 0} → (E → Call → E → Type 0) → (ℕ → E → Bool) → List (List ℕ × List ℕ) → List ℕ → Connection → E → Connection → E → Type 0
Receives does live tickets bytes (Logging_in line) old next new = ReadsLogin does live tickets (line ++ bytes) old next new
Receives does live tickets bytes (Serving id) old next new = (next ≡ Serving id) × Typed does live id bytes old new
Receives does live tickets bytes (Refused left) old next new = (next ≡ Refused left) × (new ≡ old)
Receives does live tickets bytes (Over session) old next new = (next ≡ Over session) × (new ≡ old)

-- its login line has not ended
abbrev pub is_logging_in : Connection → Bool
is_logging_in (Logging_in line) = true
is_logging_in (Serving id) = false
is_logging_in (Refused left) = false
is_logging_in (Over session) = false

-- whether anything is read of a connection: a login line, or keys of a session that is open
abbrev pub is_reading : {E : Type 0} → (ℕ → E → Bool) → Connection → E → Bool
is_reading live (Logging_in line) s = true
is_reading live (Serving id) s = live id s
is_reading live (Refused left) s = false
is_reading live (Over session) s = false

-- HOW IT ENDS

-- nothing more is read of a connection whose session is not open
abbrev pub stopped : Connection → Connection
stopped (Logging_in line) = Over None
stopped (Serving id) = Over (Some id)
stopped (Refused left) = Refused left
stopped (Over session) = Over session

-- nothing is read of it any more, and nothing waits for it: its refusal was written, or its session is over
abbrev pub is_over : Connection → Bool
is_over (Logging_in line) = false
is_over (Serving id) = false
is_over (Refused left) = length left == 0
is_over (Over session) = true

-- the reader ended: within the login line that is a refusal, and a session is closed
abbrev pub Ends : {E : Type 0} → (E → Call → E → Type 0) → Connection → E → Connection → E → Type 0
Ends does (Logging_in line) old next new = TurnsAway does [] refusals.Line old next new
Ends does (Serving id) old next new = (next ≡ Over (Some id)) × does old (Close id) new
Ends does (Refused left) old next new = (next ≡ Refused left) × (new ≡ old)
Ends does (Over session) old next new = (next ≡ Over session) × (new ≡ old)

-- reading or writing failed: a session is closed
abbrev pub Breaks : {E : Type 0} → (E → Call → E → Type 0) → Connection → E → Connection → E → Type 0
Breaks does (Logging_in line) old next new = (next ≡ Over None) × (new ≡ old)
Breaks does (Serving id) old next new = (next ≡ Over (Some id)) × does old (Close id) new
Breaks does (Refused left) old next new = (next ≡ Over None) × (new ≡ old)
Breaks does (Over session) old next new = (next ≡ Over session) × (new ≡ old)

-- WHAT IS WRITTEN

-- the bytes that wait to be written
abbrev pub waiting : {E : Type 0} → (ℕ → E → List ℕ) → Connection → E → List ℕ
waiting pending (Logging_in line) s = []
waiting pending (Serving id) s = pending id s
waiting pending (Refused left) s = left
waiting pending (Over session) s = []

-- the first n of them were written, and wait no longer
abbrev pub Writes : {E : Type 0} → (E → Call → E → Type 0) → ℕ → Connection → E → Connection → E → Type 0
Writes does n (Logging_in line) old next new = (next ≡ Logging_in line) × (new ≡ old)
Writes does n (Serving id) old next new = (next ≡ Serving id) × does old (Took id n) new
Writes does n (Refused left) old next new = (next ≡ Refused (drop n left)) × (new ≡ old)
Writes does n (Over session) old next new = (next ≡ Over session) × (new ≡ old)

-- IN PIECES

-- in whatever pieces bytes are read of a connection, it and the server come to what they come to by all of them at once
abbrev pub ReadsInPieces : {E : Type 0} → (E → Call → E → Type 0) → (ℕ → E → Bool) → Type 0
ReadsInPieces {E = E} does live =
    (tickets : List (List ℕ × List ℕ)) (xs ys : List ℕ) (conn mid next : Connection) (old now new : E)
    → Receives does live tickets xs conn old mid now → Receives does live tickets ys mid now next new → Receives does live tickets (xs ++ ys) conn old next new

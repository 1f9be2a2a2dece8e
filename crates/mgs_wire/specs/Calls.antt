-- CALLS: what connections ask of a server. A server is a type `E` of states with three words: `does old call new` says that
-- the call may lead from one state to another with its answer, `live id state` whether a session is open, and
-- `pending id state` the bytes that wait for its terminal.
use Rattle.std.specs.Prelude.{◌≡◌, ℕ, ◌<◌, ◌^◌, Bool, false, MatchBool, List, [], ◌∷◌, Option, Some, None, Result}
use Rattle.mgs_model.specs.declared.errors.OpenFault.{OpenFault}
use Rattle.mgs_model.specs.declared.errors.Keyed.{Keyed}
use Rattle.mgs_wire.specs.declared.refusal.Refusal.{Refusal}

pub data Call : Type 0 where
  -- a session of a user, the size of its terminal, and the answer
  Open : (user : List ℕ) → (rows cols : ℕ) → (answer : Result ℕ OpenFault) → Call
  -- a login was refused before a session was asked for: the name that its line said, none where it was no login line, and why
  Refuse : (name : List ℕ) → (cause : Refusal) → Call
  -- a byte of a session, and the answer
  Byte : (id byte : ℕ) → (answer : Keyed) → Call
  -- a session ends
  Close : (id : ℕ) → Call
  -- so many of the bytes that waited for a session's terminal were written
  Took : (id n : ℕ) → Call

-- these bytes are keys of a session: each is one call, in their order, while the session is open; the rest is dropped
abbrev pub Typed : {E : Type 0} → (E → Call → E → Type 0) → (ℕ → E → Bool) → ℕ → List ℕ → E → E → Type 0
Typed does live id [] old new = new ≡ old
Typed {E = E} does live id (b ∷ bs) old new =
    MatchBool (live id old) ((answer : Keyed) × (mid : E) × does old (Byte id b answer) mid × Typed does live id bs mid new) (new ≡ old)

-- an id is below the next one; each is, where there is none
abbrev pub IsBefore : ℕ → Option ℕ → Type 0
IsBefore id None = Unit {0}
IsBefore id (Some next) = id < next

-- for no session between one and the next bytes wait
abbrev pub PassesNone : {E : Type 0} → (ℕ → E → List ℕ) → ℕ → Option ℕ → E → Type 0
PassesNone pending after next s = (id : ℕ) → id < 2 ^ 64 → after < id → IsBefore id next → pending id s ≡ []

-- and none of them ended and is to be told
abbrev pub PassesNoEnd : {E : Type 0} → (ℕ → E → Bool) → ℕ → Option ℕ → E → Type 0
PassesNoEnd is_ended after next s = (id : ℕ) → id < 2 ^ 64 → after < id → IsBefore id next → is_ended id s ≡ false

-- CALLS of a server, one after another
abbrev pub AreMade : {E : Type 0} → (E → Call → E → Type 0) → E → List Call → E → Type 0
AreMade does old [] new = new ≡ old
AreMade {E = E} does old (c ∷ cs) new = (mid : E) × does old c mid × AreMade does mid cs new

-- nothing but calls leads from one state to another
pub record Calls {E : Type 0} (does : E → Call → E → Type 0) (old new : E) : Type 0 where
  pub calls : List Call
  pub made : AreMade does old calls new

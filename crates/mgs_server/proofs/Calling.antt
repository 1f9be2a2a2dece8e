-- What connections do to a server is nothing but calls.
use Rattle.std.proofs.Common.{◌≡◌, ℕ, Bool, true, false, nat_le, MatchBool, List, [], ◌∷◌, ◌++◌, length, Option, Some, None, Result, Ok, Err, refl, subst}
use Rattle.mgs_model.specs.declared.errors.OpenFault.{OpenFault}
use Rattle.mgs_model.specs.declared.errors.Keyed.{Keyed}
use Rattle.mgs_wire.specs.declared.login.TheConstants.{LOGIN_LIMIT}
use Rattle.mgs_wire.specs.declared.refusal.Refusal.{Refusal}
use Rattle.mgs_wire.specs.declared.refusal.Refusal.TheVariants as refusals
use Rattle.mgs_wire.specs.declared.pump.PumpedIn.{PumpedIn}
use Rattle.mgs_wire.specs.declared.pump.PumpedIn.TheVariants.{Took, Idle, Finished, Failed}
use Rattle.mgs_wire.specs.declared.pump.PumpedOut.{PumpedOut}
use Rattle.mgs_wire.specs.declared.pump.PumpedOut.TheVariants as out
use Rattle.mgs_wire.specs.Login.{Opening, line_in, after_line, admission, name_in}
use Rattle.mgs_wire.specs.Calls.{AreMade, Byte, Call, Calls, Close, Open, Refuse, Typed}
use Rattle.mgs_wire.specs.Calls as wire
use Rattle.mgs_wire.specs.Connections.{Connection, Logging_in, Serving, Refused, Over, Answered, TurnsAway, Enters, Continues, Receives, Ends, Breaks, Writes, is_reading}
use Rattle.mgs_wire.specs.Pumps.{PumpsIn, Finishes, Reads, Leaves, WritesFirst}

module _ {E : Type 0} (does : E → Call → E → Type 0) where
  pub made_then : (old mid new : E) (xs ys : List Call) → AreMade does old xs mid → AreMade does mid ys new → AreMade does old (xs ++ ys) new
  made_then old mid new [] ys p q = subst (λ s. AreMade does s ys new) p q
  made_then old mid new (x ∷ xs) ys p q = (p.0, p.1, made_then p.0 mid new xs ys p.2 q)

  -- no call
  pub none_made : (old new : E) → new ≡ old → Calls does old new
  none_made old new e = record { calls = []; made = e }

  pub one_made : (old new : E) (c : Call) → does old c new → Calls does old new
  one_made old new c d = record { calls = c ∷ []; made = (new, d, refl) }

  -- some calls, and then others
  pub calls_then : (old mid new : E) → Calls does old mid → Calls does mid new → Calls does old new
  calls_then old mid new p q = record { calls = p.calls ++ q.calls; made = made_then old mid new p.calls q.calls p.made q.made }

  -- KEYS
  typed_next : (live : ℕ → E → Bool) (id b : ℕ) (bytes : List ℕ) (old new : E) → ((mid : E) → Typed does live id bytes mid new → Calls does mid new)
      → (v : Bool) → MatchBool v ((answer : Keyed) × (mid : E) × does old (Byte id b answer) mid × Typed does live id bytes mid new) (new ≡ old) → Calls does old new
  typed_next live id b bytes old new more true t = calls_then old t.1 new (one_made old t.1 (Byte id b t.0) t.2) (more t.1 t.3)
  typed_next live id b bytes old new more false t = none_made old new t

  calls_typed : (live : ℕ → E → Bool) (id : ℕ) (bytes : List ℕ) (old new : E) → Typed does live id bytes old new → Calls does old new
  calls_typed live id [] old new t = none_made old new t
  calls_typed live id (b ∷ bytes) old new t = typed_next live id b bytes old new (λ mid u. calls_typed live id bytes mid new u) (live id old) t

  -- A LOGIN
  calls_answered : (live : ℕ → E → Bool) (answer : Result ℕ OpenFault) (rest : List ℕ) (old new : E) (next : Connection) → Answered does live answer rest old next new → Calls does old new
  calls_answered live (Ok id) rest old new next p = calls_typed live id rest old new p.1
  calls_answered live (Err fault) rest old new next p = none_made old new p.1

  calls_enters : (live : ℕ → E → Bool) (name : List ℕ) (who : Result Opening Refusal) (rest : List ℕ) (old new : E) (next : Connection) → Enters does live name who rest old next new → Calls does old new
  calls_enters live name (Ok o) rest old new next p = calls_then old p.1 new (one_made old p.1 (Open o.user o.rows o.cols p.0) p.2) (calls_answered live p.0 rest p.1 new next p.3)
  calls_enters live name (Err r) rest old new next p = one_made old new (Refuse name r) p.1

  calls_continues : (live : ℕ → E → Bool) (tickets : List (List ℕ × List ℕ)) (line : List ℕ) (rest : Option (List ℕ)) (old new : E) (next : Connection) → Continues does live tickets line rest old next new → Calls does old new
  calls_continues live tickets line None old new next p = none_made old new p.1
  calls_continues live tickets line (Some rest) old new next p = calls_enters live (name_in line) (admission tickets line) rest old new next p

  calls_logs_in : (live : ℕ → E → Bool) (tickets : List (List ℕ × List ℕ)) (bytes : List ℕ) (old new : E) (next : Connection) (v : Bool) → MatchBool v (Continues does live tickets (line_in bytes) (after_line bytes) old next new) (TurnsAway does [] refusals.Line old next new) → Calls does old new
  calls_logs_in live tickets bytes old new next true p = calls_continues live tickets (line_in bytes) (after_line bytes) old new next p
  calls_logs_in live tickets bytes old new next false p = one_made old new (Refuse [] refusals.Line) p.1

  -- WHAT IS READ, AND HOW THAT ENDS
  calls_receives : (live : ℕ → E → Bool) (tickets : List (List ℕ × List ℕ)) (bytes : List ℕ) (conn next : Connection) (old new : E) → Receives does live tickets bytes conn old next new → Calls does old new
  calls_receives live tickets bytes (Logging_in line) next old new p = calls_logs_in live tickets (line ++ bytes) old new next (nat_le (length (line_in (line ++ bytes))) LOGIN_LIMIT) p
  calls_receives live tickets bytes (Serving id) next old new p = calls_typed live id bytes old new p.1
  calls_receives live tickets bytes (Refused left) next old new p = none_made old new p.1
  calls_receives live tickets bytes (Over session) next old new p = none_made old new p.1

  calls_ends : (conn next : Connection) (old new : E) → Ends does conn old next new → Calls does old new
  calls_ends (Logging_in line) next old new p = one_made old new (Refuse [] refusals.Line) p.1
  calls_ends (Serving id) next old new p = one_made old new (Close id) p.1
  calls_ends (Refused left) next old new p = none_made old new p.1
  calls_ends (Over session) next old new p = none_made old new p.1

  pub calls_breaks : (conn next : Connection) (old new : E) → Breaks does conn old next new → Calls does old new
  calls_breaks (Logging_in line) next old new p = none_made old new p.1
  calls_breaks (Serving id) next old new p = one_made old new (Close id) p.1
  calls_breaks (Refused left) next old new p = none_made old new p.1
  calls_breaks (Over session) next old new p = none_made old new p.1

  calls_reads : (live : ℕ → E → Bool) (tickets : List (List ℕ × List ℕ)) (result : PumpedIn) (left rest : Option (List ℕ)) (conn next : Connection) (old new : E) → Reads does live tickets result left rest conn old next new → Calls does old new
  calls_reads live tickets (Took n) left rest conn next old new p = calls_receives live tickets p.0 conn next old new p.5
  calls_reads live tickets Idle left rest conn next old new p = none_made old new p.2
  calls_reads live tickets Finished left rest conn next old new p = calls_ends conn next old new p.2
  calls_reads live tickets Failed left rest conn next old new p = calls_breaks conn next old new p.1

  pumped_by : (live : ℕ → E → Bool) (tickets : List (List ℕ × List ℕ)) (result : PumpedIn) (left rest : Option (List ℕ)) (conn next : Connection) (old new : E) (v : Bool) → is_reading live conn old ≡ v → PumpsIn does live tickets result left rest conn old next new → Finishes live result conn old next new → Calls does old new
  pumped_by live tickets result left rest conn next old new true e p q = calls_reads live tickets result left rest conn next old new (p e)
  pumped_by live tickets result left rest conn next old new false e p q = none_made old new (q e).2

  -- one read of a connection
  pub calls_pumped : (live : ℕ → E → Bool) (tickets : List (List ℕ × List ℕ)) (result : PumpedIn) (left rest : Option (List ℕ)) (conn next : Connection) (old new : E) → PumpsIn does live tickets result left rest conn old next new → Finishes live result conn old next new → Calls does old new
  calls_pumped live tickets result left rest conn next old new p q = pumped_by live tickets result left rest conn next old new (is_reading live conn old) refl p q

  -- WHAT IS WRITTEN
  calls_writes : (n : ℕ) (conn next : Connection) (old new : E) → Writes does n conn old next new → Calls does old new
  calls_writes n (Logging_in line) next old new p = none_made old new p.1
  calls_writes n (Serving id) next old new p = one_made old new (wire.Took id n) p.1
  calls_writes n (Refused left) next old new p = none_made old new p.1
  calls_writes n (Over session) next old new p = none_made old new p.1

  calls_leaves : (result : PumpedOut) (n : ℕ) (conn next : Connection) (old new : E) → Leaves does result n conn old next new → Calls does old new
  calls_leaves out.Drained n conn next old new p = calls_writes n conn next old new p
  calls_leaves out.Blocked n conn next old new p = calls_writes n conn next old new p
  calls_leaves out.Failed n conn next old new p = calls_then old p.1 new (calls_writes n conn p.0 old p.1 p.2) (calls_breaks p.0 next p.1 new p.3)

  -- one writing to a connection
  pub calls_written : (result : PumpedOut) (bytes : List ℕ) (held holds : Option (List ℕ)) (conn next : Connection) (old new : E) → WritesFirst does result bytes held holds conn old next new → Calls does old new
  calls_written result bytes held holds conn next old new p = calls_leaves result p.count conn next old new p.leaves

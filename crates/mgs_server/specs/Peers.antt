-- CONNECTIONS UNDER THEIR KEYS, beside the server that they ask, and what is done to them.
use Rattle.std.specs.Prelude.{◌≡◌, ◌≢◌, ℕ, ◌<◌, Bool, true, false, MatchBool, List, [], ◌∷◌, Option, Some, None, is_some, option_map, map, slice_index_or, nat_eq, Result}
use Rattle.std.specs.declared.io.Error.{Error}
use Rattle.slab.specs.Slab.{Slab}
use Rattle.mgs_wire.specs.declared.pump.PumpedIn.{PumpedIn}
use Rattle.mgs_wire.specs.declared.pump.PumpedIn.TheVariants.{Took, Idle, Finished, Failed}
use Rattle.mgs_wire.specs.declared.pump.PumpedOut.{PumpedOut}
use Rattle.mgs_wire.specs.Calls.{Call, PassesNone, PassesNoEnd}
use Rattle.mgs_wire.specs.Connections.{Connection, Logging_in, Serving, Refused, Over, Breaks, is_logging_in, is_over, is_reading, session_of, stopped}
use Rattle.mgs_wire.specs.Pumps.{PumpsIn, PumpsOut, PutsOut, Finishes}
use Rattle.mio.specs.declared.event.event.Event.{Event}
use Rattle.mio.specs.Event.{event_token}
use Rattle.mgs_server.specs.declared.peer.Peer.{Peer}

-- what is served, and the connection under each key, where there is one
pub record ServerState (E : Type 0) : Type 0 where
  pub served : E
  pub peers : ℕ → Option Connection

abbrev pub server_state : {E : Type 0} → E → (ℕ → Option Connection) → ServerState E
server_state s peers = record { served = s; peers = peers }

-- the connection under a key of these
abbrev pub under : List (Option Connection) → ℕ → Option Connection
under slots key = slice_index_or slots key None

abbrev pub slots_of : {S : Type 0} → Slab (Peer S) → List (Option Connection)
slots_of slab = map (option_map (λ p. p.conn)) slab.slots

abbrev pub peers_of : {S : Type 0} → Slab (Peer S) → ℕ → Option Connection
peers_of slab = under (slots_of slab)

abbrev pub server_with : {E S : Type 0} → E → Slab (Peer S) → ServerState E
server_with s slab = server_state s (peers_of slab)

-- one key has something else now
pub record IsChanged (key : ℕ) (slot : Option Connection) (old new : ℕ → Option Connection) : Type 0 where
  pub changed : new key ≡ slot
  pub others : (other : ℕ) → other ≢ key → new other ≡ old other

-- the connection under a key is over
pub record IsOverAt (key : ℕ) (peers : ℕ → Option Connection) : Type 0 where
  pub conn : Connection
  pub found : peers key ≡ Some conn
  pub over : is_over conn ≡ true

-- nothing is read of it any more
abbrev pub is_closing : Connection → Bool
is_closing (Logging_in line) = false
is_closing (Serving id) = false
is_closing (Refused left) = true
is_closing (Over session) = true

-- some bytes were read of one
abbrev pub is_taking : PumpedIn → Bool
is_taking (Took n) = true
is_taking Idle = false
is_taking Finished = false
is_taking Failed = false

-- one that goes on is as it was, and so is what is served
abbrev pub IsUnread : {E : Type 0} → Connection → E → Connection → E → Type 0
IsUnread conn old next new = is_closing next ≡ false → (next ≡ conn) × (new ≡ old)

-- a connection is read from its own stream
abbrev pub ReadsPeer : {E S : Type 0} → (E → Call → E → Type 0) → (ℕ → E → Bool) → (S → Option (List ℕ)) → List (List ℕ × List ℕ) → PumpedIn → Peer S → E → Peer S → E → Type 0
ReadsPeer does live remaining tickets answer peer old next new = PumpsIn does live tickets answer (remaining peer.stream) (remaining next.stream) peer.conn old next.conn new

-- NEW ONES, of which nothing was read, each under a key that had none
abbrev pub AreTaken : (ℕ → Option Connection) → List ℕ → (ℕ → Option Connection) → Type 0
AreTaken old [] new = new ≡ old
AreTaken old (key ∷ keys) new = (mid : ℕ → Option Connection) × (old key ≡ None) × IsChanged key (Some (Logging_in [])) old mid × AreTaken mid keys new

pub record Taken (old new : ℕ → Option Connection) : Type 0 where
  pub keys : List ℕ
  pub taken : AreTaken old keys new

-- WHAT IS DONE WITH ONE
pub data Step : Type 0 where
  -- it is read once
  Reads : (answer : PumpedIn) → Step
  -- what waits for it is written, as far as its stream takes that
  Writes : (answer : PumpedOut) → Step
  -- its session is not open, so that nothing more is read or written
  Stops : Step
  -- it is given up, as where reading fails
  GivesUp : Step
  -- its login line has not ended in time
  Expires : Step

-- WHAT IS DONE WITH ALL
pub data Move : Type 0 where
  -- a connection is taken, of which nothing was read
  Comes : (key : ℕ) → Move
  -- it is read and written
  Serves : (key : ℕ) → (steps : List Step) → Move
  -- it is closed, where it is over
  Goes : (key : ℕ) → Move

module _ {E : Type 0} (does : E → Call → E → Type 0) (live : ℕ → E → Bool) (pending : ℕ → E → List ℕ) (tickets : List (List ℕ × List ℕ)) where
  -- what its stream has to be read, and what it took, may be anything before and after
  abbrev pub IsStep : Connection → E → Step → Connection → E → Type 0
  IsStep conn old (Reads answer) next new = (left rest : Option (List ℕ)) × PumpsIn does live tickets answer left rest conn old next new × Finishes live answer conn old next new
  IsStep conn old (Writes answer) next new = (held holds : Option (List ℕ)) × PumpsOut does pending answer held holds conn old next new
  IsStep conn old Stops next new = (is_reading live conn old ≡ false) × (next ≡ stopped conn) × (new ≡ old)
  IsStep conn old GivesUp next new = Breaks does conn old next new
  IsStep conn old Expires next new = (is_logging_in conn ≡ true) × (next ≡ Over None) × (new ≡ old)

  abbrev pub AreSteps : Connection → E → List Step → Connection → E → Type 0
  AreSteps conn old [] next new = (next ≡ conn) × (new ≡ old)
  AreSteps conn old (s ∷ ss) next new = (between : Connection) × (mid : E) × IsStep conn old s between mid × AreSteps between mid ss next new

  -- some steps, one after another, lead from a connection and what is served to what they are then
  pub record Stepped (conn : Connection) (old : E) (next : Connection) (new : E) : Type 0 where
    pub steps : List Step
    pub made : AreSteps conn old steps next new

  abbrev pub IsMove : ServerState E → Move → ServerState E → Type 0
  IsMove old (Comes key) new = (old.peers key ≡ None) × IsChanged key (Some (Logging_in [])) old.peers new.peers × (new.served ≡ old.served)
  IsMove old (Serves key steps) new =
      (conn next : Connection) × (old.peers key ≡ Some conn) × IsChanged key (Some next) old.peers new.peers × AreSteps conn old.served steps next new.served
  IsMove old (Goes key) new = IsOverAt key old.peers × IsChanged key None old.peers new.peers × (new.served ≡ old.served)

  abbrev pub AreMoves : ServerState E → List Move → ServerState E → Type 0
  AreMoves old [] new = new ≡ old
  AreMoves old (m ∷ ms) new = (mid : ServerState E) × IsMove old m mid × AreMoves mid ms new

  -- some moves, one after another, lead from the one state to the other
  pub record Moved (old new : ServerState E) : Type 0 where
    pub moves : List Move
    pub made : AreMoves old moves new

-- whatever the tickets are
abbrev pub MovedByAny : {E : Type 0} → (E → Call → E → Type 0) → (ℕ → E → Bool) → (ℕ → E → List ℕ) → ServerState E → ServerState E → Type 0
MovedByAny does live pending old new = (tickets : List (List ℕ × List ℕ)) → Moved does live pending tickets old new

-- WHAT IS WRITTEN WHERE IT IS DUE

-- a session's connection
abbrev pub is_session : ℕ → Option ℕ → Bool
is_session id None = false
is_session id (Some x) = nat_eq x id

abbrev pub is_conn_of : ℕ → Option Connection → Bool
is_conn_of id None = false
is_conn_of id (Some conn) = is_session id (session_of conn)

-- its key, where it has one
abbrev pub FindsKey : (ℕ → Option Connection) → ℕ → ℕ → Type 0
FindsKey peers id key = (k : ℕ) → is_conn_of id (peers k) ≡ true → is_conn_of id (peers key) ≡ true

-- a session that is written, and the key of its connection
pub record Due : Type 0 where
  pub id : ℕ
  pub key : ℕ

module _ {E S : Type 0} (does : E → Call → E → Type 0) (live : ℕ → E → Bool) (pending : ℕ → E → List ℕ) (answers : S → List ℕ → Result ℕ Error → S → Type 0) where
  -- what waits for a connection is written to a stream, as far as that takes it; where its session is not open nothing waits
  pub record WritesTo (conn : Connection) (old : E) (before : S) (next : Connection) (new : E) (after : S) : Type 0 where
    pub mid : Connection
    pub reading : is_reading live conn old ≡ true → mid ≡ conn
    pub stopped : is_reading live conn old ≡ false → mid ≡ stopped conn
    pub answer : PumpedOut
    pub put : PutsOut does pending answers answer mid old before next new after

  -- to its own stream, to which nothing else is written
  abbrev pub WritesPeer : Peer S → E → Peer S → E → Type 0
  WritesPeer peer old next new = WritesTo peer.conn old peer.stream next.conn new next.stream

  -- so of a connection whose stream is not told
  pub record WritesConn (conn : Connection) (old : E) (next : Connection) (new : E) : Type 0 where
    pub before : S
    pub after : S
    pub written : WritesTo conn old before next new after

  -- so the connection under a key, if there is one; it may be over then
  abbrev pub WritesOpen : Option Connection → ℕ → Bool → ServerState E → ServerState E → Type 0
  WritesOpen None key over old new = (over ≡ false) × (new ≡ old)
  WritesOpen (Some conn) key over old new = (next : Connection) × WritesConn conn old.served next new.served × IsChanged key (Some next) old.peers new.peers × (is_over next ≡ over)

  -- it is closed where it is over then
  abbrev pub Closes : Bool → ℕ → (ℕ → Option Connection) → (ℕ → Option Connection) → Type 0
  Closes true key old new = IsChanged key None old new
  Closes false key old new = new ≡ old

  abbrev pub WritesSlot : Option Connection → ℕ → ServerState E → ServerState E → Type 0
  WritesSlot None key old new = new ≡ old
  WritesSlot (Some conn) key old new =
      (next : Connection) × (mid : ℕ → Option Connection) × WritesConn conn old.served next new.served × IsChanged key (Some next) old.peers mid × Closes (is_over next) key mid new.peers

  -- so the connection under a key, if there is one
  abbrev pub WritesAt : ℕ → ServerState E → ServerState E → Type 0
  WritesAt key old new = WritesSlot (old.peers key) key old new

  -- each session's in turn, above one, for which bytes wait, or which ended: at the end there is no more
  abbrev pub AreWritten : (ℕ → E → Bool) → ℕ → List Due → ServerState E → ServerState E → Type 0
  AreWritten is_ended id [] old new = PassesNone pending id None old.served × PassesNoEnd is_ended id None old.served × (new ≡ old)
  AreWritten is_ended id (d ∷ ds) old new =
      (id < d.id) × PassesNone pending id (Some d.id) old.served × PassesNoEnd is_ended id (Some d.id) old.served × FindsKey old.peers d.id d.key × (mid : ServerState E) × WritesAt d.key old mid × AreWritten is_ended d.id ds mid new

  pub record WritesDue (is_ended : ℕ → E → Bool) (old new : ServerState E) : Type 0 where
    pub dues : List Due
    pub written : AreWritten is_ended 0 dues old new

-- WHAT IS READ WHERE THAT IS REPORTED
module _ {E : Type 0} (does : E → Call → E → Type 0) (live : ℕ → E → Bool) (tickets : List (List ℕ × List ℕ)) where
  -- one of which something was read goes on, or is given up where the system cannot be asked to report it again
  abbrev pub GoesOn : PumpedIn → Connection → E → Connection → E → Type 0
  GoesOn (Took n) conn old next new = (is_given_up : Bool) × MatchBool is_given_up (Breaks does conn old next new) ((next ≡ conn) × (new ≡ old))
  GoesOn Idle conn old next new = (next ≡ conn) × (new ≡ old)
  GoesOn Finished conn old next new = (next ≡ conn) × (new ≡ old)
  GoesOn Failed conn old next new = (next ≡ conn) × (new ≡ old)

  -- it is read once
  pub record ReadsConn (conn : Connection) (old : E) (next : Connection) (new : E) : Type 0 where
    pub answer : PumpedIn
    pub left : Option (List ℕ)
    pub rest : Option (List ℕ)
    pub mid : Connection
    pub between : E
    pub read : PumpsIn does live tickets answer left rest conn old mid between
    pub finished : Finishes live answer conn old mid between
    pub goes_on : GoesOn answer mid between next new

  abbrev pub ReadsSlot : Option Connection → ℕ → ServerState E → ServerState E → Type 0
  ReadsSlot None key old new = new ≡ old
  ReadsSlot (Some conn) key old new = (next : Connection) × ReadsConn conn old.served next new.served × IsChanged key (Some next) old.peers new.peers

  -- so the connection under a key, if there is one
  abbrev pub ReadsAt : ℕ → ServerState E → ServerState E → Type 0
  ReadsAt key old new = ReadsSlot (old.peers key) key old new

-- WHAT IS REPORTED, each in its turn: what was reported of is read, it is written, and then each other where that is due
module _ {E S : Type 0} (does : E → Call → E → Type 0) (live : ℕ → E → Bool) (pending : ℕ → E → List ℕ) (answers : S → List ℕ → Result ℕ Error → S → Type 0) (is_ended : ℕ → E → Bool) (tickets : List (List ℕ × List ℕ)) where
  pub record Handles (key : ℕ) (old new : ServerState E) : Type 0 where
    pub read : ServerState E
    pub reads : ReadsAt does live tickets key old read
    pub written : ServerState E
    pub writes : WritesAt does live pending answers key read written
    pub due : WritesDue does live pending answers is_ended written new

  abbrev pub HandlesAll : List ℕ → ServerState E → ServerState E → Type 0
  HandlesAll [] old new = new ≡ old
  HandlesAll (key ∷ keys) old new = (mid : ServerState E) × Handles key old mid × HandlesAll keys mid new

  -- some came, and then each that was reported was handled
  pub record ServesReady (reported : List ℕ) (old new : ServerState E) : Type 0 where
    pub peers : ℕ → Option Connection
    pub taken : Taken old.peers peers
    pub handled : HandlesAll reported (server_state old.served peers) new

-- the keys that were reported
abbrev pub keys_in : List Event → List ℕ
keys_in events = map (λ e. (event_token e).0) events

-- WHOSE LOGIN LINES DO NOT END

abbrev pub is_login : Option Connection → Bool
is_login None = false
is_login (Some conn) = is_logging_in conn

-- some of those whose login line has not ended were closed, and no other
pub record ClosesLogins (old new : ℕ → Option Connection) : Type 0 where
  pub gone : (key : ℕ) → is_some (new key) ≡ false → is_some (old key) ≡ true → is_login (old key) ≡ true
  pub kept : (key : ℕ) → is_some (new key) ≡ true → new key ≡ old key

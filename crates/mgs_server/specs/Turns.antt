-- TURNS: what a turn does to a server.
use Rattle.std.specs.Prelude.{◌≡◌, ℕ, Bool, List, Option, Result}
use Rattle.std.specs.declared.io.Error.{Error}
use Rattle.mgs_wire.specs.Calls.{AreMade, Call}
use Rattle.mgs_wire.specs.Connections.{Connection}
use Rattle.mgs_server.specs.Listening.{Listening}
use Rattle.mgs_server.specs.Peers.{ClosesLogins, Moved, ServesReady, server_state, under}

-- Some connections came; then each that the wait reported was handled, in order: it was read once, what waits for it was written, and then
-- what waits for each other session, as far as its stream took that; and some whose login line had not ended were closed. By that they made
-- calls of what is served, and nothing else was asked of it. Then each session that ended was told.
pub record Turns {E S : Type 0} (does : E → Call → E → Type 0) (live : ℕ → E → Bool) (pending : ℕ → E → List ℕ) (is_ended : ℕ → E → Bool)
    (tells : E → E → Type 0) (runs : E → List Call → E → E → Type 0) (answers : S → List ℕ → Result ℕ Error → S → Type 0) (old new : Listening E) : Type 0 where
  pub served : E
  pub peers : ℕ → Option Connection
  pub ready : ServesReady does live pending answers is_ended old.tickets new.reported (server_state old.serving (under old.peers)) (server_state served peers)
  pub closes : ClosesLogins peers (under new.peers)
  pub moved : Moved does live pending old.tickets (server_state old.serving (under old.peers)) (server_state served (under new.peers))
  pub told : tells served new.serving
  pub calls : List Call
  pub made : AreMade does old.serving calls served
  pub ran : runs old.serving calls served new.serving
  pub tickets : new.tickets ≡ old.tickets
  pub port : new.port ≡ old.port

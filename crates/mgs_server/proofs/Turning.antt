-- What the sockets did in a turn, and then each that ended was told.
use Rattle.std.proofs.Common.{◌≡◌, ℕ, Bool, List, Option, Result, refl, sym, subst}
use Rattle.std.specs.declared.io.Error.{Error}
use Rattle.slab.specs.Slab.{Slab}
use Rattle.mgs_wire.specs.Calls.{AreMade, Call, Calls}
use Rattle.mgs_wire.specs.Connections.{Connection}
use Rattle.mgs_server.specs.declared.peer.Peer.{Peer}
use Rattle.mgs_server.specs.Listening.{Listening}
use Rattle.mgs_server.specs.Peers.{ClosesLogins, Moved, ServesReady, peers_of, server_state, server_with, slots_of, under}
use Rattle.mgs_server.specs.Turns.{Turns}
use Rattle.mgs_server.proofs.Moving.{moved_calls, moved_then}

module _ {E X : Type 0} (does : E → Call → E → Type 0) (live : ℕ → E → Bool) (pending : ℕ → E → List ℕ) (is_ended : ℕ → E → Bool)
    (tells : E → E → Type 0) (runs : E → List Call → E → E → Type 0) (answers : X → List ℕ → Result ℕ Error → X → Type 0) where
  -- whatever led to what was served then
  abbrev Runs : E → E → Type 0
  Runs served new = (first : E) (calls : List Call) → AreMade does first calls served → runs first calls served new

  turned : (old new : Listening E) (served : E) (peers : ℕ → Option Connection)
      → ServesReady does live pending answers is_ended old.tickets new.reported (server_state old.serving (under old.peers)) (server_state served peers) → ClosesLogins peers (under new.peers)
      → Moved does live pending old.tickets (server_state old.serving (under old.peers)) (server_state served (under new.peers)) → tells served new.serving → Runs served new.serving
      → new.tickets ≡ old.tickets → new.port ≡ old.port → Turns does live pending is_ended tells runs answers old new
  turned old new served peers ready closes moved told run tickets port =
      let c : Calls does old.serving served = moved_calls does live pending old.tickets (server_state old.serving (under old.peers)) (server_state served (under new.peers)) moved in
      record { served = served; peers = peers; ready = ready; closes = closes; moved = moved; told = told; calls = c.calls; made = c.made; ran = run old.serving c.calls c.made; tickets = tickets; port = port }

  -- the same of a slab of connections, and of the view of a server: those that are ready were served, and those that came too late closed
  pub turned_in : {S : Type 0} (serving between served told : E) (peers before mid now : Slab (Peer S)) (first reported last : List ℕ) (tickets : List (List ℕ × List ℕ)) (port : ℕ) (old : Listening E) → before ≡ peers
      → ServesReady does live pending answers is_ended tickets reported (server_with serving before) (server_with between mid) → last ≡ reported
      → Moved does live pending tickets (server_with serving before) (server_with between mid) → Moved does live pending tickets (server_with between mid) (server_with served now)
      → served ≡ between → ClosesLogins (peers_of mid) (peers_of now)
      → tells served told → Runs served told → record { serving = serving; peers = slots_of peers; tickets = tickets; port = port; reported = first } ≡ old
      → Turns does live pending is_ended tells runs answers old (record { serving = told; peers = slots_of now; tickets = tickets; port = port; reported = last })
  turned_in {S} serving between served told peers before mid now first reported last tickets port old waited ready kept moved late same closes heard run seen =
      let start : Listening E = record { serving = serving; peers = slots_of peers; tickets = tickets; port = port; reported = first } in
      let end : Listening E = record { serving = told; peers = slots_of now; tickets = tickets; port = port; reported = last } in
      let all : Moved does live pending tickets (server_with serving before) (server_with served now) =
      moved_then does live pending tickets (server_with serving before) (server_with between mid) (server_with served now) moved late in
      let served_so : ServesReady does live pending answers is_ended tickets reported (server_with serving before) (server_with served mid) =
      subst (λ (s : E). ServesReady does live pending answers is_ended tickets reported (server_with serving before) (server_with s mid)) (sym same) ready in
      let reported_so : ServesReady does live pending answers is_ended tickets last (server_with serving before) (server_with served mid) =
      subst (λ (keys : List ℕ). ServesReady does live pending answers is_ended tickets keys (server_with serving before) (server_with served mid)) (sym kept) served_so in
      subst (λ (l : Listening E). Turns does live pending is_ended tells runs answers l end) seen
      (turned start end served (peers_of mid)
      (subst (λ (slab : Slab (Peer S)). ServesReady does live pending answers is_ended tickets last (server_with serving slab) (server_with served mid)) waited reported_so) closes
      (subst (λ (slab : Slab (Peer S)). Moved does live pending tickets (server_with serving slab) (server_with served now)) waited all) heard run refl refl)

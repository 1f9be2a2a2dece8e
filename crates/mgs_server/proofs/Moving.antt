-- What is done with connections, one thing after another.
use Rattle.std.proofs.Common.{◌≡◌, ℕ, zero, suc, map, Bool, true, false, List, [], ◌∷◌, ◌++◌, Option, Some, None, refl, sym, ap, subst, ◌∙◌}
use Rattle.std.specs.Prelude.{option_map, slice_index_or, Result, Ok, Err, IfOk, OnErr, IsSome}
use Rattle.slab.specs.Slab.{Slab, get, Updates, with_value}
use Rattle.slab.proofs.SlabLemmas.{Updates-with_value}
use Rattle.mgs_wire.specs.declared.pump.PumpedIn.{PumpedIn}
use Rattle.mgs_wire.specs.declared.pump.PumpedIn.TheVariants.{Took, Idle, Finished, Failed}
use Rattle.mgs_wire.specs.declared.pump.PumpedOut.{PumpedOut}
use Rattle.mgs_wire.specs.declared.pump.PumpedOut.TheVariants as out
use Rattle.mgs_wire.specs.Calls.{Call, Calls}
use Rattle.mgs_wire.specs.Connections.{Connection, Logging_in, Serving, Refused, Over, waiting, is_logging_in, is_reading, stopped, Breaks, Ends, Writes}
use Rattle.mgs_wire.specs.Pumps.{PumpsIn, Finishes, Leaves, WritesFirst}
use Rattle.mgs_server.specs.declared.peer.Peer.{Peer}
use Rattle.mgs_server.specs.Peers.{ServerState, server_state, peers_of, under, IsChanged, AreTaken, Taken, Step, Reads, Writes as Writing, Stops, GivesUp, Expires, Move, Comes, Serves, Goes, IsStep, AreSteps, Stepped, IsMove, AreMoves, Moved, IsOverAt, IsUnread, is_closing, is_taking}
use Rattle.mgs_server.proofs.Calling.{calls_breaks, calls_pumped, calls_then, calls_written, none_made}

-- SLABS

-- what stands under a key is the slab's
pub under_slots : {S : Type 0} (slots : List (Option (Peer S))) (key : ℕ) → under (map (option_map (λ p. p.conn)) slots) key ≡ option_map (λ p. p.conn) (slice_index_or slots key None)
under_slots [] key = refl
under_slots (x ∷ slots) zero = refl
under_slots (x ∷ slots) (suc key) = under_slots slots key

pub updated : {S : Type 0} (old new : Slab (Peer S)) (key : ℕ) (slot : Option (Peer S)) → Updates old new key slot → IsChanged key (option_map (λ p. p.conn) slot) (peers_of old) (peers_of new)
updated old new key slot u = record {
  changed = under_slots new.slots key ∙ ap (option_map (λ p. p.conn)) u.changed;
  others = λ other d. under_slots new.slots other ∙ ap (option_map (λ p. p.conn)) (u.others other d) ∙ sym (under_slots old.slots other);
}

-- what stands under a key was read and written
pub found_at : {S : Type 0} (s : Slab (Peer S)) (key : ℕ) (p : Peer S) → Some p ≡ get s key → peers_of s key ≡ Some p.conn
found_at s key p e = under_slots s.slots key ∙ ap (option_map (λ p. p.conn)) (sym e)

pub changed_at : {S : Type 0} (s : Slab (Peer S)) (key : ℕ) (p q : Peer S) → Some p ≡ get s key → IsChanged key (Some q.conn) (peers_of s) (peers_of (with_value s key q))
changed_at s key p q e = updated s (with_value s key q) key (Some q) (Updates-with_value s key q (subst IsSome e refl))

-- NEW ONES

pub none_taken : (old new : ℕ → Option Connection) → new ≡ old → Taken old new
none_taken old new e = record { keys = []; taken = e }

pub one_taken : (old new : ℕ → Option Connection) (key : ℕ) → old key ≡ None → IsChanged key (Some (Logging_in [])) old new → Taken old new
one_taken old new key free c = record { keys = key ∷ []; taken = (new, free, c, refl) }

taken_next : (old mid new : ℕ → Option Connection) (xs ys : List ℕ) → AreTaken old xs mid → AreTaken mid ys new → AreTaken old (xs ++ ys) new
taken_next old mid new [] ys p q = subst (λ f. AreTaken f ys new) p q
taken_next old mid new (x ∷ xs) ys p q = (p.0, p.1, p.2, taken_next p.0 mid new xs ys p.3 q)

pub taken_then : (old mid new : ℕ → Option Connection) → Taken old mid → Taken mid new → Taken old new
taken_then old mid new p q = record { keys = p.keys ++ q.keys; taken = taken_next old mid new p.keys q.keys p.taken q.taken }

pub placed : {S F : Type 0} (result : Result ℕ F) (old new : Slab (Peer S)) (p : Peer S) → p.conn ≡ Logging_in [] → IfOk result (λ key. get old key ≡ None) → IfOk result (λ key. Updates old new key (Some p)) → OnErr result (new ≡ record old { capacity = new.capacity }) → Taken (peers_of old) (peers_of new)
placed (Ok key) old new p first free u same =
    let c : IsChanged key (Some p.conn) (peers_of old) (peers_of new) = updated old new key (Some p) u in
    one_taken (peers_of old) (peers_of new) key (under_slots old.slots key ∙ ap (option_map (λ p. p.conn)) free) (subst (λ (conn : Connection). IsChanged key (Some conn) (peers_of old) (peers_of new)) first c)
placed (Err e) old new p first free u same = none_taken (peers_of old) (peers_of new) (ap peers_of same)

-- WHEN ONE IS OVER

closing_stopped : (conn : Connection) → is_closing (stopped conn) ≡ true
closing_stopped (Logging_in line) = refl
closing_stopped (Serving id) = refl
closing_stopped (Refused left) = refl
closing_stopped (Over session) = refl

closing_written : {E : Type 0} (does : E → Call → E → Type 0) (n : ℕ) (conn next : Connection) (old new : E) → is_closing conn ≡ true → Writes does n conn old next new → is_closing next ≡ true
closing_written does n (Logging_in line) next old new c p = absurd cc
closing_written does n (Serving id) next old new c p = absurd cc
closing_written does n (Refused left) next old new c p = ap is_closing p.0
closing_written does n (Over session) next old new c p = ap is_closing p.0

pub closing_broken : {E : Type 0} (does : E → Call → E → Type 0) (conn next : Connection) (old new : E) → Breaks does conn old next new → is_closing next ≡ true
closing_broken does (Logging_in line) next old new p = ap is_closing p.0
closing_broken does (Serving id) next old new p = ap is_closing p.0
closing_broken does (Refused left) next old new p = ap is_closing p.0
closing_broken does (Over session) next old new p = ap is_closing p.0

pub closing_leaves : {E : Type 0} (does : E → Call → E → Type 0) (outcome : PumpedOut) (n : ℕ) (conn next : Connection) (old new : E) → is_closing conn ≡ true → Leaves does outcome n conn old next new → is_closing next ≡ true
closing_leaves does out.Drained n conn next old new c p = closing_written does n conn next old new c p
closing_leaves does out.Blocked n conn next old new c p = closing_written does n conn next old new c p
closing_leaves does out.Failed n conn next old new c p = closing_broken does p.0 next p.1 new p.3

-- nothing more is read of one that was stopped
pub closing_stopped_as : (conn mid : Connection) → mid ≡ stopped conn → is_closing mid ≡ true
closing_stopped_as conn mid e = ap is_closing e ∙ closing_stopped conn

-- WHEN NOTHING WAS READ OF ONE

closing_ended : {E : Type 0} (does : E → Call → E → Type 0) (conn next : Connection) (old new : E) → Ends does conn old next new → is_closing next ≡ true
closing_ended does (Logging_in line) next old new p = ap is_closing p.0
closing_ended does (Serving id) next old new p = ap is_closing p.0
closing_ended does (Refused left) next old new p = ap is_closing p.0
closing_ended does (Over session) next old new p = ap is_closing p.0

-- one of which nothing more is read does not go on
unread_closing : {E : Type 0} (conn next : Connection) (old new : E) → is_closing next ≡ true → IsUnread conn old next new
unread_closing conn next old new e = λ f. absurd cc

unread_by : {E : Type 0} (does : E → Call → E → Type 0) (live : ℕ → E → Bool) (tickets : List (List ℕ × List ℕ)) (answer : PumpedIn) (left rest : Option (List ℕ)) (conn next : Connection) (old new : E) (v : Bool) → is_reading live conn old ≡ v
    → PumpsIn does live tickets answer left rest conn old next new → Finishes live answer conn old next new → is_taking answer ≡ false → IsUnread conn old next new
unread_by does live tickets answer left rest conn next old new false e p q t = unread_closing conn next old new (ap is_closing (q e).1 ∙ closing_stopped conn)
unread_by does live tickets (Took n) left rest conn next old new true e p q t = absurd cc
unread_by does live tickets Idle left rest conn next old new true e p q t = λ f. ((p e).1, (p e).2)
unread_by does live tickets Finished left rest conn next old new true e p q t = unread_closing conn next old new (closing_ended does conn next old new (p e).2)
unread_by does live tickets Failed left rest conn next old new true e p q t = unread_closing conn next old new (closing_broken does conn next old new (p e).1)

pub unread : {E : Type 0} (does : E → Call → E → Type 0) (live : ℕ → E → Bool) (tickets : List (List ℕ × List ℕ)) (answer : PumpedIn) (left rest : Option (List ℕ)) (conn next : Connection) (old new : E)
    → PumpsIn does live tickets answer left rest conn old next new → Finishes live answer conn old next new → is_taking answer ≡ false → IsUnread conn old next new
unread does live tickets answer left rest conn next old new p q t = unread_by does live tickets answer left rest conn next old new (is_reading live conn old) refl p q t

module _ {E : Type 0} (does : E → Call → E → Type 0) (live : ℕ → E → Bool) (pending : ℕ → E → List ℕ) (tickets : List (List ℕ × List ℕ)) where
  -- ONE

  abbrev Steps : Connection → E → Connection → E → Type 0
  Steps conn old next new = Stepped does live pending tickets conn old next new

  pub none_stepped : (conn next : Connection) (old new : E) → next ≡ conn → new ≡ old → Steps conn old next new
  none_stepped conn next old new c e = record { steps = []; made = (c, e) }

  pub read_stepped : (answer : PumpedIn) (left rest : Option (List ℕ)) (conn next : Connection) (old new : E) → PumpsIn does live tickets answer left rest conn old next new → Finishes live answer conn old next new → Steps conn old next new
  read_stepped answer left rest conn next old new p q = record { steps = Reads answer ∷ []; made = (next, new, (left, rest, p, q), (refl, refl)) }

  pub written_stepped : (answer : PumpedOut) (held holds : Option (List ℕ)) (conn next : Connection) (old new : E) → WritesFirst does answer (waiting pending conn old) held holds conn old next new → Steps conn old next new
  written_stepped answer held holds conn next old new p = record { steps = Writing answer ∷ []; made = (next, new, (held, holds, p), (refl, refl)) }

  stopped_by : (conn mid : Connection) (old : E) (v : Bool) → is_reading live conn old ≡ v → (v ≡ true → mid ≡ conn) → (v ≡ false → mid ≡ stopped conn) → Steps conn old mid old
  stopped_by conn mid old true e same stop = none_stepped conn mid old old (same refl) refl
  stopped_by conn mid old false e same stop = record { steps = Stops ∷ []; made = (mid, old, (e, stop refl, refl), (refl, refl)) }

  pub given_up_stepped : (conn next : Connection) (old new : E) → Breaks does conn old next new → Steps conn old next new
  given_up_stepped conn next old new p = record { steps = GivesUp ∷ []; made = (next, new, p, (refl, refl)) }

  -- a login line that has not ended is given up
  pub expired_stepped : (conn next : Connection) (old new : E) → is_logging_in conn ≡ true → Breaks does conn old next new → Steps conn old next new
  expired_stepped (Logging_in line) next old new e p = record { steps = Expires ∷ []; made = (next, new, (refl, p.0, p.1), (refl, refl)) }
  expired_stepped (Serving id) next old new e p = absurd cc
  expired_stepped (Refused left) next old new e p = absurd cc
  expired_stepped (Over session) next old new e p = absurd cc

  steps_next : (conn between next : Connection) (old mid new : E) (xs ys : List Step) → AreSteps does live pending tickets conn old xs between mid → AreSteps does live pending tickets between mid ys next new → AreSteps does live pending tickets conn old (xs ++ ys) next new
  steps_next conn between next old mid new [] ys p q =
      subst (λ s. AreSteps does live pending tickets conn s ys next new) p.1 (subst (λ c. AreSteps does live pending tickets c mid ys next new) p.0 q)
  steps_next conn between next old mid new (x ∷ xs) ys p q = (p.0, p.1, p.2, steps_next p.0 between next p.1 mid new xs ys p.3 q)

  pub stepped_then : (conn between next : Connection) (old mid new : E) → Steps conn old between mid → Steps between mid next new → Steps conn old next new
  stepped_then conn between next old mid new p q = record { steps = p.steps ++ q.steps; made = steps_next conn between next old mid new p.steps q.steps p.made q.made }

  -- one whose session is not open is stopped, and then what waits is written
  pub write_stepped : (conn mid next : Connection) (old new : E) → (is_reading live conn old ≡ true → mid ≡ conn) → (is_reading live conn old ≡ false → mid ≡ stopped conn) → Steps mid old next new → Steps conn old next new
  write_stepped conn mid next old new same stop p = stepped_then conn mid next old old new (stopped_by conn mid old (is_reading live conn old) refl same stop) p

  -- ALL

  abbrev Moves : ServerState E → ServerState E → Type 0
  Moves old new = Moved does live pending tickets old new

  pub none_moved : (old new : ServerState E) → new ≡ old → Moves old new
  none_moved old new e = record { moves = []; made = e }

  one_moved : (old new : ServerState E) (m : Move) → IsMove does live pending tickets old m new → Moves old new
  one_moved old new m p = record { moves = m ∷ []; made = (new, p, refl) }

  moves_next : (old mid new : ServerState E) (xs ys : List Move) → AreMoves does live pending tickets old xs mid → AreMoves does live pending tickets mid ys new → AreMoves does live pending tickets old (xs ++ ys) new
  moves_next old mid new [] ys p q = subst (λ d. AreMoves does live pending tickets d ys new) p q
  moves_next old mid new (x ∷ xs) ys p q = (p.0, p.1, moves_next p.0 mid new xs ys p.2 q)

  pub moved_then : (old mid new : ServerState E) → Moves old mid → Moves mid new → Moves old new
  moved_then old mid new p q = record { moves = p.moves ++ q.moves; made = moves_next old mid new p.moves q.moves p.made q.made }

  -- one connection was read and written
  pub served_moved : (key : ℕ) (conn next : Connection) (old new : E) (before now : ℕ → Option Connection) → before key ≡ Some conn → IsChanged key (Some next) before now → Steps conn old next new → Moves (server_state old before) (server_state new now)
  served_moved key conn next old new before now found c p = one_moved (server_state old before) (server_state new now) (Serves key p.steps) (conn, next, found, c, p.made)

  -- one was closed
  pub gone_moved : (key : ℕ) (s : E) (before now : ℕ → Option Connection) → IsOverAt key before → IsChanged key None before now → Moves (server_state s before) (server_state s now)
  gone_moved key s before now over c = one_moved (server_state s before) (server_state s now) (Goes key) (over, c, refl)

  taken_keys : (s : E) (keys : List ℕ) (before now : ℕ → Option Connection) → AreTaken before keys now → Moves (server_state s before) (server_state s now)
  taken_keys s [] before now p = none_moved (server_state s before) (server_state s now) (ap (server_state s) p)
  taken_keys s (key ∷ keys) before now p =
      moved_then (server_state s before) (server_state s p.0) (server_state s now) (one_moved (server_state s before) (server_state s p.0) (Comes key) (p.1, p.2, refl)) (taken_keys s keys p.0 now p.3)

  -- some came
  pub taken_moved : (s : E) (before now : ℕ → Option Connection) → Taken before now → Moves (server_state s before) (server_state s now)
  taken_moved s before now p = taken_keys s p.keys before now p.taken

  -- CALLS: what is done with connections is nothing but calls to the server

  calls_step : (step : Step) (conn next : Connection) (old new : E) → IsStep does live pending tickets conn old step next new → Calls does old new
  calls_step (Reads answer) conn next old new p = calls_pumped does live tickets answer p.0 p.1 conn next old new p.2 p.3
  calls_step (Writing answer) conn next old new p = calls_written does answer (waiting pending conn old) p.0 p.1 conn next old new p.2
  calls_step Stops conn next old new p = none_made does old new p.2
  calls_step GivesUp conn next old new p = calls_breaks does conn next old new p
  calls_step Expires conn next old new p = none_made does old new p.2

  calls_steps : (steps : List Step) (conn next : Connection) (old new : E) → AreSteps does live pending tickets conn old steps next new → Calls does old new
  calls_steps [] conn next old new p = none_made does old new p.1
  calls_steps (s ∷ ss) conn next old new p = calls_then does old p.1 new (calls_step s conn p.0 old p.1 p.2) (calls_steps ss p.0 next p.1 new p.3)

  calls_move : (m : Move) (old new : ServerState E) → IsMove does live pending tickets old m new → Calls does old.served new.served
  calls_move (Comes key) old new p = none_made does old.served new.served p.2
  calls_move (Serves key steps) old new p = calls_steps steps p.0 p.1 old.served new.served p.4
  calls_move (Goes key) old new p = none_made does old.served new.served p.2

  calls_moves : (ms : List Move) (old new : ServerState E) → AreMoves does live pending tickets old ms new → Calls does old.served new.served
  calls_moves [] old new p = none_made does old.served new.served (ap (λ (d : ServerState E). d.served) p)
  calls_moves (m ∷ ms) old new p = calls_then does old.served p.0.served new.served (calls_move m old p.0 p.1) (calls_moves ms p.0 new p.2)

  pub moved_calls : (old new : ServerState E) → Moves old new → Calls does old.served new.served
  moved_calls old new p = calls_moves p.moves old new p.made

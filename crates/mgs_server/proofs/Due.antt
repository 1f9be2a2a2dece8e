-- What is written where it is due.
use Rattle.std.proofs.Common.{◌≡◌, ℕ, zero, suc, ◌+◌, ◌<◌, ◌≤◌, Bool, true, false, List, [], ◌∷◌, map, length, Option, Some, None, Result, refl, sym, ap, subst, ◌∙◌, inl, inr, arith}
use Rattle.std.specs.Prelude.{option_map}
use Rattle.std.specs.declared.io.Error.{Error}
use Rattle.std.proofs.lemmas.Bool.{cases_lt}
use Rattle.mio.specs.declared.event.event.Event.{Event}
use Rattle.slab.specs.Slab.{Slab}
use Rattle.mgs_wire.specs.Calls.{Call, PassesNone, PassesNoEnd}
use Rattle.mgs_wire.specs.Connections.{Connection, is_over}
use Rattle.mgs_server.specs.declared.peer.Peer.{Peer}
use Rattle.mgs_server.specs.Peers.{ServerState, server_state, peers_of, under, FindsKey, IsChanged, WritesConn, WritesOpen, WritesSlot, WritesAt, AreWritten, Due, Closes, HandlesAll, is_conn_of, keys_in}

-- no key past the last has a connection
past_last : {S : Type 0} (slots : List (Option (Peer S))) (k : ℕ) → length slots ≤ k → under (map (option_map (λ p. p.conn)) slots) k ≡ None
past_last [] k l = refl
past_last (x ∷ xs) zero l = absurd (omega (arith, l))
past_last (x ∷ xs) (suc k) l = past_last xs k (omega (arith, l))

pub none_before : {S : Type 0} (s : Slab (Peer S)) (id from : ℕ) → (k : ℕ) → from ≤ k → k < from → is_conn_of id (peers_of s k) ≡ false
none_before s id from k le lt = absurd (omega (arith, le, lt))

pub none_more : {S : Type 0} (s : Slab (Peer S)) (id from key : ℕ) → ((k : ℕ) → from ≤ k → k < key → is_conn_of id (peers_of s k) ≡ false) → is_conn_of id (peers_of s key) ≡ false → (k : ℕ) → from ≤ k → k < key + 1 → is_conn_of id (peers_of s k) ≡ false
none_more s id from key before here k le lt =
    elim (cases_lt k key) [
      | inl less ↦ before k le less
      | inr ge ↦ subst (λ (n : ℕ). is_conn_of id (peers_of s n) ≡ false) (let e : key ≡ k = omega (arith, lt, ge) in e) here
    ]

-- a key of which all before and after it has none
pub none_found : {S : Type 0} (s : Slab (Peer S)) (id from capacity key : ℕ) → length s.slots ≤ capacity → ((k : ℕ) → from ≤ k → k < capacity → is_conn_of id (peers_of s k) ≡ false) → ((k : ℕ) → k < from → is_conn_of id (peers_of s k) ≡ false)
    → FindsKey (peers_of s) id key
none_found s id from capacity key le above below = λ k h.
    elim (cases_lt k from) [
      | inl lt ↦ let f = below k lt in absurd cc
      | inr ge ↦
          elim (cases_lt k capacity) [
            | inl lt ↦ let f = above k ge lt in absurd cc
            | inr past ↦ let f : is_conn_of id (peers_of s k) ≡ false = ap (is_conn_of id) (past_last s.slots k (omega (arith, le, past))) in absurd cc
          ]
    ]

module _ {E S : Type 0} (does : E → Call → E → Type 0) (live : ℕ → E → Bool) (pending : ℕ → E → List ℕ) (answers : S → List ℕ → Result ℕ Error → S → Type 0) where
  -- what was found is written, and may be over then
  pub open_at : (slot : Option Connection) (conn next : Connection) (key : ℕ) (over : Bool) (old new : ServerState E) → slot ≡ Some conn → WritesConn does live pending answers conn old.served next new.served → IsChanged key (Some next) old.peers new.peers → over ≡ is_over next
      → WritesOpen does live pending answers slot key over old new
  open_at None conn next key over old new e w c o = absurd cc
  open_at (Some x) conn next key over old new e w c o =
      let same : x ≡ conn = cc in
      (next, subst (λ (y : Connection). WritesConn does live pending answers y old.served next new.served) (sym same) w, c, sym o)

  pub closed_at : (slot : Option Connection) (key : ℕ) (over : Bool) (old mid : ServerState E) (now : ℕ → Option Connection) → WritesOpen does live pending answers slot key over old mid → Closes does live pending answers over key mid.peers now
      → WritesSlot does live pending answers slot key old (server_state mid.served now)
  closed_at None key true old mid now w c = absurd cc
  closed_at None key false old mid now w c = ap (λ f. server_state mid.served f) c ∙ w.1
  closed_at (Some conn) key over old mid now w c = (w.0, mid.peers, w.1, w.2, subst (λ b. Closes does live pending answers b key mid.peers now) (sym w.3) c)

  -- one more is written
  pub due_next : (is_ended : ℕ → E → Bool) (id next key : ℕ) (old mid new : ServerState E) (ds : List Due) → PassesNone pending id (Some next) old.served → PassesNoEnd is_ended id (Some next) old.served → id < next → FindsKey old.peers next key → WritesAt does live pending answers key old mid
      → AreWritten does live pending answers is_ended next ds mid new → AreWritten does live pending answers is_ended id (record { id = next; key = key } ∷ ds) old new
  due_next is_ended id next key old mid new ds p q l f w d = (l, p, q, f, mid, w, d)

  -- none is left
  pub due_none : (is_ended : ℕ → E → Bool) (id : ℕ) (s : ServerState E) → PassesNone pending id None s.served → PassesNoEnd is_ended id None s.served → AreWritten does live pending answers is_ended id [] s s
  due_none is_ended id s p q = (p, q, refl)

-- nothing more was reported
pub none_handled : {E S : Type 0} (does : E → Call → E → Type 0) (live : ℕ → E → Bool) (pending : ℕ → E → List ℕ) (answers : S → List ℕ → Result ℕ Error → S → Type 0) (is_ended : ℕ → E → Bool) (tickets : List (List ℕ × List ℕ)) (events : List Event) (s : ServerState E) → length events ≡ 0 → HandlesAll does live pending answers is_ended tickets (keys_in events) s s
none_handled does live pending answers is_ended tickets [] s e = refl
none_handled does live pending answers is_ended tickets (x ∷ xs) s e = absurd (omega (arith, e))

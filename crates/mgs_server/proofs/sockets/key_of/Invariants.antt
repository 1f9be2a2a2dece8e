use Rattle.std.proofs.Common.{◌≡◌, ℕ, ◌<◌, ◌≤◌, false}
use Rattle.mgs_server.specs.Peers.{is_conn_of, peers_of}
use Rattle.mgs_server.proofs.sockets.key_of.Given as goal

-- none from there up to here
abbrev pub invariant-loop-key : goal.invariant-loop-key
invariant-loop-key g l = (k : ℕ) → l.from ≤ k → k < l.key → is_conn_of l.id (peers_of l.peers k) ≡ false

abbrev pub invariant-loop-key-2 : goal.invariant-loop-key-2
invariant-loop-key-2 g l = (k : ℕ) → k < l.key → is_conn_of l.id (peers_of l.peers k) ≡ false

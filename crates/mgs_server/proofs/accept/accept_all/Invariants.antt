use Rattle.std.proofs.Common.{◌≤◌}
use Rattle.slab.specs.Slab.{slab_len}
use Rattle.mgs_model.specs.declared.limits.TheConstants.{SESSION_LIMIT}
use Rattle.mgs_server.specs.Peers.{Taken, peers_of}
use Rattle.mgs_server.proofs.accept.accept_all.Given as goal

abbrev pub invariant-loop : goal.invariant-loop
invariant-loop l = (slab_len l.initial.peers ≤ SESSION_LIMIT → slab_len l.peers ≤ SESSION_LIMIT) × Taken (peers_of l.initial.peers) (peers_of l.peers)

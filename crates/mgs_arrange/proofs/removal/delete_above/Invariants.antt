use Rattle.std.proofs.Common.{◌≡◌}
use Rattle.mgs_world.specs.Sound.{IsSessionSound}
use Rattle.mgs_world.specs.Worlds.{session_of}
use Rattle.mgs_arrange.specs.Arranged.{others_gone}
use Rattle.mgs_arrange.specs.Arranging.{Rearranged}
use Rattle.mgs_arrange.proofs.removal.delete_above.Given as goal

-- nothing but the session changed, and the others still go the same way
abbrev pub invariant-loop-session : goal.invariant-loop-session
invariant-loop-session g l = record {
  sound : IsSessionSound l.buffers l.session;
  rearranged : Rearranged l.initial.buffers l.buffers l.initial.session l.session;
  same : others_gone (session_of l.buffers l.session) ≡ others_gone (session_of l.initial.buffers l.initial.session);
}

abbrev pub decreases-loop-session : goal.decreases-loop-session
decreases-loop-session g l = l.session.windows.selected

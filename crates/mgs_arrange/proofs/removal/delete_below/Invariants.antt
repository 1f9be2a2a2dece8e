use Rattle.std.proofs.Common.{◌≡◌, length}
use Rattle.mgs_world.specs.Sound.{IsSessionSound}
use Rattle.mgs_world.specs.Worlds.{session_of}
use Rattle.mgs_arrange.specs.Arranged.{others_gone}
use Rattle.mgs_arrange.specs.Arranging.{Rearranged}
use Rattle.mgs_arrange.proofs.removal.delete_below.Given as goal

-- nothing but the session changed, and the others still go the same way
abbrev pub invariant-loop-buffers : goal.invariant-loop-buffers
invariant-loop-buffers g l = record {
  sound : IsSessionSound l.buffers l.session;
  rearranged : Rearranged l.initial.buffers l.buffers l.initial.session l.session;
  same : others_gone (session_of l.buffers l.session) ≡ others_gone (session_of l.initial.buffers l.initial.session);
  first : l.session.windows.selected ≡ 0;
}

abbrev pub decreases-loop-buffers : goal.decreases-loop-buffers
decreases-loop-buffers g l = length l.session.windows.windows

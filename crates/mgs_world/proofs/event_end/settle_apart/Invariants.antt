use Rattle.std.proofs.Common.{◌≡◌, drop}
use Rattle.mgs_world.specs.Sound.{IsSound}
use Rattle.mgs_world.specs.Apart.{after_all_apart}
use Rattle.mgs_world.proofs.event_end.settle_apart.Given as goal

-- the sessions that are left do to what is kept now what all do to what was kept
abbrev pub invariant-loop-session : goal.invariant-loop-session
invariant-loop-session g l = record {
  sound : IsSound l.buffers l.sessions;
  rest : after_all_apart l.directory l.touched l.id l.buffers (drop l.session-index l.sessions) ≡ after_all_apart l.directory l.touched l.id l.initial.buffers l.sessions;
}

use Rattle.std.proofs.Common.{◌≡◌, drop}
use Rattle.mgs_world.specs.Sound.{IsSessionSound}
use Rattle.mgs_world.specs.Settling.{after_windows}
use Rattle.mgs_world.proofs.event_end.settle_session.Given as goal

-- the windows that are left do to what is kept now what all do to what was kept
abbrev pub invariant-loop-window : goal.invariant-loop-window
invariant-loop-window g l = record {
  sound : IsSessionSound l.buffers l.session;
  rest : after_windows l.directory l.session.user l.buffers (drop l.window-index l.session.windows.windows) ≡ after_windows l.directory l.session.user l.initial.buffers l.session.windows.windows;
}

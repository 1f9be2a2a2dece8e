use Rattle.std.proofs.Common.{drop}
use Rattle.mgs_world.specs.Sound.{window_uses}
use Rattle.mgs_world.proofs.Dropping.{Gone}
use Rattle.mgs_world.proofs.window_marks.drop_windows.Given as goal

abbrev pub invariant-loop-window : goal.invariant-loop-window
invariant-loop-window g l = Gone window_uses l.initial.buffers l.buffers l.windows (drop l.window-index l.windows)

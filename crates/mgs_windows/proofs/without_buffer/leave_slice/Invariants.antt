use Rattle.std.proofs.Common.{◌≡◌, ◌++◌, take, drop, map}
use Rattle.mgs_windows.specs.Panes.{window_without_buffer}
use Rattle.mgs_windows.proofs.without_buffer.leave_slice.Given as goal

-- what is left, behind what is done, gives what all does
abbrev pub invariant-loop-window : goal.invariant-loop-window
invariant-loop-window l = take l.window-index l.windows ++ map (window_without_buffer l.name) (drop l.window-index l.windows) ≡ map (window_without_buffer l.name) l.initial.windows

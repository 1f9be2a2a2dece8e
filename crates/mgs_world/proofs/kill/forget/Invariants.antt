use Rattle.std.proofs.Common.{◌≡◌, ◌++◌, take, drop, map}
use Rattle.mgs_world.specs.Killing.{session_forgetting}
use Rattle.mgs_world.proofs.kill.forget.Given as goal

-- what is left, behind what is done, gives what all does
abbrev pub invariant-loop-session : goal.invariant-loop-session
invariant-loop-session l = take l.session-index l.sessions ++ map (session_forgetting l.name) (drop l.session-index l.sessions) ≡ map (session_forgetting l.name) l.initial.sessions

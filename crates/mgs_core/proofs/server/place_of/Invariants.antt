use Rattle.std.proofs.Common.{◌≡◌, ◌+◌, drop}
use Rattle.std.specs.List.{position_or_len}
use Rattle.mgs_world.specs.Worlds.{session_id}
use Rattle.mgs_core.proofs.server.place_of.Given as goal

-- the place is so many after the sessions that were passed
abbrev pub invariant-loop-session : goal.invariant-loop-session
invariant-loop-session l =
    (l.at ≡ l.session-index) × (position_or_len (session_id l.id) l.sessions ≡ l.session-index + position_or_len (session_id l.id) (drop l.session-index l.sessions))

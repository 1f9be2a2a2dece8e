use Rattle.std.proofs.Common.{◌≡◌, ◌++◌, take, drop, map}
use Rattle.mgs_session.specs.Seeking.{session_edited}
use Rattle.mgs_world.proofs.search_places.follow_edit_in_all.Given as goal

-- what is left, behind what is done, gives what all does
abbrev pub invariant-loop-session : goal.invariant-loop-session
invariant-loop-session l = take l.session-index l.sessions ++ map (session_edited l.name l.edit) (drop l.session-index l.sessions) ≡ map (session_edited l.name l.edit) l.initial.sessions

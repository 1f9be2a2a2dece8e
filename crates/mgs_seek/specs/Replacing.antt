-- A query-replace: the record with which it begins, one that is taken out of its session, and what a match leaves.
use Rattle.std.specs.Prelude.{ℕ, ◌+◌, ◌-◌, min, Bool, true, false, List, length, Option, Some, None}
use Rattle.mgs_model.specs.Acts.{counted, without_all}
use Rattle.mgs_model.specs.Outcome.{At, PointPlan}
use Rattle.mgs_model.specs.World.{State}
use Rattle.mgs_model.specs.declared.echo_text.Message.TheVariants.{Replaced}
use Rattle.mgs_model.specs.declared.session.Kind.TheVariants.{Other}
use Rattle.mgs_model.specs.declared.session.Mode.TheVariants.{Replacing}
use Rattle.mgs_model.specs.declared.session.Replacement.{Replacement}
use Rattle.mgs_model.specs.declared.session.Replacement.TheVariants.{ReplaceMatch, ReplaceLast}
use Rattle.mgs_buffers.specs.MarkedBuffer.{MarkedBuffer}
use Rattle.mgs_edit.specs.Reading.{top_read}
use Rattle.mgs_windows.specs.declared.WindowMarks.{WindowMarks}
use Rattle.mgs_session.specs.Seeking.{searching}
use Rattle.mgs_session.specs.Sessions.{acted, playing_as, resting, told}
use Rattle.mgs_session.specs.declared.Session.{Session}
use Rattle.mgs_session.specs.declared.search.Aim.{Aim}
use Rattle.mgs_session.specs.declared.search.Aim.TheVariants.{Find, Replace}
use Rattle.mgs_session.specs.declared.search.Search.{Search}
use Rattle.mgs_plan.specs.Actions.{mark_gone}
use Rattle.mgs_seek.specs.Beginning.{search_held}
use Rattle.mgs_world.specs.Worlds.{aim_count, aim_old, buffers_of, size_named}

-- it begins with this text, which comes in the place of that one
abbrev pub replacing_state : List ℕ → List ℕ → State → State
replacing_state old put state = record state { mode = Replacing; input = put; old = old; count = 0 }

-- one more is replaced, and whether the next match is looked for
abbrev pub replacement : Bool → Replacement
replacement true = ReplaceLast
replacement false = ReplaceMatch

-- what is left of the searched text behind the anchor
abbrev pub remaining_in : List MarkedBuffer → Option Search → ℕ
remaining_in ks None = 0
remaining_in ks (Some s) = let size = size_named s.name (buffers_of ks) in size - min s.anchor size

abbrev pub remaining_at : ℕ → List MarkedBuffer → List Session → ℕ
remaining_at at ks xs = remaining_in ks (search_held at xs)

-- BY ITSELF: where it is a query-replace in the buffer of this name
abbrev pub if_replaces : Search → Aim → Option Search
if_replaces s (Find f) = None
if_replaces s (Replace r) = Some s

-- the query-replace that a session holds
abbrev pub replacing_of : Option Search → Option Search
replacing_of None = None
replacing_of (Some s) = if_replaces s s.aim

-- one more was replaced
abbrev pub aim_counted : Aim → Aim
aim_counted (Find f) = Find f
aim_counted (Replace r) = Replace (record r { count = counted r.count 1 })

abbrev pub search_counted : Search → Search
search_counted s = record s { aim = aim_counted s.aim }

-- A MATCH, or none

-- it is over after so many replacements
abbrev pub session_over : ℕ → Session → Session
session_over n h = playing_as (record h.state.player { todo = without_all h.state.player.todo }) (told (Replaced n) (acted Other (resting h)))

abbrev pub session_met : Option ℕ → Search → Session → Session
session_met None s h = session_over (aim_count s.aim) h
session_met (Some m) s h = acted Other (searching (record s { anchor = m }) (resting h))

-- the point is behind the next match, or where it is left without one
abbrev pub point_met : ℕ → Option ℕ → Option ℕ → PointPlan
point_met len (Some m) left = At (m + len)
point_met len None left = top_read left

-- and the buffers, where that is the point of this window
abbrev pub buffers_met : WindowMarks → Search → Option ℕ → Option ℕ → List MarkedBuffer → List MarkedBuffer
buffers_met x s next left ks = mark_gone x.name x.point (point_met (length (aim_old s.aim)) next left) ks

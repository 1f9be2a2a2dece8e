-- Positions of searches go by what an action does to a text.
use Rattle.std.specs.Prelude.{ℕ, ◌+◌, ◌<◌, ◌≤◌, ◌^◌, ◌||◌, nat_lt, List, length, map, Option, Some, None, cond}
use Rattle.mgs_model.specs.World.{Item}
use Rattle.mgs_model.specs.Plans as plans
use Rattle.mgs_buffers.specs.MarkedBuffer.{MarkedBuffer, marked_at}
use Rattle.mgs_edit.specs.Reading.{change_read, undone_read}
use Rattle.mgs_windows.specs.declared.WindowMarks.{WindowMarks}
use Rattle.mgs_session.specs.Seeking.{session_edited}
use Rattle.mgs_session.specs.declared.Session.{Session}
use Rattle.mgs_session.specs.declared.search.Edited.{Edited}
use Rattle.mgs_plan.specs.Actions.{removed_by}
use Rattle.mgs_plan.specs.declared.action.Action.{Action}
use Rattle.mgs_plan.specs.declared.action.Action.TheVariants.{Fails, Edits, Undoes, Moves, Clears}

-- an edit, if it takes something out or puts something in
abbrev pub if_edit : Edited → Option Edited
if_edit e = cond (nat_lt e.from e.to || nat_lt 0 e.added) (Some e) None

-- the edit that a change of a text of so many characters is, if it is one
abbrev pub edit_told : ℕ → plans.Change → Option Edited
edit_told size c = if_edit (record { size = size; from = c.a; to = c.b; added = length c.put })

-- the edit that an action is
abbrev pub action_edit : List ℕ → List Item → List ℕ → Action → Option Edited
action_edit text items kill (Fails message) = None
action_edit text items kill (Edits mask c) = edit_told (length text) (change_read text kill c)
action_edit text items kill (Undoes u) = edit_told (length text) (undone_read text kill (removed_by u.serial items) u)
action_edit text items kill (Moves f) = None
action_edit text items kill Clears = None

abbrev pub edit_through : WindowMarks → List MarkedBuffer → List ℕ → Action → Option Edited
edit_through x ks kill action = action_edit (marked_at x.name ks).buffer.text (marked_at x.name ks).buffer.items kill action

-- what a walk over the sessions asks of it
abbrev pub CanFollow : Option Edited → Type 0
CanFollow None = Unit {0}
CanFollow (Some e) = (e.from ≤ e.to) × (e.size + e.added < 2 ^ 64)

-- the sessions, where the positions of searches went by it
abbrev pub followed : List ℕ → Option Edited → List Session → List Session
followed name None xs = xs
followed name (Some e) xs = map (session_edited name e) xs

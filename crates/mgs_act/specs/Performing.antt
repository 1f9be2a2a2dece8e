-- What is done through a window's marks.
use Rattle.std.specs.Prelude.{◌≡◌, ◌≤◌, ◌+◌, ℕ, true, false, List, length, Option, None, Some, IsSome}
use Rattle.mgs_model.specs.Acts.{is_full}
use Rattle.mgs_model.specs.Apply.{kill_after}
use Rattle.mgs_laws.specs.Apart.{touched_by}
use Rattle.mgs_model.specs.declared.touched.Touched.{Touched}
use Rattle.mgs_laws.specs.Refusals.{takes_memory}
use Rattle.mgs_model.specs.Plans as plans
use Rattle.mgs_model.specs.Text.{is_edit}
use Rattle.mgs_model.specs.World.{State}
use Rattle.mgs_buffers.specs.MarkedBuffer.{MarkedBuffer, marked_at}
use Rattle.mgs_buffers.specs.Placing.{CanStand, placed_if}
use Rattle.mgs_marks.specs.Marks.{mark_in}
use Rattle.mgs_model.specs.Outcome.{PointPlan}
use Rattle.mgs_edit.specs.Reading.{GoesWithin, IsWithin, change_read, kill_read, point_read, put_read, top_read, undone_read}
use Rattle.mgs_edit.specs.declared.plan.Goes.{Goes}
use Rattle.mgs_edit.specs.declared.plan.Change.{Change}
use Rattle.mgs_edit.specs.declared.plan.Finish.{Finish}
use Rattle.mgs_edit.specs.declared.plan.Piece.{Piece}
use Rattle.mgs_edit.specs.declared.plan.Undone.{Undone}
use Rattle.mgs_plan.specs.Actions.{CanBeDone, CanUndo, IsMarked, edited_by, mark_gone, mark_told, marked_after, outcome_through, removed_by, session_acted}
use Rattle.mgs_plan.specs.declared.action.Action.{Action}
use Rattle.mgs_session.specs.declared.Session.{Session}
use Rattle.mgs_windows.specs.declared.WindowMarks.{WindowMarks}

-- a change, and what comes back by an undo, in the buffer of a name
abbrev pub change_in : List ℕ → List MarkedBuffer → List ℕ → Change → plans.Change
change_in name ks kill c = change_read (marked_at name ks).buffer.text kill c

abbrev pub back_in : List ℕ → List MarkedBuffer → Undone → List ℕ
back_in name ks u = removed_by u.serial (marked_at name ks).buffer.items

abbrev pub undone_in : List ℕ → List MarkedBuffer → List ℕ → Undone → plans.Change
undone_in name ks kill u = undone_read (marked_at name ks).buffer.text kill (removed_by u.serial (marked_at name ks).buffer.items) u

-- the buffers once it came back
abbrev pub buffers_undone : List ℕ → List MarkedBuffer → List ℕ → Undone → List MarkedBuffer
buffers_undone name ks kill u = edited_by name (undone_in name ks kill u) ks

-- where what a change puts in ends
abbrev pub end_in : List ℕ → List MarkedBuffer → List ℕ → Change → ℕ
end_in name ks kill c = c.from + length (put_read (marked_at name ks).buffer.text kill c.put)

-- the kill buffer once a piece is killed
abbrev pub killed_in : List ℕ → List MarkedBuffer → List ℕ → Option Piece → List ℕ
killed_in name ks kill piece = kill_after (kill_read (marked_at name ks).buffer.text kill piece) kill

abbrev pub IsEdit : plans.Change → Type 0
IsEdit c = is_edit c.a c.b c.put ≡ true

abbrev pub HasRoom : List ℕ → List MarkedBuffer → plans.Change → Type 0
HasRoom name ks c = is_full (length (marked_at name ks).buffer.text) (marked_at name ks).buffer.serial c.a c.b c.put ≡ false

abbrev pub CanComeBack : List ℕ → List MarkedBuffer → Undone → Type 0
CanComeBack name ks u =
    (kill : List ℕ) → CanUndo (marked_at name ks).buffer.text (marked_at name ks).buffer.items kill (marked_at name ks).buffer.serial u

-- point and top go where they are to, behind what was put in
abbrev pub marks_left : WindowMarks → Finish → ℕ → List MarkedBuffer → List MarkedBuffer
marks_left x left behind ks = mark_gone x.name x.top (top_read left.top) (mark_gone x.name x.point (point_read behind left.point) ks)

-- a mark and where it is to go, or none, as a plan has it
abbrev pub IsTarget : ℕ → PointPlan → Option (ℕ × ℕ) → Type 0
IsTarget mark plan target = (name : List ℕ) (ks : List MarkedBuffer) → placed_if name target ks ≡ mark_gone name mark plan ks

-- it can go there: a point, and a top
abbrev pub PointCanStand : ℕ → Goes → ℕ → Option (ℕ × ℕ) → Type 0
PointCanStand mark goes behind target =
    (k : MarkedBuffer) → IsSome (mark_in k.marks mark) → GoesWithin (length k.buffer.text) goes → behind ≤ length k.buffer.text → CanStand k.marks k.buffer.text target

abbrev pub TopCanStand : ℕ → Option ℕ → Option (ℕ × ℕ) → Type 0
TopCanStand mark top target =
    (k : MarkedBuffer) → IsSome (mark_in k.marks mark) → IsWithin (length k.buffer.text) top → CanStand k.marks k.buffer.text target

-- the buffers, and the session, once an action is done, but for the mark
abbrev pub buffers_acted : WindowMarks → List ℕ → Action → List MarkedBuffer → List MarkedBuffer
buffers_acted x kill action ks = marked_after x (marked_at x.name ks).buffer.text (marked_at x.name ks).buffer.items kill action ks

abbrev pub acted_in : WindowMarks → List MarkedBuffer → Action → Session → Session
acted_in x ks action h = session_acted (marked_at x.name ks).buffer.text action h

-- and with the mark, where it sets one
abbrev pub IsCarriedOutBy : Option ℕ → WindowMarks → Action → List MarkedBuffer → List MarkedBuffer → Session → Session → Type 0
IsCarriedOutBy None x action ks ls h y = (ls ≡ buffers_acted x h.kill action ks) × (y ≡ acted_in x ks action h)
IsCarriedOutBy (Some position) x action ks ls h y = IsMarked x position action ks ls h y

abbrev pub IsCarriedOut : WindowMarks → Action → List MarkedBuffer → List MarkedBuffer → Session → Session → Type 0
IsCarriedOut x action ks ls h y = IsCarriedOutBy (mark_told action) x action ks ls h y

-- that it takes memory
abbrev pub MayBeShort : WindowMarks → List MarkedBuffer → List ℕ → Action → Type 0
MayBeShort x ks kill action = (state : State) → takes_memory (outcome_through state x ks kill action) ≡ true

-- what it touches, by a session whose kill buffer has so many characters
abbrev pub IsTouched : WindowMarks → Action → ℕ → Touched → Type 0
IsTouched x action killed touched =
    (state : State) (ks : List MarkedBuffer) (kill : List ℕ) → length kill ≡ killed → CanBeDone ks x kill action → touched ≡ touched_by (outcome_through state x ks kill action).effect

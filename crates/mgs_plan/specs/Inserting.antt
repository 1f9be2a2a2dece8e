-- What the insertion of a buffer's text into the one that is shown comes to.
use Rattle.std.specs.Prelude.{◌≡◌, ℕ, ◌+◌, ◌≤◌, Bool, true, false, List, [], length, Option, Some, None, Ok}
use Rattle.mgs_model.specs.Access.{Directory, decision}
use Rattle.mgs_model.specs.World.{Buffer, State, may}
use Rattle.mgs_model.specs.Outcome.{Outcome}
use Rattle.mgs_model.specs.Plans as plans
use Rattle.mgs_model.specs.Acts.{edit_of, fails, finished, is_full, or_else, permitted}
use Rattle.mgs_model.specs.Apply.{change_first}
use Rattle.mgs_model.specs.declared.entry.Decision.{Decision}
use Rattle.mgs_model.specs.declared.echo_text.Message.TheVariants.{Says}
use Rattle.mgs_model.specs.declared.echo_text.Notice.TheVariants.{NoBuffer, NoSuchBuffer, Silent}
use Rattle.mgs_model.specs.declared.right.Right.TheVariants.{ReadData}
use Rattle.mgs_model.specs.declared.session.Kind.TheVariants.{Other}
use Rattle.mgs_buffers.specs.MarkedBuffer.{HasBuffer, MarkedBuffer, has_buffer, mark_at, marked_at, marked_named, marked_placed}
use Rattle.mgs_windows.specs.declared.WindowMarks.{WindowMarks}
use Rattle.mgs_session.specs.declared.Session.{Session}
use Rattle.mgs_edit.specs.Reading.{finish_read}
use Rattle.mgs_edit.specs.declared.plan.Finish.{Finish}
use Rattle.mgs_edit.specs.declared.plan.Goes.TheVariants.{Behind}
use Rattle.mgs_world.specs.Marking.{IsReserved, session_marked}
use Rattle.mgs_plan.specs.Actions.{edit_outcome, edited_by, insertion_mask, marks_gone, place_in, session_finished}

-- the mark goes to the place, and the point behind what comes in
abbrev pub leaving : ℕ → Finish
leaving place = record { point = Behind; mark = Some place; top = None; kill = None; kind = Other; told = Says Silent }

abbrev pub insertion_of : ℕ → List ℕ → plans.Change
insertion_of place put = record { a = place; b = place; put = put; finish = finish_read [] [] (place + length put) (leaving place) }

-- DECIDING

-- where a user acts through a window's marks
abbrev pub acting_place : Directory → List MarkedBuffer → List ℕ → WindowMarks → ℕ
acting_place directory ks user x =
    let b = (marked_at x.name ks).buffer in place_in (may directory user ReadData b) (mark_at x.name ks x.point) (length b.text)

-- what is decided on these rights on a buffer
abbrev pub rights_decision : Directory → List MarkedBuffer → List ℕ → List ℕ → ℕ → Decision
rights_decision directory ks user name mask =
    let b = (marked_at name ks).buffer in decision directory b.owners user b.entries mask

-- what is decided on an insertion at a place of a buffer
abbrev pub target_decision : Directory → List MarkedBuffer → List ℕ → List ℕ → ℕ → Decision
target_decision directory ks user name place =
    rights_decision directory ks user name (insertion_mask place (length (marked_at name ks).buffer.text))

-- the source is judged first
abbrev pub copy_decision : Directory → List MarkedBuffer → List ℕ → List ℕ → List ℕ → ℕ → Decision
copy_decision directory ks user source name place = or_else (rights_decision directory ks user source 1) (target_decision directory ks user name place)

-- what it comes to at a place, where the rights are granted
abbrev pub copied_at : List MarkedBuffer → State → List ℕ → List ℕ → ℕ → Outcome
copied_at ks state source name place =
    let b = (marked_at name ks).buffer in edit_outcome state name (length b.text) b.serial (Ok (insertion_of place (marked_at source ks).buffer.text))

-- and for a user
abbrev pub copy_outcome : Directory → List MarkedBuffer → State → List ℕ → List ℕ → WindowMarks → Outcome
copy_outcome directory ks state user source x =
    let place = acting_place directory ks user x in permitted state (copy_decision directory ks user source x.name place) (copied_at ks state source x.name place)

abbrev pub outcome_from : Directory → List MarkedBuffer → State → List ℕ → List ℕ → WindowMarks → Bool → Outcome
outcome_from directory ks state user source x true = copy_outcome directory ks state user source x
outcome_from directory ks state user source x false = fails state (Says NoSuchBuffer)

-- by the name that was typed, for a user whose selected window shows this
abbrev pub insertion_outcome : Directory → List MarkedBuffer → State → List ℕ → List ℕ → Option WindowMarks → Outcome
insertion_outcome directory ks state user typed None = fails state (Says NoBuffer)
insertion_outcome directory ks state user typed (Some x) = outcome_from directory ks state user typed x (has_buffer typed ks)

-- there is no room for it
abbrev pub is_copy_full : List MarkedBuffer → List ℕ → List ℕ → ℕ → Bool
is_copy_full ks source name place =
    let b = (marked_at name ks).buffer in is_full (length b.text) b.serial place place (marked_at source ks).buffer.text

-- ONCE IT IS DECIDED

abbrev pub put_outcome : State → List ℕ → ℕ → List ℕ → Outcome
put_outcome state name place put = finished state (insertion_of place put).finish (edit_of name place place put)

-- what it asks of a buffer
pub record CanPut (b : Buffer) (put : List ℕ) (place : ℕ) : Type 0 where
  pub within : place ≤ length b.text
  pub room : is_full (length b.text) b.serial place place put ≡ false

-- and of both
pub record CanCopy (ks : List MarkedBuffer) (name source : List ℕ) (place : ℕ) : Type 0 where
  pub kept : HasBuffer source ks
  pub put : CanPut (marked_at name ks).buffer (marked_at source ks).buffer.text place

-- WHAT IS DONE, but for the mark
abbrev pub buffers_inserted : WindowMarks → ℕ → List ℕ → List MarkedBuffer → List MarkedBuffer
buffers_inserted x place put ks = marks_gone x (insertion_of place put).finish (edited_by x.name (insertion_of place put) ks)

abbrev pub session_inserted : ℕ → List ℕ → Session → Session
session_inserted place put h = session_finished (insertion_of place put).finish h

-- and with it: a mark was reserved for the window if it had none
pub record IsInserted (x : WindowMarks) (place : ℕ) (put : List ℕ) (ks ls : List MarkedBuffer) (h y : Session) : Type 0 where
  pub id : ℕ
  pub between : List MarkedBuffer
  pub reserved : IsReserved x.name x.mark id ks between
  pub buffers : ls ≡ change_first (marked_named x.name) (marked_placed id place) (buffers_inserted x place put between)
  pub session : y ≡ session_marked id (session_inserted place put h)

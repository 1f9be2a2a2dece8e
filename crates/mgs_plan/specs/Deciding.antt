-- What is decided, as the model has it.
use Rattle.std.specs.Prelude.{◌≡◌, ℕ, Bool, false, true, List, [], length, Option, Some, Result, Ok, slice_get}
use Rattle.std.specs.List.{position_or_len}
use Rattle.mgs_model.specs.Access.{Directory}
use Rattle.mgs_model.specs.Acts.{creates_buffer, effects, fails, outcome, permitted, list_set, shows_named}
use Rattle.mgs_model.specs.Outcome.{Act, Create, Effect, Kill, No_effect, SetOwners, Run}
use Rattle.mgs_model.specs.Outcome as outcomes
use Rattle.mgs_model.specs.View.{View, view}
use Rattle.mgs_model.specs.World.{State}
use Rattle.mgs_model.specs.declared.entry.Decision.{Decision}
use Rattle.mgs_model.specs.declared.entry.Decision.TheVariants.{Granted}
use Rattle.mgs_model.specs.declared.echo_text.Message.{Message}
use Rattle.mgs_model.specs.declared.session.Command.TheVariants.{Ask, Rearrange, Set}
use Rattle.mgs_model.specs.declared.session.Scrolling.{Scrolling}
use Rattle.mgs_buffers.specs.Changing.{writes}
use Rattle.mgs_buffers.specs.MarkedBuffer.{HasBuffer, MarkedBuffer, has_buffer, marked_at, marked_named}
use Rattle.mgs_session.specs.Sessions.{window_marks_of}
use Rattle.mgs_session.specs.declared.Session.{Session}
use Rattle.mgs_windows.specs.declared.WindowMarks.{WindowMarks}
use Rattle.mgs_plan.specs.Actions.{CanBeDone, insertion_mask, is_setting_done, outcome_through}
use Rattle.mgs_plan.specs.Inserting.{CanCopy, copied_at, copy_outcome, put_outcome, rights_decision, target_decision}
use Rattle.mgs_plan.specs.Listed.{CanSetList, entries_planned}
use Rattle.mgs_plan.specs.Listing.{lists_named}
use Rattle.mgs_plan.specs.Rows.{CanScroll, outcome_without, rows_outcome, rows_scrolled}
use Rattle.mgs_plan.specs.Saving.{save_answered}
use Rattle.mgs_plan.specs.declared.action.Action.{Action}
use Rattle.mgs_plan.specs.declared.action.Action.TheVariants as actions
use Rattle.mgs_plan.specs.declared.outcome.EntryPlan.{EntryPlan}
use Rattle.mgs_plan.specs.declared.outcome.Outcome.{Outcome}
use Rattle.mgs_plan.specs.declared.outcome.Outcome.TheVariants.{Fails, Acts, Kills, SetsOwners, SetsList, Lists, Shows, Creates, Copies, Saves, Scrolls, Sets, Asks, Arranges}
use Rattle.mgs_world.specs.Worlds.{session_of, world_of}

-- the view of a session
abbrev pub view_at : Directory → List MarkedBuffer → List Session → Option ℕ → Session → View
view_at directory ks xs next h = view (world_of directory ks xs next) (session_of ks h)

-- what an outcome is in a view, by the buffers and by whether the store saved
abbrev pub outcome_read : List MarkedBuffer → View → Outcome → Bool → outcomes.Outcome
outcome_read ks v (Fails message) stored = fails v.session.state message
outcome_read ks v (Acts x place action) stored = outcome_through v.session.state x ks v.session.kill action
outcome_read ks v (Kills name) stored = effects v.session.state (Ok (Kill name))
outcome_read ks v (SetsOwners name new) stored = effects v.session.state (Ok (SetOwners name new))
outcome_read ks v (SetsList name plan) stored = effects v.session.state (list_set name (entries_planned plan (marked_at name ks).buffer.entries))
outcome_read ks v (Lists name) stored = lists_named v name
outcome_read ks v (Shows name) stored = shows_named v name No_effect
outcome_read ks v (Creates name) stored = shows_named v name (Create name v.session.user)
outcome_read ks v (Copies x source place) stored = put_outcome v.session.state x.name place (marked_at source ks).buffer.text
outcome_read ks v (Saves name) stored = save_answered v.session.state name (marked_at name ks).buffer.text stored
outcome_read ks v (Scrolls rows) stored = rows_outcome v.session.state rows
outcome_read ks v (Sets c n) stored = outcome v (Run (Set c) n []) stored
outcome_read ks v (Asks c n) stored = outcome v (Run (Ask c) n []) stored
outcome_read ks v (Arranges c n) stored = outcome v (Run (Rearrange c) n []) stored

-- THAT IT CAN BE DONE

-- a user is granted these rights on the buffer of a name
abbrev pub IsGranted : Directory → List MarkedBuffer → List ℕ → List ℕ → ℕ → Type 0
IsGranted directory ks user name mask = rights_decision directory ks user name mask ≡ Granted

-- those by which an action is done
abbrev pub IsActionGranted : Directory → List MarkedBuffer → List ℕ → List ℕ → Action → Type 0
IsActionGranted directory ks user name (actions.Fails message) = Unit {0}
IsActionGranted directory ks user name (actions.Edits mask c) = IsGranted directory ks user name mask × (writes mask ≡ true)
IsActionGranted directory ks user name (actions.Undoes u) = IsGranted directory ks user name 3
IsActionGranted directory ks user name (actions.Moves f) = Unit {0}
IsActionGranted directory ks user name actions.Clears = IsGranted directory ks user name 3

-- through the marks of the window that a session has selected, whose buffer stands at this place among all
pub record CanAct (directory : Directory) (ks : List MarkedBuffer) (h : Session) (x : WindowMarks) (place : ℕ) (action : Action) : Type 0 where
  pub selected : window_marks_of h ≡ Some x
  pub stands : place ≡ position_or_len (marked_named x.name) ks
  pub can : CanBeDone ks x h.kill action
  pub granted : IsActionGranted directory ks h.user x.name action

pub record CanPut (directory : Directory) (ks : List MarkedBuffer) (h : Session) (x : WindowMarks) (source : List ℕ) (place : ℕ) : Type 0 where
  pub selected : window_marks_of h ≡ Some x
  pub copy : CanCopy ks x.name source place
  pub granted : IsGranted directory ks h.user x.name (insertion_mask place (length (marked_at x.name ks).buffer.text))

-- the buffer of a name is there, and a user is granted these rights on it
pub record CanRule (directory : Directory) (ks : List MarkedBuffer) (user name : List ℕ) (mask : ℕ) : Type 0 where
  pub kept : HasBuffer name ks
  pub granted : IsGranted directory ks user name mask

pub record CanList (directory : Directory) (ks : List MarkedBuffer) (user name : List ℕ) (plan : EntryPlan) : Type 0 where
  pub can : CanSetList ks name plan
  pub granted : IsGranted directory ks user name 262144

pub record CanSave (directory : Directory) (ks : List MarkedBuffer) (user name : List ℕ) : Type 0 where
  pub kept : HasBuffer name ks
  pub granted : IsGranted directory ks user name 3
  pub file : (marked_at name ks).buffer.file ≡ true

-- what an outcome asks of the buffers, and of the session that acts
abbrev pub CanPerform : Directory → List MarkedBuffer → Session → Outcome → Type 0
CanPerform directory ks h (Fails message) = Unit {0}
CanPerform directory ks h (Acts x place action) = CanAct directory ks h x place action
CanPerform directory ks h (Kills name) = CanRule directory ks h.user name 65536
CanPerform directory ks h (SetsOwners name new) = CanRule directory ks h.user name 524288
CanPerform directory ks h (SetsList name plan) = CanList directory ks h.user name plan
CanPerform directory ks h (Lists name) = Unit {0}
CanPerform directory ks h (Shows name) = HasBuffer name ks
CanPerform directory ks h (Creates name) = has_buffer name ks ≡ false
CanPerform directory ks h (Copies x source place) = CanPut directory ks h x source place
CanPerform directory ks h (Saves name) = CanSave directory ks h.user name
CanPerform directory ks h (Scrolls rows) = CanScroll h rows
CanPerform directory ks h (Sets c n) = is_setting_done c ≡ true
CanPerform directory ks h (Asks c n) = Unit {0}
CanPerform directory ks h (Arranges c n) = Unit {0}

-- the same, once these rights are granted
abbrev pub MayPerform : Directory → List MarkedBuffer → List ℕ → List ℕ → ℕ → Session → Outcome → Type 0
MayPerform directory ks user name mask h o = IsGranted directory ks user name mask → CanPerform directory ks h o

-- whoever may perform this once they are granted can perform what it comes to
abbrev pub CanPerformJudged : Directory → List MarkedBuffer → List ℕ → List ℕ → ℕ → Outcome → Outcome → Type 0
CanPerformJudged directory ks user name mask granted o = (h : Session) → MayPerform directory ks user name mask h granted → CanPerform directory ks h o

-- every session whose user is granted these rights on the buffer of a name can perform it
abbrev pub CanWhereGranted : Directory → List MarkedBuffer → List ℕ → ℕ → Outcome → Type 0
CanWhereGranted directory ks name mask o = (h : Session) → IsGranted directory ks h.user name mask → CanPerform directory ks h o

-- whoever is granted an insertion at a place, through the marks of the window that he has selected, can perform it
abbrev pub CanWhereInserted : List MarkedBuffer → WindowMarks → ℕ → Outcome → Type 0
CanWhereInserted ks x place o = (directory : Directory) (h : Session) → window_marks_of h ≡ Some x → target_decision directory ks h.user x.name place ≡ Granted → CanPerform directory ks h o

-- THAT IT IS WHAT AN ACT COMES TO

-- by a session, whatever the store answers
abbrev pub IsOutcome : Directory → List MarkedBuffer → List Session → Option ℕ → Session → Act → Outcome → Type 0
IsOutcome directory ks xs next h c o =
    let v = view_at directory ks xs next h in (stored : Bool) → outcome v c stored ≡ outcome_read ks v o stored

-- and whichever sessions there are beside it
abbrev pub IsPlanned : Directory → List MarkedBuffer → Session → Act → Outcome → Type 0
IsPlanned directory ks h c o = (xs : List Session) (next : Option ℕ) → IsOutcome directory ks xs next h c o

-- that this is told in place of whatever was to be done
abbrev pub Refuses : Decision → Message → Type 0
Refuses d message = (state : State) (o : outcomes.Outcome) → permitted state d o ≡ fails state message

-- that it is the one, where these rights are granted a user on the buffer of a name, and else what is told of that
abbrev pub IsJudged : Directory → List MarkedBuffer → List ℕ → List ℕ → ℕ → Outcome → Outcome → Type 0
IsJudged directory ks user name mask granted o =
    (v : View) (stored : Bool) → permitted v.session.state (rights_decision directory ks user name mask) (outcome_read ks v granted stored) ≡ outcome_read ks v o stored

-- that it has this effect, or tells why there is none
abbrev pub IsRuled : List MarkedBuffer → Result Effect Message → Outcome → Type 0
IsRuled ks effect o = (v : View) (stored : Bool) → outcome_read ks v o stored ≡ effects v.session.state effect

-- that it is what it comes to that a buffer is made of this name
abbrev pub IsCreation : List MarkedBuffer → List ℕ → Outcome → Type 0
IsCreation ks typed o = (v : View) (stored : Bool) → length v.buffers ≡ length ks → creates_buffer v typed ≡ outcome_read ks v o stored

-- that it is what it comes to for a user that the text of a buffer that is there comes in, through a window's marks
abbrev pub IsCopy : Directory → List MarkedBuffer → List ℕ → List ℕ → WindowMarks → Outcome → Type 0
IsCopy directory ks user source x o = (v : View) (stored : Bool) → copy_outcome directory ks v.session.state user source x ≡ outcome_read ks v o stored

-- and at a place of the buffer of a name, where the rights are granted
abbrev pub IsCopyAt : List MarkedBuffer → List ℕ → List ℕ → ℕ → Outcome → Type 0
IsCopyAt ks source name place o = (v : View) (stored : Bool) → copied_at ks v.session.state source name place ≡ outcome_read ks v o stored

-- that it is what scrolling comes to, or any other command on a text, in a session whose selected window shows none
abbrev pub IsUnshown : Session → Option Scrolling → Outcome → Type 0
IsUnshown h scrolling o =
    (ks : List MarkedBuffer) (v : View) (stored : Bool) → outcome_without v.session.state (rows_scrolled scrolling (slice_get h.windows.windows h.windows.selected)) ≡ outcome_read ks v o stored

-- A replacement: as it is planned, and what is done.
use Rattle.std.specs.Prelude.{◌≡◌, ℕ, ◌+◌, ◌-◌, ◌<◌, ◌≤◌, ◌^◌, min, Bool, true, false, cond, List, [], length, Option, Some, None, IfSome, slice_get, slice_set}
use Rattle.std.specs.List.{position_or_len}
use Rattle.mgs_model.specs.Access.{Directory}
use Rattle.mgs_model.specs.Acts.{edit_of, fails, is_full, outcome, search_finished}
use Rattle.mgs_laws.specs.Apart.{touched_by}
use Rattle.mgs_model.specs.Apply.{act, outcome_in}
use Rattle.mgs_model.specs.Events.{with_state}
use Rattle.mgs_laws.specs.Refusals.{may_be_refused}
use Rattle.mgs_model.specs.Outcome.{Effect, Run}
use Rattle.mgs_model.specs.Plans as plans
use Rattle.mgs_model.specs.Plans.{stays}
use Rattle.mgs_model.specs.SearchCommands.{met}
use Rattle.mgs_model.specs.View.{view}
use Rattle.mgs_model.specs.declared.echo_text.Message.{Message}
use Rattle.mgs_model.specs.declared.echo_text.Message.TheVariants.{Says}
use Rattle.mgs_model.specs.declared.echo_text.Notice.TheVariants.{BufferFull}
use Rattle.mgs_model.specs.declared.session.Command.TheVariants as commands
use Rattle.mgs_model.specs.declared.session.Seeking.TheVariants.{SkipMatch, StartReplace}
use Rattle.mgs_model.specs.declared.touched.Touched.{Touched}
use Rattle.mgs_model.specs.declared.touched.Touched.TheVariants.{In, Nowhere}
use Rattle.mgs_buffers.specs.MarkedBuffer.{IsMark, MarkedBuffer, marked_at, marked_named}
use Rattle.mgs_edit.specs.Reading.{top_read}
use Rattle.mgs_search.specs.Planned.{IsReplacement}
use Rattle.mgs_search.specs.declared.query_matches.MatchPlan.{MatchPlan}
use Rattle.mgs_session.specs.Replacing.{Replacing}
use Rattle.mgs_session.specs.Seeking.{search_edited, session_edited}
use Rattle.mgs_session.specs.declared.Session.{Session}
use Rattle.mgs_session.specs.declared.search.Aim.TheVariants.{Replace}
use Rattle.mgs_session.specs.declared.search.Edited.{Edited}
use Rattle.mgs_session.specs.declared.search.Search.{Search}
use Rattle.mgs_windows.specs.declared.WindowMarks.{WindowMarks}
use Rattle.mgs_plan.specs.Actions.{edited_by}
use Rattle.mgs_seek.specs.Beginning.{search_held}
use Rattle.mgs_plan.specs.Deciding.{IsGranted}
use Rattle.mgs_plan.specs.Following.{followed, if_edit}
use Rattle.mgs_plan.specs.Tells.{touched_in}
use Rattle.mgs_world.specs.Worlds.{aim_input, aim_old, state_of, session_id, session_of, world_of}
use Rattle.mgs_seek.specs.Acting.{Does, IsSought, as_is}
use Rattle.mgs_seek.specs.Replacing.{buffers_met, remaining_at, replacement, replacing_state, search_counted, session_met}
use Rattle.mgs_seek.specs.declared.query_replace.Planned.{Planned}

-- WHAT IS TAKEN OUT, AND PUT IN, where there is a match or none
abbrev pub put_by : Bool → List ℕ → List ℕ
put_by true put = put
put_by false put = []

abbrev pub to_by : Bool → ℕ → List ℕ → ℕ
to_by true a old = a + length old
to_by false a old = a

abbrev pub edit_planned : ℕ → ℕ → Replacing → Bool → Edited
edit_planned size a r replaces = record { size = size; from = a; to = to_by replaces a r.pattern; added = length (put_by replaces r.put) }

-- of what a session looks for
abbrev pub old_of : Option Search → List ℕ
old_of None = []
old_of (Some s) = aim_old s.aim

abbrev pub put_in : Option Search → List ℕ
put_in None = []
put_in (Some s) = aim_input s.aim

abbrev pub put_of : Bool → Option Search → List ℕ
put_of replaces o = put_by replaces (put_in o)

abbrev pub change_planned : Planned → Option Search → plans.Change
change_planned p o = record { a = p.edit.from; b = p.edit.to; put = put_of p.plan.replaces o; finish = stays }

-- and the buffers then
abbrev pub buffers_edited : Planned → Option Search → List MarkedBuffer → List MarkedBuffer
buffers_edited p o ks = edited_by p.window_marks.name (change_planned p o) ks

abbrev pub edit_planned_in : Planned → Option Search → Effect
edit_planned_in p o = edit_of p.window_marks.name p.edit.from p.edit.to (put_of p.plan.replaces o)

-- what is done for a session is the act of its query-replace that skips a match
abbrev pub SkipDone : Directory → List MarkedBuffer → List MarkedBuffer → Session → Session → Type 0
SkipDone d ks ls x y = (s : Search) (r : Replacing) → x.state.search ≡ Some s → s.aim ≡ Replace r → Does d ks ls x y as_is (Run (commands.Seek SkipMatch) None r.put)

-- whether an edit finds the buffer of a name full
abbrev pub is_full_in : List MarkedBuffer → List ℕ → ℕ → ℕ → List ℕ → Bool
is_full_in ks name a b put = is_full (length (marked_at name ks).buffer.text) (marked_at name ks).buffer.serial a b put

-- PLANNED at an anchor, by what the model plans there
abbrev pub IsPlan : List ℕ → ℕ → Replacing → Bool → MatchPlan → Type 0
IsPlan text a r last plan = IsReplacement (replacement last) r.pattern r.put text a plan

abbrev pub anchor_at : WindowMarks → List MarkedBuffer → ℕ → ℕ
anchor_at x ks anchor = min anchor (length (marked_at x.name ks).buffer.text)

pub record PlannedAt (ks : List MarkedBuffer) (x : WindowMarks) (anchor : ℕ) (r : Replacing) (last : Bool) (p : Planned) : Type 0 where
  pub place : p.place ≡ position_or_len (marked_named x.name) ks
  pub edit : p.edit ≡ edit_planned (length (marked_at x.name ks).buffer.text) (anchor_at x ks anchor) r p.plan.replaces
  pub plan : IsPlan (marked_at x.name ks).buffer.text (anchor_at x ks anchor) r last p.plan
  pub room : is_full_in ks x.name p.edit.from p.edit.to (put_by p.plan.replaces r.put) ≡ false
  pub fits : p.edit.size + p.edit.added < 2 ^ 64
  pub count : r.count < 2 ^ 64

-- the buffer is full
pub record FullAt (ks : List MarkedBuffer) (x : WindowMarks) (anchor : ℕ) (r : Replacing) (last : Bool) (message : Message) : Type 0 where
  pub told : message ≡ (Says BufferFull)
  pub done : MatchPlan
  pub plan : IsPlan (marked_at x.name ks).buffer.text (anchor_at x ks anchor) r last done
  pub full : (let a = anchor_at x ks anchor in is_full_in ks x.name a (to_by done.replaces a r.pattern) (put_by done.replaces r.put) ≡ true)

-- how many characters the text has then
abbrev pub size_then : Planned → ℕ → ℕ
size_then p size = size - (p.edit.to - p.edit.from) + p.edit.added

-- it can be done
pub record CanPerform (d : Directory) (ks : List MarkedBuffer) (h : Session) (p : Planned) : Type 0 where
  pub granted : IsGranted d ks h.user p.window_marks.name 3
  pub mark : IsMark p.window_marks.name p.window_marks.point ks
  pub place : p.place ≡ position_or_len (marked_named p.window_marks.name) ks
  pub order : p.edit.from ≤ p.edit.to
  pub within : p.edit.to ≤ length (marked_at p.window_marks.name ks).buffer.text
  pub size : p.edit.size ≡ length (marked_at p.window_marks.name ks).buffer.text
  pub added : length (put_of p.plan.replaces h.state.search) ≡ p.edit.added
  pub fits : p.edit.size + p.edit.added < 2 ^ 64
  pub room : is_full_in ks p.window_marks.name p.edit.from p.edit.to (put_of p.plan.replaces h.state.search) ≡ false
  pub next : IfSome p.plan.next (λ m. m + length (old_of h.state.search) ≤ size_then p (length (marked_at p.window_marks.name ks).buffer.text))

-- where the point is without a next match
abbrev pub left_at : Planned → Option ℕ
left_at p = cond p.plan.replaces (Some (p.edit.from + p.edit.added)) None

abbrev pub one_met : Bool → ℕ
one_met true = 1
one_met false = 0

-- the next match is less far from the end
abbrev pub IsLess : Planned → ℕ → ℕ → Type 0
IsLess p size a = IfSome p.plan.next (λ m. size_then p size - min m (size_then p size) < size - a)

-- by a session that may write, and has this query-replace there: what its act comes to
pub record IsPlanned (d : Directory) (ks : List MarkedBuffer) (h : Session) (last : Bool) (p : Planned) : Type 0 where
  pub sought : IsSought d ks h true p.window_marks
  pub can : CanPerform d ks h p
  pub s : Search
  pub r : Replacing
  pub held : (let t : Search = record s { aim = Replace r } in h.state.search ≡ Some t)
  pub count : r.count < 2 ^ 64
  pub known : (xs : List Session) (next : Option ℕ) → outcome (view (world_of d ks xs next) (session_of ks h)) (Run (commands.Replace (replacement last)) None r.put) true ≡ search_finished (state_of h.state) (met (length r.pattern) (one_met p.plan.replaces) (top_read (left_at p)) p.plan.next) (edit_planned_in p h.state.search)
  pub less : 0 < length r.pattern → (let size = length (marked_at p.window_marks.name ks).buffer.text in IsLess p size (min s.anchor size))

-- the next match lies within the text
abbrev pub NextFits : List MarkedBuffer → Option Search → Planned → Type 0
NextFits ks o p = IfSome p.plan.next (λ m. m + length (old_of o) ≤ length (marked_at p.window_marks.name ks).buffer.text)

-- THE ACTS by which a query-replace begins, and skips a match
abbrev pub IsStarted : Directory → List MarkedBuffer → List MarkedBuffer → List Session → List Session → ℕ → List ℕ → List ℕ → Type 0
IsStarted d ks ls xs ys at pattern put =
    (id : ℕ) (next : Option ℕ) → at ≡ position_or_len (session_id id) xs
    → world_of d ls ys next ≡ act (with_state id (replacing_state pattern put) (world_of d ks xs next)) id (Run (commands.Seek StartReplace) None put) true

abbrev pub IsSkipped : Directory → List MarkedBuffer → List MarkedBuffer → List Session → List Session → ℕ → Type 0
IsSkipped d ks ls xs ys at =
    (id : ℕ) (next : Option ℕ) (s : Search) (r : Replacing) → at ≡ position_or_len (session_id id) xs → search_held at xs ≡ Some s → s.aim ≡ Replace r
    → world_of d ls ys next ≡ act (world_of d ks xs next) id (Run (commands.Seek SkipMatch) None r.put) true

-- what is typed is what its query-replace puts
abbrev pub IsTyped : Option Search → List ℕ → Type 0
IsTyped o typed = (s : Search) → o ≡ Some s → (r : Replacing) × (s.aim ≡ Replace r) × (typed ≡ r.put)

abbrev pub ReplacementFails : Directory → List MarkedBuffer → Session → Bool → Message → Type 0
ReplacementFails d ks h last message = (xs : List Session) (next : Option ℕ) (typed : List ℕ) → IsTyped h.state.search typed
    → outcome (view (world_of d ks xs next) (session_of ks h)) (Run (commands.Replace (replacement last)) None typed) true ≡ fails (state_of h.state) message

-- WHAT IS DONE: in its session, which was taken this search
abbrev pub counted_if : Bool → Search → Search
counted_if true s = search_counted s
counted_if false s = s

pub record IsLeft (p : Planned) (s : Search) (ks ls : List MarkedBuffer) (h y : Session) : Type 0 where
  pub buffers : ls ≡ buffers_met p.window_marks s p.plan.next (left_at p) ks
  pub session : y ≡ session_met p.plan.next (counted_if p.plan.replaces s) h

-- the positions of a search and of its session go by an edit
abbrev pub search_after : List ℕ → Option Edited → Search → Search
search_after name None s = s
search_after name (Some e) s = search_edited name e s

abbrev pub session_after : List ℕ → Option Edited → Session → Session
session_after name None h = h
session_after name (Some e) h = session_edited name e h

abbrev pub touched_edit : List ℕ → Option Edited → Touched
touched_edit name None = Nowhere
touched_edit name (Some e) = In name

pub record IsDone (at : ℕ) (p : Planned) (h : Session) (ks ls : List MarkedBuffer) (xs ys : List Session) (touched : Touched) : Type 0 where
  pub left : Session
  pub done : (s : Search) → h.state.search ≡ Some s → IsLeft p (search_after p.window_marks.name (if_edit p.edit) s) (buffers_edited p h.state.search ks) ls (session_after p.window_marks.name (if_edit p.edit) h) left
  pub sessions : ys ≡ slice_set (followed p.window_marks.name (if_edit p.edit) xs) at left
  pub tells : touched ≡ touched_by (edit_planned_in p h.state.search)

-- and the same of the session at an index
abbrev pub IsDoneAt : ℕ → Planned → List MarkedBuffer → List MarkedBuffer → List Session → List Session → Touched → Type 0
IsDoneAt at p ks ls xs ys touched = (h : Session) → slice_get xs at ≡ Some h → IsDone at p h ks ls xs ys touched

-- THE ACT of the query-replace that the session at an index has, or of none
abbrev pub IsReplaced : Directory → List MarkedBuffer → List MarkedBuffer → List Session → List Session → ℕ → Bool → Type 0
IsReplaced d ks ls xs ys at last =
    (id : ℕ) (next : Option ℕ) (s : Search) (r : Replacing) → at ≡ position_or_len (session_id id) xs → search_held at xs ≡ Some s → s.aim ≡ Replace r
    → world_of d ls ys next ≡ act (world_of d ks xs next) id (Run (commands.Replace (replacement last)) None r.put) true

abbrev pub IsUnsought : Directory → List MarkedBuffer → List MarkedBuffer → List Session → List Session → ℕ → Bool → Type 0
IsUnsought d ks ls xs ys at last =
    (id : ℕ) (next : Option ℕ) (typed : List ℕ) → at ≡ position_or_len (session_id id) xs → search_held at xs ≡ None
    → world_of d ls ys next ≡ act (world_of d ks xs next) id (Run (commands.Replace (replacement last)) None typed) true

-- what it touches, and that it may be refused
abbrev pub IsToldBy : Directory → List MarkedBuffer → List Session → ℕ → Bool → Touched → Type 0
IsToldBy d ks xs at last touched =
    (id : ℕ) (next : Option ℕ) (s : Search) (r : Replacing) → at ≡ position_or_len (session_id id) xs → search_held at xs ≡ Some s → s.aim ≡ Replace r
    → touched ≡ touched_in (outcome_in (world_of d ks xs next) id (Run (commands.Replace (replacement last)) None r.put) true)

abbrev pub IsRefusable : Directory → List MarkedBuffer → List Session → ℕ → Bool → Type 0
IsRefusable d ks xs at last =
    (id : ℕ) (next : Option ℕ) (s : Search) (r : Replacing) → at ≡ position_or_len (session_id id) xs → search_held at xs ≡ Some s → s.aim ≡ Replace r
    → may_be_refused (outcome_in (world_of d ks xs next) id (Run (commands.Replace (replacement last)) None r.put) true) ≡ true

-- what is left of the text behind it becomes less
abbrev pub IsFurther : List MarkedBuffer → List MarkedBuffer → List Session → List Session → ℕ → Type 0
IsFurther ks ls xs ys at =
    (s t : Search) → search_held at xs ≡ Some s → search_held at ys ≡ Some t → 0 < length (aim_old s.aim) → remaining_at at ls ys < remaining_at at ks xs

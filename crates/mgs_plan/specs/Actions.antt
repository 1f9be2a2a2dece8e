-- What is planned, and where.
use Rattle.std.specs.Global.{Vec}
use Rattle.std.specs.Prelude.{◌≡◌, ℕ, ◌+◌, ◌≤◌, ◌==◌, Bool, true, false, List, [], length, Option, Some, None, Result, Ok, Err, slice_get, find, cond, if◌then◌else◌}
use Rattle.std.specs.Option.{option_map}
use Rattle.mgs_model.specs.Access.{Directory, Decider, decider, decision_by}
use Rattle.mgs_model.specs.Rights.{rights_in}
use Rattle.mgs_model.specs.Text.{is_edit}
use Rattle.mgs_model.specs.World.{Item, may}
use Rattle.mgs_model.specs.World as model
use Rattle.mgs_model.specs.Apply.{change_first, kill_after}
use Rattle.mgs_model.specs.Outcome.{Outcome, No_effect, Unmodified, PointPlan, Keep_position, At, At_origin}
use Rattle.mgs_model.specs.Outcome as outcomes
use Rattle.mgs_model.specs.Plans as plans
use Rattle.mgs_model.specs.Plans.{alteration, insertion, motion, reading_insertion, scrolling, undo, undone}
use Rattle.mgs_model.specs.Commands.{command_for}
use Rattle.mgs_model.specs.SearchCommands.{AroundSearch, SearchChange, seek}
use Rattle.mgs_model.specs.Acts.{effects, fails, finished, edit_of, is_full, is_too_large, moved_by, permitted, search_finished, sought_by}
use Rattle.mgs_model.specs.declared.right.Right.{Right}
use Rattle.mgs_model.specs.declared.right.Right.TheVariants.{ReadData}
use Rattle.mgs_model.specs.declared.echo_text.Message.{Message}
use Rattle.mgs_model.specs.declared.echo_text.Message.TheVariants.{Says}
use Rattle.mgs_model.specs.declared.echo_text.Notice.TheVariants.{KeyNotBound, BufferFull, Silent}
use Rattle.mgs_model.specs.declared.session.Command.{Command}
use Rattle.mgs_model.specs.declared.session.Command.TheVariants.{Insert, InsertReading, Move, Alter, Seek, Scroll, Set, Rearrange, Ask, Entries, ListEntries, SetOwner, SetGroup, UndoEdit, NotModified, SaveBuffer}
use Rattle.mgs_model.specs.declared.session.Command.TheVariants as commands
use Rattle.mgs_model.specs.declared.search.Direction.{Direction}
use Rattle.mgs_model.specs.declared.session.Kind.{Kind}
use Rattle.mgs_model.specs.declared.session.Kind.TheVariants.{Other}
use Rattle.mgs_model.specs.declared.session.Motion.TheVariants.{GoToLine}
use Rattle.mgs_model.specs.declared.session.Seeking.{Seeking}
use Rattle.mgs_model.specs.declared.session.Seeking.TheVariants.{SearchFor}
use Rattle.mgs_model.specs.declared.session.EntryChange.{EntryChange}
use Rattle.mgs_model.specs.declared.session.EntryChange.TheVariants.{DeleteEntry}
use Rattle.mgs_model.specs.declared.session.Setting.{Setting}
use Rattle.mgs_model.specs.declared.session.Setting.TheVariants.{SetFillColumn, KeyboardQuit, StartMacro, EndMacro}
use Rattle.mgs_buffers.specs.Changing.{writes}
use Rattle.mgs_buffers.specs.Found.{Named}
use Rattle.mgs_buffers.specs.MarkedBuffer.{IsMark, MarkedBuffer, marked_at, marked_edited, marked_named, marked_placed, marked_unmodified, mark_at}
use Rattle.mgs_windows.specs.declared.WindowMarks.{WindowMarks}
use Rattle.mgs_windows.specs.declared.Window.{Window}
use Rattle.mgs_session.specs.Sessions.{acted, failed, told}
use Rattle.mgs_session.specs.declared.Session.{Session}
use Rattle.mgs_edit.specs.Reading.{ChangeWithin, FinishWithin, LeavesBehind, change_read, edit_read, finish_read, kill_read, motion_read, put_read, surrounded, undoing, undone_read}
use Rattle.mgs_edit.specs.declared.plan.Around.{Around}
use Rattle.mgs_edit.specs.declared.plan.Change.{Change}
use Rattle.mgs_edit.specs.declared.plan.Finish.{Finish}
use Rattle.mgs_edit.specs.declared.plan.Undone.{Undone}
use Rattle.mgs_undo.specs.History.{has_serial}
use Rattle.mgs_model.specs.declared.session.Question.{Question}
use Rattle.mgs_world.specs.Marking.{IsReserved, session_marked}
use Rattle.mgs_world.specs.Worlds.{idle, state_of}
use Rattle.mgs_plan.specs.declared.key_act.KeyAct.{KeyAct}
use Rattle.mgs_plan.specs.declared.key_act.KeyAct.TheVariants.{Unbound, Run}
use Rattle.mgs_plan.specs.declared.given.Given.{Given}
use Rattle.mgs_plan.specs.declared.action.Action.{Action}
use Rattle.mgs_plan.specs.declared.action.Action.TheVariants.{Fails, Edits, Undoes, Moves, Clears}

-- ACTS

abbrev pub act_of : KeyAct → outcomes.Act
act_of Unbound = outcomes.Unbound
act_of (Run c n) = outcomes.Run c n []

-- the commands that act on the text in the selected window
abbrev pub is_on_text : Command → Bool
is_on_text (Insert c) = true
is_on_text (InsertReading c) = true
is_on_text (Move c) = true
is_on_text (Alter c) = true
is_on_text (Scroll c) = true
is_on_text UndoEdit = true
is_on_text NotModified = true
is_on_text _ = false

abbrev pub is_setting_done : Setting → Bool
is_setting_done SetFillColumn = true
is_setting_done KeyboardQuit = true
is_setting_done StartMacro = true
is_setting_done EndMacro = true
is_setting_done _ = false

-- an entry is deleted at once; one that comes is typed first
abbrev pub is_entry_done : EntryChange → Bool
is_entry_done DeleteEntry = true
is_entry_done _ = false

-- the acts that are done here
abbrev pub is_command_done : Command → Bool
is_command_done (Set c) = is_setting_done c
is_command_done (Rearrange c) = true
is_command_done (Ask c) = true
is_command_done (Entries c) = is_entry_done c
is_command_done ListEntries = true
is_command_done SaveBuffer = true
is_command_done c = is_on_text c

-- the commands whose answers are done here: the name of a command is looked up elsewhere, and so is what is to be replaced
abbrev pub takes_answer : Command → Bool
takes_answer (commands.Named c) = true
takes_answer (Entries c) = true
takes_answer SetOwner = true
takes_answer SetGroup = true
takes_answer (Move GoToLine) = true
takes_answer (Seek (SearchFor d)) = true
takes_answer _ = false

-- the questions that are for one of them
abbrev pub is_answered : Question → Bool
is_answered question = takes_answer (command_for question)

abbrev pub is_done_here : KeyAct → Bool
is_done_here Unbound = true
is_done_here (Run c n) = is_command_done c

-- WHAT A PLAN IS GIVEN

-- the point and the mark of a window stand in its buffer
pub record AreMarks (ks : List MarkedBuffer) (x : WindowMarks) : Type 0 where
  pub point : IsMark x.name x.point ks
  pub mark : (id : ℕ) → x.mark ≡ Some id → IsMark x.name id ks
  pub top : IsMark x.name x.top ks

-- the marks of a window in the buffer of a name
abbrev pub marks_in : List ℕ → WindowMarks → WindowMarks
marks_in name x = record x { name = name }

-- where a user acts: at the point, or at the text's end where the text may not be read
abbrev pub place_in : Bool → ℕ → ℕ → ℕ
place_in reads point size = cond reads point size

-- the mark, where the text may be read
abbrev pub mark_if : Bool → Option ℕ → Option ℕ
mark_if reads mark = cond reads mark None

abbrev pub mark_shown : List MarkedBuffer → WindowMarks → Option ℕ
mark_shown ks x = option_map (mark_at x.name ks) x.mark

-- what a session holds that has this kind and this fill column: a plan goes by no more of it
abbrev pub given_state : Given → model.State → model.State
given_state g state = record state { kind = g.kind; fill = g.fill }

abbrev pub around_given : Directory → List MarkedBuffer → List ℕ → WindowMarks → Given → ℕ → Around
around_given directory ks user x g killed =
    let b = (marked_at x.name ks).buffer in
    let reads = may directory user ReadData b in
    record {
      place = place_in reads (mark_at x.name ks x.point) (length b.text);
      mark = mark_if reads (mark_shown ks x);
      argument = g.argument;
      killed = killed;
      kind = g.kind;
      height = g.height;
      fill = g.fill;
    }

-- in a buffer that was looked up
abbrev pub around_found : Directory → Named → List ℕ → WindowMarks → Given → ℕ → Around
around_found directory f user x g killed = around_given directory f.all user (marks_in f.name x) g killed

-- that it is that, by whomever may read the text
abbrev pub IsAroundReading : List MarkedBuffer → WindowMarks → Given → ℕ → Around → Type 0
IsAroundReading ks x g killed around = (directory : Directory) (user : List ℕ) → may directory user ReadData (marked_at x.name ks).buffer ≡ true → around ≡ around_given directory ks user x g killed

-- the same, as the model's plans are given it
abbrev pub around_in : Directory → List MarkedBuffer → List ℕ → WindowMarks → ℕ → Option ℕ → List ℕ → List ℕ → model.State → plans.Around
around_in directory ks user x height n typed kill state =
    let b = (marked_at x.name ks).buffer in
    let reads = may directory user ReadData b in
    record {
      name = x.name;
      size = length b.text;
      serial = b.serial;
      place = place_in reads (mark_at x.name ks x.point) (length b.text);
      mark = mark_if reads (mark_shown ks x);
      argument = n;
      typed = typed;
      kill = kill;
      kind = state.kind;
      height = height;
      fill = state.fill;
    }

-- ACTIONS

-- what the buffers ask of what is left
pub record CanFinish (size after : ℕ) (text kill : List ℕ) (f : Finish) : Type 0 where
  pub within : FinishWithin size after f
  pub small : is_too_large (kill_read text kill f.kill) ≡ false

pub record CanChange (text kill : List ℕ) (serial : ℕ) (c : Change) : Type 0 where
  pub within : ChangeWithin text kill c
  pub small : is_too_large (kill_read text kill c.finish.kill) ≡ false
  pub room : is_full (length text) serial c.from c.to (put_read text kill c.put) ≡ false

-- what the edit of a serial took out, where it is kept
abbrev pub removed_or_none : Option Item → List ℕ
removed_or_none None = []
removed_or_none (Some item) = item.removed

abbrev pub removed_by : ℕ → List Item → List ℕ
removed_by serial items = removed_or_none (find (has_serial serial) items)

pub record CanUndo (text : List ℕ) (items : List Item) (kill : List ℕ) (serial : ℕ) (u : Undone) : Type 0 where
  pub within : u.from + u.gone ≤ length text
  pub len : length (removed_by u.serial items) ≡ u.len
  pub finish : LeavesBehind u.finish
  pub room : is_full (length text) serial u.from (u.from + u.gone) (removed_by u.serial items) ≡ false

abbrev pub CanDo : List ℕ → List Item → List ℕ → ℕ → Action → Type 0
CanDo text items kill serial (Fails message) = Unit {0}
CanDo text items kill serial (Edits mask c) = CanChange text kill serial c
CanDo text items kill serial (Undoes u) = CanUndo text items kill serial u
CanDo text items kill serial (Moves f) = CanFinish (length text) (length text) text kill f
CanDo text items kill serial Clears = Unit {0}

-- in the buffer of a name
abbrev pub CanDoIn : List MarkedBuffer → List ℕ → List ℕ → Action → Type 0
CanDoIn ks name kill action = let b = (marked_at name ks).buffer in CanDo b.text b.items kill b.serial action

abbrev pub CanBeDone : List MarkedBuffer → WindowMarks → List ℕ → Action → Type 0
CanBeDone ks x kill action = CanDoIn ks x.name kill action

-- the outcome that an action stands for, in the buffer of this name, text and items, by a session that holds this and has this kill
-- buffer
abbrev pub action_outcome : model.State → List ℕ → List ℕ → List Item → List ℕ → Action → Outcome
action_outcome state name text items kill (Fails message) = fails state message
action_outcome state name text items kill (Edits mask c) = finished state (change_read text kill c).finish (edit_of name c.from c.to (put_read text kill c.put))
action_outcome state name text items kill (Undoes u) =
    let removed = removed_by u.serial items in
    finished state (undone_read text kill removed u).finish (edit_of name u.from (u.from + u.gone) removed)
action_outcome state name text items kill (Moves f) = finished state (finish_read text kill 0 f) No_effect
action_outcome state name text items kill Clears = effects state (Ok (Unmodified name))

-- what an action comes to through a window's marks
abbrev pub outcome_through : model.State → WindowMarks → List MarkedBuffer → List ℕ → Action → Outcome
outcome_through state x ks kill action = action_outcome state x.name (marked_at x.name ks).buffer.text (marked_at x.name ks).buffer.items kill action

-- the rows of the selected window above its mode line
abbrev pub height_or_none : Option Window → ℕ
height_or_none None = 0
height_or_none (Some w) = w.height

abbrev pub selected_height : Session → ℕ
selected_height h = height_or_none (slice_get h.windows.windows h.windows.selected)

-- the kill buffer of the session at an index
abbrev pub kill_or_none : Option Session → List ℕ
kill_or_none None = []
kill_or_none (Some h) = h.kill

abbrev pub kill_at : ℕ → List Session → List ℕ
kill_at at xs = kill_or_none (slice_get xs at)

-- where an action sets the mark, if it does
abbrev pub mark_told : Action → Option ℕ
mark_told (Fails message) = None
mark_told (Edits mask c) = c.finish.mark
mark_told (Undoes u) = None
mark_told (Moves f) = f.mark
mark_told Clears = None

-- WHAT IS DONE

-- one mark goes to a position, if it does
abbrev pub mark_gone : List ℕ → ℕ → PointPlan → List MarkedBuffer → List MarkedBuffer
mark_gone name id Keep_position ks = ks
mark_gone name id (At p) ks = change_first (marked_named name) (marked_placed id p) ks
mark_gone name id At_origin ks = ks

-- point and top go where they are to
abbrev pub marks_gone : WindowMarks → plans.Finish → List MarkedBuffer → List MarkedBuffer
marks_gone x f ks = mark_gone x.name x.top f.top (mark_gone x.name x.point f.point ks)

-- what takes out nothing and puts in nothing is no edit
abbrev pub edited_by : List ℕ → plans.Change → List MarkedBuffer → List MarkedBuffer
edited_by name c ks = cond (is_edit c.a c.b c.put) (change_first (marked_named name) (marked_edited c.a c.b c.put) ks) ks

-- the buffers, and the acting session, once an action is done, but for the mark
abbrev pub marked_after : WindowMarks → List ℕ → List Item → List ℕ → Action → List MarkedBuffer → List MarkedBuffer
marked_after x text items kill (Fails message) ks = ks
marked_after x text items kill (Edits mask c) ks = marks_gone x (change_read text kill c).finish (edited_by x.name (change_read text kill c) ks)
marked_after x text items kill (Undoes u) ks =
    let c = undone_read text kill (removed_by u.serial items) u in
    marks_gone x c.finish (edited_by x.name c ks)
marked_after x text items kill (Moves f) ks = marks_gone x (finish_read text kill 0 f) ks
marked_after x text items kill Clears ks = change_first (marked_named x.name) marked_unmodified ks

-- the kill buffer that was made, if one was
abbrev pub kill_set : Option (Vec ℕ) → List ℕ → List ℕ
kill_set None old = old
kill_set (Some v) old = v.items

abbrev pub session_finished : plans.Finish → Session → Session
session_finished f h = told f.told (acted f.kind (record h { kill = kill_after f.kill h.kill }))

abbrev pub session_acted : List ℕ → Action → Session → Session
session_acted text (Fails message) h = failed message h
session_acted text (Edits mask c) h = session_finished (change_read text h.kill c).finish h
session_acted text (Undoes u) h = session_finished (finish_read text h.kill 0 u.finish) h
session_acted text (Moves f) h = session_finished (finish_read text h.kill 0 f) h
session_acted text Clears h = told (Says Silent) (acted Other h)

-- and once the window's mark is where it is to be: a mark was reserved for the window if it had none
pub record IsMarked (x : WindowMarks) (position : ℕ) (action : Action) (ks ls : List MarkedBuffer) (h y : Session) : Type 0 where
  pub id : ℕ
  pub between : List MarkedBuffer
  pub reserved : IsReserved x.name x.mark id ks between
  pub buffers : ls ≡ change_first (marked_named x.name) (marked_placed id position) (marked_after x (marked_at x.name ks).buffer.text (marked_at x.name ks).buffer.items h.kill action between)
  pub session : y ≡ session_marked id (session_acted (marked_at x.name ks).buffer.text action h)

-- OUTCOMES

abbrev pub edit_outcome : model.State → List ℕ → ℕ → ℕ → Result plans.Change Message → Outcome
edit_outcome state name size serial (Err message) = fails state message
edit_outcome state name size serial (Ok c) =
    if is_full size serial c.a c.b c.put then fails state (Says BufferFull) else finished state c.finish (edit_of name c.a c.b c.put)

-- the same where a match is replaced
abbrev pub replaced_outcome : model.State → List ℕ → ℕ → ℕ → Result SearchChange Message → Outcome
replaced_outcome state name size serial (Err message) = fails state message
replaced_outcome state name size serial (Ok c) =
    if is_full size serial c.a c.b c.put then fails state (Says BufferFull) else search_finished state c.finish (edit_of name c.a c.b c.put)

-- an insertion at the text's end appends, one elsewhere writes
abbrev pub insertion_mask : ℕ → ℕ → ℕ
insertion_mask place size = cond (place == size) 4 2

-- the rights that a command needs at a place of a text of so many characters
abbrev pub mask_at : Command → ℕ → ℕ → ℕ
mask_at (Insert c) place size = insertion_mask place size
mask_at (InsertReading c) place size = 1 + insertion_mask place size
mask_at (Alter c) place size = 3
mask_at UndoEdit place size = 3
mask_at NotModified place size = 3
mask_at _ place size = 1

-- and with the one to read
abbrev pub reading_mask_at : Command → ℕ → ℕ → ℕ
reading_mask_at (Insert c) place size = 1 + insertion_mask place size
reading_mask_at c place size = mask_at c place size

-- that these rights are those by which an action is done
abbrev pub IsDoneBy : ℕ → Action → Type 0
IsDoneBy needed (Fails message) = Unit {0}
IsDoneBy needed (Edits mask c) = (mask ≡ needed) × (writes mask ≡ true)
IsDoneBy needed (Undoes u) = needed ≡ 3
IsDoneBy needed (Moves f) = Unit {0}
IsDoneBy needed Clears = needed ≡ 3

-- what it does where they are granted
abbrev pub granted_outcome : model.State → Command → List ℕ → List Item → plans.Around → Outcome
granted_outcome state (Insert c) text items a = edit_outcome state a.name a.size a.serial (insertion c a)
granted_outcome state (InsertReading c) text items a = edit_outcome state a.name a.size a.serial (reading_insertion c text a)
granted_outcome state (Move c) text items a = moved_by state (motion c text a)
granted_outcome state (Alter c) text items a = edit_outcome state a.name a.size a.serial (alteration c text a)
granted_outcome state (Scroll c) text items a = moved_by state (scrolling c text a)
granted_outcome state UndoEdit text items a = edit_outcome state a.name a.size a.serial (undo items a)
granted_outcome state NotModified text items a = effects state (Ok (Unmodified a.name))
granted_outcome state _ text items a = fails state (Says KeyNotBound)

abbrev pub outcome_at : model.State → Command → (Right → Decider) → List ℕ → List Item → plans.Around → Outcome
outcome_at state c deciders text items a = permitted state (decision_by deciders (rights_in (mask_at c a.place a.size))) (granted_outcome state c text items a)

-- the outcome of a command through a window's marks, and of what was typed for it
abbrev pub plan_in : Directory → List MarkedBuffer → model.State → List ℕ → WindowMarks → ℕ → Command → Option ℕ → List ℕ → List ℕ → Outcome
plan_in directory ks state user x height c n typed kill =
    let b = (marked_at x.name ks).buffer in
    outcome_at state c (decider directory b.owners user b.entries) b.text b.items (around_in directory ks user x height n typed kill state)

-- what a search is given there, by a session that has no positions of one
abbrev pub around_search_in : Directory → List MarkedBuffer → List ℕ → WindowMarks → List ℕ → model.State → AroundSearch
around_search_in directory ks user x typed state =
    let b = (marked_at x.name ks).buffer in
    record {
      name = x.name;
      places = record { origin = 0; anchor = 0; point = place_in (may directory user ReadData b) (mark_at x.name ks x.point) (length b.text) };
      sought_here = false;
      old = state.old;
      typed = typed;
    }

-- and what it comes to
abbrev pub sought_at : model.State → Seeking → (Right → Decider) → List ℕ → AroundSearch → Outcome
sought_at state c deciders text a = permitted state (decision_by deciders (rights_in 1)) (sought_by state (seek c text a))

abbrev pub seek_in : Directory → List MarkedBuffer → model.State → List ℕ → WindowMarks → Seeking → List ℕ → Outcome
seek_in directory ks state user x c typed =
    let b = (marked_at x.name ks).buffer in
    sought_at state c (decider directory b.owners user b.entries) b.text (around_search_in directory ks user x typed state)

-- WHAT PLANS SAY

-- that an action is what a planned edit of a text of this serial comes to, or a planned motion
abbrev pub IsEditOf : List ℕ → ℕ → List ℕ → Result Change Message → Action → Type 0
IsEditOf text serial kill planned action =
    (state : model.State) (name : List ℕ) (items : List Item) → action_outcome state name text items kill action ≡ edit_outcome state name (length text) serial (edit_read text kill planned)

abbrev pub IsMotionOf : List ℕ → List ℕ → Result Finish Message → Action → Type 0
IsMotionOf text kill planned action =
    (state : model.State) (name : List ℕ) (items : List Item) → action_outcome state name text items kill action ≡ moved_by state (motion_read text kill planned)

-- that it is what taking an edit back comes to, whichever buffer of this text and serial keeps as much of it
abbrev pub IsUndoneSo : List ℕ → ℕ → Undone → Action → Type 0
IsUndoneSo text serial u action =
    (state : model.State) (name : List ℕ) (items : List Item) (kill : List ℕ) → length (removed_by u.serial items) ≡ u.len
    → action_outcome state name text items kill action ≡ edit_outcome state name (length text) serial (Ok (undone_read text kill (removed_by u.serial items) u))

abbrev pub CanUndoSo : List ℕ → ℕ → Undone → Action → Type 0
CanUndoSo text serial u action = (items : List Item) (kill : List ℕ) → length (removed_by u.serial items) ≡ u.len → LeavesBehind u.finish → CanDo text items kill serial action

-- of an edit that is kept as this item under a serial
abbrev pub IsTakenBack : List ℕ → ℕ → List ℕ → ℕ → Item → Action → Type 0
IsTakenBack text serial name target item action =
    (state : model.State) (items : List Item) (kill : List ℕ) (kind : Kind) (rest : plans.Around) → find (has_serial target) items ≡ Some item
    → action_outcome state name text items kill action ≡ edit_outcome state name (length text) serial (undone (undoing kind name serial (record rest { size = length text })) (Some item))

abbrev pub CanTakeBack : List ℕ → ℕ → ℕ → Item → Action → Type 0
CanTakeBack text serial target item action = (items : List Item) (kill : List ℕ) → find (has_serial target) items ≡ Some item → CanDo text items kill serial action

-- that it is what an undo comes to in the buffer of a name, or any command whose rights are granted
abbrev pub IsUndoIn : List MarkedBuffer → List ℕ → Kind → Action → Type 0
IsUndoIn ks name kind action =
    let b = (marked_at name ks).buffer in
    (state : model.State) (kill : List ℕ) (rest : plans.Around)
    → action_outcome state name b.text b.items kill action ≡ edit_outcome state name (length b.text) b.serial (undo b.items (undoing kind name b.serial (record rest { size = length b.text })))

abbrev pub IsGrantedIn : List MarkedBuffer → List ℕ → List ℕ → Around → Command → Action → Type 0
IsGrantedIn ks name kill around c action =
    let b = (marked_at name ks).buffer in
    (state : model.State) (rest : plans.Around)
    → action_outcome state name b.text b.items kill action ≡ granted_outcome state c b.text b.items (surrounded around (length b.text) (record rest { name = name; kill = kill; serial = b.serial }))

-- that it is what a command comes to in a buffer that was looked up, through a window's marks, by a user who is given this and has this
-- kill buffer
abbrev pub IsActionFor : Directory → Named → List ℕ → WindowMarks → Given → List ℕ → Command → Action → Type 0
IsActionFor directory f user x g kill c action =
    let w = marks_in f.name x in
    (state : model.State) → outcome_through (given_state g state) w f.all kill action ≡ plan_in directory f.all (given_state g state) user w g.height c g.argument [] kill

-- and by a session at rest
abbrev pub IsActionOf : Directory → List MarkedBuffer → Session → WindowMarks → Command → Option ℕ → List ℕ → Action → Type 0
IsActionOf directory ks h x c n typed action =
    let state = idle (state_of h.state) in outcome_through state x ks h.kill action ≡ plan_in directory ks state h.user x (selected_height h) c n typed h.kill

-- that it is what a search for a pattern comes to, where reading is granted, from a place in the buffer of a name
abbrev pub IsSearchIn : List MarkedBuffer → List ℕ → ℕ → Direction → List ℕ → Action → Type 0
IsSearchIn ks name place direction pattern action =
    let b = (marked_at name ks).buffer in
    (state : model.State) (kill : List ℕ) (rest : AroundSearch)
    → action_outcome state name b.text b.items kill action ≡ sought_by state (seek (SearchFor direction) b.text (record rest { places = record rest.places { point = place }; typed = pattern }))

-- and through a window's marks, by a user
abbrev pub IsSearchFor : Directory → List MarkedBuffer → List ℕ → WindowMarks → Direction → List ℕ → Action → Type 0
IsSearchFor directory ks user x direction pattern action =
    (state : model.State) (kill : List ℕ) → outcome_through state x ks kill action ≡ seek_in directory ks state user x (SearchFor direction) pattern

-- What each act needs, and what it does: functions of the view, in one table with an equation for each family of commands.
use Rattle.std.specs.Prelude.{ℕ, ◌+◌, ◌-◌, min, nat_lt, nat_le, ◌==◌, Bool, true, false, not, ◌&&◌, ◌||◌, List, [], ◌∷◌, length, Option, Some, None, Result, Ok, Err, slice_get, cond, if◌then◌else◌}
use Rattle.std.specs.Option.{option_and_then, option_map}
use Rattle.mgs_model.specs.Names.{is_name, same_name}
use Rattle.mgs_model.specs.Rights.{bit_of, mask_of, rights_in}
use Rattle.mgs_model.specs.Access.{Decider, Nobody, decision_by, group_answered, is_among, is_group_answer}
use Rattle.mgs_model.specs.Text.{is_edit}
use Rattle.mgs_model.specs.World.{State, Shows, Buffer_of, Listing, List_of}
use Rattle.mgs_model.specs.View.{View, SessionSeen, BufferSeen, WindowSeen, SearchSeen, Told, Full, Positions, find_seen, size_told, serial_told, text_in}
use Rattle.mgs_model.specs.World.{Item, Todo, Replace_all, Play}
use Rattle.mgs_model.specs.declared.entry.Entry.{Entry}
use Rattle.mgs_model.specs.Outcome.{Act, Unbound, Run, KillPlan, Keep_kill, Kill_is, Arrange, Stay, Adjust, At_origin, Keep_position, Keep_mark, Keep_search, No_search, Effect, No_effect, Edit, Unmodified, SetList, SetOwners, Create, Kill, Save, Quit, Outcome, u64_max}
use Rattle.mgs_model.specs.declared.owners.NewOwner.TheVariants.{ToUser, ToGroup}
use Rattle.mgs_model.specs.Plans.{failed_state, acted_state, Around, Finish, Change, insertion, reading_insertion, motion, alteration, scrolling, row_scrolled, setting, arrangement, undo, entries_changed, comes, inserted}
use Rattle.mgs_model.specs.SearchCommands.{AroundSearch, ModePlan, Keep_mode, Goes_on, Over, Failing, SearchFinish, SearchChange, seek, replace}
use Rattle.mgs_model.specs.declared.limits.TheConstants.{BUFFER_LIMIT, TEXT_LIMIT}
use Rattle.mgs_model.specs.declared.right.Right.{Right}
use Rattle.mgs_model.specs.declared.right.Right.TheVariants.{ReadData, WriteData, AppendData, ReadAttributes, Delete, ReadAcl, WriteAcl, WriteOwner}
use Rattle.mgs_model.specs.declared.entry.Decision.{Decision}
use Rattle.mgs_model.specs.declared.entry.Decision.TheVariants.{Granted}
use Rattle.mgs_model.specs.declared.echo_text.Message.{Message}
use Rattle.mgs_model.specs.declared.echo_text.Message.TheVariants.{Says, Denied, Wrote, Replaced}
use Rattle.mgs_model.specs.declared.echo_text.Notice.TheVariants.{Silent, KeyNotBound, NoBuffer, BufferFull, KillTooLarge, InMacro, NoSuchBuffer, BadName, TooManyBuffers, NoSuchUser, NoSuchGroup, NoFile, SaveFailed, Quitting}
use Rattle.mgs_model.specs.declared.session.Mode.{Mode}
use Rattle.mgs_model.specs.declared.session.Mode.TheVariants.{Plain, Prompt, Searching}
use Rattle.mgs_model.specs.declared.session.Question.{Question}
use Rattle.mgs_model.specs.declared.session.Scrolling.{Scrolling}
use Rattle.mgs_model.specs.declared.session.ByName.{ByName}
use Rattle.mgs_model.specs.declared.session.ByName.TheVariants.{SwitchToBuffer, KillBuffer, InsertBuffer}
use Rattle.mgs_model.specs.declared.session.Command.TheVariants.{Insert, InsertReading, Move, Alter, Seek, Replace, Scroll, Set, Rearrange, Ask, Named, Entries, ListEntries, SetOwner, SetGroup, UndoEdit, NotModified, SaveBuffer, LeaveSearch, Exit}

-- WHERE A COMMAND ACTS

-- the selected window, and the buffer that it shows
pub record Target : Type 0 where
  pub window : WindowSeen
  pub buffer : BufferSeen

abbrev pub target_in : List BufferSeen → WindowSeen → Shows → Option Target
target_in buffers x (Buffer_of name) = option_map (λ b. record { window = x; buffer = b }) (find_seen name buffers)
target_in buffers x _ = None

-- what goes by rows: a listing, and an access list
abbrev pub is_rows : Shows → Bool
is_rows Listing = true
is_rows (List_of name) = true
is_rows _ = false

abbrev pub selected_seen : View → Option WindowSeen
selected_seen v = slice_get v.session.windows v.session.selected

abbrev pub target : View → Option Target
target v = option_and_then (λ x. target_in v.buffers x x.shows) (selected_seen v)

-- PLACE OF ACTION: a reader's point; the text's end of one who may not read
abbrev pub acts_at : Option Positions → ℕ → ℕ
acts_at None size = size
acts_at (Some x) size = x.point

abbrev pub mark_seen : Option Positions → Option ℕ
mark_seen None = None
mark_seen (Some x) = x.mark

-- 0 where there is none
abbrev pub anchor_in : Option SearchSeen → ℕ
anchor_in None = 0
anchor_in (Some x) = elim (mark_seen x.positions) [ None ↦ 0 | Some p ↦ p ]

abbrev pub origin_in : Option SearchSeen → ℕ
origin_in None = 0
origin_in (Some x) = acts_at x.positions 0

-- the session's search is in the buffer of that name
abbrev pub is_sought_in : List ℕ → Option SearchSeen → Bool
is_sought_in name None = false
is_sought_in name (Some x) = same_name name x.name

abbrev pub around : SessionSeen → Option ℕ → List ℕ → Target → Around
around x argument typed t =
    record {
      name = t.buffer.name;
      size = size_told t.buffer.told;
      serial = serial_told t.buffer.told;
      place = acts_at t.window.positions (size_told t.buffer.told);
      mark = mark_seen t.window.positions;
      argument = argument;
      typed = typed;
      kill = x.kill;
      kind = x.state.kind;
      height = t.window.height;
      fill = x.state.fill;
    }

abbrev pub around_search : SessionSeen → List ℕ → Target → AroundSearch
around_search x typed t =
    record {
      name = t.buffer.name;
      places = record { origin = origin_in x.search; anchor = anchor_in x.search; point = acts_at t.window.positions (size_told t.buffer.told) };
      sought_here = is_sought_in t.buffer.name x.search;
      old = x.state.old;
      typed = typed;
    }

-- the buffer that the selected window shows
abbrev pub shown_buffer : View → Option BufferSeen
shown_buffer v = option_map (λ (t : Target). t.buffer) (target v)

-- REQUESTS: rights on a buffer, as a mask
pub record Request : Type 0 where
  pub buffer : List ℕ
  pub rights : ℕ

abbrev pub is_at_text_end : Target → Bool
is_at_text_end t = acts_at t.window.positions (size_told t.buffer.told) == size_told t.buffer.told

-- an insertion at the text's end appends, one elsewhere writes
abbrev pub insertion_right : Target → ℕ
insertion_right t = cond (is_at_text_end t) (bit_of AppendData) (bit_of WriteData)

-- who changes or saves what is there has to read it too
abbrev pub read_write : ℕ
read_write = mask_of (ReadData ∷ WriteData ∷ [])

-- one request on the selected window's buffer
abbrev pub here : Option Target → (Target → ℕ) → List Request
here None rights = []
here (Some t) rights = record { buffer = t.buffer.name; rights = rights t } ∷ []

-- one request on a buffer, where it is there
abbrev pub there : View → List ℕ → ℕ → List Request
there v name rights = elim (find_seen name v.buffers) [ None ↦ [] | Some b ↦ record { buffer = name; rights = rights } ∷ [] ]

-- the buffer that is shown, or whose list is
abbrev pub name_shown : Shows → List ℕ
name_shown (Buffer_of name) = name
name_shown (List_of name) = name
name_shown _ = []

-- the buffer that the selected window shows, or whose list it shows
abbrev pub subject : View → Option BufferSeen
subject v = option_and_then (λ (x : WindowSeen). find_seen (name_shown x.shows) v.buffers) (selected_seen v)

abbrev pub about : Option BufferSeen → ℕ → List Request
about None rights = []
about (Some b) rights = record { buffer = b.name; rights = rights } ∷ []

-- the name that was typed, or else the selected window's; none where that has none
abbrev pub name_meant : View → List ℕ → List ℕ
name_meant v typed =
    if length typed == 0 then elim (selected_seen v) [ None ↦ [] | Some x ↦ name_shown x.shows ] else typed

-- a buffer's text is read, and then put into another, which may be the same; where there is no source nothing is judged
abbrev pub copy_needs : Option BufferSeen → List ℕ → Target → List Request
copy_needs None source t = []
copy_needs (Some b) source t = record { buffer = source; rights = bit_of ReadData } ∷ here (Some t) insertion_right

-- who decides what on the buffer of that name; nobody where there is none
abbrev pub deciders_found : Option BufferSeen → Right → Decider
deciders_found None right = Nobody
deciders_found (Some b) right = b.deciders right

abbrev pub request_judged : View → Request → Decision
request_judged v r = decision_by (deciders_found (find_seen r.buffer v.buffers)) (rights_in r.rights)

abbrev pub or_else : Decision → Decision → Decision
or_else Granted next = next
or_else denied next = denied

-- the first request that is not granted
abbrev pub judged : View → List Request → Decision
judged v [] = Granted
judged v (r ∷ rs) = or_else (request_judged v r) (judged v rs)

-- WHAT IS DONE, where all requests are granted

abbrev pub fails : State → Message → Outcome
fails state message = record { state = failed_state message state; kill = Keep_kill; arrange = Stay; effect = No_effect }

-- only the session's own record changes
abbrev pub owns : State → Outcome
owns state = record { state = state; kill = Keep_kill; arrange = Stay; effect = No_effect }

abbrev pub is_too_large : KillPlan → Bool
is_too_large Keep_kill = false
is_too_large (Kill_is text) = nat_lt TEXT_LIMIT (length text)

-- no room: the text would be longer than a text may be, or the edit's serial is past the last one
abbrev pub is_full : ℕ → ℕ → ℕ → ℕ → List ℕ → Bool
is_full size serial a b put = is_edit a b put && (nat_lt TEXT_LIMIT (size - (b - a) + length put) || (serial == u64_max))

-- what is left to do without all further replacements, where these come next
abbrev pub without_all : List Todo → List Todo
without_all (Replace_all ∷ todo) = todo
without_all (Play ∷ todo) = Play ∷ without_all todo
without_all todo = todo

abbrev pub failing_in : Bool → Mode → Mode
failing_in failing (Searching d was) = Searching d failing
failing_in failing mode = mode

-- how many were replaced; the largest number stands for all that are larger
abbrev pub counted : ℕ → ℕ → ℕ
counted n more = min (n + more) u64_max

abbrev pub finished_state : Finish → State → State
finished_state f state = record (acted_state state) { echo = f.told; kind = f.kind }

abbrev pub finished : State → Finish → Effect → Outcome
finished state f effect =
    if is_too_large f.kill then fails state (Says KillTooLarge)
    else record { state = finished_state f state; kill = f.kill; arrange = Adjust f.point f.mark f.top None Keep_search; effect = effect }

abbrev pub edit_of : List ℕ → ℕ → ℕ → List ℕ → Effect
edit_of name a b put = if is_edit a b put then Edit name a b put else No_effect

abbrev pub edited_by : State → BufferSeen → Result Change Message → Outcome
edited_by state b (Err message) = fails state message
edited_by state b (Ok c) =
    if is_full (size_told b.told) (serial_told b.told) c.a c.b c.put then fails state (Says BufferFull)
    else finished state c.finish (edit_of b.name c.a c.b c.put)

-- a family that edits the selected window's buffer
abbrev pub edits : State → Option Target → (Target → Result Change Message) → Outcome
edits state None plan = fails state (Says NoBuffer)
edits state (Some t) plan = edited_by state t.buffer (plan t)

abbrev pub moved_by : State → Result Finish Message → Outcome
moved_by state (Err message) = fails state message
moved_by state (Ok f) = finished state f No_effect

-- a family that cannot
abbrev pub moves : State → Option Target → (Target → Result Finish Message) → Outcome
moves state None plan = fails state (Says NoBuffer)
moves state (Some t) plan = moved_by state (plan t)

-- where the last match was met, its mode ends and so does the replacing of all
abbrev pub replacing_over : ℕ → State → State
replacing_over n state = record state { echo = Replaced n; mode = Plain; input = []; old = []; count = 0; todo = without_all state.todo }

abbrev pub mode_left : ModePlan → State → State
mode_left Keep_mode state = state
mode_left (Goes_on n) state = record state { count = counted state.count n }
mode_left (Over n) state = replacing_over (counted state.count n) state
mode_left (Failing failing) state = record state { mode = failing_in failing state.mode }

abbrev pub search_finished_state : SearchFinish → State → State
search_finished_state f state = mode_left f.mode (record (acted_state state) { echo = Says Silent })

abbrev pub search_finished : State → SearchFinish → Effect → Outcome
search_finished state f effect =
    record { state = search_finished_state f state; kill = Keep_kill; arrange = Adjust f.point Keep_mark Keep_position None f.sought; effect = effect }

abbrev pub sought_by : State → Result SearchFinish Message → Outcome
sought_by state (Err message) = fails state message
sought_by state (Ok f) = search_finished state f No_effect

-- a family that searches
abbrev pub seeks : State → Option Target → (Target → Result SearchFinish Message) → Outcome
seeks state None plan = fails state (Says NoBuffer)
seeks state (Some t) plan = sought_by state (plan t)

abbrev pub replaced_by : State → BufferSeen → Result SearchChange Message → Outcome
replaced_by state b (Err message) = fails state message
replaced_by state b (Ok c) =
    if is_full (size_told b.told) (serial_told b.told) c.a c.b c.put then fails state (Says BufferFull)
    else search_finished state c.finish (edit_of b.name c.a c.b c.put)

-- one that replaces what was found
abbrev pub replaces_one : State → Option Target → (Target → Result SearchChange Message) → Outcome
replaces_one state None plan = fails state (Says NoBuffer)
replaces_one state (Some t) plan = replaced_by state t.buffer (plan t)

abbrev pub sets : State → Result State Message → Outcome
sets state (Err message) = fails state message
sets state (Ok after) = owns after

abbrev pub arranges : State → Effect → Result Arrange Message → Outcome
arranges state e (Err message) = fails state message
arranges state e (Ok plan) = record { state = acted_state state; kill = Keep_kill; arrange = plan; effect = e }

-- one effect, and no window or position changes
abbrev pub effects : State → Result Effect Message → Outcome
effects state (Err message) = fails state message
effects state (Ok e) = record { state = acted_state state; kill = Keep_kill; arrange = Stay; effect = e }

abbrev pub has_file : Option Told → Bool
has_file None = false
has_file (Some t) = t.file

abbrev pub entries_told : Option Told → List Entry
entries_told None = []
entries_told (Some t) = t.entries

abbrev pub items_in : Option Full → List Item
items_in None = []
items_in (Some f) = f.items

abbrev pub list_set : List ℕ → Result (List Entry) Message → Result Effect Message
list_set name (Err message) = Err message
list_set name (Ok entries) = Ok (SetList name entries)

-- a prompt keeps the argument for its command
abbrev pub asks : Question → Option ℕ → State → State
asks c n state = record (acted_state state) { argument = option_map (λ k. record { value = k; extends = false }) n; mode = Prompt c; input = [] }

-- the selected window shows the buffer of that name
abbrev pub shows_named : View → List ℕ → Effect → Outcome
shows_named v name effect = arranges v.session.state effect (Ok (comes v.session.windows v.session.selected (Buffer_of name)))

abbrev pub creates_buffer : View → List ℕ → Outcome
creates_buffer v name =
    if not (is_name name) then fails v.session.state (Says BadName)
    else if nat_le BUFFER_LIMIT (length v.buffers) then fails v.session.state (Says TooManyBuffers)
    else shows_named v name (Create name v.session.user)

abbrev pub kills_buffer : View → List ℕ → Option BufferSeen → Outcome
kills_buffer v [] found = fails v.session.state (Says NoBuffer)
kills_buffer v (c ∷ cs) None = fails v.session.state (Says NoSuchBuffer)
kills_buffer v (c ∷ cs) (Some b) = record { state = acted_state v.session.state; kill = Keep_kill; arrange = Stay; effect = Kill (c ∷ cs) }

-- one effect on the buffer that is shown, or whose list is
abbrev pub rules : State → Option BufferSeen → (BufferSeen → Result Effect Message) → Outcome
rules state None plan = fails state (Says NoBuffer)
rules state (Some b) plan = effects state (plan b)

-- the selected window comes to the access list of the buffer that it shows, or whose list it shows
abbrev pub lists : View → Option BufferSeen → Outcome
lists v None = fails v.session.state (Says NoBuffer)
lists v (Some b) = arranges v.session.state No_effect (Ok (comes v.session.windows v.session.selected (List_of b.name)))

abbrev pub saves : State → Option Target → Bool → Outcome
saves state None stored = fails state (Says NoBuffer)
saves state (Some t) stored =
    if state.playing then fails state (Says InMacro)
    else if not (has_file t.buffer.told) then fails state (Says NoFile)
    else if not stored then fails state (Says SaveFailed)
    else record { state = record (acted_state state) { echo = Wrote t.buffer.name }; kill = Keep_kill; arrange = Stay; effect = Save t.buffer.name (text_in t.buffer.full) }

-- a listing or an access list goes by rows, and a text by lines
abbrev pub has_rows : Option WindowSeen → Bool
has_rows None = false
has_rows (Some x) = is_rows x.shows

abbrev pub row_in : Scrolling → Option WindowSeen → Option ℕ
row_in c o = option_map (λ (x : WindowSeen). row_scrolled c x.row x.height) o

abbrev pub scrolls_rows : State → Option ℕ → Outcome
scrolls_rows state row = record { state = acted_state state; kill = Keep_kill; arrange = Adjust Keep_position Keep_mark Keep_position row Keep_search; effect = No_effect }

abbrev pub scrolls : View → Scrolling → Option ℕ → List ℕ → Outcome
scrolls v c n typed =
    if has_rows (selected_seen v) then scrolls_rows v.session.state (row_in c (selected_seen v))
    else moves v.session.state (target v) (λ t. scrolling c (text_in t.buffer.full) (around v.session n typed t))

-- NEEDS AND ALLOWED in one table: what each act asks for, in the order in which it is judged, and what it does where all of
-- that is granted
pub record Meaning : Type 0 where
  pub needs : List Request
  pub does : Outcome

abbrev asking : List Request → Outcome → Meaning
asking needs does = record { needs = needs; does = does }

-- a family that edits the selected window's buffer
abbrev editing : View → Option ℕ → List ℕ → (Target → ℕ) → (BufferSeen → Around → Result Change Message) → Meaning
editing v n typed rights plan = asking (here (target v) rights) (edits v.session.state (target v) (λ t. plan t.buffer (around v.session n typed t)))

-- one that has another effect on a buffer
abbrev ruling : View → Option BufferSeen → ℕ → (BufferSeen → Result Effect Message) → Meaning
ruling v b rights plan = asking (about b rights) (rules v.session.state b plan)

-- on the buffer of the name that was typed
abbrev pub meaning_by_name : View → ByName → Option ℕ → List ℕ → Meaning
meaning_by_name v SwitchToBuffer n typed =
    asking (there v typed (bit_of ReadAttributes)) (elim (find_seen typed v.buffers) [ None ↦ creates_buffer v typed | Some b ↦ shows_named v typed No_effect ])
meaning_by_name v KillBuffer n typed = asking (there v (name_meant v typed) (bit_of Delete)) (kills_buffer v (name_meant v typed) (find_seen (name_meant v typed) v.buffers))
meaning_by_name v InsertBuffer n typed =
    asking (elim (target v) [ None ↦ [] | Some t ↦ copy_needs (find_seen typed v.buffers) typed t ])
    (edits v.session.state (target v) (λ t. inserted (option_map (λ b. text_in b.full) (find_seen typed v.buffers)) (around v.session n typed t)))

-- the store's answer to a save decides what that does; what is asked for does not go by it
abbrev pub meaning : View → Act → Bool → Meaning
meaning v Unbound stored = asking [] (fails v.session.state (Says KeyNotBound))
meaning v (Run (Insert c) n typed) stored = editing v n typed insertion_right (λ b x. insertion c x)
meaning v (Run (InsertReading c) n typed) stored = editing v n typed (λ t. bit_of ReadData + insertion_right t) (λ b x. reading_insertion c (text_in b.full) x)
meaning v (Run (Move c) n typed) stored =
    asking (here (target v) (λ t. bit_of ReadData)) (moves v.session.state (target v) (λ t. motion c (text_in t.buffer.full) (around v.session n typed t)))
meaning v (Run (Alter c) n typed) stored = editing v n typed (λ t. read_write) (λ b x. alteration c (text_in b.full) x)
meaning v (Run (Seek c) n typed) stored =
    asking (here (target v) (λ t. bit_of ReadData)) (seeks v.session.state (target v) (λ t. seek c (text_in t.buffer.full) (around_search v.session typed t)))
meaning v (Run (Replace c) n typed) stored =
    asking (here (target v) (λ t. read_write)) (replaces_one v.session.state (target v) (λ t. replace c (text_in t.buffer.full) (around_search v.session typed t)))
meaning v (Run (Scroll c) n typed) stored = asking (here (target v) (λ t. bit_of ReadData)) (scrolls v c n typed)
meaning v (Run (Set c) n typed) stored = asking [] (sets v.session.state (setting c (acted_state v.session.state) n))
meaning v (Run (Rearrange c) n typed) stored = asking [] (arranges v.session.state No_effect (arrangement c v.session.windows v.session.selected n))
meaning v (Run (Ask c) n typed) stored = asking [] (owns (asks c n v.session.state))
meaning v (Run (Named c) n typed) stored = meaning_by_name v c n typed
meaning v (Run (Entries c) n typed) stored = ruling v (subject v) (bit_of WriteAcl) (λ b. list_set b.name (entries_changed c (entries_told b.told) n typed))
meaning v (Run ListEntries n typed) stored = asking (about (subject v) (bit_of ReadAcl)) (lists v (subject v))
meaning v (Run SetOwner n typed) stored = ruling v (subject v) (bit_of WriteOwner) (λ b. if is_among typed v.directory.users then Ok (SetOwners b.name (ToUser typed)) else Err (Says NoSuchUser))
meaning v (Run SetGroup n typed) stored = ruling v (subject v) (bit_of WriteOwner)
    (λ b. if is_group_answer v.directory.groups typed then Ok (SetOwners b.name (ToGroup (group_answered typed))) else Err (Says NoSuchGroup))
meaning v (Run UndoEdit n typed) stored = editing v n typed (λ t. read_write) (λ b x. undo (items_in b.full) x)
meaning v (Run NotModified n typed) stored = ruling v (shown_buffer v) read_write (λ b. Ok (Unmodified b.name))
meaning v (Run SaveBuffer n typed) stored = asking (here (target v) (λ t. read_write)) (saves v.session.state (target v) stored)
meaning v (Run LeaveSearch n typed) stored =
    asking [] (record { state = failed_state (Says Quitting) v.session.state; kill = Keep_kill; arrange = Adjust At_origin Keep_mark Keep_position None No_search; effect = No_effect })
meaning v (Run Exit n typed) stored =
    asking [] (if v.session.state.playing then fails v.session.state (Says InMacro) else record { state = acted_state v.session.state; kill = Keep_kill; arrange = Stay; effect = Quit })

abbrev pub needs : View → Act → List Request
needs v c = (meaning v c false).needs

abbrev pub allowed : View → Act → Bool → Outcome
allowed v c stored = (meaning v c stored).does

abbrev pub by_name : View → ByName → Option ℕ → List ℕ → Outcome
by_name v c n typed = (meaning_by_name v c n typed).does

abbrev pub permitted : State → Decision → Outcome → Outcome
permitted state Granted o = o
permitted state denied o = fails state (Denied denied)

-- OUTCOME of an act, by the view and the store's answer to a save: first the rights, then what its family does
unfoldable pub outcome : View → Act → Bool → Outcome
outcome v c stored = permitted v.session.state (judged v (needs v c)) (allowed v c stored)

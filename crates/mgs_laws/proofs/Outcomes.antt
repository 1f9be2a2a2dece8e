-- What holds of the outcome of every act: a case for each family of commands, and none for a command.
use Rattle.std.proofs.Common.{◌≡◌, ℕ, List, [], ◌∷◌, refl, sym, ap, subst, ◌∙◌, Bool, true, false, cond, not, ◌&&◌, ◌||◌, ◌+◌, ◌==◌, Option, Some, None, is_some, nat_le, length}
use Rattle.std.specs.Prelude.{Result, Ok, Err, ◌-◌, take}
use Rattle.std.specs.Option.{option_map}
use Rattle.mgs_model.specs.Names.{is_name}
use Rattle.mgs_model.specs.Rights.{rights_in}
use Rattle.mgs_model.specs.Text.{is_edit}
use Rattle.mgs_model.specs.Access.{group_answered, is_among, is_group_answer, allows}
use Rattle.mgs_model.specs.World.{State, Todo}
use Rattle.mgs_model.specs.View.{View, BufferSeen, find_seen, size_told, serial_told, text_in}
use Rattle.mgs_model.specs.Outcome.{Act, Unbound, Run, Outcome, Keep_position, Keep_mark, Keep_kill, Keep_search, Stay, Adjust, Arrange, Effect, No_effect, Edit, Unmodified, SetOwners, Create, Quit}
use Rattle.mgs_model.specs.Plans.{acted_state, Finish, Change, scrolling, setting, arrangement, entries_changed, inserted}
use Rattle.mgs_model.specs.SearchCommands.{ModePlan, Keep_mode, Goes_on, Over, Failing, SearchFinish, SearchChange}
use Rattle.mgs_model.specs.Acts.{Target, target, around, is_at_text_end, copy_needs, meaning_by_name, Request, insertion_right, here, name_meant, needs, deciders_found, request_judged, or_else, judged, fails, owns, is_too_large, is_full, without_all, mode_left, finished_state, finished, edit_of, edited_by, edits, moved_by, moves, search_finished_state, search_finished, sought_by, seeks, replaced_by, replaces_one, sets, arranges, shows_named, creates_buffer, kills_buffer, by_name, has_file, entries_told, list_set, effects, rules, lists, saves, about, shown_buffer, subject, selected_seen, has_rows, row_in, scrolls_rows, scrolls, allowed, permitted, outcome}
use Rattle.mgs_model.specs.Events.{saved_by}
use Rattle.mgs_model.proofs.Basics.{or_true}
use Rattle.mgs_model.proofs.Deciding.{Each, granted_each}
use Rattle.mgs_laws.specs.Lawful.{granted_on, lawful}
use Rattle.mgs_laws.specs.Holder.{is_rule}
use Rattle.mgs_model.specs.declared.owners.NewOwner.{NewOwner}
use Rattle.mgs_model.specs.declared.owners.NewOwner.TheVariants.{ToUser, ToGroup}
use Rattle.mgs_model.specs.declared.right.Right.TheVariants.{WriteData, AppendData}
use Rattle.mgs_model.specs.declared.entry.Entry.{Entry}
use Rattle.mgs_model.specs.declared.entry.Decision.{Decision}
use Rattle.mgs_model.specs.declared.entry.Decision.TheVariants.{Granted, DeniedBy, NotGranted}
use Rattle.mgs_model.specs.declared.echo_text.Message.{Message}
use Rattle.mgs_model.specs.declared.echo_text.Message.TheVariants.{Says, Denied}
use Rattle.mgs_model.specs.declared.echo_text.Notice.TheVariants.{BadColumn, BadName, BufferFull, InMacro, KeyNotBound, KillTooLarge, NoArgument, NoBuffer, NoFile, NoSuchBuffer, NoSuchGroup, NoSuchUser, NotInMacro, SaveFailed, Silent, TooManyBuffers}
use Rattle.mgs_model.specs.declared.session.ByName.{ByName}
use Rattle.mgs_model.specs.declared.session.ByName.TheVariants.{SwitchToBuffer, KillBuffer, InsertBuffer}
use Rattle.mgs_model.specs.declared.session.Scrolling.{Scrolling}
use Rattle.mgs_model.specs.declared.session.Setting.{Setting}
use Rattle.mgs_model.specs.declared.session.Setting.TheVariants.{SetFillColumn, KeyboardQuit, StartMacro, EndMacro, CallMacro}
use Rattle.mgs_model.specs.declared.session.Command.TheVariants.{Insert, InsertReading, Move, Alter, Seek, Replace, Scroll, Set, Rearrange, Ask, Named, Entries, ListEntries, SetOwner, SetGroup, UndoEdit, NotModified, SaveBuffer, LeaveSearch, Exit}

-- WHAT HOLDS

-- one act saves
abbrev pub is_save : Act → Bool
is_save (Run SaveBuffer n typed) = true
is_save _ = false

-- one act leaves more to do: the playing of a macro, unless it is refused
abbrev pub is_refused : Result State Message → Bool
is_refused (Err message) = true
is_refused (Ok state) = false

abbrev pub is_brief_setting : State → Setting → Option ℕ → Bool
is_brief_setting state CallMacro n = is_refused (setting CallMacro (acted_state state) n)
is_brief_setting state _ n = true

abbrev pub is_brief : State → Act → Bool
is_brief state (Run (Set c) n typed) = is_brief_setting state c n
is_brief state _ = true

-- what any other leaves to do: nothing, what was to be done, or this without a replacing of all
pub data Left : Type 0 where
  Nothing_left : Left
  All_left : Left
  Not_replacing : Left

abbrev pub left_of : Left → List Todo → List Todo
left_of Nothing_left todo = []
left_of All_left todo = todo
left_of Not_replacing todo = without_all todo

pub record IsLeft (old new : List Todo) : Type 0 where
  pub left : Left
  pub is_left : new ≡ left_of left old

-- its effect is lawful; where that changes who may do what, or which buffers there are, kill buffers stay; what it saves, and leaves to do
pub record Holds (v : View) (c : Act) (o : Outcome) : Type 0 where
  pub lawfully : lawful v o.effect ≡ true
  pub kills : is_rule o.effect ≡ true → o.kill ≡ Keep_kill
  pub saved : is_save c ≡ false → saved_by o.effect ≡ []
  pub todo : is_brief v.session.state c ≡ true → IsLeft v.session.state.todo o.state.todo

all_left : {todo : List Todo} → IsLeft todo todo
all_left = record { left = All_left; is_left = refl }

fails_holds : (v : View) (c : Act) (message : Message) → Holds v c (fails v.session.state message)
fails_holds v c message = record { lawfully = refl; kills = λ h. refl; saved = λ h. refl; todo = λ h. record { left = Nothing_left; is_left = refl } }

unless_holds : (v : View) (c : Act) (message : Message) (f : Bool) (o : Outcome) → Holds v c o → Holds v c (cond f (fails v.session.state message) o)
unless_holds v c message true o h = fails_holds v c message
unless_holds v c message false o h = h

-- where the kill buffer stays
keeps_holds : (v : View) (c : Act) (state : State) (arrange : Arrange) (e : Effect) → lawful v e ≡ true → saved_by e ≡ [] → IsLeft v.session.state.todo state.todo
    → Holds v c (record { state = state; kill = Keep_kill; arrange = arrange; effect = e })
keeps_holds v c state arrange e l s t = record { lawfully = l; kills = λ h. refl; saved = λ h. s; todo = λ h. t }

-- A REQUEST THAT IS GRANTED GRANTS EACH OF ITS RIGHTS

or_else_granted : (d e : Decision) → or_else d e ≡ Granted → (d ≡ Granted) × (e ≡ Granted)
or_else_granted Granted e h = (refl, h)
or_else_granted (DeniedBy n right) e h = cc
or_else_granted (NotGranted right) e h = cc

-- the rights of a request, where it and those behind it are granted
request_granted : (v : View) (r : Request) (rs : List Request) → judged v (r ∷ rs) ≡ Granted → Each (deciders_found (find_seen r.buffer v.buffers)) allows (rights_in r.rights)
request_granted v r rs e = granted_each (deciders_found (find_seen r.buffer v.buffers)) (rights_in r.rights) (or_else_granted (request_judged v r) (judged v rs) e).0

rest_granted : (v : View) (r : Request) (rs : List Request) → judged v (r ∷ rs) ≡ Granted → judged v rs ≡ Granted
rest_granted v r rs e = (or_else_granted (request_judged v r) (judged v rs) e).1

-- FAMILIES THAT EDIT THE SELECTED WINDOW'S BUFFER

or_first : (a b : Bool) → a ≡ true → (a || b) ≡ true
or_first a b e = ap (λ c. c || b) e

-- its request grants one of the two rights of an edit
MayEdit : View → (Target → ℕ) → Type 0
MayEdit v rights = (t : Target) → judged v (here (Some t) rights) ≡ Granted → (granted_on v t.buffer.name WriteData || granted_on v t.buffer.name AppendData) ≡ true

insertion_may : (v : View) → MayEdit v insertion_right
unfolding MayEdit
insertion_may v t = by (is_at_text_end t)
  where
    by : (c : Bool) → judged v (record { buffer = t.buffer.name; rights = cond c 4 2 } ∷ []) ≡ Granted → (granted_on v t.buffer.name WriteData || granted_on v t.buffer.name AppendData) ≡ true
    by true e = or_true _ _ (request_granted v (record { buffer = t.buffer.name; rights = 4 }) [] e).0
    by false e = or_first _ _ (request_granted v (record { buffer = t.buffer.name; rights = 2 }) [] e).0

reading_insertion_may : (v : View) → MayEdit v (λ t. 1 + insertion_right t)
unfolding MayEdit
reading_insertion_may v t = by (is_at_text_end t)
  where
    by : (c : Bool) → judged v (record { buffer = t.buffer.name; rights = 1 + cond c 4 2 } ∷ []) ≡ Granted → (granted_on v t.buffer.name WriteData || granted_on v t.buffer.name AppendData) ≡ true
    by true e = or_true _ _ (request_granted v (record { buffer = t.buffer.name; rights = 5 }) [] e).1.0
    by false e = or_first _ _ (request_granted v (record { buffer = t.buffer.name; rights = 3 }) [] e).1.0

alteration_may : (v : View) → MayEdit v (λ t. 3)
unfolding MayEdit
alteration_may v t e = or_first _ _ (request_granted v (record { buffer = t.buffer.name; rights = 3 }) [] e).1.0

-- an edit with its right, or no effect
record IsMild (v : View) (e : Effect) : Type 0 where
  mildly : lawful v e ≡ true
  no_rule : is_rule e ≡ false
  no_save : saved_by e ≡ []

no_effect_mild : (v : View) → IsMild v No_effect
no_effect_mild v = record { mildly = refl; no_rule = refl; no_save = refl }

edit_mild : (v : View) (name : List ℕ) (a b : ℕ) (put : List ℕ) → (granted_on v name WriteData || granted_on v name AppendData) ≡ true → IsMild v (edit_of name a b put)
edit_mild v name a b put h = by (is_edit a b put)
  where
    by : (f : Bool) → IsMild v (cond f (Edit name a b put) No_effect)
    by true = record { mildly = h; no_rule = refl; no_save = refl }
    by false = no_effect_mild v

finished_holds : (v : View) (c : Act) (f : Finish) (e : Effect) → IsMild v e → Holds v c (finished v.session.state f e)
finished_holds v c f e m =
    unless_holds v c (Says KillTooLarge) (is_too_large f.kill) (record { state = finished_state f v.session.state; kill = f.kill; arrange = Adjust f.point f.mark f.top None Keep_search; effect = e })
    (record { lawfully = m.mildly; kills = λ h. (let z : true ≡ false = sym h ∙ m.no_rule in cc); saved = λ h. m.no_save; todo = λ h. all_left })

search_finished_holds : (v : View) (c : Act) (f : SearchFinish) (e : Effect) → IsMild v e → Holds v c (search_finished v.session.state f e)
search_finished_holds v c f e m = keeps_holds v c (search_finished_state f v.session.state) (Adjust f.point Keep_mark Keep_position None f.sought) e m.mildly m.no_save (by f.mode)
  where
    by : (plan : ModePlan) → IsLeft v.session.state.todo (mode_left plan (record (acted_state v.session.state) { echo = Says Silent })).todo
    by (Over n) = record { left = Not_replacing; is_left = refl }
    by Keep_mode = all_left
    by (Goes_on n) = all_left
    by (Failing failing) = all_left

-- where there is room
fits_holds : (v : View) (c : Act) (b : BufferSeen) (from until : ℕ) (put : List ℕ) (o : Outcome) → Holds v c o → Holds v c (cond (is_full (size_told b.told) (serial_told b.told) from until put) (fails v.session.state (Says BufferFull)) o)
fits_holds v c b from until put o h = unless_holds v c (Says BufferFull) (is_full (size_told b.told) (serial_told b.told) from until put) o h

edits_holds : (v : View) (c : Act) (rights : Target → ℕ) (plan : Target → Result Change Message) → MayEdit v rights → (t : Option Target) → judged v (here t rights) ≡ Granted → Holds v c (edits v.session.state t plan)
unfolding MayEdit
edits_holds v c rights plan may None e = fails_holds v c (Says NoBuffer)
edits_holds v c rights plan may (Some t) e = by (plan t)
  where
    by : (p : Result Change Message) → Holds v c (edited_by v.session.state t.buffer p)
    by (Err message) = fails_holds v c message
    by (Ok k) = fits_holds v c t.buffer k.a k.b k.put _ (finished_holds v c k.finish (edit_of t.buffer.name k.a k.b k.put) (edit_mild v t.buffer.name k.a k.b k.put (may t e)))

replaces_holds : (v : View) (c : Act) (plan : Target → Result SearchChange Message) (t : Option Target) → judged v (here t (λ t. 3)) ≡ Granted → Holds v c (replaces_one v.session.state t plan)
unfolding MayEdit
replaces_holds v c plan None e = fails_holds v c (Says NoBuffer)
replaces_holds v c plan (Some t) e = by (plan t)
  where
    by : (p : Result SearchChange Message) → Holds v c (replaced_by v.session.state t.buffer p)
    by (Err message) = fails_holds v c message
    by (Ok k) = fits_holds v c t.buffer k.a k.b k.put _ (search_finished_holds v c k.finish (edit_of t.buffer.name k.a k.b k.put) (edit_mild v t.buffer.name k.a k.b k.put (alteration_may v t e)))

-- FAMILIES THAT HAVE NO EFFECT

moves_holds : (v : View) (c : Act) (plan : Target → Result Finish Message) (t : Option Target) → Holds v c (moves v.session.state t plan)
moves_holds v c plan None = fails_holds v c (Says NoBuffer)
moves_holds v c plan (Some t) = by (plan t)
  where
    by : (p : Result Finish Message) → Holds v c (moved_by v.session.state p)
    by (Err message) = fails_holds v c message
    by (Ok f) = finished_holds v c f No_effect (no_effect_mild v)

seeks_holds : (v : View) (c : Act) (plan : Target → Result SearchFinish Message) (t : Option Target) → Holds v c (seeks v.session.state t plan)
seeks_holds v c plan None = fails_holds v c (Says NoBuffer)
seeks_holds v c plan (Some t) = by (plan t)
  where
    by : (p : Result SearchFinish Message) → Holds v c (sought_by v.session.state p)
    by (Err message) = fails_holds v c message
    by (Ok f) = search_finished_holds v c f No_effect (no_effect_mild v)

scrolls_holds : (v : View) (c : Act) (k : Scrolling) (n : Option ℕ) (typed : List ℕ) → Holds v c (scrolls v k n typed)
scrolls_holds v c k n typed = by (has_rows (selected_seen v))
  where
    by : (f : Bool) → Holds v c (cond f (scrolls_rows v.session.state (row_in k (selected_seen v))) (moves v.session.state (target v) (λ t. scrolling k (text_in t.buffer.full) (around v.session n typed t))))
    by true = keeps_holds v c _ _ No_effect refl refl all_left
    by false = moves_holds v c _ (target v)

owns_holds : (v : View) (c : Act) (state : State) → IsLeft v.session.state.todo state.todo → Holds v c (owns state)
owns_holds v c state t = keeps_holds v c state Stay No_effect refl refl t

sets_unless : (v : View) (c : Act) (message : Message) (f : Bool) (p : Result State Message) → Holds v c (sets v.session.state p) → Holds v c (sets v.session.state (cond f (Err message) p))
sets_unless v c message true p h = fails_holds v c message
sets_unless v c message false p h = h

sets_holds : (v : View) (c : Setting) (n : Option ℕ) (typed : List ℕ) → Holds v (Run (Set c) n typed) (sets v.session.state (setting c (acted_state v.session.state) n))
sets_holds v SetFillColumn None typed = fails_holds v _ (Says NoArgument)
sets_holds v SetFillColumn (Some n) typed = sets_unless v _ (Says BadColumn) (n == 0) _ (owns_holds v _ _ all_left)
sets_holds v KeyboardQuit n typed = owns_holds v _ _ (record { left = Nothing_left; is_left = refl })
sets_holds v StartMacro n typed = sets_unless v _ (Says InMacro) (v.session.state.recording || v.session.state.playing) _ (owns_holds v _ _ all_left)
sets_holds v EndMacro n typed = sets_unless v _ (Says InMacro) v.session.state.playing _ (by v.session.state.recording)
  where
    by : (f : Bool) → Holds v (Run (Set EndMacro) n typed) (sets v.session.state (cond f (Ok (record (acted_state v.session.state) { recording = false; macro = take (length v.session.state.macro - 2) v.session.state.macro })) (Err (Says NotInMacro))))
    by true = owns_holds v _ _ all_left
    by false = fails_holds v _ (Says NotInMacro)
sets_holds v CallMacro n typed = by (setting CallMacro (acted_state v.session.state) n) (λ h. h)
  where
    by : (p : Result State Message) → (is_brief_setting v.session.state CallMacro n ≡ true → is_refused p ≡ true) → Holds v (Run (Set CallMacro) n typed) (sets v.session.state p)
    by (Err message) q = fails_holds v _ message
    by (Ok state) q = record { lawfully = refl; kills = λ h. refl; saved = λ h. refl; todo = λ h. (let z : false ≡ true = q h in cc) }

arranges_holds : (v : View) (c : Act) (p : Result Arrange Message) → Holds v c (arranges v.session.state No_effect p)
arranges_holds v c (Err message) = fails_holds v c message
arranges_holds v c (Ok plan) = keeps_holds v c _ plan No_effect refl refl all_left

lists_holds : (v : View) (c : Act) (o : Option BufferSeen) → Holds v c (lists v o)
lists_holds v c None = fails_holds v c (Says NoBuffer)
lists_holds v c (Some b) = keeps_holds v c _ _ No_effect refl refl all_left

-- FAMILIES WITH ANOTHER EFFECT

effect_holds : (v : View) (c : Act) (e : Effect) → lawful v e ≡ true → saved_by e ≡ [] → Holds v c (effects v.session.state (Ok e))
effect_holds v c e l s = keeps_holds v c (acted_state v.session.state) Stay e l s all_left

rules_hold : (v : View) (c : Act) (rights : ℕ) (plan : BufferSeen → Result Effect Message) → ((b : BufferSeen) → judged v (about (Some b) rights) ≡ Granted → Holds v c (effects v.session.state (plan b))) → (o : Option BufferSeen) → judged v (about o rights) ≡ Granted → Holds v c (rules v.session.state o plan)
rules_hold v c rights plan may None e = fails_holds v c (Says NoBuffer)
rules_hold v c rights plan may (Some b) e = may b e

list_set_holds : (v : View) (c : Act) (b : BufferSeen) (p : Result (List Entry) Message) → judged v (about (Some b) 262144) ≡ Granted → Holds v c (effects v.session.state (list_set b.name p))
list_set_holds v c b (Err message) e = fails_holds v c message
list_set_holds v c b (Ok entries) e = effect_holds v c _ (request_granted v (record { buffer = b.name; rights = 262144 }) [] e).0 refl

owners_set_hold : (v : View) (c : Act) (new : NewOwner) (message : Message) (f : Bool) (b : BufferSeen) → judged v (about (Some b) 524288) ≡ Granted → Holds v c (effects v.session.state (cond f (Ok (SetOwners b.name new)) (Err message)))
owners_set_hold v c new message true b e = effect_holds v c _ (request_granted v (record { buffer = b.name; rights = 524288 }) [] e).0 refl
owners_set_hold v c new message false b e = fails_holds v c message

and_both : (a b : Bool) → a ≡ true → b ≡ true → (a && b) ≡ true
and_both true b p q = q
and_both false b p q = p

unmodified_holds : (v : View) (c : Act) (b : BufferSeen) → judged v (about (Some b) 3) ≡ Granted → Holds v c (effects v.session.state (Ok (Unmodified b.name)))
unmodified_holds v c b e =
    let each : Each (deciders_found (find_seen b.name v.buffers)) allows (rights_in 3) = request_granted v (record { buffer = b.name; rights = 3 }) [] e in
    effect_holds v c _ (and_both _ _ each.0 each.1.0) refl

saves_holds : (v : View) (n : Option ℕ) (typed : List ℕ) (stored : Bool) (t : Option Target) → judged v (here t (λ t. 3)) ≡ Granted → Holds v (Run SaveBuffer n typed) (saves v.session.state t stored)
saves_holds v n typed stored None e = fails_holds v _ (Says NoBuffer)
saves_holds v n typed stored (Some t) e =
    let each : Each (deciders_found (find_seen t.buffer.name v.buffers)) allows (rights_in 3) = request_granted v (record { buffer = t.buffer.name; rights = 3 }) [] e in
    unless_holds v _ (Says InMacro) v.session.state.playing _ (unless_holds v _ (Says NoFile) (not (has_file t.buffer.told)) _ (unless_holds v _ (Says SaveFailed) (not stored) _
    (record { lawfully = and_both _ _ each.0 each.1.0; kills = λ h. refl; saved = λ h. (let z : true ≡ false = h in cc); todo = λ h. all_left })))

-- BUFFERS BY NAME

created_holds : (v : View) (c : Act) (name : List ℕ) → find_seen name v.buffers ≡ None → Holds v c (creates_buffer v name)
created_holds v c name e =
    unless_holds v c (Says BadName) (not (is_name name)) _ (unless_holds v c (Says TooManyBuffers) (nat_le 256 (length v.buffers)) _
    (keeps_holds v c _ _ (Create name v.session.user) (ap (λ o. not (is_some o)) e) refl all_left))

killed_holds : (v : View) (c : Act) (name : List ℕ) (o : Option BufferSeen) → judged v (elim o as (λ _. List Request) [ None ↦ [] | Some b ↦ record { buffer = name; rights = 65536 } ∷ [] ]) ≡ Granted → Holds v c (kills_buffer v name o)
killed_holds v c [] o e = fails_holds v c (Says NoBuffer)
killed_holds v c (d ∷ ds) None e = fails_holds v c (Says NoSuchBuffer)
killed_holds v c (d ∷ ds) (Some b) e = keeps_holds v c (acted_state v.session.state) Stay _ (request_granted v (record { buffer = d ∷ ds; rights = 65536 }) [] e).0 refl all_left

copied_holds : (v : View) (c : Act) (n : Option ℕ) (typed : List ℕ) (o : Option BufferSeen) (t : Option Target) → judged v (elim t as (λ _. List Request) [ None ↦ [] | Some t ↦ copy_needs o typed t ]) ≡ Granted → Holds v c (edits v.session.state t (λ t. inserted (option_map (λ b. text_in b.full) o) (around v.session n typed t)))
copied_holds v c n typed o None e = fails_holds v c (Says NoBuffer)
copied_holds v c n typed None (Some t) e = fails_holds v c (Says NoSuchBuffer)
copied_holds v c n typed (Some b) (Some t) e =
    edits_holds v c insertion_right (λ t. inserted (Some (text_in b.full)) (around v.session n typed t)) (insertion_may v) (Some t) (rest_granted v (record { buffer = typed; rights = 1 }) (here (Some t) insertion_right) e)

named_holds : (v : View) (c : Act) (k : ByName) (n : Option ℕ) (typed : List ℕ) → judged v (meaning_by_name v k n typed).needs ≡ Granted → Holds v c (by_name v k n typed)
named_holds v c SwitchToBuffer n typed e = by (find_seen typed v.buffers) refl
  where
    by : (o : Option BufferSeen) → find_seen typed v.buffers ≡ o → Holds v c (elim o as (λ _. Outcome) [ None ↦ creates_buffer v typed | Some b ↦ shows_named v typed No_effect ])
    by None q = created_holds v c typed q
    by (Some b) q = keeps_holds v c _ _ No_effect refl refl all_left
named_holds v c KillBuffer n typed e = killed_holds v c (name_meant v typed) (find_seen (name_meant v typed) v.buffers) e
named_holds v c InsertBuffer n typed e = copied_holds v c n typed (find_seen typed v.buffers) (target v) e

-- EVERY ACT

allowed_holds : (v : View) (c : Act) (stored : Bool) → judged v (needs v c) ≡ Granted → Holds v c (allowed v c stored)
allowed_holds v Unbound stored e = fails_holds v _ (Says KeyNotBound)
allowed_holds v (Run (Insert c) n typed) stored e = edits_holds v _ insertion_right _ (insertion_may v) (target v) e
allowed_holds v (Run (InsertReading c) n typed) stored e =
    edits_holds v _ (λ t. 1 + insertion_right t) _ (reading_insertion_may v) (target v) e
allowed_holds v (Run (Move c) n typed) stored e = moves_holds v _ _ (target v)
allowed_holds v (Run (Alter c) n typed) stored e = edits_holds v _ (λ t. 3) _ (alteration_may v) (target v) e
allowed_holds v (Run (Seek c) n typed) stored e = seeks_holds v _ _ (target v)
allowed_holds v (Run (Replace c) n typed) stored e = replaces_holds v _ _ (target v) e
allowed_holds v (Run (Scroll c) n typed) stored e = scrolls_holds v _ c n typed
allowed_holds v (Run (Set c) n typed) stored e = sets_holds v c n typed
allowed_holds v (Run (Rearrange c) n typed) stored e = arranges_holds v _ (arrangement c v.session.windows v.session.selected n)
allowed_holds v (Run (Ask c) n typed) stored e = owns_holds v _ _ all_left
allowed_holds v (Run (Named c) n typed) stored e = named_holds v _ c n typed e
allowed_holds v (Run (Entries c) n typed) stored e =
    rules_hold v _ 262144 _ (λ b. list_set_holds v _ b (entries_changed c (entries_told b.told) n typed)) (subject v) e
allowed_holds v (Run ListEntries n typed) stored e = lists_holds v _ (subject v)
allowed_holds v (Run SetOwner n typed) stored e =
    rules_hold v _ 524288 _ (owners_set_hold v _ (ToUser typed) (Says NoSuchUser) (is_among typed v.directory.users)) (subject v) e
allowed_holds v (Run SetGroup n typed) stored e =
    rules_hold v _ 524288 _ (owners_set_hold v _ (ToGroup (group_answered typed)) (Says NoSuchGroup) (is_group_answer v.directory.groups typed)) (subject v) e
allowed_holds v (Run UndoEdit n typed) stored e = edits_holds v _ (λ t. 3) _ (alteration_may v) (target v) e
allowed_holds v (Run NotModified n typed) stored e = rules_hold v _ 3 _ (unmodified_holds v _) (shown_buffer v) e
allowed_holds v (Run SaveBuffer n typed) stored e = saves_holds v n typed stored (target v) e
allowed_holds v (Run LeaveSearch n typed) stored e = keeps_holds v _ _ _ No_effect refl refl (record { left = Nothing_left; is_left = refl })
allowed_holds v (Run Exit n typed) stored e =
    unless_holds v _ (Says InMacro) v.session.state.playing _ (keeps_holds v _ (acted_state v.session.state) Stay Quit refl refl all_left)

permitted_holds : (v : View) (c : Act) (d : Decision) (o : Outcome) → (d ≡ Granted → Holds v c o) → Holds v c (permitted v.session.state d o)
permitted_holds v c Granted o h = h refl
permitted_holds v c (DeniedBy n right) o h = fails_holds v c (Denied (DeniedBy n right))
permitted_holds v c (NotGranted right) o h = fails_holds v c (Denied (NotGranted right))

pub outcome_holds : (v : View) (c : Act) (stored : Bool) → Holds v c (outcome v c stored)
unfolding outcome
outcome_holds v c stored = permitted_holds v c (judged v (needs v c)) (allowed v c stored) (allowed_holds v c stored)

pub outcome_lawful : (v : View) (c : Act) (stored : Bool) → lawful v (outcome v c stored).effect ≡ true
outcome_lawful v c stored = (outcome_holds v c stored).lawfully

-- WHAT IS LEFT

-- whatever holds of nothing, and of what was to be done, also without a replacing of all
pub left_holds : (P : List Todo → Type 0) → P [] → ((todo : List Todo) → P todo → P (without_all todo)) → (old new : List Todo) → IsLeft old new → P old → P new
left_holds P none rest old new l h = subst P (sym l.is_left) (by l.left)
  where
    by : (x : Left) → P (left_of x old)
    by Nothing_left = none
    by All_left = h
    by Not_replacing = rest old h

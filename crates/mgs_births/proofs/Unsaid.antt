-- An act says that it was denied only if a request of it is not granted: what its family does says something else.
use Rattle.std.proofs.Common.{◌≡◌, ℕ, ◌+◌, ◌==◌, nat_le, nat_lt, not, ◌&&◌, ◌||◌, Bool, true, false, cond, List, [], ◌∷◌, ◌++◌, length, map, Option, Some, None, refl}
use Rattle.std.specs.Prelude.{Result, Ok, Err, ◌-◌, slice_get, find, insert, replicate}
use Rattle.std.specs.List.{flat_map}
use Rattle.mgs_model.specs.Names.{is_name}
use Rattle.mgs_model.specs.Access.{is_among, is_group_answer}
use Rattle.mgs_model.specs.World.{State, Item, Play, Played}
use Rattle.mgs_model.specs.View.{View, BufferSeen, WindowSeen, find_seen, size_told, serial_told, text_in}
use Rattle.mgs_model.specs.Outcome.{Act, Unbound, Run, Outcome, Effect, Arrange, No_effect, u64_max}
use Rattle.mgs_model.specs.Plans.{Around, Change, Finish, acted_state, alteration, arrangement, count_of, entries_changed, entry_inserted, entry_replaced, fails_without, given, has_entry, height_at, insertion, inserted, is_at_end, is_at_start, motion, position_told, reading_insertion, scrolling, setting, undo, undo_target, undone, with_entry}
use Rattle.mgs_model.specs.Whites.{is_blank_at}
use Rattle.mgs_model.specs.SearchCommands.{AroundSearch, ModePlan, Keep_mode, Goes_on, Over, Failing, SearchChange, SearchFinish, if_match, replace, seek}
use Rattle.mgs_model.specs.Acts.{Target, allowed, around, arranges, creates_buffer, edited_by, edits, effects, fails, finished, has_file, has_rows, is_full, items_in, is_too_large, judged, kills_buffer, list_set, lists, meaning_by_name, mode_left, moved_by, moves, needs, outcome, permitted, replaced_by, replaces_one, row_in, rules, saves, scrolls, scrolls_rows, search_finished, seeks, selected_seen, sets, shown_buffer, shows_named, sought_by, subject, target}
use Rattle.mgs_model.specs.declared.entry.Entry.{Entry}
use Rattle.mgs_model.specs.declared.entry.EntryFault.{EntryFault}
use Rattle.mgs_model.specs.declared.entry.Decision.{Decision}
use Rattle.mgs_model.specs.declared.entry.Decision.TheVariants.{Granted, DeniedBy, NotGranted}
use Rattle.mgs_model.specs.declared.echo_text.Message.{Message}
use Rattle.mgs_model.specs.declared.echo_text.CursorPosition.{CursorPosition}
use Rattle.mgs_model.specs.declared.echo_text.Message.TheVariants.{Says}
use Rattle.mgs_model.specs.declared.echo_text.Notice.TheVariants.{Silent, KillTooLarge, BufferFull, ListFull, NoMacro, NoSuchEntry, TooMany, TooManyWindows, WindowTooSmall}
use Rattle.mgs_model.specs.declared.session.Insertion.{Insertion}
use Rattle.mgs_model.specs.declared.session.Insertion.TheVariants.{SelfInsert, Newline, OpenLine, Yank}
use Rattle.mgs_model.specs.declared.session.ReadingInsertion.{ReadingInsertion}
use Rattle.mgs_model.specs.declared.session.ReadingInsertion.TheVariants.{NewlineAndIndent}
use Rattle.mgs_model.specs.declared.session.Motion.{Motion}
use Rattle.mgs_model.specs.declared.session.Motion.TheVariants.{ForwardChar, BackwardChar, NextLine, PreviousLine, GoToLine, ForwardWord, BackwardWord, ForwardParagraph, BackwardParagraph, WhatCursorPosition, ExchangePointAndMark, CopyRegion}
use Rattle.mgs_model.specs.declared.session.Alteration.{Alteration}
use Rattle.mgs_model.specs.declared.session.Alteration.TheVariants.{DeleteChar, DeleteBackwardChar, KillLine, KillWord, BackwardKillWord, KillRegion, TransposeChars, UpcaseWord, DowncaseWord, CapitalizeWord, UpcaseRegion, DowncaseRegion, JustOneSpace, DeleteHorizontalSpace, DeleteBlankLines, JoinLine, FillParagraph}
use Rattle.mgs_model.specs.declared.session.Scrolling.{Scrolling}
use Rattle.mgs_model.specs.declared.session.Scrolling.TheVariants.{ScrollUp, ScrollDown}
use Rattle.mgs_model.specs.declared.session.EntryChange.{EntryChange}
use Rattle.mgs_model.specs.declared.session.EntryChange.TheVariants.{InsertEntry, DeleteEntry, ReplaceEntry}
use Rattle.mgs_model.specs.declared.session.Setting.{Setting}
use Rattle.mgs_model.specs.declared.session.Setting.TheVariants.{SetFillColumn, KeyboardQuit, StartMacro, EndMacro, CallMacro}
use Rattle.mgs_model.specs.declared.session.Arrangement.{Arrangement}
use Rattle.mgs_model.specs.declared.session.Arrangement.TheVariants.{DeleteWindow, SplitWindow, EnlargeWindow, ShrinkWindow}
use Rattle.mgs_model.specs.declared.session.Seeking.{Seeking}
use Rattle.mgs_model.specs.declared.session.Seeking.TheVariants.{SearchFor, StartSearch, SearchOn, StartReplace, SkipMatch}
use Rattle.mgs_model.specs.declared.session.Replacement.{Replacement}
use Rattle.mgs_model.specs.declared.session.Replacement.TheVariants.{ReplaceMatch, ReplaceLast}
use Rattle.mgs_model.specs.declared.session.ByName.{ByName}
use Rattle.mgs_model.specs.declared.session.ByName.TheVariants.{SwitchToBuffer, KillBuffer, InsertBuffer}
use Rattle.mgs_model.specs.declared.session.Command.TheVariants.{Insert, InsertReading, Move, Alter, Seek, Replace, Scroll, Set, Rearrange, Ask, Named, Entries, ListEntries, SetOwner, SetGroup, UndoEdit, NotModified, SaveBuffer, LeaveSearch, Exit}
use Rattle.mgs_model.specs.declared.limits.TheConstants.{BUFFER_LIMIT, ENTRY_LIMIT, REPETITION_LIMIT, WINDOW_LIMIT}
use Rattle.mgs_model.specs.Spelling.{entry_in}
use Rattle.mgs_births.specs.Reports.{decision_said}

-- a message that is no denial
record IsMild (m : Message) : Type 0 where
  mild : decision_said m ≡ Granted

abbrev IfMild : {A : Type 0} → (A → Message) → Result A Message → Type 0
IfMild told (Err m) = IsMild m
IfMild told (Ok a) = IsMild (told a)

-- a plan that says none, whether it fails or not
record AreMild {A : Type 0} (told : A → Message) (p : Result A Message) : Type 0 where
  mildly : IfMild told p

says : {m : Message} → decision_said m ≡ Granted → IsMild m
says e = record { mild = e }

done : {A : Type 0} (told : A → Message) (a : A) → decision_said (told a) ≡ Granted → AreMild told (Ok a)
done told a e = record { mildly = says e }

fault : {A : Type 0} (told : A → Message) (m : Message) → decision_said m ≡ Granted → AreMild told (Err m)
fault told m e = record { mildly = says e }

either : {A : Type 0} (told : A → Message) (b : Bool) (p q : Result A Message) → AreMild told p → AreMild told q → AreMild told (cond b p q)
either told true p q g h = g
either told false p q g h = h

without : {A B : Type 0} (told : B → Message) (m : Message) (o : Option A) (f : A → B) → decision_said m ≡ Granted → ((x : A) → decision_said (told (f x)) ≡ Granted) → AreMild told (fails_without m o f)
without told m None f e h = fault told m e
without told m (Some x) f e h = done told (f x) (h x)

-- PLANS

abbrev of_change : Change → Message
of_change c = c.finish.told

abbrev of_finish : Finish → Message
of_finish f = f.told

abbrev OfChange : Result Change Message → Type 0
OfChange p = AreMild of_change p

abbrev OfFinish : Result Finish Message → Type 0
OfFinish p = AreMild of_finish p

insertion_mild : (c : Insertion) (x : Around) → OfChange (insertion c x)
insertion_mild (SelfInsert c) x = done of_change _ refl
insertion_mild Newline x = done of_change _ refl
insertion_mild OpenLine x = done of_change _ refl
insertion_mild Yank x = either of_change (length x.kill == 0) _ _ (fault of_change _ refl) (done of_change _ refl)

reading_mild : (c : ReadingInsertion) (text : List ℕ) (x : Around) → OfChange (reading_insertion c text x)
reading_mild NewlineAndIndent text x = done of_change _ refl

inserted_mild : (text : Option (List ℕ)) (x : Around) → OfChange (inserted text x)
inserted_mild text x = without of_change _ text _ refl (λ t. refl)

told_mild : (position : CursorPosition) (o : Option ℕ) → decision_said (position_told position o) ≡ Granted
told_mild position None = refl
told_mild position (Some c) = refl

motion_mild : (c : Motion) (text : List ℕ) (x : Around) → OfFinish (motion c text x)
motion_mild ForwardChar text x = either of_finish (is_at_end x) _ _ (fault of_finish _ refl) (done of_finish _ refl)
motion_mild BackwardChar text x = either of_finish (is_at_start x) _ _ (fault of_finish _ refl) (done of_finish _ refl)
motion_mild NextLine text x = either of_finish _ _ _ (fault of_finish _ refl) (done of_finish _ refl)
motion_mild PreviousLine text x = either of_finish _ _ _ (fault of_finish _ refl) (done of_finish _ refl)
motion_mild GoToLine text x = without of_finish _ _ _ refl (λ n. refl)
motion_mild ForwardWord text x = either of_finish (is_at_end x) _ _ (fault of_finish _ refl) (done of_finish _ refl)
motion_mild BackwardWord text x = either of_finish (is_at_start x) _ _ (fault of_finish _ refl) (done of_finish _ refl)
motion_mild ForwardParagraph text x = either of_finish (is_at_end x) _ _ (fault of_finish _ refl) (done of_finish _ refl)
motion_mild BackwardParagraph text x = either of_finish (is_at_start x) _ _ (fault of_finish _ refl) (done of_finish _ refl)
motion_mild WhatCursorPosition text x = done of_finish _ (told_mild _ (slice_get text x.place))
motion_mild ExchangePointAndMark text x = without of_finish _ x.mark _ refl (λ m. refl)
motion_mild CopyRegion text x = without of_finish _ x.mark _ refl (λ m. refl)
motion_mild _ text x = done of_finish _ refl

scrolling_mild : (c : Scrolling) (text : List ℕ) (x : Around) → OfFinish (scrolling c text x)
scrolling_mild ScrollUp text x = either of_finish _ _ _ (fault of_finish _ refl) (done of_finish _ refl)
scrolling_mild ScrollDown text x = either of_finish _ _ _ (fault of_finish _ refl) (done of_finish _ refl)

either_change : (b : Bool) (c d : Change) → decision_said c.finish.told ≡ Granted → decision_said d.finish.told ≡ Granted → decision_said (cond b c d).finish.told ≡ Granted
either_change true c d e f = e
either_change false c d e f = f

alteration_mild : (c : Alteration) (text : List ℕ) (x : Around) → OfChange (alteration c text x)
alteration_mild DeleteChar text x = either of_change (is_at_end x) _ _ (fault of_change _ refl) (done of_change _ refl)
alteration_mild DeleteBackwardChar text x = either of_change (is_at_start x) _ _ (fault of_change _ refl) (done of_change _ refl)
alteration_mild KillLine text x = either of_change _ _ _ (done of_change _ refl) (either of_change (is_at_end x) _ _ (fault of_change _ refl) (done of_change _ refl))
alteration_mild KillWord text x = either of_change (is_at_end x) _ _ (fault of_change _ refl) (done of_change _ refl)
alteration_mild BackwardKillWord text x = either of_change (is_at_start x) _ _ (fault of_change _ refl) (done of_change _ refl)
alteration_mild KillRegion text x = without of_change _ x.mark _ refl (λ m. refl)
alteration_mild TransposeChars text x = either of_change _ _ _ (fault of_change _ refl) (done of_change _ refl)
alteration_mild UpcaseWord text x = either of_change (is_at_end x) _ _ (fault of_change _ refl) (done of_change _ refl)
alteration_mild DowncaseWord text x = either of_change (is_at_end x) _ _ (fault of_change _ refl) (done of_change _ refl)
alteration_mild CapitalizeWord text x = either of_change (is_at_end x) _ _ (fault of_change _ refl) (done of_change _ refl)
alteration_mild UpcaseRegion text x = without of_change _ x.mark _ refl (λ m. refl)
alteration_mild DowncaseRegion text x = without of_change _ x.mark _ refl (λ m. refl)
alteration_mild JustOneSpace text x = done of_change _ refl
alteration_mild DeleteHorizontalSpace text x = done of_change _ refl
alteration_mild DeleteBlankLines text x = done of_change _ (either_change (is_blank_at text x.place) _ _ refl refl)
alteration_mild JoinLine text x = either of_change _ _ _ (fault of_change _ refl) (done of_change _ refl)
alteration_mild FillParagraph text x = done of_change _ (either_change (is_blank_at text x.place) _ _ refl refl)

undone_mild : (x : Around) (o : Option Item) → OfChange (undone x o)
undone_mild x None = fault of_change _ refl
undone_mild x (Some item) = either of_change (x.serial == u64_max) _ _ (fault of_change _ refl) (done of_change _ refl)

undo_mild : (items : List Item) (x : Around) → OfChange (undo items x)
undo_mild items x = undone_mild x (find (λ (item : Item). item.serial == undo_target x) items)

-- LISTS

abbrev any_list : List Entry → Message
any_list entries = Says Silent

inserted_list_mild : (entries : List Entry) (n : ℕ) (e : Entry) → AreMild any_list (entry_inserted entries n e)
inserted_list_mild entries n e =
    either any_list (not (nat_le 1 n && nat_le n (length entries + 1))) _ _ (fault any_list (Says NoSuchEntry) refl)
    (either any_list (nat_le ENTRY_LIMIT (length entries)) _ _ (fault any_list (Says ListFull) refl) (done any_list (insert entries (n - 1) e) refl))

replaced_list_mild : (entries : List Entry) (n : Option ℕ) (e : Entry) → AreMild any_list (entry_replaced entries n e)
replaced_list_mild entries n e = either any_list (has_entry entries n) _ _ (done any_list _ refl) (fault any_list _ refl)

with_entry_mild : (change : Entry → Result (List Entry) Message) → ((e : Entry) → AreMild any_list (change e)) → (r : Result Entry EntryFault) → AreMild any_list (with_entry change r)
with_entry_mild change h (Err fault_told) = fault any_list _ refl
with_entry_mild change h (Ok e) = h e

entries_mild : (c : EntryChange) (entries : List Entry) (n : Option ℕ) (typed : List ℕ) → AreMild any_list (entries_changed c entries n typed)
entries_mild InsertEntry entries n typed = with_entry_mild _ (inserted_list_mild entries _) (entry_in typed)
entries_mild DeleteEntry entries n typed = either any_list (has_entry entries n) _ _ (done any_list _ refl) (fault any_list _ refl)
entries_mild ReplaceEntry entries n typed = with_entry_mild _ (replaced_list_mild entries n) (entry_in typed)

-- WINDOWS

abbrev any_arrange : Arrange → Message
any_arrange plan = Says Silent

given_mild : (windows : List WindowSeen) (selected from to n : ℕ) → AreMild any_arrange (given windows selected from to n)
given_mild windows selected from to n = either any_arrange _ _ _ (fault any_arrange _ refl) (done any_arrange _ refl)

unless_done : (b : Bool) (m : Message) → decision_said m ≡ Granted → (plan : Arrange) → AreMild any_arrange (cond b (Err m) (Ok plan))
unless_done b m e plan = either any_arrange b (Err m) (Ok plan) (fault any_arrange m e) (done any_arrange plan refl)

arrangement_mild : (c : Arrangement) (windows : List WindowSeen) (k : ℕ) (n : Option ℕ) → AreMild any_arrange (arrangement c windows k n)
arrangement_mild DeleteWindow windows k n = either any_arrange _ _ _ (fault any_arrange _ refl) (done any_arrange _ refl)
arrangement_mild SplitWindow windows k n =
    either any_arrange (nat_lt (height_at k windows) 3) _ _ (fault any_arrange (Says WindowTooSmall) refl)
    (unless_done (nat_le WINDOW_LIMIT (length windows)) (Says TooManyWindows) refl _)
arrangement_mild EnlargeWindow windows k n = either any_arrange _ _ _ (fault any_arrange _ refl) (given_mild windows k _ _ _)
arrangement_mild ShrinkWindow windows k n = either any_arrange _ _ _ (fault any_arrange _ refl) (given_mild windows k _ _ _)
arrangement_mild _ windows k n = done any_arrange _ refl

-- SETTINGS: they leave what was said

abbrev of_state : State → Message
of_state state = state.echo

setting_mild : (c : Setting) (state : State) (n : Option ℕ) → decision_said state.echo ≡ Granted → AreMild of_state (setting c state n)
setting_mild SetFillColumn state None h = fault of_state _ refl
setting_mild SetFillColumn state (Some n) h = either of_state (n == 0) _ _ (fault of_state _ refl) (done of_state _ h)
setting_mild KeyboardQuit state n h = done of_state _ refl
setting_mild StartMacro state n h = either of_state (state.recording || state.playing) _ _ (fault of_state _ refl) (done of_state _ h)
setting_mild EndMacro state n h = either of_state state.playing _ _ (fault of_state _ refl) (either of_state state.recording _ _ (done of_state _ h) (fault of_state _ refl))
setting_mild CallMacro state n h =
    either of_state (state.recording || state.playing) _ _ (fault of_state _ refl)
    (either of_state (length state.macro == 0) _ _ (fault of_state (Says NoMacro) refl)
    (either of_state (nat_lt REPETITION_LIMIT (count_of n)) (Err (Says TooMany)) (Ok (record state { todo = Play ∷ flat_map (λ (bytes : List ℕ). map Played bytes) (replicate (count_of n) state.macro) ++ state.todo })) (fault of_state (Says TooMany) refl) (record { mildly = says h })))

-- SEARCHES say nothing that is no failure

abbrev any_search : SearchFinish → Message
any_search f = Says Silent

abbrev any_replaced : SearchChange → Message
any_replaced c = Says Silent

seek_mild : (c : Seeking) (text : List ℕ) (x : AroundSearch) → AreMild any_search (seek c text x)
seek_mild (SearchFor d) text x = either any_search _ _ _ (fault any_search _ refl) (without any_search _ _ _ refl (λ m. refl))
seek_mild (StartSearch d) text x = done any_search _ refl
seek_mild (SearchOn d step) text x = either any_search x.sought_here _ _ (done any_search _ refl) (fault any_search _ refl)
seek_mild StartReplace text x = either any_search _ _ _ (fault any_search _ refl) (done any_search _ refl)
seek_mild SkipMatch text x = either any_search x.sought_here _ _ (done any_search _ refl) (fault any_search _ refl)

match_mild : (text : List ℕ) (x : AroundSearch) (f g : SearchFinish) → AreMild any_replaced (if_match text x f g)
match_mild text x f g = either any_replaced _ _ _ (fault any_replaced _ refl) (either any_replaced _ _ _ (done any_replaced _ refl) (done any_replaced _ refl))

replace_mild : (c : Replacement) (text : List ℕ) (x : AroundSearch) → AreMild any_replaced (replace c text x)
replace_mild ReplaceMatch text x = match_mild text x _ _
replace_mild ReplaceLast text x = match_mild text x _ _

-- OUTCOMES

record SaysNone (o : Outcome) : Type 0 where
  none : decision_said o.state.echo ≡ Granted

failed : (state : State) (m : Message) → decision_said m ≡ Granted → SaysNone (fails state m)
failed state m e = record { none = e }

unless : (state : State) (m : Message) (b : Bool) (o : Outcome) → decision_said m ≡ Granted → SaysNone o → SaysNone (cond b (fails state m) o)
unless state m true o e h = failed state m e
unless state m false o e h = h

finished_says : (state : State) (f : Finish) (e : Effect) → decision_said f.told ≡ Granted → SaysNone (finished state f e)
finished_says state f e h = unless state (Says KillTooLarge) (is_too_large f.kill) _ refl (record { none = h })

edits_says : (state : State) (o : Option Target) (plan : Target → Result Change Message) → ((t : Target) → OfChange (plan t)) → SaysNone (edits state o plan)
edits_says state None plan h = failed state _ refl
edits_says state (Some t) plan h = by (plan t) (h t)
  where
    by : (p : Result Change Message) → OfChange p → SaysNone (edited_by state t.buffer p)
    by (Err m) q = failed state m q.mildly.mild
    by (Ok c) q = unless state (Says BufferFull) (is_full (size_told t.buffer.told) (serial_told t.buffer.told) c.a c.b c.put) _ refl (finished_says state c.finish _ q.mildly.mild)

moves_says : (state : State) (o : Option Target) (plan : Target → Result Finish Message) → ((t : Target) → OfFinish (plan t)) → SaysNone (moves state o plan)
moves_says state None plan h = failed state _ refl
moves_says state (Some t) plan h = by (plan t) (h t)
  where
    by : (p : Result Finish Message) → OfFinish p → SaysNone (moved_by state p)
    by (Err m) q = failed state m q.mildly.mild
    by (Ok f) q = finished_says state f No_effect q.mildly.mild

sought_says : (state : State) (f : SearchFinish) (e : Effect) → SaysNone (search_finished state f e)
sought_says state f e = record { none = by f.mode }
  where
    by : (plan : ModePlan) → decision_said (mode_left plan (record (acted_state state) { echo = Says Silent })).echo ≡ Granted
    by Keep_mode = refl
    by (Goes_on n) = refl
    by (Over n) = refl
    by (Failing b) = refl

seeks_says : (state : State) (o : Option Target) (plan : Target → Result SearchFinish Message) → ((t : Target) → AreMild any_search (plan t)) → SaysNone (seeks state o plan)
seeks_says state None plan h = failed state _ refl
seeks_says state (Some t) plan h = by (plan t) (h t)
  where
    by : (p : Result SearchFinish Message) → AreMild any_search p → SaysNone (sought_by state p)
    by (Err m) q = failed state m q.mildly.mild
    by (Ok f) q = sought_says state f No_effect

replaces_says : (state : State) (o : Option Target) (plan : Target → Result SearchChange Message) → ((t : Target) → AreMild any_replaced (plan t)) → SaysNone (replaces_one state o plan)
replaces_says state None plan h = failed state _ refl
replaces_says state (Some t) plan h = by (plan t) (h t)
  where
    by : (p : Result SearchChange Message) → AreMild any_replaced p → SaysNone (replaced_by state t.buffer p)
    by (Err m) q = failed state m q.mildly.mild
    by (Ok c) q = unless state (Says BufferFull) (is_full (size_told t.buffer.told) (serial_told t.buffer.told) c.a c.b c.put) _ refl (sought_says state c.finish _)

sets_says : (state : State) (p : Result State Message) → AreMild of_state p → SaysNone (sets state p)
sets_says state (Err m) q = failed state m q.mildly.mild
sets_says state (Ok after) q = record { none = q.mildly.mild }

-- a command of no kind leaves what was said
module _ (state : State) (h : decision_said state.echo ≡ Granted) where
  arranges_says : (e : Effect) (p : Result Arrange Message) → AreMild any_arrange p → SaysNone (arranges state e p)
  arranges_says e (Err m) q = failed state m q.mildly.mild
  arranges_says e (Ok plan) q = record { none = h }

  effects_says : (r : Result Effect Message) → AreMild (λ (e : Effect). Says Silent) r → SaysNone (effects state r)
  effects_says (Err m) q = failed state m q.mildly.mild
  effects_says (Ok e) q = record { none = h }

  rules_says : (o : Option BufferSeen) (plan : BufferSeen → Result Effect Message) → ((b : BufferSeen) → AreMild (λ (e : Effect). Says Silent) (plan b)) → SaysNone (rules state o plan)
  rules_says None plan q = failed state _ refl
  rules_says (Some b) plan q = effects_says (plan b) (q b)

list_says : (name : List ℕ) (r : Result (List Entry) Message) → AreMild any_list r → AreMild (λ (e : Effect). Says Silent) (list_set name r)
list_says name (Err m) q = fault _ m q.mildly.mild
list_says name (Ok entries) q = done _ _ refl

saves_says : (state : State) (o : Option Target) (stored : Bool) → SaysNone (saves state o stored)
saves_says state None stored = failed state _ refl
saves_says state (Some t) stored = unless state _ state.playing _ refl (unless state _ (not (has_file t.buffer.told)) _ refl (unless state _ (not stored) _ refl (record { none = refl })))

-- BUFFERS BY NAME
module _ (v : View) (h : decision_said v.session.state.echo ≡ Granted) where
  created_says : (name : List ℕ) → SaysNone (creates_buffer v name)
  created_says name = unless v.session.state _ (not (is_name name)) _ refl (unless v.session.state _ (nat_le BUFFER_LIMIT (length v.buffers)) _ refl (record { none = h }))

  killed_says : (name : List ℕ) (o : Option BufferSeen) → SaysNone (kills_buffer v name o)
  killed_says [] o = failed v.session.state _ refl
  killed_says (c ∷ cs) None = failed v.session.state _ refl
  killed_says (c ∷ cs) (Some b) = record { none = h }

  named_says : (c : ByName) (n : Option ℕ) (typed : List ℕ) → SaysNone (meaning_by_name v c n typed).does
  named_says SwitchToBuffer n typed = by (find_seen typed v.buffers)
    where
      by : (o : Option BufferSeen) → SaysNone (elim o as (λ _. Outcome) [ None ↦ creates_buffer v typed | Some b ↦ shows_named v typed No_effect ])
      by None = created_says typed
      by (Some b) = record { none = h }
  named_says KillBuffer n typed = killed_says _ _
  named_says InsertBuffer n typed = edits_says v.session.state (target v) _ (λ t. inserted_mild _ (around v.session n typed t))

  listed_says : (o : Option BufferSeen) → SaysNone (lists v o)
  listed_says None = failed v.session.state _ refl
  listed_says (Some b) = record { none = h }

  rows_says : (c : Scrolling) (n : Option ℕ) (typed : List ℕ) → SaysNone (scrolls v c n typed)
  rows_says c n typed = by (has_rows (selected_seen v))
    where
      by : (f : Bool) → SaysNone (cond f (scrolls_rows v.session.state (row_in c (selected_seen v))) (moves v.session.state (target v) (λ t. scrolling c (text_in t.buffer.full) (around v.session n typed t))))
      by true = record { none = h }
      by false = moves_says v.session.state (target v) _ (λ t. scrolling_mild c _ _)

-- EVERY ACT, where nothing was said before it; a search says nothing of what was said
abbrev pub says_anew : Act → Bool
says_anew Unbound = true
says_anew (Run (Seek c) n typed) = true
says_anew (Run (Replace c) n typed) = true
says_anew (Run LeaveSearch n typed) = true
says_anew _ = false

allowed_says : (v : View) (c : Act) (stored : Bool) → (says_anew c ≡ false → decision_said v.session.state.echo ≡ Granted) → SaysNone (allowed v c stored)
allowed_says v Unbound stored h = failed v.session.state _ refl
allowed_says v (Run (Insert c) n typed) stored h = edits_says v.session.state (target v) _ (λ t. insertion_mild c _)
allowed_says v (Run (InsertReading c) n typed) stored h = edits_says v.session.state (target v) _ (λ t. reading_mild c _ _)
allowed_says v (Run (Move c) n typed) stored h = moves_says v.session.state (target v) _ (λ t. motion_mild c _ _)
allowed_says v (Run (Alter c) n typed) stored h = edits_says v.session.state (target v) _ (λ t. alteration_mild c _ _)
allowed_says v (Run (Seek c) n typed) stored h = seeks_says v.session.state (target v) _ (λ t. seek_mild c _ _)
allowed_says v (Run (Replace c) n typed) stored h = replaces_says v.session.state (target v) _ (λ t. replace_mild c _ _)
allowed_says v (Run (Scroll c) n typed) stored h = rows_says v (h refl) c n typed
allowed_says v (Run (Set c) n typed) stored h = sets_says v.session.state _ (setting_mild c (acted_state v.session.state) n (h refl))
allowed_says v (Run (Rearrange c) n typed) stored h = arranges_says v.session.state (h refl) No_effect _ (arrangement_mild c _ _ n)
allowed_says v (Run (Ask c) n typed) stored h = record { none = h refl }
allowed_says v (Run (Named c) n typed) stored h = named_says v (h refl) c n typed
allowed_says v (Run (Entries c) n typed) stored h = rules_says v.session.state (h refl) (subject v) _ (λ b. list_says b.name _ (entries_mild c _ n typed))
allowed_says v (Run ListEntries n typed) stored h = listed_says v (h refl) (subject v)
allowed_says v (Run SetOwner n typed) stored h = rules_says v.session.state (h refl) (subject v) _ (λ b. either _ (is_among typed v.directory.users) _ _ (done _ _ refl) (fault _ _ refl))
allowed_says v (Run SetGroup n typed) stored h = rules_says v.session.state (h refl) (subject v) _ (λ b. either _ (is_group_answer v.directory.groups typed) _ _ (done _ _ refl) (fault _ _ refl))
allowed_says v (Run UndoEdit n typed) stored h = edits_says v.session.state (target v) _ (λ t. undo_mild (items_in t.buffer.full) (around v.session n typed t))
allowed_says v (Run NotModified n typed) stored h = rules_says v.session.state (h refl) (shown_buffer v) _ (λ b. done _ _ refl)
allowed_says v (Run SaveBuffer n typed) stored h = saves_says v.session.state (target v) stored
allowed_says v (Run LeaveSearch n typed) stored h = record { none = refl }
allowed_says v (Run Exit n typed) stored h = unless v.session.state _ v.session.state.playing _ refl (record { none = h refl })

permitted_says : (state : State) (d : Decision) (o : Outcome) → SaysNone o → decision_said (permitted state d o).state.echo ≡ d
permitted_says state Granted o h = h.none
permitted_says state (DeniedBy n right) o h = refl
permitted_says state (NotGranted right) o h = refl

-- what it says is what was decided
pub outcome_says : (v : View) (c : Act) (stored : Bool) → (says_anew c ≡ false → decision_said v.session.state.echo ≡ Granted) → decision_said (outcome v c stored).state.echo ≡ judged v (needs v c)
unfolding outcome
outcome_says v c stored h = permitted_says v.session.state (judged v (needs v c)) (allowed v c stored) (allowed_says v c stored h)

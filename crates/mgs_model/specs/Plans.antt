-- What the commands of each family do: functions over a text, or over its length alone. A plan is `Err`, with the
-- failure that is told, or `Ok`. Nothing here knows rights, buffers or sessions.
use Rattle.std.specs.Prelude.{ℕ, ◌+◌, ◌-◌, ◌*◌, ◌/◌, nat_lt, nat_le, ◌==◌, Bool, true, false, ◌&&◌, ◌||◌, List, [], ◌∷◌, ◌++◌, map, find, fold, length, take, replicate, slice_range, slice_get, slice_index, slice_set, insert, remove, not, min, max, Option, Some, None, Result, Ok, Err, cond, if◌then◌else◌}
use Rattle.std.specs.List.{flat_map, list_all, repeat}
use Rattle.std.specs.Char.{is_ascii_digit}
use Rattle.mgs_model.specs.Names.{same_name}
use Rattle.mgs_model.specs.Lines.{line_feed, is_feed, space, line_of, line_start, line_end, start_of, column}
use Rattle.mgs_model.specs.Walks.{forward_words, backward_words, is_first_line, is_last_line, lines_down, lines_up, forward_paragraphs, backward_paragraphs, column_place, indent_end, kill_line_end}
use Rattle.mgs_model.specs.Cases.{uppercased, lowercased, capitalized}
use Rattle.mgs_model.specs.Whites.{white_start, white_end, is_blank_at, blanks_start, blanks_end, paragraph_start, paragraph_end, refilled}
use Rattle.mgs_model.specs.Spelling.{entry_in}
use Rattle.mgs_model.specs.World.{State, Item, Played, Play, Shows, Listing}
use Rattle.mgs_model.specs.View.{WindowSeen}
use Rattle.mgs_model.specs.Outcome.{PointPlan, Keep_position, At, MarkPlan, Keep_mark, Mark_at, KillPlan, Keep_kill, Kill_is, Keep_search, Old, Come, Slot, Arrange, Slots, u64_max}
use Rattle.mgs_model.specs.declared.search.Direction.{Direction}
use Rattle.mgs_model.specs.declared.search.Direction.TheVariants.{Forward, Backward}
use Rattle.mgs_model.specs.declared.echo_text.CursorPosition.{CursorPosition}
use Rattle.mgs_model.specs.declared.echo_text.Message.{Message}
use Rattle.mgs_model.specs.declared.echo_text.Message.TheVariants.{Says, CharacterAt, EndAt, BadEntry}
use Rattle.mgs_model.specs.declared.echo_text.Notice.TheVariants.{Silent, BeginningOfBuffer, EndOfBuffer, Quitting, MarkSet, NoMark, NothingToYank, NoArgument, BadColumn, InMacro, NotInMacro, NoMacro, TooMany, OnlyOneWindow, WindowTooSmall, TooManyWindows, ImpossibleChange, NoSuchBuffer, NotANumber, NoSuchEntry, ListFull, NoFurtherUndo, BufferFull}
use Rattle.mgs_model.specs.declared.session.Mode.TheVariants.{Plain}
use Rattle.mgs_model.specs.declared.session.Kind.{Kind}
use Rattle.mgs_model.specs.declared.session.Kind.TheVariants.{Other, Kill, Line, Undo}
use Rattle.mgs_model.specs.declared.session.Insertion.{Insertion}
use Rattle.mgs_model.specs.declared.session.Insertion.TheVariants.{SelfInsert, Newline, OpenLine, Yank}
use Rattle.mgs_model.specs.declared.session.ReadingInsertion.{ReadingInsertion}
use Rattle.mgs_model.specs.declared.session.ReadingInsertion.TheVariants.{NewlineAndIndent}
use Rattle.mgs_model.specs.declared.session.Motion.{Motion}
use Rattle.mgs_model.specs.declared.session.Motion.TheVariants.{ForwardChar, BackwardChar, BeginningOfLine, EndOfLine, NextLine, PreviousLine, BufferStart, BufferEnd, GoToLine, ForwardWord, BackwardWord, ForwardParagraph, BackwardParagraph, Recenter, WhatCursorPosition, SetMark, ExchangePointAndMark, MarkWholeBuffer, CopyRegion}
use Rattle.mgs_model.specs.declared.session.Alteration.{Alteration}
use Rattle.mgs_model.specs.declared.session.Alteration.TheVariants.{DeleteChar, DeleteBackwardChar, KillLine, KillWord, BackwardKillWord, KillRegion, TransposeChars, UpcaseWord, DowncaseWord, CapitalizeWord, UpcaseRegion, DowncaseRegion, JustOneSpace, DeleteHorizontalSpace, DeleteBlankLines, JoinLine, FillParagraph}
use Rattle.mgs_model.specs.declared.session.Scrolling.{Scrolling}
use Rattle.mgs_model.specs.declared.session.Scrolling.TheVariants.{ScrollUp, ScrollDown}
use Rattle.mgs_model.specs.declared.session.EntryChange.{EntryChange}
use Rattle.mgs_model.specs.declared.session.EntryChange.TheVariants.{InsertEntry, DeleteEntry, ReplaceEntry}
use Rattle.mgs_model.specs.declared.entry.Entry.{Entry}
use Rattle.mgs_model.specs.declared.entry.EntryFault.{EntryFault}
use Rattle.mgs_model.specs.declared.session.Setting.{Setting}
use Rattle.mgs_model.specs.declared.session.Setting.TheVariants.{SetFillColumn, KeyboardQuit, StartMacro, EndMacro, CallMacro}
use Rattle.mgs_model.specs.declared.session.Arrangement.{Arrangement}
use Rattle.mgs_model.specs.declared.session.Arrangement.TheVariants.{DeleteWindow, DeleteOtherWindows, SplitWindow, NextWindow, PreviousWindow, EnlargeWindow, ShrinkWindow, ListBuffers}
use Rattle.mgs_model.specs.declared.limits.TheConstants.{ENTRY_LIMIT, REPETITION_LIMIT, WINDOW_LIMIT}

-- THE SESSION'S OWN RECORD AFTERWARDS

-- a failure breaks a run of kills, of lines or of undos; that there is nothing more to undo breaks none of undos
abbrev pub kind_failed : Message → Kind → Kind
kind_failed (Says NoFurtherUndo) (Undo buffer target last) = Undo buffer target last
kind_failed _ kind = Other

-- a command has failed, or was denied: this is told, its mode ends, and what was half read or still to be done is forgotten
abbrev pub failed_state : Message → State → State
failed_state message state = record state { echo = message; argument = None; keys = []; kind = kind_failed message state.kind; mode = Plain; input = []; old = []; count = 0; todo = [] }

-- a command was done
abbrev pub acted_state : State → State
acted_state state = record state { argument = None; keys = []; kind = Other }

-- PLANS OVER A TEXT

-- what every plan is given beside the text: the buffer's name, the text's length and last serial, the place of action, the
-- mark, the argument, what was typed for it, the kill buffer, the last command's kind, the window's rows and the fill column
pub record Around : Type 0 where
  pub name : List ℕ
  pub size : ℕ
  pub serial : ℕ
  pub place : ℕ
  pub mark : Option ℕ
  pub argument : Option ℕ
  pub typed : List ℕ
  pub kill : List ℕ
  pub kind : Kind
  pub height : ℕ
  pub fill : ℕ

-- what a command leaves: point, mark, top, kill buffer, its kind and what it tells
pub record Finish : Type 0 where
  pub point : PointPlan
  pub mark : MarkPlan
  pub top : PointPlan
  pub kill : KillPlan
  pub kind : Kind
  pub told : Message

-- takes out the characters from a up to b, and puts these there
pub record Change : Type 0 where
  pub a : ℕ
  pub b : ℕ
  pub put : List ℕ
  pub finish : Finish

abbrev pub stays : Finish
stays = record { point = Keep_position; mark = Keep_mark; top = Keep_position; kill = Keep_kill; kind = Other; told = Says Silent }

abbrev pub goes : ℕ → Finish
goes p = record stays { point = At p }

-- takes out what stands from a up to b, puts this there, and leaves that
abbrev pub replaces : ℕ → ℕ → List ℕ → Finish → Change
replaces a b put finish = record { a = a; b = b; put = put; finish = finish }

-- the point goes to where it stood, or behind what is put there
abbrev pub deletes : ℕ → ℕ → Change
deletes a b = replaces a b [] (goes a)

abbrev pub puts : ℕ → ℕ → List ℕ → Change
puts a b put = replaces a b put (goes (a + length put))

-- the argument, or 1
abbrev pub count_of : Option ℕ → ℕ
count_of None = 1
count_of (Some n) = n

abbrev pub times : Around → ℕ
times x = count_of x.argument

-- FAILURES: a plan that goes by what may be missing fails with this message where it is
abbrev pub fails_without : {A B : Type 0} → Message → Option A → (A → B) → Result B Message
fails_without message None f = Err message
fails_without message (Some x) f = Ok (f x)

-- a command that is to go on at the text's end, or back at its start
abbrev pub is_at_end : Around → Bool
is_at_end x = nat_le x.size x.place && nat_lt 0 (times x)

abbrev pub is_at_start : Around → Bool
is_at_start x = (x.place == 0) && nat_lt 0 (times x)

abbrev pub fails_at_end : {A : Type 0} → Around → A → Result A Message
fails_at_end x plan = if is_at_end x then Err (Says EndOfBuffer) else Ok plan

abbrev pub fails_at_start : {A : Type 0} → Around → A → Result A Message
fails_at_start x plan = if is_at_start x then Err (Says BeginningOfBuffer) else Ok plan

-- the region lies between the mark and the place
abbrev pub in_region : {A : Type 0} → Around → (ℕ → ℕ → A) → Result A Message
in_region x f = fails_without (Says NoMark) x.mark (λ m. f (min m x.place) (max m x.place))

-- KILLS: a piece joins what was killed or copied just before, behind it, or in front of it where it is killed backwards; else it
-- is the kill buffer
abbrev pub killed : Direction → Kind → List ℕ → List ℕ → List ℕ
killed Forward Kill kill piece = kill ++ piece
killed Backward Kill kill piece = piece ++ kill
killed d kind kill piece = piece

abbrev pub with_kill : Direction → List ℕ → Around → ℕ → ℕ → Finish → Finish
with_kill d text x a b f = record f { kill = Kill_is (killed d x.kind x.kill (slice_range text a b)); kind = Kill }

abbrev pub kills : Direction → List ℕ → Around → ℕ → ℕ → Change
kills d text x a b = replaces a b [] (with_kill d text x a b (goes a))

-- INSERTIONS see the length alone

-- the mark stays before a text that comes in whole
abbrev pub yanked : Around → List ℕ → Change
yanked x put = replaces x.place x.place put (record (goes (x.place + length put)) { mark = Mark_at x.place })

-- the point stays before what open-line puts in
abbrev pub insertion : Insertion → Around → Result Change Message
insertion (SelfInsert c) x = Ok (puts x.place x.place (replicate (times x) c))
insertion Newline x = Ok (puts x.place x.place (replicate (times x) line_feed))
insertion OpenLine x = Ok (replaces x.place x.place (replicate (times x) line_feed) (goes x.place))
insertion Yank x = if length x.kill == 0 then Err (Says NothingToYank) else Ok (yanked x (repeat (times x) x.kill))

-- line feeds, and the white that begins the place's line, as far as it stands before the place
abbrev pub reading_insertion : ReadingInsertion → List ℕ → Around → Result Change Message
reading_insertion NewlineAndIndent text x =
    Ok (puts x.place x.place (replicate (times x) line_feed ++ slice_range text (line_start text x.place) (indent_end text x.place)))

-- BY NAME: the text of another buffer, where there is one
abbrev pub inserted : Option (List ℕ) → Around → Result Change Message
inserted text x = fails_without (Says NoSuchBuffer) text (yanked x)

-- MOTIONS cannot edit

-- so many lines down, or up
abbrev pub down : List ℕ → Around → ℕ → (ℕ → Finish) → Result Finish Message
down text x n leaves = if is_last_line text x.place && nat_lt 0 n then Err (Says EndOfBuffer) else Ok (leaves (lines_down text x.place n))

abbrev pub up : List ℕ → Around → ℕ → (ℕ → Finish) → Result Finish Message
up text x n leaves = if is_first_line text x.place && nat_lt 0 n then Err (Says BeginningOfBuffer) else Ok (leaves (lines_up text x.place n))

-- the column that a motion by lines goes for: that of the last one in a run of them, else the place's
abbrev pub goal_in : Kind → ℕ → ℕ
goal_in (Line goal) column = goal
goal_in _ column = column

abbrev pub goal_of : List ℕ → Around → ℕ
goal_of text x = goal_in x.kind (column text x.place)

-- to that column of the line that starts there
abbrev pub lined : List ℕ → Around → ℕ → Finish
lined text x start = record (goes (column_place text start (goal_of text x))) { kind = Line (goal_of text x) }

abbrev pub position_told : CursorPosition → Option ℕ → Message
position_told position None = EndAt position
position_told position (Some c) = CharacterAt c position

-- A LINE BY ITS NUMBER: 1 to 7 digits of ASCII, where it is typed

abbrev pub is_number : List ℕ → Bool
is_number typed = nat_le 1 (length typed) && (nat_le (length typed) 7 && list_all is_ascii_digit typed)

-- 48 is `0`
abbrev pub number_typed : List ℕ → ℕ
number_typed typed = fold (λ n c. n * 10 + (c - 48)) 0 typed

abbrev pub line_wanted : Option ℕ → List ℕ → Option ℕ
line_wanted None typed = if is_number typed then Some (number_typed typed) else None
line_wanted (Some n) typed = Some n

-- lines count from 1 here; 0 is the first one too, and what is past the last one is the last one
abbrev pub goes_to_line : List ℕ → Option ℕ → Result Finish Message
goes_to_line text line = fails_without (Says NotANumber) line (λ n. goes (lines_down text 0 (n - 1)))

abbrev pub motion : Motion → List ℕ → Around → Result Finish Message
motion ForwardChar text x = fails_at_end x (goes (min (x.place + times x) x.size))
motion BackwardChar text x = fails_at_start x (goes (x.place - times x))
motion BeginningOfLine text x = Ok (goes (line_start text x.place))
motion EndOfLine text x = Ok (goes (line_end text x.place))
motion NextLine text x = down text x (times x) (lined text x)
motion PreviousLine text x = up text x (times x) (lined text x)
motion BufferStart text x = Ok (goes 0)
motion BufferEnd text x = Ok (goes x.size)
motion GoToLine text x = goes_to_line text (line_wanted x.argument x.typed)
motion ForwardWord text x = fails_at_end x (goes (forward_words text x.place (times x)))
motion BackwardWord text x = fails_at_start x (goes (backward_words text x.place (times x)))
motion ForwardParagraph text x = fails_at_end x (goes (forward_paragraphs text x.place (times x)))
motion BackwardParagraph text x = fails_at_start x (goes (backward_paragraphs text x.place (times x)))
motion Recenter text x = Ok (record stays { top = At (start_of (line_of text x.place - x.height / 2) text) })
motion WhatCursorPosition text x =
    let position : CursorPosition = record { point = x.place; size = x.size; line = line_of text x.place + 1; column = column text x.place } in
    Ok (record stays { told = position_told position (slice_get text x.place) })
motion SetMark text x = Ok (record stays { mark = Mark_at x.place; told = Says MarkSet })
motion ExchangePointAndMark text x = fails_without (Says NoMark) x.mark (λ m. record (goes m) { mark = Mark_at x.place })
motion MarkWholeBuffer text x = Ok (record (goes 0) { mark = Mark_at x.size })
motion CopyRegion text x = in_region x (λ a b. with_kill Forward text x a b stays)

-- SCROLLING: the start of the line that is two lines less than the window's rows away, at least one, or as many lines as
-- the argument says
abbrev pub lines_scrolled : Around → ℕ
lines_scrolled x = elim x.argument [ None ↦ max (x.height - 2) 1 | Some n ↦ n ]

abbrev pub scrolling : Scrolling → List ℕ → Around → Result Finish Message
scrolling ScrollUp text x = down text x (lines_scrolled x) goes
scrolling ScrollDown text x = up text x (lines_scrolled x) goes

-- the last row that can be the top of a listing or of an access list
abbrev pub last_top : ℕ
last_top = 512

-- their top row, in a window of so many rows
abbrev pub row_scrolled : Scrolling → ℕ → ℕ → ℕ
row_scrolled ScrollUp row height = min (row + height) last_top
row_scrolled ScrollDown row height = row - height

-- ALTERATIONS take out and replace

-- an argument of 0 kills what is before the place in its line
abbrev pub kills_line : List ℕ → Around → ℕ → Result Change Message
kills_line text x end = if times x == 0 then Ok (kills Backward text x end x.place) else fails_at_end x (kills Forward text x x.place end)

-- the second of two characters that are exchanged: the one after the place, or the one before it at a line's end
abbrev pub exchanged_at : List ℕ → ℕ → ℕ
exchanged_at text p = if (p == length text) || is_feed (slice_index text p) then p - 1 else p

abbrev pub transposes : List ℕ → ℕ → Result Change Message
transposes text q =
    if q == 0 then Err (Says BeginningOfBuffer)
    else Ok (replaces (q - 1) (q + 1) (slice_range text q (q + 1) ++ slice_range text (q - 1) q) (goes (q + 1)))

-- CASE: the characters from a up to b in another case, over words from the place on, or in the region, where the point stays
abbrev pub cases : (List ℕ → List ℕ) → List ℕ → ℕ → ℕ → Change
cases cased text a b = puts a b (cased (slice_range text a b))

abbrev pub cases_words : (List ℕ → List ℕ) → List ℕ → Around → Result Change Message
cases_words cased text x = fails_at_end x (cases cased text x.place (forward_words text x.place (times x)))

abbrev pub cases_region : (List ℕ → List ℕ) → List ℕ → Around → Result Change Message
cases_region cased text x = in_region x (λ a b. record (cases cased text a b) { finish = goes x.place })

-- WHITE: blank lines around a blank one become one that is empty; from another line those that directly follow go, and the
-- point moves as any other position
abbrev pub deletes_blank_lines : List ℕ → ℕ → Change
deletes_blank_lines text p =
    if is_blank_at text p then deletes (blanks_start text p) (blanks_end text p)
    else replaces (line_end text p) (blanks_end text p) [] stays

-- the line feed before the line that starts here, and the white around it
abbrev pub joins_line : List ℕ → ℕ → Result Change Message
joins_line text start =
    if start == 0 then Err (Says BeginningOfBuffer)
    else Ok (replaces (white_start text (start - 1)) (white_end text start) (space ∷ []) (goes (white_start text (start - 1))))

-- FILLING: nothing in a blank line
abbrev pub fills : List ℕ → ℕ → ℕ → Change
fills text fill p =
    if is_blank_at text p then replaces p p [] stays
    else puts (paragraph_start text p) (paragraph_end text p) (refilled fill (slice_range text (paragraph_start text p) (paragraph_end text p)))

abbrev pub alteration : Alteration → List ℕ → Around → Result Change Message
alteration DeleteChar text x = fails_at_end x (deletes x.place (min (x.place + times x) x.size))
alteration DeleteBackwardChar text x = fails_at_start x (deletes (x.place - times x) x.place)
alteration KillLine text x = kills_line text x (kill_line_end text x.place x.argument)
alteration KillWord text x = fails_at_end x (kills Forward text x x.place (forward_words text x.place (times x)))
alteration BackwardKillWord text x = fails_at_start x (kills Backward text x (backward_words text x.place (times x)) x.place)
alteration KillRegion text x = in_region x (kills Forward text x)
alteration TransposeChars text x = transposes text (exchanged_at text x.place)
alteration UpcaseWord text x = cases_words uppercased text x
alteration DowncaseWord text x = cases_words lowercased text x
alteration CapitalizeWord text x = cases_words capitalized text x
alteration UpcaseRegion text x = cases_region uppercased text x
alteration DowncaseRegion text x = cases_region lowercased text x
alteration JustOneSpace text x = Ok (puts (white_start text x.place) (white_end text x.place) (space ∷ []))
alteration DeleteHorizontalSpace text x = Ok (deletes (white_start text x.place) (white_end text x.place))
alteration DeleteBlankLines text x = Ok (deletes_blank_lines text x.place)
alteration JoinLine text x = joins_line text (line_start text x.place)
alteration FillParagraph text x = Ok (fills text x.fill x.place)

-- UNDO: the item before the last one undone where nobody added one since, else the newest
abbrev pub undo_target : Around → ℕ
undo_target x =
    elim x.kind [ Undo buffer target last ↦ if same_name buffer x.name && (last == x.serial) then target - 1 else x.serial | _ ↦ x.serial ]

-- what an item put in, from here up to there, cut to a text of that size. An item that is undone lies in its text, since undos
-- go back (mgs_undo); the cut lets the definition stand without that
abbrev pub undone_from : ℕ → Item → ℕ
undone_from size item = min item.place size

abbrev pub undone_to : ℕ → Item → ℕ
undone_to size item = min (item.place + item.put) size

-- what an item put in goes out, and what it took out comes back
abbrev pub taken_back : Around → Item → Change
taken_back x item =
    let from : ℕ = undone_from x.size item in
    replaces from (undone_to x.size item) item.removed (record (goes (from + length item.removed)) { kind = Undo x.name item.serial (x.serial + 1) })

abbrev pub undone : Around → Option Item → Result Change Message
undone x None = Err (Says NoFurtherUndo)
undone x (Some item) = if x.serial == u64_max then Err (Says BufferFull) else Ok (taken_back x item)

abbrev pub undo : List Item → Around → Result Change Message
undo items x = undone x (find (λ (item : Item). item.serial == undo_target x) items)

-- ENTRIES: the list afterwards. They count from 1, and without an argument the first is meant

abbrev pub has_entry : List Entry → Option ℕ → Bool
has_entry entries n = nat_le 1 (count_of n) && nat_le (count_of n) (length entries)

-- a new one is put before the one of the argument, and without an argument last
abbrev pub new_number : List Entry → Option ℕ → ℕ
new_number entries None = length entries + 1
new_number entries (Some n) = n

abbrev pub entry_inserted : List Entry → ℕ → Entry → Result (List Entry) Message
entry_inserted entries n e =
    if not (nat_le 1 n && nat_le n (length entries + 1)) then Err (Says NoSuchEntry)
    else if nat_le ENTRY_LIMIT (length entries) then Err (Says ListFull)
    else Ok (insert entries (n - 1) e)

abbrev pub entry_replaced : List Entry → Option ℕ → Entry → Result (List Entry) Message
entry_replaced entries n e = if has_entry entries n then Ok (slice_set entries (count_of n - 1) e) else Err (Says NoSuchEntry)

-- what is done with the entry that was typed
abbrev pub with_entry : (Entry → Result (List Entry) Message) → Result Entry EntryFault → Result (List Entry) Message
with_entry change (Err fault) = Err (BadEntry fault)
with_entry change (Ok e) = change e

abbrev pub entries_changed : EntryChange → List Entry → Option ℕ → List ℕ → Result (List Entry) Message
entries_changed InsertEntry entries n typed = with_entry (entry_inserted entries (new_number entries n)) (entry_in typed)
entries_changed DeleteEntry entries n typed = if has_entry entries n then Ok (remove entries (count_of n - 1)) else Err (Says NoSuchEntry)
entries_changed ReplaceEntry entries n typed = with_entry (entry_replaced entries n) (entry_in typed)

-- SETTINGS change the session's own state alone; the one that is given is that after a command that was done

abbrev pub setting : Setting → State → Option ℕ → Result State Message
setting SetFillColumn state None = Err (Says NoArgument)
setting SetFillColumn state (Some n) = if n == 0 then Err (Says BadColumn) else Ok (record state { fill = n })
setting KeyboardQuit state n = Ok (record (failed_state (Says Quitting) state) { recording = false; macro = cond state.recording [] state.macro })
setting StartMacro state n = if state.recording || state.playing then Err (Says InMacro) else Ok (record state { recording = true; macro = [] })
setting EndMacro state n =
    if state.playing then Err (Says InMacro)
    else if state.recording then Ok (record state { recording = false; macro = take (length state.macro - 2) state.macro })
    else Err (Says NotInMacro)
setting CallMacro state n =
    if state.recording || state.playing then Err (Says InMacro)
    else if length state.macro == 0 then Err (Says NoMacro)
    else if nat_lt REPETITION_LIMIT (count_of n) then Err (Says TooMany)
    else Ok (record state { todo = Play ∷ flat_map (λ (bytes : List ℕ). map Played bytes) (replicate (count_of n) state.macro) ++ state.todo })

-- ARRANGEMENTS change the windows alone

abbrev pub old_slot : ℕ → ℕ → Slot
old_slot i height = record { source = Old i; point = Keep_position; mark = Keep_mark; top = Keep_position; row = None; height = height }

-- the windows as they are, but for their heights, which go by their index and the one before
abbrev pub resized : (ℕ → ℕ → ℕ) → ℕ → List WindowSeen → List Slot
resized f i [] = []
resized f i (x ∷ xs) = old_slot i (f i x.height) ∷ resized f (i + 1) xs

-- the windows as they are, but the one of this number
abbrev pub slots_but : ℕ → (WindowSeen → List Slot) → ℕ → List WindowSeen → List Slot
slots_but k other i [] = []
slots_but k other i (x ∷ xs) = cond (i == k) (other x) (old_slot i x.height ∷ []) ++ slots_but k other (i + 1) xs

abbrev pub height_at : ℕ → List WindowSeen → ℕ
height_at k windows = elim (slice_get windows k) [ None ↦ 0 | Some x ↦ x.height ]

-- the rows of all windows and their mode lines
abbrev pub rows_of : List WindowSeen → ℕ
rows_of [] = 0
rows_of (x ∷ xs) = x.height + 1 + rows_of xs

-- the selected window comes to something else
abbrev pub comes : List WindowSeen → ℕ → Shows → Arrange
comes windows k shows =
    Slots (slots_but k (λ x. record (old_slot k x.height) { source = Come shows } ∷ []) 0 windows) k Keep_search

-- as they are, but another is selected
abbrev pub selects : List WindowSeen → ℕ → Arrange
selects windows k = Slots (resized (λ i h. h) 0 windows) k Keep_search

-- the one above, or below for the first: it gets the rows of a window that goes
abbrev pub heir : ℕ → ℕ
heir k = cond (k == 0) 1 (k - 1)

-- the one below, or above for the last: it gives and takes rows
abbrev pub neighbor : ℕ → ℕ → ℕ
neighbor k count = cond (nat_lt (k + 1) count) (k + 1) (k - 1)

-- so many rows go from one window to another, if one stays
abbrev pub given : List WindowSeen → ℕ → ℕ → ℕ → ℕ → Result Arrange Message
given windows selected from to n =
    if nat_le (height_at from windows) n then Err (Says ImpossibleChange)
    else Ok (Slots (resized (λ i h. cond (i == to) (h + n) (cond (i == from) (h - n) h)) 0 windows) selected Keep_search)

abbrev pub arrangement : Arrangement → List WindowSeen → ℕ → Option ℕ → Result Arrange Message
arrangement DeleteWindow windows k n =
    if nat_lt (length windows) 2 then Err (Says OnlyOneWindow)
    else Ok (Slots (remove (resized (λ i h. cond (i == heir k) (h + (height_at k windows + 1)) h) 0 windows) k) (k - 1) Keep_search)
arrangement DeleteOtherWindows windows k n = Ok (Slots (old_slot k (rows_of windows - 1) ∷ []) 0 Keep_search)
arrangement SplitWindow windows k n =
    if nat_lt (height_at k windows) 3 then Err (Says WindowTooSmall)
    else if nat_le WINDOW_LIMIT (length windows) then Err (Says TooManyWindows)
    else Ok (Slots (slots_but k (λ x. old_slot k (x.height / 2) ∷ old_slot k (x.height - 1 - x.height / 2) ∷ []) 0 windows) k Keep_search)
arrangement NextWindow windows k n = Ok (selects windows (cond (nat_lt (k + 1) (length windows)) (k + 1) 0))
arrangement PreviousWindow windows k n = Ok (selects windows (cond (k == 0) (length windows - 1) (k - 1)))
arrangement EnlargeWindow windows k n =
    if nat_lt (length windows) 2 then Err (Says OnlyOneWindow) else given windows k (neighbor k (length windows)) k (count_of n)
arrangement ShrinkWindow windows k n =
    if nat_lt (length windows) 2 then Err (Says OnlyOneWindow) else given windows k k (neighbor k (length windows)) (count_of n)
arrangement ListBuffers windows k n = Ok (comes windows k Listing)

-- KEYS: bytes make words of keys, and words are commands by one table.
use Rattle.std.specs.Prelude.{ℕ, ◌+◌, ◌-◌, ◌*◌, min, nat_le, ◌==◌, Bool, true, false, not, ◌&&◌, ◌||◌, List, [], ◌∷◌, ◌++◌, find, length, codes, Option, Some, None, is_some, cond, if◌then◌else◌}
use Rattle.std.specs.Option.{option_map}
use Rattle.std.specs.List.{list_any, starts_with}
use Rattle.mgs_model.specs.declared.sequence.Sequence.{Sequence}
use Rattle.mgs_model.specs.declared.sequence.Sequence.TheVariants.{Whole, Begun, Broken}
use Rattle.mgs_model.specs.Sequences.{sequence_read}
use Rattle.mgs_model.specs.Names.{same_name}
use Rattle.mgs_model.specs.declared.search.Direction.TheVariants.{Forward, Backward}
use Rattle.mgs_model.specs.declared.session.Argument.{Argument}
use Rattle.mgs_model.specs.declared.session.Insertion.TheVariants.{SelfInsert, Newline, OpenLine, Yank}
use Rattle.mgs_model.specs.declared.session.ReadingInsertion.TheVariants.{NewlineAndIndent}
use Rattle.mgs_model.specs.declared.session.Seeking.TheVariants.{StartSearch}
use Rattle.mgs_model.specs.declared.session.Motion.TheVariants.{ForwardChar, BackwardChar, BeginningOfLine, EndOfLine, NextLine, PreviousLine, BufferStart, BufferEnd, GoToLine, ForwardWord, BackwardWord, ForwardParagraph, BackwardParagraph, Recenter, WhatCursorPosition, SetMark, ExchangePointAndMark, MarkWholeBuffer, CopyRegion}
use Rattle.mgs_model.specs.declared.session.Alteration.TheVariants.{DeleteChar, DeleteBackwardChar, KillLine, KillWord, BackwardKillWord, KillRegion, TransposeChars, UpcaseWord, DowncaseWord, CapitalizeWord, UpcaseRegion, DowncaseRegion, JustOneSpace, DeleteHorizontalSpace, DeleteBlankLines, JoinLine, FillParagraph}
use Rattle.mgs_model.specs.declared.session.Scrolling.TheVariants.{ScrollUp, ScrollDown}
use Rattle.mgs_model.specs.declared.session.Setting.TheVariants.{SetFillColumn, KeyboardQuit, StartMacro, EndMacro, CallMacro}
use Rattle.mgs_model.specs.declared.session.Arrangement.TheVariants.{DeleteWindow, DeleteOtherWindows, SplitWindow, NextWindow, PreviousWindow, EnlargeWindow, ListBuffers}
use Rattle.mgs_model.specs.declared.session.Question.TheVariants.{SwitchTo, FindWhich, KillWhich, RunWhich, SearchWhat, ReplaceWhat}
use Rattle.mgs_model.specs.declared.session.Command.{Command}
use Rattle.mgs_model.specs.declared.session.Command.TheVariants.{Insert, InsertReading, Move, Alter, Seek, Scroll, Set, Rearrange, Ask, UndoEdit, NotModified, SaveBuffer, Exit}

-- THE TABLE: the bytes of a word, the name of its command, and the command. C-q is 17, C-x 24, ESC 27
pub record KeyRow : Type 0 where
  pub keys : List ℕ
  pub name : List ℕ
  pub command : Command

abbrev key : ℕ → List ℕ → Command → KeyRow
key byte name c = record { keys = byte ∷ []; name = name; command = c }

abbrev meta : ℕ → List ℕ → Command → KeyRow
meta byte name c = record { keys = 27 ∷ byte ∷ []; name = name; command = c }

abbrev control_x : ℕ → List ℕ → Command → KeyRow
control_x byte name c = record { keys = 24 ∷ byte ∷ []; name = name; command = c }

-- a terminal's arrows are M-[ and a letter: other words of commands whose names stand in other rows, as C-x u is
abbrev arrow : ℕ → Command → KeyRow
arrow byte c = record { keys = 27 ∷ 91 ∷ byte ∷ []; name = []; command = c }

abbrev pub key_rows : List KeyRow
key_rows =
    key 13 (codes "newline") (Insert Newline)
    ∷ key 6 (codes "forward-char") (Move ForwardChar)
    ∷ key 2 (codes "backward-char") (Move BackwardChar)
    ∷ key 15 (codes "open-line") (Insert OpenLine)
    ∷ key 10 (codes "newline-and-indent") (InsertReading NewlineAndIndent)
    ∷ key 1 (codes "beginning-of-line") (Move BeginningOfLine)
    ∷ key 5 (codes "end-of-line") (Move EndOfLine)
    ∷ key 14 (codes "next-line") (Move NextLine)
    ∷ key 16 (codes "previous-line") (Move PreviousLine)
    ∷ key 22 (codes "scroll-up") (Scroll ScrollUp)
    ∷ meta 118 (codes "scroll-down") (Scroll ScrollDown)
    ∷ key 12 (codes "recenter") (Move Recenter)
    ∷ meta 60 (codes "beginning-of-buffer") (Move BufferStart)
    ∷ meta 62 (codes "end-of-buffer") (Move BufferEnd)
    ∷ meta 102 (codes "forward-word") (Move ForwardWord)
    ∷ meta 98 (codes "backward-word") (Move BackwardWord)
    ∷ meta 125 (codes "forward-paragraph") (Move ForwardParagraph)
    ∷ meta 123 (codes "backward-paragraph") (Move BackwardParagraph)
    ∷ control_x 103 (codes "goto-line") (Move GoToLine)
    ∷ control_x 61 (codes "what-cursor-position") (Move WhatCursorPosition)
    ∷ key 4 (codes "delete-char") (Alter DeleteChar)
    ∷ key 127 (codes "delete-backward-char") (Alter DeleteBackwardChar)
    ∷ key 11 (codes "kill-line") (Alter KillLine)
    ∷ meta 100 (codes "kill-word") (Alter KillWord)
    ∷ meta 127 (codes "backward-kill-word") (Alter BackwardKillWord)
    ∷ key 23 (codes "kill-region") (Alter KillRegion)
    ∷ meta 119 (codes "copy-region-as-kill") (Move CopyRegion)
    ∷ key 20 (codes "transpose-chars") (Alter TransposeChars)
    ∷ meta 117 (codes "upcase-word") (Alter UpcaseWord)
    ∷ meta 108 (codes "downcase-word") (Alter DowncaseWord)
    ∷ meta 99 (codes "capitalize-word") (Alter CapitalizeWord)
    ∷ control_x 21 (codes "upcase-region") (Alter UpcaseRegion)
    ∷ control_x 12 (codes "downcase-region") (Alter DowncaseRegion)
    ∷ meta 32 (codes "just-one-space") (Alter JustOneSpace)
    ∷ meta 92 (codes "delete-horizontal-space") (Alter DeleteHorizontalSpace)
    ∷ control_x 15 (codes "delete-blank-lines") (Alter DeleteBlankLines)
    ∷ meta 94 (codes "join-line") (Alter JoinLine)
    ∷ meta 113 (codes "fill-paragraph") (Alter FillParagraph)
    ∷ key 0 (codes "set-mark-command") (Move SetMark)
    ∷ control_x 24 (codes "exchange-point-and-mark") (Move ExchangePointAndMark)
    ∷ control_x 104 (codes "mark-whole-buffer") (Move MarkWholeBuffer)
    ∷ key 25 (codes "yank") (Insert Yank)
    ∷ key 31 (codes "undo") UndoEdit
    ∷ control_x 117 [] UndoEdit
    ∷ meta 126 (codes "not-modified") NotModified
    ∷ control_x 102 (codes "set-fill-column") (Set SetFillColumn)
    ∷ control_x 98 (codes "switch-to-buffer") (Ask SwitchTo)
    ∷ control_x 6 (codes "find-file") (Ask FindWhich)
    ∷ control_x 107 (codes "kill-buffer") (Ask KillWhich)
    ∷ meta 120 [] (Ask RunWhich)
    ∷ key 19 (codes "isearch-forward") (Seek (StartSearch Forward))
    ∷ key 18 (codes "isearch-backward") (Seek (StartSearch Backward))
    ∷ meta 115 (codes "search-forward") (Ask (SearchWhat Forward))
    ∷ meta 114 (codes "search-backward") (Ask (SearchWhat Backward))
    ∷ meta 37 (codes "query-replace") (Ask ReplaceWhat)
    ∷ key 7 (codes "keyboard-quit") (Set KeyboardQuit)
    ∷ control_x 40 [] (Set StartMacro)
    ∷ control_x 41 [] (Set EndMacro)
    ∷ control_x 101 [] (Set CallMacro)
    ∷ control_x 48 (codes "delete-window") (Rearrange DeleteWindow)
    ∷ control_x 49 (codes "delete-other-windows") (Rearrange DeleteOtherWindows)
    ∷ control_x 50 (codes "split-window-vertically") (Rearrange SplitWindow)
    ∷ control_x 111 (codes "other-window") (Rearrange NextWindow)
    ∷ control_x 110 (codes "next-window") (Rearrange NextWindow)
    ∷ control_x 112 (codes "previous-window") (Rearrange PreviousWindow)
    ∷ control_x 94 (codes "enlarge-window") (Rearrange EnlargeWindow)
    ∷ control_x 2 (codes "list-buffers") (Rearrange ListBuffers)
    ∷ control_x 19 (codes "save-buffer") SaveBuffer
    ∷ control_x 3 (codes "save-buffers-kill-emacs") Exit
    ∷ arrow 65 (Move PreviousLine)
    ∷ arrow 66 (Move NextLine)
    ∷ arrow 67 (Move ForwardChar)
    ∷ arrow 68 (Move BackwardChar)
    ∷ []

abbrev pub begins_with : List ℕ → List ℕ → Bool
begins_with text start = starts_with (λ a b. a == b) text start

-- some word goes on from here
abbrev pub is_prefix : List ℕ → Bool
is_prefix word = list_any (λ (r : KeyRow). begins_with r.keys word) key_rows

-- the most characters of what is typed for a prompt or a search
abbrev pub input_limit : ℕ
input_limit = 120

-- visible ASCII and the space
abbrev pub is_graphic : ℕ → Bool
is_graphic byte = nat_le 32 byte && nat_le byte 126

-- ARGUMENTS are cut to 9,999. C-u is 4, and 4 times the one before; a digit replaces such a 4 and extends a number

abbrev pub digit_added : ℕ → Option Argument → Argument
digit_added d None = record { value = d; extends = true }
digit_added d (Some x) = record { value = min 9999 (cond x.extends (x.value * 10 + d) d); extends = true }

abbrev pub four_times : Option Argument → Argument
four_times None = record { value = 4; extends = false }
four_times (Some x) = record { value = min 9999 (x.value * 4); extends = false }

abbrev pub value_of : Option Argument → Option ℕ
value_of x = option_map (λ (a : Argument). a.value) x

-- A BYTE IS READ

-- what a byte makes of the argument and the word before it: a word that goes on, a command and its argument, or a word that
-- is none
pub data KeyRead : Type 0 where
  Half : (argument : Option Argument) → (keys : List ℕ) → KeyRead
  Bound : (command : Command) → (argument : Option ℕ) → KeyRead
  Not_bound : KeyRead

-- ESC makes the next byte a meta key, also after a prefix
abbrev pub ends_in_escape : List ℕ → Bool
ends_in_escape [] = false
ends_in_escape (byte ∷ []) = byte == 27
ends_in_escape (byte ∷ next ∷ bytes) = ends_in_escape (next ∷ bytes)

-- a plain digit goes on with an argument, and a meta digit begins one too
abbrev pub takes_digit : Option Argument → List ℕ → Bool
takes_digit argument keys = ((length keys == 0) && is_some argument) || same_name keys (27 ∷ [])

abbrev pub is_digit : ℕ → Bool
is_digit byte = nat_le 48 byte && nat_le byte 57

-- visible ASCII, the space and TAB insert themselves
abbrev pub inserts_itself : ℕ → List ℕ → Bool
inserts_itself byte word = (length word == 1) && (is_graphic byte || (byte == 9))

abbrev pub found_read : Option Argument → ℕ → List ℕ → Option KeyRow → KeyRead
found_read argument byte word (Some r) = Bound r.command (value_of argument)
found_read argument byte word None =
    if is_prefix word then Half argument word
    else if inserts_itself byte word then Bound (Insert (SelfInsert byte)) (value_of argument)
    else Not_bound

abbrev pub find_row : List ℕ → Option KeyRow
find_row word = find (λ (r : KeyRow). same_name word r.keys) key_rows

abbrev pub word_read : Option Argument → ℕ → List ℕ → KeyRead
word_read argument byte word = found_read argument byte word (find_row word)

-- C-q, whose next byte is no key: all of ASCII inserts itself there
abbrev pub quotes : List ℕ → Bool
quotes [] = false
quotes (byte ∷ bytes) = byte == 17

abbrev pub quoted_read : Option Argument → ℕ → KeyRead
quoted_read argument byte = if nat_le byte 127 then Bound (Insert (SelfInsert byte)) (value_of argument) else Not_bound

-- C-g ends every other word
abbrev pub ascii_read : Option Argument → List ℕ → ℕ → KeyRead
ascii_read argument keys byte =
    if quotes keys then quoted_read argument byte
    else if byte == 7 then Bound (Set KeyboardQuit) (value_of argument)
    else if (byte == 27) && not (ends_in_escape keys) then Half argument (keys ++ 27 ∷ [])
    else if (length keys == 0) && (byte == 21) then Half (Some (four_times argument)) []
    else if is_digit byte && takes_digit argument keys then Half (Some (digit_added (byte - 48) argument)) []
    else if (length keys == 0) && (byte == 17) then Half argument (17 ∷ [])
    else word_read argument byte (keys ++ byte ∷ [])

-- SEQUENCES: the bytes of a character past ASCII are a word of keys

-- the bytes of the sequence that a word ends in, behind C-q or not
abbrev pub sequence_of : List ℕ → List ℕ
sequence_of [] = []
sequence_of (byte ∷ bytes) = if byte == 17 then bytes else byte ∷ bytes

abbrev pub begins_past_ascii : List ℕ → Bool
begins_past_ascii [] = false
begins_past_ascii (byte ∷ bytes) = nat_le 128 byte

-- a sequence has begun
abbrev pub in_sequence : List ℕ → Bool
in_sequence keys = begins_past_ascii (sequence_of keys)

-- a byte past ASCII is one of a sequence where a word begins, and behind C-q
abbrev pub begins_sequence : List ℕ → ℕ → Bool
begins_sequence keys byte = nat_le 128 byte && ((length keys == 0) || quotes keys)

abbrev pub sequence_step : Option Argument → List ℕ → Sequence → KeyRead
sequence_step argument keys (Whole c) = Bound (Insert (SelfInsert c)) (value_of argument)
sequence_step argument keys Begun = Half argument keys
sequence_step argument keys Broken = Not_bound

-- what a byte makes of what is half read; C-g ends a sequence too, also behind C-q
unfoldable pub key_read : Option Argument → List ℕ → ℕ → KeyRead
key_read argument keys byte =
    if in_sequence keys && (byte == 7) then Bound (Set KeyboardQuit) (value_of argument)
    else if in_sequence keys || begins_sequence keys byte then sequence_step argument (keys ++ byte ∷ []) (sequence_read (sequence_of keys ++ byte ∷ []))
    else ascii_read argument keys byte

-- CHARACTERS PAST ASCII in a prompt and in an incremental search, where they are put behind what was typed

-- a byte of such a character, or one behind some of its bytes; C-g is a key there too
abbrev pub is_character_byte : List ℕ → ℕ → Bool
is_character_byte keys byte = (in_sequence keys || nat_le 128 byte) && not (byte == 7)

-- what its bytes are with this one; no character begins behind ESC and behind M-[
abbrev pub character_read : List ℕ → ℕ → Sequence
character_read keys byte = if in_sequence keys || begins_sequence keys byte then sequence_read (sequence_of keys ++ byte ∷ []) else Broken

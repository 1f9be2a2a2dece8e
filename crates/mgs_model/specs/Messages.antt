-- The texts of the echo line.
use Rattle.std.specs.Prelude.{ℕ, Bool, List, [], ◌++◌, Option, find, codes, decimal}
use Rattle.std.specs.Option.{option_map}
use Rattle.mgs_model.specs.Rights.{right_name}
use Rattle.mgs_model.specs.declared.entry.Decision.{Decision}
use Rattle.mgs_model.specs.declared.entry.Decision.TheVariants.{Granted, DeniedBy, NotGranted}
use Rattle.mgs_model.specs.declared.entry.EntryFault.{EntryFault}
use Rattle.mgs_model.specs.declared.entry.EntryFault.TheVariants.{Kind, Who, Letters, Trailing}
use Rattle.mgs_model.specs.declared.echo_text.CursorPosition.{CursorPosition}
use Rattle.mgs_model.specs.declared.echo_text.Message.{Message}
use Rattle.mgs_model.specs.declared.echo_text.Message.TheVariants.{Says, Denied, CharacterAt, EndAt, BadEntry, Wrote, Replaced}
use Rattle.mgs_model.specs.declared.echo_text.Notice.{Notice}
use Rattle.mgs_model.specs.declared.echo_text.Notice.TheVariants.{Silent, KeyNotBound, NoBuffer, BeginningOfBuffer, EndOfBuffer, BufferFull, NoMemory, Quitting, MarkSet, NoMark, KillTooLarge, NothingToYank, NoArgument, BadColumn, InMacro, NotInMacro, NoMacro, TooMany, OnlyOneWindow, WindowTooSmall, TooManyWindows, ImpossibleChange, NoSuchBuffer, BadName, TooManyBuffers, NoMatch, NoSuchCommand, NotANumber, NoSuchEntry, ListFull, NoSuchUser, NoSuchGroup, NoFurtherUndo, NoFile, SaveFailed, NoPattern, NotFound, MacroTooLong}
use Rattle.mgs_model.specs.contracts.echo_text.NoticePartialEq.TheImpl.{eq-value}

abbrev pub denial_text : Decision → List ℕ
denial_text Granted = []
denial_text (DeniedBy entry bit) = codes "Denied: entry " ++ decimal entry ++ codes " denies " ++ right_name bit
denial_text (NotGranted bit) = codes "Denied: no entry grants " ++ right_name bit

abbrev pub position_text : CursorPosition → List ℕ
position_text x =
    codes " point " ++ decimal x.point ++ codes " of " ++ decimal x.size ++ codes " line " ++ decimal x.line ++ codes " column " ++ decimal x.column

abbrev pub fault_name : EntryFault → List ℕ
fault_name Kind = codes "Kind"
fault_name Who = codes "Who"
fault_name Letters = codes "Letters"
fault_name Trailing = codes "Trailing"

-- whether two are one
abbrev pub is_notice : Notice → Notice → Bool
is_notice a b = eq-value.it a b

-- what its row of a table says
abbrev pub text_in : {T : Type 0} → (T → List ℕ) → List (Notice × T) → Notice → Option (List ℕ)
text_in text rows notice = option_map (λ row. text row.1) (find (λ row. is_notice row.0 notice) rows)

abbrev pub notice_text : Notice → List ℕ
notice_text Silent = []
notice_text KeyNotBound = codes "Key not bound"
notice_text NoBuffer = codes "No buffer"
notice_text BeginningOfBuffer = codes "Beginning of buffer"
notice_text EndOfBuffer = codes "End of buffer"
notice_text BufferFull = codes "Buffer full"
notice_text NoMemory = codes "No memory"
notice_text Quitting = codes "Quit"
notice_text MarkSet = codes "Mark set"
notice_text NoMark = codes "No mark"
notice_text KillTooLarge = codes "Kill too large"
notice_text NothingToYank = codes "Nothing to yank"
notice_text NoArgument = codes "No argument"
notice_text BadColumn = codes "Bad column"
notice_text InMacro = codes "In macro"
notice_text NotInMacro = codes "Not in macro"
notice_text NoMacro = codes "No macro"
notice_text TooMany = codes "Too many"
notice_text OnlyOneWindow = codes "Only one window"
notice_text WindowTooSmall = codes "Window too small"
notice_text TooManyWindows = codes "Too many windows"
notice_text ImpossibleChange = codes "Impossible change"
notice_text NoSuchBuffer = codes "No such buffer"
notice_text BadName = codes "Bad name"
notice_text TooManyBuffers = codes "Too many buffers"
notice_text NoMatch = codes "No match"
notice_text NoSuchCommand = codes "No such command"
notice_text NotANumber = codes "Not a number"
notice_text NoSuchEntry = codes "No such entry"
notice_text ListFull = codes "List full"
notice_text NoSuchUser = codes "No such user"
notice_text NoSuchGroup = codes "No such group"
notice_text NoFurtherUndo = codes "No further undo information"
notice_text NoFile = codes "No file"
notice_text SaveFailed = codes "Save failed"
notice_text NoPattern = codes "No pattern"
notice_text NotFound = codes "Not found"
notice_text MacroTooLong = codes "Macro too long"

abbrev pub message_text : Message → List ℕ
message_text (Says notice) = notice_text notice
message_text (Denied d) = denial_text d
message_text (CharacterAt c x) = codes "char " ++ decimal c ++ position_text x
message_text (EndAt x) = codes "end" ++ position_text x
message_text (BadEntry fault) = codes "Bad entry: " ++ fault_name fault
message_text (Wrote name) = codes "Wrote " ++ name
message_text (Replaced n) = codes "Replaced " ++ decimal n

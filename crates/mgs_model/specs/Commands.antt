-- COMMANDS BY NAME, which is what M-x knows, and WHAT PROMPTS ASK.
use Rattle.std.specs.Prelude.{ℕ, nat_lt, Bool, true, false, List, [], ◌∷◌, ◌++◌, map, filter, find, length, codes, Option}
use Rattle.std.specs.Option.{option_map}
use Rattle.mgs_model.specs.Names.{same_name}
use Rattle.mgs_model.specs.Keys.{KeyRow, key_rows}
use Rattle.mgs_model.specs.declared.session.Arrangement.TheVariants.{ShrinkWindow}
use Rattle.mgs_model.specs.declared.session.ByName.{ByName}
use Rattle.mgs_model.specs.declared.session.ByName.TheVariants.{SwitchToBuffer, KillBuffer, InsertBuffer}
use Rattle.mgs_model.specs.declared.session.Command.{Command}
use Rattle.mgs_model.specs.declared.session.Command.TheVariants.{Move, Seek, Rearrange, Ask, Named, Entries, ListEntries, SetOwner, SetGroup}
use Rattle.mgs_model.specs.declared.session.EntryChange.TheVariants.{InsertEntry, DeleteEntry, ReplaceEntry}
use Rattle.mgs_model.specs.declared.session.Motion.TheVariants.{GoToLine}
use Rattle.mgs_model.specs.declared.session.Question.{Question}
use Rattle.mgs_model.specs.declared.session.Question.TheVariants.{SwitchTo, FindWhich, KillWhich, InsertWhich, RunWhich, GoToWhich, EntryToInsert, EntryToReplace, WhichOwner, WhichGroup, SearchWhat, ReplaceWhat, ReplaceWith}
use Rattle.mgs_model.specs.declared.session.Seeking.TheVariants.{SearchFor, StartReplace}
use Rattle.mgs_model.specs.declared.session.Wanted.{Wanted}
use Rattle.mgs_model.specs.declared.session.Wanted.TheVariants.{BufferName, CommandName, AnyText}

-- COMMANDS BY NAME
abbrev keyless : List ℕ → Command → KeyRow
keyless name c = record { keys = []; name = name; command = c }

-- commands that no word of keys runs
abbrev pub keyless_rows : List KeyRow
keyless_rows =
    keyless (codes "shrink-window") (Rearrange ShrinkWindow)
    ∷ keyless (codes "insert-buffer") (Ask InsertWhich)
    ∷ keyless (codes "acl-list") ListEntries
    ∷ keyless (codes "acl-insert") (Ask EntryToInsert)
    ∷ keyless (codes "acl-delete") (Entries DeleteEntry)
    ∷ keyless (codes "acl-replace") (Ask EntryToReplace)
    ∷ keyless (codes "set-owner") (Ask WhichOwner)
    ∷ keyless (codes "set-group") (Ask WhichGroup)
    ∷ []

-- a row without a name is another word of a command that has its name in another row, or the word of one that M-x does not know
abbrev pub has_name : KeyRow → Bool
has_name r = nat_lt 0 (length r.name)

abbrev pub command_rows : List KeyRow
command_rows = filter has_name (key_rows ++ keyless_rows)

-- the command of a name
unfoldable pub find_command : List ℕ → Option Command
find_command name = option_map (λ (r : KeyRow). r.command) (find (λ (r : KeyRow). same_name name r.name) command_rows)

-- the names, which are the candidates of a TAB
unfoldable pub command_names : List (List ℕ)
command_names = map (λ (r : KeyRow). r.name) command_rows

-- WHAT PROMPTS ASK: a row for each question

-- the text that stands before the answer, what is wanted, and the command that the answer is for
pub record Asked : Type 0 where
  pub text : List ℕ
  pub wanted : Wanted
  pub command : Command

abbrev row : List ℕ → Wanted → Command → Asked
row text wanted command = record { text = text; wanted = wanted; command = command }

abbrev for_buffer : List ℕ → ByName → Asked
for_buffer text command = row text BufferName (Named command)

abbrev for_text : List ℕ → Command → Asked
for_text text command = row text AnyText command

-- a file that is looked for is a buffer of its name, and a command's name is looked up
abbrev pub asked : Question → Asked
asked SwitchTo = for_buffer (codes "Switch to buffer: ") SwitchToBuffer
asked FindWhich = for_buffer (codes "Find file: ") SwitchToBuffer
asked KillWhich = for_buffer (codes "Kill buffer: ") KillBuffer
asked InsertWhich = for_buffer (codes "Insert buffer: ") InsertBuffer
asked RunWhich = row (codes "M-x ") CommandName (Ask RunWhich)
asked GoToWhich = for_text (codes "Goto line: ") (Move GoToLine)
asked EntryToInsert = for_text (codes "Entry: ") (Entries InsertEntry)
asked EntryToReplace = for_text (codes "Entry: ") (Entries ReplaceEntry)
asked WhichOwner = for_text (codes "Owner: ") SetOwner
asked WhichGroup = for_text (codes "Group: ") SetGroup
asked (SearchWhat d) = for_text (codes "Search: ") (Seek (SearchFor d))
asked ReplaceWhat = for_text (codes "Query replace: ") (Ask ReplaceWith)
asked ReplaceWith = for_text (codes "With: ") (Seek StartReplace)

abbrev is_buffer : Wanted → Bool
is_buffer BufferName = true
is_buffer _ = false

abbrev is_command : Wanted → Bool
is_command CommandName = true
is_command _ = false

abbrev pub prompt_text : Question → List ℕ
prompt_text c = (asked c).text

-- what TAB may complete: the name of a buffer, or of a command
abbrev pub names_buffers : Question → Bool
names_buffers c = is_buffer (asked c).wanted

abbrev pub names_commands : Question → Bool
names_commands c = is_command (asked c).wanted

abbrev pub command_for : Question → Command
command_for c = (asked c).command

-- What the lines of a script say.
use Rattle.std.specs.Prelude.{◌≡◌, ℕ, ◌==◌, Bool, ◌||◌, List, length, map, codes, slice_index, Option, Some, None, true, false, Result, Ok, Err, if◌then◌else◌}
use Rattle.std.specs.Option.{option_map}
use Rattle.std.specs.Str.{bytes_eq}
use Rattle.mgs_keys.specs.Words.{◌>>=◌, word_of, words_after, words_of, utf8_of}
use Rattle.mgs_keys.specs.Tokens.{keys_of}
use Rattle.mgs_script.specs.Words.{name_of, any_word_of, text_of, size_said}
use Rattle.mgs_script.specs.declared.line.Line.{Line}
use Rattle.mgs_script.specs.declared.line.Line.TheVariants as code
use Rattle.mgs_script.specs.declared.line.LineFault.{LineFault}
use Rattle.mgs_script.specs.declared.line.LineFault.TheVariants.{Bad, Short}
use Rattle.mgs_script.specs.declared.kind.LineKind.{LineKind}
use Rattle.mgs_script.specs.declared.kind.LineKind.TheVariants as kinds

-- what a line says
pub data Said : Type 0 where
  Nothing : Said
  User : (name : List ℕ) → Said
  Group : (name : List ℕ) → (members : List (List ℕ)) → Said
  Buffer : (name owner : List ℕ) → Said
  OwnGroup : (buffer group : List ℕ) → Said
  Entry : (buffer entry : List ℕ) → Said
  Text : (buffer text : List ℕ) → Said
  Open : (label user : List ℕ) → (rows cols : ℕ) → Said
  Keys : (label keys : List ℕ) → Said
  Show : (label : List ℕ) → Said
  Close : (label : List ℕ) → Said

-- the first word of a line
abbrev pub kind_named : List ℕ → Option LineKind
kind_named w =
    if bytes_eq w (codes "user") then Some kinds.User
    else if bytes_eq w (codes "group") then Some kinds.Group
    else if bytes_eq w (codes "buffer") then Some kinds.Buffer
    else if bytes_eq w (codes "owngroup") then Some kinds.OwnGroup
    else if bytes_eq w (codes "entry") then Some kinds.Entry
    else if bytes_eq w (codes "text") then Some kinds.Text
    else if bytes_eq w (codes "open") then Some kinds.Open
    else if bytes_eq w (codes "keys") then Some kinds.Keys
    else if bytes_eq w (codes "show") then Some kinds.Show
    else if bytes_eq w (codes "close") then Some kinds.Close
    else None

-- a group's name and those of its members, which are checked where the group is added
unfoldable pub group_said : List ℕ → Option Said
group_said t = option_map (λ rest. Group (word_of t) (words_of rest)) (words_after t)

-- a buffer's name and its owner's, which are checked where the buffer is added
unfoldable pub buffer_said : List ℕ → Option Said
buffer_said t = option_map (λ owner. Buffer (word_of t) owner) (words_after t)

-- a buffer's name and a group's, which is checked where the buffer gets it
unfoldable pub owngroup_said : List ℕ → Option Said
owngroup_said t = do
  buffer ← name_of (word_of t)
  group ← words_after t
  Some (OwnGroup buffer group)

-- a buffer's name and the text of an entry, in which more spaces may stand
unfoldable pub entry_said : List ℕ → Option Said
entry_said t = do
  buffer ← name_of (word_of t)
  entry ← words_after t
  Some (Entry buffer entry)

-- a buffer's name and tokens
unfoldable pub text_said : List ℕ → Option Said
text_said t = do
  buffer ← name_of (word_of t)
  rest ← words_after t
  text ← text_of rest
  Some (Text buffer text)

-- a label, a user who need not be known, and a size that need not be one of a screen
unfoldable pub open_said : List ℕ → Option Said
open_said t = do
  label ← name_of (word_of t)
  rest ← words_after t
  user ← any_word_of (word_of rest)
  sizes ← words_after rest
  size ← size_said sizes
  Some (Open label user size.0 size.1)

-- a label and tokens
unfoldable pub keys_said : List ℕ → Option Said
keys_said t = do
  label ← name_of (word_of t)
  rest ← words_after t
  keys ← keys_of rest
  Some (Keys label keys)

-- what stands after the first word, by what the word says; the form of a new user's name is checked where the user is added
abbrev pub said_as : LineKind → List ℕ → Option Said
said_as kinds.User t = Some (User t)
said_as kinds.Group t = group_said t
said_as kinds.Buffer t = buffer_said t
said_as kinds.OwnGroup t = owngroup_said t
said_as kinds.Entry t = entry_said t
said_as kinds.Text t = text_said t
said_as kinds.Open t = open_said t
said_as kinds.Keys t = keys_said t
said_as kinds.Show t = option_map Show (name_of t)
said_as kinds.Close t = option_map Close (name_of t)

-- what a line says by its first word
unfoldable pub said_by_kind : List ℕ → Option Said
said_by_kind t = do
  kind ← kind_named (word_of t)
  rest ← words_after t
  said_as kind rest

-- empty lines, and those that begin with `#`
abbrev pub is_passed_over : List ℕ → Bool
is_passed_over t = (length t == 0) || (slice_index t 0 == 35)

-- what a line says; one that is passed over may hold any bytes
abbrev pub said_in : List ℕ → Option Said
said_in t = if is_passed_over t then Some Nothing else (utf8_of t >>= said_by_kind)

-- the line as the code holds it
abbrev pub line_view : Line → Said
line_view code.Nothing = Nothing
line_view (code.User name) = User name.now
line_view (code.Group name members) = Group name.now (map (λ m. m.now) members.items)
line_view (code.Buffer name owner) = Buffer name.now owner.now
line_view (code.OwnGroup buffer group) = OwnGroup buffer group.now
line_view (code.Entry buffer entry) = Entry buffer entry.now
line_view (code.Text buffer text) = Text buffer text.items
line_view (code.Open label user rows cols) = Open label user.now rows cols
line_view (code.Keys label keys) = Keys label keys.items
line_view (code.Show label) = Show label
line_view (code.Close label) = Close label

-- what is read takes memory: the members of a group, the characters of a text, the bytes of keys
abbrev pub needs_memory : Option Said → Bool
needs_memory None = false
needs_memory (Some Nothing) = false
needs_memory (Some (User name)) = false
needs_memory (Some (Group name members)) = true
needs_memory (Some (Buffer name owner)) = false
needs_memory (Some (OwnGroup buffer group)) = false
needs_memory (Some (Entry buffer entry)) = false
needs_memory (Some (Text buffer text)) = true
needs_memory (Some (Open label user rows cols)) = false
needs_memory (Some (Keys label keys)) = true
needs_memory (Some (Show label)) = false
needs_memory (Some (Close label)) = false

-- exactly what the line says; Bad exactly where it says nothing that is known, and out of memory only where what it says takes memory
abbrev pub GivesLine : Result Line LineFault → Option Said → Type 0
GivesLine (Ok l) said = said ≡ Some (line_view l)
GivesLine (Err Bad) said = said ≡ None
GivesLine (Err Short) said = needs_memory said ≡ true

-- the label of a line of keys
abbrev pub label_typed : Said → Option (List ℕ)
label_typed Nothing = None
label_typed (User name) = None
label_typed (Group name members) = None
label_typed (Buffer name owner) = None
label_typed (OwnGroup buffer group) = None
label_typed (Entry buffer entry) = None
label_typed (Text buffer text) = None
label_typed (Open label user rows cols) = None
label_typed (Keys label keys) = Some label
label_typed (Show label) = None
label_typed (Close label) = None

-- the label that stands after the first word, where that begins a line of keys
abbrev pub label_after : LineKind → List ℕ → Option (List ℕ)
label_after kinds.Keys t = name_of (word_of t)
label_after _ t = None

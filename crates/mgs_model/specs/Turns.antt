-- What comes next in an event: bytes make words of keys, arguments and the input of prompts, and these make acts.
use Rattle.std.specs.Prelude.{ℕ, ◌-◌, nat_lt, ◌==◌, Bool, true, false, not, ◌&&◌, ◌||◌, List, [], ◌∷◌, ◌++◌, length, take, Option, None, Some, Result, Ok, Err, cond, if◌then◌else◌}
use Rattle.mgs_model.specs.World.{State, Todo, Typed, Played, Replace_all, Play}
use Rattle.mgs_model.specs.Keys.{input_limit, is_graphic, ends_in_escape, value_of, KeyRead, Half, Bound, Not_bound, key_read, is_character_byte, character_read}
use Rattle.mgs_model.specs.Commands.{find_command, command_names, command_for, names_buffers, names_commands}
use Rattle.mgs_model.specs.Names.{same_name}
use Rattle.mgs_model.specs.View.{View}
use Rattle.mgs_model.specs.Completion.{completion, shown_names}
use Rattle.mgs_model.specs.Outcome.{Act, Unbound, Run}
use Rattle.mgs_model.specs.Plans.{failed_state, acted_state, setting}
use Rattle.mgs_model.specs.Searching.{Sought, lengthened, read_byte}
use Rattle.mgs_model.specs.declared.sequence.Sequence.{Sequence}
use Rattle.mgs_model.specs.declared.sequence.Sequence.TheVariants.{Whole, Begun, Broken}
use Rattle.mgs_model.specs.declared.search.Direction.{Direction}
use Rattle.mgs_model.specs.declared.search.SearchStep.{SearchStep}
use Rattle.mgs_model.specs.declared.search.SearchStep.TheVariants.{FromAnchor, Ends, Quits, Leaves}
use Rattle.mgs_model.specs.declared.echo_text.Message.{Message}
use Rattle.mgs_model.specs.declared.echo_text.Message.TheVariants.{Says, Replaced}
use Rattle.mgs_model.specs.declared.echo_text.Notice.TheVariants.{Silent, KeyNotBound, Quitting, NoMatch, NoSuchCommand}
use Rattle.mgs_model.specs.declared.session.Mode.{Mode}
use Rattle.mgs_model.specs.declared.session.Mode.TheVariants.{Plain, Prompt, Searching, Replacing}
use Rattle.mgs_model.specs.declared.session.Motion.TheVariants.{GoToLine}
use Rattle.mgs_model.specs.declared.session.Seeking.TheVariants.{SearchFor, StartSearch, SearchOn, StartReplace, SkipMatch}
use Rattle.mgs_model.specs.declared.session.Replacement.{Replacement}
use Rattle.mgs_model.specs.declared.session.Replacement.TheVariants.{ReplaceMatch, ReplaceLast}
use Rattle.mgs_model.specs.declared.session.Kind.TheVariants.{Other}
use Rattle.mgs_model.specs.declared.session.Setting.TheVariants.{CallMacro}
use Rattle.mgs_model.specs.declared.session.Question.{Question}
use Rattle.mgs_model.specs.declared.session.Question.TheVariants.{RunWhich, GoToWhich, SearchWhat, ReplaceWhat, ReplaceWith}
use Rattle.mgs_model.specs.declared.session.Command.{Command}
use Rattle.mgs_model.specs.declared.session.Command.TheVariants.{Move, Seek, Replace, Set, Ask, LeaveSearch}

-- TURNS

-- what comes next: nothing; only the session's own record changes; or an act, decided with this own record
pub data Turn : Type 0 where
  Rest : Turn
  Keep : (state : State) → Turn
  Do : (before : State) → (act : Act) → Turn

-- A KEY: the word before it is used up, or goes on

abbrev pub used : State → State
used state = record state { argument = None; keys = [] }

-- a macro that can be played is no act: its bytes are the next to come, and until the first act of them the kind of the last command
-- stays what it was before the key
abbrev pub plays : State → Option ℕ → Result State Message → Turn
plays state n (Ok after) = Keep (record after { kind = state.kind })
plays state n (Err message) = Do state (Run (Set CallMacro) n [])

-- a line's number that is not the argument is asked for
abbrev pub line_turn : State → Option ℕ → Turn
line_turn state None = Do state (Run (Ask GoToWhich) None [])
line_turn state (Some n) = Do state (Run (Move GoToLine) (Some n) [])

abbrev pub command_turn : State → Option ℕ → Command → Turn
command_turn state n (Set CallMacro) = plays state n (setting CallMacro (acted_state state) n)
command_turn state n (Move GoToLine) = line_turn state n
command_turn state n (Seek (StartSearch d)) = Do (record state { mode = Searching d false; input = [] }) (Run (Seek (StartSearch d)) n [])
command_turn state n c = Do state (Run c n [])

-- what a byte's reading leads to
abbrev pub read_turn : State → KeyRead → Turn
read_turn state (Half argument keys) = Keep (record state { argument = argument; keys = keys })
read_turn state (Bound c n) = command_turn (used state) n c
read_turn state Not_bound = Do (used state) Unbound

abbrev pub key_turn : State → ℕ → Turn
key_turn state byte = read_turn state (key_read state.argument state.keys byte)

-- TYPED BYTES that are no character and no key: this is told, and they are forgotten. The mode stays, and what was typed in it
abbrev pub unbound_state : State → State
unbound_state state = record state { echo = Says KeyNotBound; keys = []; kind = Other; todo = [] }

-- THE INPUT OF A PROMPT

abbrev pub names_completed : View → Question → List (List ℕ)
names_completed v c = cond (names_buffers c) (shown_names v) (cond (names_commands c) command_names [])

abbrev pub completed : State → Option (List ℕ) → State
completed state None = record state { echo = Says NoMatch }
completed state (Some input) = record state { input = input }

-- the command of a name that was typed
abbrev pub named_turn : State → Option ℕ → Option Command → Turn
named_turn state n None = Keep (failed_state (Says NoSuchCommand) state)
named_turn state n (Some c) = command_turn state n c

-- an answer is handled in plain mode
abbrev pub plain_state : State → State
plain_state state = record state { mode = Plain; input = []; argument = None }

-- what is searched for; without an answer the search string is
abbrev pub pattern_meant : State → List ℕ
pattern_meant state = cond (length state.input == 0) state.pattern state.input

-- a name is no act, but that of its command; the first of two prompts is none, and the second begins a mode
abbrev pub answer_turn : Question → State → Turn
answer_turn RunWhich state = named_turn (plain_state state) (value_of state.argument) (find_command state.input)
answer_turn ReplaceWhat state = Keep (record state { mode = Prompt ReplaceWith; old = state.input; input = [] })
answer_turn ReplaceWith state = Do (record state { mode = Replacing; argument = None; count = 0 }) (Run (Seek StartReplace) None state.input)
answer_turn (SearchWhat d) state = Do (plain_state state) (Run (Seek (SearchFor d)) (value_of state.argument) (pattern_meant state))
answer_turn c state = Do (plain_state state) (Run (command_for c) (value_of state.argument) state.input)

-- what a byte makes of the keys before it: ESC waits for the byte of a meta key, and M-[ for one more key
abbrev pub prompt_keys : List ℕ → ℕ → List ℕ
prompt_keys keys byte =
    if (byte == 27) && not (ends_in_escape keys) then keys ++ 27 ∷ []
    else if (byte == 91) && same_name keys (27 ∷ []) then 27 ∷ 91 ∷ []
    else []

-- a key by itself
abbrev pub prompt_key : View → Question → State → ℕ → Turn
prompt_key v c state byte =
    if byte == 13 then answer_turn c state
    else if byte == 127 then Keep (record state { input = take (length state.input - 1) state.input })
    else if byte == 9 then Keep (completed state (completion (names_completed v c) state.input))
    else if is_graphic byte && nat_lt (length state.input) input_limit then Keep (record state { input = state.input ++ byte ∷ [] })
    else Keep (record state { keys = prompt_keys state.keys byte })

-- a byte of a character past ASCII, which is put behind the input
abbrev pub input_turn : State → ℕ → Sequence → Turn
input_turn state byte (Whole c) = Keep (record state { keys = []; input = lengthened state.input c })
input_turn state byte Begun = Keep (record state { keys = state.keys ++ byte ∷ [] })
input_turn state byte Broken = Keep (unbound_state state)

-- C-g quits also in the middle of a word of keys. Such a word does nothing
abbrev pub prompt_turn : View → Question → State → ℕ → Turn
prompt_turn v c state byte =
    if byte == 7 then Keep (failed_state (Says Quitting) state)
    else if is_character_byte state.keys byte then input_turn state byte (character_read state.keys byte)
    else if length state.keys == 0 then prompt_key v c state byte
    else Keep (record state { keys = prompt_keys state.keys byte })

-- A SEARCH: a byte that is none of its own ends it, and is then a key

-- what was searched for is the search string then
abbrev pub search_ended : State → State
search_ended state = record state { mode = Plain; pattern = pattern_meant state; input = [] }

abbrev pub sought_turn : State → ℕ → Sought → SearchStep → Turn
sought_turn state byte s Ends = Keep (search_ended state)
sought_turn state byte s Quits = Do state (Run LeaveSearch None [])
sought_turn state byte s Leaves = key_turn (search_ended state) byte
sought_turn state byte s step =
    Do (record state { mode = Searching s.direction s.failing; input = s.pattern }) (Run (Seek (SearchOn s.direction step)) None s.pattern)

-- a byte of a character past ASCII, which is put behind the pattern
abbrev pub pattern_turn : State → Sought → ℕ → Sequence → Turn
pattern_turn state s byte (Whole c) = sought_turn (used state) byte (record s { pattern = lengthened s.pattern c }) FromAnchor
pattern_turn state s byte Begun = Keep (record state { keys = state.keys ++ byte ∷ [] })
pattern_turn state s byte Broken = Keep (unbound_state (used state))

-- a byte of a search by itself
abbrev pub sought_byte : State → Sought → ℕ → Turn
sought_byte state s byte = (let read = read_byte state.pattern s byte in sought_turn state byte read.0 read.1)

abbrev pub search_turn : State → Direction → Bool → ℕ → Turn
search_turn state d failing byte =
    let s : Sought = record { direction = d; pattern = state.input; failing = failing } in
    if is_character_byte state.keys byte then pattern_turn state s byte (character_read state.keys byte) else sought_byte state s byte

-- A QUERY-REPLACE: y (121) and space replace the match, `.` (46) replaces it and ends, n (110) and DEL (127) leave it, `!` (33) is no act
-- and queues the replacement of all that follow, q (113) and RET (13) end, and C-g (7) quits. Other bytes do nothing

abbrev pub replacing : State → Replacement → Turn
replacing state c = Do state (Run (Replace c) None state.input)

abbrev pub replace_turn : State → ℕ → Turn
replace_turn state byte =
    if (byte == 121) || (byte == 32) then replacing state ReplaceMatch
    else if byte == 46 then replacing state ReplaceLast
    else if (byte == 110) || (byte == 127) then Do state (Run (Seek SkipMatch) None state.input)
    else if byte == 33 then Keep (record state { todo = Replace_all ∷ state.todo })
    else if (byte == 113) || (byte == 13) then Keep (record state { echo = Replaced state.count; mode = Plain; input = []; old = []; count = 0 })
    else if byte == 7 then Keep (failed_state (Says Quitting) state)
    else Keep state

-- NEXT

abbrev pub byte_turn : View → State → ℕ → Mode → Turn
byte_turn v state byte Plain = key_turn state byte
byte_turn v state byte (Prompt c) = prompt_turn v c state byte
byte_turn v state byte (Searching d failing) = search_turn state d failing byte
byte_turn v state byte Replacing = replace_turn state byte

-- the first act of a play, or its end
abbrev pub first_played : State → Turn → Turn
first_played state Rest = Keep (record state { kind = Other; todo = [] })
first_played state (Keep after) = Keep (record after { todo = Play ∷ after.todo })
first_played state (Do before act) = Do (record before { kind = Other }) act

-- each byte empties the echo text
abbrev pub todo_turn : View → State → List Todo → Turn
todo_turn v state [] = Rest
todo_turn v state (Typed byte ∷ todo) = byte_turn v (record state { echo = Says Silent; playing = false; todo = todo }) byte state.mode
todo_turn v state (Played byte ∷ todo) = byte_turn v (record state { echo = Says Silent; playing = true; todo = todo }) byte state.mode
todo_turn v state (Replace_all ∷ todo) = replacing state ReplaceMatch
todo_turn v state (Play ∷ todo) = first_played state (todo_turn v state todo)

unfoldable pub next : View → Turn
next v = todo_turn v v.session.state v.session.state.todo

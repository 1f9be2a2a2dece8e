-- Worked runs: what a session does, and what is told of the world then.
use Rattle.std.proofs.Common.{ℕ, false, true, List, [], ◌∷◌, map, Option, Some, None}
use Rattle.std.specs.Prelude.{codes}
use Rattle.std.specs.Option.{option_map}
use Rattle.mgs_model.specs.World.{World, Buffer, Session, Window, State, first_state, Shows, find_session}
use Rattle.mgs_model.specs.Turns.{command_turn}
use Rattle.mgs_model.specs.Events.{Open, Byte, step, begun_state, settled, turns, turn_done, with_state, most_turns}
use Rattle.mgs_model.specs.Draw.{state_line}
use Rattle.mgs_model.specs.declared.echo_text.Message.{Message}
use Rattle.mgs_model.specs.declared.echo_text.Message.TheVariants.{Says}
use Rattle.mgs_model.specs.declared.echo_text.Notice.TheVariants.{Silent}
use Rattle.mgs_model.specs.declared.session.Mode.{Mode}
use Rattle.mgs_model.specs.declared.session.Command.{Command}
use Rattle.mgs_model.specs.declared.entry.Entry.{Entry}
use Rattle.mgs_model.specs.declared.entry.EntryType.TheVariants.{Allow}
use Rattle.mgs_model.specs.declared.entry.Who.TheVariants.{Owner}

abbrev pub buffer_of : List ℕ → List ℕ → List Entry → Buffer
buffer_of name text entries = record { name = name; owners = record { owner = codes "ann"; group = None }; entries = entries; text = text; items = []; serial = 0; modified = false; file = false }

abbrev pub full : List Entry
full = record { entry_type = Allow; who = Owner; mask = 983175 } ∷ []

abbrev pub notes : List ℕ → World
notes text = record { directory = record { users = codes "ann" ∷ codes "bob" ∷ []; groups = [] }; buffers = buffer_of (codes "notes") text full ∷ []; sessions = []; next_id = 1 }

-- what a session does: a byte of it, or a command that no key may lead to yet, with its argument
pub data Doing : Type 0 where
  B : (byte : ℕ) → Doing
  -- memory is refused after so many acts
  S : (byte : ℕ) → (acts : ℕ) → Doing
  C : (command : Command) → (argument : Option ℕ) → Doing
  R : (command : Command) → (argument : Option ℕ) → (acts : ℕ) → Doing
  -- a command whose keys are C-x and this byte
  X : (byte : ℕ) → (command : Command) → (argument : Option ℕ) → Doing
  -- a macro that it has
  M : (bytes : List ℕ) → Doing

abbrev pub state_in : World → State
state_in w = elim (find_session 1 w.sessions) [ None ↦ first_state | Some x ↦ x.state ]

abbrev pub commanded : World → Command → Option ℕ → Option ℕ → World
commanded w c n stop = settled (turns most_turns 1 true (turn_done 1 true (command_turn (record (state_in w) { echo = Says Silent }) n c) w stop)).world

abbrev pub does : World → Doing → World
does w (B byte) = step w (Byte 1 byte true None)
does w (S byte acts) = step w (Byte 1 byte true (Some acts))
does w (C c n) = commanded w c n None
does w (R c n acts) = commanded w c n (Some acts)
does w (X byte c n) = commanded (with_state 1 (λ state. record (begun_state byte state) { keys = []; todo = [] }) (step w (Byte 1 24 true None))) c n None
does w (M bytes) = with_state 1 (λ state. record state { macro = bytes }) w

abbrev pub all_done : World → List Doing → World
all_done w [] = w
all_done w (x ∷ xs) = all_done (does w x) xs

-- ann opens a session and does these
abbrev pub doing : World → List Doing → World
doing w xs = all_done (step w (Open 1 (codes "ann") 24 80)) xs

-- the same of bob
abbrev pub doing_bob : World → List Doing → World
doing_bob w xs = all_done (step w (Open 1 (codes "bob") 24 80)) xs

-- another session types these bytes
abbrev pub other_types : World → List ℕ → World
other_types w [] = w
other_types w (b ∷ bs) = other_types (step w (Byte 2 b true None)) bs

abbrev pub texts : World → List (List ℕ)
texts w = map (λ (b : Buffer). b.text) w.buffers

abbrev pub of_one : {A : Type 0} → (Session → A) → World → Option A
of_one f w = option_map f (find_session 1 w.sessions)

abbrev pub echo : World → Option Message
echo w = of_one (λ (x : Session). x.state.echo) w

abbrev pub kill : World → Option (List ℕ)
kill w = of_one (λ (x : Session). x.kill) w

abbrev pub points : World → Option (List ℕ)
points w = of_one (λ (x : Session). map (λ (y : Window). y.point) x.windows) w

abbrev pub heights : World → Option (List ℕ)
heights w = of_one (λ (x : Session). map (λ (y : Window). y.height) x.windows) w

abbrev pub shown : World → Option (List Shows)
shown w = of_one (λ (x : Session). map (λ (y : Window). y.shows) x.windows) w

abbrev pub modes : World → Option Mode
modes w = of_one (λ (x : Session). x.state.mode) w

-- the line of the session's mode, if it has one
abbrev pub lines : World → Option (Option (List ℕ))
lines w = of_one (λ (x : Session). state_line x.state) w

abbrev pub recorded : World → Option (List ℕ)
recorded w = of_one (λ (x : Session). x.state.macro) w

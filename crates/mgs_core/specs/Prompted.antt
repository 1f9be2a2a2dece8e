-- What comes next for a session that holds this, and the names that complete its answers.
use Rattle.std.specs.Prelude.{ℕ, List, [], cond}
use Rattle.mgs_model.specs.Access.{Directory}
use Rattle.mgs_model.specs.View.{View}
use Rattle.mgs_model.specs.World as model
use Rattle.mgs_model.specs.Completion.{completion}
use Rattle.mgs_mini.specs.Narrowing.{granted_names}
use Rattle.mgs_model.specs.Commands.{command_names, names_buffers, names_commands}
use Rattle.mgs_model.specs.Turns.{Turn, byte_turn, completed}
use Rattle.mgs_model.specs.declared.echo_text.Message.TheVariants.{Says}
use Rattle.mgs_model.specs.declared.echo_text.Notice.TheVariants.{Silent}
use Rattle.mgs_model.specs.declared.session.Question.{Question}
use Rattle.mgs_buffers.specs.MarkedBuffer.{MarkedBuffer}
use Rattle.mgs_mini.specs.Typing.{PromptInput}
use Rattle.mgs_session.specs.Sessions.{prompting}
use Rattle.mgs_session.specs.declared.State.{State}
use Rattle.mgs_session.specs.declared.Session.{Session}
use Rattle.mgs_world.specs.Worlds.{buffers_of, mode_in, state_of}

-- the names that may complete an answer
abbrev pub names_for : Directory → List ℕ → List MarkedBuffer → Question → List (List ℕ)
names_for directory user ks c = cond (names_buffers c) (granted_names directory user (buffers_of ks)) (cond (names_commands c) command_names [])

-- what a byte comes to: each empties the echo line first
abbrev pub state_turn : View → State → ℕ → Turn
state_turn v state byte = byte_turn v (record (state_of state) { echo = Says Silent }) byte (mode_in state.search state.prompt)

-- what a session holds whose prompt was to be completed
abbrev pub state_completed : Directory → List MarkedBuffer → PromptInput → Session → model.State
state_completed directory ks p x = completed (state_of (prompting p x).state) (completion (names_for directory x.user ks p.question) p.input)

-- What is searched for, and what an answer gives its command.
use Rattle.std.specs.Prelude.{ℕ, ◌==◌, List, length, Option, cond}
use Rattle.mgs_model.specs.Outcome.{Act, Run}
use Rattle.mgs_model.specs.Commands.{command_for}
use Rattle.mgs_model.specs.World.{State}
use Rattle.mgs_model.specs.declared.session.Question.{Question}
use Rattle.mgs_model.specs.declared.search.Direction.{Direction}
use Rattle.mgs_model.specs.declared.session.Command.{Command}
use Rattle.mgs_model.specs.declared.session.Command.TheVariants.{Seek}
use Rattle.mgs_model.specs.declared.session.Seeking.TheVariants.{SearchFor}
use Rattle.mgs_session.specs.declared.Session.{Session}
use Rattle.mgs_world.specs.Worlds.{state_of}

-- what was typed, or the search string where nothing was
abbrev pub sought : List ℕ → List ℕ → List ℕ
sought pattern typed = cond (length typed == 0) pattern typed

-- what an answer gives its command: a search takes what was typed or the search string, and all others take what was typed
abbrev pub meant : Command → List ℕ → List ℕ → List ℕ
meant (Seek (SearchFor d)) pattern typed = sought pattern typed
meant _ pattern typed = typed

-- the act of a command for which this was typed, by what the session holds that gives it, and the act that an answer is
abbrev pub typed_act : Command → Option ℕ → List ℕ → State → Act
typed_act c n typed state = Run c n (meant c state.pattern typed)

abbrev pub answer_act : Question → Option ℕ → List ℕ → State → Act
answer_act question n typed state = typed_act (command_for question) n typed state

-- and the one that a search is
abbrev pub search_act : Session → Direction → Option ℕ → List ℕ → Act
search_act h direction n typed = Run (Seek (SearchFor direction)) n (sought (state_of h.state).pattern typed)

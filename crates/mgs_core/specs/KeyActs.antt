-- What a key comes to: an act of a command, which may start a search.
use Rattle.std.specs.Prelude.{◌||◌, ℕ, Bool, Option, Some, None, is_some}
use Rattle.mgs_model.specs.World.{World, State}
use Rattle.mgs_model.specs.Events.{with_state}
use Rattle.mgs_model.specs.declared.session.Command.{Command}
use Rattle.mgs_model.specs.declared.session.Command.TheVariants.{Move, Seek, Ask}
use Rattle.mgs_model.specs.declared.session.Motion.{Motion}
use Rattle.mgs_model.specs.declared.session.Motion.TheVariants.{GoToLine}
use Rattle.mgs_model.specs.declared.session.Seeking.{Seeking}
use Rattle.mgs_model.specs.declared.session.Seeking.TheVariants.{StartSearch}
use Rattle.mgs_model.specs.declared.search.Direction.{Direction}
use Rattle.mgs_model.specs.declared.session.Question.TheVariants.{GoToWhich}
use Rattle.mgs_plan.specs.declared.key_act.KeyAct.{KeyAct}
use Rattle.mgs_plan.specs.declared.key_act.KeyAct.TheVariants as acts
use Rattle.mgs_plan.specs.Actions.{is_done_here}
use Rattle.mgs_seek.specs.Beginning.{searching_state}

-- a line that no argument tells is asked for
abbrev pub line_act : Option ℕ → KeyAct
line_act None = acts.Run (Ask GoToWhich) None
line_act (Some n) = acts.Run (Move GoToLine) (Some n)

abbrev pub motion_act : Motion → Option ℕ → KeyAct
motion_act GoToLine n = line_act n
motion_act c n = acts.Run (Move c) n

-- what a command comes to with an argument, by its keys or by its name
abbrev pub command_act : Command → Option ℕ → KeyAct
command_act (Move c) n = motion_act c n
command_act c n = acts.Run c n

-- the direction of a search that an act starts
abbrev pub started_in : Seeking → Option Direction
started_in (StartSearch d) = Some d
started_in _ = None

abbrev pub started_by : KeyAct → Option Direction
started_by (acts.Run (Seek c) n) = started_in c
started_by _ = None

-- the acts that a server does
abbrev pub is_acted : KeyAct → Bool
is_acted a = is_some (started_by a) || is_done_here a

-- what a session holds with which an act is decided, and the world in which it is: a search that starts has its mode
abbrev pub started_state : Option Direction → State → State
started_state None state = state
started_state (Some d) state = searching_state d state

abbrev pub started_world : Option Direction → ℕ → World → World
started_world None id w = w
started_world (Some d) id w = with_state id (searching_state d) w

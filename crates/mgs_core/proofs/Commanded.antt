-- What a key comes to, and a command of a session at rest.
use Rattle.std.proofs.Common.{◌≡◌, ℕ, true, false, Option, Some, None, refl, ap, ◌∙◌}
use Rattle.mgs_model.specs.World as model
use Rattle.mgs_model.specs.Outcome as outcomes
use Rattle.mgs_model.specs.Keys.{key_read}
use Rattle.mgs_model.specs.View.{View}
use Rattle.mgs_model.specs.Turns.{Keep, Do, command_turn, key_turn, read_turn}
use Rattle.mgs_model.specs.declared.echo_text.Message.TheVariants.{Says}
use Rattle.mgs_model.specs.declared.echo_text.Notice.TheVariants.{Silent}
use Rattle.mgs_model.specs.declared.session.Command.{Command}
use Rattle.mgs_model.specs.declared.session.Command.TheVariants.{Move, Seek, Set, Entries}
use Rattle.mgs_model.specs.declared.session.EntryChange.TheVariants.{DeleteEntry}
use Rattle.mgs_model.specs.declared.session.Motion.TheVariants.{GoToLine}
use Rattle.mgs_model.specs.declared.session.Seeking.TheVariants.{StartSearch}
use Rattle.mgs_model.specs.declared.session.Setting.TheVariants.{CallMacro}
use Rattle.mgs_laws.proofs.LeftToDo.{is_single}
use Rattle.mgs_maps.specs.Held.{Held, FedBy, is_bound}
use Rattle.mgs_maps.specs.declared.maps.Fed.TheVariants as fed
use Rattle.mgs_mini.specs.Typing.{PromptInput}
use Rattle.mgs_session.specs.declared.State.{State}
use Rattle.mgs_session.specs.declared.search.Search.{Search}
use Rattle.mgs_world.specs.Worlds.{idle, state_of}
use Rattle.mgs_plan.specs.declared.key_act.KeyAct.{KeyAct}
use Rattle.mgs_plan.specs.declared.key_act.KeyAct.TheVariants as acts
use Rattle.mgs_plan.specs.Actions.{act_of}
use Rattle.mgs_core.specs.Prompted.{state_turn}
use Rattle.mgs_core.specs.ByteSteps.{is_call, is_exit}
use Rattle.mgs_core.specs.KeyActs.{command_act, is_acted, started_by, started_state}

-- AS A KEY

-- what a session holds that neither searches nor is at a prompt, its echo line emptied
abbrev silent : State → model.State
silent o = record (state_of (record o { search = None; prompt = None })) { echo = Says Silent }

-- to such a session a byte is a key
plain_turn : (v : View) (o : State) (byte : ℕ) → o.search ≡ None → o.prompt ≡ None → state_turn v o byte ≡ key_turn (silent o) byte
plain_turn v o byte still none =
    ap (λ (s : Option Search). state_turn v (record o { search = s }) byte) still
    ∙ ap (λ (p : Option PromptInput). state_turn v (record o { search = None; prompt = p }) byte) none

-- a command is done at once, or asks for its line
pub command_done : (state : model.State) (n : Option ℕ) (c : Command) → is_call c ≡ false → command_turn state n c ≡ Do (started_state (started_by (command_act c n)) state) (act_of (command_act c n))
command_done state None (Move GoToLine) e = refl
command_done state (Some m) (Move GoToLine) e = refl
command_done state n (Seek (StartSearch d)) e = refl
command_done state n (Set CallMacro) e = cc
command_done state n _ e = refl

-- a word goes on
pub turn_kept : (v : View) (o : State) (byte : ℕ) (k : Held) → o.search ≡ None → o.prompt ≡ None → FedBy fed.Pending (key_read o.keyboard.argument o.keyboard.keys byte) k → state_turn v o byte ≡ Keep (state_of (record o { echo = Says Silent; keyboard = k; prompt = None; search = None }))
turn_kept v o byte k still none e = plain_turn v o byte still none ∙ ap (read_turn (silent o)) e

-- or runs a command, or none, by a session that holds nothing
pub turn_command : (v : View) (o : State) (byte : ℕ) (k : Held) (c : Command) (n : Option ℕ) → o.search ≡ None → o.prompt ≡ None → FedBy (fed.Run c n) (key_read o.keyboard.argument o.keyboard.keys byte) k → state_turn v o byte ≡ command_turn (idle (state_of o)) n c
turn_command v o byte k c n still none e = plain_turn v o byte still none ∙ ap (read_turn (silent o)) e.0

pub turn_unbound : (v : View) (o : State) (byte : ℕ) (k : Held) → o.search ≡ None → o.prompt ≡ None → FedBy fed.Unbound (key_read o.keyboard.argument o.keyboard.keys byte) k → state_turn v o byte ≡ Do (idle (state_of o)) outcomes.Unbound
turn_unbound v o byte k still none e = plain_turn v o byte still none ∙ ap (read_turn (silent o)) e.0

-- what is no end, and plays no macro, is done by the server
pub command_here : (n : Option ℕ) (c : Command) → is_bound c ≡ true → is_exit c ≡ false → is_call c ≡ false → is_acted (command_act c n) ≡ true
command_here None (Move GoToLine) b p q = refl
command_here (Some m) (Move GoToLine) b p q = refl
command_here n (Seek (StartSearch d)) b p q = refl
command_here n (Set CallMacro) b p q = cc
command_here n (Entries DeleteEntry) b p q = refl
command_here n _ b p q = cc

-- which leaves no more to do
pub acted_single : (a : KeyAct) → is_acted a ≡ true → is_single (act_of a) ≡ true
acted_single (acts.Run (Set CallMacro) n) h = cc
acted_single _ h = refl

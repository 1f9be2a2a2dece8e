-- What a change of a buffer's owners or of its access list comes to.
use Rattle.std.specs.Prelude.{ℕ, List, Option, Some, None, Result, Ok, Err, if◌then◌else◌}
use Rattle.mgs_model.specs.Access.{Directory, group_answered, is_among, is_group_answer}
use Rattle.mgs_model.specs.World.{State}
use Rattle.mgs_model.specs.Outcome.{Effect, Outcome, SetOwners}
use Rattle.mgs_model.specs.declared.owners.NewOwner.TheVariants.{ToUser, ToGroup}
use Rattle.mgs_model.specs.Plans.{entries_changed}
use Rattle.mgs_model.specs.Acts.{effects, fails, permitted, list_set}
use Rattle.mgs_model.specs.declared.entry.Entry.{Entry}
use Rattle.mgs_model.specs.declared.echo_text.Message.{Message}
use Rattle.mgs_model.specs.declared.echo_text.Message.TheVariants.{Says}
use Rattle.mgs_model.specs.declared.echo_text.Notice.TheVariants.{NoBuffer, NoSuchUser, NoSuchGroup}
use Rattle.mgs_model.specs.declared.session.Command.{Command}
use Rattle.mgs_model.specs.declared.session.Command.TheVariants as commands
use Rattle.mgs_buffers.specs.MarkedBuffer.{MarkedBuffer, marked_at}
use Rattle.mgs_plan.specs.Inserting.{rights_decision}
use Rattle.mgs_plan.specs.declared.rule_change.Ruling.{Ruling}
use Rattle.mgs_plan.specs.declared.rule_change.Ruling.TheVariants.{Owner, Group, Entries}

abbrev pub command_of : Ruling → Command
command_of Owner = commands.SetOwner
command_of Group = commands.SetGroup
command_of (Entries c) = commands.Entries c

-- the right that it needs
abbrev pub ruling_mask : Ruling → ℕ
ruling_mask Owner = 524288
ruling_mask Group = 524288
ruling_mask (Entries c) = 262144

-- another user is to own the buffer of this name, and another group, or none
abbrev pub owner_plan : Directory → List ℕ → List ℕ → Result Effect Message
owner_plan directory name typed = if is_among typed directory.users then Ok (SetOwners name (ToUser typed)) else Err (Says NoSuchUser)

abbrev pub group_plan : Directory → List ℕ → List ℕ → Result Effect Message
group_plan directory name typed =
    if is_group_answer directory.groups typed then Ok (SetOwners name (ToGroup (group_answered typed))) else Err (Says NoSuchGroup)

-- what is planned in a buffer of this name and list
abbrev pub ruling_plan : Directory → List ℕ → List Entry → Ruling → Option ℕ → List ℕ → Result Effect Message
ruling_plan directory name entries Owner n typed = owner_plan directory name typed
ruling_plan directory name entries Group n typed = group_plan directory name typed
ruling_plan directory name entries (Entries c) n typed = list_set name (entries_changed c entries n typed)

-- what it comes to for a user, in the buffer of a name
abbrev pub ruling_in : Directory → List MarkedBuffer → State → List ℕ → List ℕ → Ruling → Option ℕ → List ℕ → Outcome
ruling_in directory ks state user name c n typed =
    permitted state (rights_decision directory ks user name (ruling_mask c)) (effects state (ruling_plan directory name (marked_at name ks).buffer.entries c n typed))

-- and where it is about the buffer of this name, or about none
abbrev pub ruling_outcome : Directory → List MarkedBuffer → State → List ℕ → Option (List ℕ) → Ruling → Option ℕ → List ℕ → Outcome
ruling_outcome directory ks state user None c n typed = fails state (Says NoBuffer)
ruling_outcome directory ks state user (Some name) c n typed = ruling_in directory ks state user name c n typed

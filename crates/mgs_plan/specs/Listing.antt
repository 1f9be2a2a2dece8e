-- What it comes to that an access list is to be shown.
use Rattle.std.specs.Prelude.{ℕ, List, Option, Some, None, Ok}
use Rattle.mgs_model.specs.Access.{Directory}
use Rattle.mgs_model.specs.World.{List_of}
use Rattle.mgs_model.specs.View.{View}
use Rattle.mgs_model.specs.Outcome.{Outcome, No_effect}
use Rattle.mgs_model.specs.Plans.{comes}
use Rattle.mgs_model.specs.Acts.{arranges, fails, permitted}
use Rattle.mgs_model.specs.declared.echo_text.Message.TheVariants.{Says}
use Rattle.mgs_model.specs.declared.echo_text.Notice.TheVariants.{NoBuffer}
use Rattle.mgs_buffers.specs.MarkedBuffer.{MarkedBuffer}
use Rattle.mgs_plan.specs.Inserting.{rights_decision}

-- the selected window comes to the list of the buffer of a name
abbrev pub lists_named : View → List ℕ → Outcome
lists_named v name = arranges v.session.state No_effect (Ok (comes v.session.windows v.session.selected (List_of name)))

-- what it comes to for a user, where it is about the buffer of this name, or about none
abbrev pub list_outcome : Directory → List MarkedBuffer → List ℕ → Option (List ℕ) → View → Outcome
list_outcome directory ks user None v = fails v.session.state (Says NoBuffer)
list_outcome directory ks user (Some name) v = permitted v.session.state (rights_decision directory ks user name 131072) (lists_named v name)

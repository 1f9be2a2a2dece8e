-- WHAT IS DONE: each effect comes only with its right, and settling is done once.
use Rattle.std.specs.Prelude.{◌≡◌, Bool, true, not, ◌&&◌, ◌||◌, List, ℕ, Option, is_some}
use Rattle.mgs_model.specs.Access.{allows}
use Rattle.mgs_model.specs.World.{World}
use Rattle.mgs_model.specs.Events.{settled}
use Rattle.mgs_model.specs.View.{View, BufferSeen, find_seen}
use Rattle.mgs_model.specs.Outcome.{Act, Effect, No_effect, Edit, Unmodified, SetList, SetOwners, Create, Kill, Save, Quit}
use Rattle.mgs_model.specs.Acts.{deciders_found, outcome}
use Rattle.mgs_model.specs.declared.right.Right.{Right}
use Rattle.mgs_model.specs.declared.right.Right.TheVariants.{ReadData, WriteData, AppendData, WriteAcl, WriteOwner, Delete}

abbrev pub granted_found : Right → Option BufferSeen → Bool
granted_found right found = allows (deciders_found found right)

-- the view's user is granted that right on the buffer of that name
abbrev pub granted_on : View → List ℕ → Right → Bool
granted_on v name right = granted_found right (find_seen name v.buffers)

-- the least rights without which an effect never happens; a buffer is created only under a name that none has
abbrev pub lawful : View → Effect → Bool
lawful v No_effect = true
lawful v (Edit name a b put) = granted_on v name WriteData || granted_on v name AppendData
lawful v (Unmodified name) = granted_on v name ReadData && granted_on v name WriteData
lawful v (SetList name entries) = granted_on v name WriteAcl
lawful v (SetOwners name new) = granted_on v name WriteOwner
lawful v (Create name owner) = not (is_some (find_seen name v.buffers))
lawful v (Kill name) = granted_on v name Delete
lawful v (Save name text) = granted_on v name ReadData && granted_on v name WriteData
lawful v Quit = true

-- whatever an act comes to, its effect is lawful: asking again when it is done would refuse nothing
abbrev pub OutcomesAreLawful : Type 0
OutcomesAreLawful = (v : View) (c : Act) (stored : Bool) → lawful v (outcome v c stored).effect ≡ true

-- settling what is settled changes nothing
abbrev pub SettledStays : Type 0
SettledStays = (w : World) → settled (settled w) ≡ settled w

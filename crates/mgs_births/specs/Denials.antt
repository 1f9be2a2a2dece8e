-- At which buffer the rights of an act are asked, by the command, by what was typed for it, and by what the selected window shows.
use Rattle.std.specs.Prelude.{ℕ, ◌==◌, Bool, List, length, Option, Some, None, cond, if◌then◌else◌}
use Rattle.mgs_model.specs.World.{Shows, Buffer_of, List_of}
use Rattle.mgs_model.specs.Outcome.{Act, Run}
use Rattle.mgs_model.specs.declared.entry.Decision.{Decision}
use Rattle.mgs_model.specs.declared.entry.Decision.TheVariants.{Granted, DeniedBy, NotGranted}
use Rattle.mgs_model.specs.declared.right.Right.{Right}
use Rattle.mgs_model.specs.declared.right.Right.TheVariants.{ReadData}
use Rattle.mgs_model.specs.declared.session.ByName.{ByName}
use Rattle.mgs_model.specs.declared.session.ByName.TheVariants.{SwitchToBuffer, KillBuffer, InsertBuffer}
use Rattle.mgs_model.specs.declared.session.Command.{Command}
use Rattle.mgs_model.specs.declared.session.Command.TheVariants.{Named}
use Rattle.mgs_births.specs.Reports.{Refused}
use Rattle.mgs_births.specs.Tapes.{Tape, tape_told}

-- the buffer that a window shows, or whose access list
abbrev pub subject_shown : Shows → Option (List ℕ)
subject_shown (Buffer_of name) = Some name
subject_shown (List_of name) = Some name
subject_shown _ = None

-- the buffer of a name, if it is there
abbrev pub if_there : Bool → List ℕ → Option (List ℕ)
if_there there name = cond there (Some name) None

-- a text that comes in is read first
abbrev pub source_or : Right → Option (List ℕ) → Option (List ℕ) → Option (List ℕ)
source_or ReadData source shown = source
source_or right source shown = shown

abbrev pub asked_by_name : (List ℕ → Bool) → Option (List ℕ) → ByName → List ℕ → Right → Option (List ℕ)
asked_by_name there shown SwitchToBuffer typed right = if_there (there typed) typed
asked_by_name there shown KillBuffer typed right = if length typed == 0 then shown else if_there (there typed) typed
asked_by_name there shown InsertBuffer typed right = source_or right (if_there (there typed) typed) shown

abbrev pub asked_by_command : (List ℕ → Bool) → Option (List ℕ) → Command → List ℕ → Right → Option (List ℕ)
asked_by_command there shown (Named c) typed right = asked_by_name there shown c typed right
asked_by_command there shown c typed right = shown

abbrev pub asked_by : (List ℕ → Bool) → Option (List ℕ) → Act → Right → Option (List ℕ)
asked_by there shown (Run c n typed) right = asked_by_command there shown c typed right
asked_by there shown act right = shown

-- WHAT IS RECORDED of what was decided

abbrev pub denied_at : Option (List ℕ) → Decision → Tape → Tape
denied_at None d t = t
denied_at (Some name) d t = tape_told (Refused name d) t

abbrev pub tape_denied : (Right → Option (List ℕ)) → Decision → Tape → Tape
tape_denied asked Granted t = t
tape_denied asked (DeniedBy n right) t = denied_at (asked right) (DeniedBy n right) t
tape_denied asked (NotGranted right) t = denied_at (asked right) (NotGranted right) t

-- At which buffer an act of a byte asks for a right.
use Rattle.std.specs.Prelude.{ℕ, Bool, List, Option}
use Rattle.mgs_model.specs.Commands.{command_for}
use Rattle.mgs_model.specs.declared.right.Right.{Right}
use Rattle.mgs_births.specs.Denials.{asked_by_command}
use Rattle.mgs_core.specs.ByteActs.{asked_of}
use Rattle.mgs_core.specs.declared.byte_acts.ByteAct.{ByteAct}
use Rattle.mgs_core.specs.declared.byte_acts.ByteAct.TheVariants as byte_acts
use Rattle.mgs_core.specs.declared.byte_acts.ModeBefore.{ModeBefore}

abbrev pub asked_at : (List ℕ → Bool) → Option (List ℕ) → ModeBefore → ByteAct → Right → Option (List ℕ)
asked_at there shown b (byte_acts.Answer n) right = asked_by_command there shown (command_for (asked_of b).question) (asked_of b).input right
asked_at there shown b byte_act right = shown

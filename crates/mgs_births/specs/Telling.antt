-- What acts tell: what the store accepted, the births of buffers, and a tape of deeds.
use Rattle.std.specs.Prelude.{ℕ, ◌≡◌, List, [], Option}
use Rattle.std.specs.List.{flat_map}
use Rattle.mgs_model.specs.Events.{Saved, saved_by}
use Rattle.mgs_model.specs.Outcome.{Effect}
use Rattle.mgs_store.specs.Stores.{told_more}
use Rattle.mgs_births.specs.Births.{Births, birth_after, births_after, no_births}
use Rattle.mgs_births.specs.Reports.{Report, effects_in}
use Rattle.mgs_births.specs.Tapes.{Tape, blank_tape, tape_after, tape_done}

-- what a store with a register of births and a tape tells of itself
pub record StoreTold : Type 0 where
  pub failed : ℕ
  pub accepted : Option (List Saved)
  pub births : Births
  pub tape : Tape

-- of which no buffer was made yet, with a tape that has room for no deed
abbrev pub first_told : {S : Type 0} → (S → ℕ) → (S → Option (List Saved)) → S → StoreTold
first_told failed accepted s = record { failed = failed s; accepted = accepted s; births = no_births; tape = blank_tape 0 }

-- THIS WAS TOLD: what the effects save was accepted, the buffers that they make and kill are recorded, and all deeds are on the tape
pub record Tells (rs : List Report) (before after : StoreTold) : Type 0 where
  pub saves : after.accepted ≡ told_more (flat_map saved_by (effects_in rs)) before.accepted
  pub births : after.births ≡ births_after (effects_in rs) before.births
  pub tape : after.tape ≡ tape_after rs before.tape

-- an effect of which nothing is told: it saves nothing, makes and kills no buffer, and is no deed
pub record IsSilent (e : Effect) : Type 0 where
  pub saves : saved_by e ≡ []
  pub births : (b : Births) → birth_after e b ≡ b
  pub tape : (t : Tape) → tape_done e t ≡ t

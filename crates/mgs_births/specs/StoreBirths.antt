-- What a store tells, with the register of births and the tape beside it.
use Rattle.std.specs.Prelude.{ℕ, List, Option}
use Rattle.mgs_model.specs.Events.{Saved}
use Rattle.mgs_births.specs.Telling.{StoreTold}
use Rattle.mgs_births.specs.declared.with_births.WithBirths.{WithBirths}

abbrev pub store_and_births : {S : Type 0} → (S → ℕ) → (S → Option (List Saved)) → WithBirths S → StoreTold
store_and_births failed accepted s = record { failed = failed s.store; accepted = accepted s.store; births = s.births; tape = s.tape }

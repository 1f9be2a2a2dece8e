-- What a refusal leaves in the tables after room was made.
use Rattle.std.proofs.Common.{Bool, true, false, List, Result, Ok, Err, ap, inl, inr}
use Rattle.std.specs.Prelude.{OnErr}
use Rattle.sqlite.specs.Store.{Ghosts}
use Rattle.sqlite.specs.Held.{Held, state}
use Rattle.mgs_ledger.specs.declared.batch.Gathered.{Gathered}
use Rattle.mgs_ledger.specs.Telling.{IsNotTaken, MakesRoom}

-- nothing was committed, or what was gathered
not_taken : {S : Type 0} (g : Ghosts S) (roomy : Bool) (gathered : List Gathered) (old new : Held S) → MakesRoom g roomy gathered old new → IsNotTaken g gathered old new
not_taken g true gathered old new same clean is_open = inl (ap (λ h. (state g h).committed) same)
not_taken g false gathered old new committed clean is_open = inr (committed clean)

-- so it is whatever the answer is
pub not_taken_after : {S T E : Type 0} (g : Ghosts S) (roomy : Bool) (gathered : List Gathered) (old new : Held S) (answer : Result T E)
    → MakesRoom g roomy gathered old new → OnErr answer (IsNotTaken g gathered old new)
not_taken_after g roomy gathered old new (Ok x) made = tt
not_taken_after g roomy gathered old new (Err e) made = not_taken g roomy gathered old new made

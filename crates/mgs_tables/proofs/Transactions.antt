-- What a transaction leaves, from what each call in it tells.
use Rattle.std.proofs.Common.{◌≡◌, ℕ, List, Ok, true, IsTrue, refl, subst, arith}
use Rattle.sqlite.specs.Order.{Row}
use Rattle.sqlite.specs.Store.{Ghosts}
use Rattle.sqlite.specs.Effect.{Database}
use Rattle.sqlite.specs.State.{HasCleanDisk, Survives, ExecutesInside}
use Rattle.sqlite.specs.Held.{Held, state}
use Rattle.sqlite.proofs.StateLemmas.{survives_then}
use Rattle.sqlite.proofs.Callers.{survives_begin}
use Rattle.mgs_tables.specs.Both.{RanWith, Left}
use Rattle.mgs_tables.specs.Changes.{RanChanges, RunChanges, Statement}
use Rattle.mgs_tables.specs.Events.{RunAll}

-- a crash leaves what was before, or what the transaction made
pub outlasts : {S : Type 0} (g : Ghosts S) (Made : Database → Type 0) (old begun last end : Held S) → begun ≡ record old { in_transaction = true }
    → (HasCleanDisk (state g last) → Made (state g last).now) → Survives (state g begun) (state g last) (λ _. ⊥) → Survives (state g last) (state g end) (λ trees. trees ≡ (state g last).now.trees)
    → Survives (state g old) (state g end) (Left Made)
outlasts g Made old begun last end begins made stays ends =
    survives_then (state g old) (state g last) (state g end) _ _ (Left Made) (λ _ db none. absurd none) (λ clean db is. (_, made (omega (arith, ends.clean)), is))
    (survives_begin g old (state g last) _ (rw begins at stays)) ends

-- the change and then the events make what is committed
pub ran_with : {S : Type 0} (g : Ghosts S) (change : List ℕ) (of_change : Row) (events : List Row) (old begun mid last : Held S) → begun ≡ record old { in_transaction = true }
    → (HasCleanDisk (state g mid) → IsTrue (state g begun).in_transaction → ExecutesInside 0 change of_change (state g begun) (state g mid) (Ok 1))
    → (HasCleanDisk (state g last) → IsTrue (state g mid).in_transaction → RunAll g events mid last)
    → Survives (state g mid) (state g last) (λ _. ⊥) → HasCleanDisk (state g last) → RanWith g change of_change events old (state g last).now
ran_with g change of_change events old begun mid last begins one all stays clean =
    let first = one (omega (arith, stays.clean)) (rw begins) in
    record { mid = mid; last = last; one = rw begins at first.0; all = all clean first.1.mode; is = refl }

-- the changes and then the events make what is committed
pub ran_changes : {S : Type 0} (g : Ghosts S) (changes : List Statement) (events : List Row) (old begun mid last : Held S) → begun ≡ record old { in_transaction = true }
    → (HasCleanDisk (state g mid) → IsTrue (state g begun).in_transaction → RunChanges g changes begun mid)
    → (HasCleanDisk (state g mid) → IsTrue (state g begun).in_transaction → IsTrue (state g mid).in_transaction)
    → (HasCleanDisk (state g last) → IsTrue (state g mid).in_transaction → RunAll g events mid last)
    → Survives (state g mid) (state g last) (λ _. ⊥) → HasCleanDisk (state g last) → RanChanges g changes events old (state g last).now
ran_changes g changes events old begun mid last begins run within all stays clean =
    let early : HasCleanDisk (state g mid) = omega (arith, stays.clean) in
    record { mid = mid; last = last; changed = subst (λ h. RunChanges g changes h mid) begins (run early (rw begins)); all = all clean (within early (rw begins)); is = refl }

-- what both calls of a transaction keep out of the store
pub stays_within : {S : Type 0} (g : Ghosts S) (begun mid last : Held S) → Survives (state g begun) (state g mid) (λ _. ⊥) → Survives (state g mid) (state g last) (λ _. ⊥)
    → Survives (state g begun) (state g last) (λ _. ⊥)
stays_within g begun mid last one two = survives_then (state g begun) (state g mid) (state g last) _ _ (λ _. ⊥) (λ _ db none. none) (λ _ db none. none) one two

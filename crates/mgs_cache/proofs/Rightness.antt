-- What is kept stays right when a decision is made: for the crates above.
use Rattle.std.proofs.Common.{◌≡◌, ℕ, inl, inr, List, [], ◌∷◌, Contains, refl, subst}
use Rattle.lru.proofs.Splits.{Contains-cons, Contains-nil}
use Rattle.mgs_model.specs.Access.{Directory, decision}
use Rattle.mgs_model.specs.declared.owners.Owners.{Owners}
use Rattle.mgs_model.specs.declared.entry.Entry.{Entry}
use Rattle.mgs_model.specs.declared.entry.Decision.{Decision}
use Rattle.mgs_cache.specs.Kept.{Kept, kept, AreRight, AreAmong}
use Rattle.mgs_cache.proofs.Among.{among_one, among_more, among_after}

-- what is kept for one place is right by its own owner and entries, and stays so where one more that is right, if it is for this
-- place, is kept
pub right_with : (place : ℕ) (directory : Directory) (owners : Owners) (entries : List Entry) (now before : List Kept) (k : Kept) → AreAmong now (k ∷ before) → AreRight place directory owners entries before → (k.buffer ≡ place → k.decision ≡ decision directory owners k.user entries k.mask) → AreRight place directory owners entries now
right_with place directory owners entries now before k among right this = record {
  each = λ user mask d h. elim (Contains-cons k before (kept place user mask d) (among.each (kept place user mask d) h)) [
    | inl e ↦ subst (λ (x : Kept). x.buffer ≡ place → x.decision ≡ decision directory owners x.user entries x.mask) e this refl
    | inr was ↦ right.each user mask d was
  ];
}

-- after `decide`, for the same buffer
pub right_here : (place : ℕ) (directory : Directory) (owners : Owners) (user : List ℕ) (entries : List Entry) (mask : ℕ) (d : Decision) (now before : List Kept) → AreAmong now (kept place user mask d ∷ before) → d ≡ decision directory owners user entries mask → AreRight place directory owners entries before → AreRight place directory owners entries now
right_here place directory owners user entries mask d now before among is right =
    right_with place directory owners entries now before (kept place user mask d) among right (λ e. is)

-- after `decide`, for the buffer at another place
pub right_elsewhere : (place other : ℕ) (user : List ℕ) (mask : ℕ) (d : Decision) (directory : Directory) (owners : Owners) (entries : List Entry) (now before : List Kept) → AreAmong now (kept place user mask d ∷ before) → (place ≡ other → ⊥) → AreRight other directory owners entries before → AreRight other directory owners entries now
right_elsewhere place other user mask d directory owners entries now before among apart right =
    right_with other directory owners entries now before (kept place user mask d) among right (λ e. absurd (apart e))

-- where nothing is kept
pub right_none : (place : ℕ) (directory : Directory) (owners : Owners) (entries : List Entry) → AreRight place directory owners entries []
right_none place directory owners entries = record { each = λ user mask d h. absurd (Contains-nil (kept place user mask d) h) }

-- what closes the goals of `decide`
pub ruleset deciding = (among_one, among_more, among_after)

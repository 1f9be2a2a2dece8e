-- WHY A START IS REFUSED.
use Rattle.std.specs.Prelude.{◌≡◌, ℕ, zero, suc, ◌-◌, Bool, true, false, ◌||◌, is_some, length, cond, List, [], ◌∷◌, ◌++◌, All, Some, slice_get}
use Rattle.mgs_model.specs.Access.{Directory, is_among}
use Rattle.mgs_laws.specs.Apart.{Rules}
use Rattle.mgs_journal.specs.Kept.{place_of}
use Rattle.mgs_model.specs.declared.limits.TheConstants.{BUFFER_LIMIT}
use Rattle.mgs_resume.specs.declared.start.ResumeFault.{ResumeFault}
use Rattle.mgs_resume.specs.declared.start.ResumeFault.TheVariants.{Full, Owner}

-- each buffer that is kept is owned by a user
abbrev pub AreUsers : Directory → List Rules → Type 0
AreUsers d kept = All (λ (r : Rules). is_among r.owners.owner d.users ≡ true) kept

-- an owner is named only if a buffer that is kept has this name and this owner, who is no user
abbrev pub IsCause : Directory → List Rules → ResumeFault → Type 0
IsCause d kept (Owner buffer owner) = (i : ℕ) × (r : Rules) × (slice_get kept i ≡ Some r) × (r.name ≡ buffer) × (r.owners.owner ≡ owner) × (is_among owner d.users ≡ false)
IsCause d kept _ = Unit {0}

abbrev pub NamesNoOwner : ResumeFault → Type 0
NamesNoOwner (Owner buffer owner) = ⊥
NamesNoOwner _ = Unit {0}

-- ALL FAULTS of a start.
-- each buffer that is kept whose owner is no user
abbrev pub owner_faults : Directory → List Rules → List ResumeFault
owner_faults d [] = []
owner_faults d (r ∷ rs) = cond (is_among r.owners.owner d.users) (owner_faults d rs) (Owner r.name r.owners.owner ∷ owner_faults d rs)

-- a buffer of the configuration for which there is no room, where so much is left
abbrev pub room_fault : ℕ → Rules → List ResumeFault → List ResumeFault
room_fault zero r faults = Full r.name ∷ faults
room_fault (suc n) r faults = faults

-- a buffer of the configuration comes behind those that are kept, unless one has its name, or a user took it
abbrev pub is_had : (List ℕ → Bool) → List Rules → Rules → Bool
is_had taken kept r = taken r.name || is_some (place_of r.name kept)

-- each buffer of the configuration for which there is no room behind those that are kept
abbrev pub room_faults : (List ℕ → Bool) → List Rules → ℕ → List Rules → List ResumeFault
room_faults taken kept room [] = []
room_faults taken kept room (r ∷ rs) =
    cond (is_had taken kept r) (room_faults taken kept room rs) (room_fault room r (room_faults taken kept (room - 1) rs))

abbrev pub faults_at_start : Directory → (List ℕ → Bool) → List Rules → List Rules → List ResumeFault
faults_at_start d taken kept config = owner_faults d kept ++ room_faults taken kept (BUFFER_LIMIT - length kept) config

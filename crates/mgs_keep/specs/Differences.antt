-- WHAT DIFFERS between the buffers as they are and the rows that a journal keeps of them.
use Rattle.std.specs.Prelude.{◌≡◌, ◌≢◌, ◌⊎◌, ℕ, suc, ◌+◌, ◌-◌, ◌≤◌, drop, length, List, [], ◌∷◌, ◌++◌, Option, Some, None}
use Rattle.mgs_journal.specs.Rows.{KeptRights}
use Rattle.mgs_journal.specs.declared.change.Change.{Change}
use Rattle.mgs_journal.specs.declared.change.Change.TheVariants.{Add, Set, Remove}
use Rattle.mgs_keep.specs.declared.difference.Difference.{Difference}
use Rattle.mgs_keep.specs.declared.difference.Difference.TheVariants as found

-- a buffer and a row of the same name and birth number are of the same buffer: one that was killed and made again under its name has
-- another number
pub record IsSameBuffer (b k : KeptRights) : Type 0 where
  pub name : b.rules.name ≡ k.rules.name
  pub birth : b.birth ≡ k.birth

-- the same buffer has other rights than are kept
pub record HasOtherRights (b k : KeptRights) : Type 0 where
  pub same : IsSameBuffer b k
  pub other : b.rules ≢ k.rules

abbrev pub IsKilled : Option KeptRights → KeptRights → Type 0
IsKilled None k = Unit {0}
IsKilled (Some b) k = IsSameBuffer b k → ⊥

-- THE CHANGES that make the rows those of the buffers, where the rows before an index are so already. A row of the same buffer gets its
-- rights, if they differ; a row of another buffer is removed; a buffer behind all rows is added. There is no other change.
abbrev pub AreDifferences : ℕ → List KeptRights → List KeptRights → List Change → Type 0
AreDifferences i [] [] changes = changes ≡ []
AreDifferences i [] (k ∷ kept) changes = (rest : List Change) × (changes ≡ Remove i ∷ rest) × AreDifferences i [] kept rest
AreDifferences i (b ∷ now) [] changes = (rest : List Change) × (changes ≡ Add b.rules b.birth ∷ rest) × AreDifferences (suc i) now [] rest
AreDifferences i (b ∷ now) (k ∷ kept) changes =
    ((b ≡ k) × AreDifferences (suc i) now kept changes)
    ⊎ ((HasOtherRights b k × ((rest : List Change) × (changes ≡ Set i b.rules ∷ rest) × AreDifferences (suc i) now kept rest))
    ⊎ ((IsSameBuffer b k → ⊥) × ((rest : List Change) × (changes ≡ Remove i ∷ rest) × AreDifferences i (b ∷ now) kept rest)))

-- what is found at a buffer and a row: both are over, they are the same, the buffer has other rights, it has no row, or the row's buffer
-- was killed
abbrev pub Differs : Option KeptRights → Option KeptRights → Difference → Type 0
Differs now kept found.Over = (now ≡ None) × (kept ≡ None)
Differs now kept found.Same = (b : KeptRights) × (now ≡ Some b) × (kept ≡ Some b)
Differs now kept (found.Changed r) = (b k : KeptRights) × (now ≡ Some b) × (kept ≡ Some k) × HasOtherRights b k × (r ≡ b.rules)
Differs now kept (found.Made r birth) = (now ≡ Some (record { rules = r; birth = birth })) × (kept ≡ None)
Differs now kept found.Killed = (k : KeptRights) × (kept ≡ Some k) × IsKilled now k

-- A WALK over both, from a buffer and a row on: the changes that were found so far are those of all, once those of what is left follow
abbrev pub AreDifferencesFrom : ℕ → ℕ → List KeptRights → List KeptRights → List Change → Type 0
AreDifferencesFrom i j now kept changes = AreDifferences i (drop i now) (drop j kept) changes

abbrev pub AreFound : List KeptRights → List KeptRights → List Change → Option (ℕ × ℕ) → Type 0
AreFound now kept changes None = AreDifferences 0 now kept changes
AreFound now kept changes (Some at) = (rest : List Change) → AreDifferencesFrom at.0 at.1 now kept rest → AreDifferences 0 now kept (changes ++ rest)

-- how far it is: there are no more changes so far than steps were made
abbrev pub IsFurther : List KeptRights → List KeptRights → ℕ → Option (ℕ × ℕ) → Type 0
IsFurther now kept count None = Unit {0}
IsFurther now kept count (Some at) = (count ≤ at.0 + at.1) × (at.0 ≤ length now) × (at.1 ≤ length kept)

-- how much is left
abbrev pub left_from : List KeptRights → List KeptRights → Option (ℕ × ℕ) → ℕ
left_from now kept None = 0
left_from now kept (Some at) = suc ((length now - at.0) + (length kept - at.1))

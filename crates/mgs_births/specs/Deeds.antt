-- The deeds among reports, and that a tape has all of them if there is room.
use Rattle.std.specs.Prelude.{ℕ, ◌≡◌, ◌≤◌, ◌<◌, List, [], ◌∷◌, ◌++◌, Some, None, length}
use Rattle.mgs_model.specs.Outcome.{Effect, SetList, SetOwners, Create, Kill, Save}
use Rattle.mgs_births.specs.Reports.{Report, Did, Refused}
use Rattle.mgs_births.specs.Tapes.{blank_tape, tape_after}
use Rattle.mgs_births.specs.declared.deed.Deed.{Deed}
use Rattle.mgs_births.specs.declared.deed.Deed.TheVariants.{ListSet, OwnersSet, Created, Killed, Saved, Denied}

abbrev pub deeds_done : Effect → List Deed
deeds_done (SetList name entries) = ListSet name entries ∷ []
deeds_done (SetOwners name new) = OwnersSet name new ∷ []
deeds_done (Create name owner) = Created name owner ∷ []
deeds_done (Kill name) = Killed name ∷ []
deeds_done (Save name text) = Saved name ∷ []
deeds_done _ = []

abbrev pub deeds_told : Report → List Deed
deeds_told (Did e) = deeds_done e
deeds_told (Refused buffer d) = Denied buffer d ∷ []

abbrev pub deeds_of : List Report → List Deed
deeds_of [] = []
deeds_of (r ∷ rs) = deeds_told r ++ deeds_of rs

-- a tape that was blank has exactly the deeds of all reports, in their order
abbrev pub DeedsAreKept : Type 0
DeedsAreKept = (rs : List Report) (room : ℕ) → length (deeds_of rs) ≤ room → (tape_after rs (blank_tape room)).deeds ≡ Some (deeds_of rs)

-- and it is lost only if there are more than it has room for
abbrev pub DeedsAreLost : Type 0
DeedsAreLost = (rs : List Report) (room : ℕ) → room < length (deeds_of rs) → (tape_after rs (blank_tape room)).deeds ≡ None

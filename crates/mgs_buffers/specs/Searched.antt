-- Searches in a text that fail, one that is remembered, and a step of an incremental search.
use Rattle.std.specs.Prelude.{◌≡◌, ℕ, List, length, Option, None, Some}
use Rattle.mgs_model.specs.Searching.{Sought, looked_for, match_from, match_past}
use Rattle.mgs_model.specs.declared.search.Direction.{Direction}
use Rattle.mgs_model.specs.declared.search.SearchPlaces.{SearchPlaces}
use Rattle.mgs_model.specs.declared.search.SearchStep.{SearchStep}
use Rattle.mgs_model.specs.declared.search.SearchStep.TheVariants.{FromOrigin}
use Rattle.mgs_search.specs.Planned.{IsStepPlan}
use Rattle.mgs_buffers.specs.declared.searched_text.FailedSearch.{FailedSearch}

-- in this direction a pattern stands nowhere from a place on, which counts
abbrev pub Fails : Direction → List ℕ → List ℕ → ℕ → Type 0
Fails d pattern text from = match_from d pattern text from ≡ None

-- of a text of this size, the match past a place is the one from here on
abbrev pub IsPast : Direction → ℕ → ℕ → ℕ → Type 0
IsPast d p size from = (pattern text : List ℕ) → size ≡ length text → match_past d pattern text p ≡ match_from d pattern text from

-- what is remembered to have failed does
abbrev pub HasFailed : List ℕ → Option FailedSearch → Type 0
HasFailed text None = Unit {0}
HasFailed text (Some f) = Fails f.direction f.pattern.items text f.from

-- a step looks from this place on
abbrev pub LooksFrom : SearchStep → Sought → List ℕ → SearchPlaces → ℕ → Type 0
LooksFrom step s text x from = looked_for step s text x ≡ match_from s.direction s.pattern text from

-- what it leaves is the command's plan
abbrev pub IsStepPlanned : SearchStep → Sought → Sought → List ℕ → SearchPlaces → SearchPlaces → Type 0
IsStepPlanned step old new text x after = IsStepPlan step old.direction old.pattern text x after new.failing

-- the places after a step that found nothing
abbrev pub places_failed : SearchStep → SearchPlaces → SearchPlaces
places_failed FromOrigin x = record x { anchor = x.origin }
places_failed _ x = x

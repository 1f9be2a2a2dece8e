-- Searches in small texts, computed by the definitions.
use Rattle.std.proofs.Common.{◌≡◌, ℕ, true, false, List, [], ◌∷◌, ◌++◌, Some, None, refl}
use Rattle.std.specs.Prelude.{Bool, codes, fold}
use Rattle.mgs_model.specs.Searching.{matches_at, first_match, last_match_before, last_match, match_past, Sought, read_byte, places_after, sought_after}
use Rattle.mgs_model.specs.declared.search.Direction.{Direction}
use Rattle.mgs_model.specs.declared.search.Direction.TheVariants.{Forward, Backward}
use Rattle.mgs_model.specs.declared.search.SearchPlaces.{SearchPlaces}
use Rattle.mgs_model.specs.declared.search.SearchStep.{SearchStep}
use Rattle.mgs_model.specs.declared.search.SearchStep.TheVariants.{Stays, FromAnchor, PastAnchor, FromOrigin, ToOrigin, Ends, Quits, Leaves}

-- at 0, 3 and 6
abbrev thrice : List ℕ
thrice = codes "ab aB Ab"

matches_there : (matches_at (codes "Ab") thrice 0 ∷ matches_at (codes "ab") thrice 3 ∷ matches_at (codes "AB") thrice 6 ∷ matches_at (codes "ab") thrice 1 ∷ matches_at (codes "ab") thrice 7 ∷ matches_at (codes "ab") thrice 8 ∷ matches_at [] thrice 8 ∷ []) ≡ true ∷ true ∷ true ∷ false ∷ false ∷ false ∷ true ∷ []
matches_there = refl

-- the case of letters alone is ignored: `[` and `{` lie as far apart as `A` and `a`
letters_alone : (matches_at (codes "[") (codes "{") 0 ∷ matches_at (codes "@") (codes "`") 0 ∷ matches_at (codes "z") (codes "Z") 0 ∷ matches_at (233 ∷ []) (201 ∷ []) 0 ∷ []) ≡ false ∷ false ∷ true ∷ false ∷ []
letters_alone = refl

first_there : (first_match (codes "AB") thrice 0 ∷ first_match (codes "AB") thrice 1 ∷ first_match (codes "AB") thrice 6 ∷ first_match (codes "AB") thrice 7 ∷ first_match (codes "AB") thrice 8 ∷ first_match [] thrice 8 ∷ []) ≡ Some 0 ∷ Some 3 ∷ Some 6 ∷ None ∷ None ∷ Some 8 ∷ []
first_there = refl

last_there : (last_match_before (codes "AB") thrice 0 ∷ last_match_before (codes "AB") thrice 3 ∷ last_match_before (codes "AB") thrice 4 ∷ last_match (codes "AB") thrice 0 ∷ last_match (codes "AB") thrice 3 ∷ last_match (codes "AB") thrice 8 ∷ []) ≡ None ∷ Some 0 ∷ Some 3 ∷ Some 0 ∷ Some 3 ∷ Some 6 ∷ []
last_there = refl

past_there : (match_past Forward (codes "ab") thrice 0 ∷ match_past Forward (codes "ab") thrice 6 ∷ match_past Forward (codes "ab") thrice 8 ∷ match_past Backward (codes "ab") thrice 6 ∷ match_past Backward (codes "ab") thrice 0 ∷ []) ≡ Some 3 ∷ None ∷ None ∷ Some 3 ∷ None ∷ []
past_there = refl

-- RUNS of bytes in one text: what is looked for, the places, and what the last byte came to
record Run : Type 0 where
  sought : Sought
  places : SearchPlaces
  step : SearchStep

abbrev stepped : List ℕ → SearchPlaces → Sought × SearchStep → Run
stepped text x (s, step) = record { sought = sought_after step s text x; places = places_after step s text x; step = step }

abbrev fed : List ℕ → List ℕ → Run → ℕ → Run
fed last text run byte = stepped text run.places (read_byte last run.sought byte)

abbrev begun : Direction → ℕ → Run
begun d p = record { sought = record { direction = d; pattern = []; failing = false }; places = record { origin = p; anchor = p; point = p }; step = Stays }

abbrev searched : List ℕ → List ℕ → Direction → ℕ → List ℕ → Run
searched last text d p bytes = fold (fed last text) (begun d p) bytes

-- a run's pattern, its anchor and point, whether it is failing, and its last step
record Told : Type 0 where
  pattern : List ℕ
  anchor : ℕ
  point : ℕ
  failing : Bool
  step : SearchStep

abbrev told : List ℕ → Direction → ℕ → List ℕ → Told
told last d p bytes =
    let run = searched last thrice d p bytes in
    record { pattern = run.sought.pattern; anchor = run.places.anchor; point = run.places.point; failing = run.sought.failing; step = run.step }

typed_on : told [] Forward 1 (codes "aB") ≡ record { pattern = codes "aB"; anchor = 3; point = 5; failing = false; step = FromAnchor }
typed_on = refl

-- nothing found: anchor and point stay
not_found : told [] Forward 1 (codes "abx") ≡ record { pattern = codes "abx"; anchor = 3; point = 5; failing = true; step = FromAnchor }
not_found = refl

again : told [] Forward 0 (codes "ab" ++ 19 ∷ 19 ∷ []) ≡ record { pattern = codes "ab"; anchor = 6; point = 8; failing = false; step = PastAnchor }
again = refl

again_fails : told [] Forward 3 (codes "ab" ++ 19 ∷ 19 ∷ []) ≡ record { pattern = codes "ab"; anchor = 6; point = 8; failing = true; step = PastAnchor }
again_fails = refl

-- the other way the anchor does not count either
turned : told [] Forward 1 (codes "ab" ++ 18 ∷ []) ≡ record { pattern = codes "ab"; anchor = 0; point = 0; failing = false; step = PastAnchor }
turned = refl

-- an empty pattern becomes the search string, and the anchor counts
last_taken : told (codes "AB") Forward 3 (19 ∷ []) ≡ record { pattern = codes "AB"; anchor = 3; point = 5; failing = false; step = FromAnchor }
last_taken = refl

none_taken : told [] Forward 3 (18 ∷ []) ≡ record { pattern = []; anchor = 3; point = 3; failing = false; step = Stays }
none_taken = refl

-- one character less is looked for from the origin on
taken_back : told [] Forward 1 (codes "ab" ++ 19 ∷ 127 ∷ []) ≡ record { pattern = codes "a"; anchor = 3; point = 4; failing = false; step = FromOrigin }
taken_back = refl

-- not found there: the anchor is the origin, and the point stays
taken_back_fails : told [] Forward 4 (codes "abx" ++ 18 ∷ codes "yz" ++ 127 ∷ []) ≡ record { pattern = codes "abxy"; anchor = 4; point = 8; failing = true; step = FromOrigin }
taken_back_fails = refl

all_taken_back : told [] Forward 1 (codes "a" ++ 127 ∷ []) ≡ record { pattern = []; anchor = 1; point = 1; failing = false; step = ToOrigin }
all_taken_back = refl

ended : told [] Backward 8 (codes "ab" ++ 13 ∷ []) ≡ record { pattern = codes "ab"; anchor = 6; point = 6; failing = false; step = Ends }
ended = refl

quit : told [] Backward 8 (codes "ab" ++ 7 ∷ []) ≡ record { pattern = codes "ab"; anchor = 6; point = 8; failing = false; step = Quits }
quit = refl

-- any other byte is a key
left : told [] Backward 8 (codes "ab" ++ 6 ∷ []) ≡ record { pattern = codes "ab"; anchor = 6; point = 6; failing = false; step = Leaves }
left = refl

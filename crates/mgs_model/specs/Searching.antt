-- SEARCHES: where a pattern stands in a text, and what the bytes of an incremental search come to.
--
--   begins                   a text begins with a pattern; the case of ASCII letters is ignored
--   matches_at               the pattern stands at a place
--   first_match              the first place from one on where it stands
--   last_match_before        the last place before one where it stands
--   last_match               the last place up to one where it stands
--   match_from, match_past   the next place in a direction, where the start itself counts, or does not
--   match_point              where the point is at a match
--   match_once               the match that a search by a prompt goes to
--   read_byte                what a byte makes of an incremental search, and what is to be done
--   looked_for, places_after the match that is looked for then, and the places afterwards
use Rattle.std.specs.Prelude.{ℕ, zero, suc, ◌+◌, ◌-◌, ◌==◌, nat_lt, Bool, true, false, List, [], ◌∷◌, ◌++◌, length, take, drop, Option, None, Some, is_none, cond, if◌then◌else◌}
use Rattle.std.specs.List.{starts_with}
use Rattle.std.specs.Char.{eq_ignore_ascii_case}
use Rattle.mgs_model.specs.Keys.{input_limit, is_graphic}
use Rattle.mgs_model.specs.declared.search.Direction.{Direction}
use Rattle.mgs_model.specs.declared.search.Direction.TheVariants.{Forward, Backward}
use Rattle.mgs_model.specs.declared.search.SearchPlaces.{SearchPlaces}
use Rattle.mgs_model.specs.declared.search.SearchStep.{SearchStep}
use Rattle.mgs_model.specs.declared.search.SearchStep.TheVariants.{Stays, FromAnchor, PastAnchor, FromOrigin, ToOrigin, Ends, Quits, Leaves}

-- MATCHES

abbrev pub begins : List ℕ → List ℕ → Bool
begins pattern text = starts_with eq_ignore_ascii_case text pattern

abbrev pub matches_at : List ℕ → List ℕ → ℕ → Bool
matches_at pattern text p = begins pattern (drop p text)

-- the least place from the i-th on where it stands, of what is left of a text from the i-th place on
abbrev pub first_in : List ℕ → ℕ → List ℕ → Option ℕ
first_in pattern i [] = if begins pattern [] then Some i else None
first_in pattern i (c ∷ cs) = if begins pattern (c ∷ cs) then Some i else first_in pattern (i + 1) cs

abbrev pub first_match : List ℕ → List ℕ → ℕ → Option ℕ
first_match pattern text p = first_in pattern p (drop p text)

-- the greatest place before this one where it stands
abbrev pub last_match_before : List ℕ → List ℕ → ℕ → Option ℕ
last_match_before pattern text zero = None
last_match_before pattern text (suc p) = if matches_at pattern text p then Some p else last_match_before pattern text p

abbrev pub last_match : List ℕ → List ℕ → ℕ → Option ℕ
last_match pattern text p = last_match_before pattern text (suc p)

-- IN A DIRECTION

-- the place itself counts
abbrev pub match_from : Direction → List ℕ → List ℕ → ℕ → Option ℕ
match_from Forward pattern text p = first_match pattern text p
match_from Backward pattern text p = last_match pattern text p

-- it does not
abbrev pub match_past : Direction → List ℕ → List ℕ → ℕ → Option ℕ
match_past Forward pattern text p = if nat_lt p (length text) then first_match pattern text (p + 1) else None
match_past Backward pattern text p = last_match_before pattern text p

-- the point is at the end of a match forward, and at the start of one backward
abbrev pub match_point : Direction → List ℕ → ℕ → ℕ
match_point Forward pattern p = p + length pattern
match_point Backward pattern p = p

-- ONE SEARCH, of a pattern that was typed at a prompt: a place counts forward, and backward it does not
abbrev pub match_once : Direction → List ℕ → List ℕ → ℕ → Option ℕ
match_once Forward pattern text p = first_match pattern text p
match_once Backward pattern text p = last_match_before pattern text p

-- INCREMENTAL SEARCH

-- what it looks for, and whether it found nothing when it looked last
pub record Sought : Type 0 where
  pub direction : Direction
  pub pattern : List ℕ
  pub failing : Bool

-- a character behind the pattern, which has as many as an input may have
abbrev pub lengthened : List ℕ → ℕ → List ℕ
lengthened pattern c = if nat_lt (length pattern) input_limit then pattern ++ c ∷ [] else pattern

abbrev pub shortened : List ℕ → List ℕ
shortened pattern = take (length pattern - 1) pattern

-- C-s and C-r: an empty pattern becomes the search string, where there is one
abbrev pub directed : List ℕ → Direction → Sought → Sought × SearchStep
directed last d s =
    if nat_lt 0 (length s.pattern) then (record s { direction = d }, PastAnchor)
    else if nat_lt 0 (length last) then (record s { direction = d; pattern = last }, FromAnchor)
    else (record s { direction = d }, Stays)

-- DEL. A search for nothing does not fail
abbrev pub dropped : Sought → Sought × SearchStep
dropped s =
    if nat_lt 1 (length s.pattern) then (record s { pattern = shortened s.pattern }, FromOrigin)
    else (record s { pattern = []; failing = false }, ToOrigin)

-- a byte, with the search string
abbrev pub read_byte : List ℕ → Sought → ℕ → Sought × SearchStep
read_byte last s byte =
    if is_graphic byte then (record s { pattern = lengthened s.pattern byte }, FromAnchor)
    else if byte == 19 then directed last Forward s
    else if byte == 18 then directed last Backward s
    else if byte == 127 then dropped s
    else if byte == 13 then (s, Ends)
    else if byte == 7 then (s, Quits)
    else (s, Leaves)

-- the match that a step looks for in a text
abbrev pub looked_for : SearchStep → Sought → List ℕ → SearchPlaces → Option ℕ
looked_for FromAnchor s text x = match_from s.direction s.pattern text x.anchor
looked_for PastAnchor s text x = match_past s.direction s.pattern text x.anchor
looked_for FromOrigin s text x = match_from s.direction s.pattern text x.origin
looked_for _ s text x = None

-- where nothing was found, anchor and point stay
abbrev pub found_places : Option ℕ → Sought → SearchPlaces → SearchPlaces
found_places None s x = x
found_places (Some p) s x = record x { anchor = p; point = match_point s.direction s.pattern p }

-- the places after a step in a text (that of `Quits` is also what the act LeaveSearch does, by which an event quits a search)
abbrev pub places_after : SearchStep → Sought → List ℕ → SearchPlaces → SearchPlaces
places_after FromOrigin s text x = found_places (looked_for FromOrigin s text x) s (record x { anchor = x.origin })
places_after ToOrigin s text x = record x { anchor = x.origin; point = x.origin }
places_after Quits s text x = record x { point = x.origin }
places_after step s text x = found_places (looked_for step s text x) s x

abbrev pub is_looking : SearchStep → Bool
is_looking FromAnchor = true
is_looking PastAnchor = true
is_looking FromOrigin = true
is_looking _ = false

-- whether the search is failing after a step
abbrev pub sought_after : SearchStep → Sought → List ℕ → SearchPlaces → Sought
sought_after step s text x = record s { failing = cond (is_looking step) (is_none (looked_for step s text x)) s.failing }

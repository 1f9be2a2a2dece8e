-- SEARCHES AND QUERY-REPLACE: what each of their commands does over a text, beside the positions that a session keeps for its search.
use Rattle.std.specs.Prelude.{ℕ, ◌+◌, ◌==◌, Bool, false, not, List, [], length, Option, Some, None, Result, Ok, Err, cond, if◌then◌else◌}
use Rattle.mgs_model.specs.Text.{edited}
use Rattle.mgs_model.specs.Plans.{fails_without}
use Rattle.mgs_model.specs.Searching.{matches_at, first_match, match_once, match_point, Sought, is_looking, places_after, sought_after}
use Rattle.mgs_model.specs.Outcome.{PointPlan, Keep_position, At, SearchPlan, Keep_search, Begin, Anchor_at}
use Rattle.mgs_model.specs.declared.search.SearchPlaces.{SearchPlaces}
use Rattle.mgs_model.specs.declared.search.SearchStep.{SearchStep}
use Rattle.mgs_model.specs.declared.echo_text.Message.{Message}
use Rattle.mgs_model.specs.declared.echo_text.Message.TheVariants.{Says}
use Rattle.mgs_model.specs.declared.echo_text.Notice.TheVariants.{NoPattern, NotFound, NoBuffer}
use Rattle.mgs_model.specs.declared.session.Seeking.{Seeking}
use Rattle.mgs_model.specs.declared.session.Seeking.TheVariants.{SearchFor, StartSearch, SearchOn, StartReplace, SkipMatch}
use Rattle.mgs_model.specs.declared.session.Replacement.{Replacement}
use Rattle.mgs_model.specs.declared.session.Replacement.TheVariants.{ReplaceMatch, ReplaceLast}

-- what is given beside the text: the buffer's name; where the session's search began and where it looks from (0 where it has none), and
-- the place of action; whether the search is in this buffer; what is replaced; and what was typed, to be looked for or put in
pub record AroundSearch : Type 0 where
  pub name : List ℕ
  pub places : SearchPlaces
  pub sought_here : Bool
  pub old : List ℕ
  pub typed : List ℕ

-- what becomes of a mode: it stays; or, of a query-replace, so many more were replaced, and it goes on, or is over, since there is no
-- further match (or there was none from the start); or, of an incremental search, it stays, and is failing or not
pub data ModePlan : Type 0 where
  Keep_mode : ModePlan
  Goes_on : (replaced : ℕ) → ModePlan
  Over : (replaced : ℕ) → ModePlan
  Failing : (failing : Bool) → ModePlan

-- what a command leaves
pub record SearchFinish : Type 0 where
  pub point : PointPlan
  pub sought : SearchPlan
  pub mode : ModePlan

-- takes out the characters from a up to b, and puts these there
pub record SearchChange : Type 0 where
  pub a : ℕ
  pub b : ℕ
  pub put : List ℕ
  pub finish : SearchFinish

-- a step of an incremental search moves point and anchor, and where it looks for the pattern it may be failing then
abbrev pub searched_on : SearchStep → Sought → List ℕ → SearchPlaces → SearchFinish
searched_on step s text x =
    record {
      point = At (places_after step s text x).point;
      sought = Anchor_at (places_after step s text x).anchor;
      mode = cond (is_looking step) (Failing (sought_after step s text x).failing) Keep_mode;
    }

-- QUERY-REPLACE: the match is still there
abbrev pub is_match : List ℕ → AroundSearch → Bool
is_match text x = matches_at x.old text x.places.anchor

-- on to a match of a pattern of so many characters, when so many more were replaced; where there is none it is over, with the point there
abbrev pub met : ℕ → ℕ → PointPlan → Option ℕ → SearchFinish
met len n point None = record { point = point; sought = Keep_search; mode = Over n }
met len n point (Some m) = record { point = At (m + len); sought = Anchor_at m; mode = Goes_on n }

-- to the next one from a place on
abbrev pub next_match : AroundSearch → ℕ → ℕ → PointPlan → List ℕ → SearchFinish
next_match x from n point text = met (length x.old) n point (first_match x.old text from)

-- a search goes on in its own buffer; no key leads to a window that shows another. Whether it was failing before a step changes nothing
abbrev pub seek : Seeking → List ℕ → AroundSearch → Result SearchFinish Message
seek (SearchFor d) text x =
    if length x.typed == 0 then Err (Says NoPattern)
    else fails_without (Says NotFound) (match_once d x.typed text x.places.point) (λ m. record { point = At (match_point d x.typed m); sought = Keep_search; mode = Keep_mode })
seek (StartSearch d) text x = Ok (record { point = Keep_position; sought = Begin x.name x.places.point x.places.point; mode = Keep_mode })
seek (SearchOn d step) text x =
    let s : Sought = record { direction = d; pattern = x.typed; failing = false } in
    if x.sought_here then Ok (searched_on step s text x.places) else Err (Says NoBuffer)
seek StartReplace text x =
    if length x.old == 0 then Err (Says NoPattern)
    else Ok (elim (first_match x.old text x.places.point) [ None ↦ record { point = Keep_position; sought = Keep_search; mode = Over 0 } | Some m ↦ record { point = At (m + length x.old); sought = Begin x.name x.places.point m; mode = Keep_mode } ])
seek SkipMatch text x =
    if x.sought_here then Ok (next_match x (x.places.anchor + cond (is_match text x) (length x.old) 0) 0 Keep_position text) else Err (Says NoBuffer)

-- REPLACING: a match that is no longer there is not replaced, which leaves something else
abbrev pub if_match : List ℕ → AroundSearch → SearchFinish → SearchFinish → Result SearchChange Message
if_match text x done gone =
    if not x.sought_here then Err (Says NoBuffer)
    else if is_match text x then Ok (record { a = x.places.anchor; b = x.places.anchor + length x.old; put = x.typed; finish = done })
    else Ok (record { a = x.places.anchor; b = x.places.anchor; put = []; finish = gone })

abbrev pub replace : Replacement → List ℕ → AroundSearch → Result SearchChange Message
replace ReplaceMatch text x =
    let behind : ℕ = x.places.anchor + length x.typed in
    let after : List ℕ = edited x.places.anchor (x.places.anchor + length x.old) x.typed text in
    if_match text x (next_match x behind 1 (At behind) after) (next_match x x.places.anchor 0 Keep_position text)
replace ReplaceLast text x =
    let behind : ℕ = x.places.anchor + length x.typed in
    if_match text x (record { point = At behind; sought = Keep_search; mode = Over 1 }) (record { point = Keep_position; sought = Keep_search; mode = Over 0 })

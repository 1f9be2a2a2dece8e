-- What the planners of searches answer, read as plans of the model.
use Rattle.std.specs.Prelude.{◌≡◌, ℕ, ◌+◌, Bool, true, List, [], Option, None, Some, Result, Ok, Err, length, cond}
use Rattle.mgs_model.specs.Outcome.{Keep_position, At, Keep_search, Begin, Anchor_at}
use Rattle.mgs_model.specs.Searching.{directed, is_looking}
use Rattle.mgs_model.specs.SearchCommands.{AroundSearch, Keep_mode, Over, Failing, SearchFinish, SearchChange, met, seek, replace}
use Rattle.mgs_model.specs.declared.echo_text.Message.{Message}
use Rattle.mgs_model.specs.declared.search.Direction.{Direction}
use Rattle.mgs_model.specs.declared.search.SearchPlaces.{SearchPlaces}
use Rattle.mgs_model.specs.declared.search.SearchStep.{SearchStep}
use Rattle.mgs_model.specs.declared.session.Replacement.{Replacement}
use Rattle.mgs_model.specs.declared.session.Seeking.TheVariants.{SearchFor, SearchOn, StartReplace, SkipMatch}
use Rattle.mgs_search.specs.declared.query_matches.MatchPlan.{MatchPlan}

-- a search by a prompt: the point goes there
abbrev pub went : Result ℕ Message → Result SearchFinish Message
went (Ok p) = Ok (record { point = At p; sought = Keep_search; mode = Keep_mode })
went (Err message) = Err message

-- what a search by a prompt finds from a place on is the command's plan
abbrev pub IsSearchPlan : Direction → List ℕ → List ℕ → ℕ → Result ℕ Message → Type 0
IsSearchPlan d pattern text p found =
    (rest : AroundSearch) → went found ≡ seek (SearchFor d) text (record rest { places = record rest.places { point = p }; typed = pattern })

-- a step of an incremental search: point and anchor go there, and where it looked for its pattern it may be failing
abbrev pub stepped : SearchStep → SearchPlaces → Bool → SearchFinish
stepped step x failing = record { point = At x.point; sought = Anchor_at x.anchor; mode = cond (is_looking step) (Failing failing) Keep_mode }

-- C-s and C-r, whichever way the search went before and whether it was failing
abbrev pub IsDirected : List ℕ → List ℕ → List ℕ → SearchStep → Type 0
IsDirected last old new step =
    (d was : Direction) → (failing : Bool) → directed last d (record { direction = was; pattern = old; failing = failing }) ≡ (record { direction = d; pattern = new; failing = failing }, step)

-- what a step leaves is the command's plan
abbrev pub IsStepPlan : SearchStep → Direction → List ℕ → List ℕ → SearchPlaces → SearchPlaces → Bool → Type 0
IsStepPlan step d pattern text x after failing =
    (rest : AroundSearch) → Ok (stepped step after failing) ≡ seek (SearchOn d step) text (record rest { places = x; sought_here = true; typed = pattern })

-- QUERY-REPLACE, of a text of so many characters: it begins at the first match, and is over where there is none
abbrev pub begun : List ℕ → ℕ → ℕ → Result (Option ℕ) Message → Result SearchFinish Message
begun name p len (Ok None) = Ok (record { point = Keep_position; sought = Keep_search; mode = Over 0 })
begun name p len (Ok (Some m)) = Ok (record { point = At (m + len); sought = Begin name p m; mode = Keep_mode })
begun name p len (Err message) = Err message

-- one replacement at an anchor, or none where the text no longer matches
abbrev pub replacement_read : ℕ → ℕ → List ℕ → MatchPlan → SearchChange
replacement_read anchor len put r =
    cond r.replaces
    (record { a = anchor; b = anchor + len; put = put; finish = met len 1 (At (anchor + length put)) r.next })
    (record { a = anchor; b = anchor; put = []; finish = met len 0 Keep_position r.next })

-- these are the model's plans, in a text
abbrev pub IsBegun : List ℕ → List ℕ → ℕ → Result (Option ℕ) Message → Type 0
IsBegun old text p answer = (rest : AroundSearch) → begun rest.name p (length old) answer ≡ seek StartReplace text (record rest { places = record rest.places { point = p }; old = old })

abbrev pub IsSkipped : List ℕ → List ℕ → ℕ → Option ℕ → Type 0
IsSkipped old text anchor next =
    (rest : AroundSearch) → Ok (met (length old) 0 Keep_position next) ≡ seek SkipMatch text (record rest { places = record rest.places { anchor = anchor }; sought_here = true; old = old })

abbrev pub IsReplacement : Replacement → List ℕ → List ℕ → List ℕ → ℕ → MatchPlan → Type 0
IsReplacement command old put text anchor r =
    (rest : AroundSearch) → Ok (replacement_read anchor (length old) put r) ≡ replace command text (record rest { places = record rest.places { anchor = anchor }; sought_here = true; old = old; typed = put })

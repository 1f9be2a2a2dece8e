-- An incremental search by itself: a step of it, and what its session and the buffers are then.
use Rattle.std.specs.Prelude.{◌≡◌, ℕ, true, min, List, [], length, Option, None, Some, cond}
use Rattle.std.specs.List.{position_or_len}
use Rattle.mgs_model.specs.Access.{Directory}
use Rattle.mgs_model.specs.Apply.{act}
use Rattle.mgs_model.specs.Events.{state_set, with_state}
use Rattle.mgs_model.specs.Names.{same_name}
use Rattle.mgs_model.specs.Outcome.{PointPlan, Keep_position, At, Run}
use Rattle.mgs_model.specs.Searching.{Sought, places_after, sought_after}
use Rattle.mgs_model.specs.declared.search.Direction.{Direction}
use Rattle.mgs_model.specs.declared.session.Command.TheVariants.{LeaveSearch, Seek}
use Rattle.mgs_model.specs.declared.session.Seeking.TheVariants.{SearchOn, StartSearch}
use Rattle.mgs_search.specs.Planned.{IsStepPlan}
use Rattle.mgs_seek.specs.Beginning.{search_held, searching_state}
use Rattle.mgs_seek.specs.Acting.{Does, as_is}
use Rattle.mgs_model.specs.declared.search.SearchPlaces.{SearchPlaces}
use Rattle.mgs_model.specs.declared.search.SearchStep.{SearchStep}
use Rattle.mgs_model.specs.declared.session.Kind.TheVariants.{Other}
use Rattle.mgs_buffers.specs.MarkedBuffer.{MarkedBuffer, mark_at, marked_at}
use Rattle.mgs_windows.specs.declared.WindowMarks.{WindowMarks}
use Rattle.mgs_plan.specs.Actions.{mark_gone}
use Rattle.mgs_session.specs.Seeking.{searching}
use Rattle.mgs_session.specs.Sessions.{acted, resting}
use Rattle.mgs_session.specs.declared.Session.{Session}
use Rattle.mgs_session.specs.declared.search.Aim.{Aim}
use Rattle.mgs_session.specs.declared.search.Aim.TheVariants.{Find, Replace}
use Rattle.mgs_session.specs.declared.search.Search.{Search}
use Rattle.mgs_world.specs.Worlds.{session_id, world_of}
use Rattle.mgs_seek.specs.declared.incremental_search.Seeker.{Seeker}

-- an incremental search by itself, and as its session holds it
abbrev pub seek_in : Search → Aim → Option Seeker
seek_in s (Find f) = Some (record { name = s.name; origin = s.origin; anchor = s.anchor; sought = f })
seek_in s (Replace r) = None

abbrev pub as_search : Seeker → Search
as_search s = record { name = s.name; origin = s.origin; anchor = s.anchor; aim = Find s.sought }

-- ONE STEP in a text of so many characters, from this point on
abbrev pub places_at : ℕ → ℕ → Seeker → SearchPlaces
places_at size point s = record { origin = min s.origin size; anchor = min s.anchor size; point = point }

abbrev pub search_stepped : SearchStep → List ℕ → SearchPlaces → Seeker → Seeker
search_stepped step text x s = record s { anchor = (places_after step s.sought text x).anchor; sought = sought_after step s.sought text x }

-- in the text that a window shows, from its point on: where it begins and ends, and the search then
abbrev pub step_places : List MarkedBuffer → WindowMarks → Seeker → SearchPlaces
step_places ks x s = places_at (length (marked_at x.name ks).buffer.text) (mark_at x.name ks x.point) s

abbrev pub step_ends : List MarkedBuffer → WindowMarks → Seeker → SearchStep → SearchPlaces
step_ends ks x s step = places_after step s.sought (marked_at x.name ks).buffer.text (step_places ks x s)

abbrev pub step_search : List MarkedBuffer → WindowMarks → Seeker → SearchStep → Seeker
step_search ks x s step = search_stepped step (marked_at x.name ks).buffer.text (step_places ks x s) s

-- as the model plans it
abbrev pub IsStep : List MarkedBuffer → WindowMarks → Seeker → SearchStep → Type 0
IsStep ks x s step = IsStepPlan step s.sought.direction s.sought.pattern (marked_at x.name ks).buffer.text (step_places ks x s) (step_ends ks x s step) (step_search ks x s step).sought.failing

-- what is done for a session is the act of its incremental search
abbrev pub StepDone : Directory → List MarkedBuffer → List MarkedBuffer → Session → Session → SearchStep → Type 0
StepDone d ks ls x y step = (s : Search) (f : Sought) → x.state.search ≡ Some s → s.aim ≡ Find f → Does d ks ls x y as_is (Run (Seek (SearchOn f.direction step)) None f.pattern)

-- the incremental search that a session holds
abbrev pub seeker_of : Option Search → Option Seeker
seeker_of None = None
seeker_of (Some s) = seek_in s s.aim

-- a session that goes on with a search
abbrev pub session_sought : Seeker → Session → Session
session_sought s h = acted Other (searching (as_search s) (resting h))

-- where the point goes to that quits: to the origin of a search in that buffer
abbrev pub origin_plan : List ℕ → ℕ → Option Search → PointPlan
origin_plan name size None = Keep_position
origin_plan name size (Some s) = cond (same_name s.name name) (At (min s.origin size)) Keep_position

-- and the buffers then, in a window, and in what the selected window shows
abbrev pub gone_back_in : WindowMarks → Option Search → List MarkedBuffer → List MarkedBuffer
gone_back_in x search ks = mark_gone x.name x.point (origin_plan x.name (length (marked_at x.name ks).buffer.text) search) ks

abbrev pub gone_back : Option WindowMarks → Option Search → List MarkedBuffer → List MarkedBuffer
gone_back None search ks = ks
gone_back (Some x) search ks = gone_back_in x search ks

-- the buffers once a step ended there
abbrev pub point_sought : WindowMarks → Seeker → SearchStep → List MarkedBuffer → List MarkedBuffer
point_sought x s step ks = mark_gone x.name x.point (At (step_ends ks x s step).point) ks

-- THE ACTS by which an incremental search begins: in a session, and in the world
abbrev pub Begins : Directory → List MarkedBuffer → Session → Session → Direction → Type 0
Begins d ks x y direction = (n : Option ℕ) → Does d ks ks x y (state_set (searching_state direction)) (Run (Seek (StartSearch direction)) n [])

abbrev pub IsBegun : Directory → List MarkedBuffer → List Session → List Session → ℕ → Direction → Type 0
IsBegun d ks xs ys at direction =
    (id : ℕ) (next n : Option ℕ) → at ≡ position_or_len (session_id id) xs
    → world_of d ks ys next ≡ act (with_state id (searching_state direction) (world_of d ks xs next)) id (Run (Seek (StartSearch direction)) n []) true

-- and by which it goes on, and is quit
abbrev pub IsSoughtOn : Directory → List MarkedBuffer → List MarkedBuffer → List Session → List Session → ℕ → SearchStep → Type 0
IsSoughtOn d ks ls xs ys at step =
    (id : ℕ) (next : Option ℕ) (s : Search) (f : Sought) → at ≡ position_or_len (session_id id) xs → search_held at xs ≡ Some s → s.aim ≡ Find f
    → world_of d ls ys next ≡ act (world_of d ks xs next) id (Run (Seek (SearchOn f.direction step)) None f.pattern) true

abbrev pub IsQuit : List MarkedBuffer → List MarkedBuffer → List Session → List Session → ℕ → Type 0
IsQuit ks ls xs ys at =
    (directory : Directory) (id : ℕ) (next : Option ℕ) → at ≡ position_or_len (session_id id) xs
    → world_of directory ls ys next ≡ act (world_of directory ks xs next) id (Run LeaveSearch None []) true

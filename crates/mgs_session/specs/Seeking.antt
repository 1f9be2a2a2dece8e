-- A search of a session: how it begins, and how it goes by edits and kills of its buffer.
use Rattle.std.specs.Prelude.{ℕ, ◌==◌, Bool, false, min, List, [], Option, None, Some, length, cond}
use Rattle.std.specs.Option.{option_map}
use Rattle.mgs_model.specs.Names.{same_name}
use Rattle.mgs_model.specs.Text.{shift}
use Rattle.mgs_model.specs.declared.echo_text.Message.TheVariants.{Says}
use Rattle.mgs_model.specs.declared.echo_text.Notice.TheVariants.{Silent}
use Rattle.mgs_model.specs.declared.search.Direction.{Direction}
use Rattle.mgs_session.specs.declared.State.{State}
use Rattle.mgs_session.specs.declared.Session.{Session}
use Rattle.mgs_session.specs.declared.search.Edited.{Edited}
use Rattle.mgs_session.specs.declared.search.Aim.TheVariants.{Find, Replace}
use Rattle.mgs_session.specs.Replacing.{Replacing}
use Rattle.mgs_session.specs.declared.search.Search.{Search}

-- an incremental search looks for nothing yet
abbrev pub search_begun : List ℕ → ℕ → Direction → Search
search_begun name place d = record { name = name; origin = place; anchor = place; aim = Find (record { direction = d; pattern = []; failing = false }) }

-- a query-replace at its first match
abbrev pub replacing_begun : List ℕ → ℕ → ℕ → Replacing → Search
replacing_begun name place anchor r = record { name = name; origin = place; anchor = anchor; aim = Replace r }

-- EDITS: where a position goes; one past the end is the end
abbrev pub moved : Edited → ℕ → ℕ
moved e p = shift e.from e.to e.added (min p e.size)

abbrev pub search_edited : List ℕ → Edited → Search → Search
search_edited name e s = record s { origin = cond (same_name name s.name) (moved e s.origin) s.origin; anchor = cond (same_name name s.name) (moved e s.anchor) s.anchor }

abbrev pub session_edited : List ℕ → Edited → Session → Session
session_edited name e x = record x { state = record x.state { search = option_map (search_edited name e) x.state.search } }

-- IN A SESSION

abbrev pub searching : Search → Session → Session
searching s x = record x { state = record x.state { search = Some s } }

abbrev pub unsearched : Session → Session
unsearched x = record x { state = record x.state { search = None } }

-- one that looked for this is over: it is the search string then, unless it is nothing. No prompt is behind it
abbrev pub search_left : List ℕ → Session → Session
search_left sought x =
    record x { state = record x.state { echo = Says Silent; pattern = cond (length sought == 0) x.state.pattern sought; prompt = None; search = None } }

-- one that goes on is in the buffer of this name
abbrev pub is_search_in : List ℕ → Option Search → Bool
is_search_in name None = false
is_search_in name (Some s) = same_name name s.name

-- a search in a buffer that is gone is over
abbrev pub state_without_buffer : List ℕ → State → State
state_without_buffer name state =
    record state { search = cond (is_search_in name state.search) None state.search; prompt = cond (is_search_in name state.search) None state.prompt }

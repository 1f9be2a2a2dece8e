-- Searches: the state with which a begin is decided, and the search of a session.
use Rattle.std.specs.Prelude.{ℕ, false, List, [], Option, None, Some, slice_get}
use Rattle.mgs_model.specs.World.{State}
use Rattle.mgs_model.specs.declared.search.Direction.{Direction}
use Rattle.mgs_model.specs.declared.session.Mode.TheVariants.{Searching}
use Rattle.mgs_session.specs.declared.Session.{Session}
use Rattle.mgs_session.specs.declared.search.Search.{Search}

abbrev pub searching_state : Direction → State → State
searching_state d state = record state { mode = Searching d false; input = [] }

-- the search of the session at an index
abbrev pub search_or_none : Option Session → Option Search
search_or_none None = None
search_or_none (Some h) = h.state.search

abbrev pub search_held : ℕ → List Session → Option Search
search_held at xs = search_or_none (slice_get xs at)

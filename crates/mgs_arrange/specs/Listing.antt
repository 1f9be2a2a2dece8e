-- A window comes to show rows: the list of buffers, or an access list.
use Rattle.std.specs.Prelude.{◌≡◌, ℕ}
use Rattle.mgs_model.specs.World.{Session, World, has_id}
use Rattle.mgs_model.specs.World as model
use Rattle.mgs_model.specs.Apply.{change_first}
use Rattle.mgs_windows.specs.declared.RowPane.{RowPane}
use Rattle.mgs_world.specs.Worlds.{top_row}
use Rattle.mgs_arrange.specs.Arranged.{run_ended, window_lists}

-- from the first row on
abbrev pub IsFromStart : RowPane → Type 0
IsFromStart rows = top_row rows ≡ 0

-- the world in which that was done by the session of an id
abbrev pub listed_in : ℕ → model.Shows → Session → World → World
listed_in id shows x w = record w { sessions = change_first (has_id id) (λ old. run_ended (window_lists shows x)) w.sessions }

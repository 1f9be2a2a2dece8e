-- A buffer is killed.
use Rattle.std.specs.Prelude.{◌≡◌, ℕ, List, Option, map}
use Rattle.mgs_model.specs.Access.{Directory}
use Rattle.mgs_model.specs.World.{World}
use Rattle.mgs_model.specs.Apply.{buffers_after, session_after}
use Rattle.mgs_model.specs.Outcome.{Kill}
use Rattle.mgs_buffers.specs.MarkedBuffer.{MarkedBuffer}
use Rattle.mgs_windows.specs.Panes.{list_without_buffer}
use Rattle.mgs_session.specs.Seeking.{state_without_buffer}
use Rattle.mgs_session.specs.declared.Session.{Session}
use Rattle.mgs_world.specs.Worlds.{world_of}

-- windows that show the buffer or its access list show nothing, places in it go, and a search in it is over
abbrev pub session_forgetting : List ℕ → Session → Session
session_forgetting name x = record x { windows = list_without_buffer name x.windows; state = state_without_buffer name x.state }

-- the same of the model's world, where the buffer is gone
abbrev pub world_without : List ℕ → World → World
world_without name w = record w { buffers = buffers_after (Kill name) w.buffers; sessions = map (session_after (Kill name)) w.sessions }

-- in any directory the world is left without the buffer
abbrev pub IsWithout : List ℕ → List MarkedBuffer → List Session → List MarkedBuffer → List Session → Type 0
IsWithout name ks xs left rest =
    (directory : Directory) (next : Option ℕ) → world_of directory left rest next ≡ world_without name (world_of directory ks xs next)

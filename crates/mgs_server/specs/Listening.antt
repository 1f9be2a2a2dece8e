-- A SERVER THAT LISTENS, as its callers see it.
use Rattle.std.specs.Prelude.{ℕ, List, [], Option}
use Rattle.mgs_model.specs.Access.{Directory}
use Rattle.mgs_model.specs.World.{World}
use Rattle.mgs_births.specs.Telling.{StoreTold}
use Rattle.mgs_buffers.specs.MarkedBuffer.{MarkedBuffer}
use Rattle.mgs_world.specs.Worlds.{buffers_of}
use Rattle.mgs_wire.specs.Connections.{Connection}
use Rattle.mgs_engine.specs.Serving.{Serving}

-- what is served, the connections under their keys, the tickets of the users, the port, and the keys that the last wait reported, in order
pub record Listening (E : Type 0) : Type 0 where
  pub serving : E
  pub peers : List (Option Connection)
  pub tickets : List (List ℕ × List ℕ)
  pub port : ℕ
  pub reported : List ℕ

-- one that serves an engine
abbrev pub EngineListening : Type 0
EngineListening = Listening Serving

-- a directory and buffers, before any session
abbrev pub first_world : Directory → List MarkedBuffer → World
first_world directory buffers = record { directory = directory; buffers = buffers_of buffers; sessions = []; next_id = 1 }

-- nothing waits, and nobody is to be told
abbrev pub at_first : World → StoreTold → Serving
at_first w t = record { world = w; store = t; queues = []; ended = [] }

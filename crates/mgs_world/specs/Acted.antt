-- What a call for the session at an index leaves of the world.
use Rattle.std.specs.Prelude.{◌≡◌, ℕ, true, List, Option, Some}
use Rattle.std.specs.List.{position_or_len}
use Rattle.mgs_model.specs.Access.{Directory}
use Rattle.mgs_model.specs.Apply.{act, outcome_in}
use Rattle.mgs_model.specs.Outcome.{Act}
use Rattle.mgs_model.specs.World.{World, find_session}
use Rattle.mgs_model.specs.World as model
use Rattle.mgs_laws.specs.Refusals.{may_be_refused}
use Rattle.mgs_buffers.specs.MarkedBuffer.{MarkedBuffer}
use Rattle.mgs_session.specs.declared.Session.{Session}
use Rattle.mgs_world.specs.Worlds.{session_id, world_of}

-- all is as it was
abbrev pub IsSameWorld : Directory → List MarkedBuffer → List MarkedBuffer → List Session → List Session → Type 0
IsSameWorld directory ks ls xs ys = (next : Option ℕ) → world_of directory ls ys next ≡ world_of directory ks xs next

abbrev pub IsUnchanged : List MarkedBuffer → List Session → List MarkedBuffer → List Session → Type 0
IsUnchanged ks xs ls ys = (directory : Directory) → IsSameWorld directory ks ls xs ys

-- what follows from a session of an id was done
abbrev pub IsLeftAt : ℕ → (ℕ → model.Session → World → World) → List MarkedBuffer → List Session → List MarkedBuffer → List Session → Type 0
IsLeftAt at after ks xs ls ys =
    (directory : Directory) (id : ℕ) (next : Option ℕ) (x : model.Session) → at ≡ position_or_len (session_id id) xs → find_session id (world_of directory ks xs next).sessions ≡ Some x → world_of directory ls ys next ≡ after id x (world_of directory ks xs next)

-- an act was done, which no store refused
abbrev pub IsActedAt : ℕ → Act → List MarkedBuffer → List Session → List MarkedBuffer → List Session → Type 0
IsActedAt at c ks xs ls ys =
    (directory : Directory) (id : ℕ) (next : Option ℕ) → at ≡ position_or_len (session_id id) xs → world_of directory ls ys next ≡ act (world_of directory ks xs next) id c true

-- it may be refused
abbrev pub IsRefusable : Directory → ℕ → Act → List MarkedBuffer → List Session → Type 0
IsRefusable directory at c ks xs =
    (id : ℕ) (next : Option ℕ) → at ≡ position_or_len (session_id id) xs → may_be_refused (outcome_in (world_of directory ks xs next) id c true) ≡ true

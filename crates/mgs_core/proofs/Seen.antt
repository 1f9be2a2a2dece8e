-- What is told of a session, by the one that was found.
use Rattle.std.proofs.Common.{◌≡◌, ℕ, List, Option, sym, ap, ◌∙◌}
use Rattle.std.specs.Prelude.{find}
use Rattle.std.specs.Option.{option_map}
use Rattle.mgs_model.specs.Access.{Directory}
use Rattle.mgs_model.specs.World as model
use Rattle.mgs_model.specs.World.{find_session}
use Rattle.mgs_buffers.specs.MarkedBuffer.{MarkedBuffer}
use Rattle.mgs_session.specs.declared.Session.{Session}
use Rattle.mgs_world.specs.Worlds.{session_id, session_of, world_of}
use Rattle.mgs_world.proofs.Sessions.{session_seen}

pub seen_as : {A : Type 0} (tell : Option model.Session → A) (d : Directory) (ks : List MarkedBuffer) (xs : List Session) (next : Option ℕ) (id : ℕ) (o : Option Session) → o ≡ find (session_id id) xs
    → tell (option_map (session_of ks) o) ≡ tell (find_session id (world_of d ks xs next).sessions)
seen_as tell d ks xs next id o found = ap (λ p. tell (option_map (session_of ks) p)) found ∙ ap tell (sym (session_seen d ks xs next id))

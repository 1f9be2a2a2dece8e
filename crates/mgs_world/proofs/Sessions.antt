-- A session of the world, by its place.
use Rattle.std.proofs.Common.{◌≡◌, ℕ, ◌<◌, List, length, get_or, Option, Some, None, refl, sym, ap, ◌∙◌, arith}
use Rattle.std.specs.Prelude.{find}
use Rattle.std.specs.List.{position_or_len}
use Rattle.std.specs.Option.{option_map}
use Rattle.mgs_model.specs.Access.{Directory}
use Rattle.mgs_model.specs.World.{has_id, find_session}
use Rattle.mgs_model.proofs.Firsts.{find-map, find_none, find_at_place}
use Rattle.mgs_buffers.specs.MarkedBuffer.{MarkedBuffer}
use Rattle.mgs_session.specs.declared.Session.{Session}
use Rattle.mgs_world.specs.Worlds.{session_of, session_id, world_of}

pub session_seen : (d : Directory) (ks : List MarkedBuffer) (xs : List Session) (next : Option ℕ) (id : ℕ) → find_session id (world_of d ks xs next).sessions ≡ option_map (session_of ks) (find (session_id id) xs)
session_seen d ks xs next id = find-map (session_of ks) (session_id id) (has_id id) (λ x. refl) xs

pub session_none : (d : Directory) (ks : List MarkedBuffer) (xs : List Session) (next : Option ℕ) (id at : ℕ) → at ≡ position_or_len (session_id id) xs → at ≡ length xs → find_session id (world_of d ks xs next).sessions ≡ None
session_none d ks xs next id at place past =
    session_seen d ks xs next id ∙ ap (option_map (session_of ks)) (find_none (session_id id) xs (sym place ∙ past))

-- the one at its place has the id
pub session_found : (xs : List Session) (id at : ℕ) (h : Session) → at ≡ position_or_len (session_id id) xs → at < length xs → h ≡ get_or xs at h → find (session_id id) xs ≡ Some h
session_found xs id at h place within is =
    find_at_place (session_id id) xs h (omega (arith, place, within)) ∙ ap (λ (n : ℕ). Some (get_or xs n h)) (sym place) ∙ ap (λ (x : Session). Some x) (sym is)

pub session_some : (d : Directory) (ks : List MarkedBuffer) (xs : List Session) (next : Option ℕ) (id at : ℕ) (h : Session) → at ≡ position_or_len (session_id id) xs → at < length xs → h ≡ get_or xs at h → find_session id (world_of d ks xs next).sessions ≡ Some (session_of ks h)
session_some d ks xs next id at h place within is =
    session_seen d ks xs next id ∙ ap (option_map (session_of ks)) (session_found xs id at h place within is)

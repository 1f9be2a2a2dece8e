-- What is done where a buffer is killed.
use Rattle.std.proofs.Common.{◌≡◌, ℕ, ◌<◌, List, length, cond, None, Option, Some, refl, sym, ap, ◌∙◌}
use Rattle.std.specs.Prelude.{slice_get, slice_set, Ok}
use Rattle.std.specs.List.{position_or_len}
use Rattle.std.proofs.lemmas.Simd.{map-map}
use Rattle.std.proofs.lemmas.Option.{get_or_from_slice_get}
use Rattle.mgs_model.specs.Access.{Directory}
use Rattle.mgs_model.specs.World.{has_id}
use Rattle.mgs_model.specs.World as model
use Rattle.mgs_model.specs.Outcome.{Kill}
use Rattle.mgs_model.specs.Acts.{effects}
use Rattle.mgs_model.specs.Apply.{apply, state_without_search, change_first, is_searched, session_arranged, session_without_buffer}
use Rattle.mgs_model.specs.declared.session.Kind.TheVariants.{Other}
use Rattle.mgs_model.proofs.Firsts.{position_or_len-map, written_first}
use Rattle.mgs_buffers.specs.MarkedBuffer.{MarkedBuffer}
use Rattle.mgs_session.specs.Sessions.{acted}
use Rattle.mgs_session.specs.declared.Session.{Session}
use Rattle.mgs_act.proofs.Done.{fresh_acted}
use Rattle.mgs_world.specs.Killing.{world_without}
use Rattle.mgs_world.specs.Worlds.{id_after, idle, state_of, session_id, session_of, world_of}
use Rattle.mgs_world.proofs.Owns.{no_search_at_rest, none_at_rest}
use Rattle.mgs_world.proofs.Worlds.{same_world}

-- the session that acts is at rest, and the buffer goes
pub killed_so : (directory : Directory) (ks : List MarkedBuffer) (xs : List Session) (next : Option ℕ) (id at : ℕ) (h : Session) (name : List ℕ) → at ≡ position_or_len (session_id id) xs → at < length xs → slice_get xs at ≡ Some h → state_of h.state ≡ idle (state_of h.state) → world_without name (world_of directory ks (slice_set xs at (acted Other h)) next) ≡ apply (world_of directory ks xs next) id (effects (state_of h.state) (Ok (Kill name)))
killed_so directory ks xs next id at h name place within is fresh =
    let f = session_arranged (effects (state_of h.state) (Ok (Kill name))) in
    let left : Session → model.Session = λ x. session_without_buffer name (session_of ks x) in
    same_world directory _ _ _ _ (id_after next) refl
    (map-map (session_without_buffer name) (session_of ks) (slice_set xs at (acted Other h))
    ∙ written_first left (has_id id) f xs at h (acted Other h) (place ∙ sym (position_or_len-map left (has_id id) xs)) within (sym (get_or_from_slice_get xs at h h is))
    (ap (λ (s : Option model.Search). let y : model.Session = record (left h) { search = cond (is_searched name s) None s; state = cond (is_searched name s) (state_without_search (state_of (record h.state { kind = Other }))) (state_of (record h.state { kind = Other })) } in y) (no_search_at_rest ks h fresh)
    ∙ (λ i. record (left h) { state = fresh_acted h.state fresh i; search = sym (none_at_rest (left h).search (state_of h.state) fresh) i }))
    ∙ ap (change_first (has_id id) f) (sym (map-map (session_without_buffer name) (session_of ks) xs)))

-- What a save leaves.
use Rattle.std.proofs.Common.{◌≡◌, ℕ, ◌<◌, List, length, map, Option, Some, refl, sym, ap, ◌∙◌}
use Rattle.std.specs.Prelude.{slice_get, slice_set, true, Result, is_ok}
use Rattle.mgs_model.specs.Events.{Saved}
use Rattle.mgs_store.specs.Stores.{told_more}
use Rattle.mgs_buffers.specs.Saving.{saves_if}
use Rattle.std.specs.List.{position_or_len}
use Rattle.std.proofs.lemmas.List.{map-id}
use Rattle.std.proofs.lemmas.Option.{get_or_from_slice_get}
use Rattle.mgs_model.specs.Access.{Directory}
use Rattle.mgs_model.specs.World.{has_id}
use Rattle.mgs_model.specs.World as model
use Rattle.mgs_model.specs.Plans.{acted_state}
use Rattle.mgs_model.specs.Apply.{apply, change_first, session_arranged}
use Rattle.mgs_model.specs.declared.echo_text.Message.TheVariants.{Wrote}
use Rattle.mgs_model.specs.declared.session.Kind.TheVariants.{Other}
use Rattle.mgs_model.proofs.Firsts.{position_or_len-map, written_first}
use Rattle.mgs_buffers.specs.MarkedBuffer.{MarkedBuffer, marked_named, marked_unmodified}
use Rattle.mgs_session.specs.Sessions.{acted, told}
use Rattle.mgs_session.specs.declared.State.{State}
use Rattle.mgs_session.specs.declared.Session.{Session}
use Rattle.mgs_plan.specs.Saving.{save_answered}
use Rattle.mgs_world.specs.Worlds.{id_after, idle, state_of, session_id, session_of, world_of}
use Rattle.mgs_world.proofs.Owns.{at_rest, search_kept}
use Rattle.mgs_world.proofs.Worlds.{same_world}
use Rattle.mgs_world.proofs.Unmodified.{buffers_unmodified, sessions_unmodified}

fresh_wrote : (o : State) (name : List ℕ) → state_of o ≡ idle (state_of o) → state_of (record o { echo = Wrote name; kind = Other }) ≡ record (acted_state (state_of o)) { echo = Wrote name }
fresh_wrote o name fresh = at_rest (λ (state : model.State). record state { echo = Wrote name; kind = Other }) (λ state. record (acted_state state) { echo = Wrote name }) (λ state. refl) (state_of o) fresh

pub wrote_so : (directory : Directory) (ks : List MarkedBuffer) (xs : List Session) (next : Option ℕ) (id at : ℕ) (h : Session) (name text : List ℕ) → at ≡ position_or_len (session_id id) xs → at < length xs → slice_get xs at ≡ Some h → state_of h.state ≡ idle (state_of h.state) → world_of directory (change_first (marked_named name) marked_unmodified ks) (slice_set xs at (told (Wrote name) (acted Other h))) next ≡ apply (world_of directory ks xs next) id (save_answered (state_of h.state) name text true)
wrote_so directory ks xs next id at h name text place within is fresh =
    let f = session_arranged (save_answered (state_of h.state) name text true) in
    let ls = change_first (marked_named name) marked_unmodified ks in
    same_world directory _ _ _ _ (id_after next) (buffers_unmodified name ks)
    (written_first (session_of ls) (has_id id) f xs at h (told (Wrote name) (acted Other h)) (place ∙ sym (position_or_len-map (session_of ls) (has_id id) xs)) within (sym (get_or_from_slice_get xs at h h is))
    (λ i. record (session_of ls h) { state = fresh_wrote h.state name fresh i; search = search_kept ls h fresh i })
    ∙ ap (change_first (has_id id) f) (sessions_unmodified name ks xs ∙ sym (map-id (map (session_of ks) xs))))

-- what a store accepted, by what it answered
pub saved_as : {T E : Type 0} (r s : Result T E) (name text : List ℕ) (before after : Option (List Saved)) → after ≡ told_more (saves_if (is_ok r) name text) before → r ≡ s → after ≡ told_more (saves_if (is_ok s) name text) before
saved_as r s name text before after told is = told ∙ ap (λ q. told_more (saves_if (is_ok q) name text) before) is

-- What is done where a buffer gets an owner or an access list.
use Rattle.std.proofs.Common.{◌≡◌, ℕ, ◌<◌, List, length, map, Option, Some, refl, sym, ap, ◌∙◌}
use Rattle.std.specs.Prelude.{slice_get, slice_set, Ok}
use Rattle.std.specs.List.{position_or_len}
use Rattle.std.proofs.lemmas.List.{map-id}
use Rattle.std.proofs.lemmas.Option.{get_or_from_slice_get}
use Rattle.mgs_model.specs.Access.{Directory}
use Rattle.mgs_model.specs.World.{Buffer, World, has_id, is_named}
use Rattle.mgs_model.specs.Outcome.{No_effect, SetList, SetOwners}
use Rattle.mgs_model.specs.Acts.{effects}
use Rattle.mgs_model.specs.Apply.{apply, change_first, owners_after, session_arranged}
use Rattle.mgs_model.specs.declared.entry.Entry.{Entry}
use Rattle.mgs_model.specs.declared.owners.NewOwner.{NewOwner}
use Rattle.mgs_model.specs.declared.session.Kind.TheVariants.{Other}
use Rattle.mgs_model.proofs.Firsts.{position_or_len-map, written_first}
use Rattle.mgs_buffers.specs.MarkedBuffer.{MarkedBuffer, marked_named, marked_list_set, marked_owners_set}
use Rattle.mgs_session.specs.Sessions.{acted}
use Rattle.mgs_session.specs.declared.Session.{Session}
use Rattle.mgs_act.proofs.Done.{fresh_acted}
use Rattle.mgs_world.specs.Worlds.{id_after, idle, state_of, session_id, session_of, world_of}
use Rattle.mgs_world.proofs.Attributes.{buffers_by, marked_by, sessions_by}
use Rattle.mgs_world.proofs.Owns.{search_kept}
use Rattle.mgs_world.proofs.Worlds.{same_world}

module _ (directory : Directory) (ks : List MarkedBuffer) (xs : List Session) (next : Option ℕ) (id at : ℕ) (h : Session) (place : at ≡ position_or_len (session_id id) xs) (within : at < length xs) (found : slice_get xs at ≡ Some h) (fresh : state_of h.state ≡ idle (state_of h.state)) where
  -- the attributes of a buffer are others
  attributes_so : (f : Buffer → Buffer) → ((b : Buffer) → (f b).name ≡ b.name) → ((b : Buffer) → (f b).text ≡ b.text) → (name : List ℕ)
      → (let w = world_of directory ks xs next in
      let v : World = record w { buffers = change_first (is_named name) f w.buffers; sessions = change_first (has_id id) (session_arranged (effects (state_of h.state) (Ok No_effect))) (map (λ s. s) w.sessions) } in
      world_of directory (change_first (marked_named name) (marked_by f) ks) (slice_set xs at (acted Other h)) next ≡ v)
  attributes_so f named same name =
      let g = session_arranged (effects (state_of h.state) (Ok No_effect)) in
      let ls = change_first (marked_named name) (marked_by f) ks in
      same_world directory _ _ _ _ (id_after next) (buffers_by f named name ks)
      (written_first (session_of ls) (has_id id) g xs at h (acted Other h) (place ∙ sym (position_or_len-map (session_of ls) (has_id id) xs)) within (sym (get_or_from_slice_get xs at h h found))
      (λ i. record (session_of ls h) { state = fresh_acted h.state fresh i; search = search_kept ls h fresh i })
      ∙ ap (change_first (has_id id) g) (sessions_by f named same name ks xs ∙ sym (map-id (map (session_of ks) xs))))

  pub owners_set_so : (name : List ℕ) (new : NewOwner) → world_of directory (change_first (marked_named name) (marked_owners_set new) ks) (slice_set xs at (acted Other h)) next ≡ apply (world_of directory ks xs next) id (effects (state_of h.state) (Ok (SetOwners name new)))
  owners_set_so name new = attributes_so (λ b. record b { owners = owners_after new b.owners }) (λ b. refl) (λ b. refl) name

  pub list_set_so : (name : List ℕ) (entries : List Entry) → world_of directory (change_first (marked_named name) (marked_list_set entries) ks) (slice_set xs at (acted Other h)) next ≡ apply (world_of directory ks xs next) id (effects (state_of h.state) (Ok (SetList name entries)))
  list_set_so name entries = attributes_so (λ b. record b { entries = entries }) (λ b. refl) (λ b. refl) name

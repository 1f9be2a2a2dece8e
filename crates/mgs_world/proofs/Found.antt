-- What is kept under a name.
use Rattle.std.proofs.Common.{◌≡◌, ℕ, false, List, map, Option, Some, None, refl, sym, ap, ◌∙◌}
use Rattle.std.specs.Prelude.{find}
use Rattle.std.specs.Option.{option_map}
use Rattle.mgs_model.specs.Access.{Directory}
use Rattle.mgs_model.specs.Names.{same_name}
use Rattle.mgs_model.specs.World.{is_named, find_buffer}
use Rattle.mgs_model.specs.View.{BufferSeen, buffer_seen, find_seen}
use Rattle.mgs_model.proofs.Firsts.{find-map, found_passes}
use Rattle.mgs_buffers.specs.MarkedBuffer.{MarkedBuffer, HasBuffer, has_buffer, marked_at, marked_named, marked_or_none}
use Rattle.mgs_buffers.proofs.MarkedLemmas.{none_of}
use Rattle.mgs_world.specs.Worlds.{buffers_of}
use Rattle.mgs_world.proofs.Soundness.{some_from}
use Rattle.mgs_world.proofs.Marks.{same_is}

found_kept : (name : List ℕ) (ks : List MarkedBuffer) → HasBuffer name ks → find (marked_named name) ks ≡ Some (marked_at name ks)
found_kept name ks kept =
    let k = some_from (find (marked_named name) ks) kept in
    k.1 ∙ ap (λ (o : Option MarkedBuffer). Some (marked_or_none o)) (sym k.1)

pub name_kept : (name : List ℕ) (ks : List MarkedBuffer) → HasBuffer name ks → (marked_at name ks).buffer.name ≡ name
name_kept name ks kept = sym (same_is name (marked_at name ks).buffer.name (found_passes (marked_named name) ks (marked_at name ks) (found_kept name ks kept)))

pub found_buffer : (name : List ℕ) (ks : List MarkedBuffer) → HasBuffer name ks → find_buffer name (buffers_of ks) ≡ Some (marked_at name ks).buffer
found_buffer name ks kept =
    find-map (λ (k : MarkedBuffer). k.buffer) (marked_named name) (is_named name) (λ k. refl) ks
    ∙ ap (option_map (λ (k : MarkedBuffer). k.buffer)) (found_kept name ks kept)

-- and as a user sees it
pub found_seen : (directory : Directory) (user name : List ℕ) (ks : List MarkedBuffer) → HasBuffer name ks → find_seen name (map (buffer_seen directory user) (buffers_of ks)) ≡ Some (buffer_seen directory user (marked_at name ks).buffer)
found_seen directory user name ks kept =
    find-map (buffer_seen directory user) (is_named name) (λ (b : BufferSeen). same_name name b.name) (λ b. refl) (buffers_of ks)
    ∙ ap (option_map (buffer_seen directory user)) (found_buffer name ks kept)

-- no buffer has the name
pub unseen : (directory : Directory) (user name : List ℕ) (ks : List MarkedBuffer) → has_buffer name ks ≡ false → find_seen name (map (buffer_seen directory user) (buffers_of ks)) ≡ None
unseen directory user name ks free =
    find-map (buffer_seen directory user) (is_named name) (λ (b : BufferSeen). same_name name b.name) (λ b. refl) (buffers_of ks)
    ∙ ap (option_map (buffer_seen directory user)) (find-map (λ (k : MarkedBuffer). k.buffer) (marked_named name) (is_named name) (λ k. refl) ks)
    ∙ ap (λ o. option_map (buffer_seen directory user) (option_map (λ (k : MarkedBuffer). k.buffer) o)) (none_of (find (marked_named name) ks) free)

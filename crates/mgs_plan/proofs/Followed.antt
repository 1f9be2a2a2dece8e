-- The positions of searches go by an edit: one walk over all sessions, behind what is done to the one that acts.
use Rattle.std.proofs.Common.{◌≡◌, ℕ, ◌<◌, ◌≤◌, Bool, true, false, cond, List, length, map, Option, Some, None, refl, sym, ap, ◌∙◌, arith}
use Rattle.std.specs.Prelude.{slice_get, slice_set}
use Rattle.std.specs.List.{position_or_len}
use Rattle.std.specs.Option.{option_map}
use Rattle.std.proofs.lemmas.List.{length-map, map-id}
use Rattle.mgs_model.specs.Text.{is_edit}
use Rattle.mgs_model.specs.Outcome.{Edit, No_effect}
use Rattle.mgs_model.specs.Plans as plans
use Rattle.mgs_model.specs.Acts.{edit_of}
use Rattle.mgs_model.specs.Apply.{change_first, session_after}
use Rattle.mgs_model.proofs.Firsts.{position_or_len-map}
use Rattle.mgs_buffers.specs.MarkedBuffer.{HasBuffer, MarkedBuffer, marked_at, marked_edited, marked_named}
use Rattle.mgs_session.specs.Seeking.{search_edited, session_edited}
use Rattle.mgs_session.specs.declared.Session.{Session}
use Rattle.mgs_session.specs.declared.search.Edited.{Edited}
use Rattle.mgs_session.specs.declared.search.Search.{Search}
use Rattle.mgs_plan.specs.Actions.{edited_by}
use Rattle.mgs_plan.specs.Following.{edit_told, followed}
use Rattle.mgs_world.specs.Sound.{IsSound, uses}
use Rattle.mgs_world.specs.Worlds.{session_id, session_of}
use Rattle.mgs_world.proofs.Edits.{followed_get, followed_set, sessions_edited, sound_followed, uses_followed}

-- A SESSION THAT SEARCHES NOTHING stays as it is

unsearched_stays : (n : List ℕ) (e : Edited) (h : Session) → h.state.search ≡ None → session_edited n e h ≡ h
unsearched_stays n e h none =
    ap (λ (o : Option Search). let x : Session = record h { state = record h.state { search = option_map (search_edited n e) o } } in x) none
    ∙ sym (ap (λ (o : Option Search). let x : Session = record h { state = record h.state { search = o } } in x) none)

pub set_followed : (n : List ℕ) (o : Option Edited) (xs : List Session) (at : ℕ) (y : Session) → y.state.search ≡ None → followed n o (slice_set xs at y) ≡ slice_set (followed n o xs) at y
set_followed n None xs at y none = refl
set_followed n (Some e) xs at y none = followed_set n e xs at y ∙ ap (slice_set (map (session_edited n e) xs) at) (unsearched_stays n e y none)

pub get_followed : (n : List ℕ) (o : Option Edited) (xs : List Session) (at : ℕ) (h : Session) → h.state.search ≡ None → slice_get xs at ≡ Some h → slice_get (followed n o xs) at ≡ Some h
get_followed n None xs at h none is = is
get_followed n (Some e) xs at h none is = followed_get n e xs at h is ∙ ap (λ (x : Session). Some x) (unsearched_stays n e h none)

-- ALL SESSIONS

pub place_followed : (n : List ℕ) (o : Option Edited) (xs : List Session) (id at : ℕ) → at ≡ position_or_len (session_id id) xs → at ≡ position_or_len (session_id id) (followed n o xs)
place_followed n None xs id at place = place
place_followed n (Some e) xs id at place = place ∙ sym (position_or_len-map (session_edited n e) (session_id id) xs)

pub within_followed : (n : List ℕ) (o : Option Edited) (xs : List Session) (at : ℕ) → at < length xs → at < length (followed n o xs)
within_followed n None xs at within = within
within_followed n (Some e) xs at within = omega (arith, within, length-map xs (session_edited n e))

pub once_followed : (n : List ℕ) (o : Option Edited) (xs : List Session) → ((m : List ℕ) (i : ℕ) → uses m i xs ≤ 1) → (m : List ℕ) (i : ℕ) → uses m i (followed n o xs) ≤ 1
once_followed n None xs once m i = once m i
once_followed n (Some e) xs once m i = omega (arith, uses_followed n e m i xs, once m i)

pub sound_kept : (n : List ℕ) (o : Option Edited) (ks : List MarkedBuffer) (xs : List Session) → IsSound ks xs → IsSound ks (followed n o xs)
sound_kept n None ks xs sound = sound
sound_kept n (Some e) ks xs sound = sound_followed n e ks xs sound

-- every position of every session goes by the edit
pub sessions_went : (name : List ℕ) (c : plans.Change) (ks : List MarkedBuffer) (xs : List Session) → c.a ≤ c.b → c.b ≤ length (marked_at name ks).buffer.text → HasBuffer name ks
    → map (session_of (edited_by name c ks)) (followed name (edit_told (length (marked_at name ks).buffer.text) c) xs) ≡ map (session_after (edit_of name c.a c.b c.put)) (map (session_of ks) xs)
sessions_went name c ks xs order within kept = go (is_edit c.a c.b c.put)
  where
    go : (f : Bool) → map (session_of (cond f (change_first (marked_named name) (marked_edited c.a c.b c.put) ks) ks)) (followed name (cond f (Some (record { size = length (marked_at name ks).buffer.text; from = c.a; to = c.b; added = length c.put })) None) xs) ≡ map (session_after (cond f (Edit name c.a c.b c.put) No_effect)) (map (session_of ks) xs)
    go true = sessions_edited name c.a c.b c.put ks xs order within kept
    go false = sym (map-id (map (session_of ks) xs))

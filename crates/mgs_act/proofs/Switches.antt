-- What is done where a buffer, or its access list, is shown.
use Rattle.std.proofs.Common.{◌≡◌, ℕ, ◌<◌, true, List, [], ◌∷◌, ◌++◌, length, map, Option, Some, sym, ap, subst, ◌∙◌, arith}
use Rattle.std.specs.Prelude.{slice_get, IfOk, IfSome, Result, Ok, Err}
use Rattle.std.specs.List.{position_or_len}
use Rattle.std.proofs.lemmas.List.{length-map, map-id}
use Rattle.std.proofs.lemmas.Option.{get_or_from_slice_get}
use Rattle.mgs_model.specs.Access.{Directory}
use Rattle.mgs_model.specs.World.{List_of, World, find_session, has_id}
use Rattle.mgs_model.specs.World as model
use Rattle.mgs_model.specs.View.{reads, view}
use Rattle.mgs_model.specs.Outcome.{Create, Effect, No_effect}
use Rattle.mgs_model.specs.Outcome as outcomes
use Rattle.mgs_laws.specs.Refusals.{takes_memory}
use Rattle.mgs_model.specs.Acts.{shows_named}
use Rattle.mgs_model.specs.Apply.{apply, change_first, new_buffer, session_arranged}
use Rattle.mgs_model.proofs.Firsts.{change_first_found}
use Rattle.mgs_buffers.specs.MarkedBuffer.{MarkedBuffer}
use Rattle.mgs_session.specs.declared.Session.{Session}
use Rattle.mgs_arrange.specs.Arranged.{run_ended}
use Rattle.mgs_arrange.specs.Listing.{listed_in}
use Rattle.mgs_arrange.specs.Showing.{shown_in, window_shows}
use Rattle.mgs_arrange.proofs.Arranged.{entries_done, show_done, show_takes_memory}
use Rattle.mgs_plan.specs.Deciding.{view_at}
use Rattle.mgs_plan.specs.Listing.{lists_named}
use Rattle.mgs_world.specs.Worlds.{buffers_of, idle, state_at, state_of, session_id, session_of, window_of, world_of}
use Rattle.mgs_world.proofs.Owns.{no_search_at_rest}
use Rattle.mgs_world.proofs.Sessions.{session_some}
use Rattle.mgs_act.proofs.Created.{created_in}
use Rattle.mgs_plan.proofs.Deeds.{fresh_state}

pub when_ok : {A E : Type 0} {P Q : A → Type 0} (r : Result A E) → ((x : A) → P x → Q x) → IfOk r P → IfOk r Q
when_ok (Ok x) f p = f x p
when_ok (Err e) f p = tt

-- the sessions, where the one of an id comes to this
sessions_left : (w : World) (id : ℕ) (o : outcomes.Outcome) (x y : model.Session) → find_session id w.sessions ≡ Some x → session_arranged o x ≡ y → change_first (has_id id) (λ old. y) w.sessions ≡ change_first (has_id id) (session_arranged o) (map (λ s. s) w.sessions)
sessions_left w id o x y found does =
    sym (ap (change_first (has_id id) (session_arranged o)) (map-id w.sessions)
    ∙ change_first_found (has_id id) (session_arranged o) (λ old. y) x w.sessions found does)

-- the selected window is one
abbrev pub IsSelected : Option Session → Type 0
IsSelected o = IfSome o (λ x. x.windows.selected < length x.windows.windows)

module _ (directory : Directory) (ks : List MarkedBuffer) (xs : List Session) (next : Option ℕ) (id at : ℕ) (h : Session) (found : slice_get xs at ≡ Some h) where
  selected_so : IsSelected (slice_get xs at) → (session_of ks h).selected < length (session_of ks h).windows
  selected_so selected = omega (arith, subst IsSelected found selected, length-map h.windows.windows (window_of ks))

  pub may_show : (name : List ℕ) → IsSelected (slice_get xs at) → takes_memory (shows_named (view_at directory ks xs next h) name No_effect) ≡ true
  may_show name selected = show_takes_memory (reads directory (buffers_of ks) h.user) name No_effect (session_of ks h) (selected_so selected)

  module _ (place : at ≡ position_or_len (session_id id) xs) (within : at < length xs) (fresh : state_at at xs ≡ idle (state_at at xs)) (new : World) (name : List ℕ) (selected : IsSelected (slice_get xs at)) where
    abbrev w : World
    w = world_of directory ks xs next

    abbrev x : model.Session
    x = session_of ks h

    rests : state_of h.state ≡ idle (state_of h.state)
    rests = fresh_state xs at h found fresh

    known : find_session id w.sessions ≡ Some x
    known = session_some directory ks xs next id at h place within (sym (get_or_from_slice_get xs at h h found))

    -- a buffer is shown, or made and shown
    shown : (e : Effect) → change_first (has_id id) (λ old. run_ended (window_shows name x)) w.sessions ≡ change_first (has_id id) (session_arranged (shows_named (view w x) name e)) (map (λ s. s) w.sessions)
    shown e = sessions_left w id (shows_named (view w x) name e) x _ known (show_done (reads w.directory w.buffers x.user) name e x rests (no_search_at_rest ks h rests) (selected_so selected))

    pub shown_done : ((y : model.Session) → at ≡ position_or_len (session_id id) xs → find_session id w.sessions ≡ Some y → new ≡ shown_in id name y w) → new ≡ apply w id (shows_named (view w x) name No_effect)
    shown_done shows = shows x place known ∙ ap (λ (ss : List model.Session). let v : World = record w { sessions = ss } in v) (shown No_effect)

    pub created_done : ((y : model.Session) → at ≡ position_or_len (session_id id) xs → find_session id w.sessions ≡ Some y → new ≡ created_in id name y w) → new ≡ apply w id (shows_named (view w x) name (Create name h.user))
    created_done makes =
        makes x place known ∙ ap (λ (ss : List model.Session). let v : World = record w { buffers = w.buffers ++ new_buffer name h.user ∷ []; sessions = ss } in v) (shown (Create name h.user))

    -- an access list is shown
    pub listed_done : ((y : model.Session) → at ≡ position_or_len (session_id id) xs → find_session id w.sessions ≡ Some y → new ≡ listed_in id (List_of name) y w) → new ≡ apply w id (lists_named (view w x) name)
    listed_done lists =
        lists x place known
        ∙ ap (λ (ss : List model.Session). let v : World = record w { sessions = ss } in v) (sessions_left w id (lists_named (view w x) name) x _ known (entries_done (reads w.directory w.buffers x.user) name x rests (no_search_at_rest ks h rests) (selected_so selected)))

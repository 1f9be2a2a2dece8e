-- What an action of a session does to the world.
use Rattle.std.proofs.Common.{◌≡◌, ℕ, zero, suc, ◌+◌, ◌<◌, ◌≤◌, Bool, true, false, cond, List, [], ◌∷◌, length, map, Option, Some, None, refl, sym, ap, subst, ◌∙◌, arith}
use Rattle.std.specs.Prelude.{find, slice_get, slice_set, is_some, Result, Ok, Err, OnOk, OnErr}
use Rattle.std.specs.List.{position_or_len}
use Rattle.std.specs.Option.{option_and_then, option_map}
use Rattle.std.proofs.lemmas.List.{map-id, set-get_or}
use Rattle.std.proofs.lemmas.Option.{get_or_from_slice_get}
use Rattle.mgs_model.specs.Access.{Directory}
use Rattle.mgs_model.specs.World.{Item, has_id}
use Rattle.mgs_model.specs.World as model
use Rattle.mgs_model.specs.Outcome.{Adjust, Effect, No_effect, Edit, Unmodified, Outcome, PointPlan, Keep_position, At, At_origin, Keep_mark, Keep_search}
use Rattle.mgs_model.specs.Plans as plans
use Rattle.mgs_model.specs.Plans.{acted_state}
use Rattle.mgs_model.specs.Acts.{edit_of, effects, fails, finished, finished_state, is_too_large}
use Rattle.mgs_model.specs.Apply.{after_quit, apply, buffers_after, change_at, change_first, kill_after, is_search_mode, session_arranged, window_adjusted}
use Rattle.mgs_model.specs.Text.{is_edit}
use Rattle.mgs_model.specs.declared.echo_text.Message.{Message}
use Rattle.mgs_model.specs.declared.echo_text.Message.TheVariants.{Says}
use Rattle.mgs_model.specs.declared.echo_text.Notice.TheVariants.{KillTooLarge, Silent}
use Rattle.mgs_model.specs.declared.session.Kind.TheVariants.{Other}
use Rattle.mgs_model.proofs.Firsts.{change_first_found, find-map, position_or_len-map, written_first}
use Rattle.mgs_marks.specs.Marks.{mark_in}
use Rattle.mgs_buffers.specs.MarkedBuffer.{IsMark, MarkedBuffer, marked_at, marked_edited, marked_named, marked_unmodified}
use Rattle.mgs_windows.specs.declared.WindowMarks.{WindowMarks}
use Rattle.mgs_session.specs.Sessions.{acted, failed, told, window_marks_of}
use Rattle.mgs_session.specs.declared.Session.{Session}
use Rattle.mgs_edit.specs.Reading.{change_read, finish_read, kill_read, mark_read, put_read, undone_read}
use Rattle.mgs_edit.specs.declared.plan.Finish.{Finish}
use Rattle.mgs_plan.specs.declared.action.Action.{Action}
use Rattle.mgs_plan.specs.declared.action.Action.TheVariants.{Fails, Edits, Undoes, Moves, Clears}
use Rattle.mgs_plan.specs.Following.{edit_through, edit_told, followed}
use Rattle.mgs_plan.specs.Actions.{AreMarks, CanBeDone, edited_by, kill_at, kill_or_none, mark_gone, mark_told, marked_after, marks_gone, outcome_through, removed_by, session_acted, session_finished}
use Rattle.mgs_world.specs.Sound.{IsSound, session_uses, uses}
use Rattle.mgs_world.specs.Worlds.{buffers_of, id_after, idle, state_at, state_of, state_or_first, session_id, session_of, world_of}
use Rattle.mgs_world.proofs.Sessions.{session_found}
use Rattle.mgs_world.proofs.Owns.{at_rest, no_search_at_rest, search_at_rest, search_kept}
use Rattle.mgs_world.proofs.Soundness.{acting_mark, mark_is_kept, one_if_most, point_used, sound_edited, sound_placed, sound_set}
use Rattle.mgs_world.proofs.Worlds.{buffers_edited, buffers_placed, mark_used_once, point_places, point_to, same_world, selected_at, sessions_placed, top_places, top_to, top_used_once}
use Rattle.mgs_world.proofs.Unmodified.{buffers_unmodified, sessions_unmodified, sound_unmodified}
use Rattle.mgs_plan.proofs.Followed.{get_followed, once_followed, place_followed, sessions_went, set_followed, within_followed}
use Rattle.mgs_plan.proofs.Leaving.{edit_or_none, mark_edited_by, mark_still}

-- LISTS

pub at_same : {A : Type 0} (f : A → A) → ((x : A) → f x ≡ x) → (n : ℕ) (xs : List A) → change_at n f xs ≡ xs
at_same f same n [] = refl
at_same f same zero (x ∷ xs) = ap (λ y. y ∷ xs) (same x)
at_same f same (suc n) (x ∷ xs) = ap (λ ys. x ∷ ys) (at_same f same n xs)

pub set_twice : {A : Type 0} (xs : List A) (at : ℕ) (x y : A) → slice_set (slice_set xs at x) at y ≡ slice_set xs at y
set_twice (z ∷ zs) (suc at) x y = ap (λ ys. z ∷ ys) (set_twice zs at x y)
set_twice _ _ x y = refl

pub at_twice : {A : Type 0} (f g : A → A) (n : ℕ) (xs : List A) → change_at n g (change_at n f xs) ≡ change_at n (λ x. g (f x)) xs
at_twice f g n [] = refl
at_twice f g zero (x ∷ xs) = refl
at_twice f g (suc n) (x ∷ xs) = ap (λ ys. x ∷ ys) (at_twice f g n xs)

first_same : {A : Type 0} (p : A → Bool) (f : A → A) → ((x : A) → f x ≡ x) → (xs : List A) → change_first p f xs ≡ xs
first_same p f same [] = refl
first_same {A = A} p f same (x ∷ xs) = go (p x) (first_same p f same xs)
  where
    go : (b : Bool) → change_first p f xs ≡ xs → cond b (f x ∷ xs) (x ∷ change_first p f xs) ≡ x ∷ xs
    go true rest = ap (λ y. y ∷ xs) (same x)
    go false rest = ap (λ ys. x ∷ ys) rest

pub first_twice : {A : Type 0} (p : A → Bool) (f g : A → A) → ((x : A) → p (f x) ≡ p x) → (xs : List A) → change_first p g (change_first p f xs) ≡ change_first p (λ x. g (f x)) xs
first_twice p f g keeps [] = refl
first_twice {A = A} p f g keeps (x ∷ xs) = go (p x) refl (first_twice p f g keeps xs)
  where
    go : (b : Bool) → p x ≡ b → change_first p g (change_first p f xs) ≡ change_first p (λ x. g (f x)) xs → change_first p g (cond b (f x ∷ xs) (x ∷ change_first p f xs)) ≡ cond b (g (f x) ∷ xs) (x ∷ change_first p (λ x. g (f x)) xs)
    go true e rest = ap (λ b. cond b (g (f x) ∷ xs) (f x ∷ change_first p g xs)) (keeps x ∙ e)
    go false e rest = ap (λ b. cond b (g x ∷ change_first p f xs) (x ∷ change_first p g (change_first p f xs))) e ∙ ap (λ ys. x ∷ ys) rest

-- THE ACTING SESSION

-- it is the first of its id
found_at : (xs : List Session) (id at : ℕ) (h : Session) → at ≡ position_or_len (session_id id) xs → at < length xs → slice_get xs at ≡ Some h → find (session_id id) xs ≡ Some h
found_at xs id at h place within is = session_found xs id at h place within (sym (get_or_from_slice_get xs at h h is))

pub fresh_state : (xs : List Session) (at : ℕ) (h : Session) → slice_get xs at ≡ Some h → state_at at xs ≡ idle (state_at at xs) → state_of h.state ≡ idle (state_of h.state)
fresh_state xs at h is fresh = sym (ap state_or_first is) ∙ fresh ∙ ap (λ o. idle (state_or_first o)) is

-- WINDOWS

abbrev pub point_by : PointPlan → model.Window → model.Window
point_by to x = window_adjusted None to Keep_mark Keep_position None x

abbrev top_by : PointPlan → model.Window → model.Window
top_by to x = window_adjusted None Keep_position Keep_mark to None x

unmoved : (f : model.Window → model.Window) → ((w : model.Window) → f w ≡ w) → (id : ℕ) (xs : List model.Session) → xs ≡ change_first (has_id id) (selected_at f) xs
unmoved f same id xs = sym (first_same (has_id id) (selected_at f) (λ x. ap (λ ws. record x { windows = ws }) (at_same f same x.selected x.windows)) xs)

pub once_used : (ks : List MarkedBuffer) (xs : List Session) (n : List ℕ) (i : ℕ) → IsSound ks xs → uses n i xs ≤ 1
once_used ks xs n i sound = omega (arith, sound.once n i, one_if_most (is_some (mark_in (marked_at n ks).marks i)))

pub points_gone : (to : PointPlan) (ks : List MarkedBuffer) (xs : List Session) (id : ℕ) (h : Session) (x : WindowMarks) → find (session_id id) xs ≡ Some h → window_marks_of h ≡ Some x → IsMark x.name x.point ks → uses x.name x.point xs ≤ 1 → map (session_of (mark_gone x.name x.point to ks)) xs ≡ change_first (has_id id) (selected_at (point_by to)) (map (session_of ks) xs)
points_gone Keep_position ks xs id h x found sel mark once = unmoved (point_by Keep_position) (λ w. refl) id (map (session_of ks) xs)
points_gone (At p) ks xs id h x found sel mark once = sessions_placed x.point p (point_to p) ks xs id h x found sel (point_used x) (point_places p ks x mark) once
points_gone At_origin ks xs id h x found sel mark once = unmoved (point_by At_origin) (λ w. refl) id (map (session_of ks) xs)

tops_gone : (to : PointPlan) (ks : List MarkedBuffer) (xs : List Session) (id : ℕ) (h : Session) (x : WindowMarks) → find (session_id id) xs ≡ Some h → window_marks_of h ≡ Some x → IsMark x.name x.top ks → uses x.name x.top xs ≤ 1 → map (session_of (mark_gone x.name x.top to ks)) xs ≡ change_first (has_id id) (selected_at (top_by to)) (map (session_of ks) xs)
tops_gone Keep_position ks xs id h x found sel mark once = unmoved (top_by Keep_position) (λ w. refl) id (map (session_of ks) xs)
tops_gone (At p) ks xs id h x found sel mark once = sessions_placed x.top p (top_to p) ks xs id h x found sel (top_used_once x) (top_places p ks x mark) once
tops_gone At_origin ks xs id h x found sel mark once = unmoved (top_by At_origin) (λ w. refl) id (map (session_of ks) xs)

-- SOUNDNESS

pub gone_sound : (name : List ℕ) (id : ℕ) (to : PointPlan) (ks : List MarkedBuffer) (xs : List Session) → IsMark name id ks → IsSound ks xs → IsSound (mark_gone name id to ks) xs
gone_sound name id (At p) ks xs mark sound = sound_placed name id p ks xs mark sound
gone_sound name id _ ks xs mark sound = sound

pub edited_sound : (name : List ℕ) (c : plans.Change) (ks : List MarkedBuffer) (xs : List Session) → IsSound ks xs → IsSound (edited_by name c ks) xs
edited_sound name c ks xs sound = edit_or_none (λ ls. IsSound ls xs) name c ks (sound_edited name c.a c.b c.put ks xs sound) sound

-- WHAT IS DONE

pub gone_buffers : (name : List ℕ) (id : ℕ) (to : PointPlan) (ks : List MarkedBuffer) → buffers_of (mark_gone name id to ks) ≡ buffers_of ks
gone_buffers name id (At p) ks = buffers_placed name id p ks
gone_buffers name id _ ks = refl

pub edited_buffers : (name : List ℕ) (c : plans.Change) (ks : List MarkedBuffer) → buffers_of (edited_by name c ks) ≡ buffers_after (edit_of name c.a c.b c.put) (buffers_of ks)
edited_buffers name c ks = go (is_edit c.a c.b c.put)
  where
    go : (f : Bool) → buffers_of (cond f (change_first (marked_named name) (marked_edited c.a c.b c.put) ks) ks) ≡ buffers_after (cond f (Edit name c.a c.b c.put) No_effect) (buffers_of ks)
    go true = buffers_edited name c.a c.b c.put ks
    go false = refl

-- what the acting session holds in the end
abbrev ends : plans.Finish → model.State → model.Session → model.Session
ends f state x = record x { kill = kill_after f.kill x.kill; state = finished_state f state }

-- the outcome of a finish that is not too large
abbrev pub ended : plans.Finish → Effect → model.State → Outcome
ended f e state = record { state = finished_state f state; kill = f.kill; arrange = Adjust f.point f.mark f.top None Keep_search; effect = e }

-- a finish but for the mark
abbrev pub unmarked : plans.Finish → plans.Finish
unmarked f = record f { mark = Keep_mark }

-- one session, with its marks placed
one_ends : (behind : ℕ) (text kill : List ℕ) (f : Finish) (e : Effect) (ks : List MarkedBuffer) (h : Session) → state_of h.state ≡ idle (state_of h.state)
    → (let left = finish_read text kill behind f in ends left (state_of h.state) (selected_at (top_by left.top) (selected_at (point_by left.point) (session_of ks h))) ≡ session_arranged (ended (unmarked left) e (state_of h.state)) (session_of ks h))
one_ends behind text kill f e ks h fresh =
    let left = finish_read text kill behind f in
    let s = session_of ks h in
    (λ i. record (ends left (state_of h.state) s) { windows = at_twice (point_by left.point) (top_by left.top) s.selected s.windows i; search = search_kept ks h fresh i })
    ∙ ap (λ (o : Option model.Search). let y : model.Session = record (ends left (state_of h.state) s) { windows = change_at s.selected (window_adjusted o left.point Keep_mark left.top None) s.windows; search = cond (is_search_mode (state_of h.state).mode) s.search None } in y) (sym (no_search_at_rest ks h fresh))

pub no_quit : (name : List ℕ) (c : plans.Change) (id : ℕ) (xs : List model.Session) → after_quit (edit_of name c.a c.b c.put) id xs ≡ xs
no_quit name c id xs = go (is_edit c.a c.b c.put)
  where
    go : (f : Bool) → after_quit (cond f (Edit name c.a c.b c.put) No_effect) id xs ≡ xs
    go true = refl
    go false = refl

-- what is left, behind the edit
pub finished_there : (ks : List MarkedBuffer) (xs : List Session) (id at : ℕ) (h : Session) (x : WindowMarks) (c : plans.Change) (behind : ℕ) (text : List ℕ) (f : Finish) → ((n : List ℕ) (i : ℕ) → uses n i xs ≤ 1) → at ≡ position_or_len (session_id id) xs → at < length xs → slice_get xs at ≡ Some h → window_marks_of h ≡ Some x → AreMarks ks x → state_of h.state ≡ idle (state_of h.state)
    → (let left = finish_read text h.kill behind f in map (session_of (marks_gone x left (edited_by x.name c ks))) (slice_set xs at (session_finished left h)) ≡ change_first (has_id id) (session_arranged (ended (unmarked left) (edit_of x.name c.a c.b c.put) (state_of h.state))) (map (session_of (edited_by x.name c ks)) xs))
finished_there ks xs id at h x c behind text f once place within is sel marks fresh =
    let left = finish_read text h.kill behind f in
    let state = state_of h.state in
    let ks1 = edited_by x.name c ks in
    let ks2 = mark_gone x.name x.point left.point ks1 in
    let ks3 = mark_gone x.name x.top left.top ks2 in
    let found = found_at xs id at h place within is in
    let point = mark_edited_by x.name c ks x.point marks.point in
    let top = mark_still x.name x.point x.top left.point ks1 point (mark_edited_by x.name c ks x.top marks.top) in
    let points : model.Session → model.Session = selected_at (point_by left.point) in
    let tops : model.Session → model.Session = selected_at (top_by left.top) in
    let zs = map (session_of ks1) xs in
    written_first (session_of ks3) (has_id id) (ends left state) xs at h (session_finished left h) (place ∙ sym (position_or_len-map (session_of ks3) (has_id id) xs)) within (sym (get_or_from_slice_get xs at h h is))
    (λ i. record (session_of ks3 (session_finished left h)) { state = at_rest (λ (state : model.State). record state { echo = f.told; kind = f.kind }) (finished_state left) (λ state. refl) state fresh i })
    ∙ ap (change_first (has_id id) (ends left state)) (tops_gone left.top ks2 xs id h x found sel top (once x.name x.top))
    ∙ ap (λ ys. change_first (has_id id) (ends left state) (change_first (has_id id) tops ys)) (points_gone left.point ks1 xs id h x found sel point (once x.name x.point))
    ∙ ap (change_first (has_id id) (ends left state)) (first_twice (has_id id) points tops (λ z. refl) zs)
    ∙ first_twice (has_id id) (λ z. tops (points z)) (ends left state) (λ z. refl) zs
    ∙ change_first_found (has_id id) (λ z. ends left state (tops (points z))) (session_arranged (ended (unmarked left) (edit_of x.name c.a c.b c.put) state)) (session_of ks1 h) zs
    (find-map (session_of ks1) (session_id id) (has_id id) (λ z. refl) xs ∙ ap (option_map (session_of ks1)) found)
    (one_ends behind text h.kill f (edit_of x.name c.a c.b c.put) ks1 h fresh)

-- and the searches of all sessions went by it
finished_so : (directory : Directory) (ks : List MarkedBuffer) (xs : List Session) (next : Option ℕ) (id at : ℕ) (h : Session) (x : WindowMarks) (c : plans.Change) (behind : ℕ) (text : List ℕ) (f : Finish) → c.a ≤ c.b → c.b ≤ length (marked_at x.name ks).buffer.text → IsSound ks xs → at ≡ position_or_len (session_id id) xs → at < length xs → slice_get xs at ≡ Some h → window_marks_of h ≡ Some x → AreMarks ks x → state_of h.state ≡ idle (state_of h.state) → f.mark ≡ None → is_too_large (kill_read text h.kill f.kill) ≡ false
    → (let left = finish_read text h.kill behind f in world_of directory (marks_gone x left (edited_by x.name c ks)) (followed x.name (edit_told (length (marked_at x.name ks).buffer.text) c) (slice_set xs at (session_finished left h))) next ≡ apply (world_of directory ks xs next) id (finished (state_of h.state) left (edit_of x.name c.a c.b c.put)))
finished_so directory ks xs next id at h x c behind text f order room sound place within is sel marks fresh none small =
    let left = finish_read text h.kill behind f in
    let state = state_of h.state in
    let ks1 = edited_by x.name c ks in
    let ks2 = mark_gone x.name x.point left.point ks1 in
    let o = edit_told (length (marked_at x.name ks).buffer.text) c in
    let quiet = search_at_rest h.state fresh in
    same_world directory _ _ _ _ (id_after next)
    (gone_buffers x.name x.top left.top ks2 ∙ gone_buffers x.name x.point left.point ks1 ∙ edited_buffers x.name c ks)
    (ap (map (session_of (marks_gone x left ks1))) (set_followed x.name o xs at (session_finished left h) quiet)
    ∙ finished_there ks (followed x.name o xs) id at h x c behind text f (once_followed x.name o xs (λ n i. once_used ks xs n i sound)) (place_followed x.name o xs id at place) (within_followed x.name o xs at within) (get_followed x.name o xs at h quiet is) sel marks fresh
    ∙ ap (change_first (has_id id) (session_arranged (ended (unmarked left) (edit_of x.name c.a c.b c.put) state))) (sessions_went x.name c ks xs order room (mark_is_kept x.name x.point ks marks.point))
    ∙ sym (no_quit x.name c id _))
    ∙ ap (λ m. apply (world_of directory ks xs next) id (ended (record left { mark = mark_read m }) (edit_of x.name c.a c.b c.put) state)) (sym none)
    ∙ ap (λ b. apply (world_of directory ks xs next) id (cond b (fails state (Says KillTooLarge)) (ended left (edit_of x.name c.a c.b c.put) state))) (sym small)

-- a failure ends any mode
pub failed_so : (directory : Directory) (ks : List MarkedBuffer) (xs : List Session) (next : Option ℕ) (id at : ℕ) (h : Session) (message : Message) → at ≡ position_or_len (session_id id) xs → at < length xs → slice_get xs at ≡ Some h → state_of h.state ≡ idle (state_of h.state) → world_of directory ks (slice_set xs at (failed message h)) next ≡ apply (world_of directory ks xs next) id (fails (state_of h.state) message)
failed_so directory ks xs next id at h message place within is fresh =
    let f = session_arranged (fails (state_of h.state) message) in
    same_world directory _ _ _ _ (id_after next) refl
    (written_first (session_of ks) (has_id id) f xs at h (failed message h) (place ∙ sym (position_or_len-map (session_of ks) (has_id id) xs)) within (sym (get_or_from_slice_get xs at h h is))
    refl
    ∙ ap (change_first (has_id id) f) (sym (map-id (map (session_of ks) xs))))

-- a flag is cleared
cleared_so : (directory : Directory) (ks : List MarkedBuffer) (xs : List Session) (next : Option ℕ) (id at : ℕ) (h : Session) (name : List ℕ) → at ≡ position_or_len (session_id id) xs → at < length xs → slice_get xs at ≡ Some h → state_of h.state ≡ idle (state_of h.state) → world_of directory (change_first (marked_named name) marked_unmodified ks) (slice_set xs at (told (Says Silent) (acted Other h))) next ≡ apply (world_of directory ks xs next) id (effects (state_of h.state) (Ok (Unmodified name)))
cleared_so directory ks xs next id at h name place within is fresh =
    let f = session_arranged (effects (state_of h.state) (Ok (Unmodified name))) in
    let ls = change_first (marked_named name) marked_unmodified ks in
    same_world directory _ _ _ _ (id_after next) (buffers_unmodified name ks)
    (written_first (session_of ls) (has_id id) f xs at h (told (Says Silent) (acted Other h)) (place ∙ sym (position_or_len-map (session_of ls) (has_id id) xs)) within (sym (get_or_from_slice_get xs at h h is))
    (λ i. record (session_of ls h) { state = at_rest (λ (state : model.State). record state { echo = Says Silent; kind = Other }) acted_state (λ state. refl) (state_of h.state) fresh i; search = search_kept ls h fresh i })
    ∙ ap (change_first (has_id id) f) (sessions_unmodified name ks xs ∙ sym (map-id (map (session_of ks) xs))))

-- ANY ACTION

done_so : (directory : Directory) (ks : List MarkedBuffer) (xs : List Session) (next : Option ℕ) (id at : ℕ) (x : WindowMarks) (h : Session) (action : Action) → IsSound ks xs → at ≡ position_or_len (session_id id) xs → at < length xs → slice_get xs at ≡ Some h → window_marks_of h ≡ Some x → AreMarks ks x → state_of h.state ≡ idle (state_of h.state) → CanBeDone ks x h.kill action → mark_told action ≡ None
    → (let text = (marked_at x.name ks).buffer.text in let items = (marked_at x.name ks).buffer.items in world_of directory (marked_after x text items h.kill action ks) (followed x.name (edit_through x ks h.kill action) (slice_set xs at (session_acted text action h))) next ≡ apply (world_of directory ks xs next) id (outcome_through (state_of h.state) x ks h.kill action))
done_so directory ks xs next id at x h (Fails message) sound place within is sel marks fresh can none =
    failed_so directory ks xs next id at h message place within is fresh
done_so directory ks xs next id at x h (Edits mask c) sound place within is sel marks fresh can none =
    let text = (marked_at x.name ks).buffer.text in
    finished_so directory ks xs next id at h x (change_read text h.kill c) (c.from + length (put_read text h.kill c.put)) text c.finish can.within.order can.within.within sound place within is sel marks fresh none can.small
done_so directory ks xs next id at x h (Undoes u) sound place within is sel marks fresh can none =
    let text = (marked_at x.name ks).buffer.text in
    let back = removed_by u.serial (marked_at x.name ks).buffer.items in
    finished_so directory ks xs next id at h x (undone_read text h.kill back u) (u.from + length back) text u.finish (omega arith) can.within sound place within is sel marks fresh can.finish.mark (ap (λ k. is_too_large (kill_read text h.kill k)) can.finish.kill)
done_so directory ks xs next id at x h (Moves f) sound place within is sel marks fresh can none =
    let text = (marked_at x.name ks).buffer.text in
    finished_so directory ks xs next id at h x (record { a = 0; b = 0; put = []; finish = finish_read text h.kill 0 f }) 0 text f (omega arith) (omega arith) sound place within is sel marks fresh none can.small
done_so directory ks xs next id at x h Clears sound place within is sel marks fresh can none =
    cleared_so directory ks xs next id at h x.name place within is fresh

left_sound : (ks : List MarkedBuffer) (xs : List Session) (x : WindowMarks) (c : plans.Change) → AreMarks ks x → IsSound ks xs → IsSound (marks_gone x c.finish (edited_by x.name c ks)) xs
left_sound ks xs x c marks sound =
    let ks1 = edited_by x.name c ks in
    let point = mark_edited_by x.name c ks x.point marks.point in
    let top = mark_still x.name x.point x.top c.finish.point ks1 point (mark_edited_by x.name c ks x.top marks.top) in
    gone_sound x.name x.top c.finish.top _ xs top (gone_sound x.name x.point c.finish.point ks1 xs point (edited_sound x.name c ks xs sound))

pub kept_sound : (ks : List MarkedBuffer) (xs : List Session) (x : WindowMarks) (text : List ℕ) (items : List Item) (kill : List ℕ) (action : Action) → AreMarks ks x → IsSound ks xs → IsSound (marked_after x text items kill action ks) xs
kept_sound ks xs x text items kill (Fails message) marks sound = sound
kept_sound ks xs x text items kill (Edits mask c) marks sound = left_sound ks xs x (change_read text kill c) marks sound
kept_sound ks xs x text items kill (Undoes u) marks sound = left_sound ks xs x (undone_read text kill (removed_by u.serial items) u) marks sound
kept_sound ks xs x text items kill (Moves f) marks sound = left_sound ks xs x (record { a = 0; b = 0; put = []; finish = finish_read text kill 0 f }) marks sound
kept_sound ks xs x text items kill Clears marks sound = sound_unmodified x.name ks xs sound

pub uses_after : (text : List ℕ) (action : Action) (h : Session) (n : List ℕ) (i : ℕ) → session_uses n i (session_acted text action h) ≡ session_uses n i h
uses_after text (Fails message) h n i = refl
uses_after text _ h n i = refl

pub set_back : (xs : List Session) (at : ℕ) (h : Session) → slice_get xs at ≡ Some h → slice_set xs at h ≡ xs
set_back xs at h is = ap (slice_set xs at) (sym (get_or_from_slice_get xs at h h is)) ∙ set-get_or xs at h

-- the marks of the window that acts
pub acting_marks : (ks : List MarkedBuffer) (xs : List Session) (at : ℕ) (x : WindowMarks) → IsSound ks xs → option_and_then window_marks_of (slice_get xs at) ≡ Some x → AreMarks ks x
acting_marks ks xs at x sound sel = record {
  point = acting_mark ks xs at x x.point sound sel (point_used x);
  mark = λ id is. acting_mark ks xs at x id sound sel (mark_used_once x id is);
  top = acting_mark ks xs at x x.top sound sel (top_used_once x);
}

pub after_sound : {T E : Type 0} (r : Result T E) (ks ls : List MarkedBuffer) (xs : List Session) (at : ℕ) (x : WindowMarks) (text : List ℕ) (items : List Item) (h y : Session) (action : Action) → slice_get xs at ≡ Some h → OnOk r (ls ≡ marked_after x text items h.kill action ks) → OnOk r (y ≡ session_acted text action h) → OnErr r (ls ≡ ks) → OnErr r (y ≡ h) → AreMarks ks x → IsSound ks xs → IsSound ls (slice_set xs at y)
after_sound (Ok o) ks ls xs at x text items h y action is ok acts err same marks sound =
    rw (ok, acts) (sound_set (marked_after x text items h.kill action ks) xs at h (session_acted text action h) (sym (get_or_from_slice_get xs at h h is)) (uses_after text action h) (kept_sound ks xs x text items h.kill action marks sound))
after_sound (Err e) ks ls xs at x text items h y action is ok acts err same marks sound =
    rw (err, same) (sound_set ks xs at h h (sym (get_or_from_slice_get xs at h h is)) (λ n i. refl) sound)

pub after_ok : {T E : Type 0} (r : Result T E) (ks ls : List MarkedBuffer) (xs : List Session) (at : ℕ) (x : WindowMarks) (h y : Session) (action : Action) → slice_get xs at ≡ Some h → (let text = (marked_at x.name ks).buffer.text in OnOk r (ls ≡ marked_after x text (marked_at x.name ks).buffer.items h.kill action ks) → OnOk r (y ≡ session_acted text action h) → IsSound ks xs → at < length xs → option_and_then window_marks_of (slice_get xs at) ≡ Some x → state_at at xs ≡ idle (state_at at xs) → CanBeDone ks x (kill_at at xs) action → mark_told action ≡ None → OnOk r ((directory : Directory) (id : ℕ) (next : Option ℕ) → at ≡ position_or_len (session_id id) xs → world_of directory ls (followed x.name (edit_through x ks (kill_at at xs) action) (slice_set xs at y)) next ≡ apply (world_of directory ks xs next) id (outcome_through (state_at at xs) x ks (kill_at at xs) action)))
after_ok (Ok o) ks ls xs at x h y action is ok acts sound within sel fresh can none = λ directory id next place.
    let sel_h : window_marks_of h ≡ Some x = sym (ap (option_and_then window_marks_of) is) ∙ sel in
    ap (λ (o : Option Session). world_of directory ls (followed x.name (edit_through x ks (kill_or_none o) action) (slice_set xs at y)) next) is
    ∙ rw (ok, acts) (done_so directory ks xs next id at x h action sound place within is sel_h (acting_marks ks xs at x sound sel) (fresh_state xs at h is fresh) (subst (λ o. CanBeDone ks x (kill_or_none o) action) is can) none
    ∙ ap (λ o. apply (world_of directory ks xs next) id (outcome_through (state_or_first o) x ks (kill_or_none o) action)) (sym is))
after_ok (Err e) ks ls xs at x h y action is ok acts sound within sel fresh can none = tt

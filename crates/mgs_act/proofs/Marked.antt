-- What an action does that sets the mark of the window.
use Rattle.std.proofs.Common.{◌≡◌, ℕ, ◌+◌, ◌<◌, ◌≤◌, false, cond, List, [], length, map, get_or, Option, Some, None, refl, sym, ap, subst, ◌∙◌, arith}
use Rattle.std.specs.Prelude.{find, is_some, slice_get, slice_set, Ok}
use Rattle.std.specs.List.{position_or_len}
use Rattle.std.specs.Option.{option_and_then, option_map}
use Rattle.std.proofs.lemmas.Option.{get_or_from_slice_get, slice_get-get_or}
use Rattle.mgs_model.specs.Access.{Directory, decision}
use Rattle.mgs_model.specs.World.{Buffer, Item, has_id}
use Rattle.mgs_model.specs.World as model
use Rattle.mgs_model.specs.Outcome.{Effect, Keep_position, Keep_mark, Mark_at}
use Rattle.mgs_model.specs.Plans as plans
use Rattle.mgs_model.specs.Acts.{edit_of, fails, finished, is_too_large}
use Rattle.mgs_model.specs.Apply.{apply, buffers_after, change_at, change_first, session_after, session_arranged, window_adjusted}
use Rattle.mgs_model.specs.declared.echo_text.Message.TheVariants.{Says}
use Rattle.mgs_model.specs.declared.echo_text.Notice.TheVariants.{KillTooLarge}
use Rattle.mgs_model.proofs.Firsts.{position_or_len-map}
use Rattle.mgs_marks.specs.Marks.{mark_in}
use Rattle.mgs_buffers.specs.MarkedBuffer.{HasBuffer, IsMark, MarkedBuffer, marked_at, marked_named, marked_or_none, marked_placed, marked_unmodified, with_marks}
use Rattle.mgs_buffers.proofs.Places.{place_stays}
use Rattle.mgs_windows.specs.declared.WindowMarks.{WindowMarks}
use Rattle.mgs_session.specs.Sessions.{window_marks_of}
use Rattle.mgs_session.specs.declared.Session.{Session}
use Rattle.mgs_edit.specs.Reading.{IsWithin, change_read, finish_read, kill_read, mark_read, put_read, undone_read}
use Rattle.mgs_edit.specs.declared.plan.Finish.{Finish}
use Rattle.mgs_plan.specs.Deciding.{IsActionGranted}
use Rattle.mgs_plan.specs.declared.action.Action.{Action}
use Rattle.mgs_plan.specs.declared.outcome.Outcome.{Outcome}
use Rattle.mgs_plan.specs.declared.action.Action.TheVariants.{Fails, Edits, Undoes, Moves, Clears}
use Rattle.mgs_plan.specs.Following.{edit_through, edit_told, followed}
use Rattle.mgs_plan.specs.Actions.{AreMarks, CanBeDone, IsMarked, edited_by, kill_at, kill_or_none, mark_gone, mark_told, marked_after, marks_gone, outcome_through, removed_by, session_finished}
use Rattle.mgs_act.specs.Doing.{IsReady}
use Rattle.mgs_act.specs.Performing.{IsCarriedOut, IsCarriedOutBy}
use Rattle.mgs_world.specs.Acted.{IsUnchanged}
use Rattle.mgs_world.specs.Marking.{IsGivenUp, IsReserved, mark_at_place, session_marked}
use Rattle.mgs_world.specs.Sound.{IsSound}
use Rattle.mgs_world.specs.WindowMarks.{WindowMarksDropped}
use Rattle.mgs_world.specs.Worlds.{id_after, idle, state_at, state_of, state_or_first, session_id, session_of, world_of}
use Rattle.mgs_world.proofs.SelectedMark.{changed_first, get_set, given_up_sessions, reserved_buffers, reserved_given_up, reserved_mark, reserved_more, reserved_sessions, reserved_sound, sessions_marked}
use Rattle.mgs_world.proofs.Soundness.{in_use_mark, mark_is_kept, sound_placed, sound_set}
use Rattle.mgs_world.proofs.Marks.{found_same, is_same}
use Rattle.mgs_world.proofs.Owns.{search_at_rest}
use Rattle.mgs_world.proofs.WindowMarks.{added_mark}
use Rattle.mgs_world.proofs.Worlds.{buffers_placed, same_world}
use Rattle.mgs_world.proofs.Unmodified.{marks_unmodified}
use Rattle.mgs_plan.proofs.Deeds.{acting_marks, after_ok, after_sound, at_twice, edited_buffers, edited_sound, ended, finished_there, fresh_state, gone_buffers, gone_sound, no_quit, once_used, set_back, unmarked, set_twice}
use Rattle.mgs_plan.proofs.Followed.{get_followed, place_followed, sessions_went, set_followed, sound_kept, within_followed}
use Rattle.mgs_plan.proofs.Leaving.{length_edited_by, mark_edited_by, mark_still, place_edited_by, place_gone, text_gone, used_once}

-- A MARK THAT IS RESERVED

-- the window's other marks are still there
pub reserved_marks : (x : WindowMarks) (id : ℕ) (ks ls : List MarkedBuffer) → HasBuffer x.name ks → IsReserved x.name x.mark id ks ls → AreMarks ks x → AreMarks ls x
reserved_marks x id ks ls kept r marks =
    let more : (i : ℕ) → IsMark x.name i ks → IsMark x.name i ls =
    λ i mark. in_use_mark ls x.name i (omega (arith, used_once ks x.name i mark, reserved_more x.mark x id ks ls refl kept r x.name i)) in
    record { point = more x.point marks.point; mark = λ i is. more i (marks.mark i is); top = more x.top marks.top }

-- the buffer is the same
same_buffer : (marks : List (Option ℕ)) (o : Option MarkedBuffer) → (marked_or_none (option_map (with_marks marks) o)).buffer ≡ (marked_or_none o).buffer
same_buffer marks None = refl
same_buffer marks (Some k) = refl

pub reserved_buffer : (n : List ℕ) (o : Option ℕ) (id : ℕ) (ks ls : List MarkedBuffer) → IsReserved n o id ks ls → (marked_at n ls).buffer ≡ (marked_at n ks).buffer
reserved_buffer n None id ks ls r =
    ap (λ (s : List MarkedBuffer). (marked_at n s).buffer) r.shape
    ∙ ap (λ (o : Option MarkedBuffer). (marked_or_none o).buffer) (found_same n n (with_marks r.marks) ks (λ k. refl) (is_same n n refl))
    ∙ same_buffer r.marks (find (marked_named n) ks)
reserved_buffer n (Some m) id ks ls r = ap (λ (s : List MarkedBuffer). (marked_at n s).buffer) r.1

-- each buffer keeps its place
pub place_reserved : (n : List ℕ) (o : Option ℕ) (id at : ℕ) (ks ls : List MarkedBuffer) → IsReserved n o id ks ls → at ≡ position_or_len (marked_named n) ks → at ≡ position_or_len (marked_named n) ls
place_reserved n None id at ks ls r place =
    place ∙ sym (place_stays n n (with_marks r.marks) (λ k. refl) ks) ∙ ap (λ (s : List MarkedBuffer). position_or_len (marked_named n) s) (sym r.shape)
place_reserved n (Some m) id at ks ls r place = place ∙ ap (λ (s : List MarkedBuffer). position_or_len (marked_named n) s) (sym r.1)

-- and what is granted in it
pub granted_still : (directory : Directory) (ks ls : List MarkedBuffer) (user name : List ℕ) (action : Action) → (marked_at name ls).buffer ≡ (marked_at name ks).buffer → IsActionGranted directory ks user name action → IsActionGranted directory ls user name action
granted_still directory ks ls user name (Edits mask c) same granted = (ap (λ (b : Buffer). decision directory b.owners user b.entries mask) same ∙ granted.0, granted.1)
granted_still directory ks ls user name (Undoes u) same granted = ap (λ (b : Buffer). decision directory b.owners user b.entries 3) same ∙ granted
granted_still directory ks ls user name Clears same granted = ap (λ (b : Buffer). decision directory b.owners user b.entries 3) same ∙ granted
granted_still directory ks ls user name _ same granted = tt

-- and the mark is in use
pub reserved_in_use : (o : Option ℕ) (x : WindowMarks) (id : ℕ) (ks ls : List MarkedBuffer) → x.mark ≡ o → HasBuffer x.name ks → AreMarks ks x → IsReserved x.name o id ks ls → IsMark x.name id ls
reserved_in_use None x id ks ls is kept marks r = added_mark x.name 0 id ks ls kept r
reserved_in_use (Some m) x id ks ls is kept marks r = rw (r.1, r.0) (marks.mark m is)

-- what holds once it is reserved
module _ (x : WindowMarks) (ks ls : List MarkedBuffer) (id : ℕ) (marks : AreMarks ks x) (r : IsReserved x.name x.mark id ks ls) where
  kept : HasBuffer x.name ks
  kept = mark_is_kept x.name x.point ks marks.point

  pub marks_then : AreMarks ls x
  marks_then = reserved_marks x id ks ls kept r marks

  pub kept_then : HasBuffer x.name ls
  kept_then = mark_is_kept x.name x.point ls marks_then.point

  pub mark_then : IsMark x.name id ls
  mark_then = reserved_in_use x.mark x id ks ls refl kept marks r

  -- and is given up again
  pub dropped_then : (ms ns : List MarkedBuffer) → ms ≡ ls → IsGivenUp x.name x.mark id ms ns → WindowMarksDropped None ks ns
  dropped_then ms ns same given =
      reserved_given_up x.name x.mark id ks ls ns kept r (subst (λ (s : List MarkedBuffer). IsGivenUp x.name x.mark id s ns) same given)

-- ONE SESSION

-- the mark goes where the finish says, beside all else
mark_ends : (p : ℕ) (f : plans.Finish) (e : Effect) (state : model.State) (x : model.Session) → mark_at_place p (session_arranged (ended (unmarked f) e state) x) ≡ session_arranged (ended (record f { mark = Mark_at p }) e state) x
mark_ends p f e state x =
    let whole = session_arranged (ended (record f { mark = Mark_at p }) e state) x in
    ap (λ (ws : List model.Window). record whole { windows = ws })
    (at_twice (window_adjusted x.search f.point Keep_mark f.top None) (window_adjusted None Keep_position (Mark_at p) Keep_position None) x.selected x.windows)

-- THE SESSIONS

marked_there : (ks ls : List MarkedBuffer) (xs : List Session) (id at mid p : ℕ) (h : Session) (x : WindowMarks) (c : plans.Change) (behind : ℕ) (text : List ℕ) (f : Finish) → IsSound ks xs → HasBuffer x.name ks → IsReserved x.name x.mark mid ks ls → at ≡ position_or_len (session_id id) xs → at < length xs → slice_get xs at ≡ Some h → window_marks_of h ≡ Some x → AreMarks ks x → state_of h.state ≡ idle (state_of h.state) → IsMark x.name mid (marks_gone x (finish_read text h.kill behind f) (edited_by x.name c ls)) → IsSound (marks_gone x (finish_read text h.kill behind f) (edited_by x.name c ls)) (slice_set xs at (session_marked mid (session_finished (finish_read text h.kill behind f) h)))
    → (let left = finish_read text h.kill behind f in
    map (session_of (change_first (marked_named x.name) (marked_placed mid p) (marks_gone x left (edited_by x.name c ls)))) (slice_set xs at (session_marked mid (session_finished left h)))
    ≡ change_first (has_id id) (session_arranged (ended (record left { mark = Mark_at p }) (edit_of x.name c.a c.b c.put) (state_of h.state))) (map (session_of (edited_by x.name c ls)) xs))
marked_there ks ls xs id at mid p h x c behind text f sound kept r place within is sel marks fresh mark held =
    let left = finish_read text h.kill behind f in
    let state = state_of h.state in
    let ls2 = marks_gone x left (edited_by x.name c ls) in
    let y = session_finished left h in
    let e = edit_of x.name c.a c.b c.put in
    let zs = map (session_of (edited_by x.name c ls)) xs in
    let there : at ≡ position_or_len (has_id id) zs = place ∙ sym (position_or_len-map (session_of (edited_by x.name c ls)) (has_id id) xs) in
    let arranged : model.Session → model.Session = session_arranged (ended (unmarked left) e state) in
    ap (map (session_of (change_first (marked_named x.name) (marked_placed mid p) ls2))) (sym (set_twice xs at y (session_marked mid y)))
    ∙ sessions_marked p mid ls2 (slice_set xs at y) at y x (get_set xs at h y is) sel mark (subst (IsSound ls2) (sym (set_twice xs at y (session_marked mid y))) held)
    ∙ ap (change_at at (mark_at_place p))
    (finished_there ls xs id at h x c behind text f (λ n i. once_used ks xs n i sound) place within is sel (reserved_marks x mid ks ls kept r marks) fresh
    ∙ sym (changed_first (has_id id) arranged zs at there))
    ∙ at_twice arranged (mark_at_place p) at zs
    ∙ changed_first (has_id id) (λ z. mark_at_place p (arranged z)) zs at there
    ∙ (λ i. change_first (has_id id) (λ z. mark_ends p left e state z i) zs)

-- THE WORLD

-- the mark is in use when all else is done
pub mark_there : (x : WindowMarks) (mid : ℕ) (c : plans.Change) (f : plans.Finish) (ls : List MarkedBuffer) → IsMark x.name mid ls → AreMarks ls x → IsMark x.name mid (marks_gone x f (edited_by x.name c ls))
mark_there x mid c f ls mark marks =
    let ls1 = edited_by x.name c ls in
    let point = mark_edited_by x.name c ls x.point marks.point in
    let top = mark_still x.name x.point x.top f.point ls1 point (mark_edited_by x.name c ls x.top marks.top) in
    mark_still x.name x.top mid f.top (mark_gone x.name x.point f.point ls1) top (mark_still x.name x.point mid f.point ls1 point (mark_edited_by x.name c ls mid mark))

-- what holds before any action and behind each change holds after it
after_action : (holds : List MarkedBuffer → Type 0) (x : WindowMarks) (text : List ℕ) (items : List Item) (kill : List ℕ) (action : Action) (ls : List MarkedBuffer) → holds ls → ((c : plans.Change) (f : plans.Finish) → holds (marks_gone x f (edited_by x.name c ls))) → holds (change_first (marked_named x.name) marked_unmodified ls) → holds (marked_after x text items kill action ls)
after_action holds x text items kill (Fails message) ls same changed clear = same
after_action holds x text items kill (Edits mask c) ls same changed clear = changed (change_read text kill c) (change_read text kill c).finish
after_action holds x text items kill (Undoes u) ls same changed clear = let c = undone_read text kill (removed_by u.serial items) u in changed c c.finish
after_action holds x text items kill (Moves f) ls same changed clear = changed (record { a = 0; b = 0; put = []; finish = finish_read text kill 0 f }) (finish_read text kill 0 f)
after_action holds x text items kill Clears ls same changed clear = clear

pub mark_after_action : (x : WindowMarks) (mid : ℕ) (text : List ℕ) (items : List Item) (kill : List ℕ) (action : Action) (ls : List MarkedBuffer) → IsMark x.name mid ls → AreMarks ls x → IsMark x.name mid (marked_after x text items kill action ls)
mark_after_action x mid text items kill action ls mark marks =
    after_action (IsMark x.name mid) x text items kill action ls mark (λ c f. mark_there x mid c f ls mark marks) (ap (λ (ms : List (Option ℕ)). is_some (mark_in ms mid)) (marks_unmodified x.name x.name ls) ∙ mark)

-- the buffer keeps its place
pub place_left : (x : WindowMarks) (c : plans.Change) (f : plans.Finish) (ls : List MarkedBuffer) (at : ℕ) → at ≡ position_or_len (marked_named x.name) ls → at ≡ position_or_len (marked_named x.name) (marks_gone x f (edited_by x.name c ls))
place_left x c f ls at place =
    place_gone x.name x.top f.top (mark_gone x.name x.point f.point (edited_by x.name c ls)) at (place_gone x.name x.point f.point (edited_by x.name c ls) at (place_edited_by x.name c ls at place))

pub place_after_action : (x : WindowMarks) (text : List ℕ) (items : List Item) (kill : List ℕ) (action : Action) (ls : List MarkedBuffer) (at : ℕ) → at ≡ position_or_len (marked_named x.name) ls → at ≡ position_or_len (marked_named x.name) (marked_after x text items kill action ls)
place_after_action x text items kill action ls at place =
    after_action (λ ms. at ≡ position_or_len (marked_named x.name) ms) x text items kill action ls place (λ c f. place_left x c f ls at place) (place ∙ sym (place_stays x.name x.name marked_unmodified (λ k. refl) ls))

-- where the mark is to be, there is a text
pub text_left : (x : WindowMarks) (f : plans.Finish) (ls : List MarkedBuffer) → (marked_at x.name (marks_gone x f ls)).buffer.text ≡ (marked_at x.name ls).buffer.text
text_left x f ls = text_gone x.name x.top f.top (mark_gone x.name x.point f.point ls) ∙ text_gone x.name x.point f.point ls

told_within : (n p : ℕ) (mark : Option ℕ) → mark ≡ Some p → IsWithin n mark → p ≤ n
told_within n p mark is within = subst (IsWithin n) is within

pub within_after : (x : WindowMarks) (p : ℕ) (kill : List ℕ) (action : Action) (ls : List MarkedBuffer) → HasBuffer x.name ls → CanBeDone ls x kill action → mark_told action ≡ Some p → p ≤ length (marked_at x.name (marked_after x (marked_at x.name ls).buffer.text (marked_at x.name ls).buffer.items kill action ls)).buffer.text
within_after x p kill (Edits mask c) ls kept can told =
    let text = (marked_at x.name ls).buffer.text in
    let change = change_read text kill c in
    let w = can.within in
    let same = ap (λ (t : List ℕ). length t) (text_left x change.finish (edited_by x.name change ls)) in
    omega (arith, same, length_edited_by x.name change ls kept w.order w.within, told_within _ p c.finish.mark told w.finish.mark)
within_after x p kill (Moves f) ls kept can told =
    let text = (marked_at x.name ls).buffer.text in
    let same = ap (λ (t : List ℕ). length t) (text_left x (finish_read text kill 0 f) ls) in
    omega (arith, same, told_within _ p f.mark told can.within.mark)
within_after x p kill _ ls kept can told = cc

-- as the sessions will be
pub held_then : (ks ls : List MarkedBuffer) (xs : List Session) (at mid : ℕ) (h : Session) (x : WindowMarks) (c : plans.Change) (f g : plans.Finish) → IsSound ks xs → HasBuffer x.name ks → IsReserved x.name x.mark mid ks ls → slice_get xs at ≡ Some h → window_marks_of h ≡ Some x → AreMarks ls x → IsSound (marks_gone x f (edited_by x.name c ls)) (slice_set xs at (session_marked mid (session_finished g h)))
held_then ks ls xs at mid h x c f g sound kept r is sel marks =
    let ls1 = edited_by x.name c ls in
    let point = mark_edited_by x.name c ls x.point marks.point in
    let top = mark_still x.name x.point x.top f.point ls1 point (mark_edited_by x.name c ls x.top marks.top) in
    let ys = slice_set xs at (session_marked mid h) in
    let after = gone_sound x.name x.top f.top _ ys top (gone_sound x.name x.point f.point ls1 ys point (edited_sound x.name c ls ys (reserved_sound x mid ks ls xs at h sound kept is sel r))) in
    subst (IsSound (marks_gone x f ls1)) (set_twice xs at (session_marked mid h) (session_marked mid (session_finished g h)))
    (sound_set (marks_gone x f ls1) ys at (session_marked mid h) (session_marked mid (session_finished g h)) (sym (get_or_from_slice_get ys at (session_marked mid h) (session_marked mid h) (get_set xs at h (session_marked mid h) is))) (λ n i. refl) after)

-- the searches of all sessions go by the edit
pub marked_so : (directory : Directory) (ks ls : List MarkedBuffer) (xs : List Session) (next : Option ℕ) (id at mid p : ℕ) (h : Session) (x : WindowMarks) (c : plans.Change) (behind : ℕ) (text : List ℕ) (f : Finish) → c.a ≤ c.b → c.b ≤ length (marked_at x.name ks).buffer.text → IsSound ks xs → HasBuffer x.name ks → IsReserved x.name x.mark mid ks ls → at ≡ position_or_len (session_id id) xs → at < length xs → slice_get xs at ≡ Some h → window_marks_of h ≡ Some x → AreMarks ks x → state_of h.state ≡ idle (state_of h.state) → f.mark ≡ Some p → is_too_large (kill_read text h.kill f.kill) ≡ false
    → (let left = finish_read text h.kill behind f in world_of directory (change_first (marked_named x.name) (marked_placed mid p) (marks_gone x left (edited_by x.name c ls))) (followed x.name (edit_told (length (marked_at x.name ks).buffer.text) c) (slice_set xs at (session_marked mid (session_finished left h)))) next ≡ apply (world_of directory ks xs next) id (finished (state_of h.state) left (edit_of x.name c.a c.b c.put)))
marked_so directory ks ls xs next id at mid p h x c behind text f order room sound kept r place within is sel marks fresh told small =
    let left = finish_read text h.kill behind f in
    let state = state_of h.state in
    let ls1 = edited_by x.name c ls in
    let ls2 = mark_gone x.name x.point left.point ls1 in
    let marks_l = reserved_marks x mid ks ls kept r marks in
    let mark = mark_there x mid c left ls (reserved_mark x.mark mid ks ls xs at h x refl sound kept is sel r) marks_l in
    let arranged : model.Session → model.Session = session_arranged (ended (record left { mark = Mark_at p }) (edit_of x.name c.a c.b c.put) state) in
    let o = edit_told (length (marked_at x.name ks).buffer.text) c in
    let ys = followed x.name o xs in
    let quiet = search_at_rest h.state fresh in
    let found = get_followed x.name o xs at h quiet is in
    let sound_f = sound_kept x.name o ks xs sound in
    let same : length (marked_at x.name ls).buffer.text ≡ length (marked_at x.name ks).buffer.text = ap (λ (b : Buffer). length b.text) (reserved_buffer x.name x.mark mid ks ls r) in
    same_world directory _ _ _ _ (id_after next)
    (buffers_placed x.name mid p (marks_gone x left ls1) ∙ gone_buffers x.name x.top left.top ls2 ∙ gone_buffers x.name x.point left.point ls1 ∙ edited_buffers x.name c ls ∙ ap (buffers_after (edit_of x.name c.a c.b c.put)) (reserved_buffers x.name x.mark mid ks ls r))
    (ap (map (session_of (change_first (marked_named x.name) (marked_placed mid p) (marks_gone x left ls1)))) (set_followed x.name o xs at (session_marked mid (session_finished left h)) quiet)
    ∙ marked_there ks ls ys id at mid p h x c behind text f sound_f kept r (place_followed x.name o xs id at place) (within_followed x.name o xs at within) found sel marks fresh mark (held_then ks ls ys at mid h x c left left sound_f kept r found sel marks_l)
    ∙ ap (λ (n : ℕ). change_first (has_id id) arranged (map (session_of ls1) (followed x.name (edit_told n c) xs))) (sym same)
    ∙ ap (change_first (has_id id) arranged) (sessions_went x.name c ls xs order (omega (arith, same, room)) (mark_is_kept x.name x.point ls marks_l.point))
    ∙ ap (λ (ss : List model.Session). change_first (has_id id) arranged (map (session_after (edit_of x.name c.a c.b c.put)) ss)) (reserved_sessions x mid ks ls xs sound kept r)
    ∙ sym (no_quit x.name c id _))
    ∙ ap (λ m. apply (world_of directory ks xs next) id (ended (record left { mark = mark_read m }) (edit_of x.name c.a c.b c.put) state)) (sym told)
    ∙ ap (λ b. apply (world_of directory ks xs next) id (cond b (fails state (Says KillTooLarge)) (ended left (edit_of x.name c.a c.b c.put) state))) (sym small)

-- ANY ACTION

acted_so : (directory : Directory) (ks ls : List MarkedBuffer) (xs : List Session) (next : Option ℕ) (id at p : ℕ) (x : WindowMarks) (h y : Session) (action : Action) → IsSound ks xs → at ≡ position_or_len (session_id id) xs → at < length xs → slice_get xs at ≡ Some h → window_marks_of h ≡ Some x → AreMarks ks x → state_of h.state ≡ idle (state_of h.state) → CanBeDone ks x h.kill action → mark_told action ≡ Some p → IsMarked x p action ks ls h y → world_of directory ls (followed x.name (edit_through x ks h.kill action) (slice_set xs at y)) next ≡ apply (world_of directory ks xs next) id (outcome_through (state_of h.state) x ks h.kill action)
acted_so directory ks ls xs next id at p x h y (Edits mask c) sound place within is sel marks fresh can told m =
    let text = (marked_at x.name ks).buffer.text in
    rw (m.buffers, m.session)
    (marked_so directory ks m.between xs next id at m.id p h x (change_read text h.kill c) (c.from + length (put_read text h.kill c.put)) text c.finish can.within.order can.within.within sound (mark_is_kept x.name x.point ks marks.point) m.reserved place within is sel marks fresh told can.small)
acted_so directory ks ls xs next id at p x h y (Moves f) sound place within is sel marks fresh can told m =
    let text = (marked_at x.name ks).buffer.text in
    rw (m.buffers, m.session)
    (marked_so directory ks m.between xs next id at m.id p h x (record { a = 0; b = 0; put = []; finish = finish_read text h.kill 0 f }) 0 text f (omega arith) (omega arith) sound (mark_is_kept x.name x.point ks marks.point) m.reserved place within is sel marks fresh told can.small)
acted_so directory ks ls xs next id at p x h y _ sound place within is sel marks fresh can told m = cc

pub sound_marked : (ks ls : List MarkedBuffer) (xs : List Session) (at mid p : ℕ) (h : Session) (x : WindowMarks) (c : plans.Change) (g : plans.Finish) → IsSound ks xs → slice_get xs at ≡ Some h → window_marks_of h ≡ Some x → AreMarks ks x → IsReserved x.name x.mark mid ks ls → IsSound (change_first (marked_named x.name) (marked_placed mid p) (marks_gone x c.finish (edited_by x.name c ls))) (slice_set xs at (session_marked mid (session_finished g h)))
sound_marked ks ls xs at mid p h x c g sound is sel marks r =
    let marks_l = marks_then x ks ls mid marks r in
    sound_placed x.name mid p _ _ (mark_there x mid c c.finish ls (mark_then x ks ls mid marks r) marks_l) (held_then ks ls xs at mid h x c c.finish g sound (mark_is_kept x.name x.point ks marks.point) r is sel marks_l)

sound_then : (ks ls : List MarkedBuffer) (xs : List Session) (at p : ℕ) (x : WindowMarks) (h y : Session) (action : Action) → IsSound ks xs → slice_get xs at ≡ Some h → window_marks_of h ≡ Some x → AreMarks ks x → mark_told action ≡ Some p → IsMarked x p action ks ls h y → IsSound ls (slice_set xs at y)
sound_then ks ls xs at p x h y (Edits mask c) sound is sel marks told m =
    let change = change_read (marked_at x.name ks).buffer.text h.kill c in
    rw (m.buffers, m.session) (sound_marked ks m.between xs at m.id p h x change change.finish sound is sel marks m.reserved)
sound_then ks ls xs at p x h y (Moves f) sound is sel marks told m =
    let left = finish_read (marked_at x.name ks).buffer.text h.kill 0 f in
    rw (m.buffers, m.session) (sound_marked ks m.between xs at m.id p h x (record { a = 0; b = 0; put = []; finish = left }) left sound is sel marks m.reserved)
sound_then ks ls xs at p x h y _ sound is sel marks told m = cc

-- the marks of the window that a session has selected
pub selected_marks : (ks : List MarkedBuffer) (xs : List Session) (at : ℕ) (h : Session) (x : WindowMarks) → IsSound ks xs → slice_get xs at ≡ Some h → window_marks_of h ≡ Some x → AreMarks ks x
selected_marks ks xs at h x sound is sel = acting_marks ks xs at x sound (ap (option_and_then window_marks_of) is ∙ sel)

pub marks_at : {directory : Directory} {at : ℕ} {ks : List MarkedBuffer} {xs : List Session} {o : Outcome} (x : WindowMarks) → IsReady directory at ks xs o → (r : Session) → window_marks_of (get_or xs at r) ≡ Some x → AreMarks ks x
marks_at {directory} {at} {ks} {xs} x ready r sel = selected_marks ks xs at (get_or xs at r) x ready.sound (slice_get-get_or xs at r ready.within) sel

pub carried_sound : (ks ls : List MarkedBuffer) (xs : List Session) (at : ℕ) (x : WindowMarks) (h y : Session) (action : Action) → IsSound ks xs → slice_get xs at ≡ Some h → window_marks_of h ≡ Some x → AreMarks ks x → IsCarriedOut x action ks ls h y → IsSound ls (slice_set xs at y)
carried_sound ks ls xs at x h y action sound is sel marks = by (mark_told action) refl
  where
    by : (o : Option ℕ) → mark_told action ≡ o → IsCarriedOutBy o x action ks ls h y → IsSound ls (slice_set xs at y)
    by None told done =
        let b = (marked_at x.name ks).buffer in
        after_sound {T = ℕ} {E = ℕ} (Ok 0) ks ls xs at x b.text b.items h y action is done.0 done.1 tt tt marks sound
    by (Some p) told done = sound_then ks ls xs at p x h y action sound is sel marks told done

pub carried_so : (directory : Directory) (ks ls : List MarkedBuffer) (xs : List Session) (next : Option ℕ) (id at : ℕ) (x : WindowMarks) (h y : Session) (action : Action) → IsSound ks xs → at ≡ position_or_len (session_id id) xs → at < length xs → slice_get xs at ≡ Some h → window_marks_of h ≡ Some x → state_at at xs ≡ idle (state_at at xs) → CanBeDone ks x h.kill action → IsCarriedOut x action ks ls h y
    → world_of directory ls (followed x.name (edit_through x ks (kill_at at xs) action) (slice_set xs at y)) next ≡ apply (world_of directory ks xs next) id (outcome_through (state_at at xs) x ks (kill_at at xs) action)
carried_so directory ks ls xs next id at x h y action sound place within is sel fresh can = by (mark_told action) refl
  where
    by : (o : Option ℕ) → mark_told action ≡ o → IsCarriedOutBy o x action ks ls h y → world_of directory ls (followed x.name (edit_through x ks (kill_at at xs) action) (slice_set xs at y)) next ≡ apply (world_of directory ks xs next) id (outcome_through (state_at at xs) x ks (kill_at at xs) action)
    by None told done =
        after_ok {T = ℕ} {E = ℕ} (Ok 0) ks ls xs at x h y action is done.0 done.1 sound within (ap (option_and_then window_marks_of) is ∙ sel) fresh (subst (λ o. CanBeDone ks x (kill_or_none o) action) (sym is) can) told directory id next place
    by (Some p) told done =
        ap (λ (o : Option Session). world_of directory ls (followed x.name (edit_through x ks (kill_or_none o) action) (slice_set xs at y)) next) is
        ∙ acted_so directory ks ls xs next id at p x h y action sound place within is sel (selected_marks ks xs at h x sound is sel) (fresh_state xs at h is fresh) can told done
        ∙ ap (λ o. apply (world_of directory ks xs next) id (outcome_through (state_or_first o) x ks (kill_or_none o) action)) (sym is)

pub dropped_so : (ks ls : List MarkedBuffer) (xs : List Session) (at : ℕ) (h y : Session) → slice_get xs at ≡ Some h → WindowMarksDropped None ks ls → y ≡ h → IsSound ks xs → IsUnchanged ks xs ls (slice_set xs at y)
dropped_so ks ls xs at h y is dropped same sound = λ directory next.
    same_world directory _ _ _ _ (id_after next) dropped.buffers
    (rw same (ap (map (session_of ls)) (set_back xs at h is)) ∙ given_up_sessions ks ls xs dropped sound)

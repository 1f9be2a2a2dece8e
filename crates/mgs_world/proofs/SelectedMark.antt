-- The mark of a selected window is reserved and set.
use Rattle.std.proofs.Common.{◌≡◌, ℕ, zero, suc, ◌+◌, ◌≤◌, Bool, true, false, cond, List, [], ◌∷◌, map, Option, Some, None, refl, sym, ap, subst, ◌∙◌, arith}
use Rattle.std.specs.Prelude.{nat_eq, not, slice_get, slice_set}
use Rattle.std.specs.List.{position_or_len}
use Rattle.std.specs.Option.{option_and_then, option_map}
use Rattle.mgs_model.specs.World as model
use Rattle.mgs_model.specs.World.{Buffer_of}
use Rattle.mgs_model.specs.Names.{same_name}
use Rattle.mgs_model.specs.Outcome.{Keep_position, Mark_at}
use Rattle.mgs_model.specs.Apply.{change_at, change_first, window_adjusted}
use Rattle.mgs_marks.specs.Marks.{or_zero}
use Rattle.mgs_buffers.specs.MarkedBuffer.{MarkedBuffer, HasBuffer, IsMark, mark_at, marked_named, marked_placed}
use Rattle.mgs_windows.specs.Panes.{mark_set, marked}
use Rattle.mgs_windows.specs.declared.WindowMarks.{WindowMarks}
use Rattle.mgs_windows.specs.declared.Window.{Window}
use Rattle.mgs_windows.specs.declared.RowPane.{RowPane}
use Rattle.mgs_windows.specs.declared.RowPane.TheVariants.{NoRows}
use Rattle.mgs_session.specs.Sessions.{window_marks_of}
use Rattle.mgs_session.specs.declared.Session.{Session}
use Rattle.mgs_world.specs.Marking.{IsGivenUp, IsReserved, mark_at_place, session_marked}
use Rattle.mgs_world.specs.Sound.{IsSound, in_use, one_if, sum_of, session_uses, uses, window_marks_uses, window_uses}
use Rattle.mgs_world.specs.WindowMarks.{MarksStay, WindowMarksDropped}
use Rattle.mgs_world.specs.Worlds.{buffers_of, session_of, window_of, window_shown}
use Rattle.mgs_world.proofs.Marks.{apart_from, is_same, mark_placed, mark_unused}
use Rattle.mgs_world.proofs.Soundness.{acting_mark, in_use_more, mark_used, sound_in_use}
use Rattle.mgs_world.proofs.Uses.{map_used_at, sum_at}
use Rattle.mgs_world.proofs.WindowMarks.{added_mark, buffers_marked, in_use_added, same_sizes, sessions_stay, stays_added, undone, with_mark_uses}
use Rattle.mgs_world.proofs.Worlds.{one_use, same_window, selected_window, session_placed, session_unused}

-- LISTS

pub get_set : {A : Type 0} (xs : List A) (at : ℕ) (x y : A) → slice_get xs at ≡ Some x → slice_get (slice_set xs at y) at ≡ Some y
get_set [] at x y is = cc
get_set (z ∷ xs) zero x y is = refl
get_set (z ∷ xs) (suc at) x y is = get_set xs at x y is

sum_put : {A : Type 0} (used : A → ℕ) (xs : List A) (at : ℕ) (x y : A) → slice_get xs at ≡ Some x → sum_of used (slice_set xs at y) + used x ≡ sum_of used xs + used y
sum_put used [] at x y is = cc
sum_put used (z ∷ xs) zero x y is = let e : z ≡ x = cc in let u : used z ≡ used x = ap used e in omega (arith, u)
sum_put used (z ∷ xs) (suc at) x y is = omega (arith, sum_put used xs at x y is)

-- what is put there is changed as what was there
change_put : {A B : Type 0} (F : A → B) (f : B → B) (xs : List A) (at : ℕ) (x y : A) → slice_get xs at ≡ Some x → f (F y) ≡ f (F x) → change_at at f (map F (slice_set xs at y)) ≡ change_at at f (map F xs)
change_put F f [] at x y is same = cc
change_put F f (z ∷ xs) zero x y is same = let e : z ≡ x = cc in ap (λ b. b ∷ map F xs) (same ∙ ap (λ a. f (F a)) (sym e))
change_put F f (z ∷ xs) (suc at) x y is same = ap (λ bs. F z ∷ bs) (change_put F f xs at x y is same)

-- the first that passes is changed at its place
pub changed_first : {A : Type 0} (p : A → Bool) (f : A → A) (xs : List A) (at : ℕ) → at ≡ position_or_len p xs → change_at at f xs ≡ change_first p f xs
changed_first p f [] at place = refl
changed_first {A = A} p f (x ∷ xs) at place = go (p x) at place (λ at. changed_first p f xs at)
  where
    go : (b : Bool) (at : ℕ) → at ≡ cond (not b) (1 + position_or_len p xs) 0 → ((at : ℕ) → at ≡ position_or_len p xs → change_at at f xs ≡ change_first p f xs) → change_at at f (x ∷ xs) ≡ cond b (f x ∷ xs) (x ∷ change_first p f xs)
    go true zero place more = refl
    go true (suc at) place more = cc
    go false zero place more = absurd (omega (arith, place))
    go false (suc at) place more = ap (λ ys. x ∷ ys) (more at (omega (arith, place)))

-- A MARK IS RESERVED

pub reserved_buffers : (n : List ℕ) (o : Option ℕ) (id : ℕ) (ks ls : List MarkedBuffer) → IsReserved n o id ks ls → buffers_of ls ≡ buffers_of ks
reserved_buffers n None id ks ls h = buffers_marked n h.marks ks ls h.shape
reserved_buffers n (Some m) id ks ls h = ap buffers_of h.1

pub reserved_stay : (n : List ℕ) (o : Option ℕ) (id : ℕ) (ks ls : List MarkedBuffer) → HasBuffer n ks → IsReserved n o id ks ls → MarksStay ks ls
reserved_stay n None id ks ls kept h = λ m i used after. ap or_zero (stays_added n 0 id ks ls m i kept h used)
reserved_stay n (Some k) id ks ls kept h = λ m i used after. ap (λ (s : List MarkedBuffer). mark_at m s i) h.1

-- it is counted once more where it is new
pub reserved_uses : (o : Option ℕ) (x : WindowMarks) (id : ℕ) (ks ls : List MarkedBuffer) → x.mark ≡ o → HasBuffer x.name ks → IsReserved x.name o id ks ls → (m : List ℕ) (i : ℕ) → in_use m i ls + window_marks_uses m i (Some x) ≡ in_use m i ks + window_marks_uses m i (Some (mark_set id x))
reserved_uses None x id ks ls is kept h m i =
    omega (arith, in_use_added x.name 0 id ks ls m i kept h, with_mark_uses x.name m i id x refl is)
reserved_uses (Some k) x id ks ls is kept h m i =
    let state : x.mark ≡ Some id = is ∙ ap (λ (j : ℕ). Some j) (sym h.0) in
    let same : window_marks_uses m i (Some x) ≡ window_marks_uses m i (Some (mark_set id x)) =
    ap (λ (q : Option ℕ). let y : WindowMarks = record x { mark = q } in window_marks_uses m i (Some y)) state in
    let uses : in_use m i ls ≡ in_use m i ks = ap (in_use m i) h.1 in
    omega (arith, same, uses)

pub reserved_more : (o : Option ℕ) (x : WindowMarks) (id : ℕ) (ks ls : List MarkedBuffer) → x.mark ≡ o → HasBuffer x.name ks → IsReserved x.name o id ks ls → (m : List ℕ) (i : ℕ) → in_use m i ks ≤ in_use m i ls
reserved_more None x id ks ls is kept h m i = omega (arith, in_use_added x.name 0 id ks ls m i kept h)
reserved_more (Some k) x id ks ls is kept h m i = let uses : in_use m i ls ≡ in_use m i ks = ap (in_use m i) h.1 in omega (arith, uses)

-- it is in use
pub reserved_mark : (o : Option ℕ) (id : ℕ) (ks ls : List MarkedBuffer) (xs : List Session) (at : ℕ) (h : Session) (x : WindowMarks) → x.mark ≡ o → IsSound ks xs → HasBuffer x.name ks → slice_get xs at ≡ Some h → window_marks_of h ≡ Some x → IsReserved x.name o id ks ls → IsMark x.name id ls
reserved_mark None id ks ls xs at h x is sound kept there sel r = added_mark x.name 0 id ks ls kept r
reserved_mark (Some k) id ks ls xs at h x is sound kept there sel r =
    subst (IsMark x.name id) (sym r.1) (acting_mark ks xs at x id sound (ap (option_and_then window_marks_of) there ∙ sel) (mark_used x id (is ∙ ap (λ (j : ℕ). Some j) (sym r.0))))

-- the sessions are as before
pub reserved_sessions : (x : WindowMarks) (id : ℕ) (ks ls : List MarkedBuffer) (xs : List Session) → IsSound ks xs → HasBuffer x.name ks → IsReserved x.name x.mark id ks ls → map (session_of ls) xs ≡ map (session_of ks) xs
reserved_sessions x id ks ls xs sound kept h =
    let before = sound_in_use ks xs sound in
    sessions_stay ks ls xs before (in_use_more ks ls xs (reserved_more x.mark x id ks ls refl kept h) before) (same_sizes ks ls (reserved_buffers x.name x.mark id ks ls h)) (reserved_stay x.name x.mark id ks ls kept h)

-- GIVEN UP AGAIN

pub reserved_given_up : (n : List ℕ) (o : Option ℕ) (id : ℕ) (ks ls ms : List MarkedBuffer) → HasBuffer n ks → IsReserved n o id ks ls → IsGivenUp n o id ls ms → WindowMarksDropped None ks ms
reserved_given_up n None id ks ls ms kept h g = undone n 0 id ks ls ms kept h g
reserved_given_up n (Some k) id ks ls ms kept h g =
    let same : ms ≡ ks = g ∙ h.1 in
    record {
      buffers = ap buffers_of same;
      uses = λ m i. let uses : in_use m i ms ≡ in_use m i ks = ap (in_use m i) same in omega (arith, uses);
      stay = λ m i used after. ap (λ (s : List MarkedBuffer). mark_at m s i) same;
    }

pub given_up_sessions : (ks ms : List MarkedBuffer) (xs : List Session) → WindowMarksDropped None ks ms → IsSound ks xs → map (session_of ms) xs ≡ map (session_of ks) xs
given_up_sessions ks ms xs h sound =
    sessions_stay ks ms xs (sound_in_use ks xs sound) (record { once = λ m i. omega (arith, sound.once m i, h.uses m i) }) (same_sizes ks ms h.buffers) h.stay

-- A WINDOW HAS IT

window_uses_marked : (m : List ℕ) (i id k : ℕ) (x : WindowMarks) (ws : List Window) → option_and_then (λ (w : Window). w.shows) (slice_get ws k) ≡ Some x → sum_of (window_uses m i) (change_at k (marked id) ws) + window_marks_uses m i (Some x) ≡ sum_of (window_uses m i) ws + window_marks_uses m i (Some (mark_set id x))
window_uses_marked m i id k x [] is = cc
window_uses_marked m i id zero x (w ∷ ws) is =
    let before : window_uses m i w ≡ window_marks_uses m i (Some x) = ap (window_marks_uses m i) is in
    let after : window_uses m i (marked id w) ≡ window_marks_uses m i (Some (mark_set id x)) = ap (λ (o : Option WindowMarks). window_marks_uses m i (option_map (mark_set id) o)) is in
    omega (arith, before, after)
window_uses_marked m i id (suc k) x (w ∷ ws) is = omega (arith, window_uses_marked m i id k x ws is)

window_marked : (id k : ℕ) (x : WindowMarks) (ws : List Window) → option_and_then (λ (w : Window). w.shows) (slice_get ws k) ≡ Some x → option_and_then (λ (w : Window). w.shows) (slice_get (change_at k (marked id) ws) k) ≡ Some (mark_set id x)
window_marked id k x [] is = cc
window_marked id zero x (w ∷ ws) is = ap (option_map (mark_set id)) is
window_marked id (suc k) x (w ∷ ws) is = window_marked id k x ws is

-- the sessions with the mark that was reserved use what is in use
pub reserved_sound : (x : WindowMarks) (id : ℕ) (ks ls : List MarkedBuffer) (xs : List Session) (at : ℕ) (h : Session) → IsSound ks xs → HasBuffer x.name ks → slice_get xs at ≡ Some h → window_marks_of h ≡ Some x → IsReserved x.name x.mark id ks ls → IsSound ls (slice_set xs at (session_marked id h))
reserved_sound x id ks ls xs at h sound kept there sel r = record {
  once = λ m i. omega (arith, sound.once m i, sum_put (session_uses m i) xs at h (session_marked id h) there, window_uses_marked m i id h.windows.selected x h.windows.windows sel, reserved_uses x.mark x id ks ls refl kept r m i);
}

-- IT IS SET

-- what a window with the mark uses of it
mark_once : (id : ℕ) (x : WindowMarks) → window_marks_uses x.name id (Some (mark_set id x)) ≡ one_if (nat_eq x.point id) + 1 + one_if (nat_eq x.top id)
mark_once id x =
    let s : same_name x.name x.name ≡ true = is_same x.name x.name refl in
    rw (s, one_use id id refl) refl

shown_marked : (p id : ℕ) (ks : List MarkedBuffer) (height : ℕ) (x : WindowMarks) → IsMark x.name id ks → window_marks_uses x.name id (Some (mark_set id x)) ≤ 1 → window_shown (change_first (marked_named x.name) (marked_placed id p) ks) height (Some (mark_set id x)) NoRows ≡ window_adjusted None Keep_position (Mark_at p) Keep_position None (window_shown ks height (Some (mark_set id x)) NoRows)
shown_marked p id ks height x mark once =
    let u = mark_once id x in
    let a : one_if (nat_eq x.point id) ≡ 0 = omega (arith, u, once) in
    let t : one_if (nat_eq x.top id) ≡ 0 = omega (arith, u, once) in
    same_window (Buffer_of x.name) _ _ _ _ _ _ 0 height
    (mark_unused x.name x.name id p ks x.point (λ s. apart_from x.point id a))
    (ap (λ (q : ℕ). Some q) (mark_placed x.name id p ks mark))
    (mark_unused x.name x.name id p ks x.top (λ s. apart_from x.top id t))

-- in the session that has it
session_mark_placed : (p id : ℕ) (ks : List MarkedBuffer) (y : Session) (x : WindowMarks) → window_marks_of y ≡ Some (mark_set id x) → IsMark x.name id ks → session_uses x.name id y ≤ 1 → session_of (change_first (marked_named x.name) (marked_placed id p) ks) y ≡ mark_at_place p (session_of ks y)
session_mark_placed p id ks y x sel mark once =
    session_placed id p (window_adjusted None Keep_position (Mark_at p) Keep_position None) ks y (mark_set id x) sel (omega (arith, mark_once id x)) (λ most height. shown_marked p id ks height x mark most) once

-- what the mark was does not matter
windows_marked : (p id k : ℕ) (ks : List MarkedBuffer) (ws : List Window) → change_at k (window_adjusted None Keep_position (Mark_at p) Keep_position None) (map (window_of ks) (change_at k (marked id) ws)) ≡ change_at k (window_adjusted None Keep_position (Mark_at p) Keep_position None) (map (window_of ks) ws)
windows_marked p id k ks [] = refl
windows_marked p id zero ks (w ∷ ws) = ap (λ v. v ∷ map (window_of ks) ws) (one w.height w.shows w.rows)
  where
    one : (height : ℕ) (o : Option WindowMarks) (rows : RowPane) → window_adjusted None Keep_position (Mark_at p) Keep_position None (window_shown ks height (option_map (mark_set id) o) rows) ≡ window_adjusted None Keep_position (Mark_at p) Keep_position None (window_shown ks height o rows)
    one height None rows = refl
    one height (Some x) rows = refl
windows_marked p id (suc k) ks (w ∷ ws) = ap (λ vs. window_of ks w ∷ vs) (windows_marked p id k ks ws)

-- THE SESSIONS AFTERWARDS: the mark of one selected window is at p, whatever came between its reservation and now
pub sessions_marked : (p id : ℕ) (ls : List MarkedBuffer) (xs : List Session) (at : ℕ) (h : Session) (x : WindowMarks) → slice_get xs at ≡ Some h → window_marks_of h ≡ Some x → IsMark x.name id ls → IsSound ls (slice_set xs at (session_marked id h)) → map (session_of (change_first (marked_named x.name) (marked_placed id p) ls)) (slice_set xs at (session_marked id h)) ≡ change_at at (mark_at_place p) (map (session_of ls) xs)
sessions_marked p id ls xs at h x there sel mark sound =
    let n = x.name in
    let y = session_marked id h in
    let ys = slice_set xs at y in
    let sel_y : window_marks_of y ≡ Some (mark_set id x) = window_marked id h.windows.selected x h.windows.windows sel in
    let there_y = get_set xs at h y there in
    let one : in_use n id ls ≡ 1 = ap one_if mark in
    let got = selected_window (slice_get y.windows.windows y.windows.selected) (mark_set id x) sel_y in
    let used_is : window_uses n id got.0 ≡ window_marks_uses n id (Some (mark_set id x)) = ap (window_marks_uses n id) got.2 in
    let in_windows = sum_at (window_uses n id) got.0 y.windows.windows y.windows.selected got.1 in
    let u = mark_once id x in
    let in_all = sum_at (session_uses n id) y ys at there_y in
    let all : uses n id ys ≡ in_use n id ls = sound.once n id in
    map_used_at (session_uses n id) (session_of (change_first (marked_named n) (marked_placed id p) ls)) (session_of ls) (mark_at_place p) (session_unused n id p ls) y (omega (arith, used_is, in_windows, u)) (session_mark_placed p id ls y x sel_y mark (omega (arith, in_all, all, one))) ys at there_y (omega (arith, all, one))
    ∙ change_put (session_of ls) (mark_at_place p) xs at h y there (ap (λ (ws : List model.Window). let s : model.Session = record (session_of ls h) { windows = ws } in s) (windows_marked p id h.windows.selected ls h.windows.windows))

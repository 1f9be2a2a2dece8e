-- A window comes to show a buffer: what is seen of its session, and the marks that it uses.
use Rattle.std.proofs.Common.{◌≡◌, ℕ, zero, suc, ◌+◌, ◌<◌, ◌≤◌, Bool, true, false, cond, List, [], ◌∷◌, length, map, Option, Some, None, get_or, refl, sym, ap, subst, ◌∙◌, arith}
use Rattle.std.specs.Prelude.{find, slice_get, slice_set, IfSome}
use Rattle.std.specs.List.{position_or_len}
use Rattle.std.specs.Option.{option_map, option_and_then}
use Rattle.mgs_model.specs.Access.{Directory}
use Rattle.mgs_model.specs.Names.{same_name}
use Rattle.mgs_model.specs.World.{World, Buffer_of, find_session, has_id}
use Rattle.mgs_model.specs.World as model
use Rattle.mgs_model.specs.Apply.{change_at, change_first, place_in, place_mark, place_point, window_at}
use Rattle.mgs_model.proofs.Blind.{is_name, same_names}
use Rattle.mgs_model.proofs.Firsts.{find-map}
use Rattle.mgs_buffers.specs.MarkedBuffer.{MarkedBuffer, mark_at}
use Rattle.mgs_windows.specs.Panes as panes
use Rattle.mgs_windows.specs.Panes.{WindowList, height_at, is_place_in, places_after, rows_at, shows_at, with_place}
use Rattle.mgs_windows.specs.declared.WindowMarks.{WindowMarks}
use Rattle.mgs_windows.specs.declared.Window.{Window}
use Rattle.mgs_session.specs.declared.Session.{Session}
use Rattle.mgs_world.specs.Worlds.{place_of, session_id, session_of, window_of, world_of}
use Rattle.mgs_world.specs.Only.{nothing_held}
use Rattle.mgs_world.specs.Sound.{IsSessionSound, IsShownSound, IsSound, in_use, place_uses, session_uses, sum_of, window_marks_uses, window_uses}
use Rattle.mgs_world.specs.WindowMarks.{WindowMarksAdded, WindowMarksDropped}
use Rattle.mgs_world.proofs.WindowMarks.{place_local, same_sizes, session_local}
use Rattle.mgs_world.proofs.Only.{only_world, sound_but}
use Rattle.mgs_world.proofs.Sessions.{session_some}
use Rattle.mgs_world.proofs.Worlds.{same_positions}
use Rattle.mgs_arrange.specs.Arranged.{left_by}
use Rattle.mgs_arrange.specs.Arranging.{Rearranged}
use Rattle.mgs_arrange.specs.Showing.{coming, is_shown, standing, standing_mark, standing_point, window_shows}
use Rattle.mgs_arrange.proofs.WindowsGone.{after_uses, height_shown, map_changed, places_seen, window_seen}
use Rattle.mgs_arrange.proofs.WindowsSplit.{shown_uses}

-- WHERE THE SESSION STANDS

-- a place that is put is found
put_there : (x : WindowMarks) (ps : List WindowMarks) → find (is_place_in x.name) (with_place x ps) ≡ Some x
put_there x [] = ap (λ b. cond b (Some x) None) (is_name x.name)
put_there x (q ∷ qs) = by (same_name x.name q.name) refl (put_there x qs)
  where
    by : (b : Bool) → same_name x.name q.name ≡ b → find (is_place_in x.name) (with_place x qs) ≡ Some x → find (is_place_in x.name) (cond b (x ∷ qs) (q ∷ with_place x qs)) ≡ Some x
    by true is later = ap (λ b. cond b (Some x) (find (is_place_in x.name) qs)) (is_name x.name)
    by false is later = ap (λ b. cond b (Some q) (find (is_place_in x.name) (with_place x qs))) is ∙ later

-- and one in another buffer is passed over
found_elsewhere : (name : List ℕ) (x : WindowMarks) (ps : List WindowMarks) → same_name name x.name ≡ false → find (is_place_in name) (with_place x ps) ≡ find (is_place_in name) ps
found_elsewhere name x [] e = ap (λ b. cond b (Some x) None) e
found_elsewhere name x (q ∷ qs) e = by (same_name x.name q.name) refl (found_elsewhere name x qs e)
  where
    by : (b : Bool) → same_name x.name q.name ≡ b → find (is_place_in name) (with_place x qs) ≡ find (is_place_in name) qs → find (is_place_in name) (cond b (x ∷ qs) (q ∷ with_place x qs)) ≡ find (is_place_in name) (q ∷ qs)
    by true is later =
        ap (λ b. cond b (Some x) (find (is_place_in name) qs)) e
        ∙ sym (ap (λ b. cond b (Some q) (find (is_place_in name) qs)) (ap (same_name name) (sym (same_names x.name q.name is)) ∙ e))
    by false is later = ap (cond (same_name name q.name) (Some q)) later

pub standing_shown : (name : List ℕ) (w : WindowList) (x : Window) → slice_get w.windows w.selected ≡ Some x → is_shown name x.shows ≡ true → standing name w ≡ x.shows
standing_shown name w x e is = ap (λ o. find (is_place_in name) (places_after (option_and_then (λ (v : Window). v.shows) o) w.places)) e ∙ by x.shows is
  where
    by : (o : Option WindowMarks) → is_shown name o ≡ true → find (is_place_in name) (places_after o w.places) ≡ o
    by None is = cc
    by (Some y) is = subst (λ n. find (is_place_in n) (with_place y w.places) ≡ Some y) (sym (same_names name y.name is)) (put_there y w.places)

pub standing_left : (name : List ℕ) (w : WindowList) (x : Window) → slice_get w.windows w.selected ≡ Some x → is_shown name x.shows ≡ false → standing name w ≡ find (is_place_in name) w.places
standing_left name w x e is = ap (λ o. find (is_place_in name) (places_after (option_and_then (λ (v : Window). v.shows) o) w.places)) e ∙ by x.shows is
  where
    by : (o : Option WindowMarks) → is_shown name o ≡ false → find (is_place_in name) (places_after o w.places) ≡ find (is_place_in name) w.places
    by None is = refl
    by (Some y) is = found_elsewhere name y w.places is

-- it has its name, and its marks are among those of the places
found_named : (name : List ℕ) (ps : List WindowMarks) (x : WindowMarks) → find (is_place_in name) ps ≡ Some x → x.name ≡ name
found_named name [] x e = cc
found_named name (q ∷ qs) x e = by (same_name name q.name) refl e (found_named name qs x)
  where
    by : (b : Bool) → same_name name q.name ≡ b → cond b (Some q) (find (is_place_in name) qs) ≡ Some x → (find (is_place_in name) qs ≡ Some x → x.name ≡ name) → x.name ≡ name
    by true is e later =
        let same : q ≡ x = cc in
        ap (λ (y : WindowMarks). y.name) (sym same) ∙ sym (same_names name q.name is)
    by false is e later = later e

found_uses : (m : List ℕ) (i : ℕ) (name : List ℕ) (ps : List WindowMarks) → window_marks_uses m i (find (is_place_in name) ps) ≤ sum_of (place_uses m i) ps
found_uses m i name [] = omega arith
found_uses m i name (q ∷ qs) = by (same_name name q.name) (found_uses m i name qs)
  where
    by : (b : Bool) → window_marks_uses m i (find (is_place_in name) qs) ≤ sum_of (place_uses m i) qs → window_marks_uses m i (cond b (Some q) (find (is_place_in name) qs)) ≤ sum_of (place_uses m i) (q ∷ qs)
    by true later = omega arith
    by false later = omega (arith, later)

pub standing_named : (name : List ℕ) (w : WindowList) → IfSome (standing name w) (λ x. x.name ≡ name)
standing_named name w = by (standing name w) refl
  where
    by : (o : Option WindowMarks) → standing name w ≡ o → IfSome o (λ x. x.name ≡ name)
    by None e = tt
    by (Some x) e = found_named name (places_after (shows_at w.selected w.windows) w.places) x e

standing_uses : (m : List ℕ) (i : ℕ) (name : List ℕ) (x : Session) → x.windows.selected < length x.windows.windows → window_marks_uses m i (standing name x.windows) ≤ session_uses m i x
standing_uses m i name x within =
    omega (arith, found_uses m i name (places_after (shows_at x.windows.selected x.windows.windows) x.windows.places), after_uses m i (shows_at x.windows.selected x.windows.windows) x.windows.places, shown_uses m i x.windows.selected x.windows.windows)

pub standing_sound : (ks : List MarkedBuffer) (name : List ℕ) (x : Session) → x.windows.selected < length x.windows.windows → IsSessionSound ks x → IsShownSound ks (standing name x.windows)
standing_sound ks name x within sound = record { once = λ m i. omega (arith, sound.once m i, standing_uses m i name x within) }

-- it is seen so, where its marks stay
stands_still : (ks ls : List MarkedBuffer) (o : Option WindowMarks) → ((n : List ℕ) (i : ℕ) → 1 ≤ window_marks_uses n i o → mark_at n ks i ≡ mark_at n ls i) → option_map (place_of ks) o ≡ option_map (place_of ls) o
stands_still ks ls None still = refl
stands_still ks ls (Some x) still = ap Some (place_local ks ls x still)

-- THE MARKS THAT ARE USED

abbrev shown_there : WindowMarks → Window → Window
shown_there y x = record x { shows = Some y }

-- the session whose selected window comes to these marks
abbrev pub shown_session : ℕ → WindowMarks → Session → Session
shown_session capacity y x =
    record x {
      windows = record x.windows {
        windows = change_at x.windows.selected (shown_there y) x.windows.windows;
        places = places_after (shows_at x.windows.selected x.windows.windows) x.windows.places;
        capacity = capacity;
      };
    }

-- the place that another takes
abbrev pub given_up : Session → Option WindowMarks
given_up x = panes.left_by (shows_at x.windows.selected x.windows.windows) x.windows.places

there_uses : (m : List ℕ) (i : ℕ) (y : WindowMarks) (k : ℕ) (xs : List Window) → k < length xs → sum_of (window_uses m i) (change_at k (shown_there y) xs) + window_marks_uses m i (shows_at k xs) ≡ sum_of (window_uses m i) xs + window_marks_uses m i (Some y)
there_uses m i y k [] within = absurd (omega (arith, within))
there_uses m i y zero (x ∷ xs) within = omega arith
there_uses m i y (suc k) (x ∷ xs) within = omega (arith, there_uses m i y k xs (omega (arith, within)))

-- what comes and what is given up
came_uses : (m : List ℕ) (i capacity : ℕ) (y : WindowMarks) (x : Session) → x.windows.selected < length x.windows.windows → session_uses m i (shown_session capacity y x) + window_marks_uses m i (given_up x) ≡ session_uses m i x + window_marks_uses m i (Some y)
came_uses m i capacity y x within =
    omega (arith, there_uses m i y x.windows.selected x.windows.windows within, after_uses m i (shows_at x.windows.selected x.windows.windows) x.windows.places)

module _ (name : List ℕ) (p : ℕ) (q : Option ℕ) (capacity : ℕ) (y : WindowMarks) (x : Session) (ks ls : List MarkedBuffer) (within : x.windows.selected < length x.windows.windows) (sound : IsSessionSound ks x) (added : WindowMarksAdded name p q 0 y ks ls) where
  -- the place that is given up was used
  pub before_sound : IsShownSound ls (given_up x)
  before_sound = record { once = λ m i. omega (arith, sound.once m i, added.uses m i, came_uses m i capacity y x within) }

  -- SEEN

  -- what the session used stays where it was
  used_stay : (n : List ℕ) (i : ℕ) → 1 ≤ session_uses n i x → mark_at n ls i ≡ mark_at n ks i
  used_stay n i used = added.stay n i (omega (arith, used, sound.once n i)) (omega (arith, used, sound.once n i, added.uses n i))

  module _ (ms : List MarkedBuffer) (dropped : WindowMarksDropped (given_up x) ls ms) where
    pub shown_rearranged : Rearranged ks ms x (shown_session capacity y x)
    shown_rearranged = record {
      buffers = dropped.buffers ∙ added.buffers;
      uses = λ m i. omega (arith, added.uses m i, dropped.uses m i, came_uses m i capacity y x within);
      stay = λ m i state before after. dropped.stay m i (omega (arith, before, added.uses m i)) after ∙ added.stay m i before (omega (arith, before, added.uses m i));
      size = refl;
    }

    -- the marks of the session afterwards are in use
    still_used : (n : List ℕ) (i : ℕ) → 1 ≤ session_uses n i (shown_session capacity y x) → mark_at n ms i ≡ mark_at n ls i
    still_used n i used =
        let most : session_uses n i (shown_session capacity y x) ≤ in_use n i ms = omega (arith, sound.once n i, added.uses n i, dropped.uses n i, came_uses n i capacity y x within) in
        dropped.stay n i (omega (arith, used, most, dropped.uses n i)) (omega (arith, used, most))

    module _ (point : p ≡ standing_point ks (standing name x.windows)) (mark : q ≡ standing_mark ks (standing name x.windows)) where
      -- the places afterwards, and where the session stands among them
      places_left : map (place_of ls) (places_after (shows_at x.windows.selected x.windows.windows) x.windows.places) ≡ left_by (window_at x.windows.selected (map (window_of ls) x.windows.windows)) (map (place_of ls) x.windows.places)
      places_left =
          places_seen ls (height_at x.windows.selected x.windows.windows) (shows_at x.windows.selected x.windows.windows) (rows_at x.windows.selected x.windows.windows) x.windows.places
          ∙ ap (λ (w : model.Window). left_by w (map (place_of ls) x.windows.places)) (sym (window_seen ls x.windows.selected x.windows.windows within))

      stood : place_in name (left_by (window_at x.windows.selected (map (window_of ls) x.windows.windows)) (map (place_of ls) x.windows.places)) ≡ option_map (place_of ks) (standing name x.windows)
      stood =
          ap (place_in name) (sym places_left)
          ∙ find-map (place_of ls) (is_place_in name) (λ (r : model.Place). same_name name r.name) (λ r. refl) (places_after (shows_at x.windows.selected x.windows.windows) x.windows.places)
          ∙ stands_still ls ks (standing name x.windows) (λ n i used. used_stay n i (omega (arith, used, standing_uses n i name x within)))

      -- the window that comes
      comer_seen : (w : Window) → window_of ls (shown_there y w) ≡ coming name (left_by (window_at x.windows.selected (map (window_of ls) x.windows.windows)) (map (place_of ls) x.windows.places)) (window_of ls w)
      comer_seen w =
          let points : mark_at y.name ls y.point ≡ place_point (place_in name (left_by (window_at x.windows.selected (map (window_of ls) x.windows.windows)) (map (place_of ls) x.windows.places))) =
          ap (λ n. mark_at n ls y.point) added.named ∙ added.point ∙ point ∙ sym (ap place_point stood) in
          let marks : option_map (mark_at y.name ls) y.mark ≡ place_mark (place_in name (left_by (window_at x.windows.selected (map (window_of ls) x.windows.windows)) (map (place_of ls) x.windows.places))) =
          ap (λ n. option_map (mark_at n ls) y.mark) added.named ∙ added.mark ∙ mark ∙ sym (ap place_mark stood) in
          let tops : mark_at y.name ls y.top ≡ 0 = ap (λ n. mark_at n ls y.top) added.named ∙ added.top in
          λ t. record { shows = Buffer_of (added.named t); point = points t; mark = marks t; top = tops t; row = 0; height = sym (height_shown ls w.height w.shows w.rows) t }

      pub shown_seen : session_of ms (shown_session capacity y x) ≡ window_shows name (session_of ks x)
      shown_seen =
          session_local ms ls (shown_session capacity y x) (same_sizes ls ms dropped.buffers) still_used
          ∙ same_positions (session_of ls x) _ _ _ _ _ _
          (map_changed (window_of ls) (shown_there y) (coming name (left_by (window_at x.windows.selected (map (window_of ls) x.windows.windows)) (map (place_of ls) x.windows.places))) x.windows.selected x.windows.windows comer_seen)
          places_left
          refl
          ∙ ap (window_shows name) (session_local ls ks x (same_sizes ks ls added.buffers) used_stay)

-- THE WORLD AFTERWARDS

-- what is made of one session as it is seen
pub made_world : (f : model.Session → model.Session) (d : Directory) (ks ls : List MarkedBuffer) (xs : List Session) (next : Option ℕ) (id at : ℕ) (x y : Session) (z : model.Session) → IsSound ks xs → at ≡ position_or_len (session_id id) xs → x ≡ get_or xs at x → at < length xs → Rearranged ks ls x y
    → session_of ls y ≡ f (session_of ks x) → find_session id (world_of d ks xs next).sessions ≡ Some z → world_of d ls (slice_set xs at y) next ≡ (let w = world_of d ks xs next in let v : World = record w { sessions = change_first (has_id id) (λ old. f z) w.sessions } in v)
made_world f d ks ls xs next id at x y z sound place is within h shown found =
    let same : session_of ks x ≡ z = cc (sym (session_some d ks xs next id at x place within is) ∙ found) in
    only_world nothing_held d ks ls xs next id at x y (λ old. f z) (sound_but ks xs sound) place is within h (shown ∙ ap f same)

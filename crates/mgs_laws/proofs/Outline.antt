-- Erasing closed buffers, and of other users' sessions all but that they are there: what the users' acts do is blind to it.
use Rattle.std.proofs.Common.{◌≡◌, ℕ, zero, suc, List, [], ◌∷◌, length, map, not, refl, sym, ap, ◌∙◌, Bool, true, false, cond, Option, Some, None}
use Rattle.std.specs.List.{list_any}
use Rattle.std.specs.Option.{option_map}
use Rattle.mgs_model.specs.Names.{same_name}
use Rattle.mgs_model.specs.Text.{shift}
use Rattle.mgs_model.specs.World.{World, Buffer, Session, Window, Place, Search, State, first_state, Shows, Nothing, Buffer_of, Listing, List_of}
use Rattle.mgs_model.specs.Outcome.{Outcome, PointPlan, Keep_position, At, At_origin, MarkPlan, Keep_mark, Mark_at, SearchPlan, Keep_search, No_search, Begin, Anchor_at, Source, Old, Come, Slot, is_old, Arrange, Stay, Adjust, Slots, Effect, Edit, Kill}
use Rattle.mgs_model.specs.Apply.{owners_after, buffer_unmodified, is_in, is_of, window_moved, place_moved, search_moved, session_moved, empty_window, window_without_buffer, is_searched, state_without_search, session_without_buffer, session_after, set_place, left_places, places_left, place_in, place_point, place_mark, comer, window_at, source_window, has_positions, origin_or, point_after, mark_after, row_after, window_adjusted, window_put, windows_arranged, places_arranged, selected_arranged, search_after, search_arranged, is_search_mode, kill_after, session_arranged}
use Rattle.mgs_model.specs.Events.{state_set}
use Rattle.mgs_model.specs.declared.owners.Owners.{Owners}
use Rattle.mgs_model.specs.declared.entry.Entry.{Entry}
use Rattle.mgs_laws.proofs.Edits.{buffer_made, place_made, search_made, window_made}
use Rattle.mgs_laws.proofs.Erasing.{IsErasing, IsForgetting}
use Rattle.mgs_model.proofs.Moved.{same_choice}
use Rattle.mgs_model.proofs.Blind.{Blind-map, Blind-change_at, Blind-filter, map_both, map_fixed, same_names}

-- THE OUTLINE

abbrev pub erase_if : Bool → Buffer → Buffer
erase_if h b = record b { text = cond h [] b.text; items = cond h [] b.items; serial = cond h 0 b.serial; modified = cond h false b.modified }

-- a closed buffer without its text, record, last serial and flag
abbrev pub erase : (List ℕ → Bool) → Buffer → Buffer
erase shut b = erase_if (shut b.name) b

abbrev pub shows_shut : (List ℕ → Bool) → Shows → Bool
shows_shut shut (Buffer_of name) = shut name
shows_shut shut _ = false

abbrev pub forget_window_if : Bool → Window → Window
forget_window_if f x = record { shows = x.shows; point = cond f 0 x.point; mark = cond f None x.mark; top = cond f 0 x.top; row = x.row; height = x.height }

-- a window without its positions in a closed buffer
abbrev pub forget_window : (List ℕ → Bool) → Window → Window
forget_window shut x = forget_window_if (shows_shut shut x.shows) x

abbrev pub forget_place_if : Bool → Place → Place
forget_place_if f x = record { name = x.name; point = cond f 0 x.point; mark = cond f None x.mark }

abbrev pub forget_place : (List ℕ → Bool) → Place → Place
forget_place shut x = forget_place_if (shut x.name) x

abbrev pub forget_search_if : Bool → Search → Search
forget_search_if f x = record { name = x.name; origin = cond f 0 x.origin; anchor = cond f 0 x.anchor }

abbrev pub forget_search : (List ℕ → Bool) → Option Search → Option Search
forget_search shut None = None
forget_search shut (Some x) = Some (forget_search_if (shut x.name) x)

-- of a session of the users all but its positions in closed buffers; of another that it is there, and whose it is
abbrev pub forget_if : Bool → (List ℕ → Bool) → Session → Session
forget_if o shut x =
    record {
      id = x.id;
      user = x.user;
      rows = cond o x.rows 0;
      cols = cond o x.cols 0;
      windows = cond o (map (forget_window shut) x.windows) [];
      selected = cond o x.selected 0;
      places = cond o (map (forget_place shut) x.places) [];
      search = cond o (forget_search shut x.search) None;
      kill = cond o x.kill [];
      state = cond o x.state first_state;
    }

abbrev pub forget : (List ℕ → Bool) → (List ℕ → Bool) → Session → Session
forget users shut x = forget_if (users x.user) shut x

abbrev pub outline : (List ℕ → Bool) → (List ℕ → Bool) → World → World
outline users shut w = record w { buffers = map (erase shut) w.buffers; sessions = map (forget users shut) w.sessions }

-- BUFFERS

erase_erase : (h : Bool) (x : Buffer) → erase_if h (erase_if h x) ≡ erase_if h x
erase_erase true x = refl
erase_erase false x = refl

pub erase_same : (shut : List ℕ → Bool) (x : Buffer) → erase shut (erase shut x) ≡ erase shut x
erase_same shut x = erase_erase (shut x.name) x

erase_made : (h : Bool) (a b : ℕ) (put : List ℕ) (x : Buffer) → erase_if h (buffer_made a b put x) ≡ erase_if h (buffer_made a b put (erase_if h x))
erase_made true a b put x = refl
erase_made false a b put x = refl

erase_unmodified : (h : Bool) (x : Buffer) → erase_if h (buffer_unmodified x) ≡ erase_if h (buffer_unmodified (erase_if h x))
erase_unmodified true x = refl
erase_unmodified false x = refl

erase_list_set : (h : Bool) (entries : List Entry) (x : Buffer) → erase_if h (record x { entries = entries }) ≡ erase_if h (record (erase_if h x) { entries = entries })
erase_list_set true entries x = refl
erase_list_set false entries x = refl

erase_owners_set : (h : Bool) (owners : Owners) (x : Buffer) → erase_if h (record x { owners = owners }) ≡ erase_if h (record (erase_if h x) { owners = owners })
erase_owners_set true owners x = refl
erase_owners_set false owners x = refl

pub erase_erasing : (shut : List ℕ → Bool) → IsErasing (erase shut)
erase_erasing shut =
    record {
      twice = erase_same shut;
      name = λ x. refl;
      seen = λ d user x. refl;
      made = λ a b put x. erase_made (shut x.name) a b put x;
      unmodified = λ x. erase_unmodified (shut x.name) x;
      listed = λ entries x. erase_list_set (shut x.name) entries x;
      owned = λ new x. erase_owners_set (shut x.name) (owners_after new x.owners) x;
    }

-- FORGETTING TWICE

forget_window_twice : (f : Bool) (x : Window) → forget_window_if f (forget_window_if f x) ≡ forget_window_if f x
forget_window_twice true x = refl
forget_window_twice false x = refl

forget_window_same : (shut : List ℕ → Bool) (x : Window) → forget_window shut (forget_window shut x) ≡ forget_window shut x
forget_window_same shut x = forget_window_twice (shows_shut shut x.shows) x

forget_windows : (shut : List ℕ → Bool) (xs : List Window) → map (forget_window shut) xs ≡ map (forget_window shut) (map (forget_window shut) xs)
forget_windows shut xs = map_fixed (forget_window shut) (forget_window_same shut) xs

forget_place_twice : (f : Bool) (x : Place) → forget_place_if f (forget_place_if f x) ≡ forget_place_if f x
forget_place_twice true x = refl
forget_place_twice false x = refl

forget_place_same : (shut : List ℕ → Bool) (x : Place) → forget_place shut (forget_place shut x) ≡ forget_place shut x
forget_place_same shut x = forget_place_twice (shut x.name) x

pub forget_places : (shut : List ℕ → Bool) (xs : List Place) → map (forget_place shut) xs ≡ map (forget_place shut) (map (forget_place shut) xs)
forget_places shut xs = map_fixed (forget_place shut) (forget_place_same shut) xs

forget_search_twice : (f : Bool) (x : Search) → forget_search_if f (forget_search_if f x) ≡ forget_search_if f x
forget_search_twice true x = refl
forget_search_twice false x = refl

pub forget_search_same : (shut : List ℕ → Bool) (o : Option Search) → forget_search shut (forget_search shut o) ≡ forget_search shut o
forget_search_same shut None = refl
forget_search_same shut (Some x) = ap Some (forget_search_twice (shut x.name) x)

forget_twice : (o : Bool) (shut : List ℕ → Bool) (x : Session) → forget_if o shut x ≡ forget_if o shut (forget_if o shut x)
forget_twice true shut x =
    λ i. record x {
      windows = forget_windows shut x.windows i;
      places = forget_places shut x.places i;
      search = sym (forget_search_same shut x.search) i;
    }
forget_twice false shut x = refl

-- POSITIONS THAT GO BY AN EFFECT

forget_made : (h : Bool) (move : ℕ → ℕ) (x : Window) → forget_window_if h (window_made move x) ≡ forget_window_if h (window_made move (forget_window_if h x))
forget_made true move x = refl
forget_made false move x = refl

forget_moved : (shut : List ℕ → Bool) (name : List ℕ) (move : ℕ → ℕ) (x : Window) → forget_window shut (window_moved name move x) ≡ forget_window shut (window_moved name move (forget_window shut x))
forget_moved shut name move x =
    same_choice (forget_window shut) (is_in name x.shows) (window_made move x) x (window_made move (forget_window shut x)) (forget_window shut x) (forget_made (shows_shut shut x.shows) move x) (sym (forget_window_same shut x))

forget_place_made : (h : Bool) (move : ℕ → ℕ) (x : Place) → forget_place_if h (place_made move x) ≡ forget_place_if h (place_made move (forget_place_if h x))
forget_place_made true move x = refl
forget_place_made false move x = refl

forget_place_moved : (shut : List ℕ → Bool) (name : List ℕ) (move : ℕ → ℕ) (x : Place) → forget_place shut (place_moved name move x) ≡ forget_place shut (place_moved name move (forget_place shut x))
forget_place_moved shut name move x =
    same_choice (forget_place shut) (same_name name x.name) (place_made move x) x (place_made move (forget_place shut x)) (forget_place shut x) (forget_place_made (shut x.name) move x) (sym (forget_place_same shut x))

forget_search_made : (h : Bool) (move : ℕ → ℕ) (x : Search) → forget_search_if h (search_made move x) ≡ forget_search_if h (search_made move (forget_search_if h x))
forget_search_made true move x = refl
forget_search_made false move x = refl

forget_search_moved : (shut : List ℕ → Bool) (name : List ℕ) (move : ℕ → ℕ) (o : Option Search) → forget_search shut (option_map (search_moved name move) o) ≡ forget_search shut (option_map (search_moved name move) (forget_search shut o))
forget_search_moved shut name move None = refl
forget_search_moved shut name move (Some x) =
    let kept : Search = forget_search_if (shut x.name) x in
    same_choice (λ y. forget_search shut (Some y)) (same_name name x.name) (search_made move x) x (search_made move kept) kept (ap Some (forget_search_made (shut x.name) move x)) (sym (forget_search_same shut (Some x)))

-- a window whose buffer is gone shows nothing
forget_without_buffer : (shut : List ℕ → Bool) (name : List ℕ) (x : Window) → forget_window shut (window_without_buffer name x) ≡ forget_window shut (window_without_buffer name (forget_window shut x))
forget_without_buffer shut name x =
    same_choice (forget_window shut) (is_of name x.shows) (record empty_window { height = x.height }) x (record empty_window { height = x.height }) (forget_window shut x) refl (sym (forget_window_same shut x))

searched_forget : (shut : List ℕ → Bool) (name : List ℕ) (o : Option Search) → is_searched name o ≡ is_searched name (forget_search shut o)
searched_forget shut name None = refl
searched_forget shut name (Some x) = refl

forget_search_without_buffer : (shut : List ℕ → Bool) (f : Bool) (o : Option Search) → forget_search shut (cond f None o) ≡ forget_search shut (cond f None (forget_search shut o))
forget_search_without_buffer shut true o = refl
forget_search_without_buffer shut false o = sym (forget_search_same shut o)

forget_moved_session : (o : Bool) (shut : List ℕ → Bool) (name : List ℕ) (move : ℕ → ℕ) (x : Session) → forget_if o shut (session_moved name move x) ≡ forget_if o shut (session_moved name move (forget_if o shut x))
forget_moved_session false shut name move x = refl
forget_moved_session true shut name move x =
    λ i. record x {
      windows = Blind-map (forget_window shut) (forget_window shut) (window_moved name move) (forget_moved shut name move) x.windows i;
      places = Blind-map (forget_place shut) (forget_place shut) (place_moved name move) (forget_place_moved shut name move) x.places i;
      search = forget_search_moved shut name move x.search i;
    }

forget_session_without_buffer : (o : Bool) (shut : List ℕ → Bool) (name : List ℕ) (x : Session) → forget_if o shut (session_without_buffer name x) ≡ forget_if o shut (session_without_buffer name (forget_if o shut x))
forget_session_without_buffer false shut name x = refl
forget_session_without_buffer true shut name x =
    λ i. record x {
      windows = Blind-map (forget_window shut) (forget_window shut) (window_without_buffer name) (forget_without_buffer shut name) x.windows i;
      places = Blind-filter (forget_place shut) (forget_place_same shut) (λ p. not (same_name name p.name)) (λ p. refl) x.places i;
      search = (forget_search_without_buffer shut (is_searched name x.search) x.search ∙ ap (λ f. forget_search shut (cond f None (forget_search shut x.search))) (searched_forget shut name x.search)) i;
      state = cond (searched_forget shut name x.search i) (state_without_search x.state) x.state;
    }

forget_after : (o : Bool) (shut : List ℕ → Bool) (e : Effect) (x : Session) → forget_if o shut (session_after e x) ≡ forget_if o shut (session_after e (forget_if o shut x))
forget_after o shut (Edit name a b put) x = forget_moved_session o shut name (shift a b (length put)) x
forget_after o shut (Kill name) x = forget_session_without_buffer o shut name x
forget_after o shut _ x = forget_twice o shut x

-- THE ACTING SESSION

set_place_forget : (shut : List ℕ → Bool) (q : Place) (ps : List Place) → map (forget_place shut) (set_place q ps) ≡ set_place (forget_place shut q) (map (forget_place shut) ps)
set_place_forget shut q [] = refl
set_place_forget shut q (p ∷ ps) = put (same_name q.name p.name) (set_place_forget shut q ps)
  where
    put : (c : Bool) → map (forget_place shut) (set_place q ps) ≡ set_place (forget_place shut q) (map (forget_place shut) ps) → map (forget_place shut) (cond c (q ∷ ps) (p ∷ set_place q ps)) ≡ cond c (forget_place shut q ∷ map (forget_place shut) ps) (forget_place shut p ∷ set_place (forget_place shut q) (map (forget_place shut) ps))
    put true ih = refl
    put false ih = ap (λ r. forget_place shut p ∷ r) ih

left_forget : (shut : List ℕ → Bool) (x : Window) (ps qs : List Place) → map (forget_place shut) ps ≡ map (forget_place shut) qs → map (forget_place shut) (left_places x.shows x.point x.mark ps) ≡ map (forget_place shut) (left_places x.shows (forget_window shut x).point (forget_window shut x).mark qs)
left_forget shut x ps qs e = by_shows x.shows
  where
    by_shows : (shows : Shows) → map (forget_place shut) (left_places shows x.point x.mark ps) ≡ map (forget_place shut) (left_places shows (cond (shows_shut shut shows) 0 x.point) (cond (shows_shut shut shows) None x.mark) qs)
    by_shows (Buffer_of n) =
        set_place_forget shut (record { name = n; point = x.point; mark = x.mark }) ps
        ∙ (λ i. set_place (sym (forget_place_twice (shut n) (record { name = n; point = x.point; mark = x.mark })) i) (e i))
        ∙ sym (set_place_forget shut (record { name = n; point = cond (shut n) 0 x.point; mark = cond (shut n) None x.mark }) qs)
    by_shows Nothing = e
    by_shows Listing = e
    by_shows (List_of n) = e

places_left_forget : (shut : List ℕ → Bool) (i : ℕ) (slots : List Slot) (xs : List Window) (ps qs : List Place) → map (forget_place shut) ps ≡ map (forget_place shut) qs → map (forget_place shut) (places_left i slots xs ps) ≡ map (forget_place shut) (places_left i slots (map (forget_window shut) xs) qs)
places_left_forget shut i slots [] ps qs e = e
places_left_forget shut i slots (x ∷ xs) ps qs e =
    places_left_forget shut (suc i) slots xs (cond (list_any (is_old i) slots) ps (left_places x.shows x.point x.mark ps)) (cond (list_any (is_old i) slots) qs (left_places x.shows (forget_window shut x).point (forget_window shut x).mark qs)) (choose (list_any (is_old i) slots))
  where
    choose : (c : Bool) → map (forget_place shut) (cond c ps (left_places x.shows x.point x.mark ps)) ≡ map (forget_place shut) (cond c qs (left_places x.shows (forget_window shut x).point (forget_window shut x).mark qs))
    choose true = e
    choose false = left_forget shut x ps qs e

pub cond_twice : {A : Type 0} (f : Bool) (z x : A) → cond f z x ≡ cond f z (cond f z x)
cond_twice true z x = refl
cond_twice false z x = refl

cond_same : {A : Type 0} (f g : Bool) (z x : A) → g ≡ f → cond f z x ≡ cond f z (cond g z x)
cond_same true true z x e = refl
cond_same true false z x e = refl
cond_same false true z x e = cc
cond_same false false z x e = refl

point_forget : (shut : List ℕ → Bool) (n : List ℕ) (ps : List Place) → cond (shut n) 0 (place_point (place_in n ps)) ≡ cond (shut n) 0 (place_point (place_in n (map (forget_place shut) ps)))
point_forget shut n [] = refl
point_forget shut n (p ∷ ps) = look (same_name n p.name) refl (point_forget shut n ps)
  where
    look : (c : Bool) → same_name n p.name ≡ c → cond (shut n) 0 (place_point (place_in n ps)) ≡ cond (shut n) 0 (place_point (place_in n (map (forget_place shut) ps))) → cond (shut n) 0 (place_point (cond c (Some p) (place_in n ps))) ≡ cond (shut n) 0 (place_point (cond c (Some (forget_place shut p)) (place_in n (map (forget_place shut) ps))))
    look true e ih = cond_same (shut n) (shut p.name) 0 p.point (sym (ap shut (same_names n p.name e)))
    look false e ih = ih

mark_forget : (shut : List ℕ → Bool) (n : List ℕ) (ps : List Place) → cond (shut n) None (place_mark (place_in n ps)) ≡ cond (shut n) None (place_mark (place_in n (map (forget_place shut) ps)))
mark_forget shut n [] = refl
mark_forget shut n (p ∷ ps) = look (same_name n p.name) refl (mark_forget shut n ps)
  where
    look : (c : Bool) → same_name n p.name ≡ c → cond (shut n) None (place_mark (place_in n ps)) ≡ cond (shut n) None (place_mark (place_in n (map (forget_place shut) ps))) → cond (shut n) None (place_mark (cond c (Some p) (place_in n ps))) ≡ cond (shut n) None (place_mark (cond c (Some (forget_place shut p)) (place_in n (map (forget_place shut) ps))))
    look true e ih = cond_same (shut n) (shut p.name) None p.mark (sym (ap shut (same_names n p.name e)))
    look false e ih = ih

comer_one : (shut : List ℕ → Bool) (shows : Shows) (ps : List Place) → forget_window shut (comer shows ps) ≡ forget_window shut (comer shows (map (forget_place shut) ps))
comer_one shut (Buffer_of n) ps = λ i. record { shows = Buffer_of n; point = point_forget shut n ps i; mark = mark_forget shut n ps i; top = cond (shut n) 0 0; row = 0; height = 0 }
comer_one shut Nothing ps = refl
comer_one shut Listing ps = refl
comer_one shut (List_of n) ps = refl

comer_forget : (shut : List ℕ → Bool) (shows : Shows) (ps qs : List Place) → map (forget_place shut) ps ≡ map (forget_place shut) qs → forget_window shut (comer shows ps) ≡ forget_window shut (comer shows qs)
comer_forget shut shows ps qs e = comer_one shut shows ps ∙ ap (λ r. forget_window shut (comer shows r)) e ∙ sym (comer_one shut shows qs)

origin_one : (f g e : Bool) (s : Search) (old : ℕ) → (e ≡ true → f ≡ g) → cond f 0 (cond e s.origin old) ≡ cond f 0 (cond e (cond g 0 s.origin) (cond f 0 old))
origin_one true g e s old p = refl
origin_one false g false s old p = refl
origin_one false false true s old p = refl
origin_one false true true s old p = let q : false ≡ true = p refl in cc

origin_forget : (shut : List ℕ → Bool) (shows : Shows) (search : Option Search) (old : ℕ) → cond (shows_shut shut shows) 0 (origin_or shows search old) ≡ cond (shows_shut shut shows) 0 (origin_or shows (forget_search shut search) (cond (shows_shut shut shows) 0 old))
origin_forget shut shows None old = cond_twice (shows_shut shut shows) 0 old
origin_forget shut (Buffer_of m) (Some s) old = origin_one (shut m) (shut s.name) (same_name s.name m) s old (λ e. sym (ap shut (same_names s.name m e)))
origin_forget shut Nothing (Some s) old = refl
origin_forget shut Listing (Some s) old = refl
origin_forget shut (List_of m) (Some s) old = refl

positions_forget : (shut : List ℕ → Bool) (shows : Shows) (search : Option Search) (plan : PointPlan) (old : ℕ) → cond (shows_shut shut shows) 0 (point_after shows search plan old) ≡ cond (shows_shut shut shows) 0 (point_after shows (forget_search shut search) plan (cond (shows_shut shut shows) 0 old))
positions_forget shut shows search Keep_position old = cond_twice (shows_shut shut shows) 0 old
positions_forget shut shows search (At p) old = at_one (shows_shut shut shows) (has_positions shows)
  where
    at_one : (f c : Bool) → cond f 0 (cond c p old) ≡ cond f 0 (cond c p (cond f 0 old))
    at_one true c = refl
    at_one false c = refl
positions_forget shut shows search At_origin old = origin_forget shut shows search old

mark_positions_forget : (shut : List ℕ → Bool) (shows : Shows) (plan : MarkPlan) (old : Option ℕ) → cond (shows_shut shut shows) None (mark_after shows plan old) ≡ cond (shows_shut shut shows) None (mark_after shows plan (cond (shows_shut shut shows) None old))
mark_positions_forget shut shows Keep_mark old = cond_twice (shows_shut shut shows) None old
mark_positions_forget shut shows (Mark_at p) old = at_one (shows_shut shut shows) (has_positions shows)
  where
    at_one : (f c : Bool) → cond f None (cond c (Some p) old) ≡ cond f None (cond c (Some p) (cond f None old))
    at_one true c = refl
    at_one false c = refl

put_forget : (shut : List ℕ → Bool) (slot : Slot) (search : Option Search) (x : Window) → forget_window shut (window_put slot search x) ≡ forget_window shut (window_put slot (forget_search shut search) (forget_window shut x))
put_forget shut slot search x =
    λ i. record {
      shows = x.shows;
      point = positions_forget shut x.shows search slot.point x.point i;
      mark = mark_positions_forget shut x.shows slot.mark x.mark i;
      top = positions_forget shut x.shows search slot.top x.top i;
      row = row_after slot.row x.row;
      height = slot.height;
    }

adjusted_forget : (shut : List ℕ → Bool) (search : Option Search) (point : PointPlan) (mark : MarkPlan) (top : PointPlan) (row : Option ℕ) (x : Window) → forget_window shut (window_adjusted search point mark top row x) ≡ forget_window shut (window_adjusted (forget_search shut search) point mark top row (forget_window shut x))
adjusted_forget shut search point mark top row x =
    λ i. record {
      shows = x.shows;
      point = positions_forget shut x.shows search point x.point i;
      mark = mark_positions_forget shut x.shows mark x.mark i;
      top = positions_forget shut x.shows search top x.top i;
      row = row_after row x.row;
      height = x.height;
    }

window_at_forget : (shut : List ℕ → Bool) (i : ℕ) (xs : List Window) → forget_window shut (window_at i xs) ≡ window_at i (map (forget_window shut) xs)
window_at_forget shut i [] = refl
window_at_forget shut zero (x ∷ xs) = refl
window_at_forget shut (suc i) (x ∷ xs) = window_at_forget shut i xs

source_forget : (shut : List ℕ → Bool) (source : Source) (xs : List Window) (ps qs : List Place) → map (forget_place shut) ps ≡ map (forget_place shut) qs → forget_window shut (source_window source xs ps) ≡ forget_window shut (source_window source (map (forget_window shut) xs) qs)
source_forget shut (Old i) xs ps qs e = sym (forget_window_same shut (window_at i xs)) ∙ ap (forget_window shut) (window_at_forget shut i xs)
source_forget shut (Come shows) xs ps qs e = comer_forget shut shows ps qs e

slot_forget : (shut : List ℕ → Bool) (slot : Slot) (search : Option Search) (xs : List Window) (ps qs : List Place) → map (forget_place shut) ps ≡ map (forget_place shut) qs → forget_window shut (window_put slot search (source_window slot.source xs ps)) ≡ forget_window shut (window_put slot (forget_search shut search) (source_window slot.source (map (forget_window shut) xs) qs))
slot_forget shut slot search xs ps qs e =
    put_forget shut slot search (source_window slot.source xs ps)
    ∙ (λ i. forget_window shut (window_put slot (sym (forget_search_same shut search) i) (source_forget shut slot.source xs ps qs e i)))
    ∙ sym (put_forget shut slot (forget_search shut search) (source_window slot.source (map (forget_window shut) xs) qs))

windows_forget : (shut : List ℕ → Bool) (arrange : Arrange) (x : Session) → map (forget_window shut) (windows_arranged arrange x) ≡ map (forget_window shut) (windows_arranged arrange (forget_if true shut x))
windows_forget shut Stay x = forget_windows shut x.windows
windows_forget shut (Adjust point mark top row sought) x =
    Blind-change_at (forget_window shut) (forget_window_same shut) (window_adjusted x.search point mark top row) (window_adjusted (forget_search shut x.search) point mark top row) (adjusted_forget shut x.search point mark top row) x.selected x.windows
windows_forget shut (Slots slots selected sought) x =
    map_both (forget_window shut)
    (λ slot. window_put slot x.search (source_window slot.source x.windows (places_left 0 slots x.windows x.places)))
    (λ slot. window_put slot (forget_search shut x.search) (source_window slot.source (map (forget_window shut) x.windows) (places_left 0 slots (map (forget_window shut) x.windows) (map (forget_place shut) x.places))))
    (λ slot. slot_forget shut slot x.search x.windows (places_left 0 slots x.windows x.places) (places_left 0 slots (map (forget_window shut) x.windows) (map (forget_place shut) x.places)) (places_left_forget shut 0 slots x.windows x.places (map (forget_place shut) x.places) (forget_places shut x.places)))
    slots

places_forget : (shut : List ℕ → Bool) (arrange : Arrange) (x : Session) → map (forget_place shut) (places_arranged arrange x) ≡ map (forget_place shut) (places_arranged arrange (forget_if true shut x))
places_forget shut (Slots slots selected sought) x = places_left_forget shut 0 slots x.windows x.places (map (forget_place shut) x.places) (forget_places shut x.places)
places_forget shut Stay x = forget_places shut x.places
places_forget shut (Adjust point mark top row sought) x = forget_places shut x.places

selected_forget : (shut : List ℕ → Bool) (arrange : Arrange) (x : Session) → selected_arranged arrange x ≡ selected_arranged arrange (forget_if true shut x)
selected_forget shut (Slots slots selected sought) x = refl
selected_forget shut Stay x = refl
selected_forget shut (Adjust point mark top row sought) x = refl

search_after_forget : (shut : List ℕ → Bool) (plan : SearchPlan) (o : Option Search) → forget_search shut (search_after plan o) ≡ forget_search shut (search_after plan (forget_search shut o))
search_after_forget shut Keep_search o = sym (forget_search_same shut o)
search_after_forget shut No_search o = refl
search_after_forget shut (Begin n p a) o = refl
search_after_forget shut (Anchor_at p) None = refl
search_after_forget shut (Anchor_at p) (Some x) = choose (shut x.name)
  where
    choose : (f : Bool) → Some (forget_search_if f (record x { anchor = p })) ≡ Some (forget_search_if f (record (forget_search_if f x) { anchor = p }))
    choose true = refl
    choose false = refl

search_arranged_forget : (shut : List ℕ → Bool) (arrange : Arrange) (x : Session) → forget_search shut (search_arranged arrange x) ≡ forget_search shut (search_arranged arrange (forget_if true shut x))
search_arranged_forget shut Stay x = sym (forget_search_same shut x.search)
search_arranged_forget shut (Adjust point mark top row sought) x = search_after_forget shut sought x.search
search_arranged_forget shut (Slots slots selected sought) x = search_after_forget shut sought x.search

search_if_forget : (c : Bool) (shut : List ℕ → Bool) (x y : Option Search) → forget_search shut x ≡ forget_search shut y → forget_search shut (cond c x None) ≡ forget_search shut (cond c y None)
search_if_forget true shut x y e = e
search_if_forget false shut x y e = refl

forget_arranged : (o : Bool) (shut : List ℕ → Bool) (p : Outcome) (x : Session) → forget_if o shut (session_arranged p x) ≡ forget_if o shut (session_arranged p (forget_if o shut x))
forget_arranged false shut p x = refl
forget_arranged true shut p x =
    λ i. record {
      id = x.id;
      user = x.user;
      rows = x.rows;
      cols = x.cols;
      windows = windows_forget shut p.arrange x i;
      selected = selected_forget shut p.arrange x i;
      places = places_forget shut p.arrange x i;
      search = search_if_forget (is_search_mode p.state.mode) shut (search_arranged p.arrange x) (search_arranged p.arrange (forget_if true shut x)) (search_arranged_forget shut p.arrange x) i;
      kill = kill_after p.kill x.kill;
      state = p.state;
    }

-- EVERY SESSION

forget_state : (o : Bool) (shut : List ℕ → Bool) (f : State → State) (x : Session) → forget_if o shut (state_set f x) ≡ forget_if o shut (state_set f (forget_if o shut x))
forget_state false shut f x = refl
forget_state true shut f x =
    λ i. record (state_set f x) {
      windows = forget_windows shut x.windows i;
      places = forget_places shut x.places i;
      search = search_if_forget (is_search_mode (f x.state).mode) shut x.search (forget_search shut x.search) (sym (forget_search_same shut x.search)) i;
    }

pub forgetting : (shut : List ℕ → Bool) → IsForgetting (λ o x. forget_if o shut x)
forgetting shut =
    record {
      once = λ o x. forget_twice o shut x;
      whose = λ o x. refl;
      same_id = λ o x. refl;
      state = λ o g x. forget_state o shut g x;
      after = λ o e x. forget_after o shut e x;
      arranged = λ o p x. forget_arranged o shut p x;
    }

-- ACT: what is decided from the view is done to the world.
use Rattle.std.specs.Prelude.{ℕ, zero, suc, ◌+◌, Bool, true, false, not, List, [], ◌∷◌, ◌++◌, map, filter, find, length, take, Option, Some, None, if◌then◌else◌}
use Rattle.std.specs.List.{list_any}
use Rattle.std.specs.Option.{option_map}
use Rattle.mgs_model.specs.Names.{same_name}
use Rattle.mgs_model.specs.Text.{edited, removed, shift, is_edit}
use Rattle.mgs_model.specs.Rights.{all_rights, mask_of}
use Rattle.mgs_model.specs.Access.{owners_of}
use Rattle.mgs_model.specs.declared.owners.Owners.{Owners}
use Rattle.mgs_model.specs.World.{World, Item, Buffer, most_items, State, Session, Window, Place, Search, Shows, Nothing, Buffer_of, List_of, is_named, has_id}
use Rattle.mgs_model.specs.View.{view_of}
use Rattle.mgs_model.specs.Outcome.{Act, Outcome, PointPlan, Keep_position, At, At_origin, MarkPlan, Keep_mark, Mark_at, SearchPlan, Keep_search, No_search, Begin, Anchor_at, KillPlan, Keep_kill, Kill_is, Source, Old, Come, Slot, is_old, Arrange, Stay, Adjust, Slots, Effect, No_effect, Edit, Unmodified, SetList, SetOwners, Create, Kill, Save, Quit}
use Rattle.mgs_model.specs.declared.owners.NewOwner.{NewOwner}
use Rattle.mgs_model.specs.declared.owners.NewOwner.TheVariants.{ToUser, ToGroup}
use Rattle.mgs_model.specs.Acts.{outcome}
use Rattle.mgs_model.specs.declared.entry.Entry.{Entry}
use Rattle.mgs_model.specs.declared.entry.EntryType.TheVariants.{Allow}
use Rattle.mgs_model.specs.declared.entry.Who.TheVariants.{Owner}
use Rattle.mgs_model.specs.declared.session.Mode.{Mode}
use Rattle.mgs_model.specs.declared.session.Mode.TheVariants.{Plain, Prompt, Searching, Replacing}

-- the first element that passes, changed
abbrev pub change_first : {A : Type 0} → (A → Bool) → (A → A) → List A → List A
change_first p f [] = []
change_first p f (x ∷ xs) = if p x then f x ∷ xs else x ∷ change_first p f xs

-- the first that passes, taken out
abbrev pub remove_first : {A : Type 0} → (A → Bool) → List A → List A
remove_first p [] = []
remove_first p (x ∷ xs) = if p x then xs else x ∷ remove_first p xs

-- the element at an index, changed
abbrev pub change_at : {A : Type 0} → ℕ → (A → A) → List A → List A
change_at n f [] = []
change_at zero f (x ∷ xs) = f x ∷ xs
change_at (suc n) f (x ∷ xs) = x ∷ change_at n f xs

-- BUFFERS

abbrev pub item_for : ℕ → ℕ → List ℕ → Buffer → Item
item_for a b put x = record { serial = x.serial + 1; place = a; removed = removed a b x.text; put = length put }

-- what takes out nothing and puts in nothing is no edit
abbrev pub buffer_edited : ℕ → ℕ → List ℕ → Buffer → Buffer
buffer_edited a b put x =
    if is_edit a b put
    then record x {
      text = edited a b put x.text;
      items = take most_items (item_for a b put x ∷ x.items);
      serial = x.serial + 1;
      modified = true;
    }
    else x

abbrev pub buffer_unmodified : Buffer → Buffer
buffer_unmodified x = record x { modified = false }

abbrev pub owners_after : NewOwner → Owners → Owners
owners_after (ToUser user) owners = record owners { owner = user }
owners_after (ToGroup group) owners = record owners { group = group }

-- everything to the owner; there is no owning group
abbrev pub first_entries : List Entry
first_entries = record { entry_type = Allow; who = Owner; mask = mask_of all_rights } ∷ []

abbrev pub new_buffer : List ℕ → List ℕ → Buffer
new_buffer name owner = record { name = name; owners = owners_of owner None; entries = first_entries; text = []; items = []; serial = 0; modified = false; file = false }

abbrev pub without_buffer : List ℕ → List Buffer → List Buffer
without_buffer name buffers = remove_first (is_named name) buffers

abbrev pub buffers_after : Effect → List Buffer → List Buffer
buffers_after No_effect buffers = buffers
buffers_after (Edit name a b put) buffers = change_first (is_named name) (buffer_edited a b put) buffers
buffers_after (Unmodified name) buffers = change_first (is_named name) buffer_unmodified buffers
buffers_after (SetList name entries) buffers = change_first (is_named name) (λ x. record x { entries = entries }) buffers
buffers_after (SetOwners name new) buffers = change_first (is_named name) (λ x. record x { owners = owners_after new x.owners }) buffers
buffers_after (Create name owner) buffers = buffers ++ new_buffer name owner ∷ []
buffers_after (Kill name) buffers = without_buffer name buffers
buffers_after (Save name text) buffers = change_first (is_named name) buffer_unmodified buffers
buffers_after Quit buffers = buffers

-- POSITIONS OF EVERY SESSION

abbrev pub is_in : List ℕ → Shows → Bool
is_in name (Buffer_of other) = same_name name other
is_in name _ = false

abbrev pub window_moved : List ℕ → (ℕ → ℕ) → Window → Window
window_moved name move x =
    if is_in name x.shows then record x { point = move x.point; mark = option_map move x.mark; top = move x.top } else x

abbrev pub place_moved : List ℕ → (ℕ → ℕ) → Place → Place
place_moved name move x = if same_name name x.name then record x { point = move x.point; mark = option_map move x.mark } else x

abbrev pub search_moved : List ℕ → (ℕ → ℕ) → Search → Search
search_moved name move x = if same_name name x.name then record x { origin = move x.origin; anchor = move x.anchor } else x

-- every position in the buffer goes by the shift
abbrev pub session_moved : List ℕ → (ℕ → ℕ) → Session → Session
session_moved name move x =
    record x {
      windows = map (window_moved name move) x.windows;
      places = map (place_moved name move) x.places;
      search = option_map (search_moved name move) x.search;
    }

-- the buffer or its list is shown
abbrev pub is_of : List ℕ → Shows → Bool
is_of name (Buffer_of other) = same_name name other
is_of name (List_of other) = same_name name other
is_of name _ = false

abbrev pub empty_window : Window
empty_window = record { shows = Nothing; point = 0; mark = None; top = 0; row = 0; height = 0 }

abbrev pub window_without_buffer : List ℕ → Window → Window
window_without_buffer name x = if is_of name x.shows then record empty_window { height = x.height } else x

abbrev pub is_searched : List ℕ → Option Search → Bool
is_searched name None = false
is_searched name (Some x) = same_name name x.name

-- the mode of a search ends, and what was typed in it is forgotten; half-read keys stay, and a character that has begun goes on as a key
abbrev pub state_without_search : State → State
state_without_search state = record state { mode = Plain; input = []; old = []; count = 0 }

-- the buffer is gone: windows that show it or its list show nothing, places in it go, a search in it ends
abbrev pub session_without_buffer : List ℕ → Session → Session
session_without_buffer name x =
    record x {
      windows = map (window_without_buffer name) x.windows;
      places = filter (λ p. not (same_name name p.name)) x.places;
      search = if is_searched name x.search then None else x.search;
      state = if is_searched name x.search then state_without_search x.state else x.state;
    }

-- what an effect does to each session, the acting one too
abbrev pub session_after : Effect → Session → Session
session_after (Edit name a b put) x = session_moved name (shift a b (length put)) x
session_after (Kill name) x = session_without_buffer name x
session_after _ x = x

-- THE ACTING SESSION

abbrev pub set_place : Place → List Place → List Place
set_place p [] = p ∷ []
set_place p (q ∷ qs) = if same_name p.name q.name then p ∷ qs else q ∷ set_place p qs

-- a window that leaves a buffer leaves its point and mark as the session's place there
abbrev pub left_places : Shows → ℕ → Option ℕ → List Place → List Place
left_places (Buffer_of name) point mark places = set_place (record { name = name; point = point; mark = mark }) places
left_places _ point mark places = places

-- the windows that no slot names leave, from the top down
abbrev pub places_left : ℕ → List Slot → List Window → List Place → List Place
places_left i slots [] places = places
places_left i slots (x ∷ xs) places =
    places_left (suc i) slots xs (if list_any (is_old i) slots then places else left_places x.shows x.point x.mark places)

abbrev pub place_in : List ℕ → List Place → Option Place
place_in name places = find (λ p. same_name name p.name) places

abbrev pub place_point : Option Place → ℕ
place_point None = 0
place_point (Some p) = p.point

abbrev pub place_mark : Option Place → Option ℕ
place_mark None = None
place_mark (Some p) = p.mark

-- a window that comes to a buffer takes the session's place there
abbrev pub comer : Shows → List Place → Window
comer (Buffer_of name) places =
    record empty_window { shows = Buffer_of name; point = place_point (place_in name places); mark = place_mark (place_in name places) }
comer shows places = record empty_window { shows = shows }

abbrev pub window_at : ℕ → List Window → Window
window_at i [] = empty_window
window_at zero (x ∷ xs) = x
window_at (suc i) (x ∷ xs) = window_at i xs

abbrev pub source_window : Source → List Window → List Place → Window
source_window (Old i) windows places = window_at i windows
source_window (Come shows) windows places = comer shows places

-- a window that shows no buffer has no positions
abbrev pub has_positions : Shows → Bool
has_positions (Buffer_of name) = true
has_positions _ = false

abbrev pub origin_or : Shows → Option Search → ℕ → ℕ
origin_or shows None old = old
origin_or shows (Some x) old = if is_in x.name shows then x.origin else old

abbrev pub point_after : Shows → Option Search → PointPlan → ℕ → ℕ
point_after shows search Keep_position old = old
point_after shows search (At p) old = if has_positions shows then p else old
point_after shows search At_origin old = origin_or shows search old

abbrev pub mark_after : Shows → MarkPlan → Option ℕ → Option ℕ
mark_after shows Keep_mark old = old
mark_after shows (Mark_at p) old = if has_positions shows then Some p else old

abbrev pub row_after : Option ℕ → ℕ → ℕ
row_after None old = old
row_after (Some r) old = r

abbrev pub window_adjusted : Option Search → PointPlan → MarkPlan → PointPlan → Option ℕ → Window → Window
window_adjusted search point mark top row x =
    record x {
      point = point_after x.shows search point x.point;
      mark = mark_after x.shows mark x.mark;
      top = point_after x.shows search top x.top;
      row = row_after row x.row;
    }

abbrev pub window_put : Slot → Option Search → Window → Window
window_put slot search x = record (window_adjusted search slot.point slot.mark slot.top slot.row x) { height = slot.height }

abbrev pub windows_arranged : Arrange → Session → List Window
windows_arranged Stay x = x.windows
windows_arranged (Adjust point mark top row sought) x = change_at x.selected (window_adjusted x.search point mark top row) x.windows
windows_arranged (Slots slots selected sought) x =
    map (λ slot. window_put slot x.search (source_window slot.source x.windows (places_left 0 slots x.windows x.places))) slots

abbrev pub places_arranged : Arrange → Session → List Place
places_arranged (Slots slots selected sought) x = places_left 0 slots x.windows x.places
places_arranged _ x = x.places

abbrev pub selected_arranged : Arrange → Session → ℕ
selected_arranged (Slots slots selected sought) x = selected
selected_arranged _ x = x.selected

abbrev pub search_after : SearchPlan → Option Search → Option Search
search_after Keep_search old = old
search_after No_search old = None
search_after (Begin name origin anchor) old = Some (record { name = name; origin = origin; anchor = anchor })
search_after (Anchor_at place) old = option_map {T = Search} (λ x. record x { anchor = place }) old

abbrev pub search_arranged : Arrange → Session → Option Search
search_arranged Stay x = x.search
search_arranged (Adjust point mark top row sought) x = search_after sought x.search
search_arranged (Slots slots selected sought) x = search_after sought x.search

-- the positions of a search go with its mode
abbrev pub is_search_mode : Mode → Bool
is_search_mode Plain = false
is_search_mode (Prompt question) = false
is_search_mode (Searching d failing) = true
is_search_mode Replacing = true

abbrev pub kill_after : KillPlan → List ℕ → List ℕ
kill_after Keep_kill old = old
kill_after (Kill_is text) old = text

abbrev pub session_arranged : Outcome → Session → Session
session_arranged o x =
    record x {
      windows = windows_arranged o.arrange x;
      selected = selected_arranged o.arrange x;
      places = places_arranged o.arrange x;
      search = if is_search_mode o.state.mode then search_arranged o.arrange x else None;
      kill = kill_after o.kill x.kill;
      state = o.state;
    }

-- THE WORLD

abbrev pub without_session : ℕ → List Session → List Session
without_session id sessions = filter (λ x. not (has_id id x)) sessions

abbrev pub after_quit : Effect → ℕ → List Session → List Session
after_quit Quit id sessions = without_session id sessions
after_quit _ id sessions = sessions

-- first every position of every session goes by the effect, then the acting session's go by its plan
abbrev pub sessions_after : ℕ → Outcome → List Session → List Session
sessions_after id o sessions =
    after_quit o.effect id (change_first (has_id id) (session_arranged o) (map (session_after o.effect) sessions))

-- APPLY: buffers and sessions each go by themselves
abbrev pub apply : World → ℕ → Outcome → World
apply w id o = record w { buffers = buffers_after o.effect w.buffers; sessions = sessions_after id o w.sessions }

-- what an act of a session comes to, where it is open: decided from its view alone
abbrev pub outcome_in : World → ℕ → Act → Bool → Option Outcome
outcome_in w id c stored = option_map (λ v. outcome v c stored) (view_of w id)

abbrev pub applied : World → ℕ → Option Outcome → World
applied w id None = w
applied w id (Some o) = apply w id o

-- ACT of a session: what it does is decided from its view alone
abbrev pub act : World → ℕ → Act → Bool → World
act w id c stored = applied w id (outcome_in w id c stored)

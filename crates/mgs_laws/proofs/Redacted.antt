-- Erasing the tops of some windows: what an act does to the sessions is blind to them.
use Rattle.std.proofs.Common.{◌≡◌, ℕ, zero, suc, List, [], ◌∷◌, length, map, refl, sym, ap, ◌∙◌, Bool, true, false, cond, Option, None}
use Rattle.std.specs.List.{list_any}
use Rattle.mgs_model.specs.Text.{shift}
use Rattle.mgs_model.specs.Events.{state_set}
use Rattle.mgs_model.specs.World.{State, Session, Window, Place, Search}
use Rattle.mgs_model.specs.Outcome.{Outcome, PointPlan, MarkPlan, Source, Old, Come, Slot, is_old, Arrange, Stay, Adjust, Slots, Effect, Edit, Kill}
use Rattle.mgs_model.specs.Apply.{is_in, is_of, empty_window, window_moved, session_moved, window_without_buffer, session_without_buffer, session_after, left_places, places_left, window_at, source_window, window_adjusted, window_put, windows_arranged, places_arranged, selected_arranged, search_arranged, is_search_mode, kill_after, session_arranged}
use Rattle.mgs_laws.specs.Secrecy.{window_redacted, session_redacted_if}
use Rattle.mgs_laws.proofs.Edits.{window_made}
use Rattle.mgs_laws.proofs.Erasing.{IsForgetting}
use Rattle.mgs_model.proofs.Moved.{same_choice}
use Rattle.mgs_model.proofs.Blind.{Blind-map, Blind-change_at, map_both, map_fixed}

window_redacted_twice : (o : Bool) (x : Window) → window_redacted o (window_redacted o x) ≡ window_redacted o x
window_redacted_twice true x = refl
window_redacted_twice false x = refl

windows_redacted : (o : Bool) (xs : List Window) → map (window_redacted o) xs ≡ map (window_redacted o) (map (window_redacted o) xs)
windows_redacted o xs = map_fixed (window_redacted o) (window_redacted_twice o) xs

-- POSITIONS THAT GO BY AN EFFECT

redacted_moved : (o : Bool) (name : List ℕ) (move : ℕ → ℕ) (x : Window) → window_redacted o (window_moved name move x) ≡ window_redacted o (window_moved name move (window_redacted o x))
redacted_moved true name move x = refl
redacted_moved false name move x = same_choice (window_redacted false) (is_in name x.shows) (window_made move x) x (window_made move (window_redacted false x)) (window_redacted false x) refl refl

redacted_without_buffer : (o : Bool) (name : List ℕ) (x : Window) → window_redacted o (window_without_buffer name x) ≡ window_redacted o (window_without_buffer name (window_redacted o x))
redacted_without_buffer true name x = refl
redacted_without_buffer false name x =
    same_choice (window_redacted false) (is_of name x.shows) (record empty_window { height = x.height }) x (record empty_window { height = x.height }) (window_redacted false x) refl refl

redacted_unmoved : (o : Bool) (x : Session) → session_redacted_if o x ≡ session_redacted_if o (session_redacted_if o x)
redacted_unmoved o x = λ i. record x { windows = windows_redacted o x.windows i }

redacted_after : (o : Bool) (e : Effect) (x : Session) → session_redacted_if o (session_after e x) ≡ session_redacted_if o (session_after e (session_redacted_if o x))
redacted_after o (Edit name a b put) x =
    λ i. record (session_moved name (shift a b (length put)) x) {
      windows = Blind-map (window_redacted o) (window_redacted o) (window_moved name (shift a b (length put))) (redacted_moved o name (shift a b (length put))) x.windows i;
    }
redacted_after o (Kill name) x =
    λ i. record (session_without_buffer name x) { windows = Blind-map (window_redacted o) (window_redacted o) (window_without_buffer name) (redacted_without_buffer o name) x.windows i }
redacted_after o _ x = redacted_unmoved o x

-- THE ACTING SESSION

places_left_redacted : (o : Bool) (i : ℕ) (slots : List Slot) (xs : List Window) (ps : List Place) → places_left i slots (map (window_redacted o) xs) ps ≡ places_left i slots xs ps
places_left_redacted o i slots [] ps = refl
places_left_redacted o i slots (x ∷ xs) ps = places_left_redacted o (suc i) slots xs (cond (list_any (is_old i) slots) ps (left_places x.shows x.point x.mark ps))

redacted_put : (o : Bool) (slot : Slot) (search : Option Search) (x : Window) → window_redacted o (window_put slot search x) ≡ window_redacted o (window_put slot search (window_redacted o x))
redacted_put true slot search x = refl
redacted_put false slot search x = refl

redacted_adjusted : (o : Bool) (search : Option Search) (point : PointPlan) (mark : MarkPlan) (top : PointPlan) (row : Option ℕ) (x : Window) → window_redacted o (window_adjusted search point mark top row x) ≡ window_redacted o (window_adjusted search point mark top row (window_redacted o x))
redacted_adjusted true search point mark top row x = refl
redacted_adjusted false search point mark top row x = refl

window_at_redacted : (o : Bool) (i : ℕ) (xs : List Window) → window_redacted o (window_at i xs) ≡ window_at i (map (window_redacted o) xs)
window_at_redacted true i [] = refl
window_at_redacted false i [] = refl
window_at_redacted o zero (x ∷ xs) = refl
window_at_redacted o (suc i) (x ∷ xs) = window_at_redacted o i xs

redacted_slot : (o : Bool) (slot : Slot) (search : Option Search) (source : Source) (xs : List Window) (ps : List Place) → window_redacted o (window_put slot search (source_window source xs ps)) ≡ window_redacted o (window_put slot search (source_window source (map (window_redacted o) xs) ps))
redacted_slot o slot search (Old i) xs ps = redacted_put o slot search (window_at i xs) ∙ ap (λ y. window_redacted o (window_put slot search y)) (window_at_redacted o i xs)
redacted_slot o slot search (Come shows) xs ps = refl

redacted_arranged : (o : Bool) (arrange : Arrange) (x : Session) → map (window_redacted o) (windows_arranged arrange x) ≡ map (window_redacted o) (windows_arranged arrange (session_redacted_if o x))
redacted_arranged o Stay x = windows_redacted o x.windows
redacted_arranged o (Adjust point mark top row sought) x =
    Blind-change_at (window_redacted o) (window_redacted_twice o) (window_adjusted x.search point mark top row) (window_adjusted x.search point mark top row) (redacted_adjusted o x.search point mark top row) x.selected x.windows
redacted_arranged o (Slots slots selected sought) x =
    map_both (window_redacted o)
    (λ slot. window_put slot x.search (source_window slot.source x.windows (places_left 0 slots x.windows x.places)))
    (λ slot. window_put slot x.search (source_window slot.source (map (window_redacted o) x.windows) (places_left 0 slots (map (window_redacted o) x.windows) x.places)))
    (λ slot. redacted_slot o slot x.search slot.source x.windows (places_left 0 slots x.windows x.places) ∙ ap (λ ps. window_redacted o (window_put slot x.search (source_window slot.source (map (window_redacted o) x.windows) ps))) (sym (places_left_redacted o 0 slots x.windows x.places)))
    slots

places_redacted : (o : Bool) (arrange : Arrange) (x : Session) → places_arranged arrange x ≡ places_arranged arrange (session_redacted_if o x)
places_redacted o (Slots slots selected sought) x = sym (places_left_redacted o 0 slots x.windows x.places)
places_redacted o Stay x = refl
places_redacted o (Adjust point mark top row sought) x = refl

selected_redacted : (o : Bool) (arrange : Arrange) (x : Session) → selected_arranged arrange x ≡ selected_arranged arrange (session_redacted_if o x)
selected_redacted o (Slots slots selected sought) x = refl
selected_redacted o Stay x = refl
selected_redacted o (Adjust point mark top row sought) x = refl

search_redacted : (o : Bool) (arrange : Arrange) (x : Session) → search_arranged arrange x ≡ search_arranged arrange (session_redacted_if o x)
search_redacted o (Slots slots selected sought) x = refl
search_redacted o Stay x = refl
search_redacted o (Adjust point mark top row sought) x = refl

session_redacted_arranged : (o : Bool) (p : Outcome) (x : Session) → session_redacted_if o (session_arranged p x) ≡ session_redacted_if o (session_arranged p (session_redacted_if o x))
session_redacted_arranged o p x =
    λ i. record {
      id = x.id;
      user = x.user;
      rows = x.rows;
      cols = x.cols;
      windows = redacted_arranged o p.arrange x i;
      selected = selected_redacted o p.arrange x i;
      places = places_redacted o p.arrange x i;
      search = cond (is_search_mode p.state.mode) (search_redacted o p.arrange x i) None;
      kill = kill_after p.kill x.kill;
      state = p.state;
    }

redacted_state : (o : Bool) (f : State → State) (x : Session) → session_redacted_if o (state_set f x) ≡ session_redacted_if o (state_set f (session_redacted_if o x))
redacted_state true f x = λ i. record (state_set f x) { windows = map_fixed (window_redacted true) (λ y. refl) x.windows i }
redacted_state false f x = λ i. record (state_set f x) { windows = map_fixed (window_redacted false) (λ y. refl) x.windows i }

pub redacted_forgetting : IsForgetting session_redacted_if
redacted_forgetting =
    record { once = redacted_unmoved; whose = λ o x. refl; same_id = λ o x. refl; state = redacted_state; after = redacted_after; arranged = session_redacted_arranged }

-- What the model's outcomes are, through the window's marks of the selected window.
use Rattle.std.proofs.Common.{◌≡◌, ℕ, ◌+◌, ◌==◌, Bool, true, false, cond, List, [], ◌∷◌, length, map, Option, Some, None, refl, sym, ap, ◌∙◌, arith, eq-eqb}
use Rattle.std.specs.Prelude.{slice_get, Result, Ok, Err}
use Rattle.std.specs.Option.{option_map, option_and_then}
use Rattle.std.proofs.lemmas.List.Folds.{list_any_at}
use Rattle.std.proofs.lemmas.Option.{slice_get-map}
use Rattle.mgs_model.specs.Access.{Directory, Decider, decider, decision_by, allows, any_right}
use Rattle.mgs_model.specs.Rights.{all_rights, rights_in}
use Rattle.mgs_model.specs.World.{Item, Buffer, State, Shows, Listing, List_of}
use Rattle.mgs_model.specs.World as model
use Rattle.mgs_model.specs.View.{View, BufferSeen, WindowSeen, find_seen, view, reads, reads_found, buffer_seen, window_seen, positions_if, told_if, full_if, size_told, serial_told, text_in}
use Rattle.mgs_model.specs.Outcome.{Effect, Outcome, Unmodified}
use Rattle.mgs_model.specs.Outcome as outcomes
use Rattle.mgs_model.specs.Plans.{Around, Change, Finish, alteration, insertion, motion, reading_insertion, scrolling, undo}
use Rattle.mgs_model.specs.SearchCommands.{AroundSearch, SearchChange, SearchFinish, replace, seek}
use Rattle.mgs_model.specs.Acts.{Target, about, acts_at, around, around_search, deciders_found, edited_by, edits, effects, fails, has_rows, here, insertion_right, is_rows, items_in, judged, mark_seen, moved_by, moves, or_else, outcome, permitted, replaced_by, replaces_one, row_in, rules, scrolls_rows, seeks, selected_seen, shown_buffer, sought_by, target, target_in}
use Rattle.mgs_model.specs.declared.right.Right.{Right}
use Rattle.mgs_model.specs.declared.right.Right.TheVariants.{ReadData, WriteData, AppendData}
use Rattle.mgs_model.specs.declared.entry.Decision.{Decision}
use Rattle.mgs_model.specs.declared.entry.Decision.TheVariants.{Granted}
use Rattle.mgs_model.specs.declared.echo_text.Message.{Message}
use Rattle.mgs_model.specs.declared.echo_text.Message.TheVariants.{Says}
use Rattle.mgs_model.specs.declared.echo_text.Notice.TheVariants.{NoBuffer}
use Rattle.mgs_model.specs.declared.session.Command.{Command}
use Rattle.mgs_model.specs.declared.session.Command.TheVariants.{Insert, InsertReading, Move, Alter, Seek, Replace, Scroll, UndoEdit, NotModified}
use Rattle.mgs_model.specs.declared.session.Seeking.{Seeking}
use Rattle.mgs_model.specs.declared.session.Replacement.{Replacement}
use Rattle.mgs_model.proofs.Deciding.{granted_each}
use Rattle.mgs_buffers.specs.MarkedBuffer.{MarkedBuffer, HasBuffer, marked_at, mark_at}
use Rattle.mgs_windows.specs.declared.WindowMarks.{WindowMarks}
use Rattle.mgs_windows.specs.declared.Window.{Window}
use Rattle.mgs_windows.specs.declared.RowPane.{RowPane}
use Rattle.mgs_windows.specs.declared.RowPane.TheVariants.{NoRows}
use Rattle.mgs_session.specs.Sessions.{window_marks_of}
use Rattle.mgs_session.specs.declared.Session.{Session}
use Rattle.mgs_model.specs.declared.session.Scrolling.{Scrolling}
use Rattle.mgs_plan.specs.Rows.{outcome_without, pane_scrolled, rows_scrolled, scroll_in}
use Rattle.mgs_plan.specs.Actions.{edit_outcome, granted_outcome, height_or_none, is_on_text, mark_if, outcome_at, place_in, plan_in, replaced_outcome, seek_in, selected_height, sought_at}
use Rattle.mgs_world.specs.Worlds.{buffers_of, state_of, session_of, window_of, window_shown, world_of}
use Rattle.mgs_world.proofs.Found.{found_buffer, found_seen, name_kept}
use Rattle.mgs_world.proofs.Marks.{not_both}
use Rattle.mgs_world.proofs.Worlds.{selected_window}

-- RIGHTS

pub permitted_same : (state : State) (d : Decision) (a b : Outcome) → (d ≡ Granted → a ≡ b) → permitted state d a ≡ permitted state d b
permitted_same state Granted a b h = h refl
permitted_same state _ a b h = refl

-- reading is granted where all of these rights are
pub first_granted : (d : Right → Decider) (rights : List Right) → decision_by d (ReadData ∷ rights) ≡ Granted → allows (d ReadData) ≡ true
first_granted d rights e = (granted_each d (ReadData ∷ rights) e).0

pub any_read : (d : Right → Decider) → allows (d ReadData) ≡ true → any_right d ≡ true
any_read d e = list_any_at (λ right. allows (d right)) all_rights 0 ReadData (omega arith) e

pub any_append : (d : Right → Decider) → allows (d AppendData) ≡ true → any_right d ≡ true
any_append d e = list_any_at (λ right. allows (d right)) all_rights 2 ReadData (omega arith) e

-- WHAT IS TOLD SUFFICES

-- what a plan is given of a buffer on which some right is granted or none, and whose text may be read or not
abbrev pub surroundings : Bool → Bool → Buffer → List ℕ → ℕ → Option ℕ → ℕ → ℕ → Option ℕ → List ℕ → List ℕ → State → Around
surroundings told read b name point mark top height n typed kill state =
    record {
      name = name;
      size = size_told (told_if told b);
      serial = serial_told (told_if told b);
      place = acts_at (positions_if read point mark top) (size_told (told_if told b));
      mark = mark_seen (positions_if read point mark top);
      argument = n;
      typed = typed;
      kill = kill;
      kind = state.kind;
      height = height;
      fill = state.fill;
    }

-- and a search
abbrev pub search_surroundings : Bool → Bool → Buffer → List ℕ → ℕ → Option ℕ → ℕ → List ℕ → State → AroundSearch
search_surroundings told read b name point mark top typed state =
    record {
      name = name;
      places = record { origin = 0; anchor = 0; point = acts_at (positions_if read point mark top) (size_told (told_if told b)) };
      sought_here = false;
      old = state.old;
      typed = typed;
    }

-- what is so for a reader
abbrev all_told : Buffer → Bool → List ℕ → ℕ → Option ℕ → ℕ → Option ℕ → List ℕ → List ℕ → State → Around
all_told b read name point mark height n typed kill state =
    record {
      name = name;
      size = length b.text;
      serial = b.serial;
      place = place_in read point (length b.text);
      mark = mark_if read mark;
      argument = n;
      typed = typed;
      kill = kill;
      kind = state.kind;
      height = height;
      fill = state.fill;
    }

abbrev search_told : Buffer → Bool → List ℕ → ℕ → List ℕ → State → AroundSearch
search_told b read name point typed state =
    record { name = name; places = record { origin = 0; anchor = 0; point = place_in read point (length b.text) }; sought_here = false; old = state.old; typed = typed }

-- where reading is needed and not granted, nothing is done whatever is there
unread : (state : State) (d : Right → Decider) (rights : List Right) (o p : Outcome) → allows (d ReadData) ≡ false → permitted state (decision_by d (ReadData ∷ rights)) o ≡ permitted state (decision_by d (ReadData ∷ rights)) p
unread state d rights o p none = permitted_same state (decision_by d (ReadData ∷ rights)) o p (λ e. not_both (allows (d ReadData)) (first_granted d rights e) none)

-- the rights of an insertion that reads
reading_rights : (state : State) (d : Right → Decider) (end : Bool) (o p : Outcome) → allows (d ReadData) ≡ false → permitted state (decision_by d (rights_in (1 + cond end 4 2))) o ≡ permitted state (decision_by d (rights_in (1 + cond end 4 2))) p
reading_rights state d true o p none = unread state d (AppendData ∷ []) o p none
reading_rights state d false o p none = unread state d (WriteData ∷ []) o p none

-- a text that may not be read: what is done does not depend on it
text_unread : (state : State) (c : Command) (d : Right → Decider) (text : List ℕ) (items : List Item) (a : Around) → allows (d ReadData) ≡ false → outcome_at state c d [] [] a ≡ outcome_at state c d text items a
text_unread state (Insert i) d text items a none = refl
text_unread state (InsertReading i) d text items a none = reading_rights state d (a.place == a.size) _ _ none
text_unread state (Alter k) d text items a none = unread state d (WriteData ∷ []) _ _ none
text_unread state UndoEdit d text items a none = unread state d (WriteData ∷ []) _ _ none
text_unread state NotModified d text items a none = refl
text_unread state _ d text items a none = unread state d [] _ _ none

-- nothing is told: nothing is granted
nothing_granted : (d : Right → Decider) (rights : List Right) → any_right d ≡ false → decision_by d (ReadData ∷ rights) ≡ Granted → ⊥
nothing_granted d rights none e = not_both (any_right d) (any_read d (first_granted d rights e)) none

at_its_end : (state : State) (d : Right → Decider) (n : ℕ) (mask : ℕ → ℕ) (o : Outcome) → permitted state (decision_by d (rights_in (mask 4))) o ≡ permitted state (decision_by d (rights_in (mask (cond (n == n) 4 2)))) o
at_its_end state d n mask o = sym (ap (λ (e : Bool). permitted state (decision_by d (rights_in (mask (cond e 4 2)))) o) (eq-eqb n n refl))

none_told : (state : State) (c : Command) (d : Right → Decider) (b : Buffer) (name : List ℕ) (point : ℕ) (mark : Option ℕ) (top height : ℕ) (n : Option ℕ) (typed kill : List ℕ) → any_right d ≡ false → outcome_at state c d [] [] (surroundings false false b name point mark top height n typed kill state) ≡ outcome_at state c d b.text b.items (all_told b false name point mark height n typed kill state)
none_told state (Insert i) d b name point mark top height n typed kill none =
    permitted_same state (decision_by d (AppendData ∷ [])) _ _ (λ e. not_both (any_right d) (any_append d (granted_each d (AppendData ∷ []) e).0) none)
    ∙ at_its_end state d (length b.text) (λ m. m) (granted_outcome state (Insert i) b.text b.items (all_told b false name point mark height n typed kill state))
none_told state (InsertReading i) d b name point mark top height n typed kill none =
    permitted_same state (decision_by d (ReadData ∷ AppendData ∷ [])) _ _ (λ e. absurd (nothing_granted d (AppendData ∷ []) none e))
    ∙ at_its_end state d (length b.text) (λ m. 1 + m) (granted_outcome state (InsertReading i) b.text b.items (all_told b false name point mark height n typed kill state))
none_told state (Alter k) d b name point mark top height n typed kill none = permitted_same state (decision_by d (ReadData ∷ WriteData ∷ [])) _ _ (λ e. absurd (nothing_granted d (WriteData ∷ []) none e))
none_told state UndoEdit d b name point mark top height n typed kill none = permitted_same state (decision_by d (ReadData ∷ WriteData ∷ [])) _ _ (λ e. absurd (nothing_granted d (WriteData ∷ []) none e))
none_told state NotModified d b name point mark top height n typed kill none = permitted_same state (decision_by d (ReadData ∷ WriteData ∷ [])) _ _ (λ e. absurd (nothing_granted d (WriteData ∷ []) none e))
none_told state _ d b name point mark top height n typed kill none = permitted_same state (decision_by d (ReadData ∷ [])) _ _ (λ e. absurd (nothing_granted d [] none e))

told_same : (state : State) (c : Command) (d : Right → Decider) (b : Buffer) (name : List ℕ) (point : ℕ) (mark : Option ℕ) (top height : ℕ) (n : Option ℕ) (typed kill : List ℕ)
    → outcome_at state c d (text_in (full_if (allows (d ReadData)) b)) (items_in (full_if (allows (d ReadData)) b)) (surroundings (any_right d) (allows (d ReadData)) b name point mark top height n typed kill state) ≡ outcome_at state c d b.text b.items (all_told b (allows (d ReadData)) name point mark height n typed kill state)
told_same state c d b name point mark top height n typed kill = go (any_right d) (allows (d ReadData)) refl refl
  where
    go : (a r : Bool) → any_right d ≡ a → allows (d ReadData) ≡ r → outcome_at state c d (text_in (full_if r b)) (items_in (full_if r b)) (surroundings a r b name point mark top height n typed kill state) ≡ outcome_at state c d b.text b.items (all_told b r name point mark height n typed kill state)
    go true true p q = refl
    go true false p q = text_unread state c d b.text b.items (all_told b false name point mark height n typed kill state) q
    go false true p q = not_both (any_right d) (any_read d q) p
    go false false p q = none_told state c d b name point mark top height n typed kill p

-- a search reads
search_told_same : (state : State) (c : Seeking) (d : Right → Decider) (b : Buffer) (name : List ℕ) (point : ℕ) (mark : Option ℕ) (top : ℕ) (typed : List ℕ)
    → sought_at state c d (text_in (full_if (allows (d ReadData)) b)) (search_surroundings (any_right d) (allows (d ReadData)) b name point mark top typed state) ≡ sought_at state c d b.text (search_told b (allows (d ReadData)) name point typed state)
search_told_same state c d b name point mark top typed = go (any_right d) (allows (d ReadData)) refl refl
  where
    go : (a r : Bool) → any_right d ≡ a → allows (d ReadData) ≡ r → sought_at state c d (text_in (full_if r b)) (search_surroundings a r b name point mark top typed state) ≡ sought_at state c d b.text (search_told b r name point typed state)
    go true true p q = refl
    go false true p q = not_both (any_right d) (any_read d q) p
    go a false p q = unread state d [] _ _ q

-- THE TARGET

-- what the selected window is seen to show
seen_shown : (bs : List BufferSeen) (can : List ℕ → Bool) (ks : List MarkedBuffer) (o : Option Window) → option_and_then (λ (x : WindowSeen). target_in bs x x.shows) (option_map (window_seen can) (option_map (window_of ks) o)) ≡ option_and_then (λ (w : Window). target_in bs (window_seen can (window_of ks w)) (window_of ks w).shows) o
seen_shown bs can ks None = refl
seen_shown bs can ks (Some w) = refl

none_shown : (bs : List BufferSeen) (can : List ℕ → Bool) (ks : List MarkedBuffer) (o : Option Window) → option_and_then (λ (w : Window). w.shows) o ≡ None → option_and_then (λ (w : Window). target_in bs (window_seen can (window_of ks w)) (window_of ks w).shows) o ≡ None
none_shown bs can ks None e = refl
none_shown bs can ks (Some w) e =
    ap (λ (s : Option WindowMarks). target_in bs (window_seen can (window_shown ks w.height s w.rows)) (window_shown ks w.height s w.rows).shows) e ∙ rows_shown_none w.height w.rows
  where
    rows_shown_none : (height : ℕ) (rows : RowPane) → target_in bs (window_seen can (window_shown ks height None rows)) (window_shown ks height None rows).shows ≡ None
    rows_shown_none height NoRows = refl
    rows_shown_none height _ = refl

pub selected_none : (directory : Directory) (ks : List MarkedBuffer) (xs : List Session) (next : Option ℕ) (h : Session) → window_marks_of h ≡ None → target (view (world_of directory ks xs next) (session_of ks h)) ≡ None
selected_none directory ks xs next h none =
    let can = reads directory (buffers_of ks) h.user in
    let bs = map (buffer_seen directory h.user) (buffers_of ks) in
    let ws = h.windows.windows in
    ap (option_and_then (λ (x : WindowSeen). target_in bs x x.shows))
    (slice_get-map (window_seen can) (map (window_of ks) ws) h.windows.selected ∙ ap (option_map (window_seen can)) (slice_get-map (window_of ks) ws h.windows.selected))
    ∙ seen_shown bs can ks (slice_get ws h.windows.selected)
    ∙ none_shown bs can ks (slice_get ws h.windows.selected) none

-- the target through a window's marks
abbrev pub target_at : Directory → List MarkedBuffer → List ℕ → ℕ → WindowMarks → Target
target_at directory ks user height x = record {
  window = window_seen (reads directory (buffers_of ks) user) (window_shown ks height (Some x) NoRows);
  buffer = buffer_seen directory user (marked_at x.name ks).buffer;
}

pub selected_some : (directory : Directory) (ks : List MarkedBuffer) (xs : List Session) (next : Option ℕ) (h : Session) (x : WindowMarks) → window_marks_of h ≡ Some x → HasBuffer x.name ks → (height : ℕ) × (target (view (world_of directory ks xs next) (session_of ks h)) ≡ Some (target_at directory ks h.user height x)) × (selected_height h ≡ height)
selected_some directory ks xs next h x sel kept =
    let can = reads directory (buffers_of ks) h.user in
    let bs = map (buffer_seen directory h.user) (buffers_of ks) in
    let ws = h.windows.windows in
    let got = selected_window (slice_get ws h.windows.selected) x sel in
    let w = got.0 in (
      w.height,
      ap (option_and_then (λ (x : WindowSeen). target_in bs x x.shows))
          (slice_get-map (window_seen can) (map (window_of ks) ws) h.windows.selected ∙ ap (option_map (window_seen can)) (slice_get-map (window_of ks) ws h.windows.selected))
          ∙ seen_shown bs can ks (slice_get ws h.windows.selected)
          ∙ ap (option_and_then (λ (w : Window). target_in bs (window_seen can (window_of ks w)) (window_of ks w).shows)) got.1
          ∙ ap (λ (s : Option WindowMarks). target_in bs (window_seen can (window_shown ks w.height s w.rows)) (window_shown ks w.height s w.rows).shows) got.2
          ∙ ap (option_map (λ (b : BufferSeen). let t : Target = record { window = window_seen can (window_shown ks w.height (Some x) NoRows); buffer = b } in t)) (found_seen directory h.user x.name ks kept),
      ap height_or_none got.1,
    )

-- what is shown as a text has no rows
text_shown : (bs : List BufferSeen) (o : Option WindowSeen) (t : Target) → option_and_then (λ (x : WindowSeen). target_in bs x x.shows) o ≡ Some t → has_rows o ≡ false
text_shown bs None t e = refl
text_shown bs (Some x) t e = go x.shows e
  where
    go : (s : Shows) → target_in bs x s ≡ Some t → is_rows s ≡ false
    go Listing h = cc
    go (List_of name) h = cc
    go _ h = refl

-- THE OUTCOME

pub only_one : (d : Decision) → or_else d Granted ≡ d
only_one Granted = refl
only_one _ = refl

-- one request on the target is judged by its deciders
pub judged_here : (v : View) (t : Target) (rights : Target → ℕ) → find_seen t.buffer.name v.buffers ≡ Some t.buffer → judged v (here (Some t) rights) ≡ decision_by t.buffer.deciders (rights_in (rights t))
judged_here v t rights found =
    only_one (decision_by (deciders_found (find_seen t.buffer.name v.buffers)) (rights_in (rights t)))
    ∙ ap (λ o. decision_by (deciders_found o) (rights_in (rights t))) found

edit_same : (state : State) (b : BufferSeen) (r : Result Change Message) → edited_by state b r ≡ edit_outcome state b.name (size_told b.told) (serial_told b.told) r
edit_same state b (Ok c) = refl
edit_same state b (Err message) = refl

edit_judged : (v : View) (t : Target) (rights : Target → ℕ) (plan : Target → Result Change Message) → target v ≡ Some t → find_seen t.buffer.name v.buffers ≡ Some t.buffer → permitted v.session.state (judged v (here (target v) rights)) (edits v.session.state (target v) plan) ≡ permitted v.session.state (decision_by t.buffer.deciders (rights_in (rights t))) (edit_outcome v.session.state t.buffer.name (size_told t.buffer.told) (serial_told t.buffer.told) (plan t))
edit_judged v t rights plan is found =
    ap (λ o. permitted v.session.state (judged v (here o rights)) (edits v.session.state o plan)) is
    ∙ ap (λ d. permitted v.session.state d (edits v.session.state (Some t) plan)) (judged_here v t rights found)
    ∙ ap (permitted v.session.state (decision_by t.buffer.deciders (rights_in (rights t)))) (edit_same v.session.state t.buffer (plan t))

motion_judged : (v : View) (t : Target) (plan : Target → Result Finish Message) → target v ≡ Some t → find_seen t.buffer.name v.buffers ≡ Some t.buffer → permitted v.session.state (judged v (here (target v) (λ t. 1))) (moves v.session.state (target v) plan) ≡ permitted v.session.state (decision_by t.buffer.deciders (rights_in 1)) (moved_by v.session.state (plan t))
motion_judged v t plan is found =
    ap (λ o. permitted v.session.state (judged v (here o (λ t. 1))) (moves v.session.state o plan)) is
    ∙ ap (λ d. permitted v.session.state d (moves v.session.state (Some t) plan)) (judged_here v t (λ t. 1) found)

rule_judged : (v : View) (t : Target) (plan : BufferSeen → Result Effect Message) → target v ≡ Some t → find_seen t.buffer.name v.buffers ≡ Some t.buffer → permitted v.session.state (judged v (about (shown_buffer v) 3)) (rules v.session.state (shown_buffer v) plan) ≡ permitted v.session.state (decision_by t.buffer.deciders (rights_in 3)) (effects v.session.state (plan t.buffer))
rule_judged v t plan is found =
    ap (λ (o : Option Target). permitted v.session.state (judged v (about (option_map (λ (t : Target). t.buffer) o) 3)) (rules v.session.state (option_map (λ (t : Target). t.buffer) o) plan)) is
    ∙ ap (λ d. permitted v.session.state d (effects v.session.state (plan t.buffer))) (judged_here v t (λ t. 3) found)

-- what an act comes to on the target
pub on_target : (v : View) (t : Target) (c : Command) (n : Option ℕ) (typed : List ℕ) → is_on_text c ≡ true → target v ≡ Some t → find_seen t.buffer.name v.buffers ≡ Some t.buffer → outcome v (outcomes.Run c n typed) true ≡ outcome_at v.session.state c t.buffer.deciders (text_in t.buffer.full) (items_in t.buffer.full) (around v.session n typed t)
unfolding outcome
on_target v t (Insert i) n typed h is found = edit_judged v t insertion_right (λ t. insertion i (around v.session n typed t)) is found
on_target v t (InsertReading i) n typed h is found =
    edit_judged v t (λ t. 1 + insertion_right t) (λ t. reading_insertion i (text_in t.buffer.full) (around v.session n typed t)) is found
on_target v t (Move m) n typed h is found = motion_judged v t (λ t. motion m (text_in t.buffer.full) (around v.session n typed t)) is found
on_target v t (Alter k) n typed h is found = edit_judged v t (λ t. 3) (λ t. alteration k (text_in t.buffer.full) (around v.session n typed t)) is found
on_target v t (Scroll s) n typed h is found =
    ap (λ b. permitted v.session.state (judged v (here (target v) (λ t. 1))) (cond b (scrolls_rows v.session.state (row_in s (selected_seen v))) (moves v.session.state (target v) (λ t. scrolling s (text_in t.buffer.full) (around v.session n typed t)))))
    (text_shown v.buffers (selected_seen v) t is)
    ∙ motion_judged v t (λ t. scrolling s (text_in t.buffer.full) (around v.session n typed t)) is found
on_target v t UndoEdit n typed h is found = edit_judged v t (λ t. 3) (λ t. undo (items_in t.buffer.full) (around v.session n typed t)) is found
on_target v t NotModified n typed h is found = rule_judged v t (λ (b : BufferSeen). Ok (Unmodified b.name)) is found
on_target v t _ n typed h is found = cc

-- and a search, or a replacement
pub sought_on_target : (v : View) (t : Target) (c : Seeking) (n : Option ℕ) (typed : List ℕ) → target v ≡ Some t → find_seen t.buffer.name v.buffers ≡ Some t.buffer → outcome v (outcomes.Run (Seek c) n typed) true ≡ sought_at v.session.state c t.buffer.deciders (text_in t.buffer.full) (around_search v.session typed t)
unfolding outcome
sought_on_target v t c n typed is found =
    let plan : Target → Result SearchFinish Message = λ t. seek c (text_in t.buffer.full) (around_search v.session typed t) in
    ap (λ o. permitted v.session.state (judged v (here o (λ t. 1))) (seeks v.session.state o plan)) is
    ∙ ap (λ d. permitted v.session.state d (sought_by v.session.state (plan t))) (judged_here v t (λ t. 1) found)

replaced_same : (state : State) (b : BufferSeen) (r : Result SearchChange Message) → replaced_by state b r ≡ replaced_outcome state b.name (size_told b.told) (serial_told b.told) r
replaced_same state b (Ok c) = refl
replaced_same state b (Err message) = refl

pub replaced_on_target : (v : View) (t : Target) (c : Replacement) (n : Option ℕ) (typed : List ℕ) → target v ≡ Some t → find_seen t.buffer.name v.buffers ≡ Some t.buffer
    → outcome v (outcomes.Run (Replace c) n typed) true ≡ permitted v.session.state (decision_by t.buffer.deciders (rights_in 3)) (replaced_outcome v.session.state t.buffer.name (size_told t.buffer.told) (serial_told t.buffer.told) (replace c (text_in t.buffer.full) (around_search v.session typed t)))
unfolding outcome
replaced_on_target v t c n typed is found =
    let plan : Target → Result SearchChange Message = λ t. replace c (text_in t.buffer.full) (around_search v.session typed t) in
    ap (λ o. permitted v.session.state (judged v (here o (λ t. 3))) (replaces_one v.session.state o plan)) is
    ∙ ap (λ d. permitted v.session.state d (replaced_by v.session.state t.buffer (plan t))) (judged_here v t (λ t. 3) found)
    ∙ ap (permitted v.session.state (decision_by t.buffer.deciders (rights_in 3))) (replaced_same v.session.state t.buffer (plan t))

-- through the window's marks of the selected window, of so many rows, by a session with this record, which has no positions of a search
through_owned : (directory : Directory) (ks : List MarkedBuffer) (xs : List Session) (next : Option ℕ) (h : Session) (state : State) (height : ℕ) (x : WindowMarks) (c : Command) (n : Option ℕ) (typed : List ℕ) → HasBuffer x.name ks
    → (let t = target_at directory ks h.user height x in let y : model.Session = record (session_of ks h) { search = None; state = state } in outcome_at state c t.buffer.deciders (text_in t.buffer.full) (items_in t.buffer.full) (around (view (world_of directory ks xs next) y).session n typed t) ≡ plan_in directory ks state h.user x height c n typed h.kill)
through_owned directory ks xs next h state height x c n typed kept =
    let b = (marked_at x.name ks).buffer in
    let d = decider directory b.owners h.user b.entries in
    let point = mark_at x.name ks x.point in
    let mark = option_map (mark_at x.name ks) x.mark in
    let top = mark_at x.name ks x.top in
    ap (λ (r : Bool). outcome_at state c d (text_in (full_if (allows (d ReadData)) b)) (items_in (full_if (allows (d ReadData)) b)) (surroundings (any_right d) r b b.name point mark top height n typed h.kill state)) (ap (reads_found directory h.user) (found_buffer x.name ks kept))
    ∙ told_same state c d b b.name point mark top height n typed h.kill
    ∙ ap (λ (m : List ℕ). outcome_at state c d b.text b.items (all_told b (allows (d ReadData)) m point mark height n typed h.kill state)) (name_kept x.name ks kept)

pub outcome_owned : (directory : Directory) (ks : List MarkedBuffer) (xs : List Session) (next : Option ℕ) (h : Session) (state : State) (x : WindowMarks) (c : Command) (n : Option ℕ) (typed : List ℕ) → is_on_text c ≡ true → window_marks_of h ≡ Some x → HasBuffer x.name ks
    → (let y : model.Session = record (session_of ks h) { search = None; state = state } in outcome (view (world_of directory ks xs next) y) (outcomes.Run c n typed) true ≡ plan_in directory ks state h.user x (selected_height h) c n typed h.kill)
outcome_owned directory ks xs next h state x c n typed on sel kept =
    let y : model.Session = record (session_of ks h) { search = None; state = state } in
    let seen = selected_some directory ks xs next h x sel kept in
    let t = target_at directory ks h.user seen.0 x in
    on_target (view (world_of directory ks xs next) y) t c n typed on seen.1
    (ap (λ m. find_seen m (map (buffer_seen directory h.user) (buffers_of ks))) (name_kept x.name ks kept) ∙ found_seen directory h.user x.name ks kept)
    ∙ through_owned directory ks xs next h state seen.0 x c n typed kept
    ∙ ap (λ (height : ℕ). plan_in directory ks state h.user x height c n typed h.kill) (sym seen.2)

-- and of one as it is
pub outcome_plan : (directory : Directory) (ks : List MarkedBuffer) (xs : List Session) (next : Option ℕ) (h : Session) (x : WindowMarks) (c : Command) (n : Option ℕ) (typed : List ℕ) → is_on_text c ≡ true → window_marks_of h ≡ Some x → HasBuffer x.name ks → (session_of ks h).search ≡ None → outcome (view (world_of directory ks xs next) (session_of ks h)) (outcomes.Run c n typed) true ≡ plan_in directory ks (state_of h.state) h.user x (selected_height h) c n typed h.kill
outcome_plan directory ks xs next h x c n typed on sel kept quiet =
    ap (λ (s : Option model.Search). let y : model.Session = record (session_of ks h) { search = s } in outcome (view (world_of directory ks xs next) y) (outcomes.Run c n typed) true) quiet
    ∙ outcome_owned directory ks xs next h (state_of h.state) x c n typed on sel kept

-- a search by the first
pub sought_owned : (directory : Directory) (ks : List MarkedBuffer) (xs : List Session) (next : Option ℕ) (h : Session) (state : State) (x : WindowMarks) (c : Seeking) (n : Option ℕ) (typed : List ℕ) → window_marks_of h ≡ Some x → HasBuffer x.name ks
    → (let y : model.Session = record (session_of ks h) { search = None; state = state } in outcome (view (world_of directory ks xs next) y) (outcomes.Run (Seek c) n typed) true ≡ seek_in directory ks state h.user x c typed)
sought_owned directory ks xs next h state x c n typed sel kept =
    let y : model.Session = record (session_of ks h) { search = None; state = state } in
    let b = (marked_at x.name ks).buffer in
    let d = decider directory b.owners h.user b.entries in
    let point = mark_at x.name ks x.point in
    let mark = option_map (mark_at x.name ks) x.mark in
    let top = mark_at x.name ks x.top in
    let seen = selected_some directory ks xs next h x sel kept in
    sought_on_target (view (world_of directory ks xs next) y) (target_at directory ks h.user seen.0 x) c n typed seen.1
    (ap (λ m. find_seen m (map (buffer_seen directory h.user) (buffers_of ks))) (name_kept x.name ks kept) ∙ found_seen directory h.user x.name ks kept)
    ∙ ap (λ (r : Bool). sought_at state c d (text_in (full_if (allows (d ReadData)) b)) (search_surroundings (any_right d) r b b.name point mark top typed state)) (ap (reads_found directory h.user) (found_buffer x.name ks kept))
    ∙ search_told_same state c d b b.name point mark top typed
    ∙ ap (λ (m : List ℕ). sought_at state c d b.text (search_told b (allows (d ReadData)) m point typed state)) (name_kept x.name ks kept)

pub sought_plan : (directory : Directory) (ks : List MarkedBuffer) (xs : List Session) (next : Option ℕ) (h : Session) (x : WindowMarks) (c : Seeking) (n : Option ℕ) (typed : List ℕ) → window_marks_of h ≡ Some x → HasBuffer x.name ks → (session_of ks h).search ≡ None → outcome (view (world_of directory ks xs next) (session_of ks h)) (outcomes.Run (Seek c) n typed) true ≡ seek_in directory ks (state_of h.state) h.user x c typed
sought_plan directory ks xs next h x c n typed sel kept quiet =
    ap (λ (s : Option model.Search). let y : model.Session = record (session_of ks h) { search = s } in outcome (view (world_of directory ks xs next) y) (outcomes.Run (Seek c) n typed) true) quiet
    ∙ sought_owned directory ks xs next h (state_of h.state) x c n typed sel kept

-- where the selected window shows nothing
none_edited : (v : View) (rights : Target → ℕ) (plan : Target → Result Change Message) → target v ≡ None → permitted v.session.state (judged v (here (target v) rights)) (edits v.session.state (target v) plan) ≡ fails v.session.state (Says NoBuffer)
none_edited v rights plan none = ap (λ o. permitted v.session.state (judged v (here o rights)) (edits v.session.state o plan)) none

none_moved : (v : View) (plan : Target → Result Finish Message) → target v ≡ None → permitted v.session.state (judged v (here (target v) (λ t. 1))) (moves v.session.state (target v) plan) ≡ fails v.session.state (Says NoBuffer)
none_moved v plan none = ap (λ o. permitted v.session.state (judged v (here o (λ t. 1))) (moves v.session.state o plan)) none

none_ruled : (v : View) (plan : BufferSeen → Result Effect Message) → target v ≡ None → permitted v.session.state (judged v (about (shown_buffer v) 3)) (rules v.session.state (shown_buffer v) plan) ≡ fails v.session.state (Says NoBuffer)
none_ruled v plan none = ap (λ (o : Option Target). permitted v.session.state (judged v (about (option_map (λ (t : Target). t.buffer) o) 3)) (rules v.session.state (option_map (λ (t : Target). t.buffer) o) plan)) none

-- what it comes to there
abbrev off_outcome : View → Option Scrolling → Outcome
off_outcome v None = fails v.session.state (Says NoBuffer)
off_outcome v (Some s) = cond (has_rows (selected_seen v)) (scrolls_rows v.session.state (row_in s (selected_seen v))) (fails v.session.state (Says NoBuffer))

pub off_target : (v : View) (c : Command) (n : Option ℕ) (typed : List ℕ) → is_on_text c ≡ true → target v ≡ None → outcome v (outcomes.Run c n typed) true ≡ off_outcome v (scroll_in c)
unfolding outcome
off_target v (Insert i) n typed h none = none_edited v insertion_right (λ t. insertion i (around v.session n typed t)) none
off_target v (InsertReading i) n typed h none =
    none_edited v (λ t. 1 + insertion_right t) (λ t. reading_insertion i (text_in t.buffer.full) (around v.session n typed t)) none
off_target v (Move m) n typed h none = none_moved v (λ t. motion m (text_in t.buffer.full) (around v.session n typed t)) none
off_target v (Alter k) n typed h none = none_edited v (λ t. 3) (λ t. alteration k (text_in t.buffer.full) (around v.session n typed t)) none
off_target v (Scroll s) n typed h none =
    ap (λ (o : Option Target). permitted v.session.state (judged v (here o (λ t. 1))) (cond (has_rows (selected_seen v)) (scrolls_rows v.session.state (row_in s (selected_seen v))) (moves v.session.state o (λ t. scrolling s (text_in t.buffer.full) (around v.session n typed t))))) none
off_target v UndoEdit n typed h none = none_edited v (λ t. 3) (λ t. undo (items_in t.buffer.full) (around v.session n typed t)) none
off_target v NotModified n typed h none = none_ruled v (λ (b : BufferSeen). Ok (Unmodified b.name)) none
off_target v _ n typed h none = cc

pub sought_off_target : (v : View) (c : Seeking) (n : Option ℕ) (typed : List ℕ) → target v ≡ None → outcome v (outcomes.Run (Seek c) n typed) true ≡ fails v.session.state (Says NoBuffer)
unfolding outcome
sought_off_target v c n typed none =
    ap (λ (o : Option Target). permitted v.session.state (judged v (here o (λ t. 1))) (seeks v.session.state o (λ t. seek c (text_in t.buffer.full) (around_search v.session typed t)))) none

pub replaced_off_target : (v : View) (c : Replacement) (n : Option ℕ) (typed : List ℕ) → target v ≡ None → outcome v (outcomes.Run (Replace c) n typed) true ≡ fails v.session.state (Says NoBuffer)
unfolding outcome
replaced_off_target v c n typed none =
    ap (λ (o : Option Target). permitted v.session.state (judged v (here o (λ t. 3))) (replaces_one v.session.state o (λ t. replace c (text_in t.buffer.full) (around_search v.session typed t)))) none

-- the rows of the selected window, as the session sees them
rows_off : (state : State) (s : Scrolling) (can : List ℕ → Bool) (ks : List MarkedBuffer) (o : Option Window) → option_and_then (λ (w : Window). w.shows) o ≡ None
    → (let seen = option_map (window_seen can) (option_map (window_of ks) o) in cond (has_rows seen) (scrolls_rows state (row_in s seen)) (fails state (Says NoBuffer)) ≡ outcome_without state (rows_scrolled (Some s) o))
rows_off state s can ks None none = refl
rows_off state s can ks (Some w) none =
    ap (λ (o : Option WindowMarks). let seen : Option WindowSeen = Some (window_seen can (window_shown ks w.height o w.rows)) in cond (has_rows seen) (scrolls_rows state (row_in s seen)) (fails state (Says NoBuffer))) none
    ∙ by w.height w.rows
  where
    by : (height : ℕ) (rows : RowPane) → (let seen : Option WindowSeen = Some (window_seen can (window_shown ks height None rows)) in cond (has_rows seen) (scrolls_rows state (row_in s seen)) (fails state (Says NoBuffer))) ≡ outcome_without state (pane_scrolled s height rows)
    by height NoRows = refl
    by height _ = refl

off_seen : (directory : Directory) (ks : List MarkedBuffer) (xs : List Session) (next : Option ℕ) (h : Session) (s : Option Scrolling) → window_marks_of h ≡ None → off_outcome (view (world_of directory ks xs next) (session_of ks h)) s ≡ outcome_without (state_of h.state) (rows_scrolled s (slice_get h.windows.windows h.windows.selected))
off_seen directory ks xs next h None none = refl
off_seen directory ks xs next h (Some s) none =
    let can = reads directory (buffers_of ks) h.user in
    let ws = h.windows.windows in
    ap (λ (seen : Option WindowSeen). cond (has_rows seen) (scrolls_rows (state_of h.state) (row_in s seen)) (fails (state_of h.state) (Says NoBuffer)))
    (slice_get-map (window_seen can) (map (window_of ks) ws) h.windows.selected ∙ ap (option_map (window_seen can)) (slice_get-map (window_of ks) ws h.windows.selected))
    ∙ rows_off (state_of h.state) s can ks (slice_get ws h.windows.selected) none

pub outcome_none : (directory : Directory) (ks : List MarkedBuffer) (xs : List Session) (next : Option ℕ) (h : Session) (c : Command) (n : Option ℕ) (typed : List ℕ) → is_on_text c ≡ true → window_marks_of h ≡ None → outcome (view (world_of directory ks xs next) (session_of ks h)) (outcomes.Run c n typed) true ≡ outcome_without (state_of h.state) (rows_scrolled (scroll_in c) (slice_get h.windows.windows h.windows.selected))
outcome_none directory ks xs next h c n typed on none =
    off_target (view (world_of directory ks xs next) (session_of ks h)) c n typed on (selected_none directory ks xs next h none) ∙ off_seen directory ks xs next h (scroll_in c) none

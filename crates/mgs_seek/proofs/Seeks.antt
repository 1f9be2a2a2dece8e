-- An incremental search goes on or is quit: that what is done is the act.
use Rattle.std.proofs.Common.{◌≡◌, ℕ, zero, suc, ◌≤◌, min, Bool, true, false, cond, List, [], ◌∷◌, length, map, Option, Some, None, is_none, refl, sym, ap, subst, ◌∙◌}
use Rattle.std.proofs.Math.Nat.{min-eq_left}
use Rattle.std.specs.Prelude.{slice_get}
use Rattle.std.specs.Option.{option_and_then}
use Rattle.mgs_model.specs.Access.{Directory}
use Rattle.mgs_model.specs.Names.{same_name}
use Rattle.mgs_model.specs.World.{Buffer, State}
use Rattle.mgs_model.specs.World as model
use Rattle.mgs_model.specs.View.{view}
use Rattle.mgs_model.specs.Outcome.{Adjust, At, At_origin, Keep_kill, Keep_mark, Keep_position, No_effect, No_search, Outcome, Run}
use Rattle.mgs_model.specs.Plans.{acted_state, failed_state}
use Rattle.mgs_model.specs.SearchCommands.{Failing, Keep_mode, SearchFinish}
use Rattle.mgs_model.specs.Searching.{Sought, is_looking, looked_for, places_after}
use Rattle.mgs_model.specs.Acts.{mode_left, outcome, search_finished, search_finished_state, sought_by}
use Rattle.mgs_model.specs.Apply.{change_at, change_first, is_search_mode, session_arranged, window_adjusted}
use Rattle.mgs_model.specs.declared.echo_text.Message.{Message}
use Rattle.mgs_model.specs.declared.echo_text.Message.TheVariants.{Says}
use Rattle.mgs_model.specs.declared.echo_text.Notice.TheVariants.{Quitting, Silent}
use Rattle.mgs_model.specs.declared.search.SearchPlaces.{SearchPlaces}
use Rattle.mgs_model.specs.declared.search.SearchStep.{SearchStep}
use Rattle.mgs_model.specs.declared.session.Command.TheVariants.{LeaveSearch, Seek}
use Rattle.mgs_model.specs.declared.session.Replacement.TheVariants.{ReplaceMatch}
use Rattle.mgs_model.specs.declared.session.Seeking.TheVariants.{SearchOn}
use Rattle.mgs_buffers.specs.MarkedBuffer.{HasBuffer, MarkedBuffer, mark_at, marked_at, marked_named, marked_placed}
use Rattle.mgs_windows.specs.declared.WindowMarks.{WindowMarks}
use Rattle.mgs_windows.specs.declared.Window.{Window}
use Rattle.mgs_windows.specs.declared.RowPane.{RowPane}
use Rattle.mgs_windows.specs.declared.RowPane.TheVariants.{NoRows}
use Rattle.mgs_search.specs.Planned.{IsStepPlan, stepped}
use Rattle.mgs_session.specs.Seeking.{searching}
use Rattle.mgs_session.specs.Sessions.{failed, window_marks_of}
use Rattle.mgs_session.specs.declared.Session.{Session}
use Rattle.mgs_session.specs.declared.search.Aim.{Aim}
use Rattle.mgs_session.specs.declared.search.Aim.TheVariants.{Find, Replace}
use Rattle.mgs_session.specs.declared.search.Search.{Search}
use Rattle.mgs_seek.specs.declared.incremental_search.Seeker.{Seeker}
use Rattle.mgs_seek.specs.Seekers.{as_search, gone_back, origin_plan, places_at, search_stepped, seek_in, seeker_of, session_sought}
use Rattle.mgs_world.specs.Sound.{IsSessionSound}
use Rattle.mgs_seek.specs.Acting.{Does, IsSought, SearchFails, as_is}
use Rattle.mgs_world.specs.Only.{OnlyThis, nothing_held}
use Rattle.mgs_seek.proofs.Lifts.{does_fail, gone_does, gone_here, marks_held, only_gone, only_state}
use Rattle.mgs_world.specs.Worlds.{buffers_of, state_of, search_of, session_of, size_named, window_of, window_shown, world_of}
use Rattle.mgs_world.proofs.Edits.{size_kept}
use Rattle.mgs_world.proofs.Marks.{same_is}
use Rattle.mgs_world.proofs.Soundness.{mark_is_kept}
use Rattle.mgs_plan.proofs.Deeds.{point_by}
use Rattle.mgs_seek.proofs.Comes.{come_sought, size_sought, sought_place}

-- A STEP

-- what the step tells of the search's mode is what the session holds then
state_left : (b l : Bool) (s : Seeker) (a : ℕ) (h : Session)
    → (let failing : Bool = cond b l s.sought.failing in
    mode_left (cond b (Failing failing) Keep_mode) (record (acted_state (state_of (searching (as_search s) h).state)) { echo = Says Silent }) ≡ state_of (session_sought (record s { anchor = a; sought = record s.sought { failing = failing } }) h).state)
state_left true l s a h = refl
state_left false l s a h = refl

-- the session is one that searches
pub held_so : (h : Session) (s : Search) → h.state.search ≡ Some s → h ≡ searching s h
held_so h s is = ap (λ (o : Option Search). let x : Session = record h { state = record h.state { search = o } } in x) is

-- two of one session are the same
same_sought : (s : Seeker) (t : Search) (f : Sought) → Path (Option Search) (Some (as_search s)) (Some t) → t.aim ≡ Find f → s.sought ≡ f
same_sought s t f same aim =
    let one : as_search s ≡ t = cc in
    let aims : Path Aim (Find s.sought) (Find f) = ap (λ (v : Search). v.aim) one ∙ aim in
    cc

module _ (directory : Directory) (ks : List MarkedBuffer) (h : Session) (x : WindowMarks) (s : Seeker) (step : SearchStep) (sound : IsSessionSound ks h) (sought : IsSought directory ks h false x) (held : h.state.search ≡ Some (as_search s)) where
  abbrev b : Buffer
  b = (marked_at x.name ks).buffer

  abbrev before : SearchPlaces
  before = places_at (length b.text) (mark_at x.name ks x.point) s

  abbrev after : SearchPlaces
  after = places_after step s.sought b.text before

  abbrev new : Seeker
  new = search_stepped step b.text before s

  abbrev left : SearchFinish
  left = stepped step after new.sought.failing

  abbrev placed : List MarkedBuffer
  placed = change_first (marked_named x.name) (marked_placed x.point after.point) ks

  abbrev shown : Session
  shown = searching (as_search s) h

  abbrev state : State
  state = state_of shown.state

  size : size_named s.name (buffers_of ks) ≡ length b.text
  size = size_sought directory ks h false x (as_search s) sought held

  left_state : search_finished_state left state ≡ state_of (session_sought new h).state
  left_state = state_left (is_looking step) (is_none (looked_for step s.sought b.text before)) s after.anchor h

  abbrev found : ℕ → model.Search
  found a = record { name = s.name; origin = min s.origin (size_named s.name (buffers_of ks)); anchor = a }

  step_session : after.anchor ≤ length b.text → session_of placed (session_sought new h) ≡ session_arranged (search_finished state left No_effect) (session_of ks shown)
  step_session small =
      gone_does ks h x (At after.point) (session_sought new h).state sound sought.target.sel state (Some (found (min s.anchor (size_named s.name (buffers_of ks))))) state left (λ search w. refl) (sym left_state)
      (ap (λ (a : ℕ). Some (found a)) (ap (min after.anchor) size ∙ min-eq_left small)
      ∙ (λ i. cond (is_search_mode (sym left_state i).mode) (Some (found after.anchor)) None))

  pub only_stepped : OnlyThis nothing_held ks placed h (session_sought new h)
  only_stepped = only_gone ks h x (At after.point) (session_sought new h).state sought.target.sel sought.target.marks.point

  step_known : IsStepPlan step s.sought.direction s.sought.pattern b.text before after new.sought.failing → (xs : List Session) (next : Option ℕ)
      → outcome (view (world_of directory ks xs next) (session_of ks shown)) (Run (Seek (SearchOn s.sought.direction step)) None s.sought.pattern) true ≡ search_finished state left No_effect
  step_known planned xs next =
      come_sought directory ks h false x (as_search s) sought held (SearchOn s.sought.direction step) ReplaceMatch None s.sought.pattern xs next
      ∙ ap (sought_by state) (sym (planned (sought_place directory ks h false x (as_search s) sought held)))

  pub step_does : after.anchor ≤ length b.text → IsStepPlan step s.sought.direction s.sought.pattern b.text before after new.sought.failing → (t : Search) (f : Sought) → h.state.search ≡ Some t → t.aim ≡ Find f
      → Does directory ks placed h (session_sought new h) as_is (Run (Seek (SearchOn f.direction step)) None f.pattern)
  step_does small planned t f is aim =
      subst (λ (g : Sought). Does directory ks placed h (session_sought new h) as_is (Run (Seek (SearchOn g.direction step)) None g.pattern)) (same_sought s t f (sym held ∙ is) aim)
      (subst (λ (y : Session). Does directory ks placed y (session_sought new h) as_is (Run (Seek (SearchOn s.sought.direction step)) None s.sought.pattern)) (sym (held_so h (as_search s) held))
      (record { left = search_finished state left No_effect; quiet = refl; known = step_known planned; does = step_session small }))

-- A STEP THAT FAILS

pub step_fails : (d : Directory) (ks : List MarkedBuffer) (h : Session) (message : Message) (step : SearchStep) (f : Sought) → SearchFails d ks h false message → Does d ks ks h (failed message h) as_is (Run (Seek (SearchOn f.direction step)) None f.pattern)
step_fails d ks h message step f all =
    let c = SearchOn f.direction step in
    does_fail d ks h (λ state. state) (session_of ks h).search message (Run (Seek c) None f.pattern) as_is refl refl (λ xs next. all c false xs next f.pattern (λ text a. refl))

-- the incremental search that a session holds
pub held_seeker : (o : Option Search) (s : Seeker) → seeker_of o ≡ Some s → o ≡ Some (as_search s)
held_seeker None s is = cc
held_seeker (Some t) s is = by t.aim refl is
  where
    by : (a : Aim) → t.aim ≡ a → seek_in t a ≡ Some s → Path (Option Search) (Some t) (Some (as_search s))
    by (Find f) aim is =
        let u : Seeker = record { name = t.name; origin = t.origin; anchor = t.anchor; sought = f } in
        let same : u ≡ s = cc in
        ap (λ (x : Aim). let r : Search = record t { aim = x } in Some r) aim ∙ ap (λ (v : Seeker). Some (as_search v)) same
    by (Replace r) aim is = cc

-- QUITTING

-- two changes of one element that come to the same there
same_there : {A B : Type 0} (g : A → B) (f k : B → B) (n : ℕ) (ws : List A) → ((w : A) → slice_get ws n ≡ Some w → f (g w) ≡ k (g w)) → change_at n f (map g ws) ≡ change_at n k (map g ws)
same_there g f k n [] same = refl
same_there g f k zero (w ∷ ws) same = ap (λ v. v ∷ map g ws) (same w refl)
same_there g f k (suc n) (w ∷ ws) same = ap (λ vs. g w ∷ vs) (same_there g f k n ws same)

unchanged : {A : Type 0} (n : ℕ) (ws : List A) → change_at n (λ w. w) ws ≡ ws
unchanged n [] = refl
unchanged zero (w ∷ ws) = refl
unchanged (suc n) (w ∷ ws) = ap (λ vs. w ∷ vs) (unchanged n ws)

abbrev quits : Option model.Search → model.Window → model.Window
quits search w = window_adjusted search At_origin Keep_mark Keep_position None w

-- a window that shows no buffer stays
stays_there : (search : Option model.Search) (ks : List MarkedBuffer) (height : ℕ) (rows : RowPane) → window_shown ks height None rows ≡ quits search (window_shown ks height None rows)
stays_there None ks height rows = refl
stays_there (Some s) ks height NoRows = refl
stays_there (Some s) ks height _ = refl

module _ (ks : List MarkedBuffer) (x : WindowMarks) (kept : HasBuffer x.name ks) where
  abbrev len : ℕ
  len = length (marked_at x.name ks).buffer.text

  -- one that shows the search's goes to its origin
  goes_there : (o : Option Search) (height : ℕ) (rows : RowPane) → point_by (origin_plan x.name len o) (window_shown ks height (Some x) rows) ≡ quits (search_of (buffers_of ks) o) (window_shown ks height (Some x) rows)
  goes_there None height rows = refl
  goes_there (Some s) height rows = by (same_name s.name x.name) refl
    where
      point : ℕ
      point = mark_at x.name ks x.point

      shown : ℕ → model.Window
      shown p = record (window_shown ks height (Some x) rows) { point = p }

      by : (q : Bool) → same_name s.name x.name ≡ q → point_by (cond q (At (min s.origin len)) Keep_position) (window_shown ks height (Some x) rows) ≡ shown (cond q (min s.origin (size_named s.name (buffers_of ks))) point)
      by true e = ap shown (ap (min s.origin) (sym (ap (λ (n : List ℕ). size_named n (buffers_of ks)) (same_is s.name x.name e) ∙ size_kept x.name ks kept)))
      by false e = refl

abbrev quit_outcome : State → Outcome
quit_outcome state = record { state = failed_state (Says Quitting) state; kill = Keep_kill; arrange = Adjust At_origin Keep_mark Keep_position None No_search; effect = No_effect }

module _ (ks : List MarkedBuffer) (h : Session) (sound : IsSessionSound ks h) where
  abbrev o : Outcome
  o = quit_outcome (state_of h.state)

  -- each window at the selected place that shows this
  shows_is : (v : Option WindowMarks) → window_marks_of h ≡ v → (w : Window) → slice_get h.windows.windows h.windows.selected ≡ Some w → w.shows ≡ v
  shows_is v sel w is = sym (ap (option_and_then (λ (u : Window). u.shows)) is) ∙ sel

  quit_so : (v : Option WindowMarks) → window_marks_of h ≡ v → session_of (gone_back v h.state.search ks) (failed (Says Quitting) h) ≡ session_arranged o (session_of ks h)
  quit_so None sel =
      let search = search_of (buffers_of ks) h.state.search in
      let windows = sym (unchanged h.windows.selected (map (window_of ks) h.windows.windows))
      ∙ same_there (window_of ks) (λ w. w) (quits search) h.windows.selected h.windows.windows
      (λ w is. ap (λ (s : Option WindowMarks). window_shown ks w.height s w.rows) (shows_is None sel w is) ∙ stays_there search ks w.height w.rows ∙ sym (ap (λ (s : Option WindowMarks). quits search (window_shown ks w.height s w.rows)) (shows_is None sel w is))) in
      λ i. record (session_of ks (failed (Says Quitting) h)) { windows = windows i }
  quit_so (Some x) sel =
      let kept = mark_is_kept x.name x.point ks (marks_held ks h x sound sel).point in
      let plan = origin_plan x.name (length (marked_at x.name ks).buffer.text) h.state.search in
      let search = search_of (buffers_of ks) h.state.search in
      let windows = same_there (window_of ks) (point_by plan) (quits search) h.windows.selected h.windows.windows
      (λ w is. ap (λ (s : Option WindowMarks). point_by plan (window_shown ks w.height s w.rows)) (shows_is (Some x) sel w is)
      ∙ goes_there ks x kept h.state.search w.height w.rows
      ∙ sym (ap (λ (s : Option WindowMarks). quits search (window_shown ks w.height s w.rows)) (shows_is (Some x) sel w is))) in
      gone_here ks h x plan (failed (Says Quitting) h).state sound sel ∙ (λ i. record (session_of ks (failed (Says Quitting) h)) { windows = windows i })

  pub quit_does : (d : Directory) → Does d ks (gone_back (window_marks_of h) h.state.search ks) h (failed (Says Quitting) h) as_is (Run LeaveSearch None [])
  unfolding outcome
  quit_does d = record { left = o; quiet = refl; known = λ xs next. refl; does = quit_so (window_marks_of h) refl }

  only_quit : (v : Option WindowMarks) → window_marks_of h ≡ v → OnlyThis nothing_held ks (gone_back v h.state.search ks) h (failed (Says Quitting) h)
  only_quit None sel = only_state ks h (failed (Says Quitting) h).state
  only_quit (Some x) sel =
      only_gone ks h x (origin_plan x.name (length (marked_at x.name ks).buffer.text) h.state.search) (failed (Says Quitting) h).state sel (marks_held ks h x sound sel).point

  pub quit_only : OnlyThis nothing_held ks (gone_back (window_marks_of h) h.state.search ks) h (failed (Says Quitting) h)
  quit_only = only_quit (window_marks_of h) refl

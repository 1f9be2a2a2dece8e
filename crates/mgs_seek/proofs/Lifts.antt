-- One session acts: what is done is its act, and its marks stay sound.
use Rattle.std.proofs.Common.{◌≡◌, ℕ, ◌<◌, ◌≤◌, Bool, true, false, cond, List, [], ◌∷◌, length, map, get_or, Option, Some, None, refl, sym, ap, ◌∙◌, arith, eq-eqb, map-id}
use Rattle.std.specs.Prelude.{is_some, slice_get, slice_set}
use Rattle.std.specs.List.{position_or_len}
use Rattle.std.specs.Option.{option_map}
use Rattle.std.proofs.lemmas.Option.{slice_get-get_or}
use Rattle.mgs_model.specs.Access.{Directory}
use Rattle.mgs_model.specs.Acts.{fails, outcome, search_finished, search_finished_state}
use Rattle.mgs_model.specs.Apply.{act, applied, apply, change_at, change_first, search_after, is_search_mode, session_arranged, window_adjusted}
use Rattle.mgs_model.specs.Events.{state_set, with_state}
use Rattle.mgs_model.specs.Outcome.{Act, At, Keep_mark, Keep_position, No_effect, Outcome, PointPlan}
use Rattle.mgs_model.specs.SearchCommands.{SearchFinish}
use Rattle.mgs_model.specs.View.{view}
use Rattle.mgs_model.specs.World.{State, World, has_id}
use Rattle.mgs_model.specs.World as model
use Rattle.mgs_model.specs.declared.echo_text.Message.{Message}
use Rattle.mgs_model.proofs.Basics.{cons_head}
use Rattle.mgs_model.proofs.Firsts.{find-change_first}
use Rattle.mgs_marks.specs.Marks.{mark_in}
use Rattle.mgs_buffers.specs.MarkedBuffer.{IsMark, MarkedBuffer, marked_at}
use Rattle.mgs_windows.specs.declared.WindowMarks.{WindowMarks}
use Rattle.mgs_session.specs.Seeking.{is_search_in}
use Rattle.mgs_session.specs.Sessions.{failed, window_marks_of}
use Rattle.mgs_session.specs.declared.State as held
use Rattle.mgs_session.specs.declared.Session.{Session}
use Rattle.mgs_session.specs.declared.search.Search.{Search}
use Rattle.mgs_seek.specs.Beginning.{search_held, search_or_none}
use Rattle.mgs_plan.specs.Actions.{AreMarks, mark_gone}
use Rattle.mgs_world.specs.Sound.{IsSessionSound, IsSound, session_uses, uses, window_marks_uses, window_uses}
use Rattle.mgs_world.specs.Worlds.{state_at, idle, buffers_of, state_of, search_of, session_of, session_id, world_of}
use Rattle.mgs_world.proofs.Marks.{mark_unused, same_is}
use Rattle.mgs_world.proofs.Soundness.{in_use_placed, mark_used, one_if_most, point_used, selected_mark, top_used}
use Rattle.mgs_world.proofs.Uses.{sum_at}
use Rattle.mgs_world.proofs.Worlds.{selected_at, selected_window}
use Rattle.mgs_plan.proofs.Commands.{session_known}
use Rattle.mgs_plan.proofs.Deeds.{first_twice, fresh_state, gone_buffers, point_by, points_gone}
use Rattle.mgs_seek.specs.Acting.{Does, as_is}
use Rattle.mgs_world.specs.Only.{OnlyThis, nothing_held}
use Rattle.mgs_world.proofs.Only.{only_sound, only_world, sound_but}

-- THE MARKS OF A SESSION

pub marks_held : (ks : List MarkedBuffer) (h : Session) (x : WindowMarks) → IsSessionSound ks h → window_marks_of h ≡ Some x → AreMarks ks x
marks_held ks h x sound sel = record {
  point = selected_mark ks h x x.point sound sel (point_used x);
  mark = λ id is. selected_mark ks h x id sound sel (mark_used x id is);
  top = selected_mark ks h x x.top sound sel (top_used x);
}

-- its search is in the buffer of this name
pub in_this : (name : List ℕ) (o : Option Search) (s : Search) → is_search_in name o ≡ true → o ≡ Some s → s.name ≡ name
in_this name o s here is = sym (same_is name s.name (sym (ap (is_search_in name) is) ∙ here))

-- ONLY THIS SESSION CHANGED: its own record, and where its window's point is

pub only_state : (ks : List MarkedBuffer) (h : Session) (o : held.State) → (let y : Session = record h { state = o } in OnlyThis nothing_held ks ks h y)
only_state ks h o = record { buffers = refl; uses = λ m i. omega arith; stay = λ m i state used after. refl; size = refl }

point_state : (h : Session) (x : WindowMarks) → window_marks_of h ≡ Some x → 1 ≤ session_uses x.name x.point h
point_state h x sel =
    let got = selected_window (slice_get h.windows.windows h.windows.selected) x sel in
    let u : window_uses x.name x.point got.0 ≡ window_marks_uses x.name x.point (Some x) = ap (window_marks_uses x.name x.point) got.2 in
    omega (arith, u, point_used x, sum_at (window_uses x.name x.point) got.0 h.windows.windows h.windows.selected got.1)

pub only_gone : (ks : List MarkedBuffer) (h : Session) (x : WindowMarks) (to : PointPlan) (o : held.State) → window_marks_of h ≡ Some x → IsMark x.name x.point ks → (let y : Session = record h { state = o } in OnlyThis nothing_held ks (mark_gone x.name x.point to ks) h y)
only_gone ks h x (At p) o sel mark = record {
  buffers = gone_buffers x.name x.point (At p) ks;
  uses = λ m i. omega (arith, in_use_placed x.name x.point p ks m i mark);
  stay =
      λ m i state used after.
      mark_unused x.name m x.point p ks i
      (λ s e.
      let u : session_uses x.name x.point h ≡ session_uses m i h = ap (λ (n : List ℕ). session_uses n x.point h) (same_is x.name m s) ∙ ap (λ (k : ℕ). session_uses m k h) e in
      omega (arith, u, state, point_state h x sel));
  size = refl;
}
only_gone ks h x _ o sel mark = only_state ks h o

-- what it is seen to be then
module _ (ks : List MarkedBuffer) (h : Session) (x : WindowMarks) (to : PointPlan) (o : held.State) (sound : IsSessionSound ks h) (sel : window_marks_of h ≡ Some x) where
  abbrev y : Session
  y = record h { state = o }

  pub gone_here : session_of (mark_gone x.name x.point to ks) y ≡ selected_at (point_by to) (session_of ks y)
  gone_here =
      let n = x.name in
      let once : uses n x.point (y ∷ []) ≤ 1 = omega (arith, sound.once n x.point, one_if_most (is_some (mark_in (marked_at n ks).marks x.point))) in
      let same = eq-eqb h.id h.id refl in
      let found : Path (Option Session) (cond (session_id h.id y) (Some y) None) (Some y) = ap (λ (b : Bool). cond b (Some y) None) same in
      let s = session_of ks y in
      cons_head _ _ _ _
      (points_gone to ks (y ∷ []) h.id y x found sel (marks_held ks h x sound sel).point once
      ∙ ap (λ (b : Bool). cond b (selected_at (point_by to) s ∷ []) (s ∷ [])) same)

  -- by what is left: whatever its record and its search were before
  pub gone_does : (state : State) (q : Option model.Search) (p : State) (f : SearchFinish)
      → ((search : Option model.Search) (w : model.Window) → point_by to w ≡ window_adjusted search f.point Keep_mark Keep_position None w)
      → state_of o ≡ search_finished_state f state
      → search_of (buffers_of ks) o.search ≡ cond (is_search_mode (search_finished_state f state).mode) (search_after f.sought q) None
      → (let z : model.Session = record (session_of ks h) { search = q; state = p } in session_of (mark_gone x.name x.point to ks) y ≡ session_arranged (search_finished state f No_effect) z)
  gone_does state q p f adjusts state_is search_is =
      let s = session_of ks h in
      gone_here ∙ (λ i. record s { windows = change_at s.selected (λ w. adjusts q w i) s.windows; state = state_is i; search = search_is i })

-- a failure ends any mode
pub does_fail : (d : Directory) (ks : List MarkedBuffer) (h : Session) (f : State → State) (search : Option model.Search) (message : Message) (c : Act) (seen : model.Session → model.Session)
    → (let s : model.Session = record (session_of ks h) { search = search; state = f (state_of h.state) } in seen (session_of ks h) ≡ s)
    → session_arranged (fails (f (state_of h.state)) message) (seen (session_of ks h)) ≡ session_of ks (failed message h)
    → ((xs : List Session) (next : Option ℕ) → (let s : model.Session = record (session_of ks h) { search = search; state = f (state_of h.state) } in outcome (view (world_of d ks xs next) s) c true ≡ fails (f (state_of h.state)) message))
    → Does d ks ks h (failed message h) seen c
does_fail d ks h f search message c seen is ends known = record {
  left = fails (f (state_of h.state)) message;
  quiet = refl;
  known = λ xs next. ap (λ (s : model.Session). outcome (view (world_of d ks xs next) s) c true) is ∙ known xs next;
  does = sym ends;
}

-- THE ACT, of what is done for the session at an index

pub found_at : (xs : List Session) (at : ℕ) (h : Session) → h ≡ get_or xs at h → at < length xs → slice_get xs at ≡ Some h
found_at xs at h is within = slice_get-get_or xs at h within ∙ ap (λ (y : Session). Some y) (sym is)

pub held_at : (xs : List Session) (at : ℕ) (h : Session) (o : Option Search) → h ≡ get_or xs at h → at < length xs → search_held at xs ≡ o → h.state.search ≡ o
held_at xs at h o is within held = ap search_or_none (sym (found_at xs at h is within)) ∙ held

first_as_is : {A : Type 0} (p : A → Bool) (xs : List A) → change_first p (λ x. x) xs ≡ xs
first_as_is p [] = refl
first_as_is {A = A} p (x ∷ xs) = go (p x) (first_as_is p xs)
  where
    go : (b : Bool) → change_first p (λ x. x) xs ≡ xs → cond b (x ∷ xs) (x ∷ change_first p (λ x. x) xs) ≡ x ∷ xs
    go true rest = refl
    go false rest = ap (λ ys. x ∷ ys) rest

pub acts_sound : (ks ls : List MarkedBuffer) (xs : List Session) (at : ℕ) (h y : Session) → IsSound ks xs → h ≡ get_or xs at h → at < length xs → OnlyThis nothing_held ks ls h y → IsSound ls (slice_set xs at y)
acts_sound ks ls xs at h y sound is within only = only_sound nothing_held ks ls xs at h y (sound_but ks xs sound) is within only

pub fresh_at : (xs : List Session) (at : ℕ) (h : Session) → h ≡ get_or xs at h → at < length xs → state_at at xs ≡ idle (state_at at xs) → state_of h.state ≡ idle (state_of h.state)
fresh_at xs at h is within fresh = fresh_state xs at h (found_at xs at h is within) fresh

module _ (d : Directory) (ks ls : List MarkedBuffer) (xs : List Session) (at : ℕ) (h y : Session) (sound : IsSound ks xs) (is : h ≡ get_or xs at h) (within : at < length xs) (only : OnlyThis nothing_held ks ls h y) where
  module _ (next : Option ℕ) (id : ℕ) (place : at ≡ position_or_len (session_id id) xs) where
    abbrev w : World
    w = world_of d ks xs next

    begun_acts : (seen : model.Session → model.Session) → ((z : model.Session) → has_id id (seen z) ≡ has_id id z) → (c : Act) → Does d ks ls h y seen c
        → (let v : World = record w { sessions = change_first (has_id id) seen (map (session_of ks) xs) } in world_of d ls (slice_set xs at y) next ≡ act v id c true)
    begun_acts seen keeps c does =
        let ss = map (session_of ks) xs in
        let v : World = record w { sessions = change_first (has_id id) seen ss } in
        let o = does.left in
        only_world nothing_held d ks ls xs next id at h y (λ z. session_arranged o (seen z)) (sound_but ks xs sound) place is within only does.does
        ∙ (λ i. record w {
          sessions = (sym (first_twice (has_id id) seen (session_arranged o) keeps ss) ∙ ap (change_first (has_id id) (session_arranged o)) (sym (map-id (change_first (has_id id) seen ss)))) i;
        })
        ∙ (λ i. let q : Outcome = record o { effect = sym does.quiet i } in apply v id q)
        ∙ ap (apply v id) (sym (does.known xs next))
        ∙ sym (ap (applied v id)
        (ap (λ (found : Option model.Session). option_map (λ z. outcome z c true) (option_map (view w) found))
        (find-change_first (has_id id) seen keeps ss ∙ ap (option_map seen) (session_known d ks xs next id at h place within (found_at xs at h is within)))))

    pub acts : (c : Act) → Does d ks ls h y as_is c → world_of d ls (slice_set xs at y) next ≡ act w id c true
    acts c does =
        begun_acts as_is (λ z. refl) c does
        ∙ ap (λ (ss : List model.Session). let v : World = record w { sessions = ss } in act v id c true) (first_as_is (has_id id) (map (session_of ks) xs))

    pub acts_with : (f : State → State) (c : Act) → Does d ks ls h y (state_set f) c → world_of d ls (slice_set xs at y) next ≡ act (with_state id f w) id c true
    acts_with f c does = begun_acts (state_set f) (λ z. refl) c does

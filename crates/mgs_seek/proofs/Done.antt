-- A replacement that is done is its act, and what is left to search becomes less.
use Rattle.std.proofs.Common.{◌≡◌, ℕ, ◌+◌, ◌-◌, ◌<◌, ◌≤◌, ◌^◌, ◌||◌, nat_lt, min, Bool, true, false, cond, List, length, map, get_or, Option, Some, None, refl, sym, ap, subst, ◌∙◌, arith}
use Rattle.std.specs.Prelude.{IfSome, slice_get, slice_set}
use Rattle.std.specs.List.{position_or_len}
use Rattle.std.proofs.lemmas.Option.{get_or_from_slice_get}
use Rattle.mgs_model.specs.Access.{Directory}
use Rattle.mgs_model.specs.Acts.{counted, edit_of, search_finished}
use Rattle.mgs_laws.specs.Apart.{touched_by}
use Rattle.mgs_model.specs.Apply.{act, applied, apply, change_first, outcome_in, session_arranged}
use Rattle.mgs_laws.specs.Refusals.{may_be_refused}
use Rattle.mgs_model.specs.Outcome.{Edit, No_effect, Outcome, Run, Act}
use Rattle.mgs_laws.specs.Refusals.{takes_memory}
use Rattle.mgs_model.specs.Plans.{Change}
use Rattle.mgs_model.specs.SearchCommands.{SearchFinish, met}
use Rattle.mgs_model.specs.Text.{is_edit}
use Rattle.mgs_model.specs.World.{State, World, has_id}
use Rattle.mgs_model.specs.declared.session.Command.TheVariants as commands
use Rattle.mgs_model.specs.declared.touched.Touched.{Touched}
use Rattle.mgs_buffers.specs.MarkedBuffer.{HasBuffer, MarkedBuffer, marked_at, marked_named, IsMark}
use Rattle.mgs_windows.specs.declared.WindowMarks.{WindowMarks}
use Rattle.mgs_edit.specs.Reading.{top_read}
use Rattle.mgs_session.specs.Replacing.{Replacing}
use Rattle.mgs_session.specs.Seeking.{searching, search_edited}
use Rattle.mgs_session.specs.declared.Session.{Session}
use Rattle.mgs_session.specs.declared.search.Aim.TheVariants.{Replace}
use Rattle.mgs_session.specs.declared.search.Edited.{Edited}
use Rattle.mgs_session.specs.declared.search.Search.{Search}
use Rattle.mgs_plan.specs.Actions.{mark_gone}
use Rattle.mgs_seek.specs.Beginning.{search_held, search_or_none}
use Rattle.mgs_plan.specs.Following.{CanFollow, edit_told, followed, if_edit}
use Rattle.mgs_plan.specs.Tells.{touched_in}
use Rattle.mgs_world.specs.Only.{OnlyThis, nothing_held}
use Rattle.mgs_world.specs.Sound.{IsSound}
use Rattle.mgs_world.specs.Worlds.{aim_old, buffers_of, id_after, state_of, session_id, session_of, size_named, world_of}
use Rattle.mgs_world.proofs.Edits.{followed_get, size_kept}
use Rattle.mgs_world.proofs.Only.{only_world, sound_but}
use Rattle.mgs_world.proofs.SelectedMark.{get_set}
use Rattle.mgs_world.proofs.Soundness.{mark_is_kept, session_sound}
use Rattle.mgs_world.proofs.Worlds.{same_world}
use Rattle.mgs_plan.proofs.Commands.{outcome_known}
use Rattle.mgs_plan.proofs.Deeds.{edited_buffers, edited_sound, gone_buffers, no_quit}
use Rattle.mgs_plan.proofs.Followed.{place_followed, sessions_went, sound_kept, within_followed}
use Rattle.mgs_plan.proofs.Leaving.{length_edited_by, mark_edited_by, place_edited_by}
use Rattle.mgs_seek.specs.Planning.{CanPerform, IsDone, IsPlanned, buffers_edited, change_planned, counted_if, edit_planned_in, left_at, old_of, one_met, search_after, session_after, size_then, IsTyped, ReplacementFails, IsLeft, touched_edit}
use Rattle.mgs_seek.specs.Replacing.{point_met, remaining_at, remaining_in, replacement, session_met}
use Rattle.mgs_seek.specs.declared.query_replace.Planned.{Planned}
use Rattle.mgs_seek.proofs.Lifts.{acts_sound, found_at, in_this, acts, does_fail, held_at, only_state}
use Rattle.mgs_seek.proofs.Meets.{counts, met_does, only_met, replaces}
use Rattle.mgs_seek.proofs.Seeks.{held_so}
use Rattle.mgs_seek.proofs.Skips.{none_counted, same_replacing}
use Rattle.mgs_model.specs.declared.echo_text.Message.{Message}
use Rattle.mgs_model.specs.declared.touched.Touched.TheVariants.{Nowhere}
use Rattle.mgs_session.specs.Sessions.{failed}
use Rattle.mgs_seek.specs.Acting.{as_is}
use Rattle.std.specs.Option.{option_map}

is_told : (b : Bool) (e q : Edited) → Path (Option Edited) (cond b (Some e) None) (Some q) → b ≡ true
is_told true e q is = refl
is_told false e q is = cc

-- STEP BY STEP: the edit, the positions that go by it, and its session

after_held : (n : List ℕ) (e : Option Edited) (h : Session) (s : Search) → h.state.search ≡ Some s → (session_after n e h).state.search ≡ Some (search_after n e s)
after_held n None h s held = held
after_held n (Some e) h s held = ap (option_map (search_edited n e)) held

old_after : (n : List ℕ) (e : Option Edited) (h : Session) → old_of (session_after n e h).state.search ≡ old_of h.state.search
old_after n None h = refl
old_after n (Some e) h = by h.state.search
  where
    by : (o : Option Search) → old_of (option_map (search_edited n e) o) ≡ old_of o
    by None = refl
    by (Some s) = refl

touched_is : (n : List ℕ) (size : ℕ) (c : Change) → touched_edit n (edit_told size c) ≡ touched_by (edit_of n c.a c.b c.put)
touched_is n size c = by (is_edit c.a c.b c.put)
  where
    by : (q : Bool) → touched_edit n (cond q (Some (record { size = size; from = c.a; to = c.b; added = length c.put })) None) ≡ touched_by (cond q (Edit n c.a c.b c.put) No_effect)
    by true = refl
    by false = refl

-- the edit that is told is the one of the plan
told_is : (d : Directory) (ks : List MarkedBuffer) (h : Session) (p : Planned) → CanPerform d ks h p → if_edit p.edit ≡ edit_told (length (marked_at p.window_marks.name ks).buffer.text) (change_planned p h.state.search)
told_is d ks h p can =
    ap (λ (n : ℕ). if_edit (record p.edit { size = n })) can.size
    ∙ ap (λ (n : ℕ). if_edit (record p.edit { size = length (marked_at p.window_marks.name ks).buffer.text; added = n })) (sym can.added)

module _ {d : Directory} (ks ls : List MarkedBuffer) (h : Session) (p : Planned) (can : CanPerform d ks h p) (edit_is : ls ≡ buffers_edited p h.state.search ks) where
  abbrev called : List ℕ
  called = p.window_marks.name

  abbrev edit_done : Change
  edit_done = change_planned p h.state.search

  pub mark_then : IsMark called p.window_marks.point ls
  mark_then = subst (λ (k : List MarkedBuffer). IsMark called p.window_marks.point k) (sym edit_is) (mark_edited_by called edit_done ks p.window_marks.point can.mark)

  pub place_then : p.place ≡ position_or_len (marked_named called) ls
  place_then = subst (λ (k : List MarkedBuffer). p.place ≡ position_or_len (marked_named called) k) (sym edit_is) (place_edited_by called edit_done ks p.place can.place)

  length_then : length (marked_at called ls).buffer.text ≡ size_then p (length (marked_at called ks).buffer.text)
  length_then =
      ap (λ (k : List MarkedBuffer). length (marked_at called k).buffer.text) edit_is
      ∙ length_edited_by called edit_done ks (mark_is_kept called p.window_marks.point ks can.mark) can.order can.within
      ∙ ap (λ (n : ℕ). length (marked_at called ks).buffer.text - (p.edit.to - p.edit.from) + n) can.added

  pub behind_then : p.edit.from + p.edit.added ≤ length (marked_at called ls).buffer.text
  behind_then = omega (arith, can.order, can.within, length_then)

  pub follows : (e : Option Edited) → e ≡ if_edit p.edit → CanFollow e
  follows e is = subst CanFollow (sym is) (by (nat_lt p.edit.from p.edit.to || nat_lt 0 p.edit.added))
    where
      by : (q : Bool) → CanFollow (cond q (Some p.edit) None)
      by true = (can.order, can.fits)
      by false = tt

  module _ (e : Option Edited) (e_is : e ≡ if_edit p.edit) (y : Session) (y_is : y ≡ session_after called e h) where
    y_so : y ≡ session_after called (if_edit p.edit) h
    y_so = y_is ∙ ap (λ (q : Option Edited). session_after called q h) e_is

    pub next_then : IfSome p.plan.next (λ m. m + length (old_of y.state.search) ≤ length (marked_at called ls).buffer.text)
    next_then = by p.plan.next can.next
      where
        old : length (old_of y.state.search) ≡ length (old_of h.state.search)
        old = ap (λ (z : Session). length (old_of z.state.search)) y_is ∙ ap (λ (k : List ℕ). length k) (old_after called e h)

        by : (q : Option ℕ) → IfSome q (λ m. m + length (old_of h.state.search) ≤ size_then p (length (marked_at called ks).buffer.text)) → IfSome q (λ m. m + length (old_of y.state.search) ≤ length (marked_at called ls).buffer.text)
        by None small = tt
        by (Some m) small = omega (arith, small, old, length_then)

    pub done_by : (at : ℕ) (xs ys : List Session) (ks2 : List MarkedBuffer) (left : Session) (touched : Touched) → ys ≡ followed called e xs → ((s : Search) → y.state.search ≡ Some s → IsLeft p s ls ks2 y left) → touched ≡ touched_edit called e → IsDone at p h ks ks2 xs (slice_set ys at left) touched
    done_by at xs ys ks2 left touched follow leave told = record {
      left = left;
      done =
          λ s held.
          let s1 = search_after called (if_edit p.edit) s in
          subst (λ (k : List MarkedBuffer). IsLeft p s1 k ks2 (session_after called (if_edit p.edit) h) left) edit_is
          (subst (λ (z : Session). IsLeft p s1 ls ks2 z left) y_so (leave s1 (ap (λ (z : Session). z.state.search) y_so ∙ after_held called (if_edit p.edit) h s held)));
      sessions = ap (λ (zs : List Session). slice_set zs at left) (follow ∙ ap (λ (q : Option Edited). followed called q xs) e_is);
      tells = told ∙ ap (touched_edit called) (e_is ∙ told_is d ks h p can) ∙ touched_is called (length (marked_at called ks).buffer.text) edit_done;
    }

-- WHERE IT IS DONE

abbrev count_met : Bool → ℕ → ℕ
count_met true n = counted n 1
count_met false n = n

count_is : (b : Bool) (n : ℕ) → n < 2 ^ 64 → count_met b n ≡ counted n (one_met b)
count_is true n small = refl
count_is false n small = none_counted n small

counted_is : (b : Bool) (s : Search) (r : Replacing) → counted_if b (replaces s r) ≡ counts s r (count_met b r.count)
counted_is true s r = refl
counted_is false s r = refl

search_is : (n : List ℕ) (e : Option Edited) (s : Search) (r : Replacing) → search_after n e (replaces s r) ≡ replaces (search_after n e s) r
search_is n None s r = refl
search_is n (Some e) s r = refl

name_is : (n : List ℕ) (e : Option Edited) (s : Search) → (search_after n e s).name ≡ s.name
name_is n None s = refl
name_is n (Some e) s = refl

pub session_is : (n : List ℕ) (e : Option Edited) (h : Session) (s : Search) (r : Replacing) → h.state.search ≡ Some (replaces s r) → session_after n e h ≡ searching (replaces (search_after n e s) r) h
session_is n None h s r held = held_so h (replaces s r) held
session_is n (Some e) h s r held = ap (session_after n (Some e)) (held_so h (replaces s r) held)

after_at : (n : List ℕ) (e : Option Edited) (xs : List Session) (at : ℕ) (h : Session) → slice_get xs at ≡ Some h → slice_get (followed n e xs) at ≡ Some (session_after n e h)
after_at n None xs at h found = found
after_at n (Some e) xs at h found = followed_get n e xs at h found

pub went_at : (n : List ℕ) (e : Option Edited) (xs ys : List Session) (at : ℕ) (h other : Session) → ys ≡ followed n e xs → slice_get xs at ≡ Some h → get_or ys at other ≡ session_after n e h
went_at n e xs ys at h other went found = get_or_from_slice_get ys at (session_after n e h) other (ap (λ (zs : List Session). slice_get zs at) went ∙ after_at n e xs at h found)

module _ (d : Directory) (ks : List MarkedBuffer) (xs : List Session) (at : ℕ) (h : Session) (last : Bool) (p : Planned) (planned : IsPlanned d ks h last p) (sound : IsSound ks xs) (is : h ≡ get_or xs at h) (within : at < length xs) where
  abbrev x : WindowMarks
  x = p.window_marks

  abbrev s : Search
  s = planned.s

  abbrev r : Replacing
  r = planned.r

  abbrev c : Change
  c = change_planned p h.state.search

  abbrev e : Option Edited
  e = if_edit p.edit

  abbrev ks1 : List MarkedBuffer
  ks1 = buffers_edited p h.state.search ks

  abbrev xs1 : List Session
  xs1 = followed x.name e xs

  abbrev s1 : Search
  s1 = search_after x.name e s

  -- the session behind the edit, and in the end
  abbrev h1 : Session
  h1 = searching (replaces s1 r) h

  abbrev b : Bool
  b = p.plan.replaces

  abbrev y : Session
  y = session_met p.plan.next (counts s1 r (count_met b r.count)) h1

  abbrev ls : List MarkedBuffer
  ls = mark_gone x.name x.point (point_met (length r.pattern) p.plan.next (left_at p)) ks1

  abbrev f : SearchFinish
  f = met (length r.pattern) (one_met b) (top_read (left_at p)) p.plan.next

  abbrev o : Outcome
  o = search_finished (state_of h.state) f (edit_planned_in p h.state.search)

  kept : HasBuffer x.name ks
  kept = mark_is_kept x.name x.point ks planned.can.mark

  size1 : length (marked_at x.name ks1).buffer.text ≡ size_then p (length (marked_at x.name ks).buffer.text)
  size1 = length_edited_by x.name c ks kept planned.can.order planned.can.within ∙ ap (λ (n : ℕ). length (marked_at x.name ks).buffer.text - (p.edit.to - p.edit.from) + n) planned.can.added

  found : slice_get xs at ≡ Some h
  found = found_at xs at h is within

  found1 : slice_get xs1 at ≡ Some h1
  found1 = after_at x.name e xs at h found ∙ ap (λ (z : Session). Some z) (session_is x.name e h s r planned.held)

  is1 : h1 ≡ get_or xs1 at h1
  is1 = sym (get_or_from_slice_get xs1 at h1 h1 found1)

  within1 : at < length xs1
  within1 = within_followed x.name e xs at within

  sound1 : IsSound ks1 xs1
  sound1 = edited_sound x.name c ks xs1 (sound_kept x.name e ks xs sound)

  name1 : s1.name ≡ x.name
  name1 = name_is x.name e s ∙ in_this x.name h.state.search (replaces s r) planned.sought.here planned.held

  next1 : IfSome p.plan.next (λ m. m ≤ length (marked_at x.name ks1).buffer.text)
  next1 = by p.plan.next planned.can.next
    where
      by : (q : Option ℕ) → IfSome q (λ m. m + length (old_of h.state.search) ≤ size_then p (length (marked_at x.name ks).buffer.text)) → IfSome q (λ m. m ≤ length (marked_at x.name ks1).buffer.text)
      by None small = tt
      by (Some m) small = omega (arith, small, size1)

  only1 : OnlyThis nothing_held ks1 ls h1 y
  only1 = only_met ks1 h1 x (length r.pattern) p.plan.next (left_at p) (counts s1 r (count_met b r.count)) planned.sought.target.sel (mark_edited_by x.name c ks x.point planned.can.mark)

  put_sound : IsSound ls (slice_set xs1 at y)
  put_sound = acts_sound ks1 ls xs1 at h1 y sound1 is1 within1 only1

  state_is : state_of h.state ≡ state_of h1.state
  state_is = ap (λ (z : Session). state_of z.state) (held_so h (replaces s r) planned.held)

  module _ (next : Option ℕ) (id : ℕ) (place : at ≡ position_or_len (session_id id) xs) where
    abbrev w : World
    w = world_of d ks xs next

    put_world : world_of d ls (slice_set xs1 at y) next ≡ apply w id o
    put_world =
        let g : Outcome = search_finished (state_of h1.state) f No_effect in
        only_world nothing_held d ks1 ls xs1 next id at h1 y (session_arranged g) (sound_but ks1 xs1 sound1) (place_followed x.name e xs id at place) is1 within1 only1
        (met_does ks1 h1 x s1 r (session_sound ks1 xs1 at h1 sound1 is1 within1) planned.sought.target.sel name1 (length r.pattern) (left_at p) (count_met b r.count) (one_met b) (count_is b r.count planned.count) p.plan.next next1)
        ∙ same_world d _ _ _ _ (id_after next) (edited_buffers x.name c ks)
        (ap (change_first (has_id id) (session_arranged g))
        (ap (λ (q : Option Edited). map (session_of ks1) (followed x.name q xs)) (told_is d ks h p planned.can) ∙ sessions_went x.name c ks xs planned.can.order planned.can.within kept)
        ∙ sym (no_quit x.name c id _))
        ∙ ap (λ (state : State). apply w id (search_finished state f (edit_planned_in p h.state.search))) (sym state_is)

    -- by what the session holds
    module _ (t : Search) (u : Replacing) (held : search_held at xs ≡ Some t) (aim : t.aim ≡ Replace u) where
      same : r ≡ u
      same = same_replacing s r t u (sym planned.held ∙ ap search_or_none (sym found) ∙ held) aim

      known_held : outcome_in w id (Run (commands.Replace (replacement last)) None u.put) true ≡ Some o
      known_held =
          ap (λ (v : Replacing). outcome_in w id (Run (commands.Replace (replacement last)) None v.put) true) (sym same)
          ∙ outcome_known d ks xs next id at h (Run (commands.Replace (replacement last)) None r.put) place within found
          ∙ ap (λ (q : Outcome). Some q) (planned.known xs next)

      put_act : world_of d ls (slice_set xs1 at y) next ≡ act w id (Run (commands.Replace (replacement last)) None u.put) true
      put_act = put_world ∙ sym (ap (applied w id) known_held)

      put_tells : touched_by (edit_planned_in p h.state.search) ≡ touched_in (outcome_in w id (Run (commands.Replace (replacement last)) None u.put) true)
      put_tells = sym (ap touched_in known_held)

      pub put_may : if_edit p.edit ≡ Some p.edit → may_be_refused (outcome_in w id (Run (commands.Replace (replacement last)) None u.put) true) ≡ true
      put_may edits =
          ap may_be_refused known_held
          ∙ ap (λ (q : Bool). takes_memory (search_finished (state_of h.state) f (cond q (Edit x.name c.a c.b c.put) No_effect))) (is_told (is_edit c.a c.b c.put) _ _ (sym (told_is d ks h p planned.can) ∙ edits))

  abbrev text : List ℕ
  text = (marked_at x.name ks).buffer.text

  abbrev end : Option ℕ → Session
  end q = session_met q (counts s1 r (count_met b r.count)) h1

  -- WHAT IS LEFT becomes less
  put_further : (t v : Search) → search_held at xs ≡ Some t → search_held at (slice_set xs1 at y) ≡ Some v → 0 < length (aim_old t.aim) → remaining_at at ls (slice_set xs1 at y) < remaining_at at ks xs
  put_further t v before now some = by p.plan.next refl (planned.less some_so)
    where
      some_so : 0 < length r.pattern
      some_so = let same : t ≡ replaces s r = cc (sym before ∙ ap search_or_none found ∙ planned.held) in subst (λ (q : Search). 0 < length (aim_old q.aim)) same some

      held_then : search_held at (slice_set xs1 at y) ≡ y.state.search
      held_then = ap search_or_none (get_set xs1 at h1 y found1)

      size_before : size_named s.name (buffers_of ks) ≡ length text
      size_before = ap (λ (n : List ℕ). size_named n (buffers_of ks)) (in_this x.name h.state.search (replaces s r) planned.sought.here planned.held) ∙ size_kept x.name ks kept

      size_after : size_named s1.name (buffers_of ls) ≡ size_then p (length text)
      size_after =
          ap (λ (n : List ℕ). size_named n (buffers_of ls)) name1
          ∙ ap (size_named x.name) (gone_buffers x.name x.point (point_met (length r.pattern) p.plan.next (left_at p)) ks1)
          ∙ size_kept x.name ks1 (mark_is_kept x.name x.point ks1 (mark_edited_by x.name c ks x.point planned.can.mark))
          ∙ size1

      was : remaining_at at ks xs ≡ length text - min s.anchor (length text)
      was = ap (remaining_in ks) (ap search_or_none found ∙ planned.held) ∙ ap (λ (k : ℕ). k - min s.anchor k) size_before

      by : (q : Option ℕ) → p.plan.next ≡ q → IfSome q (λ m. size_then p (length text) - min m (size_then p (length text)) < length text - min s.anchor (length text)) → remaining_at at ls (slice_set xs1 at y) < remaining_at at ks xs
      by None next less = cc (sym (held_then ∙ ap (λ (k : Option ℕ). (end k).state.search) next) ∙ now)
      by (Some m) next less =
          let then_is : remaining_at at ls (slice_set xs1 at y) ≡ size_then p (length text) - min m (size_then p (length text)) =
          ap (remaining_in ls) (held_then ∙ ap (λ (k : Option ℕ). (end k).state.search) next) ∙ ap (λ (k : ℕ). k - min m k) size_after in
          omega (arith, then_is, was, less)

  -- AS IT IS DONE
  module _ (ks2 : List MarkedBuffer) (xs2 : List Session) (touched : Touched) (t : IsDone at p h ks ks2 xs xs2 touched) where
    left_so : t.left ≡ y
    left_so =
        (t.done (replaces s r) planned.held).session
        ∙ ap (λ (u : Search). session_met p.plan.next (counted_if b u) (session_after x.name e h)) (search_is x.name e s r)
        ∙ ap (session_met p.plan.next (counted_if b (replaces s1 r))) (session_is x.name e h s r planned.held)
        ∙ ap (λ (u : Search). session_met p.plan.next u h1) (counted_is b s1 r)

    pub buffers_so : ks2 ≡ ls
    buffers_so =
        (t.done (replaces s r) planned.held).buffers
        ∙ ap (λ (u : Search). mark_gone x.name x.point (point_met (length (aim_old u.aim)) p.plan.next (left_at p)) ks1) (search_is x.name e s r)

    pub sessions_so : xs2 ≡ slice_set xs1 at y
    sessions_so = t.sessions ∙ ap (slice_set xs1 at) left_so

    pub done_sound : IsSound ks2 xs2
    done_sound = rw (buffers_so, sessions_so) put_sound

    pub done_further : (s t : Search) → search_held at xs ≡ Some s → search_held at xs2 ≡ Some t → 0 < length (aim_old s.aim) → remaining_at at ks2 xs2 < remaining_at at ks xs
    done_further s t before now some = rw (buffers_so, sessions_so) (put_further s t before (sym (ap (search_held at) sessions_so) ∙ now) some)

    module _ (next : Option ℕ) (id : ℕ) (place : at ≡ position_or_len (session_id id) xs) (q : Search) (u : Replacing) (held : search_held at xs ≡ Some q) (aim : q.aim ≡ Replace u) where
      pub done_act : world_of d ks2 xs2 next ≡ act (world_of d ks xs next) id (Run (commands.Replace (replacement last)) None u.put) true
      done_act =
          ap (λ (k : List MarkedBuffer). world_of d k xs2 next) buffers_so
          ∙ ap (λ (zs : List Session). world_of d ls zs next) sessions_so
          ∙ put_act next id place q u held aim

      pub done_tells : touched ≡ touched_in (outcome_in (world_of d ks xs next) id (Run (commands.Replace (replacement last)) None u.put) true)
      done_tells = t.tells ∙ put_tells next id place q u held aim

  -- it has a search
  pub unsought_never : search_held at xs ≡ None → ⊥
  unsought_never none = cc (sym none ∙ ap search_or_none found ∙ planned.held)

-- THE SESSION, as it is found there

pub can_at : (d : Directory) (ks : List MarkedBuffer) (xs : List Session) (at : ℕ) (h : Session) (last : Bool) (p : Planned) → IsPlanned d ks h last p → h ≡ get_or xs at h → at < length xs → (g : Session) → slice_get xs at ≡ Some g → CanPerform d ks g p
can_at d ks xs at h last p planned is within g found = subst (λ (z : Session). CanPerform d ks z p) (cc (sym (found_at xs at h is within) ∙ found)) planned.can

-- WHERE IT FAILS

-- the session was read twice
pub seen_at : (d : Directory) (ks : List MarkedBuffer) (xs : List Session) (at : ℕ) (h g : Session) (message : Message) (last : Bool) → h ≡ get_or xs at h → g ≡ get_or xs at g → at < length xs → ReplacementFails d ks h last message → ReplacementFails d ks g last message
seen_at d ks xs at h g message last is same within all =
    let one : h ≡ g = cc (sym (found_at xs at h is within) ∙ found_at xs at g same within) in subst (λ (z : Session). ReplacementFails d ks z last message) one all

pub fails_sound : (ks : List MarkedBuffer) (xs : List Session) (at : ℕ) (h : Session) (message : Message) → IsSound ks xs → h ≡ get_or xs at h → at < length xs → IsSound ks (slice_set xs at (failed message h))
fails_sound ks xs at h message sound is within = acts_sound ks ks xs at h (failed message h) sound is within (only_state ks h (failed message h).state)

-- one that is over searches nothing
pub fails_further : (xs : List Session) (at : ℕ) (h y : Session) (t : Search) → h ≡ get_or xs at h → at < length xs → y.state.search ≡ None → search_held at (slice_set xs at y) ≡ Some t → ⊥
fails_further xs at h y t is within over held = cc (sym over ∙ sym (ap search_or_none (get_set xs at h y (found_at xs at h is within))) ∙ held)

module _ (d : Directory) (ks : List MarkedBuffer) (xs : List Session) (at : ℕ) (h : Session) (message : Message) (last : Bool) (all : ReplacementFails d ks h last message) (sound : IsSound ks xs) (is : h ≡ get_or xs at h) (within : at < length xs) (next : Option ℕ) (id : ℕ) (place : at ≡ position_or_len (session_id id) xs) where
  abbrev now : World
  now = world_of d ks xs next

  abbrev replaces_with : List ℕ → Act
  replaces_with typed = Run (commands.Replace (replacement last)) None typed

  fails_so : (typed : List ℕ) → IsTyped h.state.search typed → world_of d ks (slice_set xs at (failed message h)) next ≡ act now id (replaces_with typed) true
  fails_so typed so =
      acts d ks ks xs at h (failed message h) sound is within (only_state ks h (failed message h).state) next id place (replaces_with typed)
      (does_fail d ks h (λ state. state) (session_of ks h).search message (replaces_with typed) as_is refl refl (λ ys n. all ys n typed so))

  pub fails_none : (typed : List ℕ) → search_held at xs ≡ None → world_of d ks (slice_set xs at (failed message h)) next ≡ act now id (replaces_with typed) true
  fails_none typed none = fails_so typed (λ t had. cc (sym (held_at xs at h None is within none) ∙ had))

  module _ (s : Search) (r : Replacing) (held : search_held at xs ≡ Some s) (aim : s.aim ≡ Replace r) where
    typed : IsTyped h.state.search r.put
    typed = λ t had. let same : t ≡ s = cc (sym had ∙ held_at xs at h (Some s) is within held) in (r, ap (λ (q : Search). q.aim) same ∙ aim, refl)

    pub fails_act : world_of d ks (slice_set xs at (failed message h)) next ≡ act now id (replaces_with r.put) true
    fails_act = fails_so r.put typed

    pub fails_tells : Nowhere ≡ touched_in (outcome_in now id (replaces_with r.put) true)
    fails_tells = sym (ap touched_in (outcome_known d ks xs next id at h (replaces_with r.put) place within (found_at xs at h is within) ∙ ap (λ (q : Outcome). Some q) (all xs next r.put typed)))

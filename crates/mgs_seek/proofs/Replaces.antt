-- A replacement: what it comes to is planned, and what is done is that.
use Rattle.std.proofs.Common.{◌≡◌, ℕ, ◌+◌, ◌-◌, ◌<◌, ◌≤◌, min, Bool, true, false, cond, List, length, Option, Some, None, refl, sym, ap, subst, ◌∙◌, arith}
use Rattle.std.specs.Prelude.{IfErr, IfSome, IfOk, Result, Ok, Err}
use Rattle.mgs_model.specs.Access.{Directory}
use Rattle.mgs_model.specs.Acts.{edit_of, fails, is_full, outcome, search_finished}
use Rattle.mgs_model.specs.Outcome.{Act, Outcome, Run}
use Rattle.mgs_model.specs.SearchCommands.{AroundSearch, SearchChange, SearchFinish, met, replace}
use Rattle.mgs_model.specs.View.{view}
use Rattle.mgs_model.specs.declared.echo_text.Message.{Message}
use Rattle.mgs_model.specs.declared.echo_text.Message.TheVariants.{Says}
use Rattle.mgs_model.specs.declared.echo_text.Notice.TheVariants.{BufferFull}
use Rattle.mgs_model.specs.declared.session.Command.TheVariants as commands
use Rattle.mgs_model.specs.declared.session.Seeking.TheVariants.{SkipMatch}
use Rattle.mgs_buffers.specs.MarkedBuffer.{MarkedBuffer, marked_at}
use Rattle.mgs_windows.specs.declared.WindowMarks.{WindowMarks}
use Rattle.mgs_edit.specs.Reading.{top_read}
use Rattle.mgs_search.specs.declared.query_matches.MatchPlan.{MatchPlan}
use Rattle.mgs_session.specs.Replacing.{Replacing}
use Rattle.mgs_session.specs.declared.Session.{Session}
use Rattle.mgs_session.specs.declared.search.Aim.{Aim}
use Rattle.mgs_session.specs.declared.search.Aim.TheVariants.{Replace}
use Rattle.mgs_session.specs.declared.search.Edited.{Edited}
use Rattle.mgs_session.specs.declared.search.Search.{Search}
use Rattle.mgs_plan.specs.Actions.{replaced_outcome}
use Rattle.mgs_world.specs.Worlds.{state_of, session_of, world_of}
use Rattle.mgs_seek.specs.Acting.{IsSought, SearchFails}
use Rattle.mgs_seek.specs.Planning.{FullAt, IsPlan, IsPlanned, PlannedAt, ReplacementFails, anchor_at, edit_planned, old_of, one_met, put_by, put_of, size_then, to_by}
use Rattle.mgs_seek.specs.Replacing.{replacement}
use Rattle.mgs_seek.specs.declared.query_replace.Planned.{Planned}
use Rattle.mgs_seek.proofs.Comes.{come_sought, sought_place}
use Rattle.mgs_seek.proofs.Meets.{replaces}
use Rattle.mgs_seek.proofs.Puts.{change_read, next_facts, within_text}
use Rattle.mgs_seek.proofs.Seeks.{held_so}
use Rattle.mgs_seek.proofs.Skips.{same_replacing}

-- WHAT IT COMES TO, by a session that has this query-replace in the buffer of its window
module _ (d : Directory) (ks : List MarkedBuffer) (h : Session) (x : WindowMarks) (s : Search) (r : Replacing) (last : Bool) (sought : IsSought d ks h true x) (held : h.state.search ≡ Some (replaces s r)) where
  abbrev text : List ℕ
  text = (marked_at x.name ks).buffer.text

  abbrev serial : ℕ
  serial = (marked_at x.name ks).buffer.serial

  abbrev a : ℕ
  a = anchor_at x ks s.anchor

  anchored : a ≤ length text
  anchored = omega arith

  abbrev replaces_it : Act
  replaces_it = Run (commands.Replace (replacement last)) None r.put

  -- by what is planned, which takes out the characters up to there and puts these in
  abbrev ends_by : MatchPlan → ℕ → List ℕ → Outcome
  ends_by plan to put =
      search_finished (state_of h.state) (met (length r.pattern) (one_met plan.replaces) (top_read (cond plan.replaces (Some (a + length put)) None)) plan.next) (edit_of x.name a to put)

  abbrev comes_to : MatchPlan → ℕ → List ℕ → Outcome
  comes_to plan to put = cond (is_full (length text) serial a to put) (fails (state_of h.state) (Says BufferFull)) (ends_by plan to put)

  comes_so : (plan : MatchPlan) → IsPlan text a r last plan → (xs : List Session) (next : Option ℕ) → outcome (view (world_of d ks xs next) (session_of ks h)) replaces_it true ≡ comes_to plan (to_by plan.replaces a r.pattern) (put_by plan.replaces r.put)
  comes_so plan planned xs next =
      let here = held_so h (replaces s r) held in
      let there : AroundSearch = record (sought_place d ks h true x (replaces s r) sought held) { typed = r.put } in
      ap (λ (y : Session). outcome (view (world_of d ks xs next) (session_of ks y)) replaces_it true) here
      ∙ come_sought d ks h true x (replaces s r) sought held SkipMatch (replacement last) None r.put xs next
      ∙ ap (λ (y : Session). replaced_outcome (state_of y.state) x.name (length text) serial (replace (replacement last) text there)) (sym here)
      ∙ ap (replaced_outcome (state_of h.state) x.name (length text) serial) (sym (planned there) ∙ ap (λ (c : SearchChange). Ok c) (change_read last a r text plan anchored planned))

  -- the buffer is full
  pub full_fails : (message : Message) → FullAt ks x s.anchor r last message → ReplacementFails d ks h last message
  full_fails message full xs next typed is =
      let t = is (replaces s r) held in
      let same : r ≡ t.0 = same_replacing s r (replaces s r) t.0 refl t.1 in
      ap (λ (q : List ℕ). outcome (view (world_of d ks xs next) (session_of ks h)) (Run (commands.Replace (replacement last)) None q) true) (t.2 ∙ ap (λ (v : Replacing). v.put) (sym same))
      ∙ comes_so full.done full.plan xs next
      ∙ ap (λ (q : Bool). cond q (fails (state_of h.state) (Says BufferFull)) (ends_by full.done (to_by full.done.replaces a r.pattern) (put_by full.done.replaces r.put))) full.full
      ∙ ap (fails (state_of h.state)) (sym full.told)

  -- it is planned
  module _ (p : Planned) (planned : PlannedAt ks x s.anchor r last p) where
    abbrev b : Bool
    b = p.plan.replaces

    abbrev e : Edited
    e = edit_planned (length text) a r b

    put_is : (q : Bool) → put_of q h.state.search ≡ put_by q r.put
    put_is q = ap (put_of q) held

    facts : (m : ℕ) → p.plan.next ≡ Some m → (m + length r.pattern ≤ length text - (e.to - a) + e.added) × (0 < length r.pattern → length text - (e.to - a) + e.added - min m (length text - (e.to - a) + e.added) < length text - a)
    facts = next_facts last a r text p.plan anchored planned.plan

    fits : (q : Edited) → q ≡ e → (o : Option ℕ) → p.plan.next ≡ o → IfSome o (λ m. m + length r.pattern ≤ length text - (q.to - q.from) + q.added)
    fits q same None is = tt
    fits q same (Some m) is = subst (λ (z : Edited). m + length r.pattern ≤ length text - (z.to - z.from) + z.added) (sym same) (facts m is).0

    less : (q : Edited) → q ≡ e → 0 < length r.pattern → (o : Option ℕ) → p.plan.next ≡ o → IfSome o (λ m. length text - (q.to - q.from) + q.added - min m (length text - (q.to - q.from) + q.added) < length text - a)
    less q same some None is = tt
    less q same some (Some m) is = subst (λ (z : Edited). length text - (z.to - z.from) + z.added - min m (length text - (z.to - z.from) + z.added) < length text - a) (sym same) ((facts m is).1 some)

    order_by : (q : Bool) → a ≤ to_by q a r.pattern
    order_by true = omega arith
    order_by false = omega arith

    abbrev left : Edited → SearchFinish
    left q = met (length r.pattern) (one_met b) (top_read (cond b (Some (q.from + q.added)) None)) p.plan.next

    known_at : (q : Edited) → q ≡ e → is_full (length text) serial q.from q.to (put_by b r.put) ≡ false → (xs : List Session) (next : Option ℕ)
        → outcome (view (world_of d ks xs next) (session_of ks h)) replaces_it true ≡ search_finished (state_of h.state) (left q) (edit_of x.name q.from q.to (put_of b h.state.search))
    known_at q same room xs next =
        let state = state_of h.state in
        let does : Edited → Outcome = λ z. search_finished state (left z) (edit_of x.name z.from z.to (put_by b r.put)) in
        comes_so p.plan planned.plan xs next
        ∙ ap (λ (z : Edited). cond (is_full (length text) serial z.from z.to (put_by b r.put)) (fails state (Says BufferFull)) (does z)) (sym same)
        ∙ ap (λ (full : Bool). cond full (fails state (Says BufferFull)) (does q)) room
        ∙ ap (λ (put : List ℕ). search_finished state (left q) (edit_of x.name q.from q.to put)) (sym (put_is b))

pub plans_it : (d : Directory) (ks : List MarkedBuffer) (h : Session) (s : Search) (r : Replacing) (last : Bool) (p : Planned) → IsSought d ks h true p.window_marks → h.state.search ≡ Some (replaces s r) → PlannedAt ks p.window_marks s.anchor r last p → IsPlanned d ks h last p
plans_it d ks h s r last p sought held planned =
    let x = p.window_marks in
    let size = length (marked_at x.name ks).buffer.text in
    let e = edit_planned size (anchor_at x ks s.anchor) r p.plan.replaces in
    let from : p.edit.from ≡ e.from = ap (λ (q : Edited). q.from) planned.edit in
    let to : p.edit.to ≡ e.to = ap (λ (q : Edited). q.to) planned.edit in
    record {
      sought = sought;
      can = record {
        granted = sought.target.granted;
        mark = sought.target.marks.point;
        place = planned.place;
        order = omega (arith, from, to, order_by d ks h x s r last sought held p planned p.plan.replaces);
        within = omega (arith, to, within_text last (anchor_at x ks s.anchor) r (marked_at x.name ks).buffer.text p.plan (anchored d ks h x s r last sought held) planned.plan);
        size = ap (λ (q : Edited). q.size) planned.edit;
        added = ap (λ (put : List ℕ). length put) (put_is d ks h x s r last sought held p planned p.plan.replaces) ∙ sym (ap (λ (q : Edited). q.added) planned.edit);
        fits = planned.fits;
        room = ap (λ (put : List ℕ). is_full size (marked_at x.name ks).buffer.serial p.edit.from p.edit.to put) (put_is d ks h x s r last sought held p planned p.plan.replaces) ∙ planned.room;
        next = subst (λ (o : Option Search). IfSome p.plan.next (λ m. m + length (old_of o) ≤ size_then p size)) (sym held) (fits d ks h x s r last sought held p planned p.edit planned.edit p.plan.next refl);
      };
      s = s;
      r = r;
      held = held;
      count = planned.count;
      known = known_at d ks h x s r last sought held p planned p.edit planned.edit planned.room;
      less = λ some. less d ks h x s r last sought held p planned p.edit planned.edit some p.plan.next refl;
    }

-- every act fails by which a search replaces
pub sought_fails : (d : Directory) (ks : List MarkedBuffer) (h : Session) (last : Bool) (message : Message) → SearchFails d ks h true message → ReplacementFails d ks h last message
sought_fails d ks h last message all xs next typed is = all SkipMatch last xs next typed (λ text a. refl)

-- by what the planner answers
module _ (d : Directory) (ks : List MarkedBuffer) (h : Session) (x : WindowMarks) (s : Search) (r : Replacing) (last : Bool) (sought : IsSought d ks h true x) (is : h.state.search ≡ Some s) (aim : s.aim ≡ Replace r) (result : Result Planned Message) where
  held_so_far : h.state.search ≡ Some (replaces s r)
  held_so_far = is ∙ ap (λ (a : Aim). let t : Search = record s { aim = a } in Some t) aim

  pub planned_ok : IfOk result (λ p. p.window_marks ≡ x) → IfOk result (PlannedAt ks x s.anchor r last) → IfOk result (IsPlanned d ks h last)
  planned_ok window planned = by result window planned
    where
      by : (o : Result Planned Message) → IfOk o (λ p. p.window_marks ≡ x) → IfOk o (PlannedAt ks x s.anchor r last) → IfOk o (IsPlanned d ks h last)
      by (Ok p) same planned = plans_it d ks h s r last p (subst (λ (v : WindowMarks). IsSought d ks h true v) (sym same) sought) held_so_far (subst (λ (v : WindowMarks). PlannedAt ks v s.anchor r last p) (sym same) planned)
      by (Err m) same planned = tt

  pub planned_err : IfErr result (FullAt ks x s.anchor r last) → IfErr result (ReplacementFails d ks h last)
  planned_err full = by result full
    where
      by : (o : Result Planned Message) → IfErr o (FullAt ks x s.anchor r last) → IfErr o (ReplacementFails d ks h last)
      by (Ok p) full = tt
      by (Err m) full = full_fails d ks h x s r last sought held_so_far m full

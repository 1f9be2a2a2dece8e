-- A match is skipped: that what is done is the act.
use Rattle.std.proofs.Common.{◌≡◌, ℕ, ◌+◌, ◌<◌, ◌≤◌, ◌^◌, min, true, false, List, length, Option, Some, None, refl, sym, ap, subst, subst₂, ◌∙◌, arith}
use Rattle.std.proofs.Math.Nat.{min-eq_left}
use Rattle.std.specs.Prelude.{IfSome, Result, Ok}
use Rattle.mgs_model.specs.Access.{Directory}
use Rattle.mgs_model.specs.World.{State}
use Rattle.mgs_model.specs.View.{view}
use Rattle.mgs_model.specs.Outcome.{Keep_position, No_effect, Run}
use Rattle.mgs_model.specs.SearchCommands.{AroundSearch, SearchFinish, met, seek}
use Rattle.mgs_model.specs.Acts.{counted, outcome, search_finished, sought_by}
use Rattle.mgs_model.specs.declared.echo_text.Message.{Message}
use Rattle.mgs_model.specs.declared.session.Command.TheVariants.{Seek}
use Rattle.mgs_model.specs.declared.session.Replacement.TheVariants.{ReplaceMatch}
use Rattle.mgs_model.specs.declared.session.Seeking.TheVariants.{SkipMatch}
use Rattle.mgs_buffers.specs.MarkedBuffer.{MarkedBuffer, marked_at}
use Rattle.mgs_windows.specs.declared.WindowMarks.{WindowMarks}
use Rattle.mgs_search.specs.Planned.{IsSkipped}
use Rattle.mgs_session.specs.Seeking.{searching, unsearched}
use Rattle.mgs_session.specs.Sessions.{failed}
use Rattle.mgs_session.specs.declared.Session.{Session}
use Rattle.mgs_session.specs.declared.search.Aim.{Aim}
use Rattle.mgs_session.specs.declared.search.Aim.TheVariants.{Find, Replace}
use Rattle.mgs_session.specs.Replacing.{Replacing}
use Rattle.mgs_session.specs.declared.search.Search.{Search}
use Rattle.mgs_plan.specs.Actions.{mark_gone}
use Rattle.mgs_seek.specs.Replacing.{if_replaces, point_met, replacing_of, session_met}
use Rattle.mgs_world.specs.Sound.{IsSessionSound}
use Rattle.mgs_world.specs.Worlds.{aim_count, aim_old, state_of, session_of, world_of}
use Rattle.mgs_seek.specs.Acting.{Does, IsSought, SearchFails, as_is}
use Rattle.mgs_world.specs.Only.{OnlyThis, nothing_held}
use Rattle.mgs_seek.proofs.Comes.{come_sought, name_sought, sought_place}
use Rattle.mgs_seek.proofs.Lifts.{does_fail}
use Rattle.mgs_seek.proofs.Meets.{met_does, only_met, replaces}
use Rattle.mgs_seek.proofs.Seeks.{held_so}

-- what a session that was taken the search out of is at the next match
pub met_unsearched : (next : Option ℕ) (s : Search) (h : Session) → session_met next s (unsearched h) ≡ session_met next s h
met_unsearched None s h = refl
met_unsearched (Some m) s h = refl

-- two of one session are the same
pub same_replacing : (s : Search) (r : Replacing) (t : Search) (u : Replacing) → Path (Option Search) (Some (replaces s r)) (Some t) → t.aim ≡ Replace u → r ≡ u
same_replacing s r t u same aim =
    let one : replaces s r ≡ t = cc in
    let aims : Path Aim (Replace r) (Replace u) = ap (λ (v : Search). v.aim) one ∙ aim in
    cc

-- what is counted is in range
pub none_counted : (n : ℕ) → n < 2 ^ 64 → n ≡ counted n 0
none_counted n small = (let within : n + 0 ≤ 18446744073709551615 = omega (arith, small) in let same : n ≡ n + 0 = omega arith in same ∙ sym (min-eq_left within))

-- WHAT THE PLANNER ANSWERS, of the text and the pattern as they were read

pub as_read : (P : List ℕ → List ℕ → ℕ → Type 0) (q old t text : List ℕ) (a b : ℕ) → q ≡ old → t ≡ text → a ≡ b → P q t a → P old text b
as_read P q old t text a b eq et ea so = subst (P old text) ea (subst₂ (λ k u. P k u a) eq et so)

pub within_read : (o : Option ℕ) (q old t text : List ℕ) → q ≡ old → t ≡ text → IfSome o (λ m. m + length q ≤ length t) → IfSome o (λ m. m + length old ≤ length text)
within_read None q old t text eq et room = tt
within_read (Some m) q old t text eq et room = omega (arith, room, ap (λ (k : List ℕ). length k) eq, ap (λ (k : List ℕ). length k) et)

-- WHAT IS DONE

-- the query-replace that a session holds
pub held_replaces : (o : Option Search) (s : Search) → replacing_of o ≡ Some s → (r : Replacing) × (o ≡ Some (replaces s r)) × (s ≡ replaces s r)
held_replaces None s is = cc
held_replaces (Some t) s is = by t.aim refl is
  where
    by : (a : Aim) → t.aim ≡ a → if_replaces t a ≡ Some s → (r : Replacing) × (Path (Option Search) (Some t) (Some (replaces s r))) × (s ≡ replaces s r)
    by (Find f) aim is = cc
    by (Replace r) aim is =
        let same : t ≡ s = cc in
        let whole : s ≡ replaces s r = ap (λ (b : Aim). let u : Search = record s { aim = b } in u) (sym (ap (λ (u : Search). u.aim) same) ∙ aim) in
        (r, is ∙ ap (λ (u : Search). Some u) whole, whole)

pub skip_fails : (d : Directory) (ks : List MarkedBuffer) (h : Session) (message : Message) (typed : List ℕ) → SearchFails d ks h false message → Does d ks ks h (failed message h) as_is (Run (Seek SkipMatch) None typed)
skip_fails d ks h message typed all =
    does_fail d ks h (λ state. state) (session_of ks h).search message (Run (Seek SkipMatch) None typed) as_is refl refl (λ xs next. all SkipMatch false xs next typed (λ text a. refl))

module _ (d : Directory) (ks : List MarkedBuffer) (h : Session) (x : WindowMarks) (s : Search) (sound : IsSessionSound ks h) (sought : IsSought d ks h false x) (shown : replacing_of h.state.search ≡ Some s) (few : aim_count s.aim < 2 ^ 64) (to : Option ℕ) (small : IfSome to (λ m. m + length (aim_old s.aim) ≤ length (marked_at x.name ks).buffer.text)) (planned : IsSkipped (aim_old s.aim) (marked_at x.name ks).buffer.text (min s.anchor (length (marked_at x.name ks).buffer.text)) to) where
  abbrev text : List ℕ
  text = (marked_at x.name ks).buffer.text

  abbrev r : Replacing
  r = (held_replaces h.state.search s shown).0

  held_is : h.state.search ≡ Some (replaces s r)
  held_is = (held_replaces h.state.search s shown).1

  whole : s ≡ replaces s r
  whole = (held_replaces h.state.search s shown).2

  abbrev held : Session
  held = searching (replaces s r) h

  abbrev state : State
  state = state_of held.state

  abbrev f : SearchFinish
  f = met (length r.pattern) 0 Keep_position to

  few_so : r.count < 2 ^ 64
  few_so = subst (λ (u : Search). aim_count u.aim < 2 ^ 64) whole few

  within_so : (o : Option ℕ) → IfSome o (λ m. m + length (aim_old s.aim) ≤ length text) → IfSome o (λ m. m ≤ length text)
  within_so None e = tt
  within_so (Some m) e = omega (arith, e)

  abbrev there : AroundSearch
  there = record (sought_place d ks h false x (replaces s r) sought held_is) { typed = r.put }

  planned_so : Path (Result SearchFinish Message) (Ok f) (seek SkipMatch text there)
  planned_so = subst (λ (u : Search). Path (Result SearchFinish Message) (Ok (met (length (aim_old u.aim)) 0 Keep_position to)) (seek SkipMatch text (record there { old = aim_old u.aim }))) whole (planned there)

  skipped_known : (xs : List Session) (next : Option ℕ) → outcome (view (world_of d ks xs next) (session_of ks held)) (Run (Seek SkipMatch) None r.put) true ≡ search_finished state f No_effect
  skipped_known xs next = come_sought d ks h false x (replaces s r) sought held_is SkipMatch ReplaceMatch None r.put xs next ∙ ap (sought_by state) (sym planned_so)

  -- as the code leaves it
  abbrev left : Search → Session
  left u = session_met to u (unsearched h)

  abbrev placed : Search → List MarkedBuffer
  placed u = mark_gone x.name x.point (point_met (length (aim_old u.aim)) to None) ks

  skipped : Does d ks (placed (replaces s r)) held (session_met to (replaces s r) h) as_is (Run (Seek SkipMatch) None r.put)
  skipped = record {
    left = search_finished state f No_effect;
    quiet = refl;
    known = skipped_known;
    does = met_does ks h x s r sound sought.target.sel (name_sought d ks h false x (replaces s r) sought held_is) (length r.pattern) None r.count 0 (none_counted r.count few_so) to (within_so to small);
  }

  pub skip_does : (t : Search) (u : Replacing) → h.state.search ≡ Some t → t.aim ≡ Replace u → Does d ks (placed s) h (left s) as_is (Run (Seek SkipMatch) None u.put)
  skip_does t u held_t aim =
      subst (λ (v : Replacing). Does d ks (placed s) h (left s) as_is (Run (Seek SkipMatch) None v.put)) (same_replacing s r t u (sym held_is ∙ held_t) aim)
      (subst (λ (v : Search). Does d ks (placed v) h (left v) as_is (Run (Seek SkipMatch) None r.put)) (sym whole)
      (subst (λ (y : Session). Does d ks (placed (replaces s r)) h y as_is (Run (Seek SkipMatch) None r.put)) (sym (met_unsearched to (replaces s r) h))
      (subst (λ (y : Session). Does d ks (placed (replaces s r)) y (session_met to (replaces s r) h) as_is (Run (Seek SkipMatch) None r.put)) (sym (held_so h (replaces s r) held_is)) skipped)))

  pub only_skipped : OnlyThis nothing_held ks (placed s) h (left s)
  only_skipped =
      subst (λ (y : Session). OnlyThis nothing_held ks (placed s) h y) (sym (met_unsearched to s h)) (only_met ks h x (length (aim_old s.aim)) to None s sought.target.sel sought.target.marks.point)

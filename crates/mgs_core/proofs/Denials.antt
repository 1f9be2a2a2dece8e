-- What was denied to an act of a byte is recorded: what was decided stands in the echo line, and the session shows what it showed.
use Rattle.std.proofs.Common.{◌≡◌, ℕ, ◌<◌, ◌==◌, Bool, true, false, cond, List, [], length, map, Option, Some, None, is_some, get_or, refl, sym, ap, ap₂, ◌∙◌}
use Rattle.std.specs.Prelude.{slice_get, IfSome}
use Rattle.std.specs.List.{position_or_len}
use Rattle.std.specs.Option.{option_and_then, option_map}
use Rattle.std.proofs.lemmas.Option.{slice_get-map}
use Rattle.mgs_model.specs.Access.{Directory}
use Rattle.mgs_model.specs.World.{World, Buffer, has_id, find_session}
use Rattle.mgs_model.specs.World as model
use Rattle.mgs_model.specs.View.{View, buffer_seen, find_seen, reads, view, view_of, window_seen}
use Rattle.mgs_model.specs.Outcome.{Act, Run, Outcome, Effect, Quit}
use Rattle.mgs_model.specs.Commands.{command_for}
use Rattle.mgs_model.specs.Acts.{allowed, fails, judged, needs, outcome, permitted, selected_seen}
use Rattle.mgs_model.specs.Apply.{act, after_quit, applied, apply, change_first, session_after, session_arranged}
use Rattle.mgs_model.specs.declared.entry.Decision.{Decision}
use Rattle.mgs_model.specs.declared.entry.Decision.TheVariants.{Granted, DeniedBy, NotGranted}
use Rattle.mgs_model.specs.declared.echo_text.Message.TheVariants.{Denied}
use Rattle.mgs_model.specs.declared.right.Right.{Right}
use Rattle.mgs_model.specs.declared.search.Direction.{Direction}
use Rattle.mgs_model.specs.declared.search.SearchStep.{SearchStep}
use Rattle.mgs_model.specs.declared.session.ByName.{ByName}
use Rattle.mgs_model.specs.declared.session.ByName.TheVariants.{SwitchToBuffer, KillBuffer, InsertBuffer}
use Rattle.mgs_model.specs.declared.session.Command.{Command}
use Rattle.mgs_model.specs.declared.session.Command.TheVariants.{Named, Seek}
use Rattle.mgs_model.specs.declared.session.Mode.{Mode}
use Rattle.mgs_model.specs.declared.session.Mode.TheVariants.{Searching}
use Rattle.mgs_laws.proofs.After.{find_after, find_without}
use Rattle.mgs_births.specs.Reports.{act_refusals, decision_said, refusals_in}
use Rattle.mgs_births.specs.Tapes.{Tape, tape_after}
use Rattle.mgs_births.specs.Telling.{StoreTold}
use Rattle.mgs_births.specs.Denials.{asked_by, asked_by_command, asked_by_name, denied_at, if_there, source_or, subject_shown, tape_denied}
use Rattle.mgs_births.proofs.Asked.{asked_taped, is_there, shown_in}
use Rattle.mgs_births.proofs.Unsaid.{outcome_says, says_anew}
use Rattle.mgs_buffers.specs.MarkedBuffer.{MarkedBuffer, has_buffer}
use Rattle.mgs_windows.specs.declared.WindowMarks.{WindowMarks}
use Rattle.mgs_windows.specs.declared.Window.{Window}
use Rattle.mgs_windows.specs.declared.RowPane.{RowPane}
use Rattle.mgs_windows.specs.declared.RowPane.TheVariants.{NoRows, Buffers, Entries}
use Rattle.mgs_session.specs.Sessions.{subject_in, subject_of}
use Rattle.mgs_session.specs.declared.Session.{Session}
use Rattle.mgs_session.specs.declared.search.Search.{Search}
use Rattle.mgs_plan.specs.Actions.{act_of}
use Rattle.mgs_plan.specs.Searching.{meant}
use Rattle.mgs_plan.specs.declared.key_act.KeyAct.{KeyAct}
use Rattle.mgs_plan.specs.declared.key_act.KeyAct.TheVariants as acts
use Rattle.mgs_seek.specs.Beginning.{search_held}
use Rattle.mgs_world.specs.Worlds.{buffers_of, idle, session_id, session_of, state_at, window_of, window_shown, world_of}
use Rattle.mgs_world.proofs.Found.{found_seen, unseen}
use Rattle.mgs_world.proofs.Sessions.{session_some}
use Rattle.mgs_act.specs.Doing.{ActedBy}
use Rattle.mgs_core.specs.declared.byte_acts.ByteAct.{ByteAct}
use Rattle.mgs_core.specs.declared.byte_acts.ByteAct.TheVariants as byte_acts
use Rattle.mgs_core.specs.declared.byte_acts.ModeBefore.{ModeBefore}
use Rattle.mgs_core.specs.ByteActs.{CanDo, IsReady, asked_of, deciding_world, model_act, seek_act}
use Rattle.mgs_core.specs.Denials.{asked_at}
use Rattle.mgs_core.specs.KeyActs.{is_acted, started_by, started_world}
use Rattle.mgs_core.specs.Turns.{denied_after}
use Rattle.mgs_core.proofs.Taken.{open_state}

-- the buffer of a name that was typed
pub found_typed : (r : Option (List ℕ)) (typed : List ℕ) (b : Bool) → IfSome r (λ n. n ≡ typed) → is_some r ≡ b → r ≡ if_there b typed
found_typed None typed b value there = ap (λ (c : Bool). if_there c typed) there
found_typed (Some n) typed b value there = ap (λ (m : List ℕ). Some m) value ∙ ap (λ (c : Bool). if_there c typed) there

-- THE SESSION OF AN ACT, once it is done
arranged_is : (w : World) (id : ℕ) (o : Outcome) (x y : model.Session) → find_session id w.sessions ≡ Some x → find_session id (apply w id o).sessions ≡ Some y → y ≡ session_arranged o (session_after o.effect x)
arranged_is w id o x y found then_found = by o.effect refl
  where
    same : (a b : model.Session) → Path (Option model.Session) (Some a) (Some b) → b ≡ a
    same a b e = cc

    stays : (q : (xs : List model.Session) → after_quit o.effect id xs ≡ xs) → y ≡ session_arranged o (session_after o.effect x)
    stays q =
        same (session_arranged o (session_after o.effect x)) y
        (sym (ap (find_session id) (q (change_first (has_id id) (session_arranged o) (map (session_after o.effect) w.sessions))) ∙ find_after id o w.sessions ∙ ap (option_map (λ z. session_arranged o (session_after o.effect z))) found)
        ∙ then_found)

    by : (f : Effect) → o.effect ≡ f → y ≡ session_arranged o (session_after o.effect x)
    by Quit q =
        let gone : find_session id (apply w id o).sessions ≡ None =
        ap (λ f. find_session id (after_quit f id (change_first (has_id id) (session_arranged o) (map (session_after o.effect) w.sessions)))) q ∙ find_without id (change_first (has_id id) (session_arranged o) (map (session_after o.effect) w.sessions)) in
        cc
    by f q = stays (λ xs. ap (λ g. after_quit g id xs) q)

-- an act that is denied says so, and does nothing
refused_is : (u : View) (c : Act) (stored : Bool) (j : Decision) → judged u (needs u c) ≡ j → outcome u c stored ≡ permitted u.session.state j (allowed u c stored)
unfolding outcome
refused_is u c stored j q = ap (λ (e : Decision). permitted u.session.state e (allowed u c stored)) q

-- what a window shows
abbrev shows_in : Option model.Window → Option (List ℕ)
shows_in o = option_and_then (λ (x : model.Window). subject_shown x.shows) o

-- WHAT WAS DENIED is recorded, where `asked` tells the buffer of a session that shows what it showed
module _ (v new : World) (id : ℕ) (c : Act) (stored : Bool) (z : model.Session) (found : find_session id new.sessions ≡ Some z) (is : new ≡ act v id c stored)
    (fresh : says_anew c ≡ false → (x : model.Session) → find_session id v.sessions ≡ Some x → decision_said x.state.echo ≡ Granted)
    (unnamed : (x : model.Session) → find_seen [] (view v x).buffers ≡ None) (asked : Right → Option (List ℕ))
    (tells : (x : model.Session) → z.windows ≡ x.windows → z.selected ≡ x.selected → new.buffers ≡ v.buffers → (right : Right) → asked right ≡ asked_by (is_there (view v x)) (shown_in (selected_seen (view v x))) c right) (t : Tape) where
  module _ (x : model.Session) (there : find_session id v.sessions ≡ Some x) where
    abbrev u : View
    u = view v x

    abbrev o : Outcome
    o = outcome u c stored

    seen : view_of v id ≡ Some u
    seen = ap (option_map (view v)) there

    applied_is : new ≡ apply v id o
    applied_is = is ∙ ap (λ (p : Option View). applied v id (option_map (λ q. outcome q c stored) p)) seen

    session_is : z ≡ session_arranged o (session_after o.effect x)
    session_is = arranged_is v id o x z there (sym (ap (λ (q : World). find_session id q.sessions) applied_is) ∙ found)

    says : decision_said z.state.echo ≡ judged u (needs u c)
    says = ap (λ (q : model.Session). decision_said q.state.echo) session_is ∙ outcome_says u c stored (λ anew. fresh anew x there)

    -- it was denied
    told_at : (j : Decision) → (outcome u c stored ≡ fails u.session.state (Denied j)) → (right : Right) → asked right ≡ asked_by (is_there u) (shown_in (selected_seen u)) c right
    told_at j fails_so right =
        let here : z ≡ session_arranged (fails u.session.state (Denied j)) x = session_is ∙ ap (λ (p : Outcome). session_arranged p (session_after p.effect x)) fails_so in
        tells x (ap (λ (q : model.Session). q.windows) here) (ap (λ (q : model.Session). q.selected) here) (ap (λ (q : World). q.buffers) (applied_is ∙ ap (apply v id) fails_so)) right

    same : (j : Decision) → judged u (needs u c) ≡ j → tape_denied asked j t ≡ tape_denied (λ right. asked_by (is_there u) (shown_in (selected_seen u)) c right) j t
    same Granted q = refl
    same (DeniedBy n right) q = ap (λ (name : Option (List ℕ)). denied_at name (DeniedBy n right) t) (told_at (DeniedBy n right) (refused_is u c stored (DeniedBy n right) q) right)
    same (NotGranted right) q = ap (λ (name : Option (List ℕ)). denied_at name (NotGranted right) t) (told_at (NotGranted right) (refused_is u c stored (NotGranted right) q) right)

    recorded_at : tape_denied asked (decision_said z.state.echo) t ≡ tape_after (act_refusals v id c) t
    recorded_at =
        ap (λ (j : Decision). tape_denied asked j t) says
        ∙ same (judged u (needs u c)) refl
        ∙ (asked_taped u (unnamed x) c).taped t
        ∙ sym (ap (λ (p : Option View). tape_after (refusals_in p c) t) seen)

  -- a session that is not open does nothing
  gone : {X : Type 0} → find_session id v.sessions ≡ None → X
  gone none =
      let nothing : new ≡ v = is ∙ ap (λ (p : Option model.Session). applied v id (option_map (λ q. outcome q c stored) (option_map (view v) p))) none in
      no_session (find_session id new.sessions) (ap (λ (q : World). find_session id q.sessions) nothing ∙ none) found
    where
      no_session : {X : Type 0} (p : Option model.Session) → p ≡ None → p ≡ Some z → X
      no_session None e f = cc
      no_session (Some y) e f = cc

  pub recorded : tape_denied asked (decision_said z.state.echo) t ≡ tape_after (act_refusals v id c) t
  recorded = by (find_session id v.sessions) refl
    where
      by : (p : Option model.Session) → find_session id v.sessions ≡ p → tape_denied asked (decision_said z.state.echo) t ≡ tape_after (act_refusals v id c) t
      by None e = gone e
      by (Some x) e = recorded_at x e

-- THE BUFFER THAT IS ASKED

module _ (there : List ℕ → Bool) (shown : Option (List ℕ)) (right : Right) where
  asked_key : (a : KeyAct) → is_acted a ≡ true → shown ≡ asked_by there shown (act_of a) right
  asked_key (acts.Run (Named k) n) e = cc
  asked_key _ e = refl

  asked_typed : (c : Command) (pattern typed : List ℕ) → asked_by_command there shown c typed right ≡ asked_by_command there shown c (meant c pattern typed) right
  asked_typed (Named k) pattern typed = refl
  asked_typed _ pattern typed = refl

  asked_seek : (m : Mode) (step : SearchStep) (input : List ℕ) → shown ≡ asked_by there shown (seek_act m step input) right
  asked_seek (Searching d failing) step input = refl
  asked_seek _ step input = refl

  asked_is : (state : model.State) (b : ModeBefore) (byte_act : ByteAct) → CanDo b byte_act → asked_at there shown b byte_act right ≡ asked_by there shown (model_act state b byte_act) right
  asked_is state b (byte_acts.Act a) can = asked_key a can
  asked_is state b (byte_acts.Answer n) can = asked_typed (command_for (asked_of b).question) state.pattern (asked_of b).input
  asked_is state b (byte_acts.Seek step) can = asked_seek state.mode step state.input
  asked_is state b _ can = refl

module _ (there here : List ℕ → Bool) (same : (name : List ℕ) → there name ≡ here name) (shown : Option (List ℕ)) (right : Right) where
  named_same : (k : ByName) (typed : List ℕ) → asked_by_name there shown k typed right ≡ asked_by_name here shown k typed right
  named_same SwitchToBuffer typed = ap (λ (b : Bool). if_there b typed) (same typed)
  named_same KillBuffer typed = ap (λ (b : Bool). cond (length typed == 0) shown (if_there b typed)) (same typed)
  named_same InsertBuffer typed = ap (λ (b : Bool). source_or right (if_there b typed) shown) (same typed)

  asked_same : (c : Act) → asked_by there shown c right ≡ asked_by here shown c right
  asked_same (Run (Named k) n typed) = named_same k typed
  asked_same _ = refl

-- what the selected window of a session shows
subject_shows : (ks : List MarkedBuffer) (h : Session) → subject_of h ≡ shows_in (slice_get (session_of ks h).windows (session_of ks h).selected)
subject_shows ks h = go (slice_get h.windows.windows h.windows.selected) ∙ sym (ap shows_in (slice_get-map (window_of ks) h.windows.windows h.windows.selected))
  where
    by : (height : ℕ) (s : Option WindowMarks) (rows : RowPane) → subject_in s rows ≡ subject_shown (window_shown ks height s rows).shows
    by height None NoRows = refl
    by height None (Buffers row) = refl
    by height None (Entries name row) = refl
    by height (Some x) rows = refl

    go : (o : Option Window) → option_and_then (λ (w : Window). subject_in w.shows w.rows) o ≡ shows_in (option_map (window_of ks) o)
    go None = refl
    go (Some w) = by w.height w.shows w.rows

seen_shows : (v : World) (x : model.Session) → shown_in (selected_seen (view v x)) ≡ shows_in (slice_get x.windows x.selected)
seen_shows v x = ap shown_in (slice_get-map (window_seen can) x.windows x.selected) ∙ go (slice_get x.windows x.selected)
  where
    can : List ℕ → Bool
    can = reads v.directory v.buffers x.user

    go : (o : Option model.Window) → shown_in (option_map (window_seen can) o) ≡ shows_in o
    go None = refl
    go (Some w) = refl

-- a buffer that is there is seen
there_seen : (d : Directory) (user name : List ℕ) (ks : List MarkedBuffer) → has_buffer name ks ≡ is_some (find_seen name (map (buffer_seen d user) (buffers_of ks)))
there_seen d user name ks = by (has_buffer name ks) refl
  where
    by : (b : Bool) → has_buffer name ks ≡ b → b ≡ is_some (find_seen name (map (buffer_seen d user) (buffers_of ks)))
    by true e = sym (ap is_some (found_seen d user name ks e))
    by false e = sym (ap is_some (unseen d user name ks e))

-- NOTHING WAS SAID BEFORE IT

at_rest : (w : World) (id : ℕ) (state : model.State) (z x : model.Session) → find_session id w.sessions ≡ Some z → z.state ≡ state → state ≡ idle state → find_session id w.sessions ≡ Some x → decision_said x.state.echo ≡ Granted
at_rest w id state z x found of rest there =
    ap (λ (y : model.Session). decision_said y.state.echo) (same z x (sym found ∙ there)) ∙ ap (λ (o : model.State). decision_said o.echo) (of ∙ rest)
  where
    same : (a b : model.Session) → Path (Option model.Session) (Some a) (Some b) → b ≡ a
    same a b e = cc

module _ (w : World) (id : ℕ) (state : model.State) (z : model.Session) (found : find_session id w.sessions ≡ Some z) (of : z.state ≡ state) where
  key_fresh : (a : KeyAct) → state ≡ idle state → says_anew (act_of a) ≡ false → (x : model.Session) → find_session id (started_world (started_by a) id w).sessions ≡ Some x → decision_said x.state.echo ≡ Granted
  key_fresh (acts.Run (Seek k) n) rest anew x there = cc
  key_fresh _ rest anew x there = at_rest w id state z x found of rest there

  seek_anew : (m : Mode) (step : SearchStep) (input : List ℕ) → says_anew (seek_act m step input) ≡ true
  seek_anew (Searching d failing) step input = refl
  seek_anew _ step input = refl

  act_fresh : (b : ModeBefore) (byte_act : ByteAct) (s : Option Search) → IsReady byte_act s state → says_anew (model_act state b byte_act) ≡ false → (x : model.Session) → find_session id (deciding_world b byte_act id w).sessions ≡ Some x → decision_said x.state.echo ≡ Granted
  act_fresh b (byte_acts.Act a) s ready anew x there = key_fresh a ready anew x there
  act_fresh b (byte_acts.Answer n) s ready anew x there = at_rest w id state z x found of ready there
  act_fresh b (byte_acts.Seek step) s ready anew x there = (let no : true ≡ false = sym (seek_anew state.mode step state.input) ∙ anew in cc)
  act_fresh b _ s ready anew x there = cc

-- the world in which it is decided has the buffers
started_buffers : (o : Option Direction) (id : ℕ) (w : World) → (started_world o id w).buffers ≡ w.buffers
started_buffers None id w = refl
started_buffers (Some d) id w = refl

deciding_buffers : (b : ModeBefore) (byte_act : ByteAct) (id : ℕ) (w : World) → (deciding_world b byte_act id w).buffers ≡ w.buffers
deciding_buffers b (byte_acts.Act a) id w = started_buffers (started_by a) id w
deciding_buffers b _ id w = refl

-- AN ACT OF A BYTE
pub denied_told : (d : Directory) (ks ls : List MarkedBuffer) (xs ys : List Session) (next : Option ℕ) (id at : ℕ) (y : Session) (b : ModeBefore) (byte_act : ByteAct) (before mid : StoreTold)
    → at ≡ position_or_len (session_id id) xs → at < length xs → at ≡ position_or_len (session_id id) ys → at < length ys → y ≡ get_or ys at y
    → IsReady byte_act (search_held at xs) (state_at at xs) → CanDo b byte_act → has_buffer [] ks ≡ false
    → ActedBy (deciding_world b byte_act id (world_of d ks xs next)) (world_of d ls ys next) before mid id (model_act (state_at at xs) b byte_act)
    → (t : Tape) → t ≡ tape_denied (asked_at (λ name. has_buffer name ls) (subject_of y) b byte_act) (decision_said y.state.echo) mid.tape
    → (let s : StoreTold = record mid { tape = t } in s ≡ denied_after (deciding_world b byte_act id (world_of d ks xs next)) id (model_act (state_at at xs) b byte_act) mid)
denied_told d ks ls xs ys next id at y b byte_act before mid place within later still is ready can unnamed did t taped =
    let w : World = world_of d ks xs next in
    let v : World = deciding_world b byte_act id w in
    let c : Act = model_act (state_at at xs) b byte_act in
    let z = open_state d ks xs next id at place within in
    ap (λ (u : Tape). let s : StoreTold = record mid { tape = u } in s)
    (taped
    ∙ recorded v (world_of d ls ys next) id c did.stored (session_of ls y) (session_some d ls ys next id at y later still is) did.world
    (act_fresh w id (state_at at xs) z.0 z.1 z.2 b byte_act (search_held at xs) ready)
    (λ x. ap (λ (bs : List Buffer). find_seen [] (map (buffer_seen v.directory x.user) bs)) (deciding_buffers b byte_act id w) ∙ unseen v.directory x.user [] ks unnamed)
    (asked_at (λ name. has_buffer name ls) (subject_of y) b byte_act)
    (λ x windows selected buffers right.
    asked_is (λ name. has_buffer name ls) (subject_of y) right (state_at at xs) b byte_act can
    ∙ asked_same (λ name. has_buffer name ls) (is_there (view v x)) (λ name. there_seen v.directory x.user name ls ∙ ap (λ (bs : List Buffer). is_some (find_seen name (map (buffer_seen v.directory x.user) bs))) buffers) (subject_of y) right c
    ∙ ap (λ (s : Option (List ℕ)). asked_by (is_there (view v x)) s c right) (subject_shows ls y ∙ ap₂ (λ (ws : List model.Window) (k : ℕ). shows_in (slice_get ws k)) windows selected ∙ sym (seen_shows v x)))
    mid.tape)

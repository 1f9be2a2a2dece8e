-- A turn of the session at a place, in the world.
use Rattle.std.proofs.Common.{◌≡◌, ℕ, ◌<◌, Bool, true, false, List, [], ◌∷◌, get_or, length, map, cond, Option, Some, None, refl, sym, ap, subst, ◌∙◌, arith}
use Rattle.std.specs.Prelude.{slice_get, slice_set, is_some, not, ◌≤◌}
use Rattle.std.specs.List.{position_or_len}
use Rattle.std.specs.Option.{option_map}
use Rattle.std.proofs.lemmas.List.{map-set}
use Rattle.std.proofs.lemmas.Option.{slice_get-map}
use Rattle.mgs_model.specs.Commands.{command_for}
use Rattle.mgs_model.specs.Access.{Directory}
use Rattle.mgs_model.specs.World.{World, Todo, find_buffer, find_session, has_id, is_named}
use Rattle.mgs_model.specs.World as model
use Rattle.mgs_model.specs.Outcome.{Act, Run}
use Rattle.mgs_laws.specs.Apart.{Apart}
use Rattle.mgs_model.specs.Apply.{act, outcome_in, is_search_mode}
use Rattle.mgs_model.specs.Acts.{without_all}
use Rattle.mgs_model.specs.View.{View, view}
use Rattle.mgs_model.specs.Turns.{Turn, Keep, Do, todo_turn}
use Rattle.mgs_model.specs.Events.{state_set, refused_state, settled, turn_in, with_state}
use Rattle.mgs_laws.specs.Refusals.{may_be_refused}
use Rattle.mgs_model.specs.declared.search.SearchStep.{SearchStep}
use Rattle.mgs_model.specs.declared.session.Command.TheVariants as commands
use Rattle.mgs_model.specs.declared.session.Command.TheVariants.{Exit, LeaveSearch, Seek}
use Rattle.mgs_model.specs.declared.session.Mode.{Mode}
use Rattle.mgs_model.specs.declared.session.Mode.TheVariants.{Prompt, Replacing as replacing_mode, Searching}
use Rattle.mgs_model.specs.declared.session.Seeking.TheVariants.{SearchOn, SkipMatch, StartReplace}
use Rattle.mgs_model.specs.Searching.{Sought}
use Rattle.mgs_mini.specs.Typing.{PromptInput}
use Rattle.mgs_session.specs.declared.search.Aim.{Aim}
use Rattle.mgs_session.specs.declared.search.Aim.TheVariants.{Find, Replace}
use Rattle.mgs_session.specs.Replacing.{Replacing}
use Rattle.mgs_seek.specs.Replacing.{remaining_at, remaining_in, replacement, replacing_state}
use Rattle.mgs_model.specs.declared.session.Kind.{Kind}
use Rattle.mgs_model.specs.declared.errors.Keyed.TheVariants as keyed
use Rattle.mgs_model.specs.declared.touched.Touched.{Touched}
use Rattle.mgs_model.specs.declared.touched.Touched.TheVariants.{Nowhere}
use Rattle.mgs_model.specs.declared.echo_text.Message.TheVariants.{Says}
use Rattle.mgs_model.specs.declared.echo_text.Notice.TheVariants.{NoMemory}
use Rattle.mgs_laws.proofs.Apart.{apart_state}
use Rattle.mgs_mini.proofs.Completions.{shown_names_of}
use Rattle.mgs_laws.proofs.Ends.{act_fails}
use Rattle.mgs_model.proofs.Firsts.{change_first_found, change_twice}
use Rattle.mgs_laws.proofs.LeftToDo.{is_single, single_brief, todo_acted}
use Rattle.mgs_laws.proofs.Turned.{turn_todo}
use Rattle.mgs_seek.specs.Beginning.{search_held, search_or_none}
use Rattle.mgs_plan.specs.Tells.{touched_in}
use Rattle.mgs_plan.proofs.Deeds.{set_twice}
use Rattle.mgs_plan.proofs.Quiet.{quiet_leaving, quiet_seeking}
use Rattle.mgs_plan.specs.Searching.{meant}
use Rattle.mgs_buffers.specs.MarkedBuffer.{AreWithinLimit, MarkedBuffer}
use Rattle.mgs_session.specs.declared.Session.{Session}
use Rattle.mgs_session.specs.declared.search.Search.{Search}
use Rattle.mgs_store.specs.Stores.{IsCounted}
use Rattle.mgs_births.specs.Reports.{Report, act_refusals}
use Rattle.mgs_births.specs.Tapes.{tape_after}
use Rattle.mgs_births.specs.Telling.{StoreTold}
use Rattle.mgs_world.specs.Worlds.{aim_input, aim_mode, aim_old, buffers_of, count_in, input_in, keys_in, mode_in, old_in, state_at, state_of, state_or_first, search_at, search_of, session_id, session_of, size_found, size_in, size_named, sizes_in, world_of}
use Rattle.mgs_world.proofs.Sessions.{session_some}
use Rattle.mgs_world.proofs.Soundness.{sizes_set}
use Rattle.mgs_core.specs.declared.byte_acts.ByteAct.{ByteAct}
use Rattle.mgs_core.specs.declared.byte_acts.ByteAct.TheVariants as byte_acts
use Rattle.mgs_core.specs.declared.byte_acts.Before.{Before}
use Rattle.mgs_core.specs.declared.byte_acts.ModeBefore.{ModeBefore}
use Rattle.mgs_core.specs.declared.byte_acts.ModeBefore.TheVariants as befores
use Rattle.mgs_core.specs.declared.key_byte.ByteStep.{ByteStep}
use Rattle.mgs_core.specs.declared.key_byte.ByteStep.TheVariants.{Kept, Failed, Ends, Acts}
use Rattle.mgs_act.specs.Doing.{ActedBy, DoneBy}
use Rattle.mgs_core.specs.KeyActs.{started_by, started_state}
use Rattle.mgs_core.specs.Calls.{closed}
use Rattle.mgs_core.specs.ByteActs.{CanDo, IsReady, asked_of, before_turn, model_act, deciding_state, deciding_world, finds, is_finding, is_replacement, is_replacing, may_want_memory, refused, seek_act, starts_replacing}
use Rattle.mgs_core.specs.AtPlace.{IsRefusedIn}
use Rattle.mgs_core.specs.ByteSteps.{IsTurnStep, SearchStays, SeesNames, keyed_without_act}
use Rattle.mgs_core.specs.Turns.{ActReported, IsLess, IsWithin, TurnDone, denied_after, TurnRefused, TurnedBy, IsFit, has_all, is_played, is_quiet, weight}
use Rattle.mgs_core.proofs.Begun.{closed_state, search_still}
use Rattle.mgs_core.proofs.Commanded.{acted_single}
use Rattle.mgs_core.proofs.Prompted.{answered_single}
use Rattle.mgs_core.proofs.Sizes.{place_same, some_at, within_still}
use Rattle.mgs_core.proofs.Started.{begun_act, begun_refusals}
use Rattle.mgs_core.proofs.Stays.{state_rests, settled_as}
use Rattle.mgs_core.proofs.Steps.{session_there, set_there, world_changed}
use Rattle.mgs_core.proofs.Turned.{AllLeft, all_less, all_none, all_same, all_without, more_weight, none_weight, some_left, without_same, without_within}
use Rattle.mgs_core.proofs.Fitting.{replaced_fits}
use Rattle.mgs_core.proofs.Stepped.{fit_empty, fit_none}
use Rattle.mgs_core.proofs.Told.{nowhere_quietly, quietly}
use Rattle.mgs_core.proofs.Silent.{act_told, replace_silent, told_denied}
use Rattle.mgs_core.proofs.Turns.{mode_replacing}

-- what the session at a place holds
state_there : (xs : List Session) (at : ℕ) (h : Session) → at < length xs → h ≡ get_or xs at h → state_at at xs ≡ state_of h.state
state_there xs at h within is = ap state_or_first (session_there xs at h within is)

pub open_state : (d : Directory) (ks : List MarkedBuffer) (xs : List Session) (next : Option ℕ) (id at : ℕ) → at ≡ position_or_len (session_id id) xs → at < length xs → (x : model.Session) × (find_session id (world_of d ks xs next).sessions ≡ Some x) × (x.state ≡ state_at at xs)
open_state d ks xs next id at place within =
    let h = some_at xs at within in
    (session_of ks h.0, session_some d ks xs next id at h.0 place within h.1, sym (state_there xs at h.0 within h.1))

state_put : (xs : List Session) (at : ℕ) (y : Session) → at < length xs → state_at at (slice_set xs at y) ≡ state_of y.state
state_put xs at y within = ap state_or_first (set_there xs at y within)

search_put : (xs : List Session) (at : ℕ) (y : Session) → at < length xs → search_held at (slice_set xs at y) ≡ y.state.search
search_put xs at y within = ap search_or_none (set_there xs at y within)

pub ready_put : (xs : List Session) (at : ℕ) (y : Session) (byte_act : ByteAct) → at < length xs → IsReady byte_act y.state.search (state_of y.state) → IsReady byte_act (search_held at (slice_set xs at y)) (state_at at (slice_set xs at y))
ready_put xs at y byte_act within ready = rw (search_put xs at y within, state_put xs at y within) ready

-- no more is left of a text than it may have
size_within : (name : List ℕ) (ks : List MarkedBuffer) → AreWithinLimit ks → size_named name (buffers_of ks) ≤ 1048576
size_within name [] h = omega arith
size_within name (k ∷ ks) h = elim (is_named name k.buffer) as (λ b. size_found (cond b (Some k.buffer) (find_buffer name (buffers_of ks))) ≤ 1048576) [ true ↦ h.0 | false ↦ size_within name ks h.1 ]

pub left_within : (at : ℕ) (ks : List MarkedBuffer) (xs : List Session) → AreWithinLimit ks → remaining_at at ks xs ≤ 1048576
left_within at ks xs h = elim (search_held at xs) as (λ o. remaining_in ks o ≤ 1048576) [ None ↦ omega arith | Some s ↦ (let small = size_within s.name ks h in omega (arith, small)) ]

-- A STEP OF A SEARCH

-- what a search looks for, or replaces
find_aim : (o : Option Search) → is_finding o ≡ true → (s : Search) × (f : Sought) × (o ≡ Some s) × (s.aim ≡ Find f)
find_aim None h = cc
find_aim (Some s) h = by s.aim refl h
  where
    by : (a : Aim) → s.aim ≡ a → finds a ≡ true → (t : Search) × (f : Sought) × (Path (Option Search) (Some s) (Some t)) × (t.aim ≡ Find f)
    by (Find f) is h = (s, f, refl, is)
    by (Replace r) is h = cc

replace_aim : (o : Option Search) → is_replacing o ≡ true → (s : Search) × (r : Replacing) × (o ≡ Some s) × (s.aim ≡ Replace r)
replace_aim None h = cc
replace_aim (Some s) h = by s.aim refl h
  where
    by : (a : Aim) → s.aim ≡ a → not (finds a) ≡ true → (t : Search) × (r : Replacing) × (Path (Option Search) (Some s) (Some t)) × (t.aim ≡ Replace r)
    by (Find f) is h = cc
    by (Replace r) is h = (s, r, refl, is)

-- it is what the session at a place looks for
seek_there : (o : Option Session) (step : SearchStep) → is_finding (search_or_none o) ≡ true → (s : Search) × (f : Sought) × (search_or_none o ≡ Some s) × (s.aim ≡ Find f) × (seek_act (state_or_first o).mode step (state_or_first o).input ≡ Run (Seek (SearchOn f.direction step)) None f.pattern)
seek_there None step h = cc
seek_there (Some x) step h =
    let a = find_aim x.state.search h in
    (a.0, a.1, a.2, a.3, ap (λ (o : Option Search). seek_act (mode_in o x.state.prompt) step (input_in o x.state.prompt)) a.2 ∙ ap (λ (a : Aim). seek_act (aim_mode a) step (aim_input a)) a.3)

-- or what it replaces
replace_there : (o : Option Session) → is_replacing (search_or_none o) ≡ true → (s : Search) × (r : Replacing) × (search_or_none o ≡ Some s) × (s.aim ≡ Replace r) × ((state_or_first o).input ≡ r.put)
replace_there None h = cc
replace_there (Some x) h = let a = replace_aim x.state.search h in (a.0, a.1, a.2, a.3, ap (λ (o : Option Search). input_in o x.state.prompt) a.2 ∙ ap aim_input a.3)

pub skipped_quietly : (old new : World) (t : StoreTold) (id : ℕ) (xs : List Session) (at : ℕ) → is_replacing (search_held at xs) ≡ true
    → ((s : Search) (r : Replacing) → search_held at xs ≡ Some s → s.aim ≡ Replace r → new ≡ act old id (Run (Seek SkipMatch) None r.put) true) → DoneBy Nowhere old new t t id (Run (Seek SkipMatch) None (state_at at xs).input)
skipped_quietly old new t id xs at ready world =
    let there = replace_there (slice_get xs at) ready in
    rw there.4 (nowhere_quietly old new t id (Run (Seek SkipMatch) None there.1.put) (world there.0 there.1 there.2 there.3) (sym (quiet_seeking old id None there.1.put true SkipMatch)))

pub replaced_quietly : (touched : Touched) (old new : World) (t : StoreTold) (id : ℕ) (xs : List Session) (at : ℕ) (last : Bool) → is_replacing (search_held at xs) ≡ true
    → ((s : Search) (r : Replacing) → search_held at xs ≡ Some s → s.aim ≡ Replace r → new ≡ act old id (Run (commands.Replace (replacement last)) None r.put) true)
    → ((s : Search) (r : Replacing) → search_held at xs ≡ Some s → s.aim ≡ Replace r → touched ≡ touched_in (outcome_in old id (Run (commands.Replace (replacement last)) None r.put) true))
    → DoneBy touched old new t t id (Run (commands.Replace (replacement last)) None (state_at at xs).input)
replaced_quietly touched old new t id xs at last ready world tells =
    let there = replace_there (slice_get xs at) ready in
    rw there.4 (quietly touched old new t id (Run (commands.Replace (replacement last)) None there.1.put) (act_told old id (Run (commands.Replace (replacement last)) None there.1.put) true t (replace_silent (replacement last) None there.1.put true)) (world there.0 there.1 there.2 there.3) (tells there.0 there.1 there.2 there.3))

pub replaced_may : (w : World) (id : ℕ) (xs : List Session) (at : ℕ) (last : Bool) → is_replacing (search_held at xs) ≡ true
    → ((s : Search) (r : Replacing) → search_held at xs ≡ Some s → s.aim ≡ Replace r → may_be_refused (outcome_in w id (Run (commands.Replace (replacement last)) None r.put) true) ≡ true)
    → may_be_refused (outcome_in w id (Run (commands.Replace (replacement last)) None (state_at at xs).input) true) ≡ true
replaced_may w id xs at last ready may =
    let there = replace_there (slice_get xs at) ready in
    ap (λ (put : List ℕ). may_be_refused (outcome_in w id (Run (commands.Replace (replacement last)) None put) true)) there.4 ∙ may there.0 there.1 there.2 there.3

pub started_replacing : (old new : World) (t : StoreTold) (id : ℕ) (b : ModeBefore) (p : PromptInput) (pattern put : List ℕ) → p ≡ asked_of b → pattern ≡ p.first → put ≡ p.input
    → new ≡ act (with_state id (replacing_state pattern put) old) id (Run (Seek StartReplace) None put) true → DoneBy Nowhere (with_state id (replacing_state (asked_of b).first (asked_of b).input) old) new t t id (Run (Seek StartReplace) None (asked_of b).input)
started_replacing old new t id b p pattern put asked first input world =
    let v : World = with_state id (replacing_state pattern put) old in
    subst (λ (xs : List ℕ). DoneBy Nowhere (with_state id (replacing_state (asked_of b).first xs) old) new t t id (Run (Seek StartReplace) None xs)) (input ∙ ap (λ (q : PromptInput). q.input) asked)
    (subst (λ (xs : List ℕ). DoneBy Nowhere (with_state id (replacing_state xs put) old) new t t id (Run (Seek StartReplace) None put)) (first ∙ ap (λ (q : PromptInput). q.first) asked)
    (nowhere_quietly v new t id (Run (Seek StartReplace) None put) world (sym (quiet_seeking v id None put true StartReplace))))

pub sought_quietly : (old new : World) (t : StoreTold) (id : ℕ) (xs : List Session) (at : ℕ) (step : SearchStep) → is_finding (search_held at xs) ≡ true
    → ((s : Search) (f : Sought) → search_held at xs ≡ Some s → s.aim ≡ Find f → new ≡ act old id (Run (Seek (SearchOn f.direction step)) None f.pattern) true) → DoneBy Nowhere old new t t id (seek_act (state_at at xs).mode step (state_at at xs).input)
sought_quietly old new t id xs at step ready world =
    let there = seek_there (slice_get xs at) step ready in
    let f = there.1 in
    rw there.4 (nowhere_quietly old new t id (Run (Seek (SearchOn f.direction step)) None f.pattern) (world there.0 f there.2 there.3) (sym (quiet_seeking old id None f.pattern true (SearchOn f.direction step))))

pub quit_quietly : (old new : World) (t : StoreTold) (id : ℕ) → new ≡ act old id (Run LeaveSearch None []) true → DoneBy Nowhere old new t t id (Run LeaveSearch None [])
quit_quietly old new t id world = nowhere_quietly old new t id (Run LeaveSearch None []) world (sym (quiet_leaving old id None [] true))

-- AN ACT THAT IS REFUSED

-- no key is half read but at a prompt, which has its own
abbrev keys_left : Mode → List ℕ → List ℕ
keys_left (Prompt c) keys = keys
keys_left _ keys = []

left_of : (s : Option Search) (p : Option PromptInput) (keys : List ℕ) → keys_in s [] p ≡ keys_left (mode_in s p) (keys_in s keys p)
left_of None None keys = refl
left_of None (Some p) keys = refl
left_of (Some s) p keys = elim s.aim as (λ a. [] ≡ keys_left (aim_mode a) keys) [ Find f ↦ refl | Replace r ↦ refl ]

-- where memory is refused, sessions that the model cannot tell apart are left so
module _ (ks ls : List MarkedBuffer) (kind : Kind) (playing : Bool) (x z : Session) (texts : buffers_of ls ≡ buffers_of ks) (same : session_of ls z ≡ session_of ks x) where
  -- with this search or prompt, and this searched for last
  abbrev restored : Option model.Search → Option Search → Option PromptInput → List ℕ → model.Session → model.Session
  restored found s p pattern w = record w {
    search = found;
    state = record w.state { echo = Says NoMemory; pattern = pattern; argument = None; keys = keys_in s [] p; kind = kind; mode = mode_in s p; input = input_in s p; old = old_in s p; count = count_in s; playing = playing; todo = [] };
  }

  keys_alike : keys_in z.state.search [] z.state.prompt ≡ keys_in x.state.search [] x.state.prompt
  keys_alike =
      left_of z.state.search z.state.prompt z.state.keyboard.keys
      ∙ ap (λ (w : model.Session). keys_left w.state.mode w.state.keys) same
      ∙ sym (left_of x.state.search x.state.prompt x.state.keyboard.keys)

  refused_alike : (m : ModeBefore) → (let b : Before = record { mode = m; kind = kind; is_playing = playing } in session_of ls (refused b z) ≡ session_of ks (refused b x))
  refused_alike befores.Plain = ap (λ (w : model.Session). restored None None None w.state.pattern w) same
  refused_alike (befores.Prompt p) = ap (λ (w : model.Session). restored None None (Some p) w.state.pattern w) same
  refused_alike (befores.Search s last) = λ i. restored (search_of (texts i) (Some s)) (Some s) None last (same i)
  refused_alike befores.Held = λ i. record (same i) { state = record (same i).state { echo = Says NoMemory; argument = None; keys = keys_alike i; kind = kind; playing = playing; todo = [] } }

-- the session is told so, where an act left the world as it was
pub refused_in_world : (d : Directory) (ks ls : List MarkedBuffer) (xs zs : List Session) (next : Option ℕ) (at : ℕ) (x z r : Session) (b : Before) → at < length zs → slice_get xs at ≡ Some x → z ≡ get_or zs at z → r ≡ refused b z
    → world_of d ls zs next ≡ world_of d ks xs next
    → world_of d ls (slice_set zs at r) next ≡ world_of d ks (slice_set xs at (refused b x)) next
refused_in_world d ks ls xs zs next at x z r b within is_x is_z does same =
    set_in ls zs r ∙ (λ i. record (same i) { sessions = slice_set (same i).sessions at (left i) }) ∙ sym (set_in ks xs (refused b x))
  where
    set_in : (K : List MarkedBuffer) (ys : List Session) (y : Session) → world_of d K (slice_set ys at y) next ≡ record (world_of d K ys next) { sessions = slice_set (map (session_of K) ys) at (session_of K y) }
    set_in K ys y = ap (λ (ss : List model.Session). record (world_of d K ys next) { sessions = ss }) (map-set (session_of K) ys at y)

    held_in : (K : List MarkedBuffer) (ys : List Session) (y : Session) → slice_get ys at ≡ Some y → slice_get (map (session_of K) ys) at ≡ Some (session_of K y)
    held_in K ys y is = slice_get-map (session_of K) ys at ∙ ap (option_map (session_of K)) is

    held : session_of ls z ≡ session_of ks x
    held = let now = held_in ls zs z (session_there zs at z within is_z) in let then = held_in ks xs x is_x in let at_once = ap (λ (w : World). slice_get w.sessions at) same in cc

    left : session_of ls r ≡ session_of ks (refused b x)
    left = ap (session_of ls) does ∙ refused_alike ks ls b.kind b.is_playing x z (ap (λ (w : World). w.buffers) same) held b.mode

-- A TURN

replacing_held : (o : Option Session) → (state_or_first o).mode ≡ replacing_mode → is_replacing (search_or_none o) ≡ true
replacing_held None h = cc
replacing_held (Some x) h = mode_replacing x.state.search x.state.prompt h

-- a replacement reads the session's search, and leaves it
replacing_ready : (byte_act : ByteAct) (s : Option Search) (state : model.State) → is_replacement byte_act ≡ true → IsReady byte_act s state → is_replacing s ≡ true
replacing_ready (byte_acts.Replace last) s state is ready = ready
replacing_ready _ s state is ready = cc

-- no more of a text is left to a search that goes on, or is over
left_stays : (ks : List MarkedBuffer) (s t : Option Search) (c : Bool) → search_of (buffers_of ks) s ≡ cond c (search_of (buffers_of ks) t) None → remaining_in ks s ≤ remaining_in ks t
left_stays ks None t c e = omega arith
left_stays ks (Some s) t false e = cc
left_stays ks (Some s) None true e = cc
left_stays ks (Some s) (Some t) true e =
    let same : search_at (buffers_of ks) s ≡ search_at (buffers_of ks) t = cc in
    omega (arith, ap (λ (m : model.Search). size_named m.name (buffers_of ks)) same, ap (λ (m : model.Search). m.anchor) same)

seek_single : (mode : Mode) (step : SearchStep) (input : List ℕ) → is_single (seek_act mode step input) ≡ true
seek_single (Searching d failing) step input = refl
seek_single _ step input = refl

byte_act_single : (state : model.State) (b : ModeBefore) (byte_act : ByteAct) → CanDo b byte_act → is_single (model_act state b byte_act) ≡ true
byte_act_single state b (byte_acts.Act a) here = acted_single a here
byte_act_single state b (byte_acts.Answer n) here = answered_single (asked_of b).question n (meant (command_for (asked_of b).question) state.pattern (asked_of b).input)
byte_act_single state b (byte_acts.Seek step) here = seek_single state.mode step state.input
byte_act_single state b _ here = refl

-- the record with which an act is decided plays as much, and has as much to do
byte_act_same : (b : ModeBefore) (byte_act : ByteAct) (state : model.State) → ((deciding_state b byte_act state).todo ≡ state.todo) × ((deciding_state b byte_act state).playing ≡ state.playing)
byte_act_same b (byte_acts.Act a) state = elim (started_by a) as (λ d. ((started_state d state).todo ≡ state.todo) × ((started_state d state).playing ≡ state.playing)) [ None ↦ (refl, refl) | Some d ↦ (refl, refl) ]
byte_act_same b _ state = (refl, refl)

-- one that takes memory starts nothing
unstarted : (b : ModeBefore) (byte_act : ByteAct) (state : model.State) → may_want_memory byte_act ≡ true → deciding_state b byte_act state ≡ state
unstarted b (byte_acts.Act a) state wants = (elim (started_by a) as (λ d. not (is_some d) ≡ true → started_state d state ≡ state) [ None ↦ λ h. refl | Some d ↦ λ h. cc ]) wants
unstarted b _ state wants = cc

-- a query-replace begins in a session that does not search
begun_replacing : (w : World) (id : ℕ) (o : model.State) (pattern put : List ℕ) (x : model.Session) → find_session id w.sessions ≡ Some x → x.search ≡ None → with_state id (replacing_state pattern put) (with_state id (λ was. o) w) ≡ with_state id (λ was. replacing_state pattern put o) w
begun_replacing w id o pattern put x found none =
    ap (λ (ys : List model.Session). record w { sessions = ys })
    (change_twice (has_id id) (state_set (replacing_state pattern put)) (state_set (λ was. o)) (λ (y : model.Session). state_set (replacing_state pattern put) (state_set (λ was. o) y)) (λ y. refl) (λ y. refl) w.sessions
    ∙ change_first_found (has_id id) (λ (y : model.Session). state_set (replacing_state pattern put) (state_set (λ was. o) y)) (state_set (λ was. replacing_state pattern put o)) x w.sessions found
    (λ i. record x { search = both o.mode x.search none i; state = replacing_state pattern put o }))
  where
    both : (m : Mode) (s : Option model.Search) → s ≡ None → cond (is_search_mode m) s None ≡ s
    both m s e = ap (λ (t : Option model.Search). cond (is_search_mode m) t None) e ∙ (elim (is_search_mode m) as (λ b. Path (Option model.Search) (cond b None None) None) [ true ↦ refl | false ↦ refl ]) ∙ sym e

begun_byte_act : (w : World) (id : ℕ) (o : model.State) (b : ModeBefore) (byte_act : ByteAct) (state : model.State) (x : model.Session) (new : World) (before after : StoreTold) → find_session id w.sessions ≡ Some x → (starts_replacing byte_act ≡ true → x.search ≡ None)
    → ActedBy (deciding_world b byte_act id (with_state id (λ was. o) w)) new before after id (model_act state b byte_act) → ActedBy (with_state id (λ was. deciding_state b byte_act o) w) new before after id (model_act state b byte_act)
begun_byte_act w id o b (byte_acts.Act a) state x new before after found none did = begun_act w id o a x new before after found did
begun_byte_act w id o b byte_acts.StartReplacing state x new before after found none did =
    subst (λ (v : World). ActedBy v new before after id (Run (Seek StartReplace) None (asked_of b).input)) (begun_replacing w id o (asked_of b).first (asked_of b).input x found (none refl)) did
begun_byte_act w id o b _ state x new before after found none did = did

begun_denials : (w : World) (id : ℕ) (o : model.State) (b : ModeBefore) (byte_act : ByteAct) (state : model.State) (x : model.Session) → find_session id w.sessions ≡ Some x → (starts_replacing byte_act ≡ true → x.search ≡ None)
    → act_refusals (deciding_world b byte_act id (with_state id (λ was. o) w)) id (model_act state b byte_act) ≡ act_refusals (with_state id (λ was. deciding_state b byte_act o) w) id (model_act state b byte_act)
begun_denials w id o b (byte_acts.Act a) state x found none = begun_refusals w id o a x found
begun_denials w id o b byte_acts.StartReplacing state x found none =
    ap (λ (v : World). act_refusals v id (Run (Seek StartReplace) None (asked_of b).input)) (begun_replacing w id o (asked_of b).first (asked_of b).input x found (none refl))
begun_denials w id o b _ state x found none = refl

-- of the session h at the place, which the turn makes y, before an act
module _ (d : Directory) (ks : List MarkedBuffer) (xs : List Session) (next : Option ℕ) (id at : ℕ) (h y : Session) (place : at ≡ position_or_len (session_id id) xs) (within : at < length xs) (is_h : h ≡ get_or xs at h) where
  abbrev pub old : World
  old = world_of d ks xs next

  abbrev pub begun : World
  begun = world_of d ks (slice_set xs at y) next

  todo_there : (state_at at xs).todo ≡ h.state.player.todo
  todo_there = ap (λ (o : model.State). o.todo) (state_there xs at h within is_h)

  todo_put : (state_at at (slice_set xs at y)).todo ≡ y.state.player.todo
  todo_put = ap (λ (o : model.State). o.todo) (state_put xs at y within)

  changed : y ≡ record h { state = y.state } → SearchStays h.state y.state → begun ≡ with_state id (λ was. state_of y.state) old
  changed e stays =
      world_changed (λ was. state_of y.state) d ks xs next id at h y place within is_h
      (ap (session_of ks) e ∙ ap (λ (s : Option model.Search). record (session_of ks h) { search = s; state = state_of y.state }) (stays (buffers_of ks)))

  pub step_apart : (t : Touched) → y ≡ record h { state = y.state } → SearchStays h.state y.state → Apart t id (world_of d ks xs next) (world_of d ks (slice_set xs at y) next)
  step_apart t e stays = subst (Apart t id (world_of d ks xs next)) (sym (changed e stays)) (apart_state t id (λ was. state_of y.state) (world_of d ks xs next))

  pub step_stands : y ≡ record h { state = y.state } → SearchStays h.state y.state → settled old ≡ old → settled begun ≡ begun
  step_stands e stays rests = settled_as (with_state id (λ was. state_of y.state) old) begun (changed e stays) (state_rests old id (λ was. state_of y.state) rests)

  next_turn : (t : Turn) → ((v : View) → SeesNames d ks h.user v → todo_turn v (state_of h.state) h.state.player.todo ≡ t) → turn_in old id ≡ t
  next_turn t turn =
      let w : World = world_of d ks xs next in
      let x : model.Session = session_of ks h in
      turn_todo w id x (session_some d ks xs next id at h place within is_h) ∙ turn (view w x) (shown_names_of w x)

  -- what the session holds changed alone
  pub step_state : (b : ModeBefore) (step : ByteStep) → IsTurnStep d ks h y b step → (y ≡ record h { state = y.state }) × SearchStays h.state y.state
  step_state b (Acts byte_act) s = (s.state, s.stays)
  step_state b _ s = (s.state, s.stays)

  failed_none : (b : ModeBefore) → IsTurnStep d ks h y b Failed → (state_at at (slice_set xs at y)).todo ≡ []
  failed_none b s = todo_put ∙ ap (λ (o : model.State). o.todo) s.told

  -- where no act is asked for, with what is answered then
  pub less_without_act : (b : ModeBefore) (step : ByteStep) (m n : ℕ) → n ≤ 1048576 → ((state_at at xs).todo ≡ [] → ⊥) → ((byte_act : ByteAct) → step ≡ Acts byte_act → ⊥) → IsTurnStep d ks h y b step → keyed_without_act step ≡ keyed.Done → IsLess m n (state_at at xs).todo (state_at at (slice_set xs at y)).todo
  less_without_act b Kept m n within some none s done =
      let none_left = by (has_all h.state.player.todo) refl in
      rw (todo_there, todo_put) (omega (arith, s.left.less none_left, more_weight n 1048576 y.state.player.todo within, none_weight m 1048576 h.state.player.todo none_left), s.left.played)
    where
      by : (all : Bool) → has_all h.state.player.todo ≡ all → has_all h.state.player.todo ≡ false
      by true e = (let replaces = (s.left.same e).0 in cc)
      by false e = e
  less_without_act b Failed m n within some none s done = subst (IsLess m n (state_at at xs).todo) (sym (failed_none b s)) (some_left m (state_at at xs).todo some, refl)
  less_without_act b Ends m n within some none s done = cc
  less_without_act b (Acts byte_act) m n within some none s done = absurd (none byte_act refl)

  pub fit_without_act : (b : ModeBefore) (step : ByteStep) → ((byte_act : ByteAct) → step ≡ Acts byte_act → ⊥) → IsTurnStep d ks h y b step → keyed_without_act step ≡ keyed.Done → IsFit (state_at at (slice_set xs at y))
  fit_without_act b Kept none s done = subst IsFit (sym (state_put xs at y within)) s.fit
  fit_without_act b Failed none s done = fit_empty (state_at at (slice_set xs at y)) (failed_none b s)
  fit_without_act b Ends none s done = cc
  fit_without_act b (Acts byte_act) none s done = absurd (none byte_act refl)

  pub turn_without_act : (b : ModeBefore) (step : ByteStep) (t : StoreTold) → ((byte_act : ByteAct) → step ≡ Acts byte_act → ⊥) → IsTurnStep d ks h y b step → TurnedBy (is_played (state_at at xs).todo) (state_at at (slice_set xs at y)).todo (world_of d ks xs next) (world_of d ks (slice_set xs at y) next) t t id (keyed_without_act step)
  turn_without_act b Kept t none s = record { state = state_of y.state; act = None; turn = next_turn (Keep (state_of y.state)) s.turn; done = (changed s.state s.stays, refl) }
  turn_without_act b Failed t none s =
      let w : World = world_of d ks xs next in
      let v : World = with_state id (λ was. s.before) w in
      record {
        state = s.before;
        act = Some s.act;
        turn = next_turn (Do s.before s.act) s.turn;
        done = (
          λ plays. ap (λ (p : Bool). is_quiet p s.act) (s.playing ∙ sym (ap is_played todo_there) ∙ plays),
          λ typed. failed_none b s,
          record {
            stored = true;
            world =
                changed s.state s.stays
                ∙ ap (λ (o : model.State). with_state id (λ was. o) w) s.told
                ∙ sym (act_fails w id s.before s.act s.message true (session_of ks h) (session_some d ks xs next id at h place within is_h) (λ z seen. s.fails z s.before.kind seen));
            fault = λ e. cc;
            tells = s.quiet v id t;
          },
        );
      }
  turn_without_act b Ends t none s = record {
    state = s.before;
    argument = s.argument;
    turn = next_turn (Do s.before (Run Exit s.argument [])) s.turn;
    typed = ap is_played todo_there ∙ s.typed;
    quiet = s.quiet;
    gone = ap (λ (w : World). closed w id) (changed s.state s.stays) ∙ closed_state (world_of d ks xs next) id (λ was. state_of y.state);
    left = refl;
  }
  turn_without_act b (Acts byte_act) t none s = absurd (none byte_act refl)

  -- and where there is an act
  module _ (b : ModeBefore) (byte_act : ByteAct) (s : IsTurnStep d ks h y b (Acts byte_act)) where
    -- with this record it is decided
    abbrev state : model.State
    state = deciding_state b byte_act (state_of y.state)

    abbrev act_done : Act
    act_done = model_act (state_of y.state) b byte_act

    byte_act_turn : turn_in old id ≡ Do state act_done
    byte_act_turn = next_turn (Do state act_done) s.turn

    put : state_at at (slice_set xs at y) ≡ state_of y.state
    put = state_put xs at y within

    -- what became of it, where it is done
    abbrev pub IsDoneBy : List MarkedBuffer → List Session → StoreTold → StoreTold → Type 0
    IsDoneBy K ys before after = ActedBy (deciding_world b byte_act id begun) (world_of d K ys next) before after id (model_act (state_at at (slice_set xs at y)) b byte_act)

    -- it is done in the world that the turn leaves
    done_from : (new : World) (before after : StoreTold) → ActedBy (deciding_world b byte_act id begun) new before after id (model_act (state_at at (slice_set xs at y)) b byte_act) → ActedBy (with_state id (λ was. state) old) new before after id act_done
    done_from new before after did =
        begun_byte_act old id (state_of y.state) b byte_act (state_of y.state) (session_of ks h) new before after (session_some d ks xs next id at h place within is_h) (λ starts. ap (search_of (buffers_of ks)) (s.begins starts))
        (rw (put, changed s.state s.stays) at did)

    -- with what was denied to it
    reported_from : (new : World) (before mid after : StoreTold) → ActedBy (deciding_world b byte_act id begun) new before mid id (model_act (state_at at (slice_set xs at y)) b byte_act) → after ≡ denied_after (deciding_world b byte_act id begun) id (model_act (state_at at (slice_set xs at y)) b byte_act) mid
        → ActReported (with_state id (λ was. state) old) new before after id act_done
    reported_from new before mid after by denied =
        let did = done_from new before mid by in
        let same : act_refusals (deciding_world b byte_act id begun) id (model_act (state_at at (slice_set xs at y)) b byte_act) ≡ act_refusals (with_state id (λ was. state) old) id act_done =
        ap (λ (o : model.State). act_refusals (deciding_world b byte_act id begun) id (model_act o b byte_act)) put
        ∙ ap (λ (v : World). act_refusals (deciding_world b byte_act id v) id act_done) (changed s.state s.stays)
        ∙ begun_denials old id (state_of y.state) b byte_act (state_of y.state) (session_of ks h) (session_some d ks xs next id at h place within is_h) (λ starts. ap (search_of (buffers_of ks)) (s.begins starts)) in
        let is : after ≡ denied_after (with_state id (λ was. state) old) id act_done mid = denied ∙ ap (λ (rs : List Report). let t : StoreTold = record mid { tape = tape_after rs mid.tape } in t) same in
        record {
          stored = did.stored;
          world = did.world;
          fault = λ e. subst (λ (t : StoreTold). IsCounted before.failed t.failed) (sym denied) (did.fault e);
          tells = told_denied (with_state id (λ was. state) old) id act_done did.stored before mid after did.tells is;
        }

    -- what holds of what is to be done, and of nothing, holds of what the act leaves
    byte_act_leaves : (P : List Todo → Type 0) → P [] → ((todo : List Todo) → P todo → P (without_all todo)) → P y.state.player.todo → (K : List MarkedBuffer) (ys : List Session) (before after : StoreTold) → sizes_in ys ≡ sizes_in xs
        → IsDoneBy K ys before after → P (state_at at ys).todo
    byte_act_leaves P none rest holds K ys before after same by =
        let did = done_from (world_of d K ys next) before after by in
        let w : World = world_of d ks xs next in
        let z = open_state d K ys next id at (place_same id at xs ys place same) (within_still at xs ys within same) in
        subst P (ap (λ (o : model.State). o.todo) z.2)
        (todo_acted P none rest w id state act_done did.stored (session_of ks h) z.0 (session_some d ks xs next id at h place within is_h) (single_brief state act_done (byte_act_single (state_of y.state) b byte_act s.here)) (subst P (sym (byte_act_same b byte_act (state_of y.state)).0) holds)
        (ap (λ (v : World). find_session id v.sessions) (sym did.world) ∙ z.1))

    -- further replacements are left only where the session goes on to replace
    pub acted_fit : (K : List MarkedBuffer) (ys : List Session) (before after : StoreTold) → sizes_in ys ≡ sizes_in xs
        → IsDoneBy K ys before after
        → IsFit (state_at at ys)
    acted_fit K ys before after same by =
        either (has_all y.state.player.todo) refl
      where
        either : (all : Bool) → has_all y.state.player.todo ≡ all → IsFit (state_at at ys)
        either true e =
            let did = done_from (world_of d K ys next) before after by in
            let r = s.further e in
            let z = open_state d K ys next id at (place_same id at xs ys place same) (within_still at xs ys within same) in
            subst IsFit z.2
            (replaced_fits (world_of d ks xs next) id (state_of y.state) b byte_act did.stored (session_of ks h) z.0 (session_some d ks xs next id at h place within is_h) r.0 s.fit e r.1
            (ap (λ (v : World). find_session id v.sessions) (sym did.world) ∙ z.1))
        either false e =
            fit_none (state_at at ys)
            (byte_act_leaves (λ (todo : List Todo). has_all todo ≡ false) refl (λ todo f. ap has_all (without_same todo f) ∙ f) e K ys before after same by)

    -- less is left in any case: all further replacements and less of the text, or none of them
    pub acts_less : (K : List MarkedBuffer) (ys : List Session) (before after : StoreTold) → AreWithinLimit K → sizes_in ys ≡ sizes_in xs
        → IsDoneBy K ys before after
        → ((s t : Search) → is_replacement byte_act ≡ true → search_held at (slice_set xs at y) ≡ Some s → search_held at ys ≡ Some t → 0 < length (aim_old s.aim) → remaining_at at K ys < remaining_at at ks (slice_set xs at y))
        → IsLess (remaining_at at ks xs) (remaining_at at K ys) (state_at at xs).todo (state_at at ys).todo
    acts_less K ys before after limits same by further = either (has_all h.state.player.todo) refl
      where
        fewer : has_all h.state.player.todo ≡ true → has_all (state_at at ys).todo ≡ true → remaining_at at K ys < remaining_at at ks xs
        fewer e all =
            let stays = s.left.same e in
            let now = replace_aim y.state.search (replacing_ready byte_act y.state.search (state_of y.state) stays.0 s.ready) in
            let then = replace_aim (search_held at ys) (replacing_held (slice_get ys at) (acted_fit K ys before after same by all).0) in
            let some = subst (λ (o : Option Search). 0 < length (old_in o y.state.prompt)) now.2 (s.fit (ap has_all stays.1 ∙ e)).1 in
            let less = further now.0 then.0 stays.0 (search_put xs at y within ∙ now.2) then.2 some in
            let stay = left_stays ks y.state.search h.state.search (is_search_mode (state_of y.state).mode) (s.stays (buffers_of ks)) in
            omega (arith, less, stay, ap (remaining_in ks) (search_put xs at y within), ap (λ (o : Option Session). remaining_in ks (search_or_none o)) (session_there xs at h within is_h))

        either : (all : Bool) → has_all h.state.player.todo ≡ all → IsLess (remaining_at at ks xs) (remaining_at at K ys) (state_at at xs).todo (state_at at ys).todo
        either true e =
            let m = remaining_at at ks xs in
            let n = remaining_at at K ys in
            let todo : List Todo = h.state.player.todo in
            let stays = s.left.same e in
            let left = byte_act_leaves (AllLeft m todo) (all_none m todo e) (all_without m todo e stays.2) (subst (AllLeft m todo) (sym stays.1) (all_same m todo e (ap is_played (sym stays.1) ∙ s.left.played))) K ys before after same by in
            subst (λ (ts : List Todo). IsLess m n ts (state_at at ys).todo) (sym todo_there) (all_less m n todo (state_at at ys).todo e left (fewer e))
        either false e =
            let m = remaining_at at ks xs in
            let n = remaining_at at K ys in
            let left = byte_act_leaves (IsWithin (weight 1048576 y.state.player.todo)) (omega arith, refl) (without_within (weight 1048576 y.state.player.todo)) (omega arith, s.left.played) K ys before after same by in
            let most = more_weight n 1048576 (state_at at ys).todo (left_within at K ys limits) in
            subst (λ (todo : List Todo). IsLess m n todo (state_at at ys).todo) (sym todo_there) (omega (arith, left.0, most, s.left.less e, none_weight m 1048576 h.state.player.todo e), left.1)

    pub acted_turn : (K : List MarkedBuffer) (ys : List Session) (before mid after : StoreTold) → sizes_in ys ≡ sizes_in xs → IsDoneBy K ys before mid → after ≡ denied_after (deciding_world b byte_act id begun) id (model_act (state_at at (slice_set xs at y)) b byte_act) mid → TurnDone (is_played (state_at at xs).todo) (state_at at ys).todo old (world_of d K ys next) before after id
    acted_turn K ys before mid after same by denied =
        record {
          state = state;
          act = Some act_done;
          turn = byte_act_turn;
          done = (
            λ plays. ap (λ (p : Bool). is_quiet p act_done) (byte_act_same b byte_act (state_of y.state)).1 ∙ s.playing (sym (ap is_played todo_there) ∙ plays),
            λ typed. byte_act_leaves (λ (todo : List Todo). todo ≡ []) refl (λ todo e. ap without_all e) (s.typed (sym (ap is_played todo_there) ∙ typed)) K ys before mid same by,
            reported_from (world_of d K ys next) before mid after by denied,
          );
        }

    -- what was there before is there again in the session as it was before the turn
    abbrev again : Session
    again = refused (before_turn b h.state) y

    back : may_want_memory byte_act ≡ true → session_of ks again ≡ state_set refused_state (session_of ks h)
    back wants =
        ap (λ (z : Session). session_of ks (refused (before_turn b h.state) z)) s.state
        ∙ (λ i. record (session_of ks h) { search = (ap (search_of (buffers_of ks)) (s.search wants) ∙ search_still (buffers_of ks) h.state.search h.state.prompt) i; state = s.again wants i })

    pub refused_turn : (K : List MarkedBuffer) (ys : List Session) (before after : StoreTold) (was : Before) → was ≡ before_turn b h.state → IsRefusedIn d at was byte_act ks K (slice_set xs at y) ys → after ≡ before
        → TurnRefused old (world_of d K ys next) before after id
    refused_turn K ys before after was of_was did stays =
        let r = subst (λ (e : Before). IsRefusedIn d at e byte_act ks K (slice_set xs at y) ys) of_was did in
        record {
          state = state;
          act = act_done;
          turn = byte_act_turn;
          told =
              r.told y next (set_there xs at y within)
              ∙ ap (λ (zs : List Session). world_of d ks zs next) (set_twice xs at y again)
              ∙ world_changed refused_state d ks xs next id at h again place within is_h (back r.wants);
          may =
              ap (λ (o : model.State). may_be_refused (outcome_in (with_state id (λ was. o) old) id act_done true)) (unstarted b byte_act (state_of y.state) r.wants)
              ∙ sym (ap (λ (v : World). may_be_refused (outcome_in v id act_done true)) (changed s.state s.stays))
              ∙ sym (ap (λ (o : model.State). may_be_refused (outcome_in begun id (model_act o b byte_act) true)) put)
              ∙ r.may id next (place_same id at xs (slice_set xs at y) place (sizes_set xs at h y is_h (ap size_in s.state)));
          left = stays;
        }

-- A search begins: that what is done is the act.
use Rattle.std.proofs.Common.{false, ◌≡◌, ℕ, ◌+◌, ◌≤◌, min, List, [], length, Option, Some, None, refl, sym, ap, ◌∙◌, arith, cond, true}
use Rattle.std.proofs.Math.Nat.{min-eq_left}
use Rattle.std.specs.Prelude.{IfSome, Result, Ok, Err}
use Rattle.mgs_model.specs.Access.{Directory}
use Rattle.mgs_model.specs.World.{State}
use Rattle.mgs_model.specs.World as model
use Rattle.mgs_model.specs.View.{view}
use Rattle.mgs_model.specs.Outcome.{Act, Begin, Keep_position, No_effect, Run}
use Rattle.mgs_model.specs.SearchCommands.{AroundSearch, Keep_mode, SearchFinish, met, seek}
use Rattle.mgs_model.specs.Acts.{fails, outcome, search_finished, search_finished_state, sought_by}
use Rattle.mgs_model.specs.Apply.{session_arranged, is_search_mode}
use Rattle.mgs_model.specs.Events.{state_set}
use Rattle.mgs_model.specs.declared.echo_text.Message.{Message}
use Rattle.mgs_model.specs.declared.echo_text.Message.TheVariants.{Says}
use Rattle.mgs_model.specs.declared.echo_text.Notice.TheVariants.{Silent}
use Rattle.mgs_model.specs.declared.search.Direction.{Direction}
use Rattle.mgs_model.specs.declared.session.Command.TheVariants.{Seek}
use Rattle.mgs_model.specs.declared.session.Kind.TheVariants.{Other}
use Rattle.mgs_model.specs.declared.session.Mode.TheVariants.{Searching}
use Rattle.mgs_model.specs.declared.session.Replacement.TheVariants.{ReplaceMatch}
use Rattle.mgs_model.specs.declared.session.Seeking.{Seeking}
use Rattle.mgs_model.specs.declared.session.Seeking.TheVariants.{StartReplace, StartSearch}
use Rattle.mgs_buffers.specs.MarkedBuffer.{MarkedBuffer, mark_at, marked_at}
use Rattle.mgs_windows.specs.declared.WindowMarks.{WindowMarks}
use Rattle.mgs_search.specs.Planned.{IsBegun, begun}
use Rattle.mgs_session.specs.Seeking.{replacing_begun, search_begun, searching}
use Rattle.mgs_session.specs.Sessions.{failed, acted, resting}
use Rattle.mgs_session.specs.declared.Session.{Session}
use Rattle.mgs_session.specs.declared.search.Search.{Search}
use Rattle.mgs_plan.specs.Actions.{mark_gone}
use Rattle.mgs_seek.specs.Beginning.{searching_state}
use Rattle.mgs_world.specs.Sound.{IsSessionSound}
use Rattle.mgs_world.specs.Worlds.{buffers_of, idle, state_of, session_of, size_named, world_of}
use Rattle.mgs_world.proofs.Edits.{size_kept}
use Rattle.mgs_world.proofs.Owns.{no_search_at_rest, at_rest}
use Rattle.mgs_world.proofs.Soundness.{mark_is_kept}
use Rattle.mgs_seek.specs.Acting.{Does, Fails, IsTarget}
use Rattle.mgs_seek.specs.Replacing.{point_met, replacing_state, session_met}
use Rattle.mgs_seek.proofs.Comes.{come_read}
use Rattle.mgs_seek.proofs.Lifts.{does_fail, gone_does}
use Rattle.mgs_seek.proofs.Meets.{adjusted_met}

-- what is left where it begins, at a match or at none
abbrev finish_begun : List ℕ → ℕ → ℕ → Option ℕ → SearchFinish
finish_begun name p len None = met len 0 Keep_position None
finish_begun name p len (Some m) = record (met len 0 Keep_position (Some m)) { sought = Begin name p m; mode = Keep_mode }

begun_finish : (name : List ℕ) (p len : ℕ) (to : Option ℕ) → begun name p len (Ok to) ≡ Ok (finish_begun name p len to)
begun_finish name p len None = refl
begun_finish name p len (Some m) = refl

-- a session at rest, with the record that has the mode
set_so : (ks : List MarkedBuffer) (h : Session) (f : State → State) → state_of h.state ≡ idle (state_of h.state) → (let s : model.Session = record (session_of ks h) { search = None; state = f (state_of h.state) } in state_set f (session_of ks h) ≡ s)
set_so ks h f fresh =
    (λ i. record (session_of ks h) { search = cond (is_search_mode (f (state_of h.state)).mode) (no_search_at_rest ks h fresh i) None; state = f (state_of h.state) })
    ∙ (λ i. record (session_of ks h) { search = elim (is_search_mode (f (state_of h.state)).mode) as (λ q. Path (Option model.Search) (cond q None None) None) [ true ↦ refl | false ↦ refl ] i; state = f (state_of h.state) })

-- ANY COMMAND that begins a search, by what is begun of the record
module _ (directory : Directory) (ks : List MarkedBuffer) (h : Session) (f : State → State) (c : Seeking) (n : Option ℕ) (typed : List ℕ) (fresh : state_of h.state ≡ idle (state_of h.state)) where
  abbrev state : State
  state = f (state_of h.state)

  abbrev seen : model.Session
  seen = record (session_of ks h) { search = None; state = state }

  abbrev starts : Act
  starts = Run (Seek c) n typed

  module _ (message : Message) (ends : session_arranged (fails state message) seen ≡ session_of ks (failed message h)) where
    ends_so : session_arranged (fails state message) (state_set f (session_of ks h)) ≡ session_of ks (failed message h)
    ends_so = ap (session_arranged (fails state message)) (set_so ks h f fresh) ∙ ends

    pub start_fails : Fails directory ks h false message → Does directory ks ks h (failed message h) (state_set f) starts
    start_fails all = does_fail directory ks h f None message starts (state_set f) (set_so ks h f fresh) ends_so (λ xs next. all c ReplaceMatch xs next state None n typed)

  module _ (x : WindowMarks) (target : IsTarget directory ks h false x) where
    abbrev text : List ℕ
    text = (marked_at x.name ks).buffer.text

    -- what it is given
    abbrev given : AroundSearch
    given = record { name = x.name; places = record { origin = 0; anchor = 0; point = mark_at x.name ks x.point }; sought_here = false; old = state.old; typed = typed }

    -- what the planner answers is what the act comes to
    pub start_does : (r : Result SearchFinish Message) → r ≡ seek c text given → (ls : List MarkedBuffer) (y : Session) → (sought_by state r).effect ≡ No_effect → session_of ls y ≡ session_arranged (sought_by state r) seen → Does directory ks ls h y (state_set f) starts
    start_does r planned ls y quiet does = record {
      left = sought_by state r;
      quiet = quiet;
      known =
          λ xs next. ap (λ (s : model.Session). outcome (view (world_of directory ks xs next) s) starts true) (set_so ks h f fresh)
          ∙ come_read directory ks xs next h state n typed false c ReplaceMatch x target.sel (mark_is_kept x.name x.point ks target.marks.point) target.granted None
          ∙ ap (sought_by state) (sym planned);
      does = does ∙ ap (session_arranged (sought_by state r)) (sym (set_so ks h f fresh));
    }

-- AN INCREMENTAL SEARCH
pub begin_does : (directory : Directory) (ks : List MarkedBuffer) (h : Session) (d : Direction) → IsSessionSound ks h → state_of h.state ≡ idle (state_of h.state) → (x : WindowMarks) → IsTarget directory ks h false x → mark_at x.name ks x.point ≤ length (marked_at x.name ks).buffer.text → (n : Option ℕ)
    → Does directory ks ks h (acted Other (searching (search_begun x.name (mark_at x.name ks x.point) d) (resting h))) (state_set (searching_state d)) (Run (Seek (StartSearch d)) n [])
begin_does directory ks h d sound fresh x target small n =
    let p = mark_at x.name ks x.point in
    let begins : SearchFinish = record { point = Keep_position; sought = Begin x.name p p; mode = Keep_mode } in
    let begun : Session = acted Other (searching (search_begun x.name p d) (resting h)) in
    let state = searching_state d (state_of h.state) in
    let origin : min p (size_named x.name (buffers_of ks)) ≡ p = ap (min p) (size_kept x.name ks (mark_is_kept x.name x.point ks target.marks.point)) ∙ min-eq_left small in
    let left : state_of begun.state ≡ search_finished_state begins state =
    at_rest (λ (o : State). record o { echo = Says Silent; argument = None; keys = []; mode = Searching d false; input = []; old = []; count = 0; kind = Other })
    (λ (o : State). search_finished_state begins (searching_state d o)) (λ o. refl) (state_of h.state) fresh in
    start_does directory ks h (searching_state d) (StartSearch d) n [] fresh x target (Ok begins) refl ks begun refl
    (gone_does ks h x Keep_position begun.state sound target.sel state None state begins (λ search w. refl) left (λ i. Some (record { name = x.name; origin = origin i; anchor = origin i })))

-- A QUERY-REPLACE
module _ (directory : Directory) (ks : List MarkedBuffer) (h : Session) (pattern put : List ℕ) (fresh : state_of h.state ≡ idle (state_of h.state)) (x : WindowMarks) (target : IsTarget directory ks h false x) (r : Result (Option ℕ) Message) (plan : IsBegun pattern (marked_at x.name ks).buffer.text (mark_at x.name ks x.point) r) where
  abbrev place : ℕ
  place = mark_at x.name ks x.point

  abbrev there : List ℕ
  there = (marked_at x.name ks).buffer.text

  abbrev replacing : State
  replacing = replacing_state pattern put (state_of h.state)

  planned_so : begun x.name place (length pattern) r ≡ seek StartReplace there (given directory ks h (replacing_state pattern put) StartReplace None put fresh x target)
  planned_so = plan (given directory ks h (replacing_state pattern put) StartReplace None put fresh x target)

  pub start_refused : (message : Message) → r ≡ Err message → Does directory ks ks h (failed message h) (state_set (replacing_state pattern put)) (Run (Seek StartReplace) None put)
  start_refused message is =
      start_does directory ks h (replacing_state pattern put) StartReplace None put fresh x target (Err message) (sym (ap (begun x.name place (length pattern)) is) ∙ planned_so) ks (failed message h) refl refl

  abbrev begins : Search
  begins = replacing_begun x.name place place (record { pattern = pattern; put = put; count = 0 })

  abbrev placed : Option ℕ → List MarkedBuffer
  placed to = mark_gone x.name x.point (point_met (length pattern) to None) ks

  module _ (sound : IsSessionSound ks h) (small : place ≤ length there) where
    size : size_named x.name (buffers_of ks) ≡ length there
    size = size_kept x.name ks (mark_is_kept x.name x.point ks target.marks.point)

    begun_does : (to : Option ℕ) → IfSome to (λ m. m + length pattern ≤ length there) → session_of (placed to) (session_met to begins h) ≡ session_arranged (search_finished replacing (finish_begun x.name place (length pattern) to) No_effect) (seen directory ks h (replacing_state pattern put) StartReplace None put fresh)
    begun_does None room =
        gone_does ks h x (point_met (length pattern) None None) (session_met None begins h).state sound target.sel replacing None replacing (finish_begun x.name place (length pattern) None) (adjusted_met (length pattern) None None) refl refl
    begun_does (Some m) room =
        let fits : m ≤ length there = omega (arith, room) in
        gone_does ks h x (point_met (length pattern) (Some m) None) (session_met (Some m) begins h).state sound target.sel replacing None replacing (finish_begun x.name place (length pattern) (Some m)) (adjusted_met (length pattern) (Some m) None) refl
        (λ i. Some (record { name = x.name; origin = (ap (min place) size ∙ min-eq_left small) i; anchor = (ap (min m) size ∙ min-eq_left fits) i }))

    pub replace_begins : (to : Option ℕ) → r ≡ Ok to → IfSome to (λ m. m + length pattern ≤ length there) → Does directory ks (placed to) h (session_met to begins h) (state_set (replacing_state pattern put)) (Run (Seek StartReplace) None put)
    replace_begins to is room =
        start_does directory ks h (replacing_state pattern put) StartReplace None put fresh x target (Ok (finish_begun x.name place (length pattern) to)) (sym (begun_finish x.name place (length pattern) to) ∙ sym (ap (begun x.name place (length pattern)) is) ∙ planned_so) (placed to) (session_met to begins h) refl (begun_does to room)

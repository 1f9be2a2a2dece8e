-- What the calls of a session come to in the model's words, and what a prompt makes of a byte.
use Rattle.std.proofs.Common.{◌≡◌, ℕ, cond, List, [], Option, None, Some, refl, sym, ap, ◌∙◌}
use Rattle.mgs_model.specs.World.{State, Search}
use Rattle.mgs_model.specs.Apply.{is_search_mode}
use Rattle.mgs_model.specs.View.{View}
use Rattle.mgs_model.specs.Acts.{asks}
use Rattle.mgs_model.specs.Turns.{prompt_turn}
use Rattle.mgs_model.specs.declared.echo_text.Message.TheVariants.{Says}
use Rattle.mgs_model.specs.declared.echo_text.Notice.TheVariants.{Silent}
use Rattle.mgs_model.specs.declared.session.Mode.TheVariants.{Plain, Prompt}
use Rattle.mgs_model.specs.declared.session.Question.{Question}
use Rattle.mgs_mini.specs.Typing.{PromptInput, stepped, typed_state}
use Rattle.mgs_mini.specs.declared.Step.{Step}
use Rattle.mgs_session.specs.declared.State as held
use Rattle.mgs_session.specs.declared.search.Search as held_search
use Rattle.mgs_session.specs.declared.search.Aim.{Aim}
use Rattle.mgs_session.specs.declared.search.Aim.TheVariants.{Find, Replace}
use Rattle.mgs_session.specs.declared.Session.{Session}
use Rattle.mgs_session.specs.Sessions.{asking, prompting}
use Rattle.mgs_buffers.specs.MarkedBuffer.{MarkedBuffer}
use Rattle.mgs_world.specs.Worlds.{aim_mode, buffers_of, idle, mode_in, old_in, state_of, search_of, session_of}

-- what two functions of a record at rest make of it is the same where it computes to the same
pub at_rest : {A : Type 0} (f g : State → A) → ((state : State) → f (idle state) ≡ g (idle state)) → (state : State) → state ≡ idle state → f state ≡ g state
at_rest f g same state fresh = ap f fresh ∙ same state ∙ sym (ap g fresh)

-- and its mode has no positions of a search
pub none_at_rest : (a : Option Search) (state : State) → state ≡ idle state → cond (is_search_mode state.mode) a None ≡ None
none_at_rest a state fresh = ap (λ (o : State). cond (is_search_mode o.mode) a None) fresh

pub search_at_rest : (o : held.State) → state_of o ≡ idle (state_of o) → o.search ≡ None
search_at_rest o fresh = by o.search (ap (λ (state : State). state.mode) fresh)
  where
    aims : (s : held_search.Search) (a : Aim) → aim_mode a ≡ Plain → Path (Option held_search.Search) (Some s) None
    aims s (Find f) e = cc
    aims s (Replace r) e = cc

    by : (s : Option held_search.Search) → mode_in s o.prompt ≡ Plain → s ≡ None
    by None e = refl
    by (Some s) e = aims s s.aim e

pub no_search_at_rest : (ks : List MarkedBuffer) (x : Session) → state_of x.state ≡ idle (state_of x.state) → (session_of ks x).search ≡ None
no_search_at_rest ks x fresh = ap (λ (s : Option held_search.Search). search_of (buffers_of ks) s) (search_at_rest x.state fresh)

-- which an act that keeps the mode leaves so
pub search_kept : (ks : List MarkedBuffer) (x : Session) → state_of x.state ≡ idle (state_of x.state) → (session_of ks x).search ≡ cond (is_search_mode (state_of x.state).mode) (session_of ks x).search None
search_kept ks x fresh = no_search_at_rest ks x fresh ∙ sym (none_at_rest (session_of ks x).search (state_of x.state) fresh)

-- CALLS

-- a session that has this search, or none
abbrev with_search : Session → Option held_search.Search → Session
with_search x s = record x { state = record x.state { search = s } }

pub state_asking : (c : Question) (n : Option ℕ) (x : Session) → x.state.search ≡ None → state_of x.state ≡ idle (state_of x.state) → state_of (asking c n x).state ≡ asks c n (state_of x.state)
state_asking c n x none fresh =
    let empty : old_in x.state.search x.state.prompt ≡ [] = ap (λ (o : State). o.old) fresh in
    let old : [] ≡ old_in None x.state.prompt = sym empty ∙ ap (λ (s : Option held_search.Search). old_in s x.state.prompt) none in
    ap (λ (s : Option held_search.Search). state_of (asking c n (with_search x s)).state) none
    ∙ (λ i. record (state_of (asking c n (with_search x None)).state) { old = old i })
    ∙ sym (ap (λ (s : Option held_search.Search). asks c n (state_of (with_search x s).state)) none)

-- A BYTE AT A PROMPT

-- what comes next, as the model says it of the session's own record: each byte empties the echo line first
pub prompt_fed : (v : View) (x : Session) (p q : PromptInput) (step : Step) (byte : ℕ) → x.state.search ≡ None → x.state.prompt ≡ Some p → q.question ≡ p.question → q.first ≡ p.first
    → ((v : View) (state : State) → prompt_turn v p.question (typed_state state p.input p.waiting) byte ≡ stepped v p.question (typed_state state q.input q.waiting) step)
    → prompt_turn v p.question (record (state_of x.state) { echo = Says Silent }) byte ≡ stepped v p.question (state_of (prompting q x).state) step
prompt_fed v x p q step byte none is question first turn =
    let y : Session = with_search x None in
    let state : State = state_of (prompting p y).state in
    ap (λ (s : Option held_search.Search). prompt_turn v p.question (record (state_of (with_search x s).state) { echo = Says Silent }) byte) none
    ∙ ap (λ r. prompt_turn v p.question (state_of (record y.state { echo = Says Silent; prompt = r })) byte) is
    ∙ turn v state
    ∙ sym (ap (λ c. stepped v p.question (record (typed_state state q.input q.waiting) { mode = Prompt c }) step) question)
    ∙ sym (ap (λ (old : List ℕ). stepped v p.question (record (typed_state state q.input q.waiting) { mode = Prompt q.question; old = old }) step) first)
    ∙ sym (ap (λ (s : Option held_search.Search). stepped v p.question (state_of (prompting q (with_search x s)).state) step) none)

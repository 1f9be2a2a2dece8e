-- A byte that ends its session leaves the world as a close does.
use Rattle.std.proofs.Common.{◌≡◌, ℕ, true, false, List, [], Some, None, refl, sym, ap, subst, ◌∙◌, arith}
use Rattle.std.specs.Prelude.{IsSome, is_some}
use Rattle.mgs_model.specs.World.{World, Session, find_session}
use Rattle.mgs_model.specs.Outcome.{Act, Run}
use Rattle.mgs_model.specs.Apply.{act, without_session}
use Rattle.mgs_model.specs.Events.{begun_state, rests, settled, turn_in, with_state}
use Rattle.mgs_model.specs.declared.errors.Keyed.{Keyed}
use Rattle.mgs_model.specs.declared.errors.Keyed.TheVariants as keyed
use Rattle.mgs_model.specs.declared.session.Command.TheVariants.{Exit}
use Rattle.mgs_laws.proofs.After.{find_without}
use Rattle.mgs_laws.proofs.Ends.{act_ends}
use Rattle.mgs_core.proofs.Led.{Leads, leads_acted}
use Rattle.mgs_laws.proofs.LeftToDo.{found_state, rests_found}
use Rattle.mgs_core.proofs.Bytes.{reports_done, step_done}
use Rattle.mgs_core.proofs.Silent.{act_reported, exit_silent}
use Rattle.mgs_births.specs.Reports.{Report, act_reports}
use Rattle.mgs_births.specs.Telling.{StoreTold, Tells}
use Rattle.mgs_world.specs.declared.size.Size.{Size}
use Rattle.mgs_world.specs.Worlds.{IsUnique, sizes}
use Rattle.mgs_core.specs.Calls.{KeyedBy, closed, sizes_keyed}
use Rattle.mgs_core.specs.AtPlace.{TypedBy}
use Rattle.mgs_core.specs.Turns.{EventBy, TurnEnds}
use Rattle.mgs_core.proofs.Begun.{closed_state}
use Rattle.mgs_core.proofs.Stays.{closed_rests, without_first}
use Rattle.mgs_core.proofs.Turned.{within_most}
use Rattle.mgs_core.proofs.Steps.{not_found}

-- an event whose first turn is the session's end
module _ (w start now : World) (before after : StoreTold) (id byte : ℕ) (begins : start ≡ with_state id (begun_state byte) w) (x : Session) (found : find_session id w.sessions ≡ Some x) (unique : IsUnique (sizes start)) (rest : settled w ≡ w) (t : TurnEnds false start now before after id) where
  abbrev exits : Act
  exits = Run Exit t.argument []

  abbrev started : World
  started = with_state id (begun_state byte) w

  abbrev ended : World
  ended = act (with_state id (λ was. t.state) started) id exits true

  -- only that session has the id
  ended_is : ended ≡ record started { sessions = without_session id started.sessions }
  ended_is = act_ends started t.state id t.argument true _ (found_state w id (begun_state byte) x found) t.quiet

  ended_closed : ended ≡ closed w id
  ended_closed =
      ended_is
      ∙ ap (λ (v : World). record v { sessions = without_session id v.sessions }) (sym begins)
      ∙ ap (λ (ys : List Session). record start { sessions = ys }) (without_first id start.sessions unique)
      ∙ ap (λ (v : World). closed v id) begins
      ∙ closed_state w id (begun_state byte)

  gone : find_session id ended.sessions ≡ None
  gone = ap (λ (v : World). find_session id v.sessions) ended_is ∙ find_without id started.sessions

  abbrev done : List Report
  done = act_reports (with_state id (λ was. t.state) started) id exits true

  leads : Leads id true 1 done started ended
  leads = leads_acted id true started ended t.state exits (ap (λ (u : World). turn_in u id) (sym begins) ∙ t.turn) refl

  over : rests (turn_in ended id) ≡ true
  over = rests_found ended id None gone (λ y e. cc)

  pub event_ends : KeyedBy w (closed w id) before after id byte keyed.Quit
  event_ends =
      let here : IsSome (find_session id w.sessions) = ap is_some found in
      record {
        stored = true;
        stop = None;
        step =
            sym (closed_rests w id rest)
            ∙ ap settled (sym ended_closed)
            ∙ sym (step_done w ended id byte true 1 done here leads (within_most 1 (omega arith)) over);
        short = (λ e. cc, λ e. cc);
        no_session = (λ e. cc, λ e. not_found (find_session id w.sessions) here e);
        quit = (λ e. (here, ap (λ (v : World). find_session id v.sessions) (sym ended_closed) ∙ gone), λ e. refl);
        may = λ e. cc;
        fault = λ e. cc;
        tells =
            subst (λ (es : List Report). Tells es before after) (sym (reports_done w ended id byte true 1 done here leads (within_most 1 (omega arith)) over))
            (subst (λ (u : StoreTold). Tells done before u) (sym t.left) (act_reported (with_state id (λ was. t.state) started) id exits true before (exit_silent t.argument true) (λ v. refl)));
        unasked = λ e. cc;
      }

-- an event that ends no session
pub event_keyed : (id byte : ℕ) (w start now new : World) (before after : StoreTold) (k : Keyed) → (k ≡ keyed.Quit → ⊥) → EventBy id start now before after k → IsSome (find_session id w.sessions) → IsSome (find_session id new.sessions) → start ≡ with_state id (begun_state byte) w → new ≡ settled now → TypedBy w new before after id byte k
event_keyed id byte w start now new before after keyed.Quit other e here there begins settles = absurd (other refl)
event_keyed id byte w start now new before after keyed.NoSession other e here there begins settles = absurd e
event_keyed id byte w start now new before after k other e here there begins settles =
    subst (λ (v : World). KeyedBy w v before after id byte k) (sym settles) (e w byte here (subst (λ (v : World). IsSome (find_session id v.sessions)) settles there) begins)

-- what was typed, where it ends the session and where it does not
pub typed_quit : (v w new : World) (before after : StoreTold) (id byte : ℕ) (k : Keyed) → k ≡ keyed.Quit → new ≡ closed v id → TypedBy v w before after id byte k → KeyedBy v new before after id byte keyed.Quit
typed_quit v w new before after id byte k e gone h = subst (λ (u : World). KeyedBy v u before after id byte keyed.Quit) (sym gone) (subst (TypedBy v w before after id byte) e h)

pub typed_other : (v w : World) (before after : StoreTold) (id byte : ℕ) (k : Keyed) → (k ≡ keyed.Quit → ⊥) → TypedBy v w before after id byte k → KeyedBy v w before after id byte k
typed_other v w before after id byte keyed.Quit e h = absurd (e refl)
typed_other v w before after id byte _ e h = h

pub sizes_other : (k : Keyed) (id : ℕ) (zs : List Size) → (k ≡ keyed.Quit → ⊥) → zs ≡ sizes_keyed k id zs
sizes_other keyed.Quit id zs e = absurd (e refl)
sizes_other _ id zs e = refl

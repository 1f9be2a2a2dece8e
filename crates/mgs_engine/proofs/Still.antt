-- A byte that only goes on with a word: each screen is as it was.
use Rattle.std.proofs.Common.{◌≡◌, ℕ, Bool, true, false, List, [], map, Some, refl, sym, ap, subst, ◌∙◌}
use Rattle.std.specs.Prelude.{nat_eq}
use Rattle.std.specs.Option.{option_map}
use Rattle.std.proofs.lemmas.Bool.{eqb-true}
use Rattle.std.proofs.lemmas.List.Elements.{All-weaker}
use denote.Enum.Bare.{sameb}
use Rattle.mgs_model.specs.Draw.{draw, screen}
use Rattle.mgs_model.specs.Events.{Close, state_set, run, with_state}
use Rattle.mgs_model.specs.Picture.{Picture}
use Rattle.mgs_model.specs.Seen.{Seen, seen}
use Rattle.mgs_model.specs.World.{State, Session, World, find_session, has_id}
use Rattle.mgs_model.specs.contracts.errors.Keyed.{the_type}
use Rattle.mgs_model.specs.declared.errors.Keyed.{Keyed}
use Rattle.mgs_model.specs.declared.errors.Keyed.TheVariants as keyed
use Rattle.mgs_model.specs.declared.echo_text.Message.{Message}
use Rattle.mgs_model.specs.declared.session.Mode.{Mode}
use Rattle.mgs_model.proofs.Firsts.{find-change_first, find-change_first_other}
use Rattle.mgs_screen.specs.TextsDrawn.{AreStanding}
use Rattle.mgs_world.specs.Worlds.{sizes, IsUnique}
use Rattle.mgs_core.specs.Kept.{Kept}
use Rattle.mgs_core.specs.Calls.{IsStill, KeyedBy, sizes_keyed}
use Rattle.mgs_engine.specs.declared.session_end.Cause.{Cause}
use Rattle.mgs_engine.specs.declared.session_end.Cause.TheVariants.{Slow}
use Rattle.mgs_engine.specs.declared.session_screen.Screen.{Screen}
use Rattle.mgs_engine.specs.Handled.{Handles}
use Rattle.mgs_engine.specs.Painted.{Painted}
use Rattle.mgs_engine.specs.Screens.{IsDrawn}
use Rattle.mgs_engine.specs.Served.{IsServed, serving_of}
use Rattle.mgs_engine.specs.Serving.{Serving, all_ended_by, queue_ids}
use Rattle.mgs_engine.specs.Slow.{slow_ids}
use Rattle.mgs_engine.proofs.Handling.{never_quit}
use Rattle.mgs_engine.proofs.Late.{none_slow}
use Rattle.mgs_engine.proofs.Painted.{painted_same}
use Rattle.mgs_engine.proofs.Quits.{ids_stay, told_stay}

-- ONE SCREEN

-- what is drawn goes by the mode, the input and the echo text of what is held
drawn_by : (s : Seen) (m : Mode) (input : List ℕ) (echo : Message) (state : State) → state.mode ≡ m → state.input ≡ input → state.echo ≡ echo → draw (record s { state = state }) ≡ draw (record s { state = record s.state { mode = m; input = input; echo = echo } })
unfolding draw
drawn_by s m input echo state of_mode of_input of_echo =
    let of : Mode → List ℕ → Message → Picture = λ a b c. draw (record s { state = record state { mode = a; input = b; echo = c } }) in
    ap (λ a. of a state.input state.echo) of_mode ∙ ap (λ b. of m b state.echo) of_input ∙ ap (of m input) of_echo

screen_still : (w : World) (id : ℕ) (state : State) (x : Session) → state.mode ≡ x.state.mode → state.input ≡ x.state.input → state.echo ≡ x.state.echo → screen (with_state id (λ was. state) w) (state_set (λ was. state) x) ≡ screen w x
screen_still w id state x of_mode of_input of_echo = drawn_by (seen w x) x.state.mode x.state.input x.state.echo state of_mode of_input of_echo

-- the session that the byte came to
drawn_there : (id : ℕ) (w v : World) (x : Screen) → nat_eq id x.id ≡ true → IsStill id w v → IsDrawn w x → IsDrawn v x
drawn_there id w v x there s d =
    let set : Session → Session = state_set (λ was. s.state) in
    let same : id ≡ x.id = eqb-true id x.id there in
    let before : find_session id w.sessions ≡ Some d.session = ap (λ (n : ℕ). find_session n w.sessions) same ∙ d.found in
    let face = s.face d.session before in
    record {
      session = set d.session;
      found =
          ap (λ (n : ℕ). find_session n v.sessions) (sym same)
          ∙ ap (λ (u : World). find_session id u.sessions) s.is
          ∙ find-change_first (has_id id) set (λ y. refl) w.sessions
          ∙ ap (option_map set) before;
      picture =
          d.picture
          ∙ sym (screen_still w id s.state d.session face.0 face.1 face.2)
          ∙ ap (λ (u : World). screen u (set d.session)) (sym s.is);
      level = d.level;
      stands = subst (λ (u : World). AreStanding u.buffers x.shown x.drawn_texts) (sym s.is) d.stands;
    }

-- another
drawn_other : (id : ℕ) (w v : World) (x : Screen) → nat_eq id x.id ≡ false → IsStill id w v → IsDrawn w x → IsDrawn v x
drawn_other id w v x other s d =
    let apart : (y : Session) → has_id id y ≡ true → has_id x.id y ≡ false = λ y e. ap (λ (n : ℕ). nat_eq n x.id) (eqb-true y.id id e) ∙ other in
    record {
      session = d.session;
      found =
          ap (λ (u : World). find_session x.id u.sessions) s.is
          ∙ find-change_first_other (has_id id) (has_id x.id) (state_set (λ was. s.state)) (λ y. refl) apart w.sessions
          ∙ d.found;
      picture = d.picture ∙ ap (λ (u : World). screen u d.session) (sym s.is);
      level = d.level;
      stands = subst (λ (u : World). AreStanding u.buffers x.shown x.drawn_texts) (sym s.is) d.stands;
    }

drawn_still : (id : ℕ) (w v : World) → IsStill id w v → (x : Screen) → IsDrawn w x → IsDrawn v x
drawn_still id w v s x d = by (nat_eq id x.id) refl
  where
    by : (b : Bool) → nat_eq id x.id ≡ b → IsDrawn v x
    by true e = drawn_there id w v x e s d
    by false e = drawn_other id w v x e s d

-- WHAT IS SERVED

pub served_still : (id : ℕ) (w v : World) (xs : List Screen) → IsStill id w v → sizes v ≡ sizes w → IsServed w xs → IsServed v xs
served_still id w v xs s same h = record {
  sizes_are = h.sizes_are ∙ sym same;
  unique = subst IsUnique (sym same) h.unique;
  each = h.each;
  drawn = All-weaker (IsDrawn w) (IsDrawn v) (drawn_still id w v s) xs h.drawn;
  on_time = h.on_time;
}

pub handles_still : (w v : Kept) (id byte : ℕ) (k : Keyed) (xs : List Screen) (es : List (ℕ × Cause)) → IsServed w.world xs → IsServed v.world xs → sameb the_type k keyed.Quit ≡ false → KeyedBy w.world v.world w.store v.store id byte k → sizes v.world ≡ sizes_keyed k id (sizes w.world) → v.world.next_id ≡ w.world.next_id
    → Handles (serving_of w xs es) (serving_of v xs es) id byte k
handles_still w v id byte k xs es h served not step size next =
    let old : Serving = serving_of w xs es in
    let new : Serving = serving_of v xs es in
    let none : slow_ids old v.world ≡ [] = none_slow old v.world xs served.sizes_are h.drawn served.drawn served.on_time in
    record {
      typed = new;
      step = step;
      sizes = size;
      next = next;
      queues = sym (ids_stay k id (queue_ids old) not);
      ended = sym (told_stay k id old not);
      slow = ap (λ ids. all_ended_by Slow ids new) (sym none);
      closes = ap (λ ids. run v.world (map (λ i. Close i) ids)) (sym none);
      quit = λ q. absurd (never_quit k not q);
      still = λ q. none;
      prompt = λ t. none;
    }

pub painted_still : (w v : Kept) (xs : List Screen) (es : List (ℕ × Cause)) → IsServed w.world xs → IsServed v.world xs → Painted (serving_of w xs es) (serving_of v xs es)
painted_still w v xs es h served = painted_same w v xs es es h.sizes_are h.drawn served.drawn

-- A byte that comes is kept where a macro is recorded, and is to be handled; or it is one too many for the macro.
use Rattle.std.proofs.Common.{◌≡◌, ℕ, ◌≤◌, ◌<◌, Bool, true, false, cond, List, [], ◌∷◌, get_or, length, Option, None, Some, refl, sym, ap, subst, ◌∙◌, arith}
use Rattle.std.specs.Prelude.{slice_get, slice_set}
use Rattle.std.specs.Vec.{with_items}
use Rattle.std.specs.List.{position_or_len}
use Rattle.mgs_model.specs.Access.{Directory}
use Rattle.mgs_model.specs.World.{State, World, Buffer, Session, Todo, find_session, has_id}
use Rattle.mgs_model.specs.Apply.{change_first, remove_first, is_search_mode}
use Rattle.mgs_model.specs.Events.{begun_if, begun_state, state_set, with_state}
use Rattle.mgs_model.specs.declared.echo_text.Message.TheVariants.{Says}
use Rattle.mgs_model.specs.declared.echo_text.Notice.TheVariants.{MacroTooLong}
use Rattle.mgs_model.specs.declared.session.Kind.TheVariants.{Other}
use Rattle.mgs_buffers.specs.MarkedBuffer.{MarkedBuffer}
use Rattle.mgs_session.specs.Playing.{byte_typed, stopped}
use Rattle.mgs_mini.specs.Recording.{appended, is_full, nothing_recorded}
use Rattle.mgs_session.specs.Sessions as held
use Rattle.mgs_session.specs.declared.Session as code
use Rattle.mgs_session.specs.declared.search.Aim.TheVariants.{Find, Replace}
use Rattle.mgs_session.specs.declared.search.Search.{Search}
use Rattle.mgs_mini.specs.Typing.{PromptInput}
use Rattle.mgs_world.specs.Sound.{IsSound, session_uses}
use Rattle.mgs_world.specs.Worlds.{aim_mode, buffers_of, mode_in, search_of, size_in, sizes_in, state_at, state_of, state_or_first, session_id, session_of, world_of}
use Rattle.mgs_world.proofs.Soundness.{sound_set, sizes_set}
use Rattle.mgs_core.specs.Calls.{closed}
use Rattle.mgs_core.specs.Turns.{has_all, weight}
use Rattle.mgs_core.specs.declared.world.World as server
use Rattle.mgs_laws.specs.Apart.{Apart}
use Rattle.mgs_laws.proofs.Apart.{apart_state}
use Rattle.mgs_model.specs.declared.touched.Touched.{Touched}
use Rattle.mgs_world.proofs.Sessions.{session_some}
use Rattle.mgs_core.proofs.Sizes.{place_same, within_still}
use Rattle.mgs_core.proofs.Lent.{lent}
use Rattle.mgs_core.proofs.Steps.{session_there, set_there, world_changed}

-- A WORLD IN WHICH WHAT A SESSION HOLDS CHANGED

removed_changed : {A : Type 0} (p : A → Bool) (f : A → A) → ((x : A) → p (f x) ≡ p x) → (xs : List A) → remove_first p (change_first p f xs) ≡ remove_first p xs
removed_changed p f same [] = refl
removed_changed {A = A} p f same (x ∷ xs) = by (removed_changed p f same xs) (p x) refl
  where
    by : remove_first p (change_first p f xs) ≡ remove_first p xs → (c : Bool) → p x ≡ c → remove_first p (cond c (f x ∷ xs) (x ∷ change_first p f xs)) ≡ cond c xs (x ∷ remove_first p xs)
    by later true e = ap (λ (b : Bool). cond b xs (f x ∷ remove_first p xs)) (same x ∙ e)
    by later false e = ap (λ (b : Bool). cond b (change_first p f xs) (x ∷ remove_first p (change_first p f xs))) e ∙ ap (λ (ys : List A). x ∷ ys) later

pub closed_state : (w : World) (id : ℕ) (f : State → State) → closed (with_state id f w) id ≡ closed w id
closed_state w id f = ap (λ (xs : List Session). let v : World = record w { sessions = xs } in v) (removed_changed (has_id id) (state_set f) (λ x. refl) w.sessions)

-- THE SESSION THAT A BYTE COMES TO

-- what it holds then
abbrev one_too_many : code.Session → code.Session
one_too_many x = held.playing_as (stopped x.state.player) (held.told (Says MacroTooLong) (held.acted Other (held.recording_as nothing_recorded x)))

abbrev keeps : ℕ → code.Session → code.Session
keeps byte x = held.playing_as (byte_typed byte x.state.player) (held.recording_as (appended byte x.state.recorder) x)

-- what is no part of that is as it was
pub begun_same : {A : Type 0} (f : code.Session → A) (byte : ℕ) (x y : code.Session) → f (one_too_many x) ≡ f x → f (keeps byte x) ≡ f x → y ≡ held.begun byte x → f y ≡ f x
begun_same f byte x y one other is = ap f is ∙ (elim (is_full x.state.recorder) as (λ c. f (cond c (one_too_many x) (keeps byte x)) ≡ f x) [ true ↦ one | false ↦ other ])

-- the positions of a search go with its mode
pub search_still : (bs : List Buffer) (s : Option Search) (p : Option PromptInput) → search_of bs s ≡ cond (is_search_mode (mode_in s p)) (search_of bs s) None
search_still bs None None = refl
search_still bs None (Some p) = refl
search_still bs (Some s) p = elim s.aim as (λ a. search_of bs (Some s) ≡ cond (is_search_mode (aim_mode a)) (search_of bs (Some s)) None) [ Find f ↦ refl | Replace r ↦ refl ]

-- ALL SESSIONS THEN

-- the one at the place begins, and all others stay
abbrev pub Begins : ℕ → ℕ → code.Session → List code.Session → List code.Session → Type 0
Begins byte at h xs ys = (h ≡ get_or xs at h) × (ys ≡ slice_set xs at (held.begun byte h))

-- what is so then: in the world, and of what there is to do, which is the byte or nothing
pub record IsBegun (d : Directory) (ks : List MarkedBuffer) (xs ys : List code.Session) (id at byte : ℕ) (h : code.Session) : Type 0 where
  pub begins : Begins byte at h xs ys
  pub sizes : sizes_in ys ≡ sizes_in xs
  pub place : at ≡ position_or_len (session_id id) ys
  pub within : at < length ys
  pub sound : IsSound ks xs → IsSound ks ys
  pub found : (next : Option ℕ) → find_session id (world_of d ks xs next).sessions ≡ Some (session_of ks h)
  pub world : (next : Option ℕ) → world_of d ks ys next ≡ with_state id (begun_state byte) (world_of d ks xs next)
  pub apart : (t : Touched) (next : Option ℕ) → Apart t id (world_of d ks xs next) (world_of d ks ys next)
  pub few : weight 0 (state_at at ys).todo ≤ 53689341958
  pub none : has_all (state_at at ys).todo ≡ false

module _ (d : Directory) (ks : List MarkedBuffer) (xs ys : List code.Session) (id at byte : ℕ) (h : code.Session) (place : at ≡ position_or_len (session_id id) xs) (within : at < length xs) (begins : Begins byte at h xs ys) where
  begun_world : (next : Option ℕ) → world_of d ks ys next ≡ with_state id (begun_state byte) (world_of d ks xs next)
  begun_world next =
      ap (λ (ss : List code.Session). world_of d ks ss next) begins.1
      ∙ world_changed (begun_state byte) d ks xs next id at h (held.begun byte h) place within begins.0 (by (is_full h.state.recorder))
    where
      by : (c : Bool) → session_of ks (cond c (one_too_many h) (keeps byte h)) ≡ state_set (begun_if c byte) (session_of ks h)
      by true = λ i. record (session_of ks h) { search = search_still (buffers_of ks) h.state.search h.state.prompt i; state = begun_if true byte (state_of h.state) }
      by false = λ i. record (session_of ks h) { search = search_still (buffers_of ks) h.state.search h.state.prompt i; state = begun_if false byte (state_of h.state) }

  begun_todo : (P : List Todo → Type 0) → P (one_too_many h).state.player.todo → P (keeps byte h).state.player.todo → P (state_at at ys).todo
  begun_todo P full room =
      subst P (sym (ap (λ (ss : List code.Session). (state_at at ss).todo) begins.1 ∙ ap (λ (o : Option code.Session). (state_or_first o).todo) (set_there xs at (held.begun byte h) within)))
      (elim (is_full h.state.recorder) as (λ c. P (cond c (one_too_many h) (keeps byte h)).state.player.todo) [ true ↦ full | false ↦ room ])

  begun_so : IsBegun d ks xs ys id at byte h
  begun_so =
      let same : sizes_in ys ≡ sizes_in xs = ap sizes_in begins.1 ∙ sizes_set xs at h (held.begun byte h) begins.0 (begun_same size_in byte h (held.begun byte h) refl refl refl) in
      record {
        begins = begins;
        sizes = same;
        place = place_same id at xs ys place same;
        within = within_still at xs ys within same;
        sound = λ s. subst (IsSound ks) (sym begins.1) (sound_set ks xs at h (held.begun byte h) begins.0 (λ n i. begun_same (session_uses n i) byte h (held.begun byte h) refl refl refl) s);
        found = λ next. session_some d ks xs next id at h place within begins.0;
        world = begun_world;
        apart = λ t next. subst (Apart t id (world_of d ks xs next)) (sym (begun_world next)) (apart_state t id (begun_state byte) (world_of d ks xs next));
        few = begun_todo (λ (todo : List Todo). weight 0 todo ≤ 53689341958) (omega arith) (omega arith);
        none = begun_todo (λ (todo : List Todo). has_all todo ≡ false) refl refl;
      }

-- where the sessions were lent by a vector
pub begun_there : {T : Type 0} (w : server.World T) (xs ys : List code.Session) (id at byte : ℕ) (h : code.Session) → at ≡ position_or_len (session_id id) w.sessions.items → at < length w.sessions.items → h ≡ get_or w.sessions.items at h → xs ≡ w.sessions.items → length ys ≡ w.sessions.len
    → ((x : code.Session) → slice_get xs at ≡ Some x → ys ≡ slice_set xs at (held.begun byte x)) → IsBegun w.directory w.buffers w.sessions.items (with_items w.sessions ys).items id at byte h
begun_there w xs ys id at byte h place within here is len begins =
    let there : h ≡ get_or xs at h = subst (λ (zs : List code.Session). h ≡ get_or zs at h) (sym is) here in
    begun_so w.directory w.buffers w.sessions.items (with_items w.sessions ys).items id at byte h place within
    (lent (Begins byte at h) w.sessions xs ys is len (there, begins h (session_there xs at h (subst (λ (zs : List code.Session). at < length zs) (sym is) within) there)))

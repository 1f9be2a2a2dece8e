-- A byte that goes on with a word changes nothing but what its session holds, and nothing of that that a screen shows.
use Rattle.std.proofs.Common.{◌≡◌, ℕ, zero, suc, ◌<◌, cond, List, [], ◌∷◌, length, get_or, Option, None, refl, sym, ap, subst, ◌∙◌, arith}
use Rattle.std.specs.Prelude.{slice_set}
use Rattle.std.specs.List.{position_or_len}
use Rattle.mgs_model.specs.Access.{Directory}
use Rattle.mgs_model.specs.World as model
use Rattle.mgs_model.specs.Apply.{is_search_mode}
use Rattle.mgs_model.specs.Events.{state_set}
use Rattle.mgs_model.specs.declared.session.Mode.{Mode}
use Rattle.mgs_model.specs.declared.session.Mode.TheVariants.{Plain}
use Rattle.mgs_buffers.specs.MarkedBuffer.{MarkedBuffer}
use Rattle.mgs_session.specs.Sessions as held
use Rattle.mgs_session.specs.declared.State.{State}
use Rattle.mgs_session.specs.declared.Session.{Session}
use Rattle.mgs_session.specs.declared.search.Search.{Search}
use Rattle.mgs_world.specs.Worlds.{buffers_of, input_in, mode_in, state_of, search_of, session_id, session_of, world_of}
use Rattle.mgs_world.proofs.Sessions.{session_some}
use Rattle.mgs_core.specs.AtPlace.{IsBare, StateAlone, state_put}
use Rattle.mgs_core.specs.Calls.{IsStill}
use Rattle.mgs_core.proofs.Ids.{same_some}
use Rattle.mgs_core.proofs.Begun.{Begins, begun_same}
use Rattle.mgs_core.proofs.Steps.{world_changed}

-- ONE SESSION HOLDS SOMETHING ELSE

-- a write of a session that is else as it was
pub written_put : (xs : List Session) (at : ℕ) (h y : Session) → h ≡ get_or xs at h → y ≡ record h { state = y.state } → slice_set xs at y ≡ state_put at y.state xs
written_put [] at h y is same = refl
written_put (x ∷ xs) zero h y is same = ap (λ (s : Session). s ∷ xs) (same ∙ ap (λ (s : Session). let z : Session = record s { state = y.state } in z) is)
written_put (x ∷ xs) (suc at) h y is same = ap (λ (ss : List Session). x ∷ ss) (written_put xs at h y is same)

put_twice : (at : ℕ) (o p : State) (xs : List Session) → state_put at p (state_put at o xs) ≡ state_put at p xs
put_twice at o p [] = refl
put_twice zero o p (x ∷ xs) = refl
put_twice (suc at) o p (x ∷ xs) = ap (λ (ss : List Session). x ∷ ss) (put_twice at o p xs)

put_none : (at : ℕ) (xs : List Session) → at < length xs → (o : State) × (xs ≡ state_put at o xs)
put_none at [] l = absurd (omega (arith, l))
put_none zero (x ∷ xs) l = (x.state, refl)
put_none (suc at) (x ∷ xs) l = let rest : (o : State) × (xs ≡ state_put at o xs) = put_none at xs (omega (arith, l)) in (rest.0, ap (λ (ss : List Session). x ∷ ss) rest.1)

got_put : (at : ℕ) (o : State) (xs : List Session) (d : Session) → at < length xs → (get_or (state_put at o xs) at d).state ≡ o
got_put at o [] d l = absurd (omega (arith, l))
got_put zero o (x ∷ xs) d l = refl
got_put (suc at) o (x ∷ xs) d l = got_put at o xs d (omega (arith, l))

-- nothing was done so far
pub alone_none : (at : ℕ) (ks : List MarkedBuffer) (xs : List Session) → at < length xs → StateAlone at ks ks xs xs
alone_none at ks xs l = let o : (o : State) × (xs ≡ state_put at o xs) = put_none at xs l in record { buffers = refl; state = o.0; is = o.1 }

-- a session was written that is else as it was
pub alone_written : (at : ℕ) (ks : List MarkedBuffer) (xs : List Session) (h y : Session) → h ≡ get_or xs at h → y ≡ record h { state = y.state } → StateAlone at ks ks xs (slice_set xs at y)
alone_written at ks xs h y is same = record { buffers = refl; state = y.state; is = written_put xs at h y is same }

pub alone_then : (at : ℕ) (ks ls ms : List MarkedBuffer) (xs ys zs : List Session) → StateAlone at ks ls xs ys → StateAlone at ls ms ys zs → StateAlone at ks ms xs zs
alone_then at ks ls ms xs ys zs a b = record { buffers = b.buffers ∙ a.buffers; state = b.state; is = b.is ∙ ap (state_put at b.state) a.is ∙ put_twice at a.state b.state xs }

-- what a byte begins with is what the session holds alone
pub alone_begun : (at : ℕ) (ks : List MarkedBuffer) (xs ys : List Session) (byte : ℕ) (h : Session) → Begins byte at h xs ys → StateAlone at ks ks xs ys
alone_begun at ks xs ys byte h begins =
    let y = held.begun byte h in
    subst (StateAlone at ks ks xs) (sym begins.1) (alone_written at ks xs h y begins.0 (begun_same (λ (s : Session). let z : Session = record s { state = y.state } in z) byte h y refl refl refl))

-- NOTHING OF IT IS SHOWN

plain : (o : State) → IsBare o → mode_in o.search o.prompt ≡ Plain
plain o s = ap (λ (f : Option Search). mode_in f o.prompt) s.search ∙ ap (mode_in None) s.prompt

no_input : (o : State) → IsBare o → input_in o.search o.prompt ≡ []
no_input o s = ap (λ (f : Option Search). input_in f o.prompt) s.search ∙ ap (input_in None) s.prompt

state_is : (ks : List MarkedBuffer) (h : Session) (o : State) → IsBare o → session_of ks (record h { state = o }) ≡ state_set (λ was. state_of o) (session_of ks h)
state_is ks h o s =
    let searched : Option model.Search = search_of (buffers_of ks) h.state.search in
    let positions : search_of (buffers_of ks) o.search ≡ cond (is_search_mode (mode_in o.search o.prompt)) searched None =
    ap (search_of (buffers_of ks)) s.search ∙ sym (ap (λ (a : Mode). cond (is_search_mode a) searched None) (plain o s)) in
    λ i. record (session_of ks h) { search = positions i; state = state_of o }

face_is : (ks : List MarkedBuffer) (h : Session) (o : State) → IsBare h.state → IsBare o → (x : model.Session) → session_of ks h ≡ x
    → ((state_of o).mode ≡ x.state.mode) × ((state_of o).input ≡ x.state.input) × ((state_of o).echo ≡ x.state.echo)
face_is ks h o was now x is = (
  plain o now ∙ sym (plain h.state was) ∙ ap (λ (y : model.Session). y.state.mode) is,
  no_input o now ∙ sym (no_input h.state was) ∙ ap (λ (y : model.Session). y.state.input) is,
  now.echo ∙ sym was.echo ∙ ap (λ (y : model.Session). y.state.echo) is,
)

-- it shows nothing again
pub still_again : (d : Directory) (ks ls : List MarkedBuffer) (xs zs : List Session) (next : Option ℕ) (id at : ℕ) (h z : Session) → at ≡ position_or_len (session_id id) xs → at < length xs → h ≡ get_or xs at h → StateAlone at ks ls xs zs → z ≡ get_or zs at z → IsBare h.state → IsBare z.state
    → IsStill id (world_of d ks xs next) (world_of d ls zs next)
still_again d ks ls xs zs next id at h z place within is a there was bare =
    let state : z.state ≡ a.state = ap (λ (s : Session). s.state) there ∙ ap (λ (ss : List Session). (get_or ss at z).state) a.is ∙ got_put at a.state xs z within in
    let now = subst IsBare state bare in
    let y : Session = record h { state = a.state } in
    record {
      state = state_of a.state;
      is =
          ap (λ (bs : List MarkedBuffer). world_of d bs zs next) a.buffers
          ∙ ap (λ (ss : List Session). world_of d ks ss next) (a.is ∙ sym (written_put xs at h y is refl))
          ∙ world_changed (λ old. state_of a.state) d ks xs next id at h y place within is (state_is ks h a.state now);
      face = λ x found. face_is ks h a.state was now x (same_some (session_of ks h) x (sym (session_some d ks xs next id at h place within is) ∙ found));
    }

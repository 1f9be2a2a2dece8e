-- Turn after turn of an event, and the event that they make.
use Rattle.std.proofs.Common.{◌≡◌, ℕ, zero, suc, ◌+◌, ◌≤◌, ◌<◌, Bool, true, false, List, map, [], ◌∷◌, ◌++◌, Option, Some, None, refl, sym, ap, subst, ◌∙◌, arith}
use Rattle.std.specs.Prelude.{not, ◌||◌}
use Rattle.std.specs.Option.{option_map}
use Rattle.mgs_model.specs.World.{World, Session, State, Todo, Played, Replace_all, Play, find_session}
use Rattle.mgs_model.specs.Outcome.{Act, Outcome, Run}
use Rattle.mgs_model.specs.Apply.{applied, outcome_in}
use Rattle.mgs_model.specs.declared.session.Command.TheVariants.{SaveBuffer}
use Rattle.mgs_model.specs.Acts.{allowed, judged, needs, outcome, permitted, without_all}
use Rattle.mgs_model.specs.Turns.{todo_turn}
use Rattle.mgs_model.specs.View.{View, view, view_of}
use Rattle.mgs_model.specs.Events.{begun_state, effect_in, most_turns, rests, settled, turn_in, with_state}
use Rattle.mgs_laws.specs.Refusals.{may_be_refused}
use Rattle.mgs_model.specs.declared.errors.Keyed.{Keyed}
use Rattle.mgs_model.specs.declared.errors.Keyed.TheVariants.{Done, Short}
use Rattle.mgs_model.specs.declared.errors.Keyed.TheVariants as keyed
use Rattle.mgs_core.proofs.Led.{Leads, LeadsOnce, acts_on, leads_kept, leads_nowhere, leads_on, leads_once, memory_behind}
use Rattle.mgs_laws.proofs.Turned.{turn_todo}
use Rattle.mgs_core.proofs.Played.{played_alike}
use Rattle.mgs_core.proofs.Bytes.{act_short, reports_done, reports_short, step_done, step_short}
use Rattle.mgs_store.specs.Stores.{IsCounted}
use Rattle.mgs_births.specs.Reports.{Report, Did, act_refusals, act_reports}
use Rattle.mgs_births.specs.Telling.{StoreTold, Tells}
use Rattle.mgs_births.proofs.Tells.{tells_none, tells_twice}
use Rattle.mgs_session.specs.Playing.{is_nothing}
use Rattle.mgs_core.specs.Turns.{EventBy, IsLess, IsTurnDone, IsWithin, TurnDone, TurnEnds, TurnRefused, TurnedBy, asks, goes_on, has_all, is_played, turn_to, weight}
use Rattle.mgs_core.proofs.Steps.{not_found}
use Rattle.mgs_world.proofs.Marks.{not_both}
use Rattle.mgs_world.proofs.Killed.{not_true, not_false}

-- WHAT IS LEFT

-- no more is left without the replacing of all
pub without_weight : (n : ℕ) (todo : List Todo) → weight n (without_all todo) ≤ weight n todo
without_weight n (Play ∷ todo) = let less = without_weight n todo in omega (arith, less)
without_weight n _ = omega arith

without_played : (todo : List Todo) → is_played (without_all todo) ≡ is_played todo
without_played (Play ∷ todo) = without_played todo
without_played _ = refl

-- where no further replacements are to be done, it matters not how much is left of a text; and else never more than all of it
pub none_weight : (m n : ℕ) (todo : List Todo) → has_all todo ≡ false → weight m todo ≡ weight n todo
none_weight m n [] h = refl
none_weight m n (Replace_all ∷ todo) h = cc
none_weight m n (_ ∷ todo) h = let later = none_weight m n todo h in omega (arith, later)

pub more_weight : (m n : ℕ) (todo : List Todo) → m ≤ n → weight m todo ≤ weight n todo
more_weight m n [] h = omega arith
more_weight m n (Replace_all ∷ todo) h = let later = more_weight m n todo h in omega (arith, h, later)
more_weight m n (_ ∷ todo) h = let later = more_weight m n todo h in omega (arith, later)

-- a further replacement leaves less
pub all_weight : (m n : ℕ) (todo : List Todo) → has_all todo ≡ true → n < m → weight n todo < weight m todo
all_weight m n [] h less = cc
all_weight m n (Replace_all ∷ todo) h less = let later = more_weight n m todo (omega (arith, less)) in omega (arith, less, later)
all_weight m n (_ ∷ todo) h less = let later = all_weight m n todo h less in omega (arith, later)

pub without_within : (n : ℕ) (todo : List Todo) → IsWithin n todo → IsWithin n (without_all todo)
without_within n (Replace_all ∷ todo) h = (omega (arith, h.0), h.1)
without_within n (Played byte ∷ todo) h = h
without_within n (Play ∷ todo) h = (let less = without_weight 1048576 todo in omega (arith, h.0, less), without_played todo ∙ h.1)
without_within n _ h = h

-- AN EVENT SO FAR: so many turns, which lead from its start to the world as it is, with this answer of the store
pub record SoFar (id used : ℕ) (stored : Bool) (start now : World) (before after : StoreTold) : Type 0 where
  pub reports : List Report
  pub leads : Leads id stored used reports start now
  pub fault : stored ≡ false → IsCounted before.failed after.failed
  pub tells : Tells reports before after
  -- no act asked it for anything
  pub still : leads.acts ≡ 0 → after ≡ before

pub at_start : (id : ℕ) (w : World) (t : StoreTold) → SoFar id 0 true w w t t
at_start id w t = record {
  reports = [];
  leads = leads_nowhere id true w;
  fault = λ e. cc;
  tells = tells_none t;
  still = λ e. refl;
}

some_act : (n : ℕ) {X : Type 0} → n ≡ 1 → n ≡ 0 → X
some_act zero one none = cc
some_act (suc n) one none = cc

-- where the store has refused nothing, and one more turn leads on, of which this is told
more : (id used : ℕ) (start now new : World) (before mid after : StoreTold) (es : List Report) → SoFar id used true start now before mid → (on : Leads id true 1 es now new) → Tells es mid after → (on.acts ≡ 0 → after ≡ mid) → SoFar id (used + 1) true start new before after
more id used start now new before mid after es s on told still = record {
  reports = s.reports ++ es;
  leads = leads_on id true used 1 s.reports es start now new s.leads on;
  fault = λ e. cc;
  tells = tells_twice s.reports es before mid after s.tells told;
  still = λ e.
      let none : s.leads.acts + on.acts ≡ 0 = sym (acts_on id true used 1 s.reports es start now new s.leads on) ∙ e in
      still (omega arith) ∙ s.still (omega arith);
}

-- nothing is told of a turn that changes its session's state alone
kept_told : (s t : StoreTold) → t ≡ s → Tells [] s t
kept_told s t same = subst (λ (u : StoreTold). Tells [] s u) (sym same) (tells_none s)

-- an act that saves nothing is the same for any answer of the store
unasked_alike : (v : View) (c : Act) (s t : Bool) → asks c ≡ false → allowed v c s ≡ allowed v c t
unasked_alike v (Run SaveBuffer n typed) s t h = cc
unasked_alike v _ s t h = refl

unasked_act : (w : World) (id : ℕ) (c : Act) (s t : Bool) → asks c ≡ false → outcome_in w id c s ≡ outcome_in w id c t
unfolding outcome
unasked_act w id c s t h = elim (view_of w id) as (λ o. option_map (λ (v : View). outcome v c s) o ≡ option_map (λ (v : View). outcome v c t) o) [
  | None ↦ refl
  | Some v ↦ ap (λ (o : Outcome). Some (permitted v.session.state (judged v (needs v c)) o)) (unasked_alike v c s t h)
]

-- a macro plays, or it is no save
quiet_by : {X : Type 0} (plays saves : Bool) → (plays || not saves) ≡ true → (plays ≡ true → X) → (saves ≡ false → X) → X
quiet_by true saves h f g = f refl
quiet_by false true h f g = cc
quiet_by false false h f g = g refl

more_by : (id used : ℕ) (left : List Todo) (start now new : World) (before mid after : StoreTold) (x : Session) → SoFar id used true start now before mid → find_session id now.sessions ≡ Some x → (state : State) (o : Option Act) → turn_in now id ≡ turn_to state o → IsTurnDone true left state o now new mid after id → SoFar id (used + 1) true start new before after
more_by id used left start now new before mid after x s found state None turn done =
    more id used start now new before mid after [] s (leads_kept id true now new state turn done.0) (kept_told mid after done.1) (λ e. done.1)
more_by id used left start now new before mid after x s found state (Some c) turn done =
    let did = done.2 in
    let w : World = with_state id (λ was. state) now in
    let alike : outcome_in w id c did.stored ≡ outcome_in w id c true =
    quiet_by state.playing (asks c) (done.0 refl) (λ e. played_alike now id state x found e c did.stored true) (λ f. unasked_act w id c did.stored true f) in
    let once : LeadsOnce id true (act_reports w id c did.stored) now new =
    subst (λ (es : List Report). LeadsOnce id true es now new) (ap (λ o. map Did (effect_in o) ++ act_refusals w id c) (sym alike)) (leads_once id true now new state c turn (did.world ∙ ap (applied w id) alike)) in
    more id used start now new before mid after (act_reports w id c did.stored) s once.0 did.tells (λ e. some_act once.0.acts once.1 e)

-- a turn of what a macro plays
pub next_turn : (id used : ℕ) (left : List Todo) (start now new : World) (before mid after : StoreTold) (x : Session) → SoFar id used true start now before mid → find_session id now.sessions ≡ Some x → TurnDone true left now new mid after id → SoFar id (used + 1) true start new before after
next_turn id used left start now new before mid after x s found t = more_by id used left start now new before mid after x s found t.state t.act t.turn t.done

-- UNTIL NOTHING IS LEFT, or memory was refused, or the session ends

-- it goes on: this is left
pub record GoesOn (id : ℕ) (start now : World) (before after : StoreTold) (n : ℕ) (todo : List Todo) : Type 0 where
  pub used : ℕ
  pub stored : Bool
  pub so_far : SoFar id used stored start now before after
  pub within : used + weight n todo ≤ 53689341958
  pub rest : (todo ≡ [] → ⊥) → stored ≡ true
  pub first : is_played todo ≡ false → (used ≡ 0) × (now ≡ start) × (after ≡ before)

-- memory was refused to the next act
pub record BrokeOff (id : ℕ) (start now : World) (before after : StoreTold) : Type 0 where
  pub used : ℕ
  pub last : World
  pub mid : StoreTold
  pub session : Session
  pub so_far : SoFar id used true start last before mid
  pub within : used < 53689341958
  pub found : find_session id last.sessions ≡ Some session
  pub refused : TurnRefused last now mid after id

abbrev pub EventSoFar : ℕ → World → World → StoreTold → StoreTold → ℕ → List Todo → Keyed → Type 0
EventSoFar id start now before after n todo keyed.Done = GoesOn id start now before after n todo
EventSoFar id start now before after n todo keyed.Short = BrokeOff id start now before after
EventSoFar id start now before after n todo keyed.Quit = TurnEnds false start now before after id
EventSoFar id start now before after n todo keyed.NoSession = ⊥

pub starts : (id : ℕ) (w : World) (t : StoreTold) (n : ℕ) (todo : List Todo) → weight n todo ≤ 53689341958 → GoesOn id w w t t n todo
starts id w t n todo within = record {
  used = 0;
  stored = true;
  so_far = at_start id w t;
  within = omega (arith, within);
  rest = λ h. refl;
  first = λ h. (refl, refl, refl);
}

pub some_left : (n : ℕ) (todo : List Todo) → (todo ≡ [] → ⊥) → 0 < weight n todo
some_left n [] h = absurd (h refl)
some_left n (Play ∷ todo) h = omega arith
some_left n _ h = omega arith

-- the first turn of all
began_by : (id : ℕ) (start new : World) (before after : StoreTold) (n : ℕ) (todo left : List Todo) → 1 + weight n left ≤ 53689341958 → is_played left ≡ true → (state : State) (o : Option Act) → turn_in start id ≡ turn_to state o → IsTurnDone false left state o start new before after id → GoesOn id start new before after n left
began_by id start new before after n todo left within played state None turn done = record {
  used = 1;
  stored = true;
  so_far = more id 0 start start new before before after [] (at_start id start before) (leads_kept id true start new state turn done.0) (kept_told before after done.1) (λ e. done.1);
  within = within;
  rest = λ h. refl;
  first = λ e. not_both (is_played left) played e;
}
began_by id start new before after n todo left within played state (Some c) turn done =
    let did = done.2 in
    let once = leads_once id did.stored start new state c turn did.world in
    record {
      used = 1;
      stored = did.stored;
      so_far = record { reports = act_reports (with_state id (λ was. state) start) id c did.stored; leads = once.0; fault = did.fault; tells = did.tells; still = λ e. some_act once.0.acts once.1 e };
      within = within;
      rest = λ h. absurd (h (done.1 refl));
      first = λ e. not_both (is_played left) played e;
    }

-- one turn more
module _ (id : ℕ) (start now new : World) (before mid after : StoreTold) (m n : ℕ) (todo left : List Todo) (x : Session) (g : GoesOn id start now before mid m todo) (some : todo ≡ [] → ⊥) (found : find_session id now.sessions ≡ Some x) where
  refused_nothing : SoFar id g.used true start now before mid
  refused_nothing = subst (λ (b : Bool). SoFar id g.used b start now before mid) (g.rest some) g.so_far

  went_on : (b : Bool) → is_played todo ≡ b → IsLess m n todo left → TurnDone b left now new mid after id → GoesOn id start new before after n left
  went_on true e less t = record {
    used = g.used + 1;
    stored = true;
    so_far = next_turn id g.used left start now new before mid after x refused_nothing found t;
    within = omega (arith, g.within, less.0);
    rest = λ h. refl;
    first = λ f. not_both (is_played left) less.1 f;
  }
  went_on false e less t =
      let first = g.first e in
      let of_start : TurnDone false left start new before after id = subst (λ (w : World). TurnDone false left w new before after id) first.1 (subst (λ (s : StoreTold). TurnDone false left now new s after id) first.2 t) in
      began_by id start new before after n todo left (omega (arith, g.within, less.0)) less.1 of_start.state of_start.act of_start.turn of_start.done

  pub one_more : (k : Keyed) → TurnedBy (is_played todo) left now new mid after id k → (k ≡ Done → IsLess m n todo left) → EventSoFar id start new before after n left k
  one_more keyed.Done t less = went_on (is_played todo) refl (less refl) t
  one_more keyed.Short t less = record {
    used = g.used;
    last = now;
    mid = mid;
    session = x;
    so_far = refused_nothing;
    within = omega (arith, g.within, some_left m todo some);
    found = found;
    refused = t;
  }
  one_more keyed.Quit t less =
      let first = g.first t.typed in
      rw (first.1, first.2, t.typed) at t
  one_more keyed.NoSession t less = t

-- and then: nothing more is to be done, or memory is refused to the next act
pub within_most : (n : ℕ) → n ≤ 53689341958 → n ≤ most_turns
unfolding most_turns
within_most n h = omega (arith, h)

pub event_over : (id : ℕ) (start now : World) (before after : StoreTold) (n : ℕ) (todo : List Todo) (x : Session) → find_session id now.sessions ≡ Some x → x.state.todo ≡ todo → (k : Keyed) → (k ≡ Done → todo ≡ []) → EventSoFar id start now before after n todo k → EventBy id start now before after k
event_over id start now before after n todo x found is keyed.Done none g = λ w byte here there begins.
    let s : SoFar id g.used g.stored (with_state id (begun_state byte) w) now before after = subst (λ (v : World). SoFar id g.used g.stored v now before after) begins g.so_far in
    let within : g.used ≤ most_turns = within_most g.used (omega (arith, g.within)) in
    let stops = ap rests (turn_todo now id x found) ∙ ap (λ (todo : List Todo). rests (todo_turn (view now x) x.state todo)) (is ∙ none refl) in
    record {
      stored = g.stored;
      stop = None;
      step = sym (step_done w now id byte g.stored g.used s.reports here s.leads within stops);
      short = (λ e. cc, λ e. cc);
      no_session = (λ e. cc, λ e. not_found (find_session id w.sessions) here e);
      quit = (λ e. cc, λ e. not_found (find_session id (settled now).sessions) there e.1);
      may = λ e. cc;
      fault = s.fault;
      tells = subst (λ (es : List Report). Tells es before after) (sym (reports_done w now id byte g.stored g.used s.reports here s.leads within stops)) s.tells;
      unasked = λ e. cc;
    }
event_over id start now before after n todo x found is keyed.Short none b = λ w byte here there begins.
    let s : SoFar id b.used true (with_state id (begun_state byte) w) b.last before b.mid = subst (λ (v : World). SoFar id b.used true v b.last before b.mid) begins b.so_far in
    let within : b.used < most_turns = within_most (suc b.used) b.within in
    let t = b.refused in
    record {
      stored = true;
      stop = memory_behind s.leads.acts (Some 0);
      step = ap settled t.told ∙ sym (step_short w b.last id byte true b.used s.reports here s.leads within t.state t.act b.session b.found t.turn);
      short = (λ e. refl, λ e. refl);
      no_session = (λ e. cc, λ e. not_found (find_session id w.sessions) here e);
      quit = (λ e. cc, λ e. not_found (find_session id (settled now).sessions) there e.1);
      may = λ e. ap may_be_refused (act_short w b.last id byte true b.used s.reports here s.leads within t.state t.act b.session b.found t.turn) ∙ t.may;
      fault = λ e. cc;
      tells =
          subst (λ (es : List Report). Tells es before after) (sym (reports_short w b.last id byte true b.used s.reports here s.leads within t.state t.act b.session b.found t.turn))
          (subst (λ (u : StoreTold). Tells s.reports before u) (sym t.left) s.tells);
      unasked = λ e. (let none : s.leads.acts + 0 ≡ 0 = cc in t.left ∙ s.still (omega (arith, none)));
    }
event_over id start now before after n todo x found is _ none t = t

-- whether nothing is left
pub nothing_left : (todo : List Todo) → is_nothing todo ≡ true → todo ≡ []
nothing_left [] h = refl
nothing_left (x ∷ todo) h = cc

pub something_left : (todo : List Todo) → is_nothing todo ≡ false → todo ≡ [] → ⊥
something_left [] h e = cc
something_left (x ∷ todo) h e = cc

-- it goes on by one turn, after which less is left to do
pub event_next : (id : ℕ) (start now new : World) (before mid after : StoreTold) (m n : ℕ) (todo left : List Todo) (x : Session) → find_session id now.sessions ≡ Some x → (k l : Keyed) → goes_on k todo ≡ true → EventSoFar id start now before mid m todo k → TurnedBy (is_played todo) left now new mid after id l → (l ≡ Done → IsLess m n todo left) → EventSoFar id start new before after n left l
event_next id start now new before mid after m n todo left x found keyed.Done l on so t less =
    one_more id start now new before mid after m n todo left x so (something_left todo (not_true (is_nothing todo) on)) found l t less
event_next id start now new before mid after m n todo left x found _ l on so t less = cc

pub none_on : (k : Keyed) (todo : List Todo) → goes_on k todo ≡ false → k ≡ Done → todo ≡ []
none_on keyed.Done todo off e = nothing_left todo (not_false (is_nothing todo) off)
none_on _ todo off e = cc

-- WHERE FURTHER REPLACEMENTS GO ON: all that was to be done is left, or none of them and less

pub without_same : (todo : List Todo) → has_all todo ≡ false → without_all todo ≡ todo
without_same (Replace_all ∷ todo) h = cc
without_same (Play ∷ todo) h = ap (λ (more : List Todo). Play ∷ more) (without_same todo h)
without_same _ h = refl

-- none is left without them
rest_less : (m : ℕ) (todo : List Todo) → has_all todo ≡ true → has_all (without_all todo) ≡ false → weight m (without_all todo) < weight m todo
rest_less m [] h e = cc
rest_less m (Replace_all ∷ todo) h e = omega arith
rest_less m (Play ∷ todo) h e = let later = rest_less m todo h e in omega (arith, later)
rest_less m (_ ∷ todo) h e = not_both (has_all todo) h e

pub record AllLeft (m : ℕ) (old todo : List Todo) : Type 0 where
  pub kept : has_all todo ≡ true → todo ≡ old
  pub less : has_all todo ≡ false → weight m todo < weight m old
  pub played : is_played todo ≡ true

pub all_none : (m : ℕ) (old : List Todo) → has_all old ≡ true → AllLeft m old []
all_none m old h = record { kept = λ e. cc; less = λ e. some_left m old (λ none. not_both (has_all old) h (ap has_all none)); played = refl }

pub all_same : (m : ℕ) (old : List Todo) → has_all old ≡ true → is_played old ≡ true → AllLeft m old old
all_same m old h played = record { kept = λ e. refl; less = λ e. not_both (has_all old) h e; played = played }

pub all_without : (m : ℕ) (old : List Todo) → has_all old ≡ true → has_all (without_all old) ≡ false → (todo : List Todo) → AllLeft m old todo → AllLeft m old (without_all todo)
all_without m old h rest todo l = by (has_all todo) refl
  where
    by : (b : Bool) → has_all todo ≡ b → AllLeft m old (without_all todo)
    by true e =
        let same = l.kept e in
        subst (λ (ts : List Todo). AllLeft m old (without_all ts)) (sym same) (record { kept = λ e. not_both (has_all (without_all old)) e rest; less = λ e. rest_less m old h rest; played = without_played old ∙ ap is_played (sym same) ∙ l.played })
    by false e = subst (AllLeft m old) (sym (without_same todo e)) l

pub all_less : (m n : ℕ) (old todo : List Todo) → has_all old ≡ true → AllLeft m old todo → (has_all todo ≡ true → n < m) → IsLess m n old todo
all_less m n old todo h l further = by (has_all todo) refl
  where
    by : (b : Bool) → has_all todo ≡ b → IsLess m n old todo
    by true e = (subst (λ (ts : List Todo). weight n ts < weight m old) (sym (l.kept e)) (all_weight m n old h (further e)), l.played)
    by false e = (let less = l.less e in let alike = none_weight m n todo e in omega (arith, less, alike), l.played)

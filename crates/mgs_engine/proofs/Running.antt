-- What the calls of connections do to the world of an engine.
use Rattle.std.proofs.Common.{◌≡◌, ℕ, List, [], ◌∷◌, ◌++◌, map, Result, Ok, Err, refl, sym, ap, ◌∙◌, subst}
use Rattle.mgs_model.specs.Events.{Event, run}
use Rattle.mgs_model.specs.Events as model
use Rattle.mgs_model.specs.World.{World}
use Rattle.mgs_model.specs.declared.errors.Keyed.{Keyed}
use Rattle.mgs_model.specs.declared.errors.OpenFault.{OpenFault}
use Rattle.mgs_births.specs.Reports.{run_reports}
use Rattle.mgs_births.specs.Telling.{StoreTold, Tells}
use Rattle.mgs_wire.specs.Calls.{AreMade, Call, Open, Refuse, Byte, Close, Took}
use Rattle.mgs_engine.specs.declared.session_end.Cause.TheVariants.{Slow}
use Rattle.mgs_engine.specs.declared.tape.Answer.{Answer}
use Rattle.mgs_engine.specs.declared.tape.Answer.TheVariants as answers
use Rattle.mgs_engine.specs.Does.{Does}
use Rattle.mgs_engine.specs.Drives.{Asked, Opens, Types, Closes, Takes}
use Rattle.mgs_engine.specs.Driven.{HasEvents}
use Rattle.mgs_engine.specs.Handled.{Handles}
use Rattle.mgs_engine.specs.Serving.{Serving}
use Rattle.mgs_engine.specs.Slow.{slow_ids}
use Rattle.mgs_engine.proofs.RunLemmas.{run-append, stays_told, store_left, told_behind, told_first}
use Rattle.mgs_engine.specs.Running.{HasTold, Ran, RanBy, answers_of, asked_by}

-- the events of one call
record Came (old : Serving) (asked : Asked) (answer : Answer) (new : Serving) : Type 0 where
  events : List Event
  has : HasEvents old asked answer new events
  world : new.world ≡ run old.world events
  tells : Tells (run_reports old.world events) old.store new.store

came_open : (old new : Serving) (user : List ℕ) (rows cols : ℕ) (a : Result ℕ OpenFault) → Does old (Open user rows cols a) new → Came old (Opens user rows cols) (answers.Open a) new
came_open old new user rows cols (Ok id) d = record {
  events = model.Open id user rows cols ∷ [];
  has = (d, refl);
  world = d.0.ok.2;
  tells = stays_told old.store new.store d.0.store;
}
came_open old new user rows cols (Err fault) d = record {
  events = [];
  has = (d, refl);
  world = ap (λ (s : Serving). s.world) d.0.err;
  tells = stays_told old.store new.store (ap (λ (s : Serving). s.store) d.0.err);
}

came_byte : (old new : Serving) (id byte : ℕ) (a : Keyed) → Does old (Byte id byte a) new → Came old (Types id byte) (answers.Byte a) new
came_byte old new id byte a d =
    let h : Handles old new id byte a = d.0 in
    let ids : List ℕ = slow_ids old h.typed.world in
    let slow : List Event = map (λ i. model.Close i) ids in
    record {
      events = model.Byte id byte h.step.stored h.step.stop ∷ slow;
      has = (d, refl);
      world = h.closes ∙ ap (λ (w : World). run w slow) h.step.step;
      tells =
          told_first old.world (model.Byte id byte h.step.stored h.step.stop) ids old.store h.typed.store new.store
          (ap (λ (s : Serving). s.store) h.slow ∙ store_left Slow ids h.typed)
          h.step.tells;
    }

came_close : (old new : Serving) (id : ℕ) → Does old (Close id) new → Came old (Closes id) answers.Close new
came_close old new id d = record {
  events = model.Close id ∷ [];
  has = (d, refl);
  world = d.2;
  tells = stays_told old.store new.store (ap (λ (s : Serving). s.store) d.0);
}

came_took : (old new : Serving) (id n : ℕ) → Does old (Took id n) new → Came old (Takes id n) (answers.Took n) new
came_took old new id n d = record {
  events = [];
  has = (d, refl);
  world = ap (λ (s : Serving). s.world) d;
  tells = stays_told old.store new.store (ap (λ (s : Serving). s.store) d);
}

-- and those of the ones behind it
ran_then : (old mid new : Serving) (asked : Asked) (answer : Answer) (all : List Asked) (answered : List Answer) → Came old asked answer mid → RanBy mid all answered new new
    → RanBy old (asked ∷ all) (answer ∷ answered) new new
ran_then old mid new asked answer all answered first rest = record {
  events = first.events ++ rest.events;
  each = (mid, first.events, rest.events, first.has, rest.each, refl);
  world = rest.world ∙ ap (λ (w : World). run w rest.events) first.world ∙ sym (run-append old.world first.events rest.events);
  tells = told_behind old.world mid.world first.events rest.events old.store mid.store new.store first.world first.tells rest.tells;
}

-- those of all
ran : (old new : Serving) (cs : List Call) → AreMade Does old cs new → Ran old cs new new
ran old new [] h = record {
  events = [];
  each = (refl, h);
  world = ap (λ (s : Serving). s.world) h;
  tells = stays_told old.store new.store (ap (λ (s : Serving). s.store) h);
}
ran old new (Open user rows cols a ∷ cs) h =
    ran_then old h.0 new (Opens user rows cols) (answers.Open a) (asked_by cs) (answers_of cs) (came_open old h.0 user rows cols a h.1) (ran h.0 new cs h.2)
ran old new (Refuse name cause ∷ cs) h = subst (λ (s : Serving). Ran s cs new new) h.1 (ran h.0 new cs h.2)
ran old new (Byte id byte a ∷ cs) h =
    ran_then old h.0 new (Types id byte) (answers.Byte a) (asked_by cs) (answers_of cs) (came_byte old h.0 id byte a h.1) (ran h.0 new cs h.2)
ran old new (Close id ∷ cs) h = ran_then old h.0 new (Closes id) answers.Close (asked_by cs) (answers_of cs) (came_close old h.0 id h.1) (ran h.0 new cs h.2)
ran old new (Took id n ∷ cs) h = ran_then old h.0 new (Takes id n) (answers.Took n) (asked_by cs) (answers_of cs) (came_took old h.0 id n h.1) (ran h.0 new cs h.2)

-- and then each that ended was told
pub has_run : (served new : Serving) → HasTold served new → (first : Serving) (calls : List Call) → AreMade Does first calls served → Ran first calls served new
has_run served new told first calls made =
    let r : Ran first calls served served = ran first served calls made in
    record {
      events = r.events;
      each = r.each;
      world = ap (λ (s : Serving). s.world) told ∙ r.world;
      tells = subst (λ (t : StoreTold). Tells (run_reports first.world r.events) first.store t) (sym (ap (λ (s : Serving). s.store) told)) r.tells;
    }

-- TELLING: there is one less to be told, until none is left

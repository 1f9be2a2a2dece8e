-- A call over one tape is the same call over another one, which gets the deeds of the call too.
use Rattle.std.proofs.Common.{◌≡◌, ◌⊎◌, inl, inr, ℕ, Bool, true, false, cond, List, [], ◌∷◌, ◌++◌, length, Option, None, Some, Result, Ok, Err, refl, sym, ap, ◌∙◌}
use Rattle.std.specs.Prelude.{nat_lt}
use Rattle.mgs_model.specs.Events as model
use Rattle.mgs_model.specs.Outcome.{SetList, SetOwners, Create, Kill, Save}
use Rattle.mgs_model.specs.declared.errors.Keyed.{Keyed}
use Rattle.mgs_model.specs.declared.errors.Keyed.TheVariants as keyed
use Rattle.mgs_model.specs.declared.errors.OpenFault.{OpenFault}
use Rattle.mgs_births.specs.Reports.{Report, Did, Refused, event_reports}
use Rattle.mgs_births.specs.Tapes.{Tape, deeds_with, tape_after, tape_told, tape_with}
use Rattle.mgs_births.specs.Telling.{StoreTold}
use Rattle.mgs_births.specs.declared.deed.Deed.{Deed}
use Rattle.mgs_births.specs.declared.deed.Deed.TheVariants as deeds
use Rattle.mgs_wire.specs.Calls.{Call, Open, Refuse, Byte, Close, Took}
use Rattle.mgs_engine.specs.Does.{Does}
use Rattle.mgs_engine.specs.Painted.{Painted}
use Rattle.mgs_engine.specs.Serving.{Serving, all_ended_by, ended_by, ended_keyed}
use Rattle.mgs_engine.specs.Slow.{slow_ids}
use Rattle.mgs_engine.specs.declared.session_end.Cause.TheVariants as causes
use Rattle.mgs_keep.specs.Keeping.{DoesCleared, cleared, with_tape}

-- TAPES: reports that left no deed on one leave none on another

abbrev is_blank : Option (List Deed) → Bool
is_blank (Some []) = true
is_blank _ = false

-- a report is a deed or none, whatever the tape
told_kind : (r : Report) → ((t : Tape) → tape_told r t ≡ t) ⊎ ((d : Deed) × ((t : Tape) → tape_told r t ≡ tape_with d t))
told_kind (Did (SetList name entries)) = inr (deeds.ListSet name entries, λ t. refl)
told_kind (Did (SetOwners name new)) = inr (deeds.OwnersSet name new, λ t. refl)
told_kind (Did (Create name owner)) = inr (deeds.Created name owner, λ t. refl)
told_kind (Did (Kill name)) = inr (deeds.Killed name, λ t. refl)
told_kind (Did (Save name text)) = inr (deeds.Saved name, λ t. refl)
told_kind (Did _) = inl (λ t. refl)
told_kind (Refused buffer d) = inr (deeds.Denied buffer d, λ t. refl)

some_with : (b : Bool) (d : Deed) (ds : List Deed) → is_blank (cond b (Some (ds ++ d ∷ [])) None) ≡ false
some_with true d [] = refl
some_with true d (e ∷ es) = refl
some_with false d ds = refl

with_some : (room : ℕ) (d : Deed) (o : Option (List Deed)) → is_blank (deeds_with room d o) ≡ false
with_some room d None = refl
with_some room d (Some ds) = some_with (nat_lt (length ds) room) d ds

after_some : (rs : List Report) (t : Tape) → is_blank t.deeds ≡ false → is_blank (tape_after rs t).deeds ≡ false
after_some [] t e = e
after_some (r ∷ rs) t e = after_some rs (tape_told r t) (by (told_kind r))
  where
    by : ((x : Tape) → tape_told r x ≡ x) ⊎ ((d : Deed) × ((x : Tape) → tape_told r x ≡ tape_with d x)) → is_blank (tape_told r t).deeds ≡ false
    by (inl same) = ap (λ (u : Tape). is_blank u.deeds) (same t) ∙ e
    by (inr w) = ap (λ (u : Tape). is_blank u.deeds) (w.1 t) ∙ with_some t.room w.0 t.deeds

differ : (b : Bool) → b ≡ false → b ≡ true → ⊥
differ true p q = cc
differ false p q = cc

still : (rs : List Report) (t x : Tape) → is_blank (tape_after rs t).deeds ≡ true → tape_after rs x ≡ x
still [] t x e = refl
still (r ∷ rs) t x e = still rs (tape_told r t) (tape_told r x) e ∙ by (told_kind r)
  where
    by : ((y : Tape) → tape_told r y ≡ y) ⊎ ((d : Deed) × ((y : Tape) → tape_told r y ≡ tape_with d y)) → tape_told r x ≡ x
    by (inl same) = same x
    by (inr w) = absurd (differ (is_blank (tape_after rs (tape_told r t)).deeds) (after_some rs (tape_told r t) (ap (λ (u : Tape). is_blank u.deeds) (w.1 t) ∙ with_some t.room w.0 t.deeds)) e)

-- CALLS

painted_over : (s t : Serving) (x y : Tape) → Painted s t → Painted (with_tape x s) (with_tape y t)
painted_over s t x y p id a b u v = let q = p id a b u v in record { bytes = q.bytes; appended = q.appended; draws = q.draws; quiet = q.quiet; bound = q.bound }

ended_over : (ids : List ℕ) (s : Serving) (y : Tape) → with_tape y (all_ended_by causes.Slow ids s) ≡ all_ended_by causes.Slow ids (with_tape y s)
ended_over [] s y = refl
ended_over (id ∷ ids) s y = ended_over ids (ended_by causes.Slow id s) y

keyed_over : (answer : Keyed) (id : ℕ) (s : Serving) (x y : Tape) → ended_keyed answer id (with_tape x s) ≡ ended_keyed answer id (with_tape y s)
keyed_over keyed.Quit id s x y = refl
keyed_over _ id s x y = refl

retaped_open : (s t : Serving) (user : List ℕ) (rows cols : ℕ) (answer : Result ℕ OpenFault) → Does s (Open user rows cols answer) t → (x : Tape) → Does (with_tape x s) (Open user rows cols answer) (with_tape x t)
retaped_open s t user rows cols (Ok id) d x = (
  record { ok = d.0.ok; store = ap (λ (st : StoreTold). record st { tape = x }) d.0.store; ended = d.0.ended; err = d.0.err; answer = d.0.answer },
  painted_over s t x x d.1,
  d.2,
)
retaped_open s t user rows cols (Err fault) d x = (
  record { ok = d.0.ok; store = ap (λ (st : StoreTold). record st { tape = x }) d.0.store; ended = d.0.ended; err = ap (with_tape x) d.0.err; answer = d.0.answer },
  d.1,
  d.2,
)

retaped_byte : (s t : Serving) (id byte : ℕ) (answer : Keyed) → Does (cleared s) (Byte id byte answer) t → (x : Tape) → (y : Tape) × Does (with_tape x s) (Byte id byte answer) (with_tape y t)
retaped_byte s t id byte answer d x =
    let h = d.0 in
    let reports = event_reports s.world (model.Byte id byte h.step.stored h.step.stop) in
    let y = tape_after reports x in
    let same : h.typed.store ≡ (cleared s).store → y ≡ x =
    λ e. still reports (cleared s).store.tape x (ap (λ (u : Tape). is_blank u.deeds) (sym h.step.tells.tape ∙ ap (λ (st : StoreTold). st.tape) e)) in (
      y,
      (
        record {
          typed = with_tape y h.typed;
          step = record {
            stored = h.step.stored;
            stop = h.step.stop;
            step = h.step.step;
            short = h.step.short;
            no_session = h.step.no_session;
            quit = h.step.quit;
            may = h.step.may;
            fault = h.step.fault;
            tells = record { saves = h.step.tells.saves; births = h.step.tells.births; tape = refl };
            unasked = λ e. ap (λ (st : StoreTold). record st { tape = y }) (h.step.unasked e) ∙ ap (λ (u : Tape). record s.store { tape = u }) (same (h.step.unasked e));
          };
          sizes = h.sizes;
          next = h.next;
          queues = h.queues;
          ended = h.ended ∙ keyed_over answer id s (cleared s).store.tape x;
          slow = ap (with_tape y) h.slow ∙ ended_over (slow_ids (cleared s) h.typed.world) h.typed y;
          closes = h.closes;
          quit = λ e. ap (with_tape y) (h.quit e) ∙ ap (λ (u : Tape). ended_by causes.Quit id (with_tape u s)) (same (ap (λ (v : Serving). v.store) (h.quit e)));
          still = h.still;
          prompt = h.prompt;
        },
        painted_over (cleared s) t x y d.1,
      ),
    )

pub retaped : (s t : Serving) (call : Call) → DoesCleared s call t → (x : Tape) → (y : Tape) × Does (with_tape x s) call (with_tape y t)
retaped s t (Open user rows cols answer) d x = (x, retaped_open s t user rows cols answer d x)
retaped s t (Refuse name cause) d x = (x, ap (with_tape x) d)
retaped s t (Byte id byte answer) d x = retaped_byte s t id byte answer d x
retaped s t (Close id) d x = (x, (ap (with_tape x) d.0, painted_over s t x x d.1, d.2))
retaped s t (Took id n) d x = (x, ap (with_tape x) d)

-- What calls come to, by what the server and the journal did.
use Rattle.std.proofs.Common.{◌≡◌, inl, ℕ, Bool, false, List, [], ◌∷◌, ◌++◌, Option, None, Result, Ok, Err, refl, sym, ap, ◌∙◌, subst}
use Rattle.std.specs.Prelude.{IfOk}
use Rattle.mgs_model.specs.World.{find_session}
use Rattle.mgs_model.specs.declared.errors.Keyed.{Keyed}
use Rattle.mgs_model.specs.declared.errors.OpenFault.{OpenFault}
use Rattle.mgs_births.specs.Telling.{StoreTold}
use Rattle.mgs_core.specs.Calls.{user_in}
use Rattle.mgs_wire.specs.Calls.{Call, Open, Refuse, Byte, Close, Took}
use Rattle.mgs_wire.specs.declared.refusal.Refusal.{Refusal}
use Rattle.mgs_engine.specs.Does.{Does}
use Rattle.mgs_engine.specs.Serving.{IsWellFormed, Serving, queue_ids}
use Rattle.mgs_engine.specs.Slow.{slow_ids}
use Rattle.mgs_engine.specs.declared.session_end.Cause.TheVariants.{Closed}
use Rattle.mgs_journal.specs.Acts.{Act, AreDone, Tick}
use Rattle.mgs_journal.specs.Rows.{KeptRights}
use Rattle.mgs_journal.specs.Texts.{KeptText}
use Rattle.mgs_journal.specs.declared.Told.{Told}
use Rattle.mgs_keep.specs.Ends.{AreNoted, ends_told, noted_after, noted_left}
use Rattle.mgs_keep.specs.Keeping.{AreKept, Asked, DoesCleared, EndsTold, FailsOrCrowds, HasChanged, HasPut, HasTold, Keeps, OrFails, WereTold, cleared, event_told, held, rows_in, told_of, user_by}
use Rattle.mgs_keep.specs.declared.session_users.Noted.{Noted}
use Rattle.mgs_keep.proofs.Asking.{asked_then, asks_nothing, asks_so, asks_then, fails_so, stayed, told_alone}
use Rattle.mgs_keep.proofs.Noted.{are_told, due_typed, noted_closed, noted_open, noted_still, noted_took}
use Rattle.mgs_keep.proofs.Rules.{closed_rules, opened_rules, same_rows}

rows_opened : (old new : Serving) (user : List ℕ) (rows cols : ℕ) (answer : Result ℕ OpenFault) → Does old (Open user rows cols answer) new → rows_in new ≡ rows_in old
rows_opened old new user rows cols (Ok id) d = same_rows old new (opened_rules old new user rows cols id d.0.ok.2) (ap (λ (t : StoreTold). t.births) d.0.store)
rows_opened old new user rows cols (Err fault) d = ap rows_in d.0.err

rows_closed : (old new : Serving) (id : ℕ) → Does old (Close id) new → rows_in new ≡ rows_in old
rows_closed old new id d = same_rows old new (closed_rules old new id d.2) (ap (λ (s : Serving). s.store.births) d.0)

opens_noted : (old new : Serving) (user : List ℕ) (rows cols : ℕ) (us vs : List Noted) (answer : Result ℕ OpenFault) → IfOk answer (λ id. queue_ids new ≡ queue_ids old ++ id ∷ []) → IsWellFormed old
    → Does old (Open user rows cols answer) new → vs ≡ noted_after (Open user rows cols answer) new us → AreNoted old us → AreNoted new vs
opens_noted old new user rows cols us vs (Ok id) queue formed done whose before =
    let shown = done.2 in noted_open old new user rows cols id us vs shown.0 queue done.0.ended done.0.answer formed shown.1 whose before
opens_noted old new user rows cols us vs (Err fault) queue formed done whose before =
    subst (λ (s : Serving). AreNoted s vs) (sym done.0.err) (subst (AreNoted old) (sym whose) before)

module _ {J : Type 0} (keeps : J → List KeptRights) (texts : J → List (Option KeptText)) (does : J → Act → J → Type 0) (fails : J → J → Type 0) where
  -- one that failed by the end had not failed before
  sound_before : (asked : J → J → Type 0) (b c : Bool) (j k : J) → OrFails fails asked b j c k → c ≡ false → b ≡ false
  sound_before asked b c j k went = stayed fails b c (λ e. (went.stays e).0)

  -- what is told, where by what access is decided stays
  tells : (call : Call) (old new : Serving) (us vs : List Noted) (j k : J) (b c : Bool) (told : List Told) → DoesCleared old call new → vs ≡ noted_after call new us → (AreNoted old us → AreNoted new vs) → user_by call old ≡ None → told ≡ told_of (user_by call old) call new
      → rows_in new ≡ rows_in old → (b ≡ false → AreKept keeps old j) → (c ≡ false → keeps k ≡ keeps j)
      → OrFails fails (WereTold does told) b j c k → Keeps keeps texts does fails (held old us j b) call (held new vs k c)
  tells call old new us vs j k b c told done whose noted nobody is same kept stays went = record {
    done = done;
    users = whose;
    noted = noted;
    kept = λ e. stays e ∙ kept (sound_before (WereTold does told) b c j k went e) ∙ sym same;
    journal = fails_so fails (FailsOrCrowds fails keeps (rows_in new)) (Asked keeps texts does (user_by call old) (told_of (user_by call old) call new) new) b c j k (λ i m f. inl f)
        (asks_so fails (WereTold does told) (Asked keeps texts does (user_by call old) (told_of (user_by call old) call new) new) b c j k
        (λ e t. told_alone does keeps texts (user_by call old) (told_of (user_by call old) call new) new j k (kept e ∙ sym same) (subst (λ ts. WereTold does ts j k) is t)) went);
  }

  pub keeps_open : (user : List ℕ) (rows cols : ℕ) (answer : Result ℕ OpenFault) (old new : Serving) (us vs : List Noted) (j k : J) (b c : Bool) (told : List Told) → Does old (Open user rows cols answer) new
      → vs ≡ noted_after (Open user rows cols answer) new us → IfOk answer (λ id. queue_ids new ≡ queue_ids old ++ id ∷ []) → IsWellFormed old → told ≡ told_of None (Open user rows cols answer) new → (b ≡ false → AreKept keeps old j) → (c ≡ false → keeps k ≡ keeps j) → OrFails fails (WereTold does told) b j c k
      → Keeps keeps texts does fails (held old us j b) (Open user rows cols answer) (held new vs k c)
  keeps_open user rows cols answer old new us vs j k b c told done whose queue formed is kept stays went =
      tells (Open user rows cols answer) old new us vs j k b c told done whose (opens_noted old new user rows cols us vs answer queue formed done whose) refl is (rows_opened old new user rows cols answer done) kept stays went

  pub keeps_refused : (name : List ℕ) (cause : Refusal) (old : Serving) (us : List Noted) (j k : J) (b c : Bool) (told : List Told) → told ≡ told_of None (Refuse name cause) old
      → (b ≡ false → AreKept keeps old j) → (c ≡ false → keeps k ≡ keeps j) → OrFails fails (WereTold does told) b j c k
      → Keeps keeps texts does fails (held old us j b) (Refuse name cause) (held old us k c)
  keeps_refused name cause old us j k b c told is kept stays went = tells (Refuse name cause) old old us us j k b c told refl refl (λ before. before) refl is refl kept stays went

  pub keeps_close : (id : ℕ) (old new : Serving) (us : List Noted) (j : J) (b : Bool) → Does old (Close id) new → (b ≡ false → AreKept keeps old j) → Keeps keeps texts does fails (held old us j b) (Close id) (held new us j b)
  keeps_close id old new us j b done kept =
      tells (Close id) old new us us j j b b [] done refl (noted_closed Closed id old new us done.0) refl refl (rows_closed old new id done) kept (λ e. refl) (asks_nothing fails (WereTold does []) b j refl)

  pub keeps_took : (id n : ℕ) (old new : Serving) (us : List Noted) (j : J) (b : Bool) → Does old (Took id n) new → (b ≡ false → AreKept keeps old j) → Keeps keeps texts does fails (held old us j b) (Took id n) (held new us j b)
  keeps_took id n old new us j b done kept =
      tells (Took id n) old new us us j j b b [] done refl (noted_took id n old new us done) refl refl (ap rows_in done) kept (λ e. refl) (asks_nothing fails (WereTold does []) b j refl)

  -- changes are kept, then it is told what the session was told, and then the text that was saved is kept
  pub keeps_byte : (id byte : ℕ) (answer : Keyed) (old new : Serving) (us : List Noted) (j k l m : J) (b c d e : Bool) (user : Option (List ℕ)) → Does (cleared old) (Byte id byte answer) new
      → user ≡ user_in (find_session id old.world.sessions)
      → (c ≡ false → AreKept keeps new k) → OrFails (FailsOrCrowds fails keeps (rows_in new)) (HasChanged keeps does user new) b j c k → (d ≡ false → keeps l ≡ keeps k) → OrFails fails (WereTold does (event_told user new.store.tape.deeds)) c k d l
      → (e ≡ false → keeps m ≡ keeps l) → OrFails fails (HasPut texts does new) d l e m
      → Keeps keeps texts does fails (held old us j b) (Byte id byte answer) (held new us m e)
  keeps_byte id byte answer old new us j k l m b c d e user done whose kept changed stays went same put =
      let mine = user_in (find_session id old.world.sessions) in
      let more = FailsOrCrowds fails keeps (rows_in new) in
      let some = WereTold does (event_told user new.store.tape.deeds) in
      let all = event_told mine new.store.tape.deeds in
      record {
        done = done;
        users = refl;
        noted = noted_still old new us (λ p. due_typed p answer id (slow_ids (cleared old) done.0.typed.world) (cleared old) done.0.typed new done.0.queues done.0.ended done.0.quit done.0.slow);
        kept = λ f.
            let g = sound_before (HasPut texts does new) d e l m put f in
            same f ∙ stays g ∙ kept (sound_before some c d k l went g);
        journal = asks_then more (HasChanged keeps does user new) (λ p q. (mid : J) × some p mid × HasPut texts does new mid q) (Asked keeps texts does mine all new) b c e j k m
            (λ p q. asked_then does keeps texts mine all new j k q.0 m (subst (λ u. HasChanged keeps does u new j k) whose p) (subst (λ u. WereTold does (event_told u new.store.tape.deeds) k q.0) whose q.1) q.2) changed
            (fails_so fails more (λ p q. (mid : J) × some p mid × HasPut texts does new mid q) c e k m (λ i q f. inl f)
            (asks_then fails some (HasPut texts does new) (λ p q. (mid : J) × some p mid × HasPut texts does new mid q) c d e k l m
            (λ p q. (l, p, q)) went put));
      }

  -- ends were told, texts were kept, and what was gathered for long enough
  pub keeps_told : (old new : Serving) (us vs : List Noted) (j k l m : J) (b c d e : Bool) → new ≡ record old { ended = [] } → vs ≡ noted_left us old.ended → (b ≡ false → AreKept keeps old j)
      → (c ≡ false → keeps k ≡ keeps j) → OrFails fails (WereTold does (ends_told us old.ended)) b j c k → (d ≡ false → keeps l ≡ keeps k) → OrFails fails (HasPut texts does new) c k d l
      → (e ≡ false → keeps m ≡ keeps l) → OrFails fails (AreDone does (Tick ∷ [])) d l e m → HasTold keeps texts does fails (held old us j b) (held new vs m e)
  keeps_told old new us vs j k l m b c d e served left kept stays told stood put same ticked =
      let ends = ends_told us old.ended in
      record {
        served = served;
        users = left;
        noted = λ before.
            let all = are_told (queue_ids old) us old.ended before.each before.named in
            subst (λ (s : Serving). AreNoted s vs) (sym served) (subst (AreNoted (record old { ended = [] })) (sym left) (record { each = all.left; named = all.named }));
        each = λ before. (are_told (queue_ids old) us old.ended before.each before.named).each;
        kept = λ f.
            let g = sound_before (AreDone does (Tick ∷ [])) d e l m ticked f in
            let h = sound_before (HasPut texts does new) c d k l put g in
            same f ∙ stood g ∙ stays h ∙ kept (sound_before (WereTold does ends) b c j k told h) ∙ sym (ap rows_in served);
        journal = asks_then fails (WereTold does ends) (λ p q. (mid : J) × HasPut texts does new p mid × AreDone does (Tick ∷ []) mid q) (EndsTold texts does ends new) b c e j k m (λ p q. (k, q.0, p, q.1, q.2)) told
            (asks_then fails (HasPut texts does new) (AreDone does (Tick ∷ [])) (λ p q. (mid : J) × HasPut texts does new p mid × AreDone does (Tick ∷ []) mid q) c d e k l m (λ p q. (l, p, q)) put ticked);
      }

-- What lists of calls do to the world, and what their bytes draw.
use Rattle.std.proofs.Common.{◌≡◌, ℕ, zero, suc, ◌+◌, ◌<◌, ◌≤◌, Bool, true, false, cond, List, [], ◌∷◌, ◌++◌, map, take, drop, Option, Some, None, Result, Ok, Err, refl, sym, ap, subst, ◌∙◌, arith, append_assoc, append-nil}
use Rattle.std.specs.Prelude.{find, nat_eq, is_some, max, IfOk, OnErr, OnOk}
use Rattle.std.specs.Option.{option_map, option_or}
use Rattle.std.proofs.lemmas.Bool.{eqb-true}
use Rattle.std.proofs.lemmas.List.{take-append-drop}
use Rattle.std.proofs.lemmas.List.Folds.{find-append}
use Rattle.std.proofs.Math.Nat.{le-max_left, le-max_right}
use Rattle.mgs_model.proofs.Firsts.{find-change_first, find-change_first_other}
use Rattle.mgs_model.specs.Apply.{change_first, remove_first}
use Rattle.mgs_model.specs.Draw.{screen}
use Rattle.mgs_model.specs.Events.{Event, Open, Byte, Close, can_open, is_open, opened, run, settled}
use Rattle.mgs_births.specs.Reports.{run_reports}
use Rattle.mgs_births.specs.Telling.{Tells}
use Rattle.mgs_model.specs.Picture.{Picture}
use Rattle.mgs_model.specs.World.{World, Session, find_session, has_id}
use Rattle.mgs_model.specs.declared.errors.Keyed.{Keyed}
use Rattle.mgs_model.specs.declared.errors.Keyed.TheVariants as keyed
use Rattle.mgs_model.specs.declared.errors.OpenFault.{OpenFault}
use Rattle.mgs_term.specs.declared.operation.Operation.{Operation}
use Rattle.mgs_term.specs.declared.operation.Operation.TheVariants as terms
use Rattle.mgs_term.specs.Drawing.{Anything, Draws, IsFaithful, Leads}
use Rattle.mgs_term.specs.Screen.{Screen}
use Rattle.mgs_term.specs.Sequences.{after}
use Rattle.mgs_term.proofs.Drawing.{Draws-append, Draws-weaken}
use Rattle.mgs_paint.specs.Painting.{Paints, cells_of, shown}
use Rattle.mgs_world.specs.declared.size.Size.{Size}
use Rattle.mgs_world.specs.Worlds.{find_size, is_size_of, session_size, sizes}
use Rattle.mgs_core.specs.Calls.{sizes_keyed}
use Rattle.mgs_core.proofs.Ids.{found_sizes, none_of, same_some}
use Rattle.mgs_wire.specs.Calls as wire
use Rattle.mgs_engine.specs.declared.tape.Answer.{Answer}
use Rattle.mgs_engine.specs.declared.tape.Answer.TheVariants as answers
use Rattle.mgs_engine.specs.declared.session_end.Cause.{Cause}
use Rattle.mgs_engine.specs.declared.session_end.Cause.TheVariants.{Slow}
use Rattle.mgs_engine.specs.Does.{Does}
use Rattle.mgs_engine.specs.Drives.{Asked, Opens, Types, Closes, Takes, Asks, Makes, Taped, Runs, RunsSome, answered}
use Rattle.mgs_engine.specs.Driven.{AreTaped, Gives, HasEvents, IsRun, IsRunOfSome, IsTaped}
use Rattle.mgs_engine.specs.Handled.{Handles}
use Rattle.mgs_engine.specs.Painted.{Painted, PaintedBy}
use Rattle.mgs_engine.specs.Queues.{Queue, after_taking, find_queue, is_queue_of, waiting_in}
use Rattle.mgs_engine.specs.Serving.{Serving, all_ended_by, ended_by, pending_of}
use Rattle.mgs_engine.specs.Slow.{slow_ids}
use Rattle.mgs_engine.specs.Tapes.{Told, bytes_on}
use Rattle.mgs_engine.proofs.RunLemmas.{run-append, stays_told, store_left, told_behind, told_first}

-- THE EVENTS OF A CALL, AND OF ALL

record Made (r : Taped) (c : Asked) (s : Taped) : Type 0 where
  answer : Answer
  told : s.tape.answers ≡ r.tape.answers ++ answer ∷ []
  events : List Event
  of : HasEvents r.serving c answer s.serving events
  world : s.serving.world ≡ run r.serving.world events
  tells : Tells (run_reports r.serving.world events) r.serving.store s.serving.store

made_open : (r s : Taped) (user : List ℕ) (rows cols : ℕ) (a : Result ℕ OpenFault) → Does r.serving (wire.Open user rows cols a) s.serving → s.tape ≡ answered (answers.Open a) r.tape → Made r (Opens user rows cols) s
made_open r s user rows cols (Ok id) d t = record {
  answer = answers.Open (Ok id);
  told = ap (λ (x : Told). x.answers) t;
  events = Open id user rows cols ∷ [];
  of = (d, refl);
  world = d.0.ok.2;
  tells = stays_told r.serving.store s.serving.store d.0.store;
}
made_open r s user rows cols (Err fault) d t = record {
  answer = answers.Open (Err fault);
  told = ap (λ (x : Told). x.answers) t;
  events = [];
  of = (d, refl);
  world = ap (λ (x : Serving). x.world) d.0.err;
  tells = stays_told r.serving.store s.serving.store (ap (λ (x : Serving). x.store) d.0.err);
}

made : (r s : Taped) (c : Asked) → Makes r c s → Made r c s
made r s (Opens user rows cols) m = made_open r s user rows cols m.0 m.1 m.3
made r s (Types id byte) m =
    let h : Handles r.serving s.serving id byte m.0 = m.1.0 in
    let slow : List Event = map (λ i. Close i) (slow_ids r.serving h.typed.world) in
    record {
      answer = answers.Byte m.0;
      told = ap (λ (x : Told). x.answers) m.2;
      events = Byte id byte h.step.stored h.step.stop ∷ slow;
      of = (m.1, refl);
      world = h.closes ∙ ap (λ (w : World). run w slow) h.step.step;
      tells =
          told_first r.serving.world (Byte id byte h.step.stored h.step.stop) (slow_ids r.serving h.typed.world) r.serving.store h.typed.store s.serving.store
          (ap (λ (x : Serving). x.store) h.slow ∙ store_left Slow (slow_ids r.serving h.typed.world) h.typed)
          h.step.tells;
    }
made r s (Closes id) m = record { answer = answers.Close; told = ap (λ (x : Told). x.answers) m.2; events = Close id ∷ []; of = (m.0, refl); world = m.1; tells = stays_told r.serving.store s.serving.store (ap (λ (x : Serving). x.store) m.0.0) }
made r s (Takes id most) m = record { answer = answers.Took m.0; told = m.4; events = []; of = (m.3, refl); world = ap (λ (x : Serving). x.world) m.3; tells = stays_told r.serving.store s.serving.store (ap (λ (x : Serving). x.store) m.3) }
made r s Asks m = record { answer = answers.Ended m.0; told = ap (λ (x : Told). x.answers) m.3; events = []; of = (m.1, m.2, refl); world = ap (λ (x : Serving). x.world) m.2; tells = stays_told r.serving.store s.serving.store (ap (λ (x : Serving). x.store) m.2) }

pub runs_events : (r s : Taped) (cs : List Asked) → Runs r cs s → IsRun r cs s
runs_events r s [] h = record {
  answers = [];
  told = ap (λ (x : Taped). x.tape.answers) h ∙ sym (append-nil r.tape.answers);
  events = [];
  each = (refl, ap (λ (x : Taped). x.serving) h);
  world = ap (λ (x : Taped). x.serving.world) h;
  tells = stays_told r.serving.store s.serving.store (ap (λ (x : Taped). x.serving.store) h);
}
runs_events r s (c ∷ cs) h =
    let first : Made r c h.0 = made r h.0 c h.1 in
    let rest : IsRun h.0 cs s = runs_events h.0 s cs h.2 in
    record {
      answers = first.answer ∷ rest.answers;
      told = rest.told ∙ ap (λ xs. xs ++ rest.answers) first.told ∙ append_assoc r.tape.answers (first.answer ∷ []) rest.answers;
      events = first.events ++ rest.events;
      each = (h.0.serving, first.events, rest.events, first.of, rest.each, refl);
      world = rest.world ∙ ap (λ (w : World). run w rest.events) first.world ∙ sym (run-append r.serving.world first.events rest.events);
      tells = told_behind r.serving.world h.0.serving.world first.events rest.events r.serving.store h.0.serving.store s.serving.store first.world first.tells rest.tells;
    }

-- A SCREEN, FROM BYTES TO BYTES

after_rows : (o : Operation) (s : Screen) → ((after o s).rows ≡ s.rows) × ((after o s).cols ≡ s.cols)
after_rows (terms.Goto r c) s = (refl, refl)
after_rows terms.Clear s = (refl, refl)
after_rows terms.Erase s = (refl, refl)
after_rows terms.Reverse s = (refl, refl)
after_rows terms.Plain s = (refl, refl)
after_rows terms.Unwrap s = (refl, refl)
after_rows (terms.Print b) s = (refl, refl)

leads_rows : (may : Screen → Operation → Type 0) (os : List Operation) (s t : Screen) → Leads may os s t → (t.rows ≡ s.rows) × (t.cols ≡ s.cols)
leads_rows may [] s t h = (ap (λ (x : Screen). x.rows) (sym h), ap (λ (x : Screen). x.cols) (sym h))
leads_rows may (o ∷ os) s t h =
    let rest = leads_rows may os (after o s) t h.2 in
    (rest.0 ∙ (after_rows o s).0, rest.1 ∙ (after_rows o s).1)

gives_more : (p q : Picture) (front waiting now more : List ℕ) → Gives p (front ++ waiting) → now ≡ waiting ++ more → Draws (IsFaithful (cells_of q)) more (shown p) (shown q) → Gives q (front ++ now)
gives_more p q front waiting now more g appended draws =
    let size = leads_rows (IsFaithful (cells_of q)) draws.0 (shown p) (shown q) draws.2 in
    let bytes : front ++ now ≡ front ++ waiting ++ more = ap (λ zs. front ++ zs) appended ∙ sym (append_assoc front waiting more) in
    λ t is rows cols.
    subst (λ zs. Draws Anything zs t (shown q)) (sym bytes)
    (Draws-append Anything (front ++ waiting) more t (shown p) (shown q) (g t is (rows ∙ size.0) (cols ∙ size.1)) (Draws-weaken (IsFaithful (cells_of q)) more (shown p) (shown q) draws))

gives_first : (p : Picture) (bytes : List ℕ) → Paints p bytes → Gives p bytes
gives_first p bytes h = λ t is rows cols. Draws-weaken (IsFaithful (cells_of p)) bytes t (shown p) (h.draws t is rows cols)

-- A SESSION, FROM CALL TO CALL: where it is open, the bytes since give its screen, and its id is below the next; where its
-- id is still to come, the tape has no more bytes of it
record Along (before : List ℕ) (id : ℕ) (m : Taped) : Type 0 where
  live : (y : Session) → find_session id m.serving.world.sessions ≡ Some y → (id < m.serving.world.next_id) × IsTaped before m id y
  fresh : m.serving.world.next_id ≤ id → bytes_on id m.tape ≡ before

-- an event
along_event : (before : List ℕ) (id : ℕ) (m s : Taped) → Along before id m → bytes_on id s.tape ≡ bytes_on id m.tape → m.serving.world.next_id ≤ s.serving.world.next_id → Painted m.serving s.serving
    → ((y : Session) → find_session id m.serving.world.sessions ≡ None → find_session id s.serving.world.sessions ≡ Some y → (m.serving.world.next_id ≤ id) × (id < s.serving.world.next_id) × Gives (screen s.serving.world y) (pending_of id s.serving))
    → Along before id s
along_event before id m s h tape le painted new =
    let go : (o : Option Session) (y : Session) → find_session id m.serving.world.sessions ≡ o → find_session id s.serving.world.sessions ≡ Some y → (id < s.serving.world.next_id) × IsTaped before s id y =
    λ o y. elim o as (λ o. find_session id m.serving.world.sessions ≡ o → find_session id s.serving.world.sessions ≡ Some y → (id < s.serving.world.next_id) × IsTaped before s id y) [
      | None ↦ λ e f.
          let n = new y e f in
          (n.1, record { bytes = []; added = tape ∙ h.fresh n.0 ∙ sym (append-nil before); gives = n.2 })
      | Some x ↦ λ e f.
          let l = h.live x e in
          let p : PaintedBy m.serving s.serving id x y = painted id x y e f in (
            omega (arith, l.0, le),
            record {
              bytes = l.1.bytes;
              added = tape ∙ l.1.added;
              gives = gives_more (screen m.serving.world x) (screen s.serving.world y) l.1.bytes (pending_of id m.serving) (pending_of id s.serving) p.bytes l.1.gives p.appended p.draws;
            },
          )
    ]
    in
    record {
      live = λ y f. go (find_session id m.serving.world.sessions) y refl f;
      fresh = λ l. tape ∙ h.fresh (omega (arith, l, le));
    }

-- bytes go from what waits to the tape, or nothing happens
along_still : (before : List ℕ) (id : ℕ) (m s : Taped) (more : List ℕ) → Along before id m → s.serving.world ≡ m.serving.world → bytes_on id s.tape ≡ bytes_on id m.tape ++ more → more ++ pending_of id s.serving ≡ pending_of id m.serving
    → (find_session id m.serving.world.sessions ≡ None → more ≡ []) → Along before id s
along_still before id m s more h world tape moved closed =
    let none : m.serving.world.next_id ≤ id → (o : Option Session) → find_session id m.serving.world.sessions ≡ o → find_session id m.serving.world.sessions ≡ None =
    λ l o. elim o as (λ o. find_session id m.serving.world.sessions ≡ o → find_session id m.serving.world.sessions ≡ None) [
      | None ↦ λ e. e
      | Some x ↦ λ e. absurd (omega (arith, l, (h.live x e).0))
    ]
    in
    record {
      live = λ y f.
          let l = h.live y (ap (λ (w : World). find_session id w.sessions) (sym world) ∙ f) in
          let bytes : l.1.bytes ++ pending_of id m.serving ≡ (l.1.bytes ++ more) ++ pending_of id s.serving =
          ap (λ zs. l.1.bytes ++ zs) (sym moved) ∙ sym (append_assoc l.1.bytes more (pending_of id s.serving)) in (
            subst (λ (w : World). id < w.next_id) (sym world) l.0,
            record {
              bytes = l.1.bytes ++ more;
              added = tape ∙ ap (λ zs. zs ++ more) l.1.added ∙ append_assoc before l.1.bytes more;
              gives = subst (λ (w : World). Gives (screen w y) ((l.1.bytes ++ more) ++ pending_of id s.serving)) (sym world) (subst (Gives (screen m.serving.world y)) bytes l.1.gives);
            },
          );
      fresh = λ l.
          let below : m.serving.world.next_id ≤ id = subst (λ (w : World). w.next_id ≤ id) world l in
          tape ∙ ap (λ zs. bytes_on id m.tape ++ zs) (closed (none below (find_session id m.serving.world.sessions) refl)) ∙ append-nil (bytes_on id m.tape) ∙ h.fresh below;
    }

-- OPENS

open_next : (w v : World) (id : ℕ) (user : List ℕ) (rows cols : ℕ) (b : Bool) → v ≡ cond b (settled (opened w id user rows cols)) w → b ≡ true → v.next_id ≡ max w.next_id (id + 1)
open_next w v id user rows cols true e is = ap (λ (u : World). u.next_id) e
open_next w v id user rows cols false e is = cc

is_new : (id new rows cols : ℕ) (o : Option Size) (z : Size) → o ≡ None → option_or o (cond (nat_eq new id) (Some (record { id = new; rows = rows; cols = cols })) None) ≡ Some z → nat_eq new id ≡ true
is_new id new rows cols o z none e =
    let f : cond (nat_eq new id) (Some (record { id = new; rows = rows; cols = cols })) None ≡ Some z = ap (λ (q : Option Size). option_or q (cond (nat_eq new id) (Some (record { id = new; rows = rows; cols = cols })) None)) (sym none) ∙ e in
    let goal : Bool → Type 0 = λ b. cond b (Some (record { id = new; rows = rows; cols = cols })) None ≡ Some z → b ≡ true in
    let go : (b : Bool) → goal b = λ b. elim b as goal [ true ↦ λ h. refl | false ↦ λ h. cc ] in
    go (nat_eq new id) f

found_new : (id new rows cols : ℕ) (w v : World) (y : Session) → sizes v ≡ sizes w ++ record { id = new; rows = rows; cols = cols } ∷ [] → find_session id w.sessions ≡ None → find_session id v.sessions ≡ Some y → new ≡ id
found_new id new rows cols w v y more none found =
    let z : Size = record { id = new; rows = rows; cols = cols } in
    let before : find_size id (sizes w) ≡ None = found_sizes id w ∙ ap (option_map session_size) none in
    let now : option_or (find_size id (sizes w)) (cond (nat_eq new id) (Some z) None) ≡ Some (session_size y) =
    sym (find-append (is_size_of id) (sizes w) (z ∷ [])) ∙ ap (find_size id) (sym more) ∙ found_sizes id v ∙ ap (option_map session_size) found in
    eqb-true new id (is_new id new rows cols (find_size id (sizes w)) (session_size y) before now)

along_opened : (before : List ℕ) (id new : ℕ) (m s : Taped) (user : List ℕ) (rows cols : ℕ) → Along before id m → Does m.serving (wire.Open user rows cols (Ok new)) s.serving
    → sizes s.serving.world ≡ sizes m.serving.world ++ record { id = new; rows = rows; cols = cols } ∷ [] → s.tape ≡ answered (answers.Open (Ok new)) m.tape → Along before id s
along_opened before id new m s user rows cols h d more tape =
    let w = m.serving.world in
    let v = s.serving.world in
    let next : v.next_id ≡ max w.next_id (new + 1) = open_next w v new user rows cols (can_open w new user rows cols) d.0.ok.2 d.0.ok.1 in
    let le : w.next_id ≤ v.next_id = subst (λ n. w.next_id ≤ n) (sym next) (le-max_left w.next_id (new + 1)) in
    let lt : new + 1 ≤ v.next_id = subst (λ n. new + 1 ≤ n) (sym next) (le-max_right w.next_id (new + 1)) in
    along_event before id m s h (ap (bytes_on id) tape) le d.1 (λ y none found.
    let is : new ≡ id = found_new id new rows cols w v y more none found in
    let there : (x : Session) × (find_session id v.sessions ≡ Some x) × Paints (screen v x) (pending_of id s.serving) = subst (λ n. (x : Session) × (find_session n v.sessions ≡ Some x) × Paints (screen v x) (pending_of n s.serving)) is d.2 in
    let same : there.0 ≡ y = same_some there.0 y (sym there.1 ∙ found) in
    (omega (arith, is, d.0.ok.0), omega (arith, is, lt), gives_first (screen v y) (pending_of id s.serving) (subst (λ (x : Session). Paints (screen v x) (pending_of id s.serving)) same there.2)))

-- nothing is put on the tape, and nothing becomes of what is served but of what is to be told
along_same : (before : List ℕ) (id : ℕ) (m s : Taped) (t : Serving) → Along before id m → s.serving ≡ t → t.world ≡ m.serving.world → pending_of id t ≡ pending_of id m.serving → bytes_on id s.tape ≡ bytes_on id m.tape → Along before id s
along_same before id m s t h is world waiting tape =
    along_still before id m s [] h (ap (λ (x : Serving). x.world) is ∙ world) (tape ∙ sym (append-nil (bytes_on id m.tape))) (ap (pending_of id) is ∙ waiting) (λ e. refl)

along_open : (before : List ℕ) (id : ℕ) (m s : Taped) (user : List ℕ) (rows cols : ℕ) (a : Result ℕ OpenFault) → Along before id m → Does m.serving (wire.Open user rows cols a) s.serving
    → IfOk a (λ new. sizes s.serving.world ≡ sizes m.serving.world ++ record { id = new; rows = rows; cols = cols } ∷ []) → s.tape ≡ answered (answers.Open a) m.tape → Along before id s
along_open before id m s user rows cols (Ok new) h d more tape = along_opened before id new m s user rows cols h d more tape
along_open before id m s user rows cols (Err fault) h d more tape = along_same before id m s m.serving h d.0.err refl refl (ap (bytes_on id) tape)

-- ENDS: no session opens, and the next id stays

none_left : {A : Type 0} (p q : A → Bool) (x : A) (xs : List A) (c : Bool) → p x ≡ false → find p xs ≡ None → find p (remove_first q xs) ≡ None → find p (cond c xs (x ∷ remove_first q xs)) ≡ None
none_left p q x xs true h f g = f
none_left p q x xs false h f g = ap (λ b. cond b (Some x) (find p (remove_first q xs))) h ∙ g

none_removed : {A : Type 0} (p q : A → Bool) (xs : List A) → find p xs ≡ None → find p (remove_first q xs) ≡ None
none_removed p q [] e = e
none_removed p q (x ∷ xs) e =
    let goal : Bool → Type 0 = λ b. p x ≡ b → cond b (Some x) (find p xs) ≡ None → find p (cond (q x) xs (x ∷ remove_first q xs)) ≡ None in
    let go : (b : Bool) → goal b = λ b. elim b as goal [ true ↦ λ h f. cc | false ↦ λ h f. none_left p q x xs (q x) h f (none_removed p q xs f) ] in
    go (p x) refl e

none_ended : (cause : Cause) (id : ℕ) (ids : List ℕ) (s : Serving) → find_session id s.world.sessions ≡ None → find_session id (all_ended_by cause ids s).world.sessions ≡ None
none_ended cause id [] s e = e
none_ended cause id (x ∷ xs) s e = none_ended cause id xs (ended_by cause x s) (none_removed (has_id id) (has_id x) s.world.sessions e)

next_ended : (cause : Cause) (ids : List ℕ) (s : Serving) → (all_ended_by cause ids s).world.next_id ≡ s.world.next_id
next_ended cause [] s = refl
next_ended cause (x ∷ xs) s = next_ended cause xs (ended_by cause x s)

none_keyed : (k : Keyed) (id state : ℕ) (xs : List Size) → find_size id xs ≡ None → find_size id (sizes_keyed k state xs) ≡ None
none_keyed keyed.Quit id state xs e = none_removed (is_size_of id) (is_size_of state) xs e
none_keyed keyed.Done id state xs e = e
none_keyed keyed.Short id state xs e = e
none_keyed keyed.NoSession id state xs e = e

none_handled : (old new : Serving) (state byte : ℕ) (k : Keyed) (id : ℕ) → Handles old new state byte k → find_session id old.world.sessions ≡ None → find_session id new.world.sessions ≡ None
none_handled old new state byte k id h none =
    let typed : find_session id h.typed.world.sessions ≡ None =
    none_of session_size (find_session id h.typed.world.sessions)
    (sym (found_sizes id h.typed.world) ∙ ap (find_size id) h.sizes ∙ none_keyed k id state (sizes old.world) (found_sizes id old.world ∙ ap (option_map session_size) none)) in
    ap (λ (s : Serving). find_session id s.world.sessions) h.slow ∙ none_ended Slow id (slow_ids old h.typed.world) h.typed typed

next_handled : (old new : Serving) (state byte : ℕ) (k : Keyed) → Handles old new state byte k → new.world.next_id ≡ old.world.next_id
next_handled old new state byte k h = ap (λ (s : Serving). s.world.next_id) h.slow ∙ next_ended Slow (slow_ids old h.typed.world) h.typed ∙ h.next

never_both : {A : Type 0} {P : Type 0} (o : Option A) (y : A) → o ≡ None → o ≡ Some y → P
never_both o y e f = let g : None ≡ Some y = sym e ∙ f in cc

along_ended : (before : List ℕ) (id : ℕ) (m s : Taped) → Along before id m → bytes_on id s.tape ≡ bytes_on id m.tape → s.serving.world.next_id ≡ m.serving.world.next_id → Painted m.serving s.serving
    → (find_session id m.serving.world.sessions ≡ None → find_session id s.serving.world.sessions ≡ None) → Along before id s
along_ended before id m s h tape next painted none =
    along_event before id m s h tape (omega (arith, next)) painted (λ y e f. never_both (find_session id s.serving.world.sessions) y (none e) f)

-- BYTES THAT ARE TAKEN

drop_nil : (n : ℕ) → drop {A = ℕ} n [] ≡ []
drop_nil zero = refl
drop_nil (suc n) = refl

take_nil : (n : ℕ) → take {A = ℕ} n [] ≡ []
take_nil zero = refl
take_nil (suc n) = refl

took_none : (n : ℕ) (o : Option Queue) → waiting_in (option_map (after_taking n) o) ≡ drop n (waiting_in o)
took_none n None = sym (drop_nil n)
took_none n (Some x) = refl

others : (state id : ℕ) → nat_eq state id ≡ false → (x : Queue) → is_queue_of state x ≡ true → is_queue_of id x ≡ false
others state id e x h = ap (λ n. nat_eq n id) (eqb-true x.id state h) ∙ e

moved_state : (state id n : ℕ) (qs : List Queue) → nat_eq state id ≡ true
    → take n (waiting_in (find_queue state qs)) ++ waiting_in (find_queue id (change_first (is_queue_of state) (after_taking n) qs)) ≡ waiting_in (find_queue id qs)
moved_state state id n qs e =
    subst (λ k. take n (waiting_in (find_queue state qs)) ++ waiting_in (find_queue k (change_first (is_queue_of state) (after_taking n) qs)) ≡ waiting_in (find_queue k qs)) (eqb-true state id e)
    (ap (λ o. take n (waiting_in (find_queue state qs)) ++ waiting_in o) (find-change_first (is_queue_of state) (after_taking n) (λ x. refl) qs)
    ∙ ap (λ bs. take n (waiting_in (find_queue state qs)) ++ bs) (took_none n (find_queue state qs))
    ∙ take-append-drop n (waiting_in (find_queue state qs)))

moved_by : (state id n : ℕ) (qs : List Queue) (b : Bool) → nat_eq state id ≡ b
    → cond b (take n (waiting_in (find_queue state qs))) [] ++ waiting_in (find_queue id (change_first (is_queue_of state) (after_taking n) qs)) ≡ waiting_in (find_queue id qs)
moved_by state id n qs true e = moved_state state id n qs e
moved_by state id n qs false e = ap waiting_in (find-change_first_other (is_queue_of state) (is_queue_of id) (after_taking n) (λ x. refl) (others state id e) qs)

nothing_taken : (state id n : ℕ) (s : Serving) (b : Bool) → nat_eq state id ≡ b → (is_open state s.world ≡ false → pending_of state s ≡ []) → find_session id s.world.sessions ≡ None → cond b (take n (pending_of state s)) [] ≡ []
nothing_taken state id n s true e closed none =
    let none_state : find_session state s.world.sessions ≡ None = subst (λ k. find_session k s.world.sessions ≡ None) (sym (eqb-true state id e)) none in
    ap (take n) (closed (ap is_some none_state)) ∙ take_nil n
nothing_taken state id n s false e closed none = refl

-- ONE CALL, AND ALL

along_made : (before : List ℕ) (id : ℕ) (m s : Taped) (c : Asked) → Along before id m → Makes m c s → Along before id s
along_made before id m s (Opens user rows cols) h d = along_open before id m s user rows cols d.0 h d.1 d.2 d.3
along_made before id m s (Types state byte) h d =
    along_ended before id m s h (ap (bytes_on id) d.2) (next_handled m.serving s.serving state byte d.0 d.1.0) d.1.1 (none_handled m.serving s.serving state byte d.0 id d.1.0)
along_made before id m s (Closes state) h d =
    along_ended before id m s h (ap (bytes_on id) d.2) (ap (λ (x : Serving). x.world.next_id) d.0.0) d.0.1
    (λ none. ap (λ (x : Serving). find_session id x.world.sessions) d.0.0 ∙ none_removed (has_id id) (has_id state) m.serving.world.sessions none)
along_made before id m s (Takes state most) h d =
    let more : List ℕ = cond (nat_eq state id) (take d.0 (pending_of state m.serving)) [] in
    along_still before id m s more h (ap (λ (x : Serving). x.world) d.3) (d.5 id)
    (ap (λ (x : Serving). more ++ pending_of id x) d.3 ∙ moved_by state id d.0 m.serving.queues (nat_eq state id) refl)
    (nothing_taken state id d.0 m.serving (nat_eq state id) refl d.2)
along_made before id m s Asks h d = along_same before id m s (record m.serving { ended = drop 1 m.serving.ended }) h d.2 refl refl (ap (bytes_on id) d.3)

along_all : (before : List ℕ) (id : ℕ) (m s : Taped) (cs : List Asked) → Along before id m → Runs m cs s → Along before id s
along_all before id m s [] h runs = subst (Along before id) (sym runs) h
along_all before id m s (c ∷ cs) h runs = along_all before id runs.0 s cs (along_made before id m runs.0 c h runs.1) runs.2

pub runs_taped : (r s : Taped) (cs : List Asked) → Runs r cs s → AreTaped r s
runs_taped r s cs runs id y none found =
    let start : Along (bytes_on id r.tape) id r = record { live = λ x e. never_both (find_session id r.serving.world.sessions) x none e; fresh = λ l. refl } in
    let h : Along (bytes_on id r.tape) id s = along_all (bytes_on id r.tape) id r s cs start runs in
    (h.live y found).1

-- A LIST, HOWEVER IT ENDED

pub driven_world : {E : Type 0} (res : Result (Unit {0}) E) (r s : Taped) (cs : List Asked) → OnOk res (Runs r cs s) → OnOk res (IsRun r cs s)
driven_world (Ok u) r s cs h = runs_events r s cs h
driven_world (Err e) r s cs h = tt

pub driven_part : {E : Type 0} (res : Result (Unit {0}) E) (r s : Taped) (cs : List Asked) → OnErr res (RunsSome r cs s) → OnErr res (IsRunOfSome r cs s)
driven_part (Ok u) r s cs h = tt
driven_part (Err e) r s cs h = (h.0, h.1, runs_events r s (take h.0 cs) h.2)

pub driven_taped : {E : Type 0} (res : Result (Unit {0}) E) (r s : Taped) (cs : List Asked) → OnOk res (Runs r cs s) → OnErr res (RunsSome r cs s) → AreTaped r s
driven_taped (Ok u) r s cs ok err = runs_taped r s cs ok
driven_taped (Err e) r s cs ok err = runs_taped r s (take err.0 cs) err.2

-- What the lines from the first open on do, by what stands after the labels.
use Rattle.std.proofs.Common.{◌≡◌, ℕ, true, false, List, [], ◌∷◌, ◌++◌, map, Option, Some, None, Result, Ok, Err, refl, sym, ap, subst, ◌∙◌}
use Rattle.std.specs.Prelude.{find, All, IsSome, is_some, not, OnOk}
use Rattle.std.specs.Option.{option_map}
use Rattle.std.proofs.lemmas.List.{append-nil}
use Rattle.mgs_model.specs.World.{World, Session}
use Rattle.mgs_model.specs.Events.{Close, step}
use Rattle.mgs_model.specs.declared.errors.Keyed.{Keyed}
use Rattle.mgs_model.specs.declared.errors.Keyed.TheVariants as keyed
use Rattle.mgs_model.specs.declared.errors.OpenFault.{OpenFault}
use Rattle.mgs_births.specs.Telling.{StoreTold}
use Rattle.mgs_core.specs.Calls.{KeyedBy, OpenedBy}
use Rattle.mgs_engine.specs.Serving.{Serving}
use Rattle.mgs_engine.specs.Painted.{Painted}
use Rattle.mgs_term.specs.Terminal.{Terminal}
use Rattle.mgs_script.specs.declared.line.LineFault.{LineFault}
use Rattle.mgs_script.specs.declared.line.LineFault.TheVariants.{Bad, Short}
use Rattle.mgs_replay.specs.declared.client.Labelled.{Labelled}
use Rattle.mgs_replay.specs.declared.client.Cause.TheVariants as causes
use Rattle.mgs_replay.specs.declared.client.Client.{Client}
use Rattle.mgs_replay.specs.declared.client.Client.TheVariants as clients
use Rattle.mgs_script.specs.Lines as said
use Rattle.mgs_replay.specs.Prints.{refusal_text, screen_text, ended_text}
use Rattle.mgs_replay.specs.Clients.{is_labelled, client_of, ended_by, shown_text}
use Rattle.mgs_replay.specs.Players.{Label, label, Standing, Never, Has, Player, playing, standing_of, session_now, had_session, labels_keyed}
use Rattle.mgs_replay.specs.Replayed.{closed, did, did_open, granted, label_text, session_text, typed}
use Rattle.mgs_replay.specs.Turns.{Types, TypesOne}
use Rattle.mgs_replay.specs.Served.{Prints, standing_in, labels_in, ClientShows, LabelShows, IsReady, IsWaiting, session_in, clients_keyed, player_of, Runs, NotBad, short_or}
use Rattle.mgs_replay.proofs.Events.{standing_at, labels_gone, labels_push, all_there, waiting_still, waiting_gone, ready_never}
use Rattle.mgs_replay.proofs.There.{there_now, keyed_beside, keyed_still}
use Rattle.mgs_replay.proofs.Replaying.{one_typed, open_choice}
use Rattle.mgs_core.proofs.Ids.{All-found}

-- whether a label was used
used_one : (o : Option Client) → is_some (option_map standing_in o) ≡ is_some o
used_one None = refl
used_one (Some x) = refl

pub is_used : (name : List ℕ) (xs : List Labelled) → is_some (standing_of name (labels_in xs)) ≡ is_some (client_of name xs)
is_used name xs = ap is_some (standing_at name xs) ∙ used_one (client_of name xs)

-- PLAYERS

pub player_is : (w v : World) (ls ms : List Label) → w ≡ v → ls ≡ ms → playing w ls ≡ playing v ms
player_is w v ls ms e f = cc

-- A BYTE

pub labels_keyed_are : (k : Keyed) (name : List ℕ) (xs : List Labelled) → labels_in (clients_keyed k name xs) ≡ labels_keyed k name (labels_in xs)
labels_keyed_are keyed.Done name xs = refl
labels_keyed_are keyed.Short name xs = refl
labels_keyed_are keyed.Quit name xs = labels_gone name causes.Quit xs
labels_keyed_are keyed.NoSession name xs = refl

keyed_on : {before after : StoreTold} (k : Keyed) (old new : Serving) (name : List ℕ) (id byte : ℕ) (xs : List Labelled) → IsReady old xs → session_in name xs ≡ Some id → KeyedBy old.world new.world before after id byte k → Painted old new → (k ≡ keyed.Quit → ⊥) → IsWaiting new xs
keyed_on k old new name id byte xs ready now by painted other =
    let there = there_now old.world name id (labels_in xs) now (all_there old.world xs ready.shows) in
    waiting_still old new xs name id ready now (keyed_beside old.world new.world id byte k by) (keyed_still old.world new.world id byte k by there other) painted

-- the session of a byte stays open, or it ends and its label's with it
pub waiting_keyed : {before after : StoreTold} (k : Keyed) (old new : Serving) (name : List ℕ) (id byte : ℕ) (xs : List Labelled) → IsReady old xs → session_in name xs ≡ Some id → KeyedBy old.world new.world before after id byte k → Painted old new → IsWaiting new (clients_keyed k name xs)
waiting_keyed keyed.Quit old new name id byte xs ready now by painted =
    waiting_gone old new name id causes.Quit xs ready now (keyed_beside old.world new.world id byte keyed.Quit by) (ap is_some (by.quit.0 refl).1) painted
waiting_keyed keyed.Done old new name id byte xs ready now by painted = keyed_on keyed.Done old new name id byte xs ready now by painted (λ e. absurd cc)
waiting_keyed keyed.Short old new name id byte xs ready now by painted = keyed_on keyed.Short old new name id byte xs ready now by painted (λ e. absurd cc)
waiting_keyed keyed.NoSession old new name id byte xs ready now by painted = keyed_on keyed.NoSession old new name id byte xs ready now by painted (λ e. absurd cc)

-- what it comes to, once what waits was handed over
pub typed_key : {E : Type 0} (r : Result (Unit {0}) E) (old mid new : Serving) (name : List ℕ) (id byte : ℕ) (k : Keyed) (xs ys zs : List Labelled) → KeyedBy old.world mid.world old.store mid.store id byte k → ys ≡ clients_keyed k name xs
    → OnOk r (new.world ≡ mid.world) → OnOk r (labels_in zs ≡ labels_in ys) → OnOk r (TypesOne (Some id) (player_of old xs) name byte (player_of new zs))
typed_key (Ok u) old mid new name id byte k xs ys zs by keyed_are world labels =
    one_typed (player_of old xs) (player_of new zs) name id byte k (subst (λ (w : World). KeyedBy old.world w old.store mid.store id byte k) (sym world) by) (labels ∙ ap labels_in keyed_are ∙ labels_keyed_are k name xs) refl
typed_key (Err e) old mid new name id byte k xs ys zs by keyed_are world labels = tt

-- A CLOSE

pub closed_key : {E : Type 0} (r : Result (Unit {0}) E) (old mid new : Serving) (name : List ℕ) (id : ℕ) (xs ys zs : List Labelled) → mid.world ≡ step old.world (Close id) → ys ≡ map (ended_by name causes.Closed) xs
    → OnOk r (new.world ≡ mid.world) → OnOk r (labels_in zs ≡ labels_in ys) → OnOk r (player_of new zs ≡ closed (Some id) (player_of old xs) name)
closed_key (Ok u) old mid new name id xs ys zs closes ends world labels =
    player_is _ _ _ _ (world ∙ closes) (labels ∙ ap labels_in ends ∙ labels_gone name causes.Closed xs)
closed_key (Err e) old mid new name id xs ys zs closes ends world labels = tt

-- A SHOW

AreShown : World → Option Client → Type 0
AreShown w None = Unit {0}
AreShown w (Some x) = ClientShows w x

found_shown : (w : World) (xs : List Labelled) (name : List ℕ) → All (LabelShows w) xs → (o : Option Labelled) → find (is_labelled name) xs ≡ o → AreShown w (option_map (λ (x : Labelled). x.client) o)
unfolding AreShown
found_shown w xs name h None e = tt
found_shown w xs name h (Some x) e = All-found (LabelShows w) (is_labelled name) xs x h e

printed_one : (w : World) (name : List ℕ) (o : Option Client) (old new : List ℕ) → AreShown w o → option_map (λ (t : List ℕ). old ++ t) (shown_text name o) ≡ Some new → (not (had_session (option_map standing_in o)) ≡ false) × (new ≡ old ++ label_text w name (option_map standing_in o))
unfolding AreShown
printed_one w name None old new is h = absurd cc
printed_one w name (Some clients.Never) old new is h = absurd cc
printed_one w name (Some (clients.Open id term)) old new is h =
    let e : new ≡ old ++ screen_text name term.screen = cc in
    (refl, e ∙ ap (λ (t : Terminal). old ++ screen_text name t.screen) is.2 ∙ ap (λ (x : Option Session). old ++ session_text w name x) (sym is.1))
printed_one w name (Some (clients.Ended cause)) old new is h =
    let e : new ≡ old ++ ended_text name cause = cc in
    (refl, e)

refused_one : (name : List ℕ) (o : Option Client) → shown_text name o ≡ None → not (had_session (option_map standing_in o)) ≡ true
refused_one name None h = refl
refused_one name (Some clients.Never) h = refl
refused_one name (Some (clients.Open id term)) h = absurd cc
refused_one name (Some (clients.Ended cause)) h = absurd cc

allowed_one : (name : List ℕ) (o : Option Client) → IsSome (shown_text name o) → not (had_session (option_map standing_in o)) ≡ false
allowed_one name None h = absurd cc
allowed_one name (Some clients.Never) h = absurd cc
allowed_one name (Some (clients.Open id term)) h = refl
allowed_one name (Some (clients.Ended cause)) h = refl

pub shows_run : (r : Result (Unit {0}) LineFault) (e : Serving) (xs : List Labelled) (name old new : List ℕ) → IsReady e xs → Prints r old new (shown_text name (client_of name xs))
    → Runs r (player_of e xs) (said.Show name) (player_of e xs) old new
shows_run (Ok u) e xs name old new ready h =
    let is = found_shown e.world xs name ready.shows (find (is_labelled name) xs) refl in
    let p = subst (λ (st : Option Standing). (not (had_session st) ≡ false) × (new ≡ old ++ label_text e.world name st)) (sym (standing_at name xs)) (printed_one e.world name (client_of name xs) old new is h) in
    (p.0, (label_text e.world name (standing_of name (labels_in xs)), ([], refl), p.1))
shows_run (Err Bad) e xs name old new ready h =
    ap (λ (st : Option Standing). not (had_session st)) (standing_at name xs) ∙ refused_one name (client_of name xs) h
shows_run (Err Short) e xs name old new ready h =
    ap (λ (st : Option Standing). not (had_session st)) (standing_at name xs) ∙ allowed_one name (client_of name xs) h

-- BYTES

pub types_nothing : (o : Option ℕ) (s : Player) (name : List ℕ) (byte : ℕ) → o ≡ None → TypesOne o s name byte s
types_nothing None s name byte e = (granted, refl)
types_nothing (Some id) s name byte e = absurd cc

pub types_none : (s : Player) (name : List ℕ) → Types s name [] s
types_none s name = ([], refl)

pub types_more : (s mid t : Player) (name : List ℕ) (byte : ℕ) (bytes : List ℕ) → TypesOne (session_now (standing_of name s.labels)) s name byte mid → Types mid name bytes t → Types s name (byte ∷ bytes) t
types_more s mid t name byte bytes one rest = (one.0 ∷ rest.0, rest.1 ∙ ap (λ (p : Player). typed rest.0 p name bytes) one.1)

pub nothing_run : (s : Player) (out : List ℕ) → Runs (Ok tt) s said.Nothing s out out
nothing_run s out = (refl, ([], ([], refl), sym (append-nil out)))

pub types_run : {E : Type 0} (r : Result (Unit {0}) E) (s t : Player) (name keys out : List ℕ) → not (had_session (standing_of name s.labels)) ≡ false → OnOk r (Types s name keys t) → Runs (short_or r) s (said.Keys name keys) t out out
types_run (Ok d) s t name keys out had h = (had, ([], (h.0, ap (λ (p : Player). did p []) h.1), sym (append-nil out)))
types_run (Err e) s t name keys out had h = had

pub closes_run : {E : Type 0} (r : Result (Unit {0}) E) (s t : Player) (name out : List ℕ) → not (had_session (standing_of name s.labels)) ≡ false → OnOk r (t ≡ closed (session_now (standing_of name s.labels)) s name) → Runs (short_or r) s (said.Close name) t out out
closes_run (Ok d) s t name out had h = (had, ([], ([], ap (λ (p : Player). did p []) h), sym (append-nil out)))
closes_run (Err e) s t name out had h = had

-- AN OPEN

pub opened_runs : (r : Result (Unit {0}) LineFault) (w v u : World) (ls ms : List Label) (name user : List ℕ) (rows cols id : ℕ) (out : List ℕ) → is_some (standing_of name ls) ≡ false → OpenedBy w v user rows cols (Ok id)
    → NotBad r → OnOk r (u ≡ v) → OnOk r (ms ≡ ls ++ label name (Has id) ∷ []) → Runs r (playing w ls) (said.Open name user rows cols) (playing u ms) out out
opened_runs (Ok d) w v u ls ms name user rows cols id out free opened bad world labels =
    let c = open_choice w v user rows cols (Ok id) opened in
    let is : did (playing u ms) [] ≡ did_open (playing w ls) name user rows cols (Ok id) = ap (λ (p : Player). did p []) (player_is _ _ _ _ (world ∙ opened.ok.2) labels) in
    (free, ([], (c.0 ∷ [], is ∙ sym (ap (did_open (playing w ls) name user rows cols) c.1)), sym (append-nil out)))
opened_runs (Err Bad) w v u ls ms name user rows cols id out free opened bad world labels = absurd bad
opened_runs (Err Short) w v u ls ms name user rows cols id out free opened bad world labels = free

pub refused_runs : (r : Result (Unit {0}) LineFault) (old new : Serving) (xs ys : List Labelled) (name user : List ℕ) (rows cols : ℕ) (fault : OpenFault) (out printed : List ℕ) → is_some (standing_of name (labels_in xs)) ≡ false → OpenedBy old.world new.world user rows cols (Err fault)
    → NotBad r → OnOk r (ys ≡ xs ++ record { label = name; client = clients.Never } ∷ []) → OnOk r (printed ≡ out ++ refusal_text name fault) → Runs r (player_of old xs) (said.Open name user rows cols) (player_of new ys) out printed
refused_runs (Ok d) old new xs ys name user rows cols fault out printed free opened bad clients_are print =
    let labels : labels_in ys ≡ labels_in xs ++ label name Never ∷ [] = ap labels_in clients_are ∙ labels_push xs (record { label = name; client = clients.Never }) in
    let c = open_choice old.world new.world user rows cols (Err fault) opened in
    let is : did (player_of new ys) (refusal_text name fault) ≡ did_open (player_of old xs) name user rows cols (Err fault) = ap (λ (p : Player). did p (refusal_text name fault)) (player_is _ _ _ _ opened.err labels) in
    (free, (refusal_text name fault, (c.0 ∷ [], is ∙ sym (ap (did_open (player_of old xs) name user rows cols) c.1)), print))
refused_runs (Err Bad) old new xs ys name user rows cols fault out printed free opened bad clients_are print = absurd bad
refused_runs (Err Short) old new xs ys name user rows cols fault out printed free opened bad clients_are print = free

pub some_map : {A B : Type 0} (f : A → B) (o : Option A) → is_some (option_map f o) ≡ is_some o
some_map f None = refl
some_map f (Some x) = refl

pub refused_ready : (r : Result (Unit {0}) LineFault) (old new : Serving) (xs ys : List Labelled) (name : List ℕ) → OnOk r (ys ≡ xs ++ record { label = name; client = clients.Never } ∷ []) → new ≡ old → IsReady old xs → OnOk r (IsReady new ys)
refused_ready (Ok d) old new xs ys name is same h =
    subst (λ (e : Serving). IsReady e ys) (sym same) (subst (λ (zs : List Labelled). IsReady old zs) (sym is) (ready_never old xs name h))
refused_ready (Err f) old new xs ys name is same h = tt

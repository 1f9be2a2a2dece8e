-- What an event makes of the labels, and of the bytes that wait for their terminals.
use Rattle.std.proofs.Common.{◌≡◌, ℕ, ◌*◌, Bool, true, false, cond, List, [], ◌∷◌, ◌++◌, map, Option, Some, None, Ok, refl, sym, ap, subst, ◌∙◌, arith, eq-eqb}
use Rattle.std.specs.Prelude.{find, nat_eq, All, is_some}
use Rattle.std.specs.Option.{option_map, option_or}
use Rattle.std.proofs.lemmas.Bool.{eqb-true}
use Rattle.std.proofs.lemmas.List.{map-append, length-replicate}
use Rattle.std.proofs.lemmas.List.Folds.{find-append}
use Rattle.std.proofs.lemmas.List.Elements.{All-nil, All-cons, All-weaker, All-map, All-append}
use Rattle.mgs_model.proofs.Firsts.{find-map}
use Rattle.mgs_model.specs.Names.{same_name}
use Rattle.mgs_model.specs.Picture.{IsSize}
use Rattle.mgs_model.specs.World.{World, Session, find_session}
use Rattle.mgs_model.specs.Draw.{screen, draw}
use Rattle.mgs_model.proofs.Blind.{is_name, same_names}
use Rattle.mgs_model.specs.Events.{Open, can_open, is_open, step}
use Rattle.mgs_world.specs.declared.size.Size.{Size}
use Rattle.mgs_world.specs.Worlds.{sizes, session_size, find_size}
use Rattle.mgs_term.specs.Screen.{IsScreen, blank_cell, blank_screen}
use Rattle.mgs_term.specs.Terminal.{Terminal, resting}
use Rattle.mgs_term.specs.Drawing.{Draws, Anything, IsFaithful}
use Rattle.mgs_term.proofs.Drawing.{Draws-weaken, Draws-at}
use Rattle.mgs_paint.specs.Painting.{Paints, shown, cells_of}
use Rattle.mgs_engine.specs.Serving.{Serving, NoneWaits, pending_of}
use Rattle.mgs_engine.specs.Queues.{find_queue, waiting_in}
use Rattle.mgs_engine.specs.Painted.{Painted, PaintedBy}
use Rattle.mgs_core.specs.Calls.{OpenedBy}
use Rattle.mgs_core.proofs.Ids.{All-unmap, found_sizes, known_last}
use Rattle.mgs_replay.specs.declared.client.Labelled.{Labelled}
use Rattle.mgs_replay.specs.declared.client.Cause.{Cause}
use Rattle.mgs_replay.specs.declared.client.Client.{Client}
use Rattle.mgs_replay.specs.declared.client.Client.TheVariants as clients
use Rattle.mgs_replay.specs.Clients.{is_labelled, client_of, ended_by}
use Rattle.mgs_replay.specs.Players.{Label, label, Never, Has, Gone, is_called, session_now, standing_of, gone}
use Rattle.mgs_replay.specs.Served.{standing_in, label_of, labels_in, ClientShows, LabelShows, ClientDue, IsLineDue, Differ, IsApart, AreApart, AreHeld, IsHeld, session_in, IsReady, IsWaiting}
use Rattle.mgs_replay.proofs.Labels.{differ_never, apart_push, apart_gone, each, both, found_now}
use Rattle.mgs_replay.proofs.Staying.{Beside, is_found, opened_others, opened_stays}
use Rattle.mgs_replay.proofs.There.{IsThere, AreThere, are_kept, are_still, are_gone}

-- BYTES THAT WAIT

-- what a call appended draws the screen after it
drawn_by : (old new : Serving) (id : ℕ) (x y : Session) → pending_of id old ≡ [] → PaintedBy old new id x y → Draws Anything (pending_of id new) (shown (screen old.world x)) (shown (screen new.world y))
drawn_by old new id x y none p =
    let all : pending_of id new ≡ p.bytes = p.appended ∙ ap (λ (bs : List ℕ). bs ++ p.bytes) none in
    Draws-at Anything p.bytes (pending_of id new) (shown (screen old.world x)) (shown (screen old.world x)) (shown (screen new.world y)) all refl
    (Draws-weaken (IsFaithful (cells_of (screen new.world y))) p.bytes (shown (screen old.world x)) (shown (screen new.world y)) p.draws)

-- AN EVENT THAT LEAVES THE SESSIONS OF THE LABELS OPEN

client_due : (old new : Serving) (x : Client) → NoneWaits old → Painted old new → IsThere new.world (standing_in x) → ClientShows old.world x → ClientDue new x
unfolding IsThere
client_due old new clients.Never taken painted there h = tt
client_due old new (clients.Open id term) taken painted there h =
    let y = is_found (find_session id new.world.sessions) there in
    (y.0, shown (screen old.world h.0), y.1, h.2, drawn_by old new id h.0 y.0 (taken id (ap is_some h.1)) (painted id h.0 y.0 h.1 y.1))
client_due old new (clients.Ended cause) taken painted there h = tt

all_due : (old new : Serving) (xs : List Labelled) → NoneWaits old → Painted old new → AreThere new.world (labels_in xs) → All (LabelShows old.world) xs → All (IsLineDue new) xs
all_due old new xs taken painted there h =
    both (λ x. IsThere new.world (standing_in x.client)) (LabelShows old.world) (IsLineDue new) (λ x t s. client_due old new x.client taken painted t s) xs
    (All-unmap (λ (x : Label). IsThere new.world x.standing) label_of xs there) h

-- between two events each label's session is open
there_one : (w : World) (x : Client) → ClientShows w x → IsThere w (standing_in x)
unfolding IsThere
there_one w clients.Never h = tt
there_one w (clients.Open id term) h = ap is_some h.1
there_one w (clients.Ended cause) h = tt

pub all_there : (w : World) (xs : List Labelled) → All (LabelShows w) xs → AreThere w (labels_in xs)
all_there w xs h = All-map (λ (x : Label). IsThere w x.standing) label_of xs (All-weaker (LabelShows w) (λ x. IsThere w (standing_in x.client)) (λ x s. there_one w x.client s) xs h)

-- LABELS

mapped : (o : Option Labelled) → option_map (λ (x : Label). x.standing) (option_map label_of o) ≡ option_map standing_in (option_map (λ (x : Labelled). x.client) o)
mapped None = refl
mapped (Some x) = refl

pub standing_at : (name : List ℕ) (xs : List Labelled) → standing_of name (labels_in xs) ≡ option_map standing_in (client_of name xs)
standing_at name xs =
    ap (option_map (λ (x : Label). x.standing)) (find-map label_of (is_labelled name) (is_called name) (λ x. refl) xs)
    ∙ mapped (find (is_labelled name) xs)

gone_one : (name : List ℕ) (cause : Cause) (x : Labelled) → label_of (ended_by name cause x) ≡ gone name cause (label_of x)
gone_one name cause x =
    elim (same_name name x.label) as (λ b. label_of (cond b (record { label = x.label; client = clients.Ended cause }) x) ≡ cond b (label x.label (Gone cause)) (label_of x)) [
      | true ↦ refl
      | false ↦ refl
    ]

pub labels_gone : (name : List ℕ) (cause : Cause) (xs : List Labelled) → labels_in (map (ended_by name cause) xs) ≡ map (gone name cause) (labels_in xs)
labels_gone name cause [] = refl
labels_gone name cause (x ∷ xs) =
    let a : label_of (ended_by name cause x) ≡ gone name cause (label_of x) = gone_one name cause x in
    let b : labels_in (map (ended_by name cause) xs) ≡ map (gone name cause) (labels_in xs) = labels_gone name cause xs in
    cc

-- APART

pub labels_push : (xs : List Labelled) (y : Labelled) → labels_in (xs ++ y ∷ []) ≡ labels_in xs ++ label_of y ∷ []
labels_push xs y = map-append label_of xs (y ∷ [])

pub apart_never : (xs : List Labelled) (name : List ℕ) → AreApart (labels_in xs) → AreApart (labels_in (xs ++ record { label = name; client = clients.Never } ∷ []))
apart_never xs name h =
    subst AreApart (sym (labels_push xs (record { label = name; client = clients.Never })))
    (apart_push (labels_in xs) (label name Never) h (each (λ x. IsApart x (label name Never)) (labels_in xs) (λ x. differ_never x.standing)))

fresh_one : (w : World) (id : ℕ) (x : Client) → find_size id (sizes w) ≡ None → ClientShows w x → Differ (standing_in x) (Has id)
fresh_one w id clients.Never fresh h = tt
fresh_one w id (clients.Open mine term) fresh h =
    let goal : Bool → Type 0 = λ b. nat_eq id mine ≡ b → b ≡ false in
    let go : (b : Bool) → goal b =
    λ b. elim b as goal [
      | true ↦ λ e.
          let same : id ≡ mine = eqb-true _ _ e in
          let is : find_size mine (sizes w) ≡ Some (session_size h.0) = found_sizes mine w ∙ ap (option_map session_size) h.1 in
          let none : find_size mine (sizes w) ≡ None = ap (λ (n : ℕ). find_size n (sizes w)) (sym same) ∙ fresh in
          cc
      | false ↦ λ e. refl
    ]
    in go (nat_eq id mine) refl
fresh_one w id (clients.Ended cause) fresh h = tt

pub apart_open : (w : World) (xs : List Labelled) (name : List ℕ) (id : ℕ) (term : Terminal) → find_size id (sizes w) ≡ None → All (LabelShows w) xs → AreApart (labels_in xs)
    → AreApart (labels_in (xs ++ record { label = name; client = clients.Open id term } ∷ []))
apart_open w xs name id term fresh shows h =
    subst AreApart (sym (labels_push xs (record { label = name; client = clients.Open id term })))
    (apart_push (labels_in xs) (label name (Has id)) h
    (All-map (λ x. IsApart x (label name (Has id))) label_of xs
    (All-weaker (LabelShows w) (λ x. IsApart (label_of x) (label name (Has id))) (λ x s. fresh_one w id x.client fresh s) xs shows)))

-- THE SESSION OF THE EVENT STAYS OPEN

held_still : (w v : World) (xs : List Labelled) (id : ℕ) → IsHeld id xs → AreHeld w xs → Beside id w v → AreHeld v xs
held_still w v xs id mine held beside other there = go (nat_eq id other) refl
  where
    go : (b : Bool) → nat_eq id other ≡ b → IsHeld other xs
    go true e = subst (λ n. IsHeld n xs) (eqb-true id other e) mine
    go false e = held other (sym (beside.others other e) ∙ there)

pub waiting_still : (old new : Serving) (xs : List Labelled) (name : List ℕ) (id : ℕ) → IsReady old xs → session_in name xs ≡ Some id → Beside id old.world new.world → is_open id new.world ≡ true → Painted old new → IsWaiting new xs
waiting_still old new xs name id ready now beside still painted = record {
  due = all_due old new xs ready.taken painted (are_still old.world new.world id (labels_in xs) beside still (all_there old.world xs ready.shows)) ready.shows;
  apart = ready.apart;
  held = held_still old.world new.world xs id (name, now) ready.held beside;
}

-- IT ENDS, AND SO DOES ITS LABEL'S

ended_shows : (w : World) (name : List ℕ) (cause : Cause) (x : Labelled) → LabelShows w x → LabelShows w (ended_by name cause x)
ended_shows w name cause x h =
    elim (same_name name x.label) as (λ b. LabelShows w (cond b (record { label = x.label; client = clients.Ended cause }) x)) [ true ↦ tt | false ↦ h ]

gone_name : (name : List ℕ) (cause : Cause) (mine : List ℕ) (x : Label) → is_called mine (gone name cause x) ≡ is_called mine x
gone_name name cause mine x = go (is_called name x)
  where
    go : (b : Bool) → is_called mine (cond b (label x.name (Gone cause)) x) ≡ is_called mine x
    go true = refl
    go false = refl

found_passes : {A : Type 0} (p : A → Bool) (xs : List A) (x : A) → find p xs ≡ Some x → p x ≡ true
found_passes p [] x e = cc
found_passes p (y ∷ ys) x e = go (p y) refl e (found_passes p ys x)
  where
    go : (b : Bool) → p y ≡ b → cond b (Some y) (find p ys) ≡ Some x → (find p ys ≡ Some x → p x ≡ true) → p x ≡ true
    go true h f later =
        let same : y ≡ x = cc in
        ap p (sym same) ∙ h
    go false h f later = later f

-- the labels of other sessions keep theirs
kept_by : (name mine : List ℕ) (cause : Cause) (id other : ℕ) (ls : List Label) → session_now (standing_of name ls) ≡ Some id → session_now (standing_of mine ls) ≡ Some other → nat_eq id other ≡ false → session_now (standing_of mine (map (gone name cause) ls)) ≡ Some other
kept_by name mine cause id other ls now has apart =
    let z = found_now (find (is_called mine) ls) other has in
    let is : standing_of mine (map (gone name cause) ls) ≡ Some (gone name cause z.0).standing =
    ap (option_map (λ (x : Label). x.standing)) (find-map (gone name cause) (is_called mine) (is_called mine) (gone_name name cause mine) ls ∙ ap (option_map (gone name cause)) z.1) in
    let called : is_called mine z.0 ≡ true = found_passes (is_called mine) ls z.0 z.1 in
    ap session_now is ∙ go z.0 called z.2 (is_called name z.0) refl
  where
    go : (x : Label) → is_called mine x ≡ true → x.standing ≡ Has other → (b : Bool) → is_called name x ≡ b → session_now (Some (cond b (label x.name (Gone cause)) x).standing) ≡ Some other
    go x called stands false e = ap (λ s. session_now (Some s)) stands
    go x called stands true e =
        let same : name ≡ mine = same_names name x.name e ∙ sym (same_names mine x.name called) in
        let both_now : Some id ≡ Some other = sym now ∙ ap (λ n. session_now (standing_of n ls)) same ∙ has in
        let ids : id ≡ other = cc in
        let clash : true ≡ false = sym (eq-eqb id other ids) ∙ apart in
        absurd cc

held_gone : (w v : World) (xs : List Labelled) (name : List ℕ) (id : ℕ) (cause : Cause) → session_in name xs ≡ Some id → AreHeld w xs → Beside id w v → is_open id v ≡ false → AreHeld v (map (ended_by name cause) xs)
held_gone w v xs name id cause now held beside none other there = go (nat_eq id other) refl
  where
    go : (b : Bool) → nat_eq id other ≡ b → IsHeld other (map (ended_by name cause) xs)
    go true e =
        let clash : true ≡ false = sym there ∙ ap (λ n. is_open n v) (sym (eqb-true id other e)) ∙ none in
        absurd cc
    go false e =
        let by = held other (sym (beside.others other e) ∙ there) in
        (by.0, ap (λ ls. session_now (standing_of by.0 ls)) (labels_gone name cause xs) ∙ kept_by name by.0 cause id other (labels_in xs) now by.1 e)

pub waiting_gone : (old new : Serving) (name : List ℕ) (id : ℕ) (cause : Cause) (xs : List Labelled) → IsReady old xs → session_in name xs ≡ Some id → Beside id old.world new.world → is_open id new.world ≡ false → Painted old new → IsWaiting new (map (ended_by name cause) xs)
waiting_gone old new name id cause xs ready now beside none painted =
    let gone_there : AreThere new.world (map (gone name cause) (labels_in xs)) =
    are_gone old.world new.world name id cause (labels_in xs) beside now ready.apart (all_there old.world xs ready.shows) in
    record {
      due = all_due old new (map (ended_by name cause) xs) ready.taken painted
          (subst (AreThere new.world) (sym (labels_gone name cause xs)) gone_there)
          (All-map (LabelShows old.world) (ended_by name cause) xs (All-weaker (LabelShows old.world) (λ x. LabelShows old.world (ended_by name cause x)) (ended_shows old.world name cause) xs ready.shows));
      apart = subst AreApart (sym (labels_gone name cause xs)) (apart_gone name cause (labels_in xs) ready.apart);
      held = held_gone old.world new.world xs name id cause now ready.held beside none;
    }

-- AN OPEN

blank_is : (rows cols : ℕ) → IsSize rows cols → IsScreen (blank_screen rows cols)
blank_is rows cols h = record { size = h; covered = length-replicate (rows * cols) blank_cell; row_in = omega (arith, h.some_rows); col_in = omega (arith, h.some_cols) }

screen_rows : (w : World) (y : Session) → (screen w y).rows ≡ y.rows
unfolding draw
screen_rows w y = refl

screen_cols : (w : World) (y : Session) → (screen w y).cols ≡ y.cols
unfolding draw
screen_cols w y = refl

opened_due : (new : Serving) (zs : List Size) (id rows cols : ℕ) (y : Session) → IsSize rows cols → sizes new.world ≡ zs ++ record { id = id; rows = rows; cols = cols } ∷ [] → find_size id zs ≡ None
    → find_session id new.world.sessions ≡ Some y → Paints (screen new.world y) (pending_of id new) → ClientDue new (clients.Open id (resting (blank_screen rows cols)))
opened_due new zs id rows cols y size more fresh found paints =
    let z : Size = record { id = id; rows = rows; cols = cols } in
    let is : Some (session_size y) ≡ Some z = ap (option_map session_size) (sym found) ∙ sym (found_sizes id new.world) ∙ ap (find_size id) more ∙ known_last zs z fresh in
    let same : session_size y ≡ z = cc in
    let rows_are : y.rows ≡ rows = ap (λ (s : Size). s.rows) same in
    let cols_are : y.cols ≡ cols = ap (λ (s : Size). s.cols) same in (
      y,
      blank_screen rows cols,
      found,
      refl,
      Draws-weaken (IsFaithful (cells_of (screen new.world y))) (pending_of id new) (blank_screen rows cols) (shown (screen new.world y))
          (paints.draws (blank_screen rows cols) (blank_is rows cols size) (sym (screen_rows new.world y ∙ rows_are)) (sym (screen_cols new.world y ∙ cols_are))),
    )

-- a label more leaves the others their sessions
kept_push : (name : List ℕ) (id : ℕ) (ls : List Label) (l : Label) → session_now (standing_of name ls) ≡ Some id → session_now (standing_of name (ls ++ l ∷ [])) ≡ Some id
kept_push name id ls l now =
    let z = found_now (find (is_called name) ls) id now in
    ap (λ o. session_now (option_map (λ (x : Label). x.standing) o))
    (find-append (is_called name) ls (l ∷ []) ∙ ap (λ o. option_or o (find (is_called name) (l ∷ []))) z.1)
    ∙ ap (λ s. session_now (Some s)) z.2

held_push : (xs : List Labelled) (y : Labelled) (id : ℕ) → IsHeld id xs → IsHeld id (xs ++ y ∷ [])
held_push xs y id held = (held.0, ap (λ ls. session_now (standing_of held.0 ls)) (labels_push xs y) ∙ kept_push held.0 id (labels_in xs) (label_of y) held.1)

-- and has its own, where its name is new
new_push : (name : List ℕ) (id : ℕ) (ls : List Label) → is_some (standing_of name ls) ≡ false → session_now (standing_of name (ls ++ label name (Has id) ∷ [])) ≡ Some id
new_push name id ls free =
    ap (λ o. session_now (option_map (λ (x : Label). x.standing) o)) (find-append (is_called name) ls (label name (Has id) ∷ []))
    ∙ go (find (is_called name) ls) free
    ∙ ap (λ b. session_now (option_map (λ (x : Label). x.standing) (cond b (Some (label name (Has id))) None))) (is_name name)
  where
    go : (o : Option Label) → is_some (option_map (λ (x : Label). x.standing) o) ≡ false
        → session_now (option_map (λ (x : Label). x.standing) (option_or o (find (is_called name) (label name (Has id) ∷ [])))) ≡ session_now (option_map (λ (x : Label). x.standing) (find (is_called name) (label name (Has id) ∷ [])))
    go None e = refl
    go (Some x) e = absurd cc

held_opened : (w v : World) (xs : List Labelled) (name user : List ℕ) (id rows cols : ℕ) (term : Terminal) → is_some (standing_of name (labels_in xs)) ≡ false → AreHeld w xs → can_open w id user rows cols ≡ true → v ≡ step w (Open id user rows cols)
    → AreHeld v (xs ++ record { label = name; client = clients.Open id term } ∷ [])
held_opened w v xs name user id rows cols term free held can is other there = go (nat_eq id other) refl
  where
    last : Labelled
    last = record { label = name; client = clients.Open id term }

    go : (b : Bool) → nat_eq id other ≡ b → IsHeld other (xs ++ last ∷ [])
    go true e =
        subst (λ n. IsHeld n (xs ++ last ∷ [])) (eqb-true id other e)
        (name, ap (λ ls. session_now (standing_of name ls)) (labels_push xs last) ∙ new_push name id (labels_in xs) free)
    go false e = held_push xs last other (held other (sym (opened_others other id user rows cols w can e) ∙ ap (is_open other) (sym is) ∙ there))

-- a session opens, and its label gets a terminal
pub waiting_opened : (old new : Serving) (xs : List Labelled) (name user : List ℕ) (id rows cols : ℕ) (y : Session) → is_some (standing_of name (labels_in xs)) ≡ false → IsReady old xs → IsSize rows cols → OpenedBy old.world new.world user rows cols (Ok id)
    → sizes new.world ≡ sizes old.world ++ record { id = id; rows = rows; cols = cols } ∷ [] → find_size id (sizes old.world) ≡ None → Painted old new
    → find_session id new.world.sessions ≡ Some y → Paints (screen new.world y) (pending_of id new)
    → IsWaiting new (xs ++ record { label = name; client = clients.Open id (resting (blank_screen rows cols)) } ∷ [])
waiting_opened old new xs name user id rows cols y free ready size opened more fresh painted found paints =
    let last : Labelled = record { label = name; client = clients.Open id (resting (blank_screen rows cols)) } in
    let keeps : (other : ℕ) → is_open other old.world ≡ true → is_open other new.world ≡ true =
    λ other there. ap (is_open other) opened.ok.2 ∙ opened_stays other id user rows cols old.world opened.ok.1 there in
    record {
      due = All-append (IsLineDue new) xs (last ∷ [])
          (all_due old new xs ready.taken painted (are_kept old.world new.world (labels_in xs) keeps (all_there old.world xs ready.shows)) ready.shows)
          (All-cons (IsLineDue new) last [] (opened_due new (sizes old.world) id rows cols y size more fresh found paints) (All-nil (IsLineDue new)));
      apart = apart_open old.world xs name id (resting (blank_screen rows cols)) fresh ready.shows ready.apart;
      held = held_opened old.world new.world xs name user id rows cols (resting (blank_screen rows cols)) free ready.held opened.ok.1 opened.ok.2;
    }

-- nothing opens, and a label is used up
pub ready_never : (e : Serving) (xs : List Labelled) (name : List ℕ) → IsReady e xs → IsReady e (xs ++ record { label = name; client = clients.Never } ∷ [])
ready_never e xs name h = record {
  taken = h.taken;
  told = h.told;
  shows = All-append (LabelShows e.world) xs (record { label = name; client = clients.Never } ∷ []) h.shows (All-cons (LabelShows e.world) (record { label = name; client = clients.Never }) [] tt (All-nil (LabelShows e.world)));
  apart = apart_never xs name h.apart;
  held = λ id there. held_push xs (record { label = name; client = clients.Never }) id (h.held id there);
}

-- before the first session
pub ready_first : (e : Serving) → e.world.sessions ≡ [] → e.queues ≡ [] → e.ended ≡ [] → IsReady e []
ready_first e sessions queues ended = record {
  taken = λ id there. ap (λ qs. waiting_in (find_queue id qs)) queues;
  told = ended;
  shows = All-nil (LabelShows e.world);
  apart = tt;
  held = λ id there.
      let clash : true ≡ false = sym there ∙ ap (λ xs. is_some (find_session id xs)) sessions in
      absurd cc;
}

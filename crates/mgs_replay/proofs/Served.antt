-- Terminals that take what waits for them show their screens.
use Rattle.std.proofs.Common.{◌≡◌, ℕ, ◌+◌, ◌<◌, Bool, true, false, cond, List, [], ◌∷◌, ◌++◌, length, take, drop, get_or, set, Option, Some, None, Result, Ok, Err, refl, sym, ap, subst, ◌∙◌, arith, eq-eqb}
use Rattle.std.specs.Prelude.{find, nat_eq, All, OnOk}
use Rattle.std.specs.Option.{option_map}
use Rattle.std.proofs.lemmas.Bool.{eqb-true}
use Rattle.std.proofs.lemmas.List.{drop_all, take_more, take_more_set}
use Rattle.std.proofs.lemmas.List.Elements.{All-nil, All-cons, All-head, All-tail}
use Rattle.mgs_model.proofs.Firsts.{find-change_first, find-change_first_other}
use Rattle.mgs_model.specs.World.{World}
use Rattle.mgs_model.specs.Draw.{screen}
use Rattle.mgs_model.specs.Events.{is_open}
use Rattle.mgs_term.specs.Drawing.{Draws, Anything}
use Rattle.mgs_paint.specs.Painting.{shown}
use Rattle.mgs_engine.specs.Does.{taken_by}
use Rattle.mgs_engine.specs.Serving.{Serving, pending_of}
use Rattle.mgs_engine.specs.Queues.{Queue, after_taking, waiting_in, find_queue, is_queue_of}
use Rattle.mgs_core.proofs.Ids.{All-unmap}
use Rattle.mgs_replay.specs.declared.client.Labelled.{Labelled}
use Rattle.mgs_replay.specs.declared.client.Client.{Client}
use Rattle.mgs_replay.specs.declared.client.Client.TheVariants.{Never, Open, Ended}
use Rattle.mgs_replay.specs.Players.{Label, is_called, session_now, standing_of}
use Rattle.mgs_replay.specs.Served.{all_taken_by, AllTake, AreApart, AreHeld, ClientDue, ClientShows, ClientTakes, Differ, IsApart, IsHeld, IsLineDue, IsReady, IsWaiting, LabelShows, Takes, label_of, labels_in, standing_in}
use Rattle.mgs_replay.proofs.Labels.{both}
use Rattle.mgs_replay.proofs.Mapped.{same_at}

-- ALL THAT WAITS FOR A SESSION IS TAKEN

dropped : (n : ℕ) (o : Option Queue) → waiting_in o ≡ [] → waiting_in (option_map (after_taking n) o) ≡ []
dropped n None e = refl
dropped n (Some x) e = ap (drop n) e ∙ drop_all n [] (omega arith)

emptied : (o : Option Queue) → waiting_in (option_map (after_taking (length (waiting_in o))) o) ≡ []
emptied None = refl
emptied (Some x) = drop_all (length x.bytes) x.bytes (omega arith)

mine_taken : (id : ℕ) (e : Serving) → pending_of id (all_taken_by id e) ≡ []
mine_taken id e =
    ap waiting_in (find-change_first (is_queue_of id) (after_taking (length (pending_of id e))) (λ x. refl) e.queues)
    ∙ emptied (find_queue id e.queues)

is_other : (mine id : ℕ) → nat_eq id mine ≡ false → (x : Queue) → is_queue_of id x ≡ true → is_queue_of mine x ≡ false
is_other mine id e x h = ap (λ n. nat_eq n mine) (eqb-true x.id id h) ∙ e

others_wait : (mine id n : ℕ) (e : Serving) → nat_eq id mine ≡ false → pending_of mine (taken_by id n e) ≡ pending_of mine e
others_wait mine id n e other = ap waiting_in (find-change_first_other (is_queue_of id) (is_queue_of mine) (after_taking n) (λ x. refl) (is_other mine id other) e.queues)

still_none : (mine id n : ℕ) (e : Serving) → pending_of mine e ≡ [] → pending_of mine (taken_by id n e) ≡ []
still_none mine id n e none = go (nat_eq id mine) refl
  where
    go : (b : Bool) → nat_eq id mine ≡ b → pending_of mine (taken_by id n e) ≡ []
    go true same =
        let is : id ≡ mine = eqb-true id mine same in
        subst (λ k. pending_of k (taken_by id n e) ≡ []) is
        (ap waiting_in (find-change_first (is_queue_of id) (after_taking n) (λ x. refl) e.queues)
        ∙ dropped n (find_queue id e.queues) (subst (λ k. pending_of k e ≡ []) (sym is) none))
    go false other = others_wait mine id n e other ∙ none

-- ONE LABEL

same_world : (e f : Serving) (c d : Client) → ClientTakes e c f d → f.world ≡ e.world
same_world e f Never d h = ap (λ (s : Serving). s.world) h.0
same_world e f (Open id term) d h = ap (λ (s : Serving). s.world) h.0
same_world e f (Ended cause) d h = ap (λ (s : Serving). s.world) h.0

same_standing : (e f : Serving) (c d : Client) → ClientTakes e c f d → standing_in d ≡ standing_in c
same_standing e f Never d h = ap standing_in h.1
same_standing e f (Open id term) d h = ap standing_in h.1.1
same_standing e f (Ended cause) d h = ap standing_in h.1

none_stays : (e f : Serving) (c d : Client) (mine : ℕ) → ClientTakes e c f d → pending_of mine e ≡ [] → pending_of mine f ≡ []
none_stays e f Never d mine h none = ap (pending_of mine) h.0 ∙ none
none_stays e f (Open id term) d mine h none = ap (pending_of mine) h.0 ∙ still_none mine id (length (pending_of id e)) e none
none_stays e f (Ended cause) d mine h none = ap (pending_of mine) h.0 ∙ none

-- nothing waits for its own session then
mine_none : (e f : Serving) (c d : Client) (mine : ℕ) → ClientTakes e c f d → session_now (Some (standing_in c)) ≡ Some mine → pending_of mine f ≡ []
mine_none e f Never d mine h now = absurd cc
mine_none e f (Open id term) d mine h now =
    let is : id ≡ mine = cc in
    subst (λ k. pending_of k f ≡ []) is (ap (pending_of id) h.0 ∙ mine_taken id e)
mine_none e f (Ended cause) d mine h now = absurd cc

-- its terminal shows its screen then
shows_then : (e f : Serving) (c d : Client) → ClientTakes e c f d → ClientDue e c → ClientShows e.world d
shows_then e f Never d h due = subst (ClientShows e.world) (sym h.1) tt
shows_then e f (Open id term) d h due = subst (ClientShows e.world) (sym h.1.1) (due.0, due.2, h.1.2 due.1 (shown (screen e.world due.0)) due.3 due.4)
shows_then e f (Ended cause) d h due = subst (ClientShows e.world) (sym h.1) tt

-- what waits for the other labels stays
due_then : (e f : Serving) (c d x : Client) → ClientTakes e c f d → Differ (standing_in c) (standing_in x) → ClientDue e x → ClientDue f x
due_then e f Never d x h apart due = subst (λ s. ClientDue s x) (sym h.0) due
due_then e f (Ended cause) d x h apart due = subst (λ s. ClientDue s x) (sym h.0) due
due_then e f (Open id term) d Never h apart due = tt
due_then e f (Open id term) d (Ended cause) h apart due = tt
due_then e f (Open id term) d (Open mine other) h apart due =
    let same : pending_of mine (all_taken_by id e) ≡ pending_of mine e = others_wait mine id (length (pending_of id e)) e (swapped mine id apart) in
    subst (λ s. ClientDue s (Open mine other)) (sym h.0)
    (due.0, due.1, due.2, due.3, subst (λ bytes. Draws Anything bytes due.1 (shown (screen e.world due.0))) (sym same) due.4)
  where
    swapped : (a b : ℕ) → nat_eq a b ≡ false → nat_eq b a ≡ false
    swapped a b n = go (nat_eq b a) refl
      where
        go : (c : Bool) → nat_eq b a ≡ c → nat_eq b a ≡ false
        go false s = s
        go true s = let t : true ≡ false = sym (eq-eqb a b (sym (eqb-true b a s))) ∙ n in absurd cc

-- ALL LABELS

record Taken (e : Serving) (xs : List Labelled) (f : Serving) (ys : List Labelled) : Type 0 where
  world : f.world ≡ e.world
  none : (id : ℕ) → pending_of id e ≡ [] → pending_of id f ≡ []
  mine : (id : ℕ) → IsHeld id xs → pending_of id f ≡ []
  shows : All (LabelShows e.world) ys
  labels : labels_in ys ≡ labels_in xs

later_due : (e f : Serving) (x y : Labelled) (xs : List Labelled) → Takes e x f y → All (IsApart (label_of x)) (labels_in xs) → All (IsLineDue e) xs → All (IsLineDue f) xs
later_due e f x y xs h apart due =
    both (λ z. IsApart (label_of x) (label_of z)) (IsLineDue e) (IsLineDue f) (λ z a d. due_then e f x.client y.client z.client h.client a d) xs
    (All-unmap (IsApart (label_of x)) label_of xs apart) due

first_or_later : (e f g : Serving) (x y : Labelled) (xs : List Labelled) (id : ℕ) → Takes e x f y → ((mine : ℕ) → pending_of mine f ≡ [] → pending_of mine g ≡ []) → (IsHeld id xs → pending_of id g ≡ []) → IsHeld id (x ∷ xs) → pending_of id g ≡ []
first_or_later e f g x y xs id h stays later held = go (is_called held.0 (label_of x)) held.1
  where
    go : (b : Bool) → session_now (option_map (λ (z : Label). z.standing) (cond b (Some (label_of x)) (find (is_called held.0) (labels_in xs)))) ≡ Some id → pending_of id g ≡ []
    go true now = stays id (mine_none e f x.client y.client id h.client now)
    go false now = later (held.0, now)

same_label : (e f : Serving) (x y : Labelled) → Takes e x f y → label_of y ≡ label_of x
same_label e f x y h =
    let a : y.label ≡ x.label = h.label in
    let b : standing_in y.client ≡ standing_in x.client = same_standing e f x.client y.client h.client in
    cc

all_taken : (e : Serving) (xs : List Labelled) (f : Serving) (ys : List Labelled) → All (IsLineDue e) xs → AreApart (labels_in xs) → AllTake e xs f ys → Taken e xs f ys
all_taken e [] f ys due apart h = record {
  world = ap (λ (s : Serving). s.world) h.0;
  none = λ id n. ap (pending_of id) h.0 ∙ n;
  mine = λ id held. absurd (no_label held);
  shows = subst (All (LabelShows e.world)) (sym h.1) (All-nil (LabelShows e.world));
  labels = ap labels_in h.1;
}
  where
    no_label : {id : ℕ} → IsHeld id [] → ⊥
    no_label {id} held = let n : None ≡ Some id = held.1 in absurd cc
all_taken e (x ∷ xs) f ys due apart h =
    let one : Takes e x h.0 h.1 = h.3 in
    let rest : Taken h.0 xs f h.2 =
    all_taken h.0 xs f h.2 (later_due e h.0 x h.1 xs one apart.0 (All-tail (IsLineDue e) x xs due)) apart.1 h.4 in
    let world : h.0.world ≡ e.world = same_world e h.0 x.client h.1.client one.client in
    let first : LabelShows e.world h.1 = shows_then e h.0 x.client h.1.client one.client (All-head (IsLineDue e) x xs due) in
    let shows : All (LabelShows e.world) h.2 = subst (λ (w : World). All (LabelShows w) h.2) world rest.shows in
    record {
      world = rest.world ∙ world;
      none = λ id n. rest.none id (none_stays e h.0 x.client h.1.client id one.client n);
      mine = λ id held. first_or_later e h.0 f x h.1 xs id one rest.none (rest.mine id) held;
      shows = subst (All (LabelShows e.world)) (sym h.5) (All-cons (LabelShows e.world) h.1 h.2 first shows);
      labels = ap labels_in h.5 ∙ ap (λ ls. label_of h.1 ∷ ls) rest.labels ∙ ap (λ l. l ∷ labels_in xs) (same_label e h.0 x h.1 one);
    }

-- TAKEN AND TOLD

-- each terminal takes what waits for it, and then each session that ended is told
ready : (old mid new : Serving) (xs zs : List Labelled) → IsWaiting old xs → AllTake old xs mid zs → new ≡ record mid { ended = [] } → IsReady new zs
ready old mid new xs zs waiting h told =
    let all : Taken old xs mid zs = all_taken old xs mid zs waiting.due waiting.apart h in
    let held : AreHeld old.world zs = λ id there.
    let by = waiting.held id there in
    (by.0, ap (λ ls. session_now (standing_of by.0 ls)) all.labels ∙ by.1) in
    subst (λ (e : Serving). IsReady e zs) (sym told)
    (record {
      taken = λ id there. all.mine id (waiting.held id (subst (λ (w : World). is_open id w ≡ true) all.world there));
      told = refl;
      shows = subst (λ (w : World). All (LabelShows w) zs) (sym all.world) all.shows;
      apart = subst AreApart (sym all.labels) waiting.apart;
      held = subst (λ (w : World). AreHeld w zs) (sym all.world) held;
    })

pub ready_told : {E : Type 0} (r : Result (Unit {0}) E) (old mid new : Serving) (xs zs : List Labelled) → IsWaiting old xs → AllTake old xs mid zs → OnOk r (new ≡ record mid { ended = [] }) → OnOk r (IsReady new zs)
ready_told (Ok u) old mid new xs zs waiting h told = ready old mid new xs zs waiting h told
ready_told (Err e) old mid new xs zs waiting h told = tt

pub world_told : {E : Type 0} (r : Result (Unit {0}) E) (old mid new : Serving) (xs zs : List Labelled) → IsWaiting old xs → AllTake old xs mid zs → OnOk r (new ≡ record mid { ended = [] }) → OnOk r (new.world ≡ old.world)
world_told (Ok u) old mid new xs zs waiting h told = ap (λ (e : Serving). e.world) told ∙ (all_taken old xs mid zs waiting.due waiting.apart h).world
world_told (Err e) old mid new xs zs waiting h told = tt

pub labels_told : {E : Type 0} (r : Result (Unit {0}) E) (old mid : Serving) (xs zs : List Labelled) → IsWaiting old xs → AllTake old xs mid zs → OnOk r (labels_in zs ≡ labels_in xs)
labels_told (Ok u) old mid xs zs waiting h = (all_taken old xs mid zs waiting.due waiting.apart h).labels
labels_told (Err e) old mid xs zs waiting h = tt

-- ONE LABEL MORE TAKES

take_push : (e f g : Serving) (xs ys : List Labelled) (x y : Labelled) → AllTake e xs f ys → Takes f x g y → AllTake e (xs ++ x ∷ []) g (ys ++ y ∷ [])
take_push e f g [] ys x y h one =
    let here : Takes e x g y = subst (λ s. Takes s x g y) h.0 one in
    (g, y, [], here, (refl, refl), ap (λ zs. zs ++ y ∷ []) h.1)
take_push e f g (z ∷ xs) ys x y h one =
    (h.0, h.1, h.2 ++ y ∷ [], h.3, take_push h.0 f g xs h.2 x y h.4 one, ap (λ zs. zs ++ y ∷ []) h.5)

pub taken_more : (e f g : Serving) (xs ys : List Labelled) (i : ℕ) (d y : Labelled) → i < length xs → i < length ys → Takes f (get_or xs i d) g y → AllTake e (take i ys) f (take i xs) → drop i xs ≡ drop i ys
    → AllTake e (take (i + 1) ys) g (take (i + 1) (set xs i y))
taken_more e f g xs ys i d y l m one done rest =
    let here : Takes f (get_or ys i d) g y = subst (λ x. Takes f x g y) (same_at xs ys i d rest) one in
    subst (λ zs. AllTake e (take (i + 1) ys) g zs) (sym (take_more_set xs i y l))
    (subst (λ zs. AllTake e zs g (take i xs ++ y ∷ [])) (sym (take_more ys i d m))
    (take_push e f g (take i ys) (take i xs) (get_or ys i d) y done here))

-- Screens that are late, and the sessions that fall behind.
use Rattle.std.proofs.Common.{◌≡◌, ℕ, Bool, true, false, cond, List, [], ◌∷◌, length, get_or, map, Some, None, refl, sym, ap, ◌∙◌, eq-eqb}
use Rattle.std.specs.Prelude.{find, is_some, nat_eq, All}
use Rattle.std.specs.List.{filter}
use Rattle.std.specs.Option.{option_map}
use Rattle.std.proofs.lemmas.List.Elements.{All-head, All-tail, All-cons, All-nil, All-map}
use Rattle.std.proofs.lemmas.Option.{slice_get-get_or}
use Rattle.mgs_model.specs.Apply.{remove_first}
use Rattle.mgs_model.specs.Draw.{screen}
use Rattle.mgs_model.specs.Picture.{Picture}
use Rattle.mgs_model.specs.World.{World, Session, find_session}
use Rattle.mgs_world.specs.Worlds.{session_size, sizes, IsOther, IsUnique}
use Rattle.mgs_core.specs.Kept.{Kept}
use Rattle.mgs_core.proofs.Ids.{All-found, All-unmap, some_of, unique_found}
use Rattle.mgs_engine.specs.declared.session_end.Cause.{Cause}
use Rattle.mgs_engine.specs.declared.session_screen.Screen.{Screen}
use Rattle.mgs_engine.specs.Queues.{IsTaken}
use Rattle.mgs_engine.specs.Screens.{is_late, late_ids, queue_of, queues_of, screen_id, shown_size, AreRedrawn, IsDrawn, IsOnTime, IsRedrawn}
use Rattle.mgs_engine.specs.Served.{serving_of}
use Rattle.mgs_engine.specs.Serving.{NoneWaits, Serving, pending_of, size_id}
use Rattle.mgs_engine.specs.Slow.{falls_behind, is_slow, slow_ids}
use Rattle.mgs_engine.proofs.Painted.{pending_found}
use Rattle.mgs_engine.proofs.Pictures.{not_behind}

-- ONE SESSION

slow_one : (s : Serving) (v : World) (id : ℕ) (x y : Session) → find_session id s.world.sessions ≡ Some x → find_session id v.sessions ≡ Some y → is_slow s v id ≡ falls_behind (length (pending_of id s)) (screen s.world x) (screen v y)
slow_one s v id x y f g = rw (f, g) refl

-- a screen is late where its session falls behind
late_one : (s : Serving) (v : World) (x y : Screen) → IsDrawn s.world x → pending_of x.id s ≡ x.queue → IsRedrawn v x y → y.late ≡ is_slow s v y.id
late_one s v x y d p r =
    r.late
    ∙ ap (λ (q : Picture). falls_behind (length x.queue) q (screen v r.session)) d.picture
    ∙ ap (λ bs. falls_behind (length bs) (screen s.world d.session) (screen v r.session)) (sym p)
    ∙ sym (slow_one s v x.id d.session r.session d.found r.found)
    ∙ ap (is_slow s v) (sym r.id)

-- what shows the same in both worlds does not fall behind
still_one : (s : Serving) (v : World) (x : Screen) → IsDrawn s.world x → IsDrawn v x → is_slow s v x.id ≡ false
still_one s v x d e =
    slow_one s v x.id d.session e.session d.found e.found
    ∙ not_behind (length (pending_of x.id s)) (screen s.world d.session) (screen v e.session) (sym d.picture ∙ e.picture)

-- ALL

pendings : (w : Kept) (xs : List Screen) (es : List (ℕ × Cause)) → IsUnique (map shown_size xs) → All (λ (x : Screen). pending_of x.id (serving_of w xs es) ≡ x.queue) xs
pendings w xs es u = λ i d l.
    pending_found w xs es (get_or xs i d).id (get_or xs i d) (unique_found shown_size xs u i (get_or xs i d) (slice_get-get_or xs i d l))

late_each : (s : Serving) (v : World) (xs ys : List Screen) → All (IsDrawn s.world) xs → All (λ (x : Screen). pending_of x.id s ≡ x.queue) xs → AreRedrawn v xs ys → All (λ (y : Screen). y.late ≡ is_slow s v y.id) ys
late_each s v [] [] d p h = All-nil (λ (y : Screen). y.late ≡ is_slow s v y.id)
late_each s v [] (y ∷ ys) d p h = absurd h
late_each s v (x ∷ xs) [] d p h = absurd h
late_each s v (x ∷ xs) (y ∷ ys) d p h =
    let P : Screen → Type 0 = λ x. pending_of x.id s ≡ x.queue in
    All-cons (λ (y : Screen). y.late ≡ is_slow s v y.id) y ys
    (late_one s v x y (All-head (IsDrawn s.world) x xs d) (All-head P x xs p) h.0)
    (late_each s v xs ys (All-tail (IsDrawn s.world) x xs d) (All-tail P x xs p) h.1)

still_each : (s : Serving) (v : World) (xs : List Screen) → All (IsDrawn s.world) xs → All (IsDrawn v) xs → All IsOnTime xs → All (λ (x : Screen). x.late ≡ is_slow s v x.id) xs
still_each s v xs d e t = λ i z l. t i z l ∙ sym (still_one s v (get_or xs i z) (d i z l) (e i z l))

screen_ids : (xs : List Screen) → map size_id (map shown_size xs) ≡ map (λ (x : Screen). x.id) xs
screen_ids [] = refl
screen_ids (x ∷ xs) = ap (λ is. x.id ∷ is) (screen_ids xs)

session_ids : (xs : List Session) → map size_id (map session_size xs) ≡ map (λ (x : Session). x.id) xs
session_ids [] = refl
session_ids (x ∷ xs) = ap (λ is. x.id ∷ is) (session_ids xs)

filter_late : (p : ℕ → Bool) (ys : List Screen) → All (λ (y : Screen). y.late ≡ p y.id) ys → late_ids ys ≡ filter p (map (λ (x : Screen). x.id) ys)
filter_late p [] h = refl
filter_late p (y ∷ ys) h =
    let P : Screen → Type 0 = λ y. y.late ≡ p y.id in
    let rest : late_ids ys ≡ filter p (map (λ (x : Screen). x.id) ys) = filter_late p ys (All-tail P y ys h) in
    let of : List Screen → List ℕ = map (λ (x : Screen). x.id) in
    let go : (b : Bool) → of (cond b (y ∷ filter is_late ys) (filter is_late ys)) ≡ cond b (y.id ∷ filter p (of ys)) (filter p (of ys)) =
    λ b. elim b as (λ b. of (cond b (y ∷ filter is_late ys) (filter is_late ys)) ≡ cond b (y.id ∷ filter p (of ys)) (filter p (of ys))) [
      | true ↦ ap (λ is. y.id ∷ is) rest
      | false ↦ rest
    ]
    in go y.late ∙ ap (λ b. cond b (y.id ∷ filter p (of ys)) (filter p (of ys))) (All-head P y ys h)

late_slow : (s : Serving) (v : World) (ys : List Screen) → map shown_size ys ≡ sizes v → All (λ (y : Screen). y.late ≡ is_slow s v y.id) ys → late_ids ys ≡ slow_ids s v
late_slow s v ys e h =
    filter_late (is_slow s v) ys h
    ∙ ap (filter (is_slow s v)) (sym (screen_ids ys) ∙ ap (map size_id) e ∙ session_ids v.sessions)

-- the sessions of late screens are those that fall behind
pub late_are_slow : (w : Kept) (v : World) (xs ys : List Screen) (es : List (ℕ × Cause)) → IsUnique (map shown_size xs) → map shown_size ys ≡ sizes v → All (IsDrawn w.world) xs → AreRedrawn v xs ys → late_ids ys ≡ slow_ids (serving_of w xs es) v
late_are_slow w v xs ys es u e d h = late_slow (serving_of w xs es) v ys e (late_each (serving_of w xs es) v xs ys d (pendings w xs es u) h)

pub none_late : (xs : List Screen) → All IsOnTime xs → late_ids xs ≡ []
none_late [] h = refl
none_late (x ∷ xs) h =
    ap (λ b. map (λ (x : Screen). x.id) (cond b (x ∷ filter is_late xs) (filter is_late xs))) (All-head IsOnTime x xs h) ∙ none_late xs (All-tail IsOnTime x xs h)

-- where all screens stay, none falls behind
pub none_slow : (s : Serving) (v : World) (ys : List Screen) → map shown_size ys ≡ sizes v → All (IsDrawn s.world) ys → All (IsDrawn v) ys → All IsOnTime ys → slow_ids s v ≡ []
none_slow s v ys e d f t = sym (late_slow s v ys e (still_each s v ys d f t)) ∙ none_late ys t

-- where nothing waits for the open sessions, nothing waits for any screen
pub all_taken : (w : Kept) (xs : List Screen) (es : List (ℕ × Cause)) → IsUnique (map shown_size xs) → All (IsDrawn w.world) xs → NoneWaits (serving_of w xs es) → All IsTaken (queues_of xs)
all_taken w xs es u d none =
    All-map IsTaken queue_of xs (λ i z l. sym (pendings w xs es u i z l) ∙ none (get_or xs i z).id (ap is_some (d i z l).found))

-- then none is late
pub prompt_each : (w : World) (xs ys : List Screen) → All IsTaken (queues_of xs) → AreRedrawn w xs ys → All IsOnTime ys
prompt_each w [] [] t h = All-nil IsOnTime
prompt_each w [] (y ∷ ys) t h = absurd h
prompt_each w (x ∷ xs) [] t h = absurd h
prompt_each w (x ∷ xs) (y ∷ ys) t h =
    All-cons IsOnTime y ys (h.0.prompt (All-head IsTaken (queue_of x) (queues_of xs) t)) (prompt_each w xs ys (All-tail IsTaken (queue_of x) (queues_of xs) t) h.1)

-- ONE LATE SCREEN AFTER ANOTHER

-- the first late one goes by its id
pub late_goes : (xs : List Screen) (id : ℕ) → IsUnique (map shown_size xs) → option_map (λ (x : Screen). x.id) (find is_late xs) ≡ Some id → late_ids xs ≡ id ∷ late_ids (remove_first (screen_id id) xs)
late_goes [] id u e = cc
late_goes (x ∷ xs) id u e =
    let rest : List Screen = remove_first (screen_id id) xs in
    let ids : List Screen → List ℕ = map (λ (x : Screen). x.id) in
    let goal : Bool → Type 0 = λ b. x.late ≡ b → option_map (λ (x : Screen). x.id) (cond b (Some x) (find is_late xs)) ≡ Some id → ids (cond b (x ∷ filter is_late xs) (filter is_late xs)) ≡ id ∷ late_ids (cond (nat_eq x.id id) xs (x ∷ rest)) in
    let go : (b : Bool) → goal b =
    λ b. elim b as goal [
      | true ↦ λ l f.
          let same : x.id ≡ id = cc in
          ap (λ n. n ∷ late_ids xs) same ∙ ap (λ b. id ∷ late_ids (cond b xs (x ∷ rest))) (sym (eq-eqb x.id id same))
      | false ↦ λ l f.
          let y = some_of (λ (x : Screen). x.id) (find is_late xs) id f in
          let other : nat_eq x.id id ≡ false =
          ap (nat_eq x.id) (sym y.2) ∙ All-found (λ z. IsOther (shown_size x) (shown_size z)) is_late xs y.0 (All-unmap (IsOther (shown_size x)) shown_size xs u.0) y.1 in
          late_goes xs id u.1 f
          ∙ ap (λ b. id ∷ ids (cond b (x ∷ filter is_late rest) (filter is_late rest))) (sym l)
          ∙ ap (λ b. id ∷ late_ids (cond b xs (x ∷ rest))) (sym other)
    ]
    in go x.late refl e

pub on_time_all : (xs : List Screen) → find is_late xs ≡ None → All IsOnTime xs
on_time_all [] e = All-nil IsOnTime
on_time_all (x ∷ xs) e =
    let goal : Bool → Type 0 = λ b. x.late ≡ b → cond b (Some x) (find is_late xs) ≡ None → All IsOnTime (x ∷ xs) in
    let go : (b : Bool) → goal b =
    λ b. elim b as goal [ true ↦ λ l f. cc | false ↦ λ l f. All-cons IsOnTime x xs l (on_time_all xs f) ] in
    go x.late refl e

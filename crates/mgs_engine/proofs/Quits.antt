-- Whether a byte ended its session, and what becomes of the others.
use Rattle.std.proofs.Common.{◌≡◌, ℕ, true, false, cond, List, [], ◌∷◌, ◌++◌, Option, Some, None, length, get_or, refl, sym, ap, ◌∙◌, arith, ◌<◌, ◌≤◌}
use Rattle.std.specs.Prelude.{find, is_some}
use Rattle.std.specs.Option.{option_map}
use Rattle.std.proofs.lemmas.List.{append-nil}
use Rattle.mgs_model.proofs.Firsts.{find-map, find_at_place, find_none}
use Rattle.std.specs.List.{position_or_len}
use Rattle.mgs_engine.specs.Queues.{find_queue, is_queue_of}
use denote.Enum.Bare.{sameb}
use Rattle.mgs_model.specs.World.{World}
use Rattle.mgs_model.specs.Apply.{remove_first}
use Rattle.mgs_model.specs.contracts.errors.Keyed.{the_type}
use Rattle.mgs_model.specs.declared.errors.Keyed.{Keyed}
use Rattle.mgs_model.specs.declared.errors.Keyed.TheVariants.{Done, Short, Quit, NoSession}
use Rattle.mgs_world.specs.declared.size.Size.{Size}
use Rattle.mgs_core.specs.Calls.{closed, sizes_keyed}
use Rattle.mgs_engine.specs.declared.session_screen.Screen.{Screen}
use Rattle.mgs_engine.specs.Screens.{queue_of, queues_of, screen_id}
use Rattle.mgs_engine.specs.Served.{serving_of}
use Rattle.mgs_core.specs.Kept.{Kept, kept}
use Rattle.mgs_births.specs.Telling.{StoreTold}
use Rattle.mgs_engine.specs.declared.session_end.Cause.{Cause}
use Rattle.mgs_engine.specs.Serving.{Serving, ended_by, ended_keyed, ids_keyed, to_tell}
use Rattle.mgs_engine.proofs.Screens.{queues_removed}

pub ended : (k : Keyed) → sameb the_type k Quit ≡ true → k ≡ Quit
ended Quit e = refl
ended Done e = cc
ended Short e = cc
ended NoSession e = cc

-- where it did not, the sessions are those before
pub sizes_stay : (k : Keyed) (id : ℕ) (xs : List Size) → sameb the_type k Quit ≡ false → sizes_keyed k id xs ≡ xs
sizes_stay Quit id xs e = cc
sizes_stay Done id xs e = refl
sizes_stay Short id xs e = refl
sizes_stay NoSession id xs e = refl

pub ids_stay : (k : Keyed) (id : ℕ) (xs : List ℕ) → sameb the_type k Quit ≡ false → ids_keyed k id xs ≡ xs
ids_stay Quit id xs e = cc
ids_stay Done id xs e = refl
ids_stay Short id xs e = refl
ids_stay NoSession id xs e = refl

pub told_stay : (k : Keyed) (id : ℕ) (s : Serving) → sameb the_type k Quit ≡ false → ended_keyed k id s ≡ s.ended
told_stay Quit id s e = cc
told_stay Done id s e = refl
told_stay Short id s e = refl
told_stay NoSession id s e = refl

some_mapped : (o : Option Screen) → is_some o ≡ is_some (option_map queue_of o)
some_mapped None = refl
some_mapped (Some x) = refl

-- a session is served where it has a screen
pub is_served_by : (id : ℕ) (xs : List Screen) → is_some (find (screen_id id) xs) ≡ is_some (find_queue id (queues_of xs))
is_served_by id xs = some_mapped (find (screen_id id) xs) ∙ sym (ap is_some (find-map queue_of (screen_id id) (is_queue_of id) (λ x. refl) xs))

found_there : (id : ℕ) (xs : List Screen) → position_or_len (screen_id id) xs < length xs → (x : Screen) × (find (screen_id id) xs ≡ Some x)
found_there id [] l = absurd (omega arith)
found_there id (x ∷ xs) l = (get_or (x ∷ xs) (position_or_len (screen_id id) (x ∷ xs)) x, find_at_place (screen_id id) (x ∷ xs) x l)

-- it is told where there was a screen
pub told_at : (id : ℕ) (cause : Cause) (xs : List Screen) (es : List (ℕ × Cause)) (at : ℕ) → at ≡ position_or_len (screen_id id) xs → at < length xs → es ++ (id, cause) ∷ [] ≡ es ++ cond (is_some (find (screen_id id) xs)) ((id, cause) ∷ []) []
told_at id cause xs es at e l =
    let d : (x : Screen) × (find (screen_id id) xs ≡ Some x) = found_there id xs (omega (arith, e, l)) in
    ap (λ (o : Option Screen). es ++ cond (is_some o) ((id, cause) ∷ []) []) (sym d.1)

pub told_none : (id : ℕ) (cause : Cause) (xs : List Screen) (es : List (ℕ × Cause)) (at : ℕ) → at ≡ position_or_len (screen_id id) xs → at ≤ length xs → length xs ≤ at → es ≡ es ++ cond (is_some (find (screen_id id) xs)) ((id, cause) ∷ []) []
told_none id cause xs es at e most past =
    sym (append-nil es) ∙ ap (λ (o : Option Screen). es ++ cond (is_some o) ((id, cause) ∷ []) []) (sym (find_none (screen_id id) xs (omega (arith, e, most, past))))

-- its screen goes with it, and it is to be told
pub screen_less : (w v : Kept) (cause : Cause) (id : ℕ) (xs ys : List Screen) (es fs : List (ℕ × Cause)) → v.world ≡ closed w.world id → v.store ≡ w.store → ys ≡ remove_first (screen_id id) xs → fs ≡ es ++ cond (is_some (find (screen_id id) xs)) ((id, cause) ∷ []) []
    → serving_of v ys fs ≡ ended_by cause id (serving_of w xs es)
screen_less w v cause id xs ys es fs world store items told =
    let left : Kept = kept (closed w.world id) w.store in
    let told_is : fs ≡ es ++ to_tell cause id (serving_of w xs es) = told ∙ ap (λ b. es ++ cond b ((id, cause) ∷ []) []) (is_served_by id xs) in
    ap (λ (u : World). serving_of (kept u v.store) ys fs) world
    ∙ ap (λ (t : StoreTold). serving_of (kept (closed w.world id) t) ys fs) store
    ∙ ap (λ (zs : List Screen). serving_of left zs fs) items
    ∙ ap (serving_of left (remove_first (screen_id id) xs)) told_is
    ∙ ap (λ qs. let s : Serving = record { world = closed w.world id; store = w.store; queues = qs; ended = es ++ to_tell cause id (serving_of w xs es) } in s) (queues_removed id xs)

-- Screens beside the sizes of a world, as sessions open and close.
use Rattle.std.proofs.Common.{◌≡◌, ℕ, ◌+◌, ◌<◌, ◌≤◌, not, Bool, true, false, cond, List, [], ◌∷◌, ◌++◌, length, get_or, map, Option, Some, None, refl, sym, ap, subst, ◌∙◌, arith}
use Rattle.std.specs.Prelude.{find, is_some, nat_eq, slice_get, All, IsSome}
use Rattle.std.specs.Bool.{Decides}
use Rattle.mgs_model.specs.Events.{is_open}
use Rattle.std.specs.List.{position_or_len, remove}
use Rattle.std.proofs.lemmas.List.{map-append}
use Rattle.std.proofs.lemmas.List.Elements.{All-map, All-weaker}
use Rattle.std.specs.Option.{option_map}
use Rattle.mgs_model.proofs.Firsts.{find-map, find_none, place_found}
use Rattle.mgs_model.specs.Apply.{remove_first}
use Rattle.mgs_core.specs.Kept.{Kept}
use Rattle.mgs_core.proofs.Ids.{differ, found_sizes, known_at, mapped_got, map-remove_first, remove_at_first, remove_none}
use Rattle.mgs_model.specs.World.{World, Session, find_session}
use Rattle.mgs_world.specs.declared.size.Size.{Size}
use Rattle.mgs_world.specs.Worlds.{find_size, is_size_of, session_size, sizes, IsOther, IsUnique}
use Rattle.mgs_engine.specs.declared.session_end.Cause.{Cause}
use Rattle.mgs_engine.specs.declared.session_screen.Screen.{Screen}
use Rattle.mgs_engine.specs.Queues.{queue_id, waiting_in, find_queue, is_queue_of}
use Rattle.mgs_engine.specs.Screens.{queue_of, queues_of, shown_size, screen_id, IsKnown}
use Rattle.mgs_engine.specs.Serving.{AreUnique, IsWellFormed, size_id}
use Rattle.mgs_engine.specs.Served.{IsServed, serving_of}
use Rattle.std.proofs.lemmas.Option.{slice_get-get_or}

-- EACH SCREEN IS KNOWN BY ITS ID

pub known_each : (ss : List Size) (xs : List Screen) → map shown_size xs ≡ ss → IsUnique ss → All (IsKnown ss) xs
known_each ss xs e u = λ i d l.
    let x = get_or xs i d in
    known_at ss i (shown_size x) u (ap (λ (zs : List Size). slice_get zs i) (sym e) ∙ mapped_got shown_size xs i x (slice_get-get_or xs i d l))

-- QUEUES

unique_ids : (ss : List Size) → IsUnique ss → AreUnique (map size_id ss)
unique_ids [] u = tt
unique_ids (z ∷ zs) u = (
  All-map (λ x. nat_eq x z.id ≡ false) size_id zs (All-weaker (IsOther z) (λ y. nat_eq y.id z.id ≡ false) (λ y e. differ z.id y.id e) zs u.0),
  unique_ids zs u.1,
)

-- the ids of the queues are those of the sizes
pub ids_are : (xs : List Screen) → map queue_id (queues_of xs) ≡ map (λ (x : Size). x.id) (map shown_size xs)
ids_are [] = refl
ids_are (x ∷ xs) = ap (λ ys. x.id ∷ ys) (ids_are xs)

pub well_formed : (w : Kept) (xs : List Screen) (es : List (ℕ × Cause)) → IsServed w.world xs → IsWellFormed (serving_of w xs es)
well_formed w xs es h =
    let ids : map queue_id (queues_of xs) ≡ map size_id (sizes w.world) = ids_are xs ∙ ap (map size_id) h.sizes_are in
    record { queues = ids; unique = subst AreUnique (sym ids) (unique_ids (sizes w.world) h.unique) }

pub ids_same : (xs ys : List Screen) → map shown_size xs ≡ map shown_size ys → map queue_id (queues_of xs) ≡ map queue_id (queues_of ys)
ids_same xs ys e = ids_are xs ∙ ap (map (λ (x : Size). x.id)) e ∙ sym (ids_are ys)

pub queues_removed : (id : ℕ) (xs : List Screen) → queues_of (remove_first (screen_id id) xs) ≡ remove_first (is_queue_of id) (queues_of xs)
queues_removed id xs = map-remove_first queue_of (screen_id id) (is_queue_of id) (λ x. refl) xs

pub ids_removed : (id : ℕ) (xs : List Screen) → map queue_id (queues_of (remove_first (screen_id id) xs)) ≡ remove_first (λ x. nat_eq x id) (map queue_id (queues_of xs))
ids_removed id xs = ap (map queue_id) (queues_removed id xs) ∙ map-remove_first queue_id (is_queue_of id) (λ x. nat_eq x id) (λ x. refl) (queues_of xs)

pub ids_opened : (xs : List Screen) (y : Screen) → map queue_id (queues_of (xs ++ y ∷ [])) ≡ map queue_id (queues_of xs) ++ y.id ∷ []
ids_opened xs y = ap (map queue_id) (map-append queue_of xs (y ∷ [])) ∙ map-append queue_id (queues_of xs) (queue_of y ∷ [])

pub queue_none : (id : ℕ) (xs : List Screen) (at : ℕ) → at ≡ position_or_len (screen_id id) xs → at ≤ length xs → length xs ≤ at → waiting_in (find_queue id (queues_of xs)) ≡ []
queue_none id xs at e w l =
    ap waiting_in
    (find-map queue_of (screen_id id) (is_queue_of id) (λ x. refl) xs
    ∙ ap (option_map queue_of) (find_none (screen_id id) xs (omega (arith, e, w, l))))

some_found : (id : ℕ) (xs : List Screen) → position_or_len (screen_id id) xs < length xs → IsSome (option_map shown_size (find (screen_id id) xs))
some_found id [] l = absurd (omega arith)
some_found id (x ∷ xs) l =
    let goal : Bool → Type 0 = λ b. cond (not b) (1 + position_or_len (screen_id id) xs) 0 < length (x ∷ xs) → IsSome (option_map shown_size (cond b (Some x) (find (screen_id id) xs))) in
    let go : (b : Bool) → goal b = λ b. elim b as goal [ true ↦ λ h. refl | false ↦ λ h. some_found id xs (omega arith) ] in
    go (screen_id id x) l

found_some : (o : Option Screen) → IsSome (option_map shown_size o) → IsSome o
found_some None h = h
found_some (Some x) h = refl

-- a session is open where its screen has a place
pub open_place : (id : ℕ) (ss : List Size) (xs : List Screen) (at : ℕ) → map shown_size xs ≡ ss → at ≡ position_or_len (screen_id id) xs → (at < length xs → IsSome (find_size id ss)) × (IsSome (find_size id ss) → at < length xs)
open_place id ss xs at e is =
    let f : find_size id ss ≡ option_map shown_size (find (screen_id id) xs) =
    ap (find_size id) (sym e) ∙ find-map shown_size (screen_id id) (is_size_of id) (λ x. refl) xs in (
      λ l. rw f (some_found id xs (omega (arith, is, l))),
      λ h. omega (arith, is, place_found (screen_id id) xs (found_some (find (screen_id id) xs) (rw f at h))),
    )

tells : (o : Option Session) → Decides (is_some o) (IsSome (option_map session_size o))
tells None = (λ e. e, λ h. h)
tells (Some x) = (λ e. refl, λ h. refl)

pub open_tells : (id : ℕ) (w : World) → Decides (is_open id w) (IsSome (find_size id (sizes w)))
open_tells id w = rw (found_sizes id w) (tells (find_session id w.sessions))

pub open_at : (id : ℕ) (w : World) (xs : List Screen) (at : ℕ) → map shown_size xs ≡ sizes w → at ≡ position_or_len (screen_id id) xs → at < length xs → is_open id w ≡ false → ⊥
open_at id w xs at e is l closed =
    let there : is_open id w ≡ true = (open_tells id w).1 ((open_place id (sizes w) xs at e is).0 l) in
    cc

-- ONE GOES

pub removed_at : (id : ℕ) (xs : List Screen) (at : ℕ) → at ≡ position_or_len (screen_id id) xs → remove xs at ≡ remove_first (screen_id id) xs
removed_at id xs at e = ap (remove xs) e ∙ remove_at_first (screen_id id) xs

pub removed_none : (id : ℕ) (xs : List Screen) (at : ℕ) → at ≡ position_or_len (screen_id id) xs → at ≤ length xs → length xs ≤ at → xs ≡ remove_first (screen_id id) xs
removed_none id xs at e most past = sym (remove_none (screen_id id) xs (find_none (screen_id id) xs (omega (arith, e, most, past))))

-- THE SIZES OF THE SCREENS

pub sizes_removed : (id : ℕ) (xs : List Screen) (ss : List Size) → map shown_size xs ≡ ss → map shown_size (remove_first (screen_id id) xs) ≡ remove_first (is_size_of id) ss
sizes_removed id xs ss e = map-remove_first shown_size (screen_id id) (is_size_of id) (λ x. refl) xs ∙ ap (remove_first (is_size_of id)) e

pub sizes_opened : (xs : List Screen) (x : Screen) (ss : List Size) (y : Size) → map shown_size xs ≡ ss → shown_size x ≡ y → map shown_size (xs ++ x ∷ []) ≡ ss ++ y ∷ []
sizes_opened xs x ss y e is = map-append shown_size xs (x ∷ []) ∙ ap (λ zs. zs ++ shown_size x ∷ []) e ∙ ap (λ z. ss ++ z ∷ []) is

-- A buffer is killed: what its sessions used of it goes with it, and all else stays.
use Rattle.std.proofs.Common.{◌≡◌, ℕ, ◌+◌, Bool, true, false, not, cond, List, [], ◌∷◌, map, Option, Some, None, refl, sym, ap, subst, ◌∙◌, arith, min}
use Rattle.std.specs.Prelude.{filter, find, is_some, nat_eq}
use Rattle.mgs_model.specs.Access.{Directory}
use Rattle.mgs_model.specs.Names.{same_name}
use Rattle.mgs_model.specs.World.{Buffer, Buffer_of, is_named}
use Rattle.mgs_model.specs.World as model
use Rattle.mgs_model.specs.Apply.{state_without_search, remove_first, session_without_buffer, empty_window, without_buffer}
use Rattle.mgs_model.specs.Apply as model_apply
use Rattle.mgs_buffers.specs.MarkedBuffer.{MarkedBuffer, has_buffer, mark_at, marked_at, marked_named, marked_or_none, without_marked}
use Rattle.mgs_marks.specs.Marks.{mark_in, position_in}
use Rattle.mgs_windows.specs.declared.WindowMarks.{WindowMarks}
use Rattle.mgs_windows.specs.declared.Window.{Window}
use Rattle.mgs_windows.specs.declared.RowPane.{RowPane}
use Rattle.mgs_windows.specs.declared.RowPane.TheVariants.{NoRows, Buffers, Entries}
use Rattle.mgs_windows.specs.Panes.{is_place_in, places_without_buffer, rows_without_buffer, shows_without_buffer, window_without_buffer}
use Rattle.mgs_session.specs.declared.search.Search.{Search}
use Rattle.mgs_session.specs.declared.Session.{Session}
use Rattle.mgs_session.specs.Seeking.{unsearched}
use Rattle.mgs_world.specs.Killing.{session_forgetting, world_without}
use Rattle.mgs_world.specs.Sound.{IsSound, in_use, one_if, option_uses, place_uses, session_uses, sum_of, uses, window_marks_uses, window_uses}
use Rattle.mgs_world.specs.Worlds.{buffers_of, state_of, place_of, search_at, search_of, session_of, size_found, size_named, window_of, window_shown, world_of}
use Rattle.mgs_world.proofs.Marks.{other_name, same_is}
use Rattle.mgs_world.proofs.Worlds.{mapped_both, option_mapped, same_place, same_positions, same_window, same_world}

-- WHAT IS KEPT

-- a look-up by a test that fails at what goes
pub find_removed : {A : Type 0} (p q : A → Bool) → ((x : A) → p x ≡ true → q x ≡ false) → (xs : List A) → find q (remove_first p xs) ≡ find q xs
find_removed p q apart [] = refl
find_removed {A = A} p q apart (x ∷ xs) = go (p x) refl (find_removed p q apart xs)
  where
    go : (b : Bool) → p x ≡ b → find q (remove_first p xs) ≡ find q xs → find q (cond b xs (x ∷ remove_first p xs)) ≡ cond (q x) (Some x) (find q xs)
    go true e more = ap (λ b. cond b (Some x) (find q xs)) (sym (apart x e))
    go false e more = ap (cond (q x) (Some x)) more

kept_other : (n m : List ℕ) (ks : List MarkedBuffer) → same_name n m ≡ false → marked_at m (without_marked n ks) ≡ marked_at m ks
kept_other n m ks apart =
    ap marked_or_none (find_removed (marked_named n) (marked_named m) (λ k e. other_name n m k.buffer.name apart e) ks)

map_removed : {A B : Type 0} (h : A → B) (p : B → Bool) (xs : List A) → map h (remove_first (λ x. p (h x)) xs) ≡ remove_first p (map h xs)
map_removed h p [] = refl
map_removed h p (x ∷ xs) = go (p (h x)) (map_removed h p xs)
  where
    go : (b : Bool) → map h (remove_first (λ x. p (h x)) xs) ≡ remove_first p (map h xs) → map h (cond b xs (x ∷ remove_first (λ x. p (h x)) xs)) ≡ cond b (map h xs) (h x ∷ remove_first p (map h xs))
    go true more = refl
    go false more = ap (λ ys. h x ∷ ys) more

pub buffers_killed : (n : List ℕ) (ks : List MarkedBuffer) → buffers_of (without_marked n ks) ≡ without_buffer n (buffers_of ks)
buffers_killed n ks = map_removed (λ (k : MarkedBuffer). k.buffer) (is_named n) ks

-- WHAT THE SESSIONS SHOW

window_killed : (n : List ℕ) (ks : List MarkedBuffer) (height : ℕ) (o : Option WindowMarks) (rows : RowPane) → window_shown (without_marked n ks) height (shows_without_buffer n o) (rows_without_buffer n o rows) ≡ model_apply.window_without_buffer n (window_shown ks height o rows)
window_killed n ks height None NoRows = refl
window_killed n ks height None (Buffers row) = refl
window_killed n ks height None (Entries name row) = go (same_name n name)
  where
    go : (r : Bool) → window_shown (without_marked n ks) height None (cond r NoRows (Entries name row)) ≡ cond r (record empty_window { height = height }) (window_shown ks height None (Entries name row))
    go true = refl
    go false = refl
window_killed n ks height (Some x) rows = go (same_name n x.name) refl
  where
    go : (r : Bool) → same_name n x.name ≡ r → window_shown (without_marked n ks) height (cond r None (Some x)) NoRows ≡ cond r (record empty_window { height = height }) (window_shown ks height (Some x) NoRows)
    go true e = refl
    go false e =
        let there : (id : ℕ) → mark_at x.name (without_marked n ks) id ≡ mark_at x.name ks id =
        λ id. ap (λ (k : MarkedBuffer). position_in k.marks id) (kept_other n x.name ks e) in
        same_window (Buffer_of x.name) _ _ _ _ _ _ 0 height (there x.point) (option_mapped _ _ there x.mark) (there x.top)

places_killed : (n : List ℕ) (ks : List MarkedBuffer) (ps : List WindowMarks) → map (place_of (without_marked n ks)) (places_without_buffer n ps) ≡ filter (λ (p : model.Place). not (same_name n p.name)) (map (place_of ks) ps)
places_killed n ks [] = refl
places_killed n ks (x ∷ xs) = go (same_name n x.name) refl (places_killed n ks xs)
  where
    left : List model.Place
    left = filter (λ (p : model.Place). not (same_name n p.name)) (map (place_of ks) xs)

    go : (r : Bool) → same_name n x.name ≡ r → map (place_of (without_marked n ks)) (places_without_buffer n xs) ≡ left → map (place_of (without_marked n ks)) (cond (not r) (x ∷ places_without_buffer n xs) (places_without_buffer n xs)) ≡ cond (not r) (place_of ks x ∷ left) left
    go true e more = more
    go false e more =
        let there : (id : ℕ) → mark_at x.name (without_marked n ks) id ≡ mark_at x.name ks id =
        λ id. ap (λ (k : MarkedBuffer). position_in k.marks id) (kept_other n x.name ks e) in
        ap (λ p. p ∷ map (place_of (without_marked n ks)) (places_without_buffer n xs)) (same_place x.name _ _ _ _ (there x.point) (option_mapped _ _ there x.mark))
        ∙ ap (λ ps. place_of ks x ∷ ps) more

windows_killed : (n : List ℕ) (ks : List MarkedBuffer) (ws : List Window) → map (window_of (without_marked n ks)) (map (window_without_buffer n) ws) ≡ map (model_apply.window_without_buffer n) (map (window_of ks) ws)
windows_killed n ks ws = mapped_both (window_of (without_marked n ks)) (window_without_buffer n) (model_apply.window_without_buffer n) (window_of ks) (λ w. window_killed n ks w.height w.shows w.rows) ws

search_elsewhere : (n : List ℕ) (bs : List Buffer) (s : Search) → same_name n s.name ≡ false → search_at (without_buffer n bs) s ≡ search_at bs s
search_elsewhere n bs s e =
    let same : size_named s.name (without_buffer n bs) ≡ size_named s.name bs =
    ap size_found (find_removed (is_named n) (is_named s.name) (λ b is. other_name n s.name b.name e is) bs) in
    λ i. record { name = s.name; origin = min s.origin (same i); anchor = min s.anchor (same i) }

-- a session that has this search, or none
session_searching_killed : (n : List ℕ) (ks : List MarkedBuffer) (x : Session) (o : Option Search) → (let y : Session = record x { state = record x.state { search = o } } in session_of (without_marked n ks) (session_forgetting n y) ≡ session_without_buffer n (session_of ks y))
session_searching_killed n ks x None =
    same_positions (session_of ks (unsearched x)) _ _ _ _ _ _ (windows_killed n ks x.windows.windows) (places_killed n ks x.windows.places) refl
session_searching_killed n ks x (Some s) = go (same_name n s.name) refl
  where
    left : Bool → model.State
    left r = state_of (record x.state { search = cond r None (Some s); prompt = cond r None x.state.prompt })

    before : model.State
    before = state_of (record x.state { search = Some s })

    ws : List model.Window
    ws = map (model_apply.window_without_buffer n) (map (window_of ks) x.windows.windows)

    ps : List model.Place
    ps = filter (λ (p : model.Place). not (same_name n p.name)) (map (place_of ks) x.windows.places)

    go : (r : Bool) → same_name n s.name ≡ r
        → Path model.Session (record (session_of ks x) { windows = map (window_of (without_marked n ks)) (map (window_without_buffer n) x.windows.windows); places = map (place_of (without_marked n ks)) (places_without_buffer n x.windows.places); search = search_of (buffers_of (without_marked n ks)) (cond r None (Some s)); state = left r })
        (record (session_of ks x) { windows = ws; places = ps; search = cond r None (Some (search_at (buffers_of ks) s)); state = cond r (state_without_search before) before })
    go true e = same_positions (record (session_of ks x) { state = left true }) _ _ _ _ _ _ (windows_killed n ks x.windows.windows) (places_killed n ks x.windows.places) refl
    go false e =
        same_positions (record (session_of ks x) { state = left false }) _ _ _ _ _ _ (windows_killed n ks x.windows.windows) (places_killed n ks x.windows.places)
        (ap (λ (bs : List Buffer). search_of bs (Some s)) (buffers_killed n ks) ∙ ap (λ (q : model.Search). Some q) (search_elsewhere n (buffers_of ks) s e))

pub world_killed : (directory : Directory) (n : List ℕ) (ks : List MarkedBuffer) (xs : List Session) (next : Option ℕ) → world_of directory (without_marked n ks) (map (session_forgetting n) xs) next ≡ world_without n (world_of directory ks xs next)
world_killed directory n ks xs next = same_world directory _ _ _ _ _ (buffers_killed n ks) (mapped_both (session_of (without_marked n ks)) (session_forgetting n) (session_without_buffer n) (session_of ks) (λ x. session_searching_killed n ks x x.state.search) xs)

-- WHAT IS USED

sum_none : {A : Type 0} (f : A → ℕ) (g : A → A) → ((a : A) → f (g a) ≡ 0) → (xs : List A) → sum_of f (map g xs) ≡ 0
sum_none f g none [] = refl
sum_none f g none (x ∷ xs) = omega (arith, none x, sum_none f g none xs)

sum_same : {A : Type 0} (f : A → ℕ) (g : A → A) → ((a : A) → f (g a) ≡ f a) → (xs : List A) → sum_of f (map g xs) ≡ sum_of f xs
sum_same f g same [] = refl
sum_same f g same (x ∷ xs) = omega (arith, same x, sum_same f g same xs)

-- of what is left
sum_filtered_none : {A : Type 0} (f : A → ℕ) (t : A → Bool) → ((a : A) → t a ≡ true → f a ≡ 0) → (xs : List A) → sum_of f (filter t xs) ≡ 0
sum_filtered_none f t none [] = refl
sum_filtered_none f t none (x ∷ xs) = go (t x) refl (sum_filtered_none f t none xs)
  where
    go : (b : Bool) → t x ≡ b → sum_of f (filter t xs) ≡ 0 → sum_of f (cond b (x ∷ filter t xs) (filter t xs)) ≡ 0
    go true e more = omega (arith, none x e, more)
    go false e more = more

sum_filtered_same : {A : Type 0} (f : A → ℕ) (t : A → Bool) → ((a : A) → t a ≡ false → f a ≡ 0) → (xs : List A) → sum_of f (filter t xs) ≡ sum_of f xs
sum_filtered_same f t none [] = refl
sum_filtered_same f t none (x ∷ xs) = go (t x) refl (sum_filtered_same f t none xs)
  where
    go : (b : Bool) → t x ≡ b → sum_of f (filter t xs) ≡ sum_of f xs → sum_of f (cond b (x ∷ filter t xs) (filter t xs)) ≡ f x + sum_of f xs
    go true e more = ap (λ k. f x + k) more
    go false e more = omega (arith, none x e, more)

-- what shows another buffer uses nothing of this one
elsewhere : (n : List ℕ) (i : ℕ) (x : WindowMarks) → same_name n x.name ≡ false → place_uses n i x ≡ 0
elsewhere n i x apart =
    ap (λ b. cond b (one_if (nat_eq x.point i) + option_uses i x.mark + one_if (nat_eq x.top i)) 0) apart

shown_none : (n : List ℕ) (i : ℕ) (o : Option WindowMarks) → window_marks_uses n i (shows_without_buffer n o) ≡ 0
shown_none n i None = refl
shown_none n i (Some x) = go (same_name n x.name) refl
  where
    go : (r : Bool) → same_name n x.name ≡ r → window_marks_uses n i (cond r None (Some x)) ≡ 0
    go true e = refl
    go false e = elsewhere n i x e

shown_same : (n m : List ℕ) (i : ℕ) (o : Option WindowMarks) → same_name n m ≡ false → window_marks_uses m i (shows_without_buffer n o) ≡ window_marks_uses m i o
shown_same n m i None apart = refl
shown_same n m i (Some x) apart = go (same_name n x.name) refl
  where
    go : (r : Bool) → same_name n x.name ≡ r → window_marks_uses m i (cond r None (Some x)) ≡ window_marks_uses m i (Some x)
    go true e = sym (elsewhere m i x (other_name n m x.name apart e))
    go false e = refl

pub not_true : (b : Bool) → not b ≡ true → b ≡ false
not_true true e = cc
not_true false e = refl

pub not_false : (b : Bool) → not b ≡ false → b ≡ true
not_false true e = refl
not_false false e = cc

session_none : (n : List ℕ) (i : ℕ) (x : Session) → session_uses n i (session_forgetting n x) ≡ 0
session_none n i x =
    omega (
      arith,
      sum_none (window_uses n i) (window_without_buffer n) (λ w. shown_none n i w.shows) x.windows.windows,
      sum_filtered_none (place_uses n i) (λ p. not (is_place_in n p)) (λ p e. elsewhere n i p (not_true _ e)) x.windows.places,
    )

session_same : (n m : List ℕ) (i : ℕ) (x : Session) → same_name n m ≡ false → session_uses m i (session_forgetting n x) ≡ session_uses m i x
session_same n m i x apart =
    omega (
      arith,
      sum_same (window_uses m i) (window_without_buffer n) (λ w. shown_same n m i w.shows apart) x.windows.windows,
      sum_filtered_same (place_uses m i) (λ p. not (is_place_in n p)) (λ p e. elsewhere m i p (other_name n m p.name apart (not_false _ e))) x.windows.places,
    )

none_left : (n : List ℕ) (i : ℕ) (o : Option MarkedBuffer) → is_some o ≡ false → one_if (is_some (mark_in (marked_or_none o).marks i)) ≡ 0
none_left n i None e = refl
none_left n i (Some k) e = cc

pub sound_killed : (n : List ℕ) (ks : List MarkedBuffer) (xs : List Session) → has_buffer n (without_marked n ks) ≡ false → IsSound ks xs → IsSound (without_marked n ks) (map (session_forgetting n) xs)
sound_killed n ks xs gone sound = record { once = λ m i. go m i (same_name n m) refl }
  where
    go : (m : List ℕ) (i : ℕ) (r : Bool) → same_name n m ≡ r → uses m i (map (session_forgetting n) xs) ≡ in_use m i (without_marked n ks)
    go m i true e =
        subst (λ (m : List ℕ). uses m i (map (session_forgetting n) xs) ≡ in_use m i (without_marked n ks)) (same_is n m e)
        (sum_none (session_uses n i) (session_forgetting n) (session_none n i) xs ∙ sym (none_left n i (find (marked_named n) (without_marked n ks)) gone))
    go m i false e =
        sum_same (session_uses m i) (session_forgetting n) (λ x. session_same n m i x e) xs
        ∙ sound.once m i
        ∙ sym (ap (λ (k : MarkedBuffer). one_if (is_some (mark_in k.marks i))) (kept_other n m ks e))

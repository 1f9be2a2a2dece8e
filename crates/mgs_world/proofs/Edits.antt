-- An edit of a buffer's text: the positions of every session go by its shift, those of searches in the sessions themselves.
use Rattle.std.proofs.Common.{◌≡◌, ℕ, zero, suc, ◌+◌, ◌-◌, ◌≤◌, min, Bool, true, false, cond, List, [], ◌∷◌, length, map, Option, Some, None, refl, sym, ap, ◌∙◌, arith}
use Rattle.std.proofs.Math.Nat.{min-eq_left, min-le_right}
use Rattle.std.specs.Option.{option_map}
use Rattle.std.specs.Prelude.{slice_get, slice_set}
use Rattle.std.proofs.lemmas.Option.{slice_get-map}
use Rattle.mgs_model.specs.Names.{same_name}
use Rattle.mgs_model.specs.Text.{shift}
use Rattle.mgs_model.specs.World.{Buffer, is_named}
use Rattle.mgs_model.specs.World as model
use Rattle.mgs_model.specs.Apply.{buffer_edited, change_first, place_moved, search_moved, session_moved, window_moved}
use Rattle.mgs_model.proofs.Firsts.{find-change_first, find-change_first_other}
use Rattle.mgs_model.proofs.Moved.{edited_name}
use Rattle.mgs_marks.proofs.Moves.{shift_bound}
use Rattle.mgs_buffers.specs.MarkedBuffer.{HasBuffer, MarkedBuffer, marked_at, marked_edited, marked_named}
use Rattle.mgs_buffers.proofs.Edits.{size_edited}
use Rattle.mgs_windows.specs.declared.Window.{Window}
use Rattle.mgs_session.specs.declared.search.Edited.{Edited}
use Rattle.mgs_session.specs.declared.search.Search.{Search}
use Rattle.mgs_session.specs.declared.Session.{Session}
use Rattle.mgs_session.specs.Seeking.{moved, search_edited, session_edited}
use Rattle.mgs_world.specs.Sound.{IsSound, uses}
use Rattle.mgs_world.specs.Worlds.{buffers_of, state_of, place_of, search_at, search_of, session_of, size_found, size_named, window_of}
use Rattle.mgs_world.proofs.Found.{found_buffer}
use Rattle.mgs_world.proofs.Marks.{other_name, same_is}
use Rattle.mgs_world.proofs.Worlds.{buffers_edited, mapped_both, mapped_twice, place_edited, same_positions, window_edited}

-- THE LENGTHS OF TEXTS

pub size_kept : (n : List ℕ) (ks : List MarkedBuffer) → HasBuffer n ks → size_named n (buffers_of ks) ≡ length (marked_at n ks).buffer.text
size_kept n ks kept = ap size_found (found_buffer n ks kept)

-- POSITIONS OF SEARCHES

-- one that went by the edit is within the text
moved_within : (a b k size p : ℕ) → a ≤ b → b ≤ size → min (shift a b k (min p size)) (size - (b - a) + k) ≡ shift a b k (min p size)
moved_within a b k size p order within = min-eq_left (shift_bound a b k size (min p size) order within (min-le_right p size))

-- this edit
abbrev pub edit_in : List MarkedBuffer → List ℕ → ℕ → ℕ → ℕ → Edited
edit_in ks n a b added = record { size = length (marked_at n ks).buffer.text; from = a; to = b; added = added }

search_went : (n : List ℕ) (a b : ℕ) (put : List ℕ) (ks : List MarkedBuffer) (s : Search) → a ≤ b → b ≤ length (marked_at n ks).buffer.text → HasBuffer n ks
    → search_at (change_first (is_named n) (buffer_edited a b put) (buffers_of ks)) (search_edited n (edit_in ks n a b (length put)) s) ≡ search_moved n (shift a b (length put)) (search_at (buffers_of ks) s)
search_went n a b put ks s order within kept = by (same_name n s.name) refl
  where
    x : Buffer
    x = (marked_at n ks).buffer

    bs : List Buffer
    bs = buffers_of ks

    cs : List Buffer
    cs = change_first (is_named n) (buffer_edited a b put) bs

    e : Edited
    e = edit_in ks n a b (length put)

    goal : Bool → Type 0
    goal r =
        Path model.Search (record { name = s.name; origin = min (cond r (moved e s.origin) s.origin) (size_named s.name cs); anchor = min (cond r (moved e s.anchor) s.anchor) (size_named s.name cs) })
        (cond r (record { name = s.name; origin = shift a b (length put) (min s.origin (size_named s.name bs)); anchor = shift a b (length put) (min s.anchor (size_named s.name bs)) }) (search_at bs s))

    by : (r : Bool) → same_name n s.name ≡ r → goal r
    by true is =
        let same : n ≡ s.name = same_is n s.name is in
        let old : size_named s.name bs ≡ length x.text = ap (λ m. size_named m bs) (sym same) ∙ size_kept n ks kept in
        let new : size_named s.name cs ≡ length x.text - (b - a) + length put =
        ap (λ m. size_named m cs) (sym same)
        ∙ ap size_found (find-change_first (is_named n) (buffer_edited a b put) (λ y. ap (same_name n) (edited_name a b put y)) bs ∙ ap (option_map (buffer_edited a b put)) (found_buffer n ks kept)) ∙ size_edited a b put x order within in
        rw (old, new) (λ i. record {
          name = s.name;
          origin = moved_within a b (length put) (length x.text) s.origin order within i;
          anchor = moved_within a b (length put) (length x.text) s.anchor order within i;
        })
    by false is =
        let same = ap size_found (find-change_first_other (is_named n) (is_named s.name) (buffer_edited a b put) (λ x. ap (same_name s.name) (edited_name a b put x)) (λ x e. other_name n s.name x.name is e) bs) in
        λ i. record { name = s.name; origin = min s.origin (same i); anchor = min s.anchor (same i) }

searches_went : (n : List ℕ) (a b : ℕ) (put : List ℕ) (ks : List MarkedBuffer) (o : Option Search) → a ≤ b → b ≤ length (marked_at n ks).buffer.text → HasBuffer n ks
    → search_of (change_first (is_named n) (buffer_edited a b put) (buffers_of ks)) (option_map (search_edited n (edit_in ks n a b (length put))) o) ≡ option_map (search_moved n (shift a b (length put))) (search_of (buffers_of ks) o)
searches_went n a b put ks None order within kept = refl
searches_went n a b put ks (Some s) order within kept = ap (λ (q : model.Search). Some q) (search_went n a b put ks s order within kept)

-- which changes nothing else that a session holds
pub state_went : (n : List ℕ) (e : Edited) (x : Session) → state_of (session_edited n e x).state ≡ state_of x.state
state_went n e x = by x.state.search
  where
    by : (o : Option Search) → state_of (record x.state { search = option_map (search_edited n e) o }) ≡ state_of (record x.state { search = o })
    by None = refl
    by (Some s) = refl

-- SESSIONS

session_went : (n : List ℕ) (a b : ℕ) (put : List ℕ) (ks : List MarkedBuffer) (x : Session) → a ≤ b → b ≤ length (marked_at n ks).buffer.text → HasBuffer n ks
    → session_of (change_first (marked_named n) (marked_edited a b put) ks) (session_edited n (edit_in ks n a b (length put)) x) ≡ session_moved n (shift a b (length put)) (session_of ks x)
session_went n a b put ks x order within kept =
    let ls = change_first (marked_named n) (marked_edited a b put) ks in
    let e = edit_in ks n a b (length put) in
    let move = shift a b (length put) in
    (λ i. record (session_of ls (session_edited n e x)) { state = state_went n e x i })
    ∙ same_positions (session_of ks x) _ _ _ _ _ _
    (mapped_twice (window_of ls) (window_moved n move) (window_of ks) (λ (w : Window). window_edited n a b put ks w.height w.shows w.rows) x.windows.windows)
    (mapped_twice (place_of ls) (place_moved n move) (place_of ks) (place_edited n a b put ks) x.windows.places)
    (ap (λ (bs : List Buffer). search_of bs (option_map (search_edited n e) x.state.search)) (buffers_edited n a b put ks) ∙ searches_went n a b put ks x.state.search order within kept)

-- every position goes by the edit
pub sessions_edited : (n : List ℕ) (a b : ℕ) (put : List ℕ) (ks : List MarkedBuffer) (xs : List Session) → a ≤ b → b ≤ length (marked_at n ks).buffer.text → HasBuffer n ks
    → map (session_of (change_first (marked_named n) (marked_edited a b put) ks)) (map (session_edited n (edit_in ks n a b (length put))) xs) ≡ map (session_moved n (shift a b (length put))) (map (session_of ks) xs)
sessions_edited n a b put ks xs order within kept =
    mapped_both (session_of (change_first (marked_named n) (marked_edited a b put) ks)) (session_edited n (edit_in ks n a b (length put))) (session_moved n (shift a b (length put))) (session_of ks) (λ x. session_went n a b put ks x order within kept) xs

-- and nothing but that: no mark is used more or less, and no screen has another size
pub uses_followed : (n : List ℕ) (e : Edited) (m : List ℕ) (i : ℕ) (xs : List Session) → uses m i (map (session_edited n e) xs) ≡ uses m i xs
uses_followed n e m i [] = refl
uses_followed n e m i (x ∷ xs) = omega (arith, uses_followed n e m i xs)

pub sound_followed : (n : List ℕ) (e : Edited) (ks : List MarkedBuffer) (xs : List Session) → IsSound ks xs → IsSound ks (map (session_edited n e) xs)
sound_followed n e ks xs sound = record { once = λ m i. uses_followed n e m i xs ∙ sound.once m i }

-- one session may be written before the walk or behind it
pub followed_set : (n : List ℕ) (e : Edited) (xs : List Session) (at : ℕ) (y : Session) → map (session_edited n e) (slice_set xs at y) ≡ slice_set (map (session_edited n e) xs) at (session_edited n e y)
followed_set n e [] at y = refl
followed_set n e (x ∷ xs) zero y = refl
followed_set n e (x ∷ xs) (suc at) y = ap (λ ys. session_edited n e x ∷ ys) (followed_set n e xs at y)

pub followed_get : (n : List ℕ) (e : Edited) (xs : List Session) (at : ℕ) (h : Session) → slice_get xs at ≡ Some h → slice_get (map (session_edited n e) xs) at ≡ Some (session_edited n e h)
followed_get n e xs at h is = slice_get-map (session_edited n e) xs at ∙ ap (option_map (session_edited n e)) is

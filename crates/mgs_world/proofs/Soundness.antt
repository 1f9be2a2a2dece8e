-- Soundness: the marks in use are those that the sessions use, through edits, placements and changes of a session.
use Rattle.std.proofs.Common.{◌≡◌, ℕ, zero, suc, ◌+◌, ◌-◌, ◌<◌, ◌≤◌, Bool, true, false, List, [], ◌∷◌, length, get_or, Option, Some, None, refl, sym, ap, subst, ◌∙◌, arith}
use Rattle.std.specs.Prelude.{find, slice_get, slice_set, IsSome, is_some}
use Rattle.std.specs.Option.{option_map, option_and_then}
use Rattle.std.proofs.lemmas.Option.{slice_get-get_or, slice_get-map}
use Rattle.mgs_model.specs.Names.{same_name}
use Rattle.mgs_model.specs.Text.{shift, shift_all}
use Rattle.mgs_model.specs.Apply.{change_first}
use Rattle.mgs_model.proofs.Moved.{edited_name}
use Rattle.mgs_marks.specs.Marks.{mark_in}
use Rattle.mgs_buffers.specs.MarkedBuffer.{MarkedBuffer, marked_named, marked_at, marked_or_none, HasBuffer, IsMark, marked_edited, marked_placed}
use Rattle.mgs_buffers.proofs.Edits.{size_edited}
use Rattle.mgs_session.specs.Sessions.{window_marks_of}
use Rattle.mgs_windows.specs.declared.WindowMarks.{WindowMarks}
use Rattle.mgs_windows.specs.declared.Window.{Window}
use Rattle.mgs_session.specs.declared.Session.{Session}
use Rattle.mgs_world.specs.Sound.{IsSound, IsSessionSound, IsShownSound, IsWindowSound, in_use, one_if, sum_of, session_uses, uses, window_uses, window_marks_uses}
use Rattle.mgs_world.specs.Worlds.{size_in, sizes_in}
use Rattle.mgs_world.proofs.Uses.{sum_at}
use Rattle.mgs_world.proofs.Marks.{is_same, same_is, found_same, found_other}
use Rattle.mgs_world.proofs.Worlds.{mark_used_once, top_used_once, selected_window, window_marks_once}

pub one_if_most : (b : Bool) → one_if b ≤ 1
one_if_most true = omega arith
one_if_most false = omega arith

pub one_if_is : (b : Bool) → 1 ≤ one_if b → b ≡ true
one_if_is true h = refl
one_if_is false h = absurd (omega (arith, h))

pub some_from : {A : Type 0} (o : Option A) → IsSome o → (a : A) × (o ≡ Some a)
some_from None h = cc
some_from (Some a) h = (a, refl)

marked_from : (o : Option MarkedBuffer) (i : ℕ) → IsSome (mark_in (marked_or_none o).marks i) → IsSome o
marked_from None i h = cc
marked_from (Some k) i h = refl

-- a mark in use is one of a buffer that is kept
pub mark_is_kept : (n : List ℕ) (i : ℕ) (ks : List MarkedBuffer) → IsMark n i ks → HasBuffer n ks
mark_is_kept n i ks h = marked_from (find (marked_named n) ks) i h

-- a session or a window of a list
sum_get : {A : Type 0} (used : A → ℕ) (xs : List A) (i : ℕ) (x : A) → x ≡ get_or xs i x → i < length xs → used x ≤ sum_of used xs
sum_get used xs i x is l = sum_at used x xs i (slice_get-get_or xs i x l ∙ ap (λ y. Some y) (sym is))

pub session_sound : (ks : List MarkedBuffer) (xs : List Session) (i : ℕ) (x : Session) → IsSound ks xs → x ≡ get_or xs i x → i < length xs → IsSessionSound ks x
session_sound ks xs i x sound is l = record { once = λ n m. omega (arith, sound.once n m, sum_get (session_uses n m) xs i x is l) }

pub window_sound : (ks : List MarkedBuffer) (x : Session) (i : ℕ) (w : Window) → IsSessionSound ks x → w ≡ get_or x.windows.windows i w → i < length x.windows.windows → IsWindowSound ks w
window_sound ks x i w sound is l = record { once = λ n m. omega (arith, sound.once n m, sum_get (window_uses n m) x.windows.windows i w is l) }

pub shown_sound : (ks : List MarkedBuffer) (w : Window) → IsWindowSound ks w → IsShownSound ks w.shows
shown_sound ks w sound = record { once = sound.once }

-- what a window shows is in use
pub point_used : (x : WindowMarks) → 1 ≤ window_marks_uses x.name x.point (Some x)
point_used x = omega (arith, window_marks_once x)

pub top_used : (x : WindowMarks) → 1 ≤ window_marks_uses x.name x.top (Some x)
top_used x = top_used_once x

pub mark_used : (x : WindowMarks) (m : ℕ) → x.mark ≡ Some m → 1 ≤ window_marks_uses x.name m (Some x)
mark_used x m is = mark_used_once x m is

pub in_use_mark : (ks : List MarkedBuffer) (n : List ℕ) (i : ℕ) → 1 ≤ in_use n i ks → IsMark n i ks
in_use_mark ks n i h = one_if_is (is_some (mark_in (marked_at n ks).marks i)) h

pub shown_point : (ks : List MarkedBuffer) (o : Option WindowMarks) (x : WindowMarks) → IsShownSound ks o → o ≡ Some x → IsMark x.name x.point ks
shown_point ks o x sound is =
    let u : window_marks_uses x.name x.point o ≡ window_marks_uses x.name x.point (Some x) = ap (window_marks_uses x.name x.point) is in
    in_use_mark ks x.name x.point (omega (arith, sound.once x.name x.point, u, point_used x))

pub window_point : (ks : List MarkedBuffer) (w : Window) (x : WindowMarks) → IsWindowSound ks w → w.shows ≡ Some x → IsMark x.name x.point ks
window_point ks w x sound is = shown_point ks w.shows x (shown_sound ks w sound) is

-- THE SAME MARKS STAY IN USE

in_use_kept : (n m : List ℕ) (i : ℕ) (f : MarkedBuffer → MarkedBuffer) (ks : List MarkedBuffer) → ((k : MarkedBuffer) → (f k).buffer.name ≡ k.buffer.name) → ((k : MarkedBuffer) → find (marked_named n) ks ≡ Some k → one_if (is_some (mark_in (f k).marks i)) ≡ one_if (is_some (mark_in k.marks i))) → in_use m i (change_first (marked_named n) f ks) ≡ in_use m i ks
in_use_kept n m i f ks name same =
    let use_of : Option MarkedBuffer → ℕ = λ o. one_if (is_some (mark_in (marked_or_none o).marks i)) in
    let mapped : (o : Option MarkedBuffer) → find (marked_named n) ks ≡ o → use_of (option_map f o) ≡ use_of o =
    λ o. elim o as (λ o. find (marked_named n) ks ≡ o → use_of (option_map f o) ≡ use_of o) [ None ↦ λ e. refl | Some k ↦ λ e. same k e ] in
    let goal : Type 0 = in_use m i (change_first (marked_named n) f ks) ≡ in_use m i ks in
    let go : (r : Bool) → same_name n m ≡ r → goal =
    λ r. elim r as (λ r. same_name n m ≡ r → goal) [
      | true ↦ λ e. ap use_of (found_same n m f ks name e) ∙ mapped (find (marked_named m) ks) (ap (λ (x : List ℕ). find (marked_named x) ks) (same_is n m e))
      | false ↦ λ e. ap use_of (found_other n m f ks name e)
    ]
    in go (same_name n m) refl

shifted_use : (a b n : ℕ) (ms : List (Option ℕ)) (i : ℕ) → one_if (is_some (mark_in (shift_all a b n ms) i)) ≡ one_if (is_some (mark_in ms i))
shifted_use a b n ms i =
    let goal : Option (Option ℕ) → Type 0 = λ o. one_if (is_some (option_and_then (λ (m : Option ℕ). m) (option_map (option_map (shift a b n)) o))) ≡ one_if (is_some (option_and_then (λ (m : Option ℕ). m) o)) in
    let at_slot : (o : Option (Option ℕ)) → goal o = λ o. elim o as goal [ None ↦ refl | Some m ↦ elim m as (λ m. goal (Some m)) [ None ↦ refl | Some p ↦ refl ] ] in
    rw (slice_get-map (option_map (shift a b n)) ms i) (at_slot (slice_get ms i))

-- a mark in use is placed
placed_use : (ms : List (Option ℕ)) (id p i : ℕ) → IsSome (mark_in ms id) → one_if (is_some (mark_in (slice_set ms id (Some p)) i)) ≡ one_if (is_some (mark_in ms i))
placed_use [] id p i used = refl
placed_use (m ∷ ms) zero p zero used = ap one_if (sym used)
placed_use (m ∷ ms) zero p (suc i) used = refl
placed_use (m ∷ ms) (suc id) p zero used = refl
placed_use (m ∷ ms) (suc id) p (suc i) used = placed_use ms id p i used

in_use_edited : (n : List ℕ) (a b : ℕ) (put : List ℕ) (ks : List MarkedBuffer) (m : List ℕ) (i : ℕ) → in_use m i (change_first (marked_named n) (marked_edited a b put) ks) ≡ in_use m i ks
in_use_edited n a b put ks m i = in_use_kept n m i (marked_edited a b put) ks (λ k. edited_name a b put k.buffer) (λ k e. shifted_use a b (length put) k.marks i)

pub in_use_placed : (n : List ℕ) (id p : ℕ) (ks : List MarkedBuffer) (m : List ℕ) (i : ℕ) → IsMark n id ks → in_use m i (change_first (marked_named n) (marked_placed id p) ks) ≡ in_use m i ks
in_use_placed n id p ks m i mark =
    in_use_kept n m i (marked_placed id p) ks (λ k. refl) (λ k e. placed_use k.marks id p i (subst (λ (o : Option MarkedBuffer). IsSome (mark_in (marked_or_none o).marks id)) e mark))

pub sound_same : (ks ls : List MarkedBuffer) (xs : List Session) → ((m : List ℕ) (i : ℕ) → in_use m i ls ≡ in_use m i ks) → IsSound ks xs → IsSound ls xs
sound_same ks ls xs same sound = record { once = λ m i. omega (arith, sound.once m i, same m i) }

pub sound_edited : (n : List ℕ) (a b : ℕ) (put : List ℕ) (ks : List MarkedBuffer) (xs : List Session) → IsSound ks xs → IsSound (change_first (marked_named n) (marked_edited a b put) ks) xs
sound_edited n a b put ks xs sound = sound_same ks _ xs (in_use_edited n a b put ks) sound

pub sound_placed : (n : List ℕ) (id p : ℕ) (ks : List MarkedBuffer) (xs : List Session) → IsMark n id ks → IsSound ks xs → IsSound (change_first (marked_named n) (marked_placed id p) ks) xs
sound_placed n id p ks xs mark sound = sound_same ks _ xs (λ m i. in_use_placed n id p ks m i mark) sound

pub mark_edited_used : (n m : List ℕ) (a b : ℕ) (put : List ℕ) (ks : List MarkedBuffer) (i : ℕ) → IsMark m i ks → IsMark m i (change_first (marked_named n) (marked_edited a b put) ks)
mark_edited_used n m a b put ks i mark =
    let t : one_if (is_some (mark_in (marked_at m ks).marks i)) ≡ 1 = rw mark refl in
    in_use_mark (change_first (marked_named n) (marked_edited a b put) ks) m i (omega (arith, t, in_use_edited n a b put ks m i))

-- WHAT IS USED IS IN USE

-- of sessions some of whose marks may be used beside them
pub record AreInUse (ks : List MarkedBuffer) (xs : List Session) : Type 0 where
  pub once : (name : List ℕ) (id : ℕ) → uses name id xs ≤ in_use name id ks

pub sound_in_use : (ks : List MarkedBuffer) (xs : List Session) → IsSound ks xs → AreInUse ks xs
sound_in_use ks xs sound = record { once = λ m i. omega (arith, sound.once m i) }

pub in_use_more : (ks ls : List MarkedBuffer) (xs : List Session) → ((m : List ℕ) (i : ℕ) → in_use m i ks ≤ in_use m i ls) → AreInUse ks xs → AreInUse ls xs
in_use_more ks ls xs more used = record { once = λ m i. omega (arith, used.once m i, more m i) }

-- A SESSION CHANGES

sum_set : {A : Type 0} (used : A → ℕ) (xs : List A) (at : ℕ) (x y : A) → x ≡ get_or xs at x → used y ≡ used x → sum_of used (slice_set xs at y) ≡ sum_of used xs
sum_set used [] at x y is same = refl
sum_set used (z ∷ xs) zero x y is same = let u : used x ≡ used z = ap used is in omega (arith, same, u)
sum_set used (z ∷ xs) (suc at) x y is same = omega (arith, sum_set used xs at x y is same)

pub sound_set : (ks : List MarkedBuffer) (xs : List Session) (at : ℕ) (h y : Session) → h ≡ get_or xs at h → ((n : List ℕ) (i : ℕ) → session_uses n i y ≡ session_uses n i h) → IsSound ks xs → IsSound ks (slice_set xs at y)
sound_set ks xs at h y is same sound = record {
  once = λ n i. omega (arith, sound.once n i, sum_set (session_uses n i) xs at h y is (same n i));
}

pub text_edited : (n : List ℕ) (a b : ℕ) (put : List ℕ) (ks : List MarkedBuffer) → HasBuffer n ks → a ≤ b → b ≤ length (marked_at n ks).buffer.text → length (marked_at n (change_first (marked_named n) (marked_edited a b put) ks)).buffer.text ≡ length (marked_at n ks).buffer.text - (b - a) + length put
text_edited n a b put ks kept order within =
    let k = some_from (find (marked_named n) ks) kept in
    let e : marked_at n (change_first (marked_named n) (marked_edited a b put) ks) ≡ marked_edited a b put (marked_at n ks) =
    ap marked_or_none (found_same n n (marked_edited a b put) ks (λ k. edited_name a b put k.buffer) (is_same n n refl) ∙ ap (option_map (marked_edited a b put)) k.1)
    ∙ ap (λ o. marked_edited a b put (marked_or_none o)) (sym k.1) in
    ap (λ (k : MarkedBuffer). length k.buffer.text) e ∙ size_edited a b put (marked_at n ks).buffer order within

-- the sizes stay where a session keeps its own
pub sizes_set : (xs : List Session) (at : ℕ) (h y : Session) → h ≡ get_or xs at h → size_in y ≡ size_in h → sizes_in (slice_set xs at y) ≡ sizes_in xs
sizes_set [] at h y is same = refl
sizes_set (x ∷ xs) zero h y is same = ap (λ s. s ∷ sizes_in xs) (same ∙ ap size_in is)
sizes_set (x ∷ xs) (suc at) h y is same = ap (λ ss. size_in x ∷ ss) (sizes_set xs at h y is same)

pub session_shown : (o : Option Session) (x : WindowMarks) → option_and_then window_marks_of o ≡ Some x → (h : Session) × (o ≡ Some h) × (window_marks_of h ≡ Some x)
session_shown None x e = cc
session_shown (Some h) x e = (h, refl, e)

-- a mark of the selected window
pub selected_mark : (ks : List MarkedBuffer) (h : Session) (x : WindowMarks) (id : ℕ) → IsSessionSound ks h → window_marks_of h ≡ Some x → 1 ≤ window_marks_uses x.name id (Some x) → IsMark x.name id ks
selected_mark ks h x id sound sel used =
    let got = selected_window (slice_get h.windows.windows h.windows.selected) x sel in
    let u : window_uses x.name id got.0 ≡ window_marks_uses x.name id (Some x) = ap (window_marks_uses x.name id) got.2 in
    in_use_mark ks x.name id (omega (arith, sound.once x.name id, u, used, sum_at (window_uses x.name id) got.0 h.windows.windows h.windows.selected got.1))

-- a mark of the acting session's selected window is in use
pub acting_mark : (ks : List MarkedBuffer) (xs : List Session) (at : ℕ) (x : WindowMarks) (id : ℕ) → IsSound ks xs → option_and_then window_marks_of (slice_get xs at) ≡ Some x → 1 ≤ window_marks_uses x.name id (Some x) → IsMark x.name id ks
acting_mark ks xs at x id sound sel used =
    let got = session_shown (slice_get xs at) x sel in
    let held : IsSessionSound ks got.0 = record { once = λ n i. omega (arith, sound.once n i, sum_at (session_uses n i) got.0 xs at got.1) } in
    selected_mark ks got.0 x id held got.2 used

-- A window goes: what is seen of its session, and the marks that it uses.
use Rattle.std.proofs.Common.{◌≡◌, ℕ, zero, suc, ◌+◌, ◌-◌, ◌<◌, true, false, cond, List, [], ◌∷◌, length, map, Option, Some, None, refl, sym, ap, ◌∙◌, arith}
use Rattle.std.specs.Prelude.{find, remove}
use Rattle.std.proofs.lemmas.List.{length-map}
use Rattle.mgs_model.specs.Names.{same_name}
use Rattle.mgs_model.specs.World as model
use Rattle.mgs_model.specs.Apply.{change_at, set_place, window_at}
use Rattle.mgs_buffers.specs.MarkedBuffer.{MarkedBuffer}
use Rattle.mgs_windows.specs.Panes as panes
use Rattle.mgs_windows.specs.Panes.{WindowList, height_at, is_place_in, places_after, rows_at, shows_at, window_removed, windows_without, with_place}
use Rattle.mgs_windows.specs.declared.WindowMarks.{WindowMarks}
use Rattle.mgs_windows.specs.declared.Window.{Window}
use Rattle.mgs_windows.specs.declared.RowPane.{RowPane}
use Rattle.mgs_windows.specs.declared.RowPane.TheVariants.{NoRows}
use Rattle.mgs_windows.proofs.Heights.{length_changed, shows_same}
use Rattle.mgs_session.specs.declared.Session.{Session}
use Rattle.mgs_world.specs.Worlds.{place_of, session_of, window_of, window_shown}
use Rattle.mgs_world.specs.Sound.{IsSessionSound, IsShownSound, place_uses, session_uses, sum_of, window_marks_uses, window_uses}
use Rattle.mgs_world.specs.WindowMarks.{WindowMarksDropped}
use Rattle.mgs_world.proofs.WindowMarks.{same_sizes, session_local}
use Rattle.mgs_world.proofs.Worlds.{same_positions}
use Rattle.mgs_arrange.specs.Arranged.{grown, left_by, others_gone, shrunk, window_gone}
use Rattle.mgs_arrange.proofs.Others.{others_after_above, others_after_below, others_of_one}
use Rattle.mgs_arrange.proofs.Slots.{map_remove}

-- LISTS

pub map_changed : {A B : Type 0} (F : A → B) (f : A → A) (g : B → B) (i : ℕ) (xs : List A) → ((x : A) → F (f x) ≡ g (F x)) → map F (change_at i f xs) ≡ change_at i g (map F xs)
map_changed F f g i [] same = refl
map_changed F f g zero (x ∷ xs) same = ap (λ y. y ∷ map F xs) (same x)
map_changed F f g (suc i) (x ∷ xs) same = ap (λ ys. F x ∷ ys) (map_changed F f g i xs same)

pub sum_changed : {A : Type 0} (used : A → ℕ) (f : A → A) (i : ℕ) (xs : List A) → ((x : A) → used (f x) ≡ used x) → sum_of used (change_at i f xs) ≡ sum_of used xs
sum_changed used f i [] same = refl
sum_changed used f zero (x ∷ xs) same = omega (arith, same x)
sum_changed used f (suc i) (x ∷ xs) same = omega (arith, sum_changed used f i xs same)

-- WHAT IS SEEN OF WINDOWS

-- of another height
pub sized : (ks : List MarkedBuffer) (size : ℕ → ℕ) (h : ℕ) (o : Option WindowMarks) (rows : RowPane) → window_shown ks (size h) o rows ≡ (let w = window_shown ks h o rows in record w { height = size w.height })
sized ks size h None rows = refl
sized ks size h (Some x) rows = refl

pub seen_grown : (ks : List MarkedBuffer) (n : ℕ) (x : Window) → window_of ks (panes.grown n x) ≡ grown n (window_of ks x)
seen_grown ks n x = sized ks (λ h. h + n) x.height x.shows x.rows

pub seen_shrunk : (ks : List MarkedBuffer) (n : ℕ) (x : Window) → window_of ks (panes.shrunk n x) ≡ shrunk n (window_of ks x)
seen_shrunk ks n x = sized ks (λ h. h - n) x.height x.shows x.rows

pub height_shown : (ks : List MarkedBuffer) (h : ℕ) (o : Option WindowMarks) (rows : RowPane) → (window_shown ks h o rows).height ≡ h
height_shown ks h None rows = refl
height_shown ks h (Some x) rows = refl

pub window_seen : (ks : List MarkedBuffer) (k : ℕ) (xs : List Window) → k < length xs → window_at k (map (window_of ks) xs) ≡ window_shown ks (height_at k xs) (shows_at k xs) (rows_at k xs)
window_seen ks k [] within = absurd (omega (arith, within))
window_seen ks zero (x ∷ xs) within = refl
window_seen ks (suc k) (x ∷ xs) within = window_seen ks k xs (omega (arith, within))

pub height_seen : (ks : List MarkedBuffer) (k : ℕ) (xs : List Window) → k < length xs → (window_at k (map (window_of ks) xs)).height ≡ height_at k xs
height_seen ks k xs within = ap (λ (w : model.Window). w.height) (window_seen ks k xs within) ∙ height_shown ks (height_at k xs) (shows_at k xs) (rows_at k xs)

windows_gone : (ks : List MarkedBuffer) (k to : ℕ) (xs : List Window) → k < length xs → map (window_of ks) (windows_without k to xs) ≡ remove (change_at to (grown ((window_at k (map (window_of ks) xs)).height + 1)) (map (window_of ks) xs)) k
windows_gone ks k to xs within =
    let seen = map (window_of ks) xs in
    map_remove (window_of ks) (change_at to (panes.grown (height_at k xs + 1)) xs) k
    ∙ ap (λ (ws : List model.Window). remove ws k) (map_changed (window_of ks) (panes.grown (height_at k xs + 1)) (grown (height_at k xs + 1)) to xs (seen_grown ks (height_at k xs + 1)))
    ∙ ap (λ (h : ℕ). remove (change_at to (grown (h + 1)) seen) k) (sym (height_seen ks k xs within))

-- WHAT IS SEEN OF PLACES

place_put : (ks : List MarkedBuffer) (x : WindowMarks) (ps : List WindowMarks) → map (place_of ks) (with_place x ps) ≡ set_place (place_of ks x) (map (place_of ks) ps)
place_put ks x [] = refl
place_put ks x (q ∷ qs) =
    elim (same_name x.name q.name) as (λ b. map (place_of ks) (cond b (x ∷ qs) (q ∷ with_place x qs)) ≡ cond b (place_of ks x ∷ map (place_of ks) qs) (place_of ks q ∷ set_place (place_of ks x) (map (place_of ks) qs))) [
      | true ↦ refl
      | false ↦ ap (λ ps. place_of ks q ∷ ps) (place_put ks x qs)
    ]

pub places_seen : (ks : List MarkedBuffer) (h : ℕ) (o : Option WindowMarks) (rows : RowPane) (ps : List WindowMarks) → map (place_of ks) (places_after o ps) ≡ left_by (window_shown ks h o rows) (map (place_of ks) ps)
places_seen ks h None NoRows ps = refl
places_seen ks h None _ ps = refl
places_seen ks h (Some x) rows ps = place_put ks x ps

-- the session, where its marks stay
session_gone : (ks : List MarkedBuffer) (x : Session) (k to : ℕ) → k < length x.windows.windows → session_of ks (record x { windows = window_removed k to x.windows }) ≡ window_gone k to (session_of ks x)
session_gone ks x k to within =
    same_positions (record (session_of ks x) { selected = panes.closer k x.windows.selected }) _ _ _ _ _ _
    (windows_gone ks k to x.windows.windows within)
    (places_seen ks (height_at k x.windows.windows) (shows_at k x.windows.windows) (rows_at k x.windows.windows) x.windows.places
    ∙ ap (λ (w : model.Window). left_by w (map (place_of ks) x.windows.places)) (sym (window_seen ks k x.windows.windows within)))
    refl

-- THE MARKS THAT ARE USED

removed_uses : (m : List ℕ) (i k : ℕ) (xs : List Window) → k < length xs → sum_of (window_uses m i) (remove xs k) + window_marks_uses m i (shows_at k xs) ≡ sum_of (window_uses m i) xs
removed_uses m i k [] within = absurd (omega (arith, within))
removed_uses m i zero (x ∷ xs) within = omega arith
removed_uses m i (suc k) (x ∷ xs) within = omega (arith, removed_uses m i k xs (omega (arith, within)))

without_uses : (m : List ℕ) (i k to : ℕ) (xs : List Window) → k < length xs → sum_of (window_uses m i) (windows_without k to xs) + window_marks_uses m i (shows_at k xs) ≡ sum_of (window_uses m i) xs
without_uses m i k to xs within =
    let n = height_at k xs + 1 in
    let ys = change_at to (panes.grown n) xs in
    let shows = ap (window_marks_uses m i) (shows_same (panes.grown n) k to xs (λ x. refl)) in
    let len : length ys ≡ length xs = length_changed (panes.grown n) to xs in
    omega (arith, removed_uses m i k ys (omega (arith, within, len)), shows, sum_changed (window_uses m i) (panes.grown n) to xs (λ x. refl))

put_uses : (m : List ℕ) (i : ℕ) (x : WindowMarks) (ps : List WindowMarks) → sum_of (place_uses m i) (with_place x ps) + window_marks_uses m i (find (is_place_in x.name) ps) ≡ sum_of (place_uses m i) ps + window_marks_uses m i (Some x)
put_uses m i x [] = omega arith
put_uses m i x (q ∷ qs) =
    elim (same_name x.name q.name) as (λ b. sum_of (place_uses m i) (cond b (x ∷ qs) (q ∷ with_place x qs)) + window_marks_uses m i (cond b (Some q) (find (is_place_in x.name) qs)) ≡ place_uses m i q + sum_of (place_uses m i) qs + window_marks_uses m i (Some x)) [
      | true ↦ omega arith
      | false ↦ omega (arith, put_uses m i x qs)
    ]

pub after_uses : (m : List ℕ) (i : ℕ) (o : Option WindowMarks) (ps : List WindowMarks) → sum_of (place_uses m i) (places_after o ps) + window_marks_uses m i (panes.left_by o ps) ≡ sum_of (place_uses m i) ps + window_marks_uses m i o
after_uses m i None ps = omega arith
after_uses m i (Some x) ps = put_uses m i x ps

-- what is given up is what the session uses no longer
pub gone_uses : (m : List ℕ) (i k to : ℕ) (x : Session) (o : Option WindowMarks) (w : WindowList) → k < length x.windows.windows → o ≡ panes.left_by (shows_at k x.windows.windows) x.windows.places → w ≡ window_removed k to x.windows → session_uses m i (record x { windows = w }) + window_marks_uses m i o ≡ session_uses m i x
gone_uses m i k to x o w within e list =
    rw (e, list) (omega (arith, without_uses m i k to x.windows.windows within, after_uses m i (shows_at k x.windows.windows) x.windows.places))

-- ONE GOES

pub left_sound : (ks : List MarkedBuffer) (x : Session) (k : ℕ) (o : Option WindowMarks) → IsSessionSound ks x → k < length x.windows.windows → o ≡ panes.left_by (shows_at k x.windows.windows) x.windows.places → IsShownSound ks o
left_sound ks x k o sound within e = record { once = λ m i. omega (arith, sound.once m i, gone_uses m i k 0 x o (window_removed k 0 x.windows) within e refl) }

pub rest_gone : (ks ls : List MarkedBuffer) (x : Session) (k to : ℕ) (o : Option WindowMarks) (w : WindowList) → IsSessionSound ks x → WindowMarksDropped o ks ls → k < length x.windows.windows → o ≡ panes.left_by (shows_at k x.windows.windows) x.windows.places → w ≡ window_removed k to x.windows
    → session_of ls (record x { windows = w }) ≡ window_gone k to (session_of ks x)
rest_gone ks ls x k to o w sound h within e list =
    let uses : (n : List ℕ) (i : ℕ) → session_uses n i (record x { windows = w }) + window_marks_uses n i o ≡ session_uses n i x = λ n i. gone_uses n i k to x o w within e list in
    session_local ls ks (record x { windows = w }) (same_sizes ks ls h.buffers) (λ n i used. h.stay n i (omega (arith, used, uses n i, sound.once n i)) (omega (arith, used, uses n i, sound.once n i, h.uses n i)))
    ∙ rw list (session_gone ks x k to within)

-- THE SELECTED ONE GOES

-- ALL OTHERS GO

seen_within : (ks : List MarkedBuffer) (x : Session) (k : ℕ) → k < length x.windows.windows → k < length (map (window_of ks) x.windows.windows)
seen_within ks x k within = omega (arith, within, length-map x.windows.windows (window_of ks))

pub above_step : (ks ls : List MarkedBuffer) (x y : Session) → 0 < x.windows.selected → x.windows.selected < length x.windows.windows → session_of ls y ≡ window_gone 0 x.windows.selected (session_of ks x) → others_gone (session_of ls y) ≡ others_gone (session_of ks x)
above_step ks ls x y some within e =
    let next : x.windows.selected ≡ suc (x.windows.selected - 1) = omega (arith, some) in
    ap others_gone e ∙ others_after_above (session_of ks x) (x.windows.selected - 1) next (seen_within ks x x.windows.selected within)

pub below_step : (ks ls : List MarkedBuffer) (x y : Session) → x.windows.selected ≡ 0 → 1 < length x.windows.windows → session_of ls y ≡ window_gone 1 0 (session_of ks x) → others_gone (session_of ls y) ≡ others_gone (session_of ks x)
below_step ks ls x y first many e = ap others_gone e ∙ others_after_below (session_of ks x) first (seen_within ks x 1 many)

pub one_left : (ks ls : List MarkedBuffer) (x y : Session) → y.windows.selected ≡ 0 → length y.windows.windows ≡ 1 → others_gone (session_of ls y) ≡ others_gone (session_of ks x) → session_of ls y ≡ others_gone (session_of ks x)
one_left ks ls x y first one same =
    sym (others_of_one (session_of ls y) (omega (arith, first, one, length-map y.windows.windows (window_of ls))) (length-map y.windows.windows (window_of ls) ∙ one)) ∙ same

pub first_stays : (s : ℕ) → s ≡ 0 → panes.closer 1 s ≡ 0
first_stays s e = ap (panes.closer 1) e

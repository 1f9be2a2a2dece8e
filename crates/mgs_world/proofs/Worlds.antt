-- How the world changes when what is kept does.
use Rattle.std.proofs.Common.{◌≡◌, ℕ, ◌+◌, ◌≤◌, min, Bool, true, false, cond, List, [], ◌∷◌, length, map, Option, Some, None, refl, sym, ap, ap₂, ◌∙◌, arith, eq-eqb}
use Rattle.std.specs.Prelude.{find, slice_get, IsSome, nat_eq}
use Rattle.std.specs.Option.{option_map, option_and_then}
use Rattle.mgs_model.specs.Access.{Directory}
use Rattle.mgs_model.specs.Names.{same_name}
use Rattle.mgs_model.specs.Text.{shift}
use Rattle.mgs_model.specs.World.{World, Buffer, Shows, Buffer_of, is_named, has_id}
use Rattle.mgs_model.specs.World as model
use Rattle.mgs_model.specs.Outcome.{At, Keep_position, Keep_mark}
use Rattle.mgs_model.specs.Apply.{change_first, change_at, buffer_edited, window_moved, place_moved, window_adjusted}
use Rattle.mgs_model.proofs.Firsts.{map-change_first}
use Rattle.mgs_model.proofs.Moved.{edited_name}
use Rattle.mgs_marks.specs.Marks.{mark_in}
use Rattle.mgs_buffers.specs.MarkedBuffer.{MarkedBuffer, marked_named, marked_at, mark_at, marked_edited, marked_placed}
use Rattle.mgs_windows.specs.declared.WindowMarks.{WindowMarks}
use Rattle.mgs_windows.specs.declared.Window.{Window}
use Rattle.mgs_windows.specs.declared.RowPane.{RowPane}
use Rattle.mgs_windows.specs.declared.RowPane.TheVariants.{NoRows, Buffers, Entries}
use Rattle.mgs_session.specs.declared.search.Search.{Search}
use Rattle.mgs_session.specs.declared.Session.{Session}
use Rattle.mgs_session.specs.Sessions.{window_marks_of}
use Rattle.mgs_world.specs.Worlds.{window_shown, window_of, place_of, search_of, size_named, session_of, buffers_of, session_id}
use Rattle.mgs_world.specs.Sound.{one_if, option_uses, window_marks_uses, window_uses, place_uses, session_uses, uses}
use Rattle.mgs_world.proofs.Uses.{map_unused, map_used_at, map_used_first, sum_at, sum_found}
use Rattle.mgs_world.proofs.Marks.{is_same, mark_edited, mark_kept, mark_unused, marks_unused, mark_placed, apart_from}

-- CONGRUENCE

pub option_mapped : {A B : Type 0} (f g : A → B) → ((a : A) → f a ≡ g a) → (o : Option A) → option_map f o ≡ option_map g o
option_mapped f g same None = refl
option_mapped f g same (Some a) = ap (λ b. Some b) (same a)

option_mapped_twice : {A B C : Type 0} (f : A → C) (g : B → C) (h : A → B) → ((a : A) → f a ≡ g (h a)) → (o : Option A) → option_map f o ≡ option_map g (option_map h o)
option_mapped_twice f g h same None = refl
option_mapped_twice f g h same (Some a) = ap (λ b. Some b) (same a)

pub mapped_twice : {A B C : Type 0} (f : A → C) (g : B → C) (h : A → B) → ((a : A) → f a ≡ g (h a)) → (xs : List A) → map f xs ≡ map g (map h xs)
mapped_twice f g h same [] = refl
mapped_twice f g h same (x ∷ xs) = ap₂ (λ y ys. y ∷ ys) (same x) (mapped_twice f g h same xs)

pub mapped_both : {A B C D : Type 0} (f : B → D) (h : A → B) (g : C → D) (k : A → C) → ((a : A) → f (h a) ≡ g (k a)) → (xs : List A) → map f (map h xs) ≡ map g (map k xs)
mapped_both f h g k same [] = refl
mapped_both f h g k same (x ∷ xs) = ap₂ (λ y ys. y ∷ ys) (same x) (mapped_both f h g k same xs)

pub same_window : (s : Shows) (p p' : ℕ) (m m' : Option ℕ) (t t' r h : ℕ) → p ≡ p' → m ≡ m' → t ≡ t' → Path model.Window (record { shows = s; point = p; mark = m; top = t; row = r; height = h }) (record { shows = s; point = p'; mark = m'; top = t'; row = r; height = h })
same_window s p p' m m' t t' r h ep em et = λ i. record { shows = s; point = ep i; mark = em i; top = et i; row = r; height = h }

pub same_windows : (x : model.Session) (ws ws' : List model.Window) → ws ≡ ws' → Path model.Session (record x { windows = ws }) (record x { windows = ws' })
same_windows x ws ws' e = λ i. record x { windows = e i }

pub same_positions : (x : model.Session) (ws ws' : List model.Window) (ps ps' : List model.Place) (ss ss' : Option model.Search) → ws ≡ ws' → ps ≡ ps' → ss ≡ ss' → Path model.Session (record x { windows = ws; places = ps; search = ss }) (record x { windows = ws'; places = ps'; search = ss' })
same_positions x ws ws' ps ps' ss ss' e f g = λ i. record x { windows = e i; places = f i; search = g i }

-- positions of a search in texts of the same lengths
pub search_same : (bs cs : List Buffer) (o : Option Search) → ((n : List ℕ) → size_named n bs ≡ size_named n cs) → search_of bs o ≡ search_of cs o
search_same bs cs None same = refl
search_same bs cs (Some s) same =
    ap (λ (size : ℕ). let r : model.Search = record { name = s.name; origin = min s.origin size; anchor = min s.anchor size } in Some r) (same s.name)

pub same_place : (n : List ℕ) (p p' : ℕ) (m m' : Option ℕ) → p ≡ p' → m ≡ m' → Path model.Place (record { name = n; point = p; mark = m }) (record { name = n; point = p'; mark = m' })
same_place n p p' m m' ep em = λ i. record { name = n; point = ep i; mark = em i }

pub same_world : (directory : Directory) (bs bs' : List Buffer) (ss ss' : List model.Session) (next : ℕ) → bs ≡ bs' → ss ≡ ss' → Path World (record { directory = directory; buffers = bs; sessions = ss; next_id = next }) (record { directory = directory; buffers = bs'; sessions = ss'; next_id = next })
same_world directory bs bs' ss ss' next eb es = λ i. record { directory = directory; buffers = eb i; sessions = es i; next_id = next }

-- WHAT IS KEPT OF BUFFERS when their marks alone change

pub map-change_first_same : {A B : Type 0} (g : A → B) (p : A → Bool) (f : A → A) → ((x : A) → g (f x) ≡ g x) → (xs : List A) → map g (change_first p f xs) ≡ map g xs
map-change_first_same g p f same [] = refl
map-change_first_same {A = A} {B = B} g p f same (x ∷ xs) =
    elim (p x) as (λ b. map g (cond b (f x ∷ xs) (x ∷ change_first p f xs)) ≡ g x ∷ map g xs) [
      | true ↦ ap (λ y. y ∷ map g xs) (same x)
      | false ↦ ap (λ ys. g x ∷ ys) (map-change_first_same g p f same xs)
    ]

pub buffers_placed : (n : List ℕ) (id p : ℕ) (ks : List MarkedBuffer) → buffers_of (change_first (marked_named n) (marked_placed id p) ks) ≡ buffers_of ks
buffers_placed n id p ks = map-change_first_same (λ (k : MarkedBuffer). k.buffer) (marked_named n) (marked_placed id p) (λ k. refl) ks

-- AN EDIT

-- an edit of what is kept moves the positions of a window
pub window_edited : (n : List ℕ) (a b : ℕ) (put : List ℕ) (ks : List MarkedBuffer) (height : ℕ) (o : Option WindowMarks) (rows : RowPane) → window_shown (change_first (marked_named n) (marked_edited a b put) ks) height o rows ≡ window_moved n (shift a b (length put)) (window_shown ks height o rows)
window_edited n a b put ks height None NoRows = refl
window_edited n a b put ks height None (Buffers row) = refl
window_edited n a b put ks height None (Entries name row) = refl
window_edited n a b put ks height (Some x) rows = go (same_name n x.name) refl
  where
    ls : List MarkedBuffer
    ls = change_first (marked_named n) (marked_edited a b put) ks

    move : ℕ → ℕ
    move = shift a b (length put)

    was : model.Window
    was = window_shown ks height (Some x) NoRows

    moved : (id : ℕ) → same_name n x.name ≡ true → mark_at x.name ls id ≡ move (mark_at x.name ks id)
    moved id e = mark_edited n x.name a b put ks id e

    kept : (id : ℕ) → same_name n x.name ≡ false → mark_at x.name ls id ≡ mark_at x.name ks id
    kept id e = mark_kept n x.name (marked_edited a b put) ks id (λ k. edited_name a b put k.buffer) e

    go : (r : Bool) → same_name n x.name ≡ r → window_shown ls height (Some x) NoRows ≡ cond r (record was { point = move was.point; mark = option_map move was.mark; top = move was.top }) was
    go true e = same_window (Buffer_of x.name) _ _ _ _ _ _ 0 height (moved x.point e) (option_mapped_twice (mark_at x.name ls) move (mark_at x.name ks) (λ id. moved id e) x.mark) (moved x.top e)
    go false e = same_window (Buffer_of x.name) _ _ _ _ _ _ 0 height (kept x.point e) (option_mapped (mark_at x.name ls) (mark_at x.name ks) (λ id. kept id e) x.mark) (kept x.top e)

pub place_edited : (n : List ℕ) (a b : ℕ) (put : List ℕ) (ks : List MarkedBuffer) (x : WindowMarks) → place_of (change_first (marked_named n) (marked_edited a b put) ks) x ≡ place_moved n (shift a b (length put)) (place_of ks x)
place_edited n a b put ks x =
    let move : ℕ → ℕ = shift a b (length put) in
    let was : model.Window = window_shown ks 0 (Some x) NoRows in
    let seen : model.Window → model.Place = λ w. record { name = x.name; point = w.point; mark = w.mark } in
    let w = window_edited n a b put ks 0 (Some x) NoRows in
    same_place x.name _ _ _ _ (ap (λ (y : model.Window). y.point) w) (ap (λ (y : model.Window). y.mark) w)
    ∙ elim (same_name n x.name) as (λ r. seen (cond r (record was { point = move was.point; mark = option_map move was.mark; top = move was.top }) was) ≡ cond r (record (place_of ks x) { point = move was.point; mark = option_map move was.mark }) (place_of ks x)) [ true ↦ refl | false ↦ refl ]

pub buffers_edited : (n : List ℕ) (a b : ℕ) (put : List ℕ) (ks : List MarkedBuffer) → buffers_of (change_first (marked_named n) (marked_edited a b put) ks) ≡ change_first (is_named n) (buffer_edited a b put) (buffers_of ks)
buffers_edited n a b put ks =
    map-change_first (λ (k : MarkedBuffer). k.buffer) (marked_named n) (is_named n) (marked_edited a b put) (buffer_edited a b put) (λ k. refl) (λ k e. refl) ks

-- A MARK IS PLACED: windows that do not use it stay

pub used_parts : (r : Bool) (a b c : ℕ) → cond r (a + b + c) 0 ≡ 0 → r ≡ true → (a ≡ 0) × (b ≡ 0) × (c ≡ 0)
used_parts true a b c h e = (omega (arith, h), omega (arith, h), omega (arith, h))
used_parts false a b c h e = cc

window_marks_unused : (n : List ℕ) (id p : ℕ) (ks : List MarkedBuffer) (height : ℕ) (o : Option WindowMarks) (rows : RowPane) → window_marks_uses n id o ≡ 0 → window_shown (change_first (marked_named n) (marked_placed id p) ks) height o rows ≡ window_shown ks height o rows
window_marks_unused n id p ks height None rows h = refl
window_marks_unused n id p ks height (Some x) rows h =
    let parts = λ (s : same_name n x.name ≡ true). used_parts (same_name n x.name) (one_if (nat_eq x.point id)) (option_uses id x.mark) (one_if (nat_eq x.top id)) h s in
    same_window (Buffer_of x.name) _ _ _ _ _ _ 0 height
    (mark_unused n x.name id p ks x.point (λ s. apart_from x.point id (parts s).0))
    (marks_unused n x.name id p ks x.mark (λ s. (parts s).1))
    (mark_unused n x.name id p ks x.top (λ s. apart_from x.top id (parts s).2))

pub window_unused : (n : List ℕ) (id p : ℕ) (ks : List MarkedBuffer) (w : Window) → window_uses n id w ≡ 0 → window_of (change_first (marked_named n) (marked_placed id p) ks) w ≡ window_of ks w
window_unused n id p ks w h = window_marks_unused n id p ks w.height w.shows w.rows h

pub place_unused : (n : List ℕ) (id p : ℕ) (ks : List MarkedBuffer) (x : WindowMarks) → place_uses n id x ≡ 0 → place_of (change_first (marked_named n) (marked_placed id p) ks) x ≡ place_of ks x
place_unused n id p ks x h =
    let w = window_marks_unused n id p ks 0 (Some x) NoRows h in
    same_place x.name _ _ _ _ (ap (λ (y : model.Window). y.point) w) (ap (λ (y : model.Window). y.mark) w)

pub session_unused : (n : List ℕ) (id p : ℕ) (ks : List MarkedBuffer) (x : Session) → session_uses n id x ≡ 0 → session_of (change_first (marked_named n) (marked_placed id p) ks) x ≡ session_of ks x
session_unused n id p ks x none =
    let ks' = change_first (marked_named n) (marked_placed id p) ks in
    same_positions (session_of ks x) _ _ _ _ _ _
    (map_unused (window_uses n id) (window_of ks') (window_of ks) (window_unused n id p ks) x.windows.windows (omega (arith, none)))
    (map_unused (place_uses n id) (place_of ks') (place_of ks) (place_unused n id p ks) x.windows.places (omega (arith, none)))
    (ap (λ (bs : List Buffer). search_of bs x.state.search) (buffers_placed n id p ks))

-- A POINT IS PLACED: the selected window has it there

pub one_use : (a b : ℕ) → a ≡ b → one_if (nat_eq a b) ≡ 1
one_use a b e = let t : nat_eq a b ≡ true = eq-eqb a b e in rw t refl

pub window_marks_once : (x : WindowMarks) → window_marks_uses x.name x.point (Some x) ≡ 1 + (option_uses x.point x.mark + one_if (nat_eq x.top x.point))
window_marks_once x =
    let s : same_name x.name x.name ≡ true = is_same x.name x.name refl in
    rw (s, one_use x.point x.point refl) (omega arith)

window_marks_placed : (p : ℕ) (ks : List MarkedBuffer) (height : ℕ) (x : WindowMarks) → IsSome (mark_in (marked_at x.name ks).marks x.point) → window_marks_uses x.name x.point (Some x) ≤ 1 → window_shown (change_first (marked_named x.name) (marked_placed x.point p) ks) height (Some x) NoRows ≡ window_adjusted None (At p) Keep_mark Keep_position None (window_shown ks height (Some x) NoRows)
window_marks_placed p ks height x mark once =
    let u = window_marks_once x in
    let m : option_uses x.point x.mark ≡ 0 = omega (arith, u, once) in
    let t : one_if (nat_eq x.top x.point) ≡ 0 = omega (arith, u, once) in
    same_window (Buffer_of x.name) _ _ _ _ _ _ 0 height
    (mark_placed x.name x.point p ks mark)
    (marks_unused x.name x.name x.point p ks x.mark (λ s. m))
    (mark_unused x.name x.name x.point p ks x.top (λ s. apart_from x.top x.point t))

pub selected_window : (o : Option Window) (x : WindowMarks) → option_and_then (λ (w : Window). w.shows) o ≡ Some x → (w : Window) × (o ≡ Some w) × (w.shows ≡ Some x)
selected_window None x h = cc
selected_window (Some w) x h = (w, refl, h)

-- what a mark of the selected window does there when it is placed, it does to that window of the session alone
abbrev pub PlacesBy : ℕ → ℕ → (model.Window → model.Window) → List MarkedBuffer → WindowMarks → Type 0
PlacesBy id p f ks x = window_marks_uses x.name id (Some x) ≤ 1 → (height : ℕ) → window_shown (change_first (marked_named x.name) (marked_placed id p) ks) height (Some x) NoRows ≡ f (window_shown ks height (Some x) NoRows)

abbrev pub selected_at : (model.Window → model.Window) → model.Session → model.Session
selected_at f x = record x { windows = change_at x.selected f x.windows }

pub session_placed : (id p : ℕ) (f : model.Window → model.Window) (ks : List MarkedBuffer) (h : Session) (x : WindowMarks) → window_marks_of h ≡ Some x → 1 ≤ window_marks_uses x.name id (Some x) → PlacesBy id p f ks x → session_uses x.name id h ≤ 1 → session_of (change_first (marked_named x.name) (marked_placed id p) ks) h ≡ selected_at f (session_of ks h)
session_placed id p f ks h x sel u places once =
    let n = x.name in
    let ks' = change_first (marked_named n) (marked_placed id p) ks in
    let got = selected_window (slice_get h.windows.windows h.windows.selected) x sel in
    let w = got.0 in
    let used_is : window_uses n id w ≡ window_marks_uses n id (Some x) = ap (window_marks_uses n id) got.2 in
    let in_sum = sum_at (window_uses n id) w h.windows.windows h.windows.selected got.1 in
    let does : window_of ks' w ≡ f (window_of ks w) =
    ap (λ (o : Option WindowMarks). window_shown ks' w.height o w.rows) got.2 ∙ places (omega (arith, used_is, in_sum, once)) w.height ∙ sym (ap (λ (o : Option WindowMarks). f (window_shown ks w.height o w.rows)) got.2) in
    same_positions (session_of ks h) _ _ _ _ _ _
    (map_used_at (window_uses n id) (window_of ks') (window_of ks) f (window_unused n id p ks) w (omega (arith, used_is, u)) does h.windows.windows h.windows.selected got.1 (omega (arith, once)))
    (map_unused (place_uses n id) (place_of ks') (place_of ks) (place_unused n id p ks) h.windows.places (omega (arith, used_is, u, in_sum, once)))
    (ap (λ (bs : List Buffer). search_of bs h.state.search) (buffers_placed n id p ks))

-- a mark of a session's selected window is placed, and nothing else of the world moves
pub sessions_placed : (id p : ℕ) (f : model.Window → model.Window) (ks : List MarkedBuffer) (xs : List Session) (sid : ℕ) (h : Session) (x : WindowMarks) → find (session_id sid) xs ≡ Some h → window_marks_of h ≡ Some x → 1 ≤ window_marks_uses x.name id (Some x) → PlacesBy id p f ks x → uses x.name id xs ≤ 1 → map (session_of (change_first (marked_named x.name) (marked_placed id p) ks)) xs ≡ change_first (has_id sid) (selected_at f) (map (session_of ks) xs)
sessions_placed id p f ks xs sid h x found sel u places once =
    let n = x.name in
    let ks' = change_first (marked_named n) (marked_placed id p) ks in
    let got = selected_window (slice_get h.windows.windows h.windows.selected) x sel in
    let used_is : window_uses n id got.0 ≡ window_marks_uses n id (Some x) = ap (window_marks_uses n id) got.2 in
    let in_sum = sum_at (window_uses n id) got.0 h.windows.windows h.windows.selected got.1 in
    let in_all = sum_found (session_uses n id) (session_id sid) h xs found in
    map_used_first (session_uses n id) (session_of ks') (session_of ks) (selected_at f) (session_id sid) (has_id sid) (session_unused n id p ks) (λ a. refl) h (omega (arith, used_is, in_sum, u)) (session_placed id p f ks h x sel u places (omega (arith, in_all, once))) xs found once

-- the point
abbrev pub point_to : ℕ → model.Window → model.Window
point_to p x = window_adjusted None (At p) Keep_mark Keep_position None x

pub point_places : (p : ℕ) (ks : List MarkedBuffer) (x : WindowMarks) → IsSome (mark_in (marked_at x.name ks).marks x.point) → PlacesBy x.point p (point_to p) ks x
point_places p ks x mark once height = window_marks_placed p ks height x mark once

-- the top
abbrev pub top_to : ℕ → model.Window → model.Window
top_to p x = window_adjusted None Keep_position Keep_mark (At p) None x

pub top_uses : (x : WindowMarks) → window_marks_uses x.name x.top (Some x) ≡ 1 + (one_if (nat_eq x.point x.top) + option_uses x.top x.mark)
top_uses x =
    let s : same_name x.name x.name ≡ true = is_same x.name x.name refl in
    rw (s, one_use x.top x.top refl) (omega arith)

pub top_used_once : (x : WindowMarks) → 1 ≤ window_marks_uses x.name x.top (Some x)
top_used_once x = omega (arith, top_uses x)

-- the mark
pub mark_used_once : (x : WindowMarks) (id : ℕ) → x.mark ≡ Some id → 1 ≤ window_marks_uses x.name id (Some x)
mark_used_once x id is =
    let s : same_name x.name x.name ≡ true = is_same x.name x.name refl in
    let m : option_uses id x.mark ≡ 1 = ap (option_uses id) is ∙ one_use id id refl in
    rw s (omega (arith, m))

pub top_places : (p : ℕ) (ks : List MarkedBuffer) (x : WindowMarks) → IsSome (mark_in (marked_at x.name ks).marks x.top) → PlacesBy x.top p (top_to p) ks x
top_places p ks x mark once height =
    let u = top_uses x in
    let m : option_uses x.top x.mark ≡ 0 = omega (arith, u, once) in
    let t : one_if (nat_eq x.point x.top) ≡ 0 = omega (arith, u, once) in
    same_window (Buffer_of x.name) _ _ _ _ _ _ 0 height
    (mark_unused x.name x.name x.top p ks x.point (λ s. apart_from x.point x.top t))
    (marks_unused x.name x.name x.top p ks x.mark (λ s. m))
    (mark_placed x.name x.top p ks mark)

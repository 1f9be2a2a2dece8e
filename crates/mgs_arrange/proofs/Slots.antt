-- What a list of slots makes of the windows of a session, and which windows leave their places.
use Rattle.std.proofs.Common.{◌≡◌, ℕ, zero, suc, ◌+◌, ◌-◌, ◌/◌, ◌<◌, ◌≤◌, ◌==◌, Bool, true, false, not, ◌||◌, cond, List, [], ◌∷◌, ◌++◌, map, length, insert, remove, Option, refl, sym, ap, ◌∙◌, arith, add-one, eq-eqb, ne_eqb, eqb-true, true≢false}
use Rattle.std.specs.List.{list_any}
use Rattle.std.proofs.lemmas.List.Folds.{list_any-append}
use Rattle.std.proofs.Math.Dec.{eqb-suc-zero, eqb-zero-suc, eqb-suc-suc}
use Rattle.mgs_model.specs.World.{Place, Search, Shows, Window}
use Rattle.mgs_model.specs.View.{WindowSeen, window_seen}
use Rattle.mgs_model.specs.Outcome.{Come, Slot, is_old}
use Rattle.mgs_laws.specs.Refusals.{slots_take_memory}
use Rattle.mgs_model.specs.Plans.{height_at, old_slot, resized, rows_of, slots_but}
use Rattle.mgs_model.specs.Apply.{change_at, places_left, source_window, window_at, window_put}
use Rattle.mgs_model.proofs.Basics.{or_true}
use Rattle.mgs_arrange.specs.Arranged.{left_by, left_by_all, left_by_others, rows_in}

-- WHAT IS SEEN OF THE WINDOWS

abbrev pub seen : (List ℕ → Bool) → List Window → List WindowSeen
seen can xs = map (window_seen can) xs

pub rows_seen : (can : List ℕ → Bool) (xs : List Window) → rows_of (seen can xs) ≡ rows_in xs
rows_seen can [] = refl
rows_seen can (x ∷ xs) = ap (λ n. x.height + 1 + n) (rows_seen can xs)

pub height_seen : (can : List ℕ → Bool) (k : ℕ) (xs : List Window) → height_at k (seen can xs) ≡ (window_at k xs).height
height_seen can k [] = refl
height_seen can zero (x ∷ xs) = refl
height_seen can (suc k) (x ∷ xs) = height_seen can k xs

-- THE WINDOWS OF SLOTS

abbrev pub put : Option Search → List Window → List Place → Slot → Window
put search all places slot = window_put slot search (source_window slot.source all places)

-- these are the last of all, from i on
abbrev pub From : ℕ → List Window → List Window → Type 0
From i all xs = (j : ℕ) → window_at (i + j) all ≡ window_at j xs

from_first : (i : ℕ) (all : List Window) (x : Window) (xs : List Window) → From i all (x ∷ xs) → window_at i all ≡ x
from_first i all x xs at = (let e : i ≡ i + 0 = omega arith in ap (λ n. window_at n all) e) ∙ at 0

from_next : (i : ℕ) (all : List Window) (x : Window) (xs : List Window) → From i all (x ∷ xs) → From (i + 1) all xs
from_next i all x xs at j = (let e : i + 1 + j ≡ i + suc j = omega arith in ap (λ n. window_at n all) e) ∙ at (suc j)

pub from_start : (all : List Window) → From 0 all all
from_start all j = let e : 0 + j ≡ j = omega arith in ap (λ n. window_at n all) e

-- other heights, by the index and the height before
abbrev pub reheighted : (ℕ → ℕ → ℕ) → ℕ → List Window → List Window
reheighted f i [] = []
reheighted f i (x ∷ xs) = (record x { height = f i x.height }) ∷ reheighted f (i + 1) xs

pub put_resized : (search : Option Search) (all : List Window) (places : List Place) (can : List ℕ → Bool) (f : ℕ → ℕ → ℕ) (i : ℕ) (xs : List Window) → From i all xs → map (put search all places) (resized f i (seen can xs)) ≡ reheighted f i xs
put_resized search all places can f i [] at = refl
put_resized search all places can f i (x ∷ xs) at =
    λ t. (record (from_first i all x xs at t) { height = f i x.height }) ∷ put_resized search all places can f (i + 1) xs (from_next i all x xs at) t

pub reheighted_same : (f g : ℕ → ℕ → ℕ) (i : ℕ) (xs : List Window) → ((j h : ℕ) → f j h ≡ g j h) → reheighted f i xs ≡ reheighted g i xs
reheighted_same f g i [] same = refl
reheighted_same f g i (x ∷ xs) same = λ t. (record x { height = same i x.height t }) ∷ reheighted_same f g (i + 1) xs same t

pub reheighted_twice : (f g : ℕ → ℕ → ℕ) (i : ℕ) (xs : List Window) → reheighted f i (reheighted g i xs) ≡ reheighted (λ j h. f j (g j h)) i xs
reheighted_twice f g i [] = refl
reheighted_twice f g i (x ∷ xs) = ap (λ ys. (record x { height = f i (g i x.height) }) ∷ ys) (reheighted_twice f g (i + 1) xs)

pub reheighted_not : (f : ℕ → ℕ → ℕ) (i : ℕ) (xs : List Window) → ((j h : ℕ) → i ≤ j → f j h ≡ h) → reheighted f i xs ≡ xs
reheighted_not f i [] same = refl
reheighted_not f i (x ∷ xs) same =
    λ t. (record x { height = same i x.height (omega arith) t }) ∷ reheighted_not f (i + 1) xs (λ j h l. same j h (omega (arith, l))) t

-- one height alone, from any index on
reheighted_at : (g : ℕ → ℕ) (i m : ℕ) (xs : List Window) → reheighted (λ j h. cond (j == i + m) (g h) h) i xs ≡ change_at m (λ x. record x { height = g x.height }) xs
reheighted_at g i m [] = refl
reheighted_at g i zero (x ∷ xs) =
    let here : (i == i + 0) ≡ true = eq-eqb i (i + 0) (omega arith) in
    λ t. (record x { height = cond (here t) (g x.height) x.height })
    ∷ reheighted_not (λ j h. cond (j == i + 0) (g h) h) (i + 1) xs (λ j h l. ap (λ b. cond b (g h) h) (ne_eqb j (i + 0) (λ e. omega (arith, e, l)))) t
reheighted_at g i (suc m) (x ∷ xs) =
    let here : (i == i + suc m) ≡ false = ne_eqb i (i + suc m) (λ e. omega (arith, e)) in
    let on : i + suc m ≡ i + 1 + m = omega arith in
    λ t. (record x { height = cond (here t) (g x.height) x.height })
    ∷ (ap (λ n. reheighted (λ j h. cond (j == n) (g h) h) (i + 1) xs) on ∙ reheighted_at g (i + 1) m xs) t

pub reheighted_one : (g : ℕ → ℕ) (m : ℕ) (xs : List Window) → reheighted (λ j h. cond (j == m) (g h) h) 0 xs ≡ change_at m (λ x. record x { height = g x.height }) xs
reheighted_one g m xs =
    (let on : m ≡ 0 + m = omega arith in ap (λ n. reheighted (λ j h. cond (j == n) (g h) h) 0 xs) on) ∙ reheighted_at g 0 m xs

pub map_remove : {A B : Type 0} (f : A → B) (xs : List A) (k : ℕ) → map f (remove xs k) ≡ remove (map f xs) k
map_remove f [] zero = refl
map_remove f (x ∷ xs) (suc k) = ap (λ ys. f x ∷ ys) (map_remove f xs k)
map_remove f _ _ = refl

map_append : {A B : Type 0} (f : A → B) (xs ys : List A) → map f (xs ++ ys) ≡ map f xs ++ map f ys
map_append f [] ys = refl
map_append f (x ∷ xs) ys = ap (λ zs. f x ∷ zs) (map_append f xs ys)

-- these in place of the one at m
abbrev pub replaced_at : (Window → List Window) → ℕ → List Window → List Window
replaced_at made m [] = []
replaced_at made zero (x ∷ xs) = made x ++ xs
replaced_at made (suc m) (x ∷ xs) = x ∷ replaced_at made m xs

slots_but_past : (k : ℕ) (other : WindowSeen → List Slot) (i : ℕ) (xs : List WindowSeen) → k < i → slots_but k other i xs ≡ resized (λ j h. h) i xs
slots_but_past k other i [] l = refl
slots_but_past k other i (x ∷ xs) l =
    λ t. cond (ne_eqb i k (λ e. omega (arith, e, l)) t) (other x) (old_slot i x.height ∷ []) ++ slots_but_past k other (i + 1) xs (omega (arith, l)) t

-- the windows of slots that stand in place of the one at k
pub put_slots_but : (search : Option Search) (all : List Window) (places : List Place) (can : List ℕ → Bool) (k : ℕ) (other : WindowSeen → List Slot) (made : Window → List Window) (i m : ℕ) (xs : List Window) → ((x : Window) → window_at k all ≡ x → map (put search all places) (other (window_seen can x)) ≡ made x) → k ≡ i + m → From i all xs → map (put search all places) (slots_but k other i (seen can xs)) ≡ replaced_at made m xs
put_slots_but search all places can k other made i m [] makes is at = refl
put_slots_but search all places can k other made i zero (x ∷ xs) makes is at =
    let here : (i == k) ≡ true = eq-eqb i k (omega (arith, is)) in
    let same : k ≡ i = omega (arith, is) in
    let rest : map (put search all places) (slots_but k other (i + 1) (seen can xs)) ≡ xs =
    ap (map (put search all places)) (slots_but_past k other (i + 1) (seen can xs) (omega (arith, is)))
    ∙ put_resized search all places can (λ j h. h) (i + 1) xs (from_next i all x xs at)
    ∙ reheighted_not (λ j h. h) (i + 1) xs (λ j h l. refl) in
    ap (λ b. map (put search all places) (cond b (other (window_seen can x)) (old_slot i x.height ∷ []) ++ slots_but k other (i + 1) (seen can xs))) here
    ∙ map_append (put search all places) (other (window_seen can x)) (slots_but k other (i + 1) (seen can xs))
    ∙ (λ t. makes x (ap (λ n. window_at n all) same ∙ from_first i all x xs at) t ++ rest t)
put_slots_but search all places can k other made i (suc m) (x ∷ xs) makes is at =
    let here : (i == k) ≡ false = ne_eqb i k (λ e. omega (arith, e, is)) in
    ap (λ b. map (put search all places) (cond b (other (window_seen can x)) (old_slot i x.height ∷ []) ++ slots_but k other (i + 1) (seen can xs))) here
    ∙ (λ t. (record (from_first i all x xs at t) { height = x.height }) ∷ put_slots_but search all places can k other made (i + 1) m xs makes (omega (arith, is)) (from_next i all x xs at) t)

-- one in place of one
pub replaced_by_one : (f : Window → Window) (m : ℕ) (xs : List Window) → replaced_at (λ x. f x ∷ []) m xs ≡ change_at m f xs
replaced_by_one f m [] = refl
replaced_by_one f zero (x ∷ xs) = refl
replaced_by_one f (suc m) (x ∷ xs) = ap (λ ys. x ∷ ys) (replaced_by_one f m xs)

-- two in place of one
pub replaced_by_two : (f g : Window → Window) (m : ℕ) (xs : List Window) → m < length xs → replaced_at (λ x. f x ∷ g x ∷ []) m xs ≡ insert (change_at m f xs) (m + 1) (g (window_at m xs))
replaced_by_two f g m xs l = go m xs l ∙ ap (λ n. insert (change_at m f xs) n (g (window_at m xs))) (sym (add-one m))
  where
    go : (m : ℕ) (xs : List Window) → m < length xs → replaced_at (λ x. f x ∷ g x ∷ []) m xs ≡ insert (change_at m f xs) (suc m) (g (window_at m xs))
    go m [] l = absurd (omega (arith, l))
    go zero (x ∷ xs) l = refl
    go (suc m) (x ∷ xs) l = ap (λ ys. x ∷ ys) (go m xs (omega (arith, l)))

-- WHICH WINDOWS ARE NAMED

-- a window is named by the slots that go on from its index, or only from a later one
named_later : (i j : ℕ) (slots : List Slot) (b : Bool) → list_any (is_old (i + 1 + j)) slots ≡ b → list_any (is_old (i + suc j)) slots ≡ b
named_later i j slots b e = (let on : i + suc j ≡ i + 1 + j = omega arith in ap (λ n. list_any (is_old n) slots) on) ∙ e

pub named_not : (f : ℕ → ℕ → ℕ) (i n : ℕ) (xs : List WindowSeen) → n < i → list_any (is_old n) (resized f i xs) ≡ false
named_not f i n [] l = refl
named_not f i n (x ∷ xs) l = λ t. ne_eqb i n (λ e. omega (arith, e, l)) t || named_not f (i + 1) n xs (omega (arith, l)) t

pub named_all : (f : ℕ → ℕ → ℕ) (i j : ℕ) (xs : List WindowSeen) → j < length xs → list_any (is_old (i + j)) (resized f i xs) ≡ true
named_all f i j [] l = absurd (omega (arith, l))
named_all f i zero (x ∷ xs) l = ap (λ b. b || list_any (is_old (i + 0)) (resized f (i + 1) xs)) (eq-eqb i (i + 0) (omega arith))
named_all f i (suc j) (x ∷ xs) l = or_true (i == i + suc j) _ (named_later i j (resized f (i + 1) xs) true (named_all f (i + 1) j xs (omega (arith, l))))

pub named_but : (f : ℕ → ℕ → ℕ) (i j k : ℕ) (xs : List WindowSeen) → j < length xs → list_any (is_old (i + j)) (remove (resized f i xs) k) ≡ not (j == k)
named_but f i j k [] l = absurd (omega (arith, l))
named_but f i zero zero (x ∷ xs) l = named_not f (i + 1) (i + 0) xs (omega arith)
named_but f i (suc j) zero (x ∷ xs) l =
    named_later i j (resized f (i + 1) xs) true (named_all f (i + 1) j xs (omega (arith, l))) ∙ ap not (sym (eqb-suc-zero j))
named_but f i zero (suc k) (x ∷ xs) l =
    ap (λ b. b || list_any (is_old (i + 0)) (remove (resized f (i + 1) xs) k)) (eq-eqb i (i + 0) (omega arith)) ∙ ap not (sym (eqb-zero-suc k))
named_but f i (suc j) (suc k) (x ∷ xs) l =
    ap (λ b. b || list_any (is_old (i + suc j)) (remove (resized f (i + 1) xs) k)) (ne_eqb i (i + suc j) (λ e. omega (arith, e)))
    ∙ named_later i j (remove (resized f (i + 1) xs) k) (not (j == k)) (named_but f (i + 1) j k xs (omega (arith, l)))
    ∙ ap not (sym (eqb-suc-suc j k))

-- in the slots of a split
abbrev pub halves : ℕ → WindowSeen → List Slot
halves k x = old_slot k (x.height / 2) ∷ old_slot k (x.height - 1 - x.height / 2) ∷ []

pub named_halves : (k i j : ℕ) (xs : List WindowSeen) → j < length xs → list_any (is_old (i + j)) (slots_but k (halves k) i xs) ≡ true
named_halves k i j [] l = absurd (omega (arith, l))
named_halves k i zero (x ∷ xs) l = go (i == k) refl
  where
    go : (b : Bool) → (i == k) ≡ b → list_any (is_old (i + 0)) (cond b (halves k x) (old_slot i x.height ∷ []) ++ slots_but k (halves k) (i + 1) xs) ≡ true
    go true e = ap (λ b. b || (b || list_any (is_old (i + 0)) (slots_but k (halves k) (i + 1) xs))) (eq-eqb k (i + 0) (omega (arith, eqb-true i k e)))
    go false e = ap (λ b. b || list_any (is_old (i + 0)) (slots_but k (halves k) (i + 1) xs)) (eq-eqb i (i + 0) (omega arith))
named_halves k i (suc j) (x ∷ xs) l =
    list_any-append (is_old (i + suc j)) (cond (i == k) (halves k x) (old_slot i x.height ∷ [])) (slots_but k (halves k) (i + 1) xs)
    ∙ or_true (list_any (is_old (i + suc j)) (cond (i == k) (halves k x) (old_slot i x.height ∷ []))) _
    (named_later i j (slots_but k (halves k) (i + 1) xs) true (named_halves k (i + 1) j xs (omega (arith, l))))

-- and where the one at k comes to something else
abbrev pub come : Shows → ℕ → WindowSeen → List Slot
come shows k x = (record (old_slot k x.height) { source = Come shows }) ∷ []

pub named_come : (shows : Shows) (k i j m : ℕ) (xs : List WindowSeen) → k ≡ i + m → j < length xs → list_any (is_old (i + j)) (slots_but k (come shows k) i xs) ≡ not (j == m)
named_come shows k i j m [] is l = absurd (omega (arith, l))
named_come shows k i zero zero (x ∷ xs) is l =
    ap (λ b. list_any (is_old (i + 0)) (cond b (come shows k x) (old_slot i x.height ∷ []) ++ slots_but k (come shows k) (i + 1) xs)) (eq-eqb i k (omega (arith, is)))
    ∙ ap (list_any (is_old (i + 0))) (slots_but_past k (come shows k) (i + 1) xs (omega (arith, is)))
    ∙ named_not (λ j h. h) (i + 1) (i + 0) xs (omega arith)
named_come shows k i (suc j) zero (x ∷ xs) is l =
    ap (λ b. list_any (is_old (i + suc j)) (cond b (come shows k x) (old_slot i x.height ∷ []) ++ slots_but k (come shows k) (i + 1) xs)) (eq-eqb i k (omega (arith, is)))
    ∙ ap (list_any (is_old (i + suc j))) (slots_but_past k (come shows k) (i + 1) xs (omega (arith, is)))
    ∙ named_later i j (resized (λ j h. h) (i + 1) xs) true (named_all (λ j h. h) (i + 1) j xs (omega (arith, l)))
    ∙ ap not (sym (eqb-suc-zero j))
named_come shows k i zero (suc m) (x ∷ xs) is l =
    ap (λ b. list_any (is_old (i + 0)) (cond b (come shows k x) (old_slot i x.height ∷ []) ++ slots_but k (come shows k) (i + 1) xs)) (ne_eqb i k (λ e. omega (arith, e, is)))
    ∙ ap (λ b. b || list_any (is_old (i + 0)) (slots_but k (come shows k) (i + 1) xs)) (eq-eqb i (i + 0) (omega arith))
    ∙ ap not (sym (eqb-zero-suc m))
named_come shows k i (suc j) (suc m) (x ∷ xs) is l =
    ap (λ b. list_any (is_old (i + suc j)) (cond b (come shows k x) (old_slot i x.height ∷ []) ++ slots_but k (come shows k) (i + 1) xs)) (ne_eqb i k (λ e. omega (arith, e, is)))
    ∙ ap (λ b. b || list_any (is_old (i + suc j)) (slots_but k (come shows k) (i + 1) xs)) (ne_eqb i (i + suc j) (λ e. omega (arith, e)))
    ∙ named_later i j (slots_but k (come shows k) (i + 1) xs) (not (j == m)) (named_come shows k (i + 1) j m xs (omega (arith, is)) (omega (arith, l)))
    ∙ ap not (sym (eqb-suc-suc j m))

-- by one slot alone
pub named_one : (k j h : ℕ) → list_any (is_old (0 + j)) (old_slot k h ∷ []) ≡ (j == k)
named_one k j h = go (j == k) refl
  where
    go : (b : Bool) → (j == k) ≡ b → ((k == 0 + j) || false) ≡ b
    go true e = ap (λ c. c || false) (eq-eqb k (0 + j) (omega (arith, eqb-true j k e)))
    go false e = ap (λ c. c || false) (ne_eqb k (0 + j) (λ p. true≢false (sym (eq-eqb j k (omega (arith, p))) ∙ e)))

-- slots take memory where those in place of the one at k do
pub takes_memory_at : (k : ℕ) (other : WindowSeen → List Slot) (i m : ℕ) (xs : List WindowSeen) → ((x : WindowSeen) (rest : List Slot) → slots_take_memory (other x ++ rest) ≡ true) → k ≡ i + m → m < length xs → slots_take_memory (slots_but k other i xs) ≡ true
takes_memory_at k other i m [] takes is l = absurd (omega (arith, l))
takes_memory_at k other i zero (x ∷ xs) takes is l =
    let rest = slots_but k other (i + 1) xs in
    ap (λ b. slots_take_memory (cond b (other x) (old_slot i x.height ∷ []) ++ rest)) (eq-eqb i k (omega (arith, is))) ∙ takes x rest
takes_memory_at k other i (suc m) (x ∷ xs) takes is l =
    let rest = slots_but k other (i + 1) xs in
    ap (λ b. slots_take_memory (cond b (other x) (old_slot i x.height ∷ []) ++ rest)) (ne_eqb i k (λ e. omega (arith, e, is)))
    ∙ or_true (list_any (is_old i) rest) _ (takes_memory_at k other (i + 1) m xs takes (omega (arith, is)) (omega (arith, l)))

-- WHICH PLACES ARE LEFT

first_named : (i : ℕ) (slots : List Slot) (b : Bool) → list_any (is_old (i + 0)) slots ≡ b → list_any (is_old i) slots ≡ b
first_named i slots b e = (let on : i ≡ i + 0 = omega arith in ap (λ n. list_any (is_old n) slots) on) ∙ e

next_named : (i j : ℕ) (slots : List Slot) (b : Bool) → list_any (is_old (i + suc j)) slots ≡ b → list_any (is_old (suc i + j)) slots ≡ b
next_named i j slots b e = (let on : suc i + j ≡ i + suc j = omega arith in ap (λ n. list_any (is_old n) slots) on) ∙ e

-- none, where all windows are named
pub all_stay : (slots : List Slot) (i : ℕ) (xs : List Window) (places : List Place) → ((j : ℕ) → j < length xs → list_any (is_old (i + j)) slots ≡ true) → places_left i slots xs places ≡ places
all_stay slots i [] places named = refl
all_stay slots i (x ∷ xs) places named =
    ap (λ b. places_left (suc i) slots xs (cond b places (left_by x places))) (first_named i slots true (named 0 (omega arith)))
    ∙ all_stay slots (suc i) xs places (λ j l. next_named i j slots true (named (suc j) (omega (arith, l))))

-- that of the one at k
pub one_leaves : (slots : List Slot) (i k : ℕ) (xs : List Window) (places : List Place) → k < length xs → ((j : ℕ) → j < length xs → list_any (is_old (i + j)) slots ≡ not (j == k)) → places_left i slots xs places ≡ left_by (window_at k xs) places
one_leaves slots i k [] places within named = absurd (omega (arith, within))
one_leaves slots i zero (x ∷ xs) places within named =
    ap (λ b. places_left (suc i) slots xs (cond b places (left_by x places))) (first_named i slots false (named 0 (omega arith)))
    ∙ all_stay slots (suc i) xs (left_by x places) (λ j l. next_named i j slots true (named (suc j) (omega (arith, l)) ∙ ap not (eqb-suc-zero j)))
one_leaves slots i (suc k) (x ∷ xs) places within named =
    ap (λ b. places_left (suc i) slots xs (cond b places (left_by x places))) (first_named i slots true (named 0 (omega arith) ∙ ap not (eqb-zero-suc k)))
    ∙ one_leaves slots (suc i) k xs places (omega (arith, within)) (λ j l. next_named i j slots (not (j == k)) (named (suc j) (omega (arith, l)) ∙ ap not (eqb-suc-suc j k)))

-- those of all
all_leave : (slots : List Slot) (i : ℕ) (xs : List Window) (places : List Place) → ((j : ℕ) → list_any (is_old (i + j)) slots ≡ false) → places_left i slots xs places ≡ left_by_all xs places
all_leave slots i [] places named = refl
all_leave slots i (x ∷ xs) places named =
    ap (λ b. places_left (suc i) slots xs (cond b places (left_by x places))) (first_named i slots false (named 0))
    ∙ all_leave slots (suc i) xs (left_by x places) (λ j. next_named i j slots false (named (suc j)))

-- those of all but the one at k
pub others_leave : (slots : List Slot) (i k : ℕ) (xs : List Window) (places : List Place) → ((j : ℕ) → list_any (is_old (i + j)) slots ≡ (j == k)) → places_left i slots xs places ≡ left_by_others k xs places
others_leave slots i k [] places named = refl
others_leave slots i zero (x ∷ xs) places named =
    ap (λ b. places_left (suc i) slots xs (cond b places (left_by x places))) (first_named i slots true (named 0))
    ∙ all_leave slots (suc i) xs places (λ j. next_named i j slots false (named (suc j) ∙ eqb-suc-zero j))
others_leave slots i (suc k) (x ∷ xs) places named =
    ap (λ b. places_left (suc i) slots xs (cond b places (left_by x places))) (first_named i slots false (named 0 ∙ eqb-zero-suc k))
    ∙ others_leave slots (suc i) k xs (left_by x places) (λ j. next_named i j slots (j == k) (named (suc j) ∙ eqb-suc-suc j k))

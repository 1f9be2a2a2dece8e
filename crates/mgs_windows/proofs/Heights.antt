-- Lists of windows of which one is changed, goes, or becomes two.
use Rattle.std.proofs.Common.{◌≡◌, ℕ, zero, suc, ◌+◌, ◌-◌, ◌/◌, ◌<◌, ◌≤◌, ◌≢◌, Bool, true, false, cond, List, [], ◌∷◌, length, Option, Some, None, refl, sym, ap, ◌∙◌, arith, get_or, ltb-true}
use Rattle.std.specs.Prelude.{slice_set, slice_index_or, remove, nat_lt, All}
use Rattle.std.specs.List.{insert}
use Rattle.std.specs.Option.{option_map}
use Rattle.std.proofs.Math.Nat.{div-mul-le_self}
use Rattle.std.proofs.lemmas.Nat.{le-div}
use Rattle.mgs_model.specs.Apply.{change_at}
use Rattle.mgs_windows.specs.declared.WindowMarks.{WindowMarks}
use Rattle.mgs_windows.specs.declared.Window.{Window}
use Rattle.mgs_windows.specs.declared.RowPane.{RowPane}
use Rattle.mgs_windows.specs.Panes.{IsWindowList, closer, given, grown, height_at, lower_half, mark_set, marked, rows_set, showing, showing_rows, shows_at, shrunk, split_at, room_of, shown_in, one_shown, windows_without}

-- what is read at an index
pub height_or : (xs : List Window) (i : ℕ) (x : Window) → i < length xs → (slice_index_or xs i x).height ≡ height_at i xs
height_or [] i x within = absurd (omega (arith, within))
height_or (z ∷ xs) zero x within = refl
height_or (z ∷ xs) (suc i) x within = height_or xs i x (omega (arith, within))

pub shows_or : (xs : List Window) (i : ℕ) (x : Window) → i < length xs → (slice_index_or xs i x).shows ≡ shows_at i xs
shows_or [] i x within = absurd (omega (arith, within))
shows_or (z ∷ xs) zero x within = refl
shows_or (z ∷ xs) (suc i) x within = shows_or xs i x (omega (arith, within))

-- one is written by what is read of it field by field
set_so : (xs : List Window) (i : ℕ) (x y z : Window) (f : Window → Window) → slice_set xs i (f (record { height = (slice_index_or xs i x).height; shows = (slice_index_or xs i y).shows; rows = (slice_index_or xs i z).rows })) ≡ change_at i f xs
set_so [] i x y z f = refl
set_so (w ∷ xs) zero x y z f = refl
set_so (w ∷ xs) (suc i) x y z f = ap (λ ws. w ∷ ws) (set_so xs i x y z f)

pub set_grown : (xs : List Window) (i : ℕ) (x y z : Window) (n : ℕ) → slice_set xs i (record { height = (slice_index_or xs i x).height + n; shows = (slice_index_or xs i y).shows; rows = (slice_index_or xs i z).rows }) ≡ change_at i (grown n) xs
set_grown xs i x y z n = set_so xs i x y z (grown n)

pub set_shrunk : (xs : List Window) (i : ℕ) (x y z : Window) (n : ℕ) → slice_set xs i (record { height = (slice_index_or xs i x).height - n; shows = (slice_index_or xs i y).shows; rows = (slice_index_or xs i z).rows }) ≡ change_at i (shrunk n) xs
set_shrunk xs i x y z n = set_so xs i x y z (shrunk n)

pub set_marked : (xs : List Window) (i : ℕ) (x y z : Window) (mark : ℕ) → slice_set xs i (record { height = (slice_index_or xs i x).height; shows = option_map (mark_set mark) (slice_index_or xs i y).shows; rows = (slice_index_or xs i z).rows }) ≡ change_at i (marked mark) xs
set_marked xs i x y z mark = set_so xs i x y z (marked mark)

pub set_showing : (xs : List Window) (i : ℕ) (x z : Window) (y : WindowMarks) → slice_set xs i (record { height = (slice_index_or xs i x).height; shows = Some y; rows = (slice_index_or xs i z).rows }) ≡ change_at i (showing y) xs
set_showing xs i x z y = set_so xs i x x z (showing y)

pub set_showing_rows : (xs : List Window) (i : ℕ) (x : Window) (rows : RowPane) → slice_set xs i (record { height = (slice_index_or xs i x).height; shows = None; rows = rows }) ≡ change_at i (showing_rows rows) xs
set_showing_rows xs i x rows = set_so xs i x x x (showing_rows rows)

pub set_rows_set : (xs : List Window) (i : ℕ) (x y : Window) (rows : RowPane) → slice_set xs i (record { height = (slice_index_or xs i x).height; shows = (slice_index_or xs i y).shows; rows = rows }) ≡ change_at i (rows_set rows) xs
set_rows_set xs i x y rows = set_so xs i x y x (rows_set rows)

-- AN ELEMENT IS CHANGED

pub length_changed : (f : Window → Window) (i : ℕ) (xs : List Window) → length (change_at i f xs) ≡ length xs
length_changed f i [] = refl
length_changed f zero (x ∷ xs) = refl
length_changed f (suc i) (x ∷ xs) = ap suc (length_changed f i xs)

pub height_other : (f : Window → Window) (i j : ℕ) (xs : List Window) → i ≢ j → height_at i (change_at j f xs) ≡ height_at i xs
height_other f i j [] apart = refl
height_other f zero zero (x ∷ xs) apart = absurd (apart refl)
height_other f zero (suc j) (x ∷ xs) apart = refl
height_other f (suc i) zero (x ∷ xs) apart = refl
height_other f (suc i) (suc j) (x ∷ xs) apart = height_other f i j xs (λ e. apart (ap suc e))

pub shows_same : (f : Window → Window) (i j : ℕ) (xs : List Window) → ((x : Window) → (f x).shows ≡ x.shows) → shows_at i (change_at j f xs) ≡ shows_at i xs
shows_same f i j [] same = refl
shows_same f zero zero (x ∷ xs) same = same x
shows_same f zero (suc j) (x ∷ xs) same = refl
shows_same f (suc i) zero (x ∷ xs) same = refl
shows_same f (suc i) (suc j) (x ∷ xs) same = shows_same f i j xs same

shown_same : (f : Window → Window) (i : ℕ) (xs : List Window) → ((x : Window) → (f x).shows ≡ x.shows) → shown_in (change_at i f xs) ≡ shown_in xs
shown_same f i [] same = refl
shown_same f zero (x ∷ xs) same = ap (λ o. one_shown o + shown_in xs) (same x)
shown_same f (suc i) (x ∷ xs) same = ap (λ k. one_shown x.shows + k) (shown_same f i xs same)

room_grown : (n i : ℕ) (xs : List Window) → i < length xs → room_of (change_at i (grown n) xs) ≡ room_of xs + n
room_grown n i [] within = absurd (omega (arith, within))
room_grown n zero (x ∷ xs) within = omega arith
room_grown n (suc i) (x ∷ xs) within = omega (arith, room_grown n i xs (omega (arith, within)))

room_shrunk : (n i : ℕ) (xs : List Window) → i < length xs → n ≤ height_at i xs → room_of (change_at i (shrunk n) xs) + n ≡ room_of xs
room_shrunk n i [] within stays = absurd (omega (arith, within))
room_shrunk n zero (x ∷ xs) within stays = omega (arith, stays)
room_shrunk n (suc i) (x ∷ xs) within stays = omega (arith, room_shrunk n i xs (omega (arith, within)) stays)

-- each has a row
abbrev pub AreHigh : List Window → Type 0
AreHigh [] = Unit {0}
AreHigh (x ∷ xs) = (1 ≤ x.height) × AreHigh xs

pub high_of : (xs : List Window) → All (λ (x : Window). 1 ≤ x.height) xs → AreHigh xs
high_of [] all = tt
high_of (x ∷ xs) all = (all 0 x (omega arith), high_of xs (λ k d h. all (suc k) d (omega (arith, h))))

pub of_high : (xs : List Window) → AreHigh xs → All (λ (x : Window). 1 ≤ x.height) xs
of_high [] high k d h = absurd (omega (arith, h))
of_high (x ∷ xs) high zero d h = high.0
of_high (x ∷ xs) high (suc k) d h = of_high xs high.1 k d (omega (arith, h))

some_grown : (n i : ℕ) (xs : List Window) → AreHigh xs → AreHigh (change_at i (grown n) xs)
some_grown n i [] all = all
some_grown n zero (x ∷ xs) all = (omega (arith, all.0), all.1)
some_grown n (suc i) (x ∷ xs) all = (all.0, some_grown n i xs all.1)

some_shrunk : (n i : ℕ) (xs : List Window) → n < height_at i xs → AreHigh xs → AreHigh (change_at i (shrunk n) xs)
some_shrunk n i [] stays all = all
some_shrunk n zero (x ∷ xs) stays all = (omega (arith, stays), all.1)
some_shrunk n (suc i) (x ∷ xs) stays all = (all.0, some_shrunk n i xs stays all.1)

room_same : (f : Window → Window) (i : ℕ) (xs : List Window) → ((x : Window) → (f x).height ≡ x.height) → room_of (change_at i f xs) ≡ room_of xs
room_same f i [] same = refl
room_same f zero (x ∷ xs) same = ap (λ h. h + 1 + room_of xs) (same x)
room_same f (suc i) (x ∷ xs) same = ap (λ k. x.height + 1 + k) (room_same f i xs same)

some_same : (f : Window → Window) (i : ℕ) (xs : List Window) → ((x : Window) → (f x).height ≡ x.height) → AreHigh xs → AreHigh (change_at i f xs)
some_same f i [] same all = all
some_same f zero (x ∷ xs) same all = (omega (arith, same x, all.0), all.1)
some_same f (suc i) (x ∷ xs) same all = (all.0, some_same f i xs same all.1)

-- ROWS ARE LIMITED

height_most : (i : ℕ) (xs : List Window) → i < length xs → height_at i xs + 1 ≤ room_of xs
height_most i [] within = absurd (omega (arith, within))
height_most zero (x ∷ xs) within = omega arith
height_most (suc i) (x ∷ xs) within = omega (arith, height_most i xs (omega (arith, within)))

pub two_most : (i j : ℕ) (xs : List Window) → i ≢ j → i < length xs → j < length xs → height_at i xs + height_at j xs + 2 ≤ room_of xs
two_most i j [] apart within_i within_j = absurd (omega (arith, within_i))
two_most zero zero (x ∷ xs) apart within_i within_j = absurd (apart refl)
two_most zero (suc j) (x ∷ xs) apart within_i within_j = omega (arith, height_most j xs (omega (arith, within_j)))
two_most (suc i) zero (x ∷ xs) apart within_i within_j = omega (arith, height_most i xs (omega (arith, within_i)))
two_most (suc i) (suc j) (x ∷ xs) apart within_i within_j = omega (arith, two_most i j xs (λ e. apart (ap suc e)) (omega (arith, within_i)) (omega (arith, within_j)))

-- rows go from one window to another
pub given_list : (rows from to n : ℕ) (xs : List Window) → from ≢ to → from < length xs → to < length xs → n < height_at from xs → room_of xs + 1 ≡ rows → All (λ (x : Window). 1 ≤ x.height) xs
    → (length (given from to n xs) ≡ length xs) × All (λ (x : Window). 1 ≤ x.height) (given from to n xs) × (room_of (given from to n xs) + 1 ≡ rows) × (shown_in (given from to n xs) ≡ shown_in xs)
given_list rows from to n xs apart within_from within_to stays fill some =
    let ys = change_at to (grown n) xs in
    let len : length ys ≡ length xs = length_changed (grown n) to xs in
    let high : height_at from ys ≡ height_at from xs = height_other (grown n) from to xs apart in (
      length_changed (shrunk n) from ys ∙ len,
      of_high _ (some_shrunk n from ys (omega (arith, stays, high)) (some_grown n to xs (high_of xs some))),
      omega (arith, room_shrunk n from ys (omega (arith, within_from, len)) (omega (arith, stays, high)), room_grown n to xs within_to, fill),
      shown_same (shrunk n) from ys (λ x. refl) ∙ shown_same (grown n) to xs (λ x. refl),
    )

-- A MARK IS SET

one_marked : (mark : ℕ) (o : Option WindowMarks) → one_shown (option_map (mark_set mark) o) ≡ one_shown o
one_marked mark None = refl
one_marked mark (Some x) = refl

shown_marked : (mark i : ℕ) (xs : List Window) → shown_in (change_at i (marked mark) xs) ≡ shown_in xs
shown_marked mark i [] = refl
shown_marked mark zero (x ∷ xs) = ap (λ k. k + shown_in xs) (one_marked mark x.shows)
shown_marked mark (suc i) (x ∷ xs) = ap (λ k. one_shown x.shows + k) (shown_marked mark i xs)

pub marked_list : (rows selected capacity : ℕ) (xs : List Window) (places : List WindowMarks) (mark : ℕ) → IsWindowList (record { rows = rows; windows = xs; selected = selected; places = places; capacity = capacity })
    → IsWindowList (record { rows = rows; windows = change_at selected (marked mark) xs; selected = selected; places = places; capacity = capacity })
marked_list rows selected capacity xs places mark form = record {
  selected = omega (arith, form.selected, length_changed (marked mark) selected xs);
  some = of_high _ (some_same (marked mark) selected xs (λ x. refl) (high_of xs form.some));
  fill = omega (arith, form.fill, room_same (marked mark) selected xs (λ x. refl));
  room = omega (arith, form.room, shown_marked mark selected xs);
}

-- A WINDOW COMES TO SHOW A BUFFER

shown_showing : (y : WindowMarks) (i : ℕ) (xs : List Window) → i < length xs → shown_in (change_at i (showing y) xs) + one_shown (shows_at i xs) ≡ shown_in xs + 1
shown_showing y i [] within = absurd (omega (arith, within))
shown_showing y zero (x ∷ xs) within = omega arith
shown_showing y (suc i) (x ∷ xs) within = omega (arith, shown_showing y i xs (omega (arith, within)))

pub showing_list : (rows selected capacity after : ℕ) (xs : List Window) (places left : List WindowMarks) (y : WindowMarks) → IsWindowList (record { rows = rows; windows = xs; selected = selected; places = places; capacity = capacity })
    → length left ≤ length places + one_shown (shows_at selected xs) → length places + shown_in xs + 1 ≤ after
    → IsWindowList (record { rows = rows; windows = change_at selected (showing y) xs; selected = selected; places = left; capacity = after })
showing_list rows selected capacity after xs places left y form most room = record {
  selected = omega (arith, form.selected, length_changed (showing y) selected xs);
  some = of_high _ (some_same (showing y) selected xs (λ x. refl) (high_of xs form.some));
  fill = omega (arith, form.fill, room_same (showing y) selected xs (λ x. refl));
  room = omega (arith, most, room, shown_showing y selected xs form.selected);
}

-- A WINDOW COMES TO SHOW ROWS

shown_without : (rows : RowPane) (i : ℕ) (xs : List Window) → i < length xs → shown_in (change_at i (showing_rows rows) xs) + one_shown (shows_at i xs) ≡ shown_in xs
shown_without rows i [] within = absurd (omega (arith, within))
shown_without rows zero (x ∷ xs) within = omega arith
shown_without rows (suc i) (x ∷ xs) within = omega (arith, shown_without rows i xs (omega (arith, within)))

pub showing_rows_list : (rows selected capacity after : ℕ) (xs : List Window) (places left : List WindowMarks) (pane : RowPane) → IsWindowList (record { rows = rows; windows = xs; selected = selected; places = places; capacity = capacity })
    → length left ≤ length places + one_shown (shows_at selected xs) → after ≡ capacity
    → IsWindowList (record { rows = rows; windows = change_at selected (showing_rows pane) xs; selected = selected; places = left; capacity = after })
showing_rows_list rows selected capacity after xs places left pane form most same = record {
  selected = omega (arith, form.selected, length_changed (showing_rows pane) selected xs);
  some = of_high _ (some_same (showing_rows pane) selected xs (λ x. refl) (high_of xs form.some));
  fill = omega (arith, form.fill, room_same (showing_rows pane) selected xs (λ x. refl));
  room = omega (arith, most, same, form.room, shown_without pane selected xs form.selected);
}

pub rows_set_list : (rows selected capacity : ℕ) (xs : List Window) (places : List WindowMarks) (pane : RowPane) → IsWindowList (record { rows = rows; windows = xs; selected = selected; places = places; capacity = capacity })
    → IsWindowList (record { rows = rows; windows = change_at selected (rows_set pane) xs; selected = selected; places = places; capacity = capacity })
rows_set_list rows selected capacity xs places pane form = record {
  selected = omega (arith, form.selected, length_changed (rows_set pane) selected xs);
  some = of_high _ (some_same (rows_set pane) selected xs (λ x. refl) (high_of xs form.some));
  fill = omega (arith, form.fill, room_same (rows_set pane) selected xs (λ x. refl));
  room = omega (arith, form.room, shown_same (rows_set pane) selected xs (λ x. refl));
}

-- A WINDOW GOES

room_removed : (k : ℕ) (xs : List Window) → k < length xs → room_of (remove xs k) + (height_at k xs + 1) ≡ room_of xs
room_removed k [] within = absurd (omega (arith, within))
room_removed zero (x ∷ xs) within = omega arith
room_removed (suc k) (x ∷ xs) within = omega (arith, room_removed k xs (omega (arith, within)))

shown_removed : (k : ℕ) (xs : List Window) → k < length xs → shown_in (remove xs k) + one_shown (shows_at k xs) ≡ shown_in xs
shown_removed k [] within = absurd (omega (arith, within))
shown_removed zero (x ∷ xs) within = omega arith
shown_removed (suc k) (x ∷ xs) within = omega (arith, shown_removed k xs (omega (arith, within)))

some_removed : (k : ℕ) (xs : List Window) → AreHigh xs → AreHigh (remove xs k)
some_removed zero [] all = all
some_removed (suc k) [] all = all
some_removed zero (x ∷ xs) all = all.1
some_removed (suc k) (x ∷ xs) all = (all.0, some_removed k xs all.1)

pub length_removed : (k : ℕ) (xs : List Window) → k < length xs → length (remove xs k) + 1 ≡ length xs
length_removed k [] within = absurd (omega (arith, within))
length_removed zero (x ∷ xs) within = omega arith
length_removed (suc k) (x ∷ xs) within = omega (arith, length_removed k xs (omega (arith, within)))

-- how many windows show a buffer
pub shown_at_most : (k : ℕ) (xs : List Window) → k < length xs → one_shown (shows_at k xs) ≤ shown_in xs
shown_at_most k xs within = omega (arith, shown_removed k xs within)

one_most : (o : Option WindowMarks) → one_shown o ≤ 1
one_most None = omega arith
one_most (Some x) = omega arith

pub shown_most : (xs : List Window) → shown_in xs ≤ length xs
shown_most [] = omega arith
shown_most (x ∷ xs) = omega (arith, shown_most xs, one_most x.shows)

pub without_list : (rows k heir : ℕ) (xs : List Window) → heir ≢ k → k < length xs → heir < length xs → room_of xs + 1 ≡ rows → All (λ (x : Window). 1 ≤ x.height) xs
    → (length (windows_without k heir xs) + 1 ≡ length xs) × All (λ (x : Window). 1 ≤ x.height) (windows_without k heir xs) × (room_of (windows_without k heir xs) + 1 ≡ rows) × (shown_in (windows_without k heir xs) + one_shown (shows_at k xs) ≡ shown_in xs)
without_list rows k heir xs apart within within_heir fill some =
    let n = height_at k xs + 1 in
    let ys = change_at heir (grown n) xs in
    let len : length ys ≡ length xs = length_changed (grown n) heir xs in
    let within_ys : k < length ys = omega (arith, within, len) in
    let high : height_at k ys ≡ height_at k xs = height_other (grown n) k heir xs (λ e. apart (sym e)) in
    let shows : one_shown (shows_at k ys) ≡ one_shown (shows_at k xs) = ap one_shown (shows_same (grown n) k heir xs (λ x. refl)) in (
      omega (arith, length_removed k ys within_ys, len),
      of_high _ (some_removed k ys (some_grown n heir xs (high_of xs some))),
      omega (arith, room_removed k ys within_ys, room_grown n heir xs within_heir, high, fill),
      omega (arith, shown_removed k ys within_ys, shown_same (grown n) heir xs (λ x. refl), shows),
    )

-- the selected one is there still
pub closer_within : (k selected many few : ℕ) → few + 1 ≡ many → 2 ≤ many → k < many → selected < many → closer k selected < few
closer_within k selected many few e two within held = go (nat_lt selected k) refl
  where
    go : (b : Bool) → nat_lt selected k ≡ b → cond b selected (selected - 1) < few
    go true below = omega (arith, ltb-true selected k below, within, e)
    go false above = omega (arith, e, two, held)

pub two_at_least : (k heir many : ℕ) → heir ≢ k → k < many → heir < many → 2 ≤ many
two_at_least zero zero many apart within within_heir = absurd (apart refl)
two_at_least zero (suc h) many apart within within_heir = omega (arith, within_heir)
two_at_least (suc k) h many apart within within_heir = omega (arith, within)

-- A WINDOW BECOMES TWO

half_most : (h : ℕ) → h / 2 + h / 2 ≤ h
half_most h = omega (arith, div-mul-le_self h 2)

half_least : (h : ℕ) → 2 ≤ h → 1 ≤ h / 2
half_least h two = le-div 1 h 2 (omega arith) (omega (arith, two))

split_there : (xs : List Window) (k : ℕ) (shows : Option WindowMarks) (x : Window) → x ≡ get_or xs k x → k < length xs → insert (change_at k (shrunk (x.height - x.height / 2)) xs) (suc k) (lower_half shows x) ≡ split_at k shows xs
split_there [] k shows x is within = absurd (omega (arith, within))
split_there (y ∷ xs) zero shows x is within =
    let upper : y.height - (y.height - y.height / 2) ≡ y.height / 2 = omega (arith, half_most y.height) in
    rw is (ap (λ (h : ℕ). let w : Window = record y { height = h } in w ∷ lower_half shows y ∷ xs) upper)
split_there (y ∷ xs) (suc k) shows x is within = ap (λ ws. y ∷ ws) (split_there xs k shows x is (omega (arith, within)))

pub split_so : (xs : List Window) (k : ℕ) (shows : Option WindowMarks) (x : Window) → x ≡ get_or xs k x → k < length xs → insert (change_at k (shrunk (x.height - x.height / 2)) xs) (k + 1) (lower_half shows x) ≡ split_at k shows xs
split_so xs k shows x is within =
    let next : k + 1 ≡ suc k = omega arith in
    ap (λ (n : ℕ). insert (change_at k (shrunk (x.height - x.height / 2)) xs) n (lower_half shows x)) next ∙ split_there xs k shows x is within

room_split : (xs : List Window) (k : ℕ) (shows : Option WindowMarks) → k < length xs → 3 ≤ height_at k xs → room_of (split_at k shows xs) ≡ room_of xs
room_split [] k shows within high = absurd (omega (arith, within))
room_split (x ∷ xs) zero shows within high = omega (arith, high, half_most x.height)
room_split (x ∷ xs) (suc k) shows within high = omega (arith, room_split xs k shows (omega (arith, within)) high)

shown_split : (xs : List Window) (k : ℕ) (shows : Option WindowMarks) → k < length xs → shown_in (split_at k shows xs) ≡ shown_in xs + one_shown shows
shown_split [] k shows within = absurd (omega (arith, within))
shown_split (x ∷ xs) zero shows within = omega arith
shown_split (x ∷ xs) (suc k) shows within = omega (arith, shown_split xs k shows (omega (arith, within)))

some_split : (xs : List Window) (k : ℕ) (shows : Option WindowMarks) → k < length xs → 3 ≤ height_at k xs → AreHigh xs → AreHigh (split_at k shows xs)
some_split [] k shows within high all = absurd (omega (arith, within))
some_split (x ∷ xs) zero shows within high all = (half_least x.height (omega (arith, high)), (omega (arith, high, half_most x.height), all.1))
some_split (x ∷ xs) (suc k) shows within high all = (all.0, some_split xs k shows (omega (arith, within)) high all.1)

length_split : (xs : List Window) (k : ℕ) (shows : Option WindowMarks) → k < length xs → length (split_at k shows xs) ≡ length xs + 1
length_split [] k shows within = absurd (omega (arith, within))
length_split (x ∷ xs) zero shows within = omega arith
length_split (x ∷ xs) (suc k) shows within = omega (arith, length_split xs k shows (omega (arith, within)))

pub split_list : (rows k : ℕ) (xs : List Window) (shows : Option WindowMarks) → k < length xs → 3 ≤ height_at k xs → room_of xs + 1 ≡ rows → All (λ (x : Window). 1 ≤ x.height) xs
    → (length (split_at k shows xs) ≡ length xs + 1) × All (λ (x : Window). 1 ≤ x.height) (split_at k shows xs) × (room_of (split_at k shows xs) + 1 ≡ rows) × (shown_in (split_at k shows xs) ≤ shown_in xs + 1)
split_list rows k xs shows within high fill some =
    (length_split xs k shows within, of_high _ (some_split xs k shows within high (high_of xs some)), omega (arith, room_split xs k shows within high, fill), omega (arith, shown_split xs k shows within, one_most shows))

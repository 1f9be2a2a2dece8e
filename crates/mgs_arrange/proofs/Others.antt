-- Deleting the other windows, one after another.
use Rattle.std.proofs.Common.{◌≡◌, ℕ, zero, suc, ◌+◌, ◌-◌, ◌<◌, cond, List, [], ◌∷◌, length, refl, sym, ap, subst, ◌∙◌, arith, le-ltb}
use Rattle.mgs_model.specs.World.{Place, Session, Window}
use Rattle.mgs_model.specs.Apply.{change_at, window_at}
use Rattle.mgs_windows.specs.Panes.{closer}
use Rattle.mgs_arrange.specs.Arranged.{grown, left_by, left_by_others, others_gone, rows_in, window_gone}

-- A WINDOW THAT GREW

-- is the same but for its rows
grown_at : (k n height : ℕ) (xs : List Window) → k < length xs → record (window_at k (change_at k (grown n) xs)) { height = height } ≡ record (window_at k xs) { height = height }
grown_at k n height [] l = absurd (omega (arith, l))
grown_at zero n height (x ∷ xs) l = refl
grown_at (suc k) n height (x ∷ xs) l = grown_at k n height xs (omega (arith, l))

rows_grown : (k n : ℕ) (xs : List Window) → k < length xs → rows_in (change_at k (grown n) xs) ≡ n + rows_in xs
rows_grown k n [] l = absurd (omega (arith, l))
rows_grown zero n (x ∷ xs) l = omega arith
rows_grown (suc k) n (x ∷ xs) l = omega (arith, rows_grown k n xs (omega (arith, l)))

-- leaves the same place
places_grown : (k n : ℕ) (xs : List Window) (places : List Place) → left_by_others k (change_at k (grown n) xs) places ≡ left_by_others k xs places
places_grown k n [] places = refl
places_grown zero n (x ∷ xs) places = refl
places_grown (suc k) n (x ∷ xs) places = places_grown k n xs (left_by x places)

-- ONE GOES, AND THEN THE OTHERS

above_gone : (x : Session) (k : ℕ) (xs : List Window) → suc k < length xs → others_gone (window_gone 0 (suc k) (record x { windows = xs; selected = suc k })) ≡ others_gone (record x { windows = xs; selected = suc k })
above_gone x k [] within = absurd (omega (arith, within))
above_gone x k (y ∷ ys) within =
    let below : k < length ys = omega (arith, within) in
    let grew = change_at k (grown (y.height + 1)) ys in
    let nearer : closer 0 (suc k) ≡ k = ap (λ b. cond b (suc k) (suc k - 1)) (le-ltb (suc k) 0 (omega arith)) ∙ omega arith in
    let rows : rows_in grew - 1 ≡ y.height + 1 + rows_in ys - 1 = ap (λ n. n - 1) (rows_grown k (y.height + 1) ys below) in
    ap (λ s. record x { windows = (record (window_at s grew) { height = rows_in grew - 1 }) ∷ []; selected = 0; places = left_by_others s grew (left_by y x.places) }) nearer
    ∙ ap (λ w. record x { windows = w ∷ []; selected = 0; places = left_by_others k grew (left_by y x.places) }) (grown_at k (y.height + 1) (rows_in grew - 1) ys below)
    ∙ (λ t. record x { windows = (record (window_at k ys) { height = rows t }) ∷ []; selected = 0; places = places_grown k (y.height + 1) ys (left_by y x.places) t })

-- the topmost, where another is selected
pub others_after_above : (x : Session) (k : ℕ) → x.selected ≡ suc k → x.selected < length x.windows → others_gone (window_gone 0 x.selected x) ≡ others_gone x
others_after_above x k is within =
    subst (λ s. others_gone (window_gone 0 s (record x { selected = s })) ≡ others_gone (record x { selected = s })) (sym is) (above_gone x k x.windows (omega (arith, is, within)))

below_gone : (x : Session) (xs : List Window) → 1 < length xs → others_gone (window_gone 1 0 (record x { windows = xs; selected = 0 })) ≡ others_gone (record x { windows = xs; selected = 0 })
below_gone x (y ∷ z ∷ zs) many =
    let rows : y.height + (z.height + 1) + 1 + rows_in zs - 1 ≡ y.height + 1 + (z.height + 1 + rows_in zs) - 1 = omega arith in
    ap (λ n. record (others_gone (record x { windows = y ∷ z ∷ zs; selected = 0 })) { windows = (record y { height = n }) ∷ [] }) rows
below_gone x _ many = absurd (omega (arith, many))

-- the second, where the topmost is selected
pub others_after_below : (x : Session) → x.selected ≡ 0 → 1 < length x.windows → others_gone (window_gone 1 0 x) ≡ others_gone x
others_after_below x is many =
    subst (λ s. others_gone (window_gone 1 0 (record x { selected = s })) ≡ others_gone (record x { selected = s })) (sym is) (below_gone x x.windows many)

none_gone : (x : Session) (xs : List Window) → length xs ≡ 1 → others_gone (record x { windows = xs; selected = 0 }) ≡ record x { windows = xs; selected = 0 }
none_gone x (y ∷ []) one = let rows : y.height + 1 + 0 - 1 ≡ y.height = omega arith in λ t. record x { windows = (record y { height = rows t }) ∷ []; selected = 0 }
none_gone x _ one = absurd (omega (arith, one))

-- where there is no other
pub others_of_one : (x : Session) → x.selected < length x.windows → length x.windows ≡ 1 → others_gone x ≡ x
others_of_one x within one =
    subst (λ s. others_gone (record x { selected = s }) ≡ record x { selected = s }) (let is : 0 ≡ x.selected = omega (arith, within, one) in is) (none_gone x x.windows one)

-- The gap moves to the text's end, and no mark with it.
use Rattle.std.proofs.Common.{◌≡◌, ℕ, ◌+◌, ◌-◌, ◌≤◌, List, Option, map, subst, sym, ap, ap₂, ◌∙◌, arith}
use Rattle.std.proofs.lemmas.Bool.Decides.{nat_tests}
use Rattle.std.specs.Option.{option_map}
use Rattle.mgs_model.specs.Text.{shift}
use Rattle.mgs_marks.specs.Marks.{position_in}
use Rattle.mgs_gap.proofs.Marks.{map_map, map_same}
use Rattle.mgs_gap.proofs.Shifts.{text_of_raw, moved_raw, moved_within}
use Rattle.mgs_gap.specs.RawPlaces.{text_place, IsRaw, moved, marks_at}

-- no mark moves where nothing changes
shift_still : (e m : ℕ) → m ≤ e → shift e e 0 m ≡ m
shift_still e m h = grind (arith, nat_tests)

pub marks_still : (n g e m h : ℕ) (xs : List (Option ℕ)) → ((i : ℕ) → text_place n g (position_in xs i) ≤ e) → marks_at m h (map (option_map (moved n g e e 0 m h)) xs) ≡ marks_at n g xs
marks_still n g e m h xs within =
    map_map (text_place m h) (moved n g e e 0 m h) xs
    ∙ map_same (λ p. text_place m h (moved n g e e 0 m h p)) (text_place n g) xs (λ i. text_of_raw m h (shift e e 0 (text_place n g (position_in xs i))) ∙ shift_still e (text_place n g (position_in xs i)) (within i))

-- what the walk over the marks left, by the gap's place and width and the text's end before and after it
pub places_moved : (n' g' m' h' e' n g e m h : ℕ) (xs ns : List (Option ℕ)) → n' ≡ n → g' ≡ g → m' ≡ m → h' ≡ h → e' ≡ e → ns ≡ map (option_map (moved n' g' e' e' 0 m' h')) xs → ns ≡ map (option_map (moved n g e e 0 m h)) xs
places_moved n' g' m' h' e' n g e m h xs ns en eg em eh ee is =
    is ∙ ap₂ (λ x y. map (option_map (moved x y e' e' 0 m' h')) xs) en eg ∙ ap₂ (λ x y. map (option_map (moved n g e' e' 0 x y)) xs) em eh
    ∙ ap (λ x. map (option_map (moved n g x x 0 m h)) xs) ee

pub still_raw : (n g e m h : ℕ) (xs zs : List (Option ℕ)) → ((i : ℕ) → text_place n g (position_in xs i) ≤ e) → zs ≡ map (option_map (moved n g e e 0 m h)) xs → (i : ℕ) → IsRaw m h (position_in zs i)
still_raw n g e m h xs zs within is i = subst (λ (ys : List (Option ℕ)). IsRaw m h (position_in ys i)) (sym is) (moved_raw n g e e 0 m h e xs (omega arith) (omega arith) within i)

pub still_within : (n g e m h len : ℕ) (xs zs : List (Option ℕ)) → ((i : ℕ) → text_place n g (position_in xs i) ≤ e) → zs ≡ map (option_map (moved n g e e 0 m h)) xs → len ≡ e → (i : ℕ) → text_place m h (position_in zs i) ≤ len
still_within n g e m h len xs zs within is same i =
    let most : text_place m h (position_in (map (option_map (moved n g e e 0 m h)) xs) i) ≤ e - (e - e) + 0 = moved_within n g e e 0 m h e xs (omega arith) (omega arith) within i in
    subst (λ (ys : List (Option ℕ)). text_place m h (position_in ys i) ≤ len) (sym is) (omega (arith, most, same))

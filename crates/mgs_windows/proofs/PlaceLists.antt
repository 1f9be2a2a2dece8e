-- Places, one for each buffer.
use Rattle.std.proofs.Common.{◌≡◌, ℕ, zero, suc, ◌+◌, ◌<◌, ◌≤◌, Bool, true, false, not, cond, List, [], ◌∷◌, ◌++◌, length, Option, Some, None, refl, ap, arith, get_or}
use Rattle.std.specs.Prelude.{find, slice_set}
use Rattle.std.specs.List.{position_or_len}
use Rattle.mgs_model.specs.Names.{same_name}
use Rattle.mgs_windows.specs.declared.WindowMarks.{WindowMarks}
use Rattle.mgs_windows.specs.Panes.{is_place_in, one_shown, places_after, with_place}

-- a place in a buffer that has none is last
pub put_last : (p : WindowMarks) (ps : List WindowMarks) → position_or_len (is_place_in p.name) ps ≡ length ps → (ps ++ p ∷ [] ≡ with_place p ps) × (find (is_place_in p.name) ps ≡ None)
put_last p [] e = (refl, refl)
put_last p (q ∷ qs) e = go (same_name p.name q.name) refl (put_last p qs) e
  where
    go : (b : Bool) → same_name p.name q.name ≡ b → (position_or_len (is_place_in p.name) qs ≡ length qs → (qs ++ p ∷ [] ≡ with_place p qs) × (find (is_place_in p.name) qs ≡ None)) → cond (not b) (1 + position_or_len (is_place_in p.name) qs) 0 ≡ suc (length qs) → (q ∷ (qs ++ p ∷ []) ≡ cond b (p ∷ qs) (q ∷ with_place p qs)) × (cond b (Some q) (find (is_place_in p.name) qs) ≡ None)
    go true is more e = absurd (omega (arith, e))
    go false is more e = let rest = more (omega (arith, e)) in (ap (λ ps. q ∷ ps) rest.0, rest.1)

-- one that is there is replaced
pub put_there : (p : WindowMarks) (ps : List WindowMarks) (i : ℕ) (q : WindowMarks) → i ≡ position_or_len (is_place_in p.name) ps → i < length ps → q ≡ get_or ps i q → (slice_set ps i p ≡ with_place p ps) × (Some q ≡ find (is_place_in p.name) ps)
put_there p [] i q e within is = absurd (omega (arith, within))
put_there p (x ∷ xs) i q e within is = go (same_name p.name x.name) refl (λ i. put_there p xs i q) i e within is
  where
    go : (b : Bool) → same_name p.name x.name ≡ b → ((i : ℕ) → i ≡ position_or_len (is_place_in p.name) xs → i < length xs → q ≡ get_or xs i q → (slice_set xs i p ≡ with_place p xs) × (Some q ≡ find (is_place_in p.name) xs)) → (i : ℕ) → i ≡ cond (not b) (1 + position_or_len (is_place_in p.name) xs) 0 → i < suc (length xs) → q ≡ get_or (x ∷ xs) i q → (slice_set (x ∷ xs) i p ≡ cond b (p ∷ xs) (x ∷ with_place p xs)) × (Some q ≡ cond b (Some x) (find (is_place_in p.name) xs))
    go true same more zero e within is = (refl, ap (λ y. Some y) is)
    go true same more (suc i) e within is = absurd (omega (arith, e))
    go false same more zero e within is = absurd (omega (arith, e))
    go false same more (suc i) e within is = let rest = more i (omega (arith, e)) (omega (arith, within)) is in (ap (λ ps. x ∷ ps) rest.0, rest.1)

length_put : (p : WindowMarks) (ps : List WindowMarks) → length (with_place p ps) ≤ length ps + 1
length_put p [] = omega arith
length_put p (q ∷ qs) = go (same_name p.name q.name) (length_put p qs)
  where
    go : (b : Bool) → length (with_place p qs) ≤ length qs + 1 → length (cond b (p ∷ qs) (q ∷ with_place p qs)) ≤ suc (length qs) + 1
    go true more = omega arith
    go false more = omega (arith, more)

pub length_left : (o : Option WindowMarks) (ps : List WindowMarks) → length (places_after o ps) ≤ length ps + one_shown o
length_left None ps = omega arith
length_left (Some x) ps = length_put x ps

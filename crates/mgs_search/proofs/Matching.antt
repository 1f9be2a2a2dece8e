-- One step of a comparison, and one of a walk over places.
use Rattle.std.proofs.Common.{◌≡◌, ℕ, suc, true, false, ◌+◌, ◌-◌, ◌<◌, ◌≤◌, min, leb, ◌⊎◌, inl, inr, List, [], ◌∷◌, length, drop, get_or, Option, Some, None, refl, sym, ap, ◌∙◌, arith, length-drop}
use Rattle.std.proofs.lemmas.Bool.Decides.{leb_tells}
use Rattle.std.proofs.lemmas.List.{drop_more, drop_all, get_or-drop}
use Rattle.std.specs.Char.{eq_ignore_ascii_case}
use Rattle.mgs_model.specs.Searching.{begins, matches_at, first_in, first_match, last_match_before, last_match}

-- A COMPARISON

pub begins_cons : (x y : ℕ) (ps ys : List ℕ) → eq_ignore_ascii_case x y ≡ true → begins (x ∷ ps) (y ∷ ys) ≡ begins ps ys
begins_cons x y ps ys same = rw same refl

pub begins_not : (x y : ℕ) (ps ys : List ℕ) → eq_ignore_ascii_case x y ≡ false → begins (x ∷ ps) (y ∷ ys) ≡ false
begins_not x y ps ys other = rw other refl

-- the rest of a list from its i-th element on
rest_from : (xs : List ℕ) (i d x : ℕ) → i < length xs → x ≡ get_or xs i d → drop i xs ≡ x ∷ drop (i + 1) xs
rest_from xs i d x within here = drop_more xs i d within ∙ ap (λ z. z ∷ drop (i + 1) xs) (sym here)

-- the i-th characters of both: those from there on
cut : (ps xs : List ℕ) (p i x y : ℕ) → i < length ps → p + i < length xs → x ≡ get_or ps i x → y ≡ get_or xs (p + i) 0
    → begins (drop i ps) (drop i (drop p xs)) ≡ begins (x ∷ drop (i + 1) ps) (y ∷ drop (i + 1) (drop p xs))
cut ps xs p i x y inside within here there =
    let ys : List ℕ = drop p xs in
    let left : i < length ys = omega (arith, length-drop p xs) in
    ap (λ t. begins t (drop i ys)) (rest_from ps i x x inside here)
    ∙ ap (begins (x ∷ drop (i + 1) ps)) (rest_from ys i 0 y left (there ∙ sym (get_or-drop p xs i 0)))

pub match_more : (ps xs : List ℕ) (p i x y : ℕ) → i < length ps → p + i < length xs → x ≡ get_or ps i x → y ≡ get_or xs (p + i) 0 → eq_ignore_ascii_case x y ≡ true
    → begins (drop (i + 1) ps) (drop (i + 1) (drop p xs)) ≡ begins (drop i ps) (drop i (drop p xs))
match_more ps xs p i x y inside within here there same =
    sym (cut ps xs p i x y inside within here there ∙ begins_cons x y (drop (i + 1) ps) (drop (i + 1) (drop p xs)) same)

pub match_not : (ps xs : List ℕ) (p i x y : ℕ) → i < length ps → p + i < length xs → x ≡ get_or ps i x → y ≡ get_or xs (p + i) 0 → eq_ignore_ascii_case x y ≡ false
    → begins (drop i ps) (drop i (drop p xs)) ≡ false
match_not ps xs p i x y inside within here there other =
    cut ps xs p i x y inside within here there ∙ begins_not x y (drop (i + 1) ps) (drop (i + 1) (drop p xs)) other

-- nothing is left of the pattern
pub match_end : (ps ys : List ℕ) (i : ℕ) → length ps ≤ i → begins (drop i ps) ys ≡ true
match_end ps ys i past = ap (λ t. begins t ys) (drop_all i ps past)

-- A WALK FORWARD

first_in_none : (ps : List ℕ) (p : ℕ) (ys : List ℕ) → begins ps ys ≡ true → first_in ps p ys ≡ Some p
first_in_none ps p [] here = rw here refl
first_in_none ps p (y ∷ ys) here = rw here refl

pub first_here : (ps xs : List ℕ) (p : ℕ) → matches_at ps xs p ≡ true → first_match ps xs p ≡ Some p
first_here ps xs p here = first_in_none ps p (drop p xs) here

-- the empty pattern stands at each place
pub first_empty : (ps xs : List ℕ) (p : ℕ) → length ps ≡ 0 → first_match ps xs p ≡ Some p
first_empty [] xs p none = first_here [] xs p refl
first_empty (x ∷ ps) xs p none = absurd (omega arith)

first_in_next : (ps : List ℕ) (p y : ℕ) (ys : List ℕ) → begins ps (y ∷ ys) ≡ false → first_in ps p (y ∷ ys) ≡ first_in ps (p + 1) ys
first_in_next ps p y ys other = rw other refl

pub first_next : (ps xs : List ℕ) (p : ℕ) → p < length xs → matches_at ps xs p ≡ false → first_match ps xs (p + 1) ≡ first_match ps xs p
first_next ps xs p within other =
    let here : drop p xs ≡ get_or xs p 0 ∷ drop (p + 1) xs = drop_more xs p 0 within in
    sym (ap (first_in ps p) here ∙ first_in_next ps p (get_or xs p 0) (drop (p + 1) xs) (ap (begins ps) (sym here) ∙ other))

-- n: a place from which on the same is left to look through as behind p
pub first_passed : (ps xs : List ℕ) (p n : ℕ) (first : Option ℕ) → p < length xs → matches_at ps xs p ≡ false → first_match ps xs n ≡ first_match ps xs (p + 1) → first_match ps xs p ≡ first → first_match ps xs n ≡ first
first_passed ps xs p n first within other is was = is ∙ first_next ps xs p within other ∙ was

-- where no text is left, no other pattern stands
pub first_end : (ps xs : List ℕ) (p : ℕ) → length xs ≤ p → (length ps ≡ 0 → ⊥) → first_match ps xs p ≡ None
first_end [] xs p past some = absurd (some refl)
first_end (x ∷ ps) xs p past some = ap (first_in (x ∷ ps) p) (drop_all p xs past)

-- A WALK BACK

last_here : (ps xs : List ℕ) (p : ℕ) → matches_at ps xs p ≡ true → last_match ps xs p ≡ Some p
last_here ps xs p here = rw here refl

pub before : (ps xs : List ℕ) (p : ℕ) → matches_at ps xs p ≡ false → last_match ps xs p ≡ last_match_before ps xs p
before ps xs p other = rw other refl

-- the last match before a place is some answer: what it is where the pattern stands just before it, and where it does not
pub last_stands : (ps xs : List ℕ) (left : ℕ) (last : Option ℕ) → 0 < left → matches_at ps xs (left - 1) ≡ true → last_match_before ps xs left ≡ last → Some (left - 1) ≡ last
last_stands ps xs left last some here is =
    let same : suc (left - 1) ≡ left = omega arith in
    sym (last_here ps xs (left - 1) here) ∙ ap (last_match_before ps xs) same ∙ is

pub last_passed : (ps xs : List ℕ) (left : ℕ) (last : Option ℕ) → 0 < left → matches_at ps xs (left - 1) ≡ false → last_match_before ps xs left ≡ last → last_match_before ps xs (left - 1) ≡ last
last_passed ps xs left last some other is =
    let same : suc (left - 1) ≡ left = omega arith in
    sym (before ps xs (left - 1) other) ∙ ap (last_match_before ps xs) same ∙ is

-- the text's end is no place of a pattern that has a character
pub end_not : (ps xs : List ℕ) (p : ℕ) → 0 < length ps → length xs ≤ p → matches_at ps xs p ≡ false
end_not [] xs p some past = absurd (omega arith)
end_not (x ∷ ps) xs p some past = ap (begins (x ∷ ps)) (drop_all p xs past)

-- up to a place is before the next one, or before the end; m: where the same is left to look through as before there
pub last_from_end : (ps xs : List ℕ) (from n m : ℕ) → from ≤ length xs → n ≡ min (length xs) (from + 1) → 0 < length ps → last_match_before ps xs m ≡ last_match_before ps xs n → last_match_before ps xs m ≡ last_match ps xs from
last_from_end ps xs from n m within least some is = is ∙ by (leb_tells (from + 1) (length xs))
  where
    by : ((leb (from + 1) (length xs) ≡ true) × (from + 1 ≤ length xs)) ⊎ ((leb (from + 1) (length xs) ≡ false) × (length xs < from + 1)) → last_match_before ps xs n ≡ last_match ps xs from
    by (inl inside) = (let same : n ≡ suc from = omega arith in ap (last_match_before ps xs) same)
    by (inr past) = (let same : n ≡ from = omega arith in ap (last_match_before ps xs) same ∙ sym (before ps xs from (end_not ps xs from some (omega arith))))

-- IN A DIRECTION

pub last_before : (ps xs : List ℕ) (p : ℕ) → 0 < p → last_match ps xs (p - 1) ≡ last_match_before ps xs p
last_before ps xs p some =
    let same : suc (p - 1) ≡ p = omega arith in
    ap (last_match_before ps xs) same

pub none_before : (ps xs : List ℕ) (p : ℕ) → p ≡ 0 → last_match_before ps xs p ≡ None
none_before ps xs p first = ap (last_match_before ps xs) first

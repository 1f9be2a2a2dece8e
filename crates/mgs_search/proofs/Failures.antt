-- A search that fails: what fails then too, and what a step leaves.
use Rattle.std.proofs.Common.{◌≡◌, ◌≢◌, ◌≤◌, ℕ, suc, zero, true, false, Bool, ◌+◌, ◌-◌, nat_lt, eqb, ◌⊎◌, inl, inr, List, [], ◌∷◌, ◌++◌, length, drop, drop-drop, Option, Some, None, cond, refl, sym, ap, ◌∙◌, arith}
use Rattle.std.specs.Prelude.{Ok}
use Rattle.std.proofs.lemmas.Bool.{true≢false}
use Rattle.std.proofs.lemmas.Bool.Decides.{eqb_tells, nat_tests}
use Rattle.std.specs.Char.{to_ascii_lowercase}
use Rattle.mgs_model.specs.declared.search.Direction.{Direction}
use Rattle.mgs_model.specs.declared.search.Direction.TheVariants.{Forward, Backward}
use Rattle.mgs_model.specs.declared.search.SearchPlaces.{SearchPlaces}
use Rattle.mgs_model.specs.declared.search.SearchStep.{SearchStep}
use Rattle.mgs_model.specs.Searching.{Sought, begins, matches_at, first_in, first_match, last_match_before, match_from, match_past, places_after, sought_after}
use Rattle.mgs_search.proofs.Edited.{step_planned}
use Rattle.mgs_search.proofs.Matching.{begins_cons, begins_not}
use Rattle.mgs_search.specs.Planned.{IsStepPlan, stepped}

-- A LONGER PATTERN stands nowhere where one that it begins with does not
longer_not : (ps more ys : List ℕ) → begins ps ys ≡ false → begins (ps ++ more) ys ≡ false
longer_not [] more ys is = absurd (true≢false is)
longer_not (x ∷ ps) more [] is = refl
longer_not (x ∷ ps) more (y ∷ ys) is = by (longer_not ps more ys) (eqb_tells (to_ascii_lowercase x) (to_ascii_lowercase y))
  where
    by : (begins ps ys ≡ false → begins (ps ++ more) ys ≡ false) → ((eqb (to_ascii_lowercase x) (to_ascii_lowercase y) ≡ true) × (to_ascii_lowercase x ≡ to_ascii_lowercase y)) ⊎ ((eqb (to_ascii_lowercase x) (to_ascii_lowercase y) ≡ false) × (to_ascii_lowercase x ≢ to_ascii_lowercase y)) → begins (x ∷ ps ++ more) (y ∷ ys) ≡ false
    by rest (inr (differs, _)) = begins_not x y (ps ++ more) ys differs
    by rest (inl (first, _)) = begins_cons x y (ps ++ more) ys first ∙ rest (sym (begins_cons x y ps ys first) ∙ is)

none_both : (b : Bool) (i : ℕ) (o : Option ℕ) → cond b (Some i) o ≡ None → (b ≡ false) × (o ≡ None)
none_both true i o is = absurd (cc)
none_both false i o is = (refl, is)

fails_in : (ps more : List ℕ) (i : ℕ) (ys : List ℕ) → first_in ps i ys ≡ None → first_in (ps ++ more) i ys ≡ None
fails_in ps more i [] none = let told = none_both (begins ps []) i None none in rw (longer_not ps more [] told.0) refl
fails_in ps more i (y ∷ ys) none =
    let told = none_both (begins ps (y ∷ ys)) i (first_in ps (i + 1) ys) none in
    rw (longer_not ps more (y ∷ ys) told.0) (fails_in ps more (i + 1) ys told.1)

fails_before : (ps more xs : List ℕ) (p : ℕ) → last_match_before ps xs p ≡ None → last_match_before (ps ++ more) xs p ≡ None
fails_before ps more xs zero none = refl
fails_before ps more xs (suc p) none =
    let told = none_both (matches_at ps xs p) p (last_match_before ps xs p) none in
    rw (longer_not ps more (drop p xs) told.0) (fails_before ps more xs p told.1)

pub fails_longer : (d : Direction) (ps more xs : List ℕ) (p : ℕ) → match_from d ps xs p ≡ None → match_from d (ps ++ more) xs p ≡ None
fails_longer Forward ps more xs p none = fails_in ps more p (drop p xs) none
fails_longer Backward ps more xs p none = fails_before ps more xs (suc p) none

-- FROM FARTHER ON it stands nowhere either
fails_on : (ps : List ℕ) (i n : ℕ) (ys : List ℕ) → first_in ps i ys ≡ None → first_in ps (i + n) (drop n ys) ≡ None
fails_on ps i zero ys none = let same : i + 0 ≡ i = omega arith in ap (λ j. first_in ps j ys) same ∙ none
fails_on ps i (suc n) [] none = let told = none_both (begins ps []) i None none in rw told.0 refl
fails_on ps i (suc n) (y ∷ ys) none =
    let same : i + suc n ≡ i + 1 + n = omega arith in
    ap (λ j. first_in ps j (drop n ys)) same ∙ fails_on ps (i + 1) n ys (none_both (begins ps (y ∷ ys)) i (first_in ps (i + 1) ys) none).1

fails_back : (ps xs : List ℕ) (p n : ℕ) → last_match_before ps xs (p + n) ≡ None → last_match_before ps xs p ≡ None
fails_back ps xs p zero none = let same : p ≡ p + 0 = omega arith in ap (last_match_before ps xs) same ∙ none
fails_back ps xs p (suc n) none =
    let same : suc (p + n) ≡ p + suc n = omega arith in
    fails_back ps xs p n (none_both (matches_at ps xs (p + n)) (p + n) (last_match_before ps xs (p + n)) (ap (last_match_before ps xs) same ∙ none)).1

pub fails_ahead : (ps xs : List ℕ) (known p : ℕ) → known ≤ p → match_from Forward ps xs known ≡ None → match_from Forward ps xs p ≡ None
fails_ahead ps xs known p after none =
    let far : p ≡ known + (p - known) = omega arith in
    let left : drop p xs ≡ drop (p - known) (drop known xs) = ap (λ j. drop j xs) far ∙ sym (drop-drop (p - known) known xs) in
    ap (λ j. first_in ps j (drop p xs)) far ∙ ap (first_in ps (known + (p - known))) left ∙ fails_on ps known (p - known) (drop known xs) none

pub fails_behind : (ps xs : List ℕ) (known p : ℕ) → p ≤ known → match_from Backward ps xs known ≡ None → match_from Backward ps xs p ≡ None
fails_behind ps xs known p before none =
    let near : suc p + (known - p) ≡ suc known = omega arith in
    fails_back ps xs (suc p) (known - p) (ap (last_match_before ps xs) near ∙ none)

-- past the end nothing stands
pub fails_at_end : (ps xs : List ℕ) (p : ℕ) → length xs ≤ p → match_past Forward ps xs p ≡ None
fails_at_end ps xs p past =
    let not : nat_lt p (length xs) ≡ false = grind (arith, nat_tests) in
    ap (λ b. cond b (first_match ps xs (p + 1)) None) not

-- WHAT A STEP LEAVES is the command's plan
pub step_is_planned : (step : SearchStep) (s new : Sought) (text : List ℕ) (x after : SearchPlaces) → new ≡ sought_after step s text x → after ≡ places_after step s text x
    → IsStepPlan step s.direction s.pattern text x after new.failing
step_is_planned step s new text x after sought places = λ rest.
    ap (λ (y : SearchPlaces). Ok (stepped step y new.failing)) places ∙ ap (λ (f : Sought). Ok (stepped step (places_after step s text x) f.failing)) sought ∙ step_planned step s text x rest

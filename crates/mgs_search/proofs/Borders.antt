-- Borders of a pattern: which places may be passed over when a character differs.
use Rattle.std.proofs.Common.{◌≡◌, ◌≢◌, ℕ, suc, zero, true, false, ◌+◌, ◌-◌, ◌<◌, ◌≤◌, min, eqb, leb, ◌⊎◌, inl, inr, List, [], ◌∷◌, ◌++◌, length, drop, get_or, refl, sym, ap, ◌∙◌, arith, length-drop, length-append}
use Rattle.std.proofs.lemmas.Bool.Decides.{eqb_tells, leb_tells, nat_tests}
use Rattle.std.proofs.lemmas.Bool.{true≢false, false_from_ne_true}
use Rattle.std.proofs.lemmas.Grind.{get_or_default_zero}
use Rattle.std.proofs.lemmas.List.{get_or-drop, get_or_append_left}
use Rattle.std.proofs.Math.Path.{subst}
use Rattle.std.proofs.Math.Seq.{get_or-append_seam}
use Rattle.std.specs.Char.{to_ascii_lowercase, to_ascii_uppercase}
use Rattle.mgs_model.specs.Searching.{begins, matches_at, first_match, last_match_before}
use Rattle.mgs_search.proofs.Matching.{first_next, before, begins_cons, begins_not}
use Rattle.mgs_search.specs.Borders.{char_at, lower_at, Agrees, IsRead, IsBorders, IsFirst, IsOther, IsReadOn, IsReadBack, IsStep, IsHead, IsTail}
use Rattle.mgs_search.specs.declared.heads.First.{First}

-- ONE CHARACTER

-- as IsRead, but that no place before agrees with the i-th character too
pub record IsNear (pattern : List ℕ) (text : ℕ → ℕ) (a i q : ℕ) : Type 0 where
  pub within : a + q ≤ i
  pub stands : (t : ℕ) → t < q → char_at pattern t ≡ text (i - q + t)
  pub passed : (p : ℕ) → a ≤ p → p + q < i → Agrees pattern text p (i + 1) → ⊥

pub near_read : (ps : List ℕ) (x : ℕ → ℕ) (a i q : ℕ) → IsRead ps x a i q → IsNear ps x a i q
near_read ps x a i q r =
    record {
      within = r.within;
      stands = r.stands;
      passed = λ p from before all. r.passed p from before (λ t inside read. all t inside (omega arith));
    }

-- the character is the pattern's next one
pub near_grown : (ps : List ℕ) (x : ℕ → ℕ) (a i k : ℕ) → IsNear ps x a i k → char_at ps k ≡ x i → IsRead ps x a (i + 1) (k + 1)
near_grown ps x a i k n same =
    record {
      within = omega (arith, n.within);
      stands = λ t below. by t below (eqb_tells t k);
      passed = λ p from before all. n.passed p from (omega arith) all;
    }
  where
    by : (t : ℕ) → t < k + 1 → ((eqb t k ≡ true) × (t ≡ k)) ⊎ ((eqb t k ≡ false) × (t ≢ k)) → char_at ps t ≡ x (i + 1 - (k + 1) + t)
    by t below (inl (_, is)) = (let place : i ≡ i + 1 - (k + 1) + t = omega (arith, n.within) in ap (char_at ps) is ∙ same ∙ ap x place)
    by t below (inr (_, other)) = (let place : i - k + t ≡ i + 1 - (k + 1) + t = omega (arith, n.within) in n.stands t (omega arith) ∙ ap x place)

-- it is not the first one
pub near_none : (ps : List ℕ) (x : ℕ → ℕ) (a i k : ℕ) → k ≡ 0 → 0 < length ps → IsNear ps x a i k → char_at ps k ≢ x i → IsRead ps x a (i + 1) 0
near_none ps x a i k none some n other =
    record {
      within = omega (arith, n.within);
      stands = λ t below. absurd (omega arith);
      passed = λ p from before all. by p from before all (eqb_tells p i);
    }
  where
    by : (p : ℕ) → a ≤ p → p + 0 < i + 1 → Agrees ps x p (i + 1) → ((eqb p i ≡ true) × (p ≡ i)) ⊎ ((eqb p i ≡ false) × (p ≢ i)) → ⊥
    by p from before all (inl (_, is)) =
        (let place : p + k ≡ i = omega arith in
        other (all k (omega arith) (omega arith) ∙ ap x place))
    by p from before all (inr (_, not)) = n.passed p from (omega arith) all

-- it is not the next one: b of the k characters are left
pub near_shorter : (ps : List ℕ) (x : ℕ → ℕ) (a i k b : ℕ) → k < length ps → IsNear ps x a i k → char_at ps k ≢ x i → IsRead ps (char_at ps) 1 k b → IsNear ps x a i b
near_shorter ps x a i k b inside n other r =
    record {
      within = omega (arith, n.within, r.within);
      stands = λ t below.
          (let place : i - k + (k - b + t) ≡ i - b + t = omega (arith, n.within, r.within) in
          r.stands t below ∙ n.stands (k - b + t) (omega (arith, r.within)) ∙ ap x place);
      passed = λ p from before all. by p from before all (eqb_tells (p + k) i) (leb_tells i (p + k));
    }
  where
    by : (p : ℕ) → a ≤ p → p + b < i → Agrees ps x p (i + 1) → ((eqb (p + k) i ≡ true) × (p + k ≡ i)) ⊎ ((eqb (p + k) i ≡ false) × (p + k ≢ i)) → ((leb i (p + k) ≡ true) × (i ≤ p + k)) ⊎ ((leb i (p + k) ≡ false) × (p + k < i)) → ⊥
    by p from before all (inl (_, is)) _ = other (all k inside (omega arith) ∙ ap x is)
    by p from before all (inr (_, not)) (inr (_, less)) = n.passed p from less all
    by p from before all (inr (_, not)) (inl (_, more)) =
        r.passed (p + k - i) (omega arith) (omega (arith, n.within, r.within))
        (λ t within read.
        (let place : p + t ≡ i - k + (p + k - i + t) = omega (arith, n.within) in
        all t within (omega arith) ∙ ap x place ∙ sym (n.stands (p + k - i + t) read)))

-- what a comparison tells: x is the head's k-th character
pub same_there : (ps : List ℕ) (text : ℕ → ℕ) (i k x c : ℕ) → k < length ps → x ≡ get_or ps k x → text i ≡ c → x ≡ c → char_at ps k ≡ text i
same_there ps text i k x c inside is here same = sym (is ∙ get_or_default_zero ps k x inside) ∙ same ∙ sym here

pub other_there : (ps : List ℕ) (text : ℕ → ℕ) (i k x c : ℕ) → k < length ps → x ≡ get_or ps k x → text i ≡ c → x ≢ c → char_at ps k ≢ text i
other_there ps text i k x c inside is here other = λ same. other (is ∙ get_or_default_zero ps k x inside ∙ same ∙ here)

-- neither case of the head's first character
other_case : (f c : ℕ) → c ≢ f → c ≢ to_ascii_uppercase f → f ≢ to_ascii_lowercase c
other_case f c small large = λ same. grind (arith, nat_tests)

other_there_too : (ps : List ℕ) (first : First) (c : ℕ) → IsFirst ps first → IsOther first c → char_at ps 0 ≢ to_ascii_lowercase c
other_there_too ps first c is other = other_case (char_at ps 0) c (λ e. other.0 (e ∙ sym is.small)) (λ e. other.1 (e ∙ sym is.large))

-- so many characters came, none of which is the head's first one
skipped : (ps : List ℕ) (text : ℕ → ℕ) (a i n : ℕ) → 0 < length ps → ((t : ℕ) → t < n → char_at ps 0 ≢ text (i + t)) → IsRead ps text a i 0 → IsRead ps text a (i + n) 0
skipped ps text a i zero some none read = let same : i ≡ i + 0 = omega arith in subst (λ k. IsRead ps text a k 0) same read
skipped ps text a i (suc n) some none read =
    let before : IsRead ps text a (i + n) 0 = skipped ps text a i n some (λ t below. none t (omega arith)) read in
    let same : i + n + 1 ≡ i + suc n = omega arith in
    subst (λ k. IsRead ps text a k 0) same (near_none ps text a (i + n) 0 refl some (near_read ps text a (i + n) 0 before) (none n (omega arith)))

-- one more such character
pub others_more : (first : First) (xs : List ℕ) (i c : ℕ) → i < length xs → c ≡ get_or xs i c → IsOther first c → ((t : ℕ) → t < i → IsOther first (get_or xs t 0)) → (t : ℕ) → t < i + 1 → IsOther first (get_or xs t 0)
others_more first xs i c within is here before t below = by (eqb_tells t i)
  where
    by : ((eqb t i ≡ true) × (t ≡ i)) ⊎ ((eqb t i ≡ false) × (t ≢ i)) → IsOther first (get_or xs t 0)
    by (inl (_, same)) = subst (IsOther first) (is ∙ get_or_default_zero xs i c within ∙ ap (λ k. get_or xs k 0) (sym same)) here
    by (inr (_, other)) = before t (omega arith)

pub others_back : (first : First) (xs : List ℕ) (end i c : ℕ) → c ≡ get_or xs (end - 1 - i) 0 → IsOther first c → ((t : ℕ) → t < i → IsOther first (get_or xs (end - 1 - t) 0)) → (t : ℕ) → t < i + 1 → IsOther first (get_or xs (end - 1 - t) 0)
others_back first xs end i c is here before t below = by (eqb_tells t i)
  where
    by : ((eqb t i ≡ true) × (t ≡ i)) ⊎ ((eqb t i ≡ false) × (t ≢ i)) → IsOther first (get_or xs (end - 1 - t) 0)
    by (inl (_, same)) = subst (IsOther first) (is ∙ ap (λ k. get_or xs (end - 1 - k) 0) (sym same)) here
    by (inr (_, other)) = before t (omega arith)

pub read_on : (ps piece : List ℕ) (first : First) (i n k : ℕ) → IsFirst ps first → 0 < length ps → k ≡ 0 → i + n ≤ length piece → ((t : ℕ) → t < n → IsOther first (get_or (drop i piece) t 0)) → IsReadOn ps piece i (i + n) k
read_on ps piece first i n k is some none within others = λ text a j read all.
    let same : j + i + n ≡ j + (i + n) = omega arith in
    subst (λ q. IsRead ps text a (j + (i + n)) q) (sym none)
    (subst (λ m. IsRead ps text a m 0) same
    (skipped ps text a (j + i) n some
    (λ t below e.
    (let place : j + i + t ≡ j + (i + t) = omega arith in
    other_there_too ps first (get_or piece (i + t) 0) is (subst (IsOther first) (get_or-drop i piece t 0) (others t below)) (e ∙ ap text place ∙ all (i + t) (omega (arith, within, below)))))
    (subst (λ q. IsRead ps text a (j + i) q) none read)))

pub read_on_back : (ps xs : List ℕ) (first : First) (top i n k : ℕ) → IsFirst ps first → 0 < length ps → k ≡ 0 → ((t : ℕ) → t < n → IsOther first (get_or xs (top - i - 1 - t) 0)) → IsReadBack ps xs top i k → IsReadBack ps xs top (i + n) k
read_on_back ps xs first top i n k is some none others read =
    subst (λ q. IsReadBack ps xs top (i + n) q) (sym none)
    (skipped ps (λ t. lower_at xs (top - 1 - t)) 0 i n some
    (λ t below e.
    (let place : top - 1 - (i + t) ≡ top - i - 1 - t = omega arith in
    other_there_too ps first (get_or xs (top - i - 1 - t) 0) is (others t below) (e ∙ ap (lower_at xs) place)))
    (subst (λ q. IsReadBack ps xs top i q) none read))

-- the borders of one more number of characters
pub borders_pushed : (ps bs : List ℕ) (n kept : ℕ) → length bs ≡ n → IsBorders ps bs → IsRead ps (char_at ps) 1 n kept → IsBorders ps (bs ++ kept ∷ [])
borders_pushed ps bs n kept count borders read = λ k some below. by k some below (eqb_tells k n)
  where
    by : (k : ℕ) → 1 ≤ k → k < length (bs ++ kept ∷ []) → ((eqb k n ≡ true) × (k ≡ n)) ⊎ ((eqb k n ≡ false) × (k ≢ n)) → IsRead ps (char_at ps) 1 k (get_or (bs ++ kept ∷ []) k 0)
    by k some below (inl (_, is)) =
        (let last : kept ≡ get_or (bs ++ kept ∷ []) k 0 = sym (get_or-append_seam bs kept [] 0) ∙ ap (λ j. get_or (bs ++ kept ∷ []) j 0) (count ∙ sym is) in
        subst (IsRead ps (char_at ps) 1 k) last (subst (λ j. IsRead ps (char_at ps) 1 j kept) (sym is) read))
    by k some below (inr (_, other)) =
        (let inside : k < length bs = omega (arith, length-append bs (kept ∷ [])) in
        subst (IsRead ps (char_at ps) 1 k) (sym (get_or_append_left bs (kept ∷ []) 0 k inside)) (borders k some inside))

-- nothing is read yet
pub read_none : (ps : List ℕ) (x : ℕ → ℕ) (a i : ℕ) → a ≡ i → IsRead ps x a i 0
read_none ps x a i is =
    record {
      within = omega arith;
      stands = λ t below. absurd (omega arith);
      passed = λ p from before all. absurd (omega arith);
    }

-- A PIECE

-- its i-th character is the next one
pub walked : (ps piece : List ℕ) (text : ℕ → ℕ) (a j i k c kept : ℕ) → i < length piece → c ≡ get_or piece i c → ((t : ℕ) → t < length piece → text (j + t) ≡ lower_at piece t)
    → IsStep ps k (to_ascii_lowercase c) kept → IsRead ps text a (j + i) k → IsRead ps text a (j + (i + 1)) kept
walked ps piece text a j i k c kept inside is all step read =
    let place : j + i + 1 ≡ j + (i + 1) = omega arith in
    subst (λ n. IsRead ps text a n kept) place (step text a (j + i) read (all i inside ∙ ap to_ascii_lowercase (sym (is ∙ get_or_default_zero piece i c inside))))

-- it lies in a text
pub piece_lies : (xs piece : List ℕ) (p : ℕ) → drop p xs ≡ piece ++ drop (p + length piece) xs → (t : ℕ) → t < length piece → lower_at xs (p + t) ≡ lower_at piece t
piece_lies xs piece p is t inside =
    ap to_ascii_lowercase (sym (get_or-drop p xs t 0) ∙ ap (λ (l : List ℕ). get_or l t 0) is ∙ get_or_append_left piece (drop (p + length piece) xs) 0 t inside)

-- A TEXT

-- where a pattern begins a text, each of its characters stands there
stood : (ps ys : List ℕ) → begins ps ys ≡ true → (t : ℕ) → t < length ps → (t < length ys) × (lower_at ps t ≡ lower_at ys t)
stood [] ys all t inside = absurd (omega arith)
stood (x ∷ ps) [] all t inside = absurd (true≢false (sym all))
stood (x ∷ ps) (y ∷ ys) all t inside = by (stood ps ys) t inside (eqb_tells (to_ascii_lowercase x) (to_ascii_lowercase y))
  where
    by : (begins ps ys ≡ true → (t : ℕ) → t < length ps → (t < length ys) × (lower_at ps t ≡ lower_at ys t)) → (t : ℕ) → t < length (x ∷ ps) → ((eqb (to_ascii_lowercase x) (to_ascii_lowercase y) ≡ true) × (to_ascii_lowercase x ≡ to_ascii_lowercase y)) ⊎ ((eqb (to_ascii_lowercase x) (to_ascii_lowercase y) ≡ false) × (to_ascii_lowercase x ≢ to_ascii_lowercase y)) → (t < length (y ∷ ys)) × (lower_at (x ∷ ps) t ≡ lower_at (y ∷ ys) t)
    by more t inside (inr (differs, _)) = absurd (true≢false (sym all ∙ begins_not x y ps ys differs))
    by more zero inside (inl (_, same)) = (omega arith, same)
    by more (suc t) inside (inl (first, _)) =
        (let rest = more (sym (begins_cons x y ps ys first) ∙ all) t (omega arith) in
        (omega (arith, rest.0), rest.1))

pub match_stands : (ps xs : List ℕ) (p : ℕ) → matches_at ps xs p ≡ true → (t : ℕ) → t < length ps → (p + t < length xs) × (lower_at ps t ≡ lower_at xs (p + t))
match_stands ps xs p all t inside =
    let there = stood ps (drop p xs) all t inside in
    (omega (arith, there.0, length-drop p xs), there.1 ∙ ap to_ascii_lowercase (get_or-drop p xs t 0))

-- a pattern that stands at none of n places is first found behind them
none_found : (ps xs : List ℕ) (from n : ℕ) → from + n ≤ length xs → ((p : ℕ) → from ≤ p → p < from + n → matches_at ps xs p ≡ true → ⊥) → first_match ps xs (from + n) ≡ first_match ps xs from
none_found ps xs from zero within none = let same : from + 0 ≡ from = omega arith in ap (first_match ps xs) same
none_found ps xs from (suc n) within none =
    let next : from + suc n ≡ from + n + 1 = omega arith in
    ap (first_match ps xs) next
    ∙ first_next ps xs (from + n) (omega arith) (false_from_ne_true (matches_at ps xs (from + n)) (none (from + n) (omega arith) (omega arith)))
    ∙ none_found ps xs from n (omega arith) (λ p after before. none p after (omega arith))

-- so are the places before the last q characters that were read
pub read_passed : (ps head xs : List ℕ) (from i q : ℕ) → IsHead ps head → i ≤ length xs → IsRead head (lower_at xs) from i q → first_match ps xs (i - q) ≡ first_match ps xs from
read_passed ps head xs from i q begins_so within r =
    let same : i - q ≡ from + (i - q - from) = omega (arith, r.within) in
    ap (first_match ps xs) same
    ∙ none_found ps xs from (i - q - from) (omega (arith, r.within))
    (λ p after before all. r.passed p after (omega (arith, r.within)) (λ t inside read. begins_so.chars t inside ∙ (match_stands ps xs p all t (omega (arith, begins_so.within))).1))

-- and all places, where the text is at its end and some of the head is still to come
pub read_over : (ps head xs : List ℕ) (from q : ℕ) → IsHead ps head → q < length head → IsRead head (lower_at xs) from (length xs) q → first_match ps xs (length xs) ≡ first_match ps xs from
read_over ps head xs from q begins_so some r =
    let same : length xs ≡ length xs - q + q = omega (arith, r.within) in
    ap (first_match ps xs) same
    ∙ none_found ps xs (length xs - q) q (omega (arith, r.within))
    (λ p after before all. absurd (omega (arith, r.within, begins_so.within, (match_stands ps xs p all (length ps - 1) (omega (arith, begins_so.within))).0)))
    ∙ read_passed ps head xs from (length xs) q begins_so (omega arith) r

-- READ BACK

-- a pattern that stands at none of n places is last found before them
none_behind : (ps xs : List ℕ) (r n : ℕ) → ((p : ℕ) → r ≤ p → p < r + n → matches_at ps xs p ≡ true → ⊥) → last_match_before ps xs (r + n) ≡ last_match_before ps xs r
none_behind ps xs r zero none = let same : r + 0 ≡ r = omega arith in ap (last_match_before ps xs) same
none_behind ps xs r (suc n) none =
    let next : r + suc n ≡ suc (r + n) = omega arith in
    ap (last_match_before ps xs) next
    ∙ before ps xs (r + n) (false_from_ne_true (matches_at ps xs (r + n)) (none (r + n) (omega arith) (omega arith)))
    ∙ none_behind ps xs r n (λ p after ahead. none p after (omega arith))

-- i characters before `top` were read back, and the last q of them are left: no match that begins before `end` ends behind those
pub back_passed : (ps tail xs : List ℕ) (end top i q r : ℕ) → IsTail ps tail → 0 < length tail → 0 < end → top ≡ min (length xs) (end - 1 + length ps) → r ≤ end → i ≤ top
    → top - (i - q) < r + length ps → IsRead tail (λ t. lower_at xs (top - 1 - t)) 0 i q → last_match_before ps xs r ≡ last_match_before ps xs end
back_passed ps tail xs end top i q r mirror some begun is order within past read =
    let same : end ≡ r + (end - r) = omega arith in
    sym (ap (last_match_before ps xs) same ∙ none_behind ps xs r (end - r) gone)
  where
    gone : (p : ℕ) → r ≤ p → p < r + (end - r) → matches_at ps xs p ≡ true → ⊥
    gone p after ahead all =
        let inside : p + (length ps - 1) < length xs = (match_stands ps xs p all (length ps - 1) (omega (arith, mirror.within))).0 in
        let below : p + length ps ≤ top = omega (arith, inside) in
        read.passed (top - (p + length ps)) (omega arith) (omega (arith, below))
        (λ t here there.
        (let place : p + (length ps - 1 - t) ≡ top - 1 - (top - (p + length ps) + t) = omega (arith, below, mirror.within) in
        mirror.chars t here ∙ (match_stands ps xs p all (length ps - 1 - t) (omega (arith, mirror.within))).1 ∙ ap (lower_at xs) place))

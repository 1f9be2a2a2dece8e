-- A line that goes on: nothing before it is cut again.
use Rattle.std.proofs.Common.{◌≡◌, ℕ, ◌+◌, ◌<◌, ◌≤◌, false, eqb, List, ◌++◌, length, take, drop, Some, None, sym, ap, ◌∙◌, inl, inr, arith, length-append}
use Rattle.std.specs.Prelude.{not}
use Rattle.std.specs.Option.{option_map}
use Rattle.std.specs.List.{position_or_len}
use Rattle.std.proofs.Math.Seq.{take-append-add, drop-append-add}
use Rattle.std.proofs.lemmas.Bool.{cases_lt, lt-ltb, le-ltb, eq-eqb, ne_eqb, cond-true, cond-false}
use Rattle.std.proofs.lemmas.List.{take_all, take-append-le, drop-append-le}
use Rattle.std.proofs.lemmas.List.Folds.{prefix_len-append, length-prefix_len}
use Rattle.std.proofs.lemmas.List.Sums.{prefix_len-le-length}
use Rattle.mgs_model.specs.Lines.{is_feed}
use Rattle.mgs_wire.specs.Login.{line_in, after_line}

-- what stands after the first feed, by its place
after_at : (xs : List ℕ) → position_or_len is_feed xs < length xs → after_line xs ≡ Some (drop (position_or_len is_feed xs + 1) xs)
unfolding after_line
after_at xs lt = ap (option_map (λ i. drop (i + 1) xs)) (cond-true _ _ _ (lt-ltb _ _ lt))

after_none : (xs : List ℕ) → length xs ≤ position_or_len is_feed xs → after_line xs ≡ None
unfolding after_line
after_none xs le = ap (option_map (λ i. drop (i + 1) xs)) (cond-false _ _ _ (le-ltb _ _ le))

-- a line without a feed is passed whole
no_feed : (xs : List ℕ) → after_line xs ≡ None → position_or_len is_feed xs ≡ length xs
no_feed xs e =
    elim (cases_lt (position_or_len is_feed xs) (length xs)) [
      | inl lt ↦ let f = after_at xs lt in cc
      | inr le ↦ omega (arith, prefix_len-le-length (λ x. not (is_feed x)) xs)
    ]

feed_later : (xs ys : List ℕ) → after_line xs ≡ None → position_or_len is_feed (xs ++ ys) ≡ length xs + position_or_len is_feed ys
feed_later xs ys e = prefix_len-append (λ x. not (is_feed x)) xs ys ∙ cond-true _ _ _ (eq-eqb _ _ (no_feed xs e))

-- what comes after it is cut as if it stood alone
pub line_in_more : (xs ys : List ℕ) → after_line xs ≡ None → line_in (xs ++ ys) ≡ xs ++ line_in ys
unfolding line_in
line_in_more xs ys e = ap (λ i. take i (xs ++ ys)) (feed_later xs ys e) ∙ take-append-add xs ys _

pub after_line_more : (xs ys : List ℕ) → after_line xs ≡ None → after_line (xs ++ ys) ≡ after_line ys
after_line_more xs ys e =
    let p = feed_later xs ys e in
    let n = length-append xs ys in
    let same : length xs + position_or_len is_feed ys + 1 ≡ length xs + (position_or_len is_feed ys + 1) = omega arith in
    elim (cases_lt (position_or_len is_feed ys) (length ys)) [
      | inl lt ↦
          after_at (xs ++ ys) (omega arith)
          ∙ ap (λ i. Some (drop (i + 1) (xs ++ ys))) p
          ∙ ap (λ i. Some (drop i (xs ++ ys))) same
          ∙ ap (λ (rest : List ℕ). Some rest) (drop-append-add xs ys (position_or_len is_feed ys + 1))
          ∙ sym (after_at ys lt)
      | inr le ↦ after_none (xs ++ ys) (omega arith) ∙ sym (after_none ys le)
    ]

-- a line without a feed is its own first line
pub line_in_whole : (xs : List ℕ) → after_line xs ≡ None → line_in xs ≡ xs
unfolding line_in
line_in_whole xs e = ap (λ i. take i xs) (no_feed xs e) ∙ take_all (length xs) xs (omega arith)

pub ruleset line_parts = (line_in_more, after_line_more, line_in_whole, length-append)

-- ---- a line that is whole

has_feed : (xs rest : List ℕ) → after_line xs ≡ Some rest → position_or_len is_feed xs < length xs
has_feed xs rest e =
    elim (cases_lt (position_or_len is_feed xs) (length xs)) [
      | inl lt ↦ lt
      | inr le ↦ let f = after_none xs le in cc
    ]

feed_stays : (xs ys : List ℕ) → position_or_len is_feed xs < length xs → position_or_len is_feed (xs ++ ys) ≡ position_or_len is_feed xs
feed_stays xs ys lt =
    let apart : eqb (position_or_len is_feed xs) (length xs) ≡ false = ne_eqb (position_or_len is_feed xs) (length xs) (λ e. omega arith) in
    prefix_len-append (λ x. not (is_feed x)) xs ys ∙ cond-false _ _ _ apart

-- what comes after it leaves its line as it is
pub line_in_stays : (xs ys rest : List ℕ) → after_line xs ≡ Some rest → line_in (xs ++ ys) ≡ line_in xs
unfolding line_in
line_in_stays xs ys rest e =
    let lt = has_feed xs rest e in
    ap (λ i. take i (xs ++ ys)) (feed_stays xs ys lt) ∙ take-append-le (position_or_len is_feed xs) xs ys (omega arith)

-- and stands after what stood after it
pub after_line_stays : (xs ys rest : List ℕ) → after_line xs ≡ Some rest → after_line (xs ++ ys) ≡ Some (rest ++ ys)
after_line_stays xs ys rest e =
    let lt = has_feed xs rest e in
    let p = feed_stays xs ys lt in
    let n = length-append xs ys in
    let is : Some (drop (position_or_len is_feed xs + 1) xs) ≡ Some rest = sym (after_at xs lt) ∙ e in
    let same : drop (position_or_len is_feed xs + 1) xs ≡ rest = cc in
    after_at (xs ++ ys) (omega arith)
    ∙ ap (λ i. Some (drop (i + 1) (xs ++ ys))) p
    ∙ ap (λ (r : List ℕ). Some r) (drop-append-le (position_or_len is_feed xs + 1) xs ys (omega arith) ∙ ap (λ r. r ++ ys) same)

-- a line gets no shorter
pub line_in_grows : (xs ys : List ℕ) → length (line_in xs) ≤ length (line_in (xs ++ ys))
unfolding line_in
line_in_grows xs ys =
    let a = length-prefix_len (λ x. not (is_feed x)) xs in
    let b = length-prefix_len (λ x. not (is_feed x)) (xs ++ ys) in
    let le = prefix_len-le-length (λ x. not (is_feed x)) xs in
    elim (cases_lt (position_or_len is_feed xs) (length xs)) [
      | inl lt ↦ omega (arith, feed_stays xs ys lt)
      | inr ge ↦
          let e : position_or_len is_feed xs ≡ length xs = omega arith in
          omega (arith, prefix_len-append (λ x. not (is_feed x)) xs ys ∙ cond-true _ _ _ (eq-eqb _ _ e))
    ]

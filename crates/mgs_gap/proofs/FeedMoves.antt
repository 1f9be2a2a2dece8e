-- The line feeds of a text in two parts, as the gap moves and widens.
use Rattle.std.proofs.Common.{◌≡◌, ℕ, suc, ◌+◌, ◌-◌, ◌<◌, ◌≤◌, List, [], ◌∷◌, ◌++◌, length, take, drop, get_or, sym, ap, ap₂, ◌∙◌, arith, add-zero, zero-add, length-append, inl, inr, refl}
use Rattle.std.specs.List.{count_by}
use Rattle.std.proofs.lemmas.List.{take-append-drop, drop-append-le, take-append-le, take_at, drop_at, length-drop, length-take}
use Rattle.std.proofs.lemmas.Bool.{cases_eq}
use Rattle.std.proofs.Math.Seq.{drop-append-add, take-append-add}
use Rattle.mgs_model.specs.Lines.{is_feed, line_of}
use Rattle.mgs_gap.specs.Feeds.{feeds_from, ends_from, turned, AreFeeds}
use Rattle.mgs_gap.proofs.FeedLists.{feeds_yes, feeds_no, ends_yes, ends_no, length-feeds_from, length-ends_from, feeds_from-append, ends_from-append, feeds_within, ends_within}
use Rattle.mgs_gap.proofs.FeedLines.{Finds, in_front, in_back}

turned_push : (n y : ℕ) (xs : List ℕ) → turned n (xs ++ y ∷ []) ≡ (n - y) ∷ turned n xs
turned_push n y [] = refl
turned_push n y (x ∷ xs) = ap (λ l. l ++ (n - x) ∷ []) (turned_push n y xs)

length-turned : (n : ℕ) (xs : List ℕ) → length (turned n xs) ≡ length xs
length-turned n [] = refl
length-turned n (x ∷ xs) = omega (arith, length-append (turned n xs) ((n - x) ∷ []), length-turned n xs)

-- places, counted from the end
turned_feeds : (len n m : ℕ) (xs : List ℕ) → len ≡ n + length xs + m → turned len (feeds_from n xs) ≡ ends_from m xs
turned_feeds len n m [] e = refl
turned_feeds len n m (x ∷ xs) e =
    let rest = turned_feeds len (suc n) m xs (omega (arith, e)) in
    let at : len - n ≡ suc (length xs + m) = omega (arith, e) in
    elim (cases_eq x 10) [
      | inl i ↦ ap (turned len) (feeds_yes n x xs i) ∙ ap₂ (λ (l : List ℕ) k. l ++ k ∷ []) rest at ∙ sym (ends_yes m x xs i)
      | inr i ↦ ap (turned len) (feeds_no n x xs i) ∙ rest ∙ sym (ends_no m x xs i)
    ]

-- and the other way round
turned_ends : (len n m : ℕ) (xs : List ℕ) → len ≡ n + length xs + m → turned len (ends_from m xs) ≡ feeds_from n xs
turned_ends len n m [] e = refl
turned_ends len n m (x ∷ xs) e =
    let rest = turned_ends len (suc n) m xs (omega (arith, e)) in
    let at : len - suc (length xs + m) ≡ n = omega (arith, e) in
    elim (cases_eq x 10) [
      | inl i ↦ ap (turned len) (ends_yes m x xs i) ∙ turned_push len (suc (length xs + m)) (ends_from m xs) ∙ ap₂ (λ k (l : List ℕ). k ∷ l) at rest ∙ sym (feeds_yes n x xs i)
      | inr i ↦ ap (turned len) (ends_no m x xs i) ∙ rest ∙ sym (feeds_no n x xs i)
    ]

-- as many are moved as go
pub number_moved : (from to fn tn : List ℕ) (r len : ℕ) → fn ≡ take r from → tn ≡ to ++ turned len (drop r from) → length fn + length tn ≡ length from + length to
number_moved from to fn tn r len ef et = omega (arith, ap length ef, ap length et, length-append to (turned len (drop r from)), length-turned len (drop r from), length-take r from, length-drop r from)

-- the gap goes back to the place a of the front, before which r line feeds stand
module _ (xs before front back : List ℕ) (a r : ℕ) (found : Finds a xs r) (same : xs ≡ before) (is : before ≡ feeds_from 0 front) (within : a ≤ length front) where
  number : r ≡ line_of front a
  number = in_front xs before front a r found same is within

  parts : before ≡ feeds_from 0 (take a front) ++ feeds_from a (drop a front)
  parts =
      let at : 0 + length (take a front) ≡ a = omega (arith, length-take a front, within) in
      is ∙ ap (feeds_from 0) (sym (take-append-drop a front)) ∙ feeds_from-append 0 (take a front) (drop a front) ∙ ap (λ k. feeds_from 0 (take a front) ++ feeds_from k (drop a front)) at

  first : length (feeds_from 0 (take a front)) ≡ r
  first = length-feeds_from 0 (take a front) ∙ sym number

  pub few_before : r ≤ length before
  few_before = omega (arith, ap length parts, length-append (feeds_from 0 (take a front)) (feeds_from a (drop a front)), first)

  pub feeds_back : (after nb na : List ℕ) → after ≡ ends_from 0 back → nb ≡ take r before → na ≡ after ++ turned (length front + length back) (drop r before) → AreFeeds nb na (take a (front ++ back)) (drop a (front ++ back))
  feeds_back after nb na ea eb en =
      let rest : drop r before ≡ feeds_from a (drop a front) = ap (drop r) parts ∙ drop_at (feeds_from 0 (take a front)) (feeds_from a (drop a front)) r first in
      let len : length front + length back ≡ a + length (drop a front) + length back = omega (arith, length-drop a front, within) in (
        eb ∙ ap (take r) parts ∙ take_at (feeds_from 0 (take a front)) (feeds_from a (drop a front)) r first ∙ ap (feeds_from 0) (sym (take-append-le a front back within)),
        en ∙ ap₂ (λ (x y : List ℕ). x ++ y) ea (ap (turned (length front + length back)) rest ∙ turned_feeds (length front + length back) a (length back) (drop a front) len ∙ ap (λ m. ends_from m (drop a front)) (sym (add-zero (length back))))
            ∙ sym (ends_from-append 0 (drop a front) back) ∙ ap (ends_from 0) (sym (drop-append-le a front back within)),
      )

-- the gap goes on over the first k characters of the back, and r line feeds stand after them
module _ (xs after back : List ℕ) (k r : ℕ) (found : Finds (length back - k + 1) xs r) (same : xs ≡ after) (is : after ≡ ends_from 0 back) (within : k ≤ length back) where
  number_after : r ≡ count_by is_feed (drop k back)
  number_after = in_back xs after back k r found same is within

  parts_after : after ≡ ends_from 0 (drop k back) ++ ends_from (length (drop k back)) (take k back)
  parts_after = is ∙ ap (ends_from 0) (sym (take-append-drop k back)) ∙ ends_from-append 0 (take k back) (drop k back) ∙ ap (λ m. ends_from 0 (drop k back) ++ ends_from m (take k back)) (add-zero (length (drop k back)))

  first_after : length (ends_from 0 (drop k back)) ≡ r
  first_after = length-ends_from 0 (drop k back) ∙ sym number_after

  pub few_after : r ≤ length after
  few_after = omega (arith, ap length parts_after, length-append (ends_from 0 (drop k back)) (ends_from (length (drop k back)) (take k back)), first_after)

  pub feeds_gone : take r after ≡ ends_from 0 (drop k back)
  feeds_gone = ap (take r) parts_after ∙ take_at (ends_from 0 (drop k back)) (ends_from (length (drop k back)) (take k back)) r first_after

  pub feeds_on : (before front nb na : List ℕ) → before ≡ feeds_from 0 front → na ≡ take r after → nb ≡ before ++ turned (length front + length back) (drop r after) → AreFeeds nb na (take (length front + k) (front ++ back)) (drop (length front + k) (front ++ back))
  feeds_on before front nb na eb ea en =
      let rest : drop r after ≡ ends_from (length (drop k back)) (take k back) = ap (drop r) parts_after ∙ drop_at (ends_from 0 (drop k back)) (ends_from (length (drop k back)) (take k back)) r first_after in
      let len : length front + length back ≡ length front + length (take k back) + length (drop k back) = omega (arith, length-drop k back, length-take k back, within) in (
        en ∙ ap₂ (λ (x y : List ℕ). x ++ y) eb (ap (turned (length front + length back)) rest ∙ turned_ends (length front + length back) (length front) (length (drop k back)) (take k back) len)
            ∙ ap (λ n. feeds_from 0 front ++ feeds_from n (take k back)) (sym (zero-add (length front))) ∙ sym (feeds_from-append 0 front (take k back)) ∙ ap (feeds_from 0) (sym (take-append-add front back k)),
        ea ∙ feeds_gone ∙ ap (ends_from 0) (sym (drop-append-add front back k)),
      )

-- the numbers are within the text
pub feeds_within_text : (before front : List ℕ) (more : ℕ) → before ≡ feeds_from 0 front → (i : ℕ) → i < length before → get_or before i 0 ≤ length front + more
feeds_within_text before front more is i h =
    let low = feeds_within 0 front i (omega (arith, h, ap length is)) in
    omega (arith, ap (λ (l : List ℕ). get_or l i 0) is, low.1)

pub ends_within_text : (after back : List ℕ) (more : ℕ) → after ≡ ends_from 0 back → (i : ℕ) → i < length after → get_or after i 0 ≤ more + length back
ends_within_text after back more is i h =
    let low = ends_within 0 back i (omega (arith, h, ap length is)) in
    omega (arith, ap (λ (l : List ℕ). get_or l i 0) is, low.1)

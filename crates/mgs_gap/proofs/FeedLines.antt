-- Lines by their line feeds, in a text in two parts.
use Rattle.std.proofs.Common.{◌≡◌, ℕ, suc, ◌+◌, ◌-◌, ◌<◌, ◌≤◌, List, ◌++◌, length, take, drop, get_or, sym, ap, subst, ◌∙◌, arith, length-append}
use Rattle.std.specs.List.{count_by}
use Rattle.std.proofs.lemmas.Grind.{get_or_default_zero}
use Rattle.std.proofs.lemmas.List.{take-append-le, get_or_append_left}
use Rattle.std.proofs.lemmas.List.Sums.{sum_by-append, sum_by-take-drop}
use Rattle.std.proofs.Math.Seq.{take-append-add}
use Rattle.mgs_model.specs.Lines.{is_feed, line_of, start_of}
use Rattle.mgs_gap.specs.Feeds.{feeds_from, ends_from, AreFeeds, Parts}
use Rattle.mgs_gap.proofs.FeedLists.{one, length-feeds_from, length-ends_from, feeds_from-append, feeds_before, feeds_after, start_of_feed, start_of_past, start_of_none, start_of_end, feeds_within, ends_within}

-- r of the numbers are below the limit
abbrev pub Finds : ℕ → List ℕ → ℕ → Type 0
Finds limit xs r = (n : ℕ) → Parts limit xs n → r ≡ n

-- the line feeds of the first part before its place p
pub in_front : (xs before front : List ℕ) (p r : ℕ) → Finds p xs r → xs ≡ before → before ≡ feeds_from 0 front → p ≤ length front → r ≡ line_of front p
in_front xs before front p r found same e within = found (line_of front p) (subst (λ l. Parts p l (line_of front p)) (sym (same ∙ e)) (feeds_before front p within))

pub line_in_front : (xs before front back : List ℕ) (p r : ℕ) → Finds p xs r → xs ≡ before → before ≡ feeds_from 0 front → p ≤ length front → r ≡ line_of (front ++ back) p
line_in_front xs before front back p r found same e within = in_front xs before front p r found same e within ∙ ap (λ (l : List ℕ). count_by is_feed l) (sym (take-append-le p front back within))

-- the line feeds of the second part from its place q on
pub in_back : (xs after back : List ℕ) (q r : ℕ) → Finds (length back - q + 1) xs r → xs ≡ after → after ≡ ends_from 0 back → q ≤ length back → r ≡ count_by is_feed (drop q back)
in_back xs after back q r found same e within =
    let limit : suc (length back - q) ≡ length back - q + 1 = omega arith in
    found (count_by is_feed (drop q back)) (subst (λ k. Parts k xs (count_by is_feed (drop q back))) limit (subst (λ l. Parts (suc (length back - q)) l (count_by is_feed (drop q back))) (sym (same ∙ e)) (feeds_after back q within)))

pub few_in_back : (xs after back : List ℕ) (q r : ℕ) → Finds (length back - q + 1) xs r → xs ≡ after → after ≡ ends_from 0 back → q ≤ length back → r ≤ length xs
few_in_back xs after back q r found same e within =
    omega (arith, in_back xs after back q r found same e within, sum_by-take-drop one back q, ap length (same ∙ e), length-ends_from 0 back)

pub line_in_back : (xs before after front back : List ℕ) (p r : ℕ) → Finds (length back - (p - length front) + 1) xs r → xs ≡ after → before ≡ feeds_from 0 front → after ≡ ends_from 0 back → length front < p → p ≤ length front + length back → length before + (length xs - r) ≡ line_of (front ++ back) p
line_in_back xs before after front back p r found same eb ea from within =
    let q : ℕ = p - length front in
    let here = in_back xs after back q r found same ea (omega (arith, within, from)) in
    let at : p ≡ length front + q = omega (arith, from) in
    let line : line_of (front ++ back) p ≡ count_by is_feed front + count_by is_feed (take q back) = ap (λ k. line_of (front ++ back) k) at ∙ ap (λ (l : List ℕ). count_by is_feed l) (take-append-add front back q) ∙ sum_by-append one front (take q back) in
    omega (arith, here, sum_by-take-drop one back q, ap length (same ∙ ea), length-ends_from 0 back, ap length eb, length-feeds_from 0 front, line)

pub feed_in_front : (before front : List ℕ) (line x : ℕ) → before ≡ feeds_from 0 front → (line ≡ 0 → ⊥) → line ≤ length before → x ≡ get_or before (line - 1) x → x < length front
feed_in_front before front line x e some within read =
    let k : ℕ = line - 1 in
    let there : k < length (feeds_from 0 front) = omega (arith, some, within, ap length e) in
    let value : x ≡ get_or (feeds_from 0 front) k 0 = read ∙ get_or_default_zero before k x (omega (arith, some, within)) ∙ ap (λ (l : List ℕ). get_or l k 0) e in
    omega (arith, value, (feeds_within 0 front k there).1)

pub feed_in_back : (before after front back : List ℕ) (line x : ℕ) → AreFeeds before after front back → length before < line → line - length before ≤ length after → x ≡ get_or after (length after - (line - length before)) x → x ≤ length back
feed_in_back before after front back line x are past within read =
    let k : ℕ = length after - (line - length before) in
    let there : k < length (ends_from 0 back) = omega (arith, past, within, ap length are.1) in
    let value : x ≡ get_or (ends_from 0 back) k 0 = read ∙ get_or_default_zero after k x (omega (arith, past, within)) ∙ ap (λ (l : List ℕ). get_or l k 0) are.1 in
    omega (arith, value, (ends_within 0 back k there).1)

pub start_in_front : (before front back : List ℕ) (line x : ℕ) → before ≡ feeds_from 0 front → (line ≡ 0 → ⊥) → line ≤ length before → x ≡ get_or before (line - 1) x → x + 1 ≡ start_of line (front ++ back)
start_in_front before front back line x e some within read =
    let k : ℕ = line - 1 in
    let at : suc k ≡ line = omega (arith, some) in
    let here : k < length before = omega (arith, some, within) in
    let value : x ≡ get_or before k 0 = read ∙ get_or_default_zero before k x here in
    let all : feeds_from 0 (front ++ back) ≡ before ++ feeds_from (0 + length front) back = feeds_from-append 0 front back ∙ ap (λ l. l ++ feeds_from (0 + length front) back) (sym e) in
    let there : k < length (feeds_from 0 (front ++ back)) = omega (arith, here, ap length all, length-append before (feeds_from (0 + length front) back)) in
    let same : get_or (feeds_from 0 (front ++ back)) k 0 ≡ x = ap (λ (l : List ℕ). get_or l k 0) all ∙ get_or_append_left before (feeds_from (0 + length front) back) 0 k here ∙ sym value in
    let start = start_of_feed k 0 (front ++ back) there in
    omega (arith, start, same) ∙ ap (λ i. start_of i (front ++ back)) at

pub start_in_back : (before after front back : List ℕ) (line x : ℕ) → AreFeeds before after front back → length before < line → line - length before ≤ length after → x ≡ get_or after (length after - (line - length before)) x → length front + length back + 1 - x ≡ start_of line (front ++ back)
start_in_back before after front back line x are past within read =
    let few : length before ≡ count_by is_feed front = ap length are.0 ∙ length-feeds_from 0 front in
    let j : ℕ = line - length before - 1 in
    let at : line - count_by is_feed front ≡ suc j = omega (arith, past, few) in
    let here : j < length after = omega (arith, past, within) in
    let there : j < length (ends_from 0 back) = omega (arith, here, ap length are.1) in
    let place : length after - (line - length before) ≡ length after - suc j = omega (arith, past) in
    let value : x ≡ get_or (ends_from 0 back) (length (ends_from 0 back) - suc j) 0 =
    read ∙ get_or_default_zero after (length after - (line - length before)) x (omega (arith, past, within)) ∙ ap (λ i. get_or after i 0) place ∙ ap (λ (l : List ℕ). get_or l (length l - suc j) 0) are.1 in
    let start = start_of_end j 0 back there in
    let whole : start_of line (front ++ back) ≡ length front + start_of (suc j) back = start_of_past line front back (omega (arith, past, few)) ∙ ap (λ i. length front + start_of i back) at in
    omega (arith, start, value, whole)

pub start_of_no_line : (before after front back : List ℕ) (line : ℕ) → AreFeeds before after front back → length before < line → length after < line - length before → length front + length back ≡ start_of line (front ++ back)
start_of_no_line before after front back line are past out =
    sym (length-append front back) ∙ sym (start_of_none line (front ++ back) (omega (arith, past, out, ap length are.0, length-feeds_from 0 front, ap length are.1, length-ends_from 0 back, sum_by-append one front back)))

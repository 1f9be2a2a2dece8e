-- What was typed, beside a name: all of it is what they have in common.
use Rattle.std.proofs.Common.{◌≡◌, ◌==◌, ℕ, suc, ◌+◌, ◌<◌, ◌≤◌, min, Bool, true, false, ◌&&◌, cond, List, [], ◌∷◌, drop, length, refl, ap, sym, ◌∙◌, arith}
use Rattle.std.proofs.Math.Dec.{eqb-zero-suc, eqb-suc-suc}
use Rattle.std.specs.List.{common_prefix_len}
use Rattle.std.proofs.lemmas.List.Sums.{common_prefix_len-le}
use Rattle.std.proofs.lemmas.List.{length-drop}
use Rattle.mgs_model.specs.Keys.{begins_with}
use Rattle.mgs_model.specs.Names.{same_name}

-- behind the shorter of two texts there is nothing
none_behind : (a b : List ℕ) → common_prefix_len (λ x y. x == y) (drop (min (length a) (length b)) a) (drop (min (length a) (length b)) b) ≡ 0
none_behind a b =
    let n : ℕ = min (length a) (length b) in
    let le = common_prefix_len-le (λ x y. x == y) (drop n a) (drop n b) in
    omega (arith, le.0, le.1, length-drop n a, length-drop n b)

-- so it is what they have in common
pub all_met : (a b : List ℕ) (i n : ℕ) → n ≡ min (length a) (length b) → i ≡ n → i + common_prefix_len (λ x y. x == y) (drop i a) (drop i b) ≡ common_prefix_len (λ x y. x == y) a b → n ≡ common_prefix_len (λ x y. x == y) a b
all_met a b i n shorter end met =
    let at : i ≡ min (length a) (length b) = end ∙ shorter in
    let none : common_prefix_len (λ x y. x == y) (drop i a) (drop i b) ≡ 0 = ap (λ k. common_prefix_len (λ x y. x == y) (drop k a) (drop k b)) at ∙ none_behind a b in
    omega (arith, end, none, met)

more_same : (len n : ℕ) → (1 + len == suc n) ≡ (len == n)
more_same len n = (let more : 1 + len ≡ suc len = omega arith in ap (λ k. k == suc n) more ∙ eqb-suc-suc len n)

pub begins_so : (name typed : List ℕ) → begins_with name typed ≡ (common_prefix_len (λ x y. x == y) typed name == length typed)
begins_so name [] = refl
begins_so [] (c ∷ cs) = sym (eqb-zero-suc (length cs))
begins_so (n ∷ ns) (c ∷ cs) = by (c == n) (common_prefix_len (λ x y. x == y) cs ns) (begins_so ns cs)
  where
    by : (t : Bool) (len : ℕ) → begins_with ns cs ≡ (len == length cs) → (t && begins_with ns cs) ≡ (cond t (1 + len) 0 == suc (length cs))
    by true len e = e ∙ sym (more_same len (length cs))
    by false len e = sym (eqb-zero-suc (length cs))

-- a longer name is another one
pub longer : (typed name : List ℕ) → length typed < length name → false ≡ same_name typed name
longer [] [] more = absurd (omega (arith, more))
longer [] (n ∷ ns) more = refl
longer (c ∷ cs) [] more = refl
longer (c ∷ cs) (n ∷ ns) more = by (c == n) (longer cs ns (omega (arith, more)))
  where
    by : (t : Bool) → false ≡ same_name cs ns → false ≡ (t && same_name cs ns)
    by true e = e
    by false e = refl

pub is_so : (typed name : List ℕ) → length name ≤ length typed → (common_prefix_len (λ x y. x == y) typed name == length typed) ≡ same_name typed name
is_so [] [] within = refl
is_so [] (n ∷ ns) within = absurd (omega (arith, within))
is_so (c ∷ cs) [] within = eqb-zero-suc (length cs)
is_so (c ∷ cs) (n ∷ ns) within = by (c == n) (common_prefix_len (λ x y. x == y) cs ns) (is_so cs ns (omega (arith, within)))
  where
    by : (t : Bool) (len : ℕ) → (len == length cs) ≡ same_name cs ns → (cond t (1 + len) 0 == suc (length cs)) ≡ (t && same_name cs ns)
    by true len e = more_same len (length cs) ∙ e
    by false len e = eqb-zero-suc (length cs)

-- Texts that are compared by strides.
use Rattle.std.proofs.Common.{◌≡◌, ℕ, ◌+◌, ◌-◌, ◌≤◌, Bool, true, List, ◌++◌, length, take, drop, replicate, sym, ap, ◌∙◌, arith}
use Rattle.std.specs.Prelude.{nat_eq, slice_range}
use Rattle.std.specs.Cmp.Lexicographic.{pointwise}
use Rattle.std.proofs.Math.Seq.{take-add}
use Rattle.std.proofs.lemmas.Bool.Decides.{Decides-eqb}
use Rattle.std.proofs.lemmas.List.{append-nil, drop_all, drop-replicate, take-replicate}
use Rattle.std.proofs.lemmas.List.Folds.{drop_split}
use Rattle.std.proofs.lemmas.Slice.Eq.{starts_is}

-- a text that starts with another of its length is that
pub whole_prefix : (xs ys : List ℕ) (r : Bool) → length xs ≡ length ys → r ≡ pointwise nat_eq ys (take (length ys) xs) → r ≡ true → xs ≡ ys
whole_prefix xs ys r n e is =
    (starts_is Decides-eqb xs ys r e).0 is ∙ ap (λ zs. ys ++ zs) (drop_all (length ys) xs (omega arith)) ∙ append-nil ys

-- a stretch more from the left
pub same_more : (xs ys : List ℕ) (i n : ℕ) → take i xs ≡ take i ys → slice_range xs i (i + n) ≡ slice_range ys i (i + n) → take (i + n) xs ≡ take (i + n) ys
same_more xs ys i n front next =
    let size : i + n - i ≡ n = omega arith in
    let stretch : take n (drop i xs) ≡ take n (drop i ys) = rw size at next in
    take-add i n xs ∙ ap (λ zs. zs ++ take n (drop i xs)) front ∙ ap (λ zs. take i ys ++ zs) stretch ∙ sym (take-add i n ys)

-- and from the right
pub same_more_back : (xs ys : List ℕ) (at end : ℕ) → at ≤ end → drop end xs ≡ drop end ys → slice_range xs at end ≡ slice_range ys at end → drop at xs ≡ drop at ys
same_more_back xs ys at end order rest next =
    drop_split xs at end order ∙ ap (λ zs. zs ++ drop end xs) next ∙ ap (λ zs. slice_range ys at end ++ zs) rest ∙ sym (drop_split ys at end order)

-- blanks among blanks
blanks_between : (n at k : ℕ) → at + k ≤ n → slice_range (replicate {A = ℕ} n 32) at (at + k) ≡ replicate k 32
blanks_between n at k within =
    let size : at + k - at ≡ k = omega arith in
    ap (λ m. take m (drop at (replicate {A = ℕ} n 32))) size ∙ ap (take k) (drop-replicate at n 32) ∙ take-replicate k (n - at) 32 (omega arith)

-- as many blanks more
pub blanks_more_back : (xs : List ℕ) (at end k : ℕ) → at + k ≡ end → end ≤ length xs → drop end xs ≡ drop end (replicate (length xs) 32) → slice_range xs at end ≡ replicate k 32 → drop at xs ≡ drop at (replicate (length xs) 32)
blanks_more_back xs at end k sum within rest next =
    let blank : slice_range (replicate {A = ℕ} (length xs) 32) at end ≡ replicate k 32 = ap (slice_range (replicate {A = ℕ} (length xs) 32) at) (sym sum) ∙ blanks_between (length xs) at k (omega arith) in
    same_more_back xs (replicate (length xs) 32) at end (omega arith) rest (next ∙ sym blank)

-- The changes that make the rows of a journal those of the buffers, and the walk that finds them.
use Rattle.std.proofs.Common.{◌≡◌, ℕ, zero, suc, ◌+◌, ◌-◌, ◌<◌, ◌≤◌, List, [], ◌∷◌, ◌++◌, drop, length, Option, Some, None, inl, inr, refl, sym, ap, ◌∙◌, subst, append-nil, append_assoc, arith}
use Rattle.std.specs.Prelude.{remove, slice_get, slice_set}
use Rattle.mgs_laws.specs.Apart.{Rules}
use Rattle.mgs_journal.specs.Changes.{row_set, rows_changed}
use Rattle.mgs_journal.specs.Rows.{KeptRights}
use Rattle.mgs_journal.specs.declared.change.Change.{Change}
use Rattle.mgs_journal.specs.declared.change.Change.TheVariants.{Add, Set, Remove}
use Rattle.mgs_keep.specs.Differences.{AreDifferences, AreFound, HasOtherRights, IsKilled, IsSameBuffer}

-- what is left from an element on
pub drop_at : {A : Type 0} (xs : List A) (i : ℕ) (x : A) → slice_get xs i ≡ Some x → drop i xs ≡ x ∷ drop (suc i) xs
drop_at [] i x e = cc
drop_at (y ∷ xs) zero x e = cc
drop_at (y ∷ xs) (suc i) x e = drop_at xs i x e

pub drop_end : {A : Type 0} (xs : List A) (i : ℕ) → slice_get xs i ≡ None → drop i xs ≡ []
drop_end [] zero e = refl
drop_end [] (suc i) e = refl
drop_end (y ∷ xs) zero e = cc
drop_end (y ∷ xs) (suc i) e = drop_end xs i e

-- the element behind others
removed_behind : {A : Type 0} (pre : List A) (k : A) (ks : List A) → remove (pre ++ k ∷ ks) (length pre) ≡ pre ++ ks
removed_behind [] k ks = refl
removed_behind (p ∷ pre) k ks = ap (λ xs. p ∷ xs) (removed_behind pre k ks)

got_behind : {A : Type 0} (pre : List A) (k : A) (ks : List A) → slice_get (pre ++ k ∷ ks) (length pre) ≡ Some k
got_behind [] k ks = refl
got_behind (p ∷ pre) k ks = got_behind pre k ks

set_behind : {A : Type 0} (pre : List A) (k r : A) (ks : List A) → slice_set (pre ++ k ∷ ks) (length pre) r ≡ pre ++ r ∷ ks
set_behind [] k r ks = refl
set_behind (p ∷ pre) k r ks = ap (λ xs. p ∷ xs) (set_behind pre k r ks)

longer : {A : Type 0} (pre : List A) (x : A) (i : ℕ) → length pre ≡ i → length (pre ++ x ∷ []) ≡ suc i
longer [] x i e = ap suc e
longer (p ∷ pre) x i e = ap suc (longer pre x (length pre) refl) ∙ ap suc e

row_set_behind : (pre : List KeptRights) (b k : KeptRights) (ks : List KeptRights) → IsSameBuffer b k → row_set (length pre) b.rules (pre ++ k ∷ ks) ≡ pre ++ b ∷ ks
row_set_behind pre b k ks same =
    ap (λ (o : Option KeptRights). elim o [ None ↦ pre ++ k ∷ ks | Some x ↦ slice_set (pre ++ k ∷ ks) (length pre) (record { rules = b.rules; birth = x.birth }) ]) (got_behind pre k ks)
    ∙ ap (λ (n : ℕ). slice_set (pre ++ k ∷ ks) (length pre) (record { rules = b.rules; birth = n })) (sym same.birth)
    ∙ set_behind pre k b ks

-- THE CHANGES LEAD from the rows to those of the buffers
pub lead_behind : (i : ℕ) (now kept : List KeptRights) (cs : List Change) (pre : List KeptRights) → length pre ≡ i → AreDifferences i now kept cs → rows_changed cs (pre ++ kept) ≡ pre ++ now
lead_behind i [] [] cs pre at d = ap (λ xs. rows_changed xs (pre ++ [])) d
lead_behind i [] (k ∷ kept) cs pre at d =
    ap (λ xs. rows_changed xs (pre ++ k ∷ kept)) d.1
    ∙ ap (λ rows. rows_changed d.0 rows) (ap (λ n. remove (pre ++ k ∷ kept) n) (sym at) ∙ removed_behind pre k kept)
    ∙ lead_behind i [] kept d.0 pre at d.2
lead_behind i (b ∷ now) [] cs pre at d =
    ap (λ xs. rows_changed xs (pre ++ [])) d.1
    ∙ ap (λ rows. rows_changed d.0 rows) (ap (λ xs. xs ++ b ∷ []) (append-nil pre) ∙ sym (append-nil (pre ++ b ∷ [])))
    ∙ lead_behind (suc i) now [] d.0 (pre ++ b ∷ []) (longer pre b i at) d.2
    ∙ append_assoc pre (b ∷ []) now
lead_behind i (b ∷ now) (k ∷ kept) cs pre at (inl d) =
    ap (λ rows. rows_changed cs rows) (ap (λ x. pre ++ x ∷ kept) (sym d.0) ∙ sym (append_assoc pre (b ∷ []) kept))
    ∙ lead_behind (suc i) now kept cs (pre ++ b ∷ []) (longer pre b i at) d.1
    ∙ append_assoc pre (b ∷ []) now
lead_behind i (b ∷ now) (k ∷ kept) cs pre at (inr (inl d)) =
    ap (λ xs. rows_changed xs (pre ++ k ∷ kept)) d.1.1
    ∙ ap (λ rows. rows_changed d.1.0 rows) (ap (λ n. row_set n b.rules (pre ++ k ∷ kept)) (sym at) ∙ row_set_behind pre b k kept d.0.same ∙ sym (append_assoc pre (b ∷ []) kept))
    ∙ lead_behind (suc i) now kept d.1.0 (pre ++ b ∷ []) (longer pre b i at) d.1.2
    ∙ append_assoc pre (b ∷ []) now
lead_behind i (b ∷ now) (k ∷ kept) cs pre at (inr (inr d)) =
    ap (λ xs. rows_changed xs (pre ++ k ∷ kept)) d.1.1
    ∙ ap (λ rows. rows_changed d.1.0 rows) (ap (λ n. remove (pre ++ k ∷ kept) n) (sym at) ∙ removed_behind pre k kept)
    ∙ lead_behind i (b ∷ now) kept d.1.0 pre at d.1.2

-- no row differs from itself
pub none_differ : (i : ℕ) (rows : List KeptRights) → AreDifferences i rows rows []
none_differ i [] = refl
none_differ i (b ∷ rows) = inl (refl, none_differ (suc i) rows)

-- A STEP OF THE WALK

one_more : (n : ℕ) → suc n ≡ n + 1
one_more n = omega arith

far_both : (now kept : List KeptRights) (cs : List Change) (i j : ℕ) → AreFound now kept cs (Some (suc i, suc j)) → AreFound now kept cs (Some (i + 1, j + 1))
far_both now kept cs i j far = subst (λ n. AreFound now kept cs (Some (n, j + 1))) (one_more i) (subst (λ n. AreFound now kept cs (Some (suc i, n))) (one_more j) far)

module _ (now kept : List KeptRights) (cs : List Change) (i j : ℕ) (far : AreFound now kept cs (Some (i, j))) where
  pub found_over : slice_get now i ≡ None → slice_get kept j ≡ None → AreFound now kept cs None
  found_over e f =
      subst (λ xs. AreDifferences 0 now kept xs) (append-nil cs)
      (far [] (subst (λ xs. AreDifferences i xs (drop j kept) []) (sym (drop_end now i e)) (subst (λ xs. AreDifferences i [] xs []) (sym (drop_end kept j f)) refl)))

  pub found_same : (b : KeptRights) → slice_get now i ≡ Some b → slice_get kept j ≡ Some b → AreFound now kept cs (Some (i + 1, j + 1))
  found_same b e f = far_both now kept cs i j (λ rest more.
      far rest
      (subst (λ xs. AreDifferences i xs (drop j kept) rest) (sym (drop_at now i b e))
      (subst (λ xs. AreDifferences i (b ∷ drop (suc i) now) xs rest) (sym (drop_at kept j b f)) (inl (refl, more)))))

  -- with one change more
  with_change : (c : Change) (ds : List Change) → ds ≡ cs ++ c ∷ [] → (rest : List Change) → AreDifferences 0 now kept (cs ++ c ∷ rest) → AreDifferences 0 now kept (ds ++ rest)
  with_change c ds is rest d = subst (λ xs. AreDifferences 0 now kept xs) (sym (append_assoc cs (c ∷ []) rest) ∙ ap (λ xs. xs ++ rest) (sym is)) d

  pub found_changed : (b k : KeptRights) (r : Rules) (ds : List Change) → slice_get now i ≡ Some b → slice_get kept j ≡ Some k → HasOtherRights b k → r ≡ b.rules → ds ≡ cs ++ Set i r ∷ []
      → AreFound now kept ds (Some (i + 1, j + 1))
  found_changed b k r ds e f other is made = far_both now kept ds i j (λ rest more.
      with_change (Set i r) ds made rest
      (far (Set i r ∷ rest)
      (subst (λ xs. AreDifferences i xs (drop j kept) (Set i r ∷ rest)) (sym (drop_at now i b e))
      (subst (λ xs. AreDifferences i (b ∷ drop (suc i) now) xs (Set i r ∷ rest)) (sym (drop_at kept j k f)) (inr (inl (other, (rest, ap (λ x. Set i x ∷ rest) is, more))))))))

  pub found_made : (b : KeptRights) (ds : List Change) → slice_get now i ≡ Some b → slice_get kept j ≡ None → ds ≡ cs ++ Add b.rules b.birth ∷ [] → AreFound now kept ds (Some (i + 1, j))
  found_made b ds e f made = subst (λ n. AreFound now kept ds (Some (n, j))) (one_more i) (λ rest more.
      with_change (Add b.rules b.birth) ds made rest
      (far (Add b.rules b.birth ∷ rest)
      (subst (λ xs. AreDifferences i xs (drop j kept) (Add b.rules b.birth ∷ rest)) (sym (drop_at now i b e))
      (subst (λ xs. AreDifferences i (b ∷ drop (suc i) now) xs (Add b.rules b.birth ∷ rest)) (sym (drop_end kept j f))
      (rest, refl, subst (λ xs. AreDifferences (suc i) (drop (suc i) now) xs rest) (drop_end kept j f) more)))))

  killed_by : (o : Option KeptRights) (k : KeptRights) (rest : List Change) → slice_get now i ≡ o → IsKilled o k → AreDifferences i (drop i now) (drop (suc j) kept) rest
      → AreDifferences i (drop i now) (k ∷ drop (suc j) kept) (Remove i ∷ rest)
  killed_by None k rest e is more =
      subst (λ xs. AreDifferences i xs (k ∷ drop (suc j) kept) (Remove i ∷ rest)) (sym (drop_end now i e))
      (rest, refl, subst (λ xs. AreDifferences i xs (drop (suc j) kept) rest) (drop_end now i e) more)
  killed_by (Some b) k rest e is more =
      subst (λ xs. AreDifferences i xs (k ∷ drop (suc j) kept) (Remove i ∷ rest)) (sym (drop_at now i b e))
      (inr (inr (is, (rest, refl, subst (λ xs. AreDifferences i xs (drop (suc j) kept) rest) (drop_at now i b e) more))))

  pub found_killed : (k : KeptRights) (ds : List Change) → slice_get kept j ≡ Some k → IsKilled (slice_get now i) k → ds ≡ cs ++ Remove i ∷ [] → AreFound now kept ds (Some (i, j + 1))
  found_killed k ds f is made = subst (λ n. AreFound now kept ds (Some (i, n))) (one_more j) (λ rest more.
      with_change (Remove i) ds made rest
      (far (Remove i ∷ rest)
      (subst (λ xs. AreDifferences i (drop i now) xs (Remove i ∷ rest)) (sym (drop_at kept j k f)) (killed_by (slice_get now i) k rest refl is more))))

-- HOW FAR THE WALK IS
pub less_both : (m n i j : ℕ) → i < m → j < n → suc ((m - (i + 1)) + (n - (j + 1))) < suc ((m - i) + (n - j))
less_both m n i j a b = omega (arith, a, b)

pub less_now : (m n i j : ℕ) → i < m → suc ((m - (i + 1)) + (n - j)) < suc ((m - i) + (n - j))
less_now m n i j a = omega (arith, a)

pub less_kept : (m n i j : ℕ) → j < n → suc ((m - i) + (n - (j + 1))) < suc ((m - i) + (n - j))
less_kept m n i j b = omega (arith, b)

pub further_both : (m n i j k l : ℕ) → i < m → j < n → k ≤ i + j → l ≤ k + 1 → (l ≤ i + 1 + (j + 1)) × (i + 1 ≤ m) × (j + 1 ≤ n)
further_both m n i j k l a b few is = (omega (arith, few, is), omega (arith, a), omega (arith, b))

pub further_now : (m n i j k l : ℕ) → i < m → j ≤ n → k ≤ i + j → l ≤ k + 1 → (l ≤ i + 1 + j) × (i + 1 ≤ m) × (j ≤ n)
further_now m n i j k l a b few is = (omega (arith, few, is), omega (arith, a), b)

pub further_kept : (m n i j k l : ℕ) → i ≤ m → j < n → k ≤ i + j → l ≤ k + 1 → (l ≤ i + (j + 1)) × (i ≤ m) × (j + 1 ≤ n)
further_kept m n i j k l a b few is = (omega (arith, few, is), a, omega (arith, b))

-- The rows that a journal keeps.
use Rattle.std.proofs.Common.{◌≡◌, ℕ, zero, suc, ◌+◌, ◌-◌, ◌<◌, ◌≤◌, length, arith, Bool, true, false, cond, List, [], ◌∷◌, ◌++◌, map, take, drop, Option, Some, None, refl, sym, ap, subst, ◌∙◌}
use Rattle.std.specs.Prelude.{IfSome, slice_get, slice_set}
use Rattle.mgs_journal.specs.Rows.{KeptRights, rules_in_rows}
use Rattle.mgs_laws.specs.Apart.{Rules}
use Rattle.mgs_model.specs.Names.{same_name}
use Rattle.mgs_keeper.specs.Mending.{given_at, given_from, owned_by}

-- there is one where its rights are
pub is_row : (rows : List KeptRights) (i : ℕ) (r : Rules) → Some r ≡ slice_get (rules_in_rows rows) i → i < length rows
is_row [] i r at = absurd cc
is_row (k ∷ rows) zero r at = omega arith
is_row (k ∷ rows) (suc i) r at = let e = is_row rows i r at in omega (arith, e)

pub is_no_row : (rows : List KeptRights) (i : ℕ) → None ≡ slice_get (rules_in_rows rows) i → length rows ≤ i
is_no_row [] i none = omega arith
is_no_row (k ∷ rows) zero none = absurd cc
is_no_row (k ∷ rows) (suc i) none = let e = is_no_row rows i none in omega (arith, e)

-- ONE USER'S BUFFERS ARE GIVEN TO ANOTHER
module _ (old new : List ℕ) where
  further : (m : Option KeptRights) (k : KeptRights) (rows : List KeptRights) (i : ℕ)
      → elim m [ None ↦ k ∷ rows | Some x ↦ slice_set (k ∷ rows) (suc i) (given_from old new x) ] ≡ k ∷ elim m [ None ↦ rows | Some x ↦ slice_set rows i (given_from old new x) ]
  further None k rows i = refl
  further (Some x) k rows i = refl

  past_one : (k : KeptRights) (rows : List KeptRights) (i : ℕ) → given_at old new (suc i) (k ∷ rows) ≡ k ∷ given_at old new i rows
  past_one k rows i = further (slice_get rows i) k rows i

  -- another owns the buffer
  pub not_given : (rows : List KeptRights) (i : ℕ) (b : Bool) → IfSome (slice_get (rules_in_rows rows) i) (λ r. b ≡ same_name r.owners.owner old) → b ≡ false
      → rows ≡ given_at old new i rows
  not_given [] i b is other = refl
  not_given (k ∷ rows) zero b is other =
      ap (λ (t : Bool). cond t (record { rules = owned_by new k.rules; birth = k.birth }) k ∷ rows) (sym (sym is ∙ other))
  not_given (k ∷ rows) (suc i) b is other = ap (λ (w : List KeptRights). k ∷ w) (not_given rows i b is other) ∙ sym (past_one k rows i)

  -- one more is done
  one_given : (rows : List KeptRights) (i : ℕ) → i < length rows
      → take (suc i) (given_at old new i rows) ++ map (given_from old new) (drop (suc i) (given_at old new i rows)) ≡ take i rows ++ map (given_from old new) (drop i rows)
  one_given [] i below = absurd (omega (arith, below))
  one_given (k ∷ rows) zero below = refl
  one_given (k ∷ rows) (suc i) below =
      ap (λ (w : List KeptRights). take (suc (suc i)) w ++ map (given_from old new) (drop (suc (suc i)) w)) (past_one k rows i)
      ∙ ap (λ (w : List KeptRights). k ∷ w) (one_given rows i (omega (arith, below)))

  pub next_given : (rows all last : List KeptRights) (i next : ℕ) → i < length rows → next ≡ i + 1 → last ≡ given_at old new i rows
      → take i rows ++ map (given_from old new) (drop i rows) ≡ map (given_from old new) all
      → take next last ++ map (given_from old new) (drop next last) ≡ map (given_from old new) all
  next_given rows all last i next below is made so =
      let after : suc i ≡ next = omega (arith, is) in
      subst (λ (j : ℕ). take j last ++ map (given_from old new) (drop j last) ≡ map (given_from old new) all) after
      (ap (λ (w : List KeptRights). take (suc i) w ++ map (given_from old new) (drop (suc i) w)) made ∙ one_given rows i below ∙ so)

  same_length : (rows : List KeptRights) (i : ℕ) → length (given_at old new i rows) ≡ length rows
  same_length [] i = refl
  same_length (k ∷ rows) zero = refl
  same_length (k ∷ rows) (suc i) = ap (λ (w : List KeptRights). length w) (past_one k rows i) ∙ ap suc (same_length rows i)

  -- so fewer are left
  pub fewer : (rows last : List KeptRights) (i next : ℕ) → i < length rows → next ≡ i + 1 → last ≡ given_at old new i rows → length last - next < length rows - i
  fewer rows last i next below is made =
      let e = ap (λ (w : List KeptRights). length w) made ∙ same_length rows i in omega (arith, e, below, is)

  all_done : (rows : List KeptRights) (i : ℕ) → length rows ≤ i → take i rows ++ map (given_from old new) (drop i rows) ≡ rows
  all_done [] zero over = refl
  all_done [] (suc i) over = refl
  all_done (k ∷ rows) zero over = absurd (omega (arith, over))
  all_done (k ∷ rows) (suc i) over = ap (λ (w : List KeptRights). k ∷ w) (all_done rows i (omega (arith, over)))

  -- none is left
  pub all_given : (rows all : List KeptRights) (i : ℕ) → length rows ≤ i → take i rows ++ map (given_from old new) (drop i rows) ≡ map (given_from old new) all
      → rows ≡ map (given_from old new) all
  all_given rows all i over so = sym (all_done rows i over) ∙ so

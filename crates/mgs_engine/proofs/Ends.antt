-- Sessions that ended and are to be told.
use Rattle.std.proofs.Common.{◌≡◌, ℕ, ◌+◌, ◌<◌, cond, List, length, drop, get_or, Some, ap, ◌∙◌}
use Rattle.std.specs.Prelude.{◌≢◌, find}
use Rattle.std.proofs.lemmas.Bool.{ne_eqb}
use Rattle.std.proofs.lemmas.List.{drop_more}
use Rattle.mgs_engine.specs.declared.session_end.Cause.{Cause}
use Rattle.mgs_engine.specs.Serving.{is_end_of}

-- one that is another's end is passed
pub past : (x i : ℕ) (xs : List (ℕ × Cause)) (d : ℕ × Cause) → i < length xs → (get_or xs i d).0 ≢ x → find (is_end_of x) (drop i xs) ≡ find (is_end_of x) (drop (i + 1) xs)
past x i xs d l other = ap (find (is_end_of x)) (drop_more xs i d l) ∙ ap (λ b. cond b (Some (get_or xs i d)) (find (is_end_of x) (drop (i + 1) xs))) (ne_eqb (get_or xs i d).0 x other)

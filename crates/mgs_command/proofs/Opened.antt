-- Standard streams are open.
use Rattle.std.proofs.Common.{◌+◌, ◌<◌, ◌≤◌, ℕ, Option, None, Some, arith}
use Rattle.std.specs.Prelude.{IfSome}
use Rattle.mgs_command.specs.Streams.{IsOpened}

-- what was opened lies above them: all are
pub opened_above : (number : ℕ) (old new : Option ℕ) → IsOpened number old new → 3 ≤ number → IfSome new (λ n. 3 ≤ n)
opened_above number None None opened above = tt
opened_above number None (Some n) opened above = absurd opened
opened_above number (Some old) None opened above = absurd opened
opened_above number (Some old) (Some n) opened above = let is = opened.0 in let same = opened.2 above in omega (arith, is, same, above)

-- one more is
pub opened_one : (number i : ℕ) (old new : Option ℕ) → IsOpened number old new → number < 3 → IfSome old (λ n. i ≤ n) → IfSome new (λ n. i + 1 ≤ n)
opened_one number i None None opened few above = tt
opened_one number i None (Some n) opened few above = absurd opened
opened_one number i (Some old) None opened few above = absurd opened
opened_one number i (Some old) (Some n) opened few above = let more = opened.1 few in omega (arith, more, above)

-- none need be open at first
pub none_open : (free : Option ℕ) → IfSome free (λ n. 0 ≤ n)
none_open None = tt
none_open (Some n) = omega arith

-- A queue of bytes in one block, which never grows: the first of its bytes were taken, the others wait.
use Rattle.std.specs.Prelude.{ℕ, ◌≡◌, ◌+◌, ◌*◌, ◌≤◌, Vec, length, vec_capacity}
use Rattle.mgs_model.specs.declared.limits.TheConstants.{QUEUE_LIMIT}

pub record IsByteQueue {Z : Type 0} (bytes : Vec ℕ Z) (taken : ℕ) : Type 0 where
  pub within : taken ≤ length bytes.items
  pub few : taken ≤ QUEUE_LIMIT
  pub limit : length bytes.items ≤ taken + QUEUE_LIMIT
  pub room : vec_capacity bytes ≡ 2 * QUEUE_LIMIT

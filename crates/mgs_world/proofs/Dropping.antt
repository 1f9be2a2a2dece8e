-- Marks of a list are given up, one element after another.
use Rattle.std.proofs.Common.{◌≡◌, ◌+◌, ◌≤◌, ℕ, List}
use Rattle.mgs_buffers.specs.MarkedBuffer.{MarkedBuffer}
use Rattle.mgs_world.specs.Worlds.{buffers_of}
use Rattle.mgs_world.specs.Sound.{in_use, sum_of}
use Rattle.mgs_world.specs.WindowMarks.{MarksStay}

-- what the elements still to come use is in use, and what was in use is either still or was theirs that went
pub record Dropping (m : List ℕ) (i : ℕ) (before now all left : ℕ) : Type 0 where
  pub used : left ≤ now
  pub gone : before + left ≡ now + all

pub record Gone {A : Type 0} (used : List ℕ → ℕ → A → ℕ) (first now : List MarkedBuffer) (all left : List A) : Type 0 where
  pub uses : (m : List ℕ) (i : ℕ) → Dropping m i (in_use m i first) (in_use m i now) (sum_of (used m i) all) (sum_of (used m i) left)
  pub buffers : buffers_of now ≡ buffers_of first
  pub stay : MarksStay first now

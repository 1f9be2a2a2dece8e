-- What holds of the fields of a block.
use Rattle.std.specs.Prelude.{ℕ, ◌≡◌, ◌+◌, ◌^◌, ◌<◌, List, Some, map, length, take, drop}
use denote.RawPtr.{count_of}
use Rattle.mgs_gap.specs.Places.{somes}
use Rattle.mgs_gap.specs.declared.block.Block.TheInside.{Inside}

unfoldable pub front_in : Inside → List ℕ
front_in b = somes (take b.before b.cells.slots)

unfoldable pub back_in : Inside → List ℕ
back_in b = somes (drop (b.before + b.gap) b.cells.slots)

pub record IsBlock (b : Inside) : Type 0 where
  pub owned : (b.right.at ≡ b.cells.at) × (b.right.len ≡ b.before + b.gap + b.after) × (b.right.alloc ≡ b.alloc)
  pub start : count_of b.cells.at ≡ 0
  pub front : take b.before b.cells.slots ≡ map Some (front_in b)
  pub back : drop (b.before + b.gap) b.cells.slots ≡ map Some (back_in b)
  pub sizes : (length b.cells.slots ≡ b.before + b.gap + b.after) × (b.before + b.gap + b.after < 2 ^ 61)

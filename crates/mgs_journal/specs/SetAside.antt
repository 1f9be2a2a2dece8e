-- MEMORY THAT IS SET ASIDE, in blocks.
use Rattle.std.specs.Prelude.{◌≡◌, ◌≤◌, ℕ, List, All, length, vec_capacity}
use Rattle.std.specs.Global.{Vec}
use Rattle.mgs_journal.specs.declared.room.TheConstants.{BLOCK}

-- how many blocks are to be set aside, and those that are
pub record SetAside : Type 0 where
  pub wanted : ℕ
  pub blocks : List (Vec ℕ)

-- each has room for so many bytes at least
abbrev pub AreBlocks : List (Vec ℕ) → Type 0
AreBlocks blocks = All (λ block. BLOCK ≤ vec_capacity block) blocks

-- each that is set aside is a block, and there are no more than are to be
pub record IsSetAside (room : SetAside) : Type 0 where
  pub each : AreBlocks room.blocks
  pub most : length room.blocks ≤ room.wanted

-- there are as many as are to be
abbrev pub IsAllSetAside : SetAside → Type 0
IsAllSetAside room = (length room.blocks ≡ room.wanted) × AreBlocks room.blocks

use Rattle.std.proofs.Common.{◌≤◌, ◌-◌, length}
use Rattle.mgs_journal.specs.SetAside.{AreBlocks}
use Rattle.mgs_journal.proofs.room.fill.Given as goal

-- what is there are blocks, no fewer than there were and no more than are to be
abbrev pub invariant-loop-alloc : goal.invariant-loop-alloc
invariant-loop-alloc l = AreBlocks l.blocks.items × (length l.initial.blocks.items ≤ length l.blocks.items) × (length l.blocks.items ≤ l.wanted)

-- the blocks that are not there yet
abbrev pub decreases-loop-alloc : goal.decreases-loop-alloc
decreases-loop-alloc l = l.wanted - length l.blocks.items

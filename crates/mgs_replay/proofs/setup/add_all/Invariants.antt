use Rattle.std.proofs.Common.{◌≡◌, map, take}
use Rattle.mgs_replay.specs.Setups.{drafted_buffer}
use Rattle.mgs_replay.proofs.setup.add_all.Given as goal

-- the drafts before the index are kept
abbrev pub invariant-loop-draft : goal.invariant-loop-draft
invariant-loop-draft g l = l.buffers ≡ map drafted_buffer (take l.draft-index l.drafts)

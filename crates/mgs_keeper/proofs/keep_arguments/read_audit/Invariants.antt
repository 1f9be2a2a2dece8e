use Rattle.std.proofs.Common.{length}
use Rattle.mgs_keeper.proofs.keep_arguments.read_audit.Given as goal

abbrev pub decreases-loop-option : goal.decreases-loop-option
decreases-loop-option l = length l.words.items

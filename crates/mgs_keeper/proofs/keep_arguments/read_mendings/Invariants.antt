use Rattle.std.proofs.Common.{length}
use Rattle.mgs_keeper.proofs.keep_arguments.read_mendings.Given as goal

abbrev pub decreases-loop-word : goal.decreases-loop-word
decreases-loop-word g l = length l.words.items

use Rattle.std.proofs.Common.{◌≡◌, ◌++◌}
use Rattle.mgs_keys.specs.Words.{words_of}
use Rattle.mgs_keys.proofs.Cuts.{length_left}
use Rattle.mgs_keys.proofs.Taken.{words_left}
use Rattle.mgs_script.proofs.WordByWord.{all_now}
use Rattle.mgs_script.proofs.word.words.Given as goal

-- the words so far and those of what is left are those of all
abbrev pub invariant-loop-left : goal.invariant-loop-left
invariant-loop-left l = all_now l.words.items ++ words_left l.left ≡ words_of l.fn.text

abbrev pub decreases-loop-left : goal.decreases-loop-left
decreases-loop-left l = length_left l.left

use Rattle.std.proofs.Common.{◌≡◌, ◌≤◌, ◌-◌, drop, length}
use Rattle.mgs_keep.specs.Sums.{summed}
use Rattle.mgs_keep.proofs.kept_texts.text_sum.Given as goal

abbrev pub invariant-loop-at : goal.invariant-loop-at
invariant-loop-at g l = record {
  within : l.at ≤ length (g.T.Text.text l.text);
  made : summed l.sum (drop l.at (g.T.Text.text l.text)) ≡ summed 0xcbf2_9ce4_8422_2325 (g.T.Text.text l.text);
}

abbrev pub decreases-loop-at : goal.decreases-loop-at
decreases-loop-at g l = length (g.T.Text.text l.text) - l.at

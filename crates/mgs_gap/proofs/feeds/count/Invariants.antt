use Rattle.std.proofs.Common.{◌≡◌, ◌≤◌, take}
use Rattle.std.specs.List.{count_by}
use Rattle.mgs_model.specs.Lines.{is_feed}
use Rattle.mgs_gap.proofs.feeds.count.Given as goal

abbrev pub invariant-loop-c : goal.invariant-loop-c
invariant-loop-c l = record { value : l.feeds ≡ count_by is_feed (take l.c-index l.chars); few : l.feeds ≤ l.c-index }

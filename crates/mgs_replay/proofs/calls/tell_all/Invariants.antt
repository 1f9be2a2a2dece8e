use Rattle.std.proofs.Common.{◌≡◌, ◌+◌, [], length, false, cond}
use Rattle.mgs_replay.proofs.calls.tell_all.Given as goal

-- nothing but what ended changes, and there is none more where none was told
abbrev pub invariant-loop-more : goal.invariant-loop-more
invariant-loop-more g l = record {
  same : l.server ≡ record l.fn.server { ended = l.server.ended };
  none : l.more ≡ false → l.server.ended ≡ [];
}

abbrev pub decreases-loop-more : goal.decreases-loop-more
decreases-loop-more g l = length l.server.ended + cond l.more 1 0

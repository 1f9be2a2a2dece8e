use Rattle.std.proofs.Common.{◌≡◌, length}
use Rattle.mgs_search.specs.Borders.{IsTail}
use Rattle.mgs_search.proofs.heads.tail_of.Given as goal

-- so many characters are taken
abbrev pub invariant-loop-t : goal.invariant-loop-t
invariant-loop-t l =
    record {
      count : length l.tail.items ≡ l.t;
      chars : IsTail l.pattern l.tail.items;
    }

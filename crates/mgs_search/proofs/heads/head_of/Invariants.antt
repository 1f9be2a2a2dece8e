use Rattle.std.proofs.Common.{◌≡◌, length}
use Rattle.mgs_search.specs.Borders.{IsHead}
use Rattle.mgs_search.proofs.heads.head_of.Given as goal

-- so many characters are taken
abbrev pub invariant-loop-t : goal.invariant-loop-t
invariant-loop-t l =
    record {
      count : length l.head.items ≡ l.t;
      chars : IsHead l.pattern l.head.items;
    }

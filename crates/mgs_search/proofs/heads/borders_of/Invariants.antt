use Rattle.std.proofs.Common.{◌≡◌, length}
use Rattle.mgs_search.specs.Borders.{IsRead, IsBorders, char_at}
use Rattle.mgs_search.proofs.heads.borders_of.Given as goal

-- the borders of fewer characters than n, and of n
abbrev pub invariant-loop-n : goal.invariant-loop-n
invariant-loop-n l =
    record {
      count : length l.borders.items ≡ l.n;
      borders : IsBorders l.head l.borders.items;
      read : IsRead l.head (char_at l.head) 1 l.n l.kept;
    }

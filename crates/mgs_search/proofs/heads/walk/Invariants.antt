use Rattle.std.proofs.Common.{◌≡◌, ◌<◌, ◌≤◌, ◌+◌, ◌-◌, ℕ, length}
use Rattle.mgs_search.specs.Borders.{IsRead, lower_at}
use Rattle.mgs_search.proofs.heads.walk.Given as goal

-- so many characters of the piece are read
abbrev pub invariant-loop-i : goal.invariant-loop-i
invariant-loop-i l =
    record {
      within : l.i ≤ length l.piece;
      below : l.stands < length l.borders;
      read : (text : ℕ → ℕ) (a j : ℕ) → IsRead l.head text a j l.q → ((t : ℕ) → t < length l.piece → text (j + t) ≡ lower_at l.piece t) → IsRead l.head text a (j + l.i) l.stands;
    }

abbrev pub decreases-loop-i : goal.decreases-loop-i
decreases-loop-i l = length l.piece - l.i

use Rattle.std.proofs.Common.{◌≡◌, ◌≤◌, ℕ}
use Rattle.mgs_search.specs.Borders.{IsRead}
use Rattle.mgs_search.proofs.Borders.{IsNear}
use Rattle.mgs_search.proofs.heads.step.Given as goal

-- k of the characters that stood are left
abbrev pub invariant-loop-k : goal.invariant-loop-k
invariant-loop-k l =
    record {
      within : l.k ≤ l.q;
      near : (text : ℕ → ℕ) (a i : ℕ) → IsRead l.head text a i l.q → text i ≡ l.c → IsNear l.head text a i l.k;
    }

abbrev pub decreases-loop-k : goal.decreases-loop-k
decreases-loop-k l = l.k

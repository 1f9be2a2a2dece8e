-- What several reads take together.
use Rattle.std.proofs.Common.{ℕ, ◌-◌, ◌≤◌, List, ◌++◌, length, Option, arith, length-append}
use Rattle.std.proofs.KnownBytes.{Consumes-trans}
use Rattle.std.specs.Io.KnownBytes.{Consumes}
use Rattle.mgs_replay.specs.Reads.{TakesAtMost}

pub takes_then : (a b c : Option (List ℕ)) (bytes : List ℕ) → Consumes a b bytes → length bytes ≤ 16777216 → TakesAtMost b c (16777217 - length bytes) → TakesAtMost a c 16777217
takes_then a b c bytes h short t = (bytes ++ t.0, Consumes-trans a b c bytes t.0 h t.1, omega (arith, length-append bytes t.0, t.2))

-- A stretch in another case is as long as before, so each place of the text stays one.
use Rattle.std.proofs.Common.{◌≡◌, ℕ, ◌-◌, ◌≤◌, List, length, arith}
use Rattle.std.specs.Prelude.{slice_range}
use Rattle.mgs_fill.specs.Rewriting.{cased, RewriteWithin}
use Rattle.mgs_fill.specs.declared.rewrite.Case.{Case}
use Rattle.mgs_fill.specs.declared.rewrite.Point.TheVariants.{To}
use Rattle.mgs_fill.specs.declared.rewrite.Written.TheVariants.{Cased}
use Rattle.mgs_fill.proofs.Lengths.{length_cased_range}

pub region_within : (text : List ℕ) (a b p : ℕ) (case : Case) → a ≤ b → b ≤ length text → p ≤ length text → RewriteWithin text (record { from = a; to = b; written = Cased case; point = To p })
region_within text a b p case order within place =
    let same : length (cased case (slice_range text a b)) ≡ b - a = length_cased_range case text a b order within in
    record { order = order; within = within; written = tt; point = omega (arith, same) }

-- A file that was read, or was not, against what is told of it.
use Rattle.std.proofs.Common.{◌≡◌, ℕ, ◌≤◌, refl, arith, List, length, Option, Some, None}
use Rattle.std.proofs.lemmas.Bool.Decides.{nat_tests}
use Rattle.mgs_config.specs.Files.{IsTold, told_fault}

-- a text that was read and is no longer than a text may be
pub told_none : (told : Option (Option (List ℕ))) (text : List ℕ) → IsTold told (Some text) → length text ≤ 1048576 → told_fault told ≡ None
told_none None text is few = refl
told_none (Some None) text is few = absurd (cc)
told_none (Some (Some known)) text is few = grind (arith, nat_tests)

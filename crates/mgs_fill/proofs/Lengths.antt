-- A stretch in another case is as long as before.
use Rattle.std.proofs.Common.{◌≡◌, ℕ, ◌-◌, ◌≤◌, Bool, true, List, [], ◌∷◌, length, drop, refl, ap, suc, ◌∙◌, arith, length-drop, length-take}
use Rattle.std.proofs.lemmas.List.{length-map}
use Rattle.std.specs.Prelude.{slice_range}
use Rattle.std.specs.Char.{to_ascii_lowercase, to_ascii_uppercase}
use Rattle.mgs_model.specs.Cases.{begins_word, capitalized_from}
use Rattle.mgs_fill.specs.Rewriting.{cased}
use Rattle.mgs_fill.specs.declared.rewrite.Case.{Case}
use Rattle.mgs_fill.specs.declared.rewrite.Case.TheVariants.{Upper, Lower, Capitalized}

pub length_range : (xs : List ℕ) (a b : ℕ) → a ≤ b → b ≤ length xs → length (slice_range xs a b) ≡ b - a
length_range xs a b h k = omega (arith, length-take (b - a) (drop a xs), length-drop a xs)

length_capitalized : (begins : Bool) (xs : List ℕ) → length (capitalized_from begins xs) ≡ length xs
length_capitalized begins [] = refl
length_capitalized begins (x ∷ xs) = ap suc (length_capitalized (begins_word begins x) xs)

length_cased : (case : Case) (xs : List ℕ) → length (cased case xs) ≡ length xs
length_cased Upper xs = length-map xs to_ascii_uppercase
length_cased Lower xs = length-map xs to_ascii_lowercase
length_cased Capitalized xs = length_capitalized true xs

pub length_cased_range : (case : Case) (xs : List ℕ) (a b : ℕ) → a ≤ b → b ≤ length xs → length (cased case (slice_range xs a b)) ≡ b - a
length_cased_range case xs a b h k = length_cased case (slice_range xs a b) ∙ length_range xs a b h k

-- What is known of a buffer that was looked up by its name.
use Rattle.std.proofs.Common.{◌≡◌, ℕ, List, Option, sym, subst}
use Rattle.std.specs.List.{position_or_len}
use Rattle.mgs_buffers.specs.declared.buffer.Buffer.{Buffer}
use Rattle.mgs_buffers.specs.MarkedBuffer.{MarkedBuffer, HasBuffer, marked_at, marked_named}
use Rattle.mgs_buffers.specs.Contents.{marked_of}
use Rattle.mgs_buffers.specs.Judging.{IsRuled, rules_kept}
use Rattle.mgs_buffers.specs.Found.{Named, IsFound}

-- it is found under the name that it is kept under
pub found_there : {T : Type 0} (text : T → List ℕ) (marks : T → List (Option ℕ)) (name kept : List ℕ) (all : List MarkedBuffer) (place : ℕ) (b : Buffer T) → kept ≡ name → HasBuffer name all
    → marked_of text marks name b ≡ marked_at name all → IsRuled place b.owners b.list (rules_kept all) → place ≡ position_or_len (marked_named name) all → IsFound text marks kept all place b
found_there text marks name kept all place b same there is ruled at = subst (λ (n : List ℕ). IsFound text marks n all place b) (sym same) (record { kept = there; is = is; there = ruled; at = at })

module _ {T : Type 0} (text : T → List ℕ) (marks : T → List (Option ℕ)) (name : List ℕ) (all : List MarkedBuffer) (place : ℕ) (b : Buffer T) (f : Named) (found : IsFound text marks name all place b) (view : ◌≡◌ {A = Named} (record { name = name; all = all }) f) where
  pub found_kept : HasBuffer f.name f.all
  found_kept = subst (λ (x : Named). HasBuffer x.name x.all) view found.kept

  pub found_is : marked_of text marks f.name b ≡ marked_at f.name f.all
  found_is = subst (λ (x : Named). marked_of text marks x.name b ≡ marked_at x.name x.all) view found.is

  pub found_ruled : IsRuled place b.owners b.list (rules_kept f.all)
  found_ruled = subst (λ (x : Named). IsRuled place b.owners b.list (rules_kept x.all)) view found.there

  pub found_at : place ≡ position_or_len (marked_named f.name) f.all
  found_at = subst (λ (x : Named). place ≡ position_or_len (marked_named x.name) x.all) view found.at

-- What names have in common.
use Rattle.std.proofs.Common.{◌≡◌, ℕ, List, Option, None, sym, subst}
use Rattle.std.specs.Prelude.{fold, IfSome}
use Rattle.mgs_model.specs.Completion.{candidates, completion}
use Rattle.mgs_mini.specs.Narrowing.{narrowed, IsCompletion}
use Rattle.mgs_mini.proofs.Completions.{completion_by_names, completion_is}

pub by_names : (input : List ℕ) (names : List (List ℕ)) → fold (narrowed input) None names ≡ completion names input
by_names input names = completion_by_names input names

pub is_completion : (names : List (List ℕ)) (input : List ℕ) (found : Option (List ℕ)) → found ≡ completion names input → IfSome found (IsCompletion (candidates names input) input)
is_completion names input found is = subst (λ (o : Option (List ℕ)). IfSome o (IsCompletion (candidates names input) input)) (sym is) (completion_is names input)

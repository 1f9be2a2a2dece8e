-- A search that failed and is remembered.
use Rattle.std.proofs.Common.{◌≡◌, ℕ, Bool, true, List, length, take, drop, Option, sym, ap, subst, ◌∙◌}
use Rattle.std.specs.Prelude.{nat_eq}
use Rattle.std.specs.Cmp.Lexicographic.{pointwise}
use Rattle.std.proofs.lemmas.Bool.Decides.{Decides-eqb}
use Rattle.std.proofs.lemmas.Slice.Eq.{starts_is}
use Rattle.mgs_model.specs.Searching.{match_from}
use Rattle.mgs_model.specs.declared.search.Direction.{Direction}
use Rattle.mgs_search.proofs.Failures.{fails_longer}
use Rattle.mgs_buffers.specs.Searched.{Fails, HasFailed}
use Rattle.mgs_buffers.specs.declared.searched_text.FailedSearch.{FailedSearch}

-- what begins with a pattern that fails
pub prefix_fails : (known pattern text : List ℕ) (d : Direction) (p : ℕ) (r : Bool) → r ≡ pointwise nat_eq known (take (length known) pattern) → r ≡ true → Fails d known text p
    → Fails d pattern text p
prefix_fails known pattern text d p r e is none =
    ap (λ chars. match_from d chars text p) ((starts_is Decides-eqb pattern known r e).0 is) ∙ fails_longer d known (drop (length known) pattern) text p none

-- in a text that stayed
pub still_failed : (old new : List ℕ) (f : Option FailedSearch) → new ≡ old → HasFailed old f → HasFailed new f
still_failed old new f same known = subst (λ text. HasFailed text f) (sym same) known

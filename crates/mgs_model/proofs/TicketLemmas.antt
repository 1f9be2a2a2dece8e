-- The name that a ticket is for.
use Rattle.std.proofs.Common.{◌≡◌, ℕ, List, refl, Bool, true, false}
use Rattle.std.specs.Prelude.{None}
use Rattle.mgs_model.specs.Names.{is_user_name, IsName}
use Rattle.mgs_model.specs.Tickets.{user_name_in}
use Rattle.mgs_model.proofs.NameLemmas.{is_name-user_name}

by_test : (bs : List ℕ) (b : Bool) → is_user_name bs ≡ b → (IsName bs → ⊥) → user_name_in bs ≡ None
by_test bs true is not_name = absurd (not_name (is_name-user_name bs is))
by_test bs false is not_name = rw is

-- what is no name is no user's name
pub no_user_name : (bs : List ℕ) → (IsName bs → ⊥) → user_name_in bs ≡ None
no_user_name bs not_name = by_test bs (is_user_name bs) refl not_name

-- WHAT IS KEPT OF A BUFFER, by its name.
use Rattle.std.specs.Prelude.{ℕ, Bool, List, Option, None, Some, position, remove}
use Rattle.mgs_model.specs.Names.{same_name}
use Rattle.mgs_laws.specs.Apart.{Rules}

abbrev pub is_of : List ℕ → Rules → Bool
is_of name r = same_name name r.name

-- the place of the first buffer of that name
abbrev pub place_of : List ℕ → List Rules → Option ℕ
place_of name kept = position (is_of name) kept

-- what is at a place goes, if it is one
abbrev pub without : {A : Type 0} → Option ℕ → List A → List A
without None all = all
without (Some i) all = remove all i

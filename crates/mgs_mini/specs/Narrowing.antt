-- COMPLETION as it is worked out: over the buffers themselves, name by name, and what it is for.
use Rattle.std.specs.Prelude.{ℕ, nat_le, List, map, filter, length, IsTrue, Option, None, Some, cond}
use Rattle.std.specs.List.{list_all}
use Rattle.mgs_model.specs.Access.{Directory}
use Rattle.mgs_model.specs.Keys.{begins_with}
use Rattle.mgs_model.specs.World.{Buffer, may}
use Rattle.mgs_model.specs.Completion.{common}
use Rattle.mgs_model.specs.declared.right.Right.TheVariants.{ReadAttributes}

-- the names of the buffers that a user may see
abbrev pub granted_names : Directory → List ℕ → List Buffer → List (List ℕ)
granted_names directory user buffers = map (λ (b : Buffer). b.name) (filter (may directory user ReadAttributes) buffers)

-- NAME BY NAME

-- what the names so far have in common, where one begins with what was typed, and one more
abbrev pub joined : Option (List ℕ) → List ℕ → List ℕ
joined None name = name
joined (Some text) name = common text name

abbrev pub narrowed : List ℕ → Option (List ℕ) → List ℕ → Option (List ℕ)
narrowed input found name = cond (begins_with name input) (Some (joined found name)) found

-- LAWS

abbrev pub AllBegin : List (List ℕ) → List ℕ → Type 0
AllBegin names text = IsTrue (list_all (λ name. begins_with name text) names)

-- it goes on from what was typed; all candidates begin with it, and with nothing longer
pub record IsCompletion (candidates : List (List ℕ)) (input text : List ℕ) : Type 0 where
  pub goes_on : IsTrue (begins_with text input)
  pub begins : AllBegin candidates text
  pub longest : (other : List ℕ) → AllBegin candidates other → IsTrue (begins_with text other)
  pub within : IsTrue (list_all (λ name. nat_le (length text) (length name)) candidates)

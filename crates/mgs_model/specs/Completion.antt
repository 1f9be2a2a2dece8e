-- COMPLETION: what a TAB makes of what was typed in a prompt.
use Rattle.std.specs.Prelude.{ℕ, ◌==◌, List, [], ◌∷◌, map, filter, take, fold, Option, None, Some}
use Rattle.std.specs.List.{common_prefix_len}
use Rattle.mgs_model.specs.Keys.{begins_with}
use Rattle.mgs_model.specs.View.{View, BufferSeen, is_granted}
use Rattle.mgs_model.specs.declared.right.Right.TheVariants.{ReadAttributes}

-- the names that begin with what was typed
abbrev pub candidates : List (List ℕ) → List ℕ → List (List ℕ)
candidates names input = filter (λ name. begins_with name input) names

-- the longest text with which two begin
abbrev pub common : List ℕ → List ℕ → List ℕ
common a b = take (common_prefix_len (λ x y. x == y) a b) a

-- the longest text with which all begin; None where there is none
abbrev pub common_of : List (List ℕ) → Option (List ℕ)
common_of [] = None
common_of (name ∷ names) = Some (fold common name names)

-- what was typed becomes this; None where no name begins with it
abbrev pub completion : List (List ℕ) → List ℕ → Option (List ℕ)
completion names input = common_of (candidates names input)

-- the names of the buffers that the user may see
abbrev pub shown_names : View → List (List ℕ)
shown_names v = map (λ (b : BufferSeen). b.name) (filter (λ (b : BufferSeen). is_granted b ReadAttributes) v.buffers)

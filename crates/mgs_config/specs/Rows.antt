-- How the tables of a configuration are read.
use Rattle.std.specs.Prelude.{ℕ, Bool, true, false, ◌&&◌, List, [], ◌∷◌, map, codes, Option, Some, None, is_some, if◌then◌else◌}
use Rattle.std.specs.Option.{option_map, option_and_then, unwrap_or}
use Rattle.std.specs.List.{list_all}
use Rattle.toml.specs.Data.{Data, table, Items, no_items, item, Members, no_members, member, get, as_str, as_array}
use Rattle.mgs_model.specs.Access.{is_among}

-- the values of an array
abbrev pub data_in : Items → List Data
data_in no_items = []
data_in (item d ds) = d ∷ data_in ds

abbrev pub are_keys : List (List ℕ) → Members → Bool
are_keys keys no_members = true
are_keys keys (member key d ms) = is_among key keys && are_keys keys ms

-- it is a table with no other keys than these
abbrev pub has_only : List (List ℕ) → Data → Bool
has_only keys (table ms) = are_keys keys ms
has_only keys _ = false

-- the string at a key
abbrev pub text_at : List ℕ → Data → Option (List ℕ)
text_at key row = option_and_then as_str (get key row)

abbrev pub is_text : Data → Bool
is_text d = is_some (as_str d)

abbrev pub text_of : Data → List ℕ
text_of d = unwrap_or (as_str d) []

-- the strings of a list that holds nothing else
abbrev pub texts_in : List Data → Option (List (List ℕ))
texts_in ds = if list_all is_text ds then Some (map text_of ds) else None

-- the values of the array at a key
abbrev pub values_at : List ℕ → Data → Option (List Data)
values_at key row = option_map data_in (option_and_then as_array (get key row))

-- the list of strings at a key
abbrev pub texts_at : List ℕ → Data → Option (List (List ℕ))
texts_at key row = option_and_then texts_in (values_at key row)

-- both, where both are there
abbrev pub both : {A B : Type 0} → Option A → Option B → Option (A × B)
both (Some a) (Some b) = Some (a, b)
both _ _ = None

-- a user's name and ticket
abbrev pub user_row : Data → Option (List ℕ × List ℕ)
user_row row =
    if has_only (codes "name" ∷ codes "ticket" ∷ []) row then both (text_at (codes "name") row) (text_at (codes "ticket") row)
    else None

-- a group's name and members
abbrev pub group_row : Data → Option (List ℕ × List (List ℕ))
group_row row =
    if has_only (codes "name" ∷ codes "members" ∷ []) row then both (text_at (codes "name") row) (texts_at (codes "members") row)
    else None

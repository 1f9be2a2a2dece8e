-- Who is among users, and in a group.
use Rattle.std.specs.Prelude.{ℕ, Bool, ◌&&◌, List}
use Rattle.std.specs.List.{list_all}
use Rattle.mgs_model.specs.Names.{same_name}
use Rattle.mgs_model.specs.Access.{UserGroup, is_among}

-- it is the group of this name, and the user is in it
abbrev pub has_member : List ℕ → List ℕ → UserGroup → Bool
has_member group user g = same_name group g.name && is_among user g.members

-- all of these are users
abbrev pub are_users : List (List ℕ) → List (List ℕ) → Bool
are_users users members = list_all (λ member. is_among member users) members

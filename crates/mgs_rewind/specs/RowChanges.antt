-- What one event does to the rights that the events before it tell.
use Rattle.std.specs.Prelude.{ℕ, Bool, true, not, ◌||◌, ◌==◌, List, [], ◌∷◌, ◌++◌, Option, None, Some, length, position, remove, slice_get, is_some, bytes_eq, option_map, option_and_then, if◌then◌else◌}
use Rattle.std.specs.List.{before_first, after_first}
use Rattle.std.specs.Prelude.{slice_set}
use Rattle.mgs_rewind.specs.Details.{is_colon, is_space, new_text}
use Rattle.mgs_rewind.specs.ListChanges.{list_told}
use Rattle.mgs_rewind.specs.declared.part.Part.{Part}
use Rattle.mgs_rewind.specs.declared.part.Part.TheVariants as part

-- the rights of a buffer as its events tell them. They are not known if the list is empty.
pub record ToldRights : Type 0 where
  pub name : List ℕ
  pub owner : List ℕ
  pub group : List ℕ
  pub list : List ℕ

abbrev pub is_known : ToldRights → Bool
is_known r = not (length r.list == 0)

-- what stands after the first colon
abbrev pub after_colon : List ℕ → List ℕ
after_colon detail = after_first is_colon detail

-- OWNER:GROUP LIST: the owner before the first colon, the group between it and the next space, and the list after that space
abbrev pub rights_in : List ℕ → List ℕ → ToldRights
rights_in name detail =
    record { name = name; owner = before_first is_colon detail; group = before_first is_space (after_colon detail); list = after_first is_space (after_colon detail) }

abbrev pub is_row_of : List ℕ → ToldRights → Bool
is_row_of name row = bytes_eq name row.name

-- the index of the first row of a name
abbrev pub row_place : List ℕ → List ToldRights → Option ℕ
row_place name rows = position (is_row_of name) rows

-- a buffer is created: its row is the last one. No row may have its name.
abbrev pub row_added : ToldRights → List ToldRights → Option (List ToldRights)
row_added row rows = if is_some (row_place row.name rows) then None else Some (rows ++ row ∷ [])

-- `create`: an empty detail tells no rights
abbrev pub rows_created : List ℕ → List ℕ → List ToldRights → Option (List ToldRights)
rows_created name detail rows = if length detail == 0 || is_known (rights_in name detail) then row_added (rights_in name detail) rows else None

-- whether the row at an index, if there is one, is known
abbrev pub is_known_in : Option ToldRights → Bool
is_known_in None = true
is_known_in (Some row) = is_known row

-- a row takes the place of one that is not known, or is the last one if there is none
abbrev pub row_stated_at : Option ℕ → ToldRights → List ToldRights → Option (List ToldRights)
row_stated_at None row rows = Some (rows ++ row ∷ [])
row_stated_at (Some i) row rows = if is_known_in (slice_get rows i) then None else Some (slice_set rows i row)

abbrev pub row_stated : ToldRights → List ToldRights → Option (List ToldRights)
row_stated row rows = row_stated_at (row_place row.name rows) row rows

-- `is`: the detail must tell rights
abbrev pub rows_stated : List ℕ → List ℕ → List ToldRights → Option (List ToldRights)
rows_stated name detail rows = if is_known (rights_in name detail) then row_stated (rights_in name detail) rows else None

-- the rows without that at an index, if there is one
abbrev pub rows_without : Option ℕ → List ToldRights → List ToldRights
rows_without None rows = rows
rows_without (Some i) rows = remove rows i

-- `kill`: the first row of the name is removed, if there is one
abbrev pub rows_killed : List ℕ → List ToldRights → List ToldRights
rows_killed name rows = rows_without (row_place name rows) rows

abbrev pub part_text : Part → ToldRights → List ℕ
part_text part.Owner row = row.owner
part_text part.Group row = row.group
part_text part.List row = row.list

abbrev pub with_part : Part → List ℕ → ToldRights → ToldRights
with_part part.Owner text row = record { name = row.name; owner = text; group = row.group; list = row.list }
with_part part.Group text row = record { name = row.name; owner = row.owner; group = text; list = row.list }
with_part part.List text row = record { name = row.name; owner = row.owner; group = row.group; list = text }

-- a list is never empty
abbrev pub can_be : Part → List ℕ → Bool
can_be part.Owner text = true
can_be part.Group text = true
can_be part.List text = not (length text == 0)

abbrev pub part_if_allowed : Part → Option (List ℕ) → Option (List ℕ)
part_if_allowed p None = None
part_if_allowed p (Some text) = if can_be p text then Some text else None

-- what the detail of an event makes of a part, if it fits it
abbrev pub told_part : Part → List ℕ → List ℕ → Option (List ℕ)
told_part part.Owner text detail = new_text text detail
told_part part.Group text detail = new_text text detail
told_part part.List text detail = list_told text detail

-- what a part of a row becomes, if the detail fits what it is
abbrev pub new_part : Part → List ℕ → ToldRights → Option (List ℕ)
new_part p detail row = part_if_allowed p (told_part p (part_text p row) detail)

-- a part of the row at an index is another text. A row that is not known stays as it is.
abbrev pub row_changed : Part → List ℕ → ℕ → List ToldRights → ToldRights → Option (List ToldRights)
row_changed p detail i rows row =
    if is_known row then option_map (λ text. slice_set rows i (with_part p text row)) (new_part p detail row) else Some rows

abbrev pub row_changed_at : Part → List ℕ → Option ℕ → List ToldRights → Option (List ToldRights)
row_changed_at p detail None rows = None
row_changed_at p detail (Some i) rows = option_and_then (row_changed p detail i rows) (slice_get rows i)

-- `list`, `owner`, `group`: there must be a row of the name
abbrev pub rows_changed : Part → List ℕ → List ℕ → List ToldRights → Option (List ToldRights)
rows_changed p name detail rows = row_changed_at p detail (row_place name rows) rows

-- Which names users took, by what the events tell.
use Rattle.std.specs.Prelude.{ℕ, ℤ, Bool, true, not, ◌&&◌, ◌||◌, ◌==◌, length, List, [], ◌∷◌, ◌++◌, filter, fold, codes, string_bytes, if◌then◌else◌}
use Rattle.std.specs.Str.{bytes_eq}
use Rattle.mgs_model.specs.Names.{is_name, same_name}
use Rattle.mgs_tables.specs.declared.rows.Event.{Event}

-- a name is taken by a user, or free again
abbrev pub noted : List ℕ → Bool → List (List ℕ) → List (List ℕ)
noted name by_user names = if by_user then filter (λ other. not (same_name name other)) names ++ name ∷ [] else filter (λ other. not (same_name name other)) names

abbrev pub is_word : List ℕ → List ℕ → Bool
is_word a b = bytes_eq a b

-- a file that follows another tells which names are taken
abbrev pub tells_taken : List ℕ → List ℕ → Bool
tells_taken what name = is_word what (codes "taken") && is_name name

-- a user takes a name by making or killing a buffer, and nobody, who has the empty name, frees it so
abbrev pub event_noted : List (List ℕ) → Event → List (List ℕ)
event_noted names event =
    let what = string_bytes event.what in
    let name = string_bytes event.buffer in
    if tells_taken what name then noted name true names
    else if (is_word what (codes "create") || is_word what (codes "kill")) && is_name name then noted name (not (length (string_bytes event.user) == 0)) names else names

-- the events of a page, in their order
abbrev pub page_noted : List (List ℕ) → List Event → List (List ℕ)
page_noted names events = fold event_noted names events

-- the events of all pages
abbrev pub all_noted : List (List ℕ) → List (List Event) → List (List ℕ)
all_noted names [] = names
all_noted names (page ∷ pages) = all_noted (page_noted names page) pages

-- the number of the last event of a page, or the one before it if the page is empty
abbrev pub last_number : ℤ → List Event → ℤ
last_number last [] = last
last_number last (e ∷ es) = last_number e.number es

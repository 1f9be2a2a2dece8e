-- Worked events, computed by the definitions.
use Rattle.std.proofs.Common.{◌≡◌, ℕ, List, [], ◌∷◌, Some, None, refl, pos, true, false, arith}
use Rattle.std.specs.Prelude.{codes, decimal}
use Rattle.std.proofs.lemmas.Fmt.{decimal_digit}
use Rattle.mgs_rewind.specs.Account.{is_next, rows_told, wrong_after}
use Rattle.mgs_rewind.specs.RowChanges.{ToldRights}

abbrev notes : List ℕ
notes = codes "notes"

abbrev row : List ℕ → List ℕ → List ℕ → ToldRights
row owner group list = record { name = notes; owner = owner; group = group; list = list }

abbrev anns : ToldRights
anns = row (codes "ann") [] (codes "ALLOW ann rw; DENY bob r")

-- a row whose rights are not known
abbrev unknown : ToldRights
unknown = row [] [] []

one : decimal 1 ≡ codes "1"
one = decimal_digit 1 (omega arith)

two : decimal 2 ≡ codes "2"
two = decimal_digit 2 (omega arith)

three : decimal 3 ≡ codes "3"
three = decimal_digit 3 (omega arith)

create_first : rows_told (codes "create") notes (codes "ann: ALLOW ann rw; DENY bob r") [] ≡ Some (anns ∷ [])
create_first = refl

create_with_group : rows_told (codes "create") notes (codes "ann:staff -") [] ≡ Some (row (codes "ann") (codes "staff") (codes "-") ∷ [])
create_with_group = refl

create_twice : rows_told (codes "create") notes (codes "ann: -") (anns ∷ []) ≡ None
create_twice = refl

create_without_detail : rows_told (codes "create") notes [] [] ≡ Some (unknown ∷ [])
create_without_detail = refl

create_without_list : rows_told (codes "create") notes (codes "ann:staff ") [] ≡ None
create_without_list = refl

create_without_space : rows_told (codes "create") notes (codes "ann:staff") [] ≡ None
create_without_space = refl

create_without_colon : rows_told (codes "create") notes (codes "ann -") [] ≡ None
create_without_colon = refl

is_of_unknown : rows_told (codes "is") notes (codes "ann: ALLOW ann rw; DENY bob r") (unknown ∷ []) ≡ Some (anns ∷ [])
is_of_unknown = refl

is_without_row : rows_told (codes "is") notes (codes "ann: ALLOW ann rw; DENY bob r") [] ≡ Some (anns ∷ [])
is_without_row = refl

is_of_known : rows_told (codes "is") notes (codes "ann: -") (anns ∷ []) ≡ None
is_of_known = refl

is_without_detail : rows_told (codes "is") notes [] (unknown ∷ []) ≡ None
is_without_detail = refl

kill_row : rows_told (codes "kill") notes [] (anns ∷ []) ≡ Some []
kill_row = refl

kill_without_row : rows_told (codes "kill") (codes "plans") [] (anns ∷ []) ≡ Some (anns ∷ [])
kill_without_row = refl

list_change : rows_told (codes "list") notes (codes "ALLOW ann rw; DENY bob r -> -") (anns ∷ []) ≡ Some (row (codes "ann") [] (codes "-") ∷ [])
list_change = rw (one, two, three) refl

list_of_other : rows_told (codes "list") notes (codes "ALLOW ann rw -> -") (anns ∷ []) ≡ None
list_of_other = rw (one, two, three) refl

list_to_nothing : rows_told (codes "list") notes (codes "ALLOW ann rw; DENY bob r -> ") (anns ∷ []) ≡ None
list_to_nothing = rw (one, two, three) refl

list_entry : rows_told (codes "list") notes (codes "2: DENY bob r -> ALLOW bob r; DENY cat w") (anns ∷ []) ≡ Some (row (codes "ann") [] (codes "ALLOW ann rw; ALLOW bob r; DENY cat w") ∷ [])
list_entry = rw (one, two) refl

list_first : rows_told (codes "list") notes (codes "1: ALLOW ann rw -> -") (anns ∷ []) ≡ Some (row (codes "ann") [] (codes "DENY bob r") ∷ [])
list_first = rw one refl

list_end : rows_told (codes "list") notes (codes "3: - -> ALLOW cat r") (anns ∷ []) ≡ Some (row (codes "ann") [] (codes "ALLOW ann rw; DENY bob r; ALLOW cat r") ∷ [])
list_end = rw (one, two, three) refl

list_all : rows_told (codes "list") notes (codes "1: ALLOW ann rw; DENY bob r -> -") (anns ∷ []) ≡ Some (row (codes "ann") [] (codes "-") ∷ [])
list_all = rw one refl

list_other_entry : rows_told (codes "list") notes (codes "1: DENY bob r -> -") (anns ∷ []) ≡ None
list_other_entry = rw one refl

list_past_end : rows_told (codes "list") notes (codes "4: - -> ALLOW cat r") (anns ∷ []) ≡ None
list_past_end = rw (one, two, three) refl

list_of_unknown : rows_told (codes "list") notes (codes "- -> ALLOW bob r") (unknown ∷ []) ≡ Some (unknown ∷ [])
list_of_unknown = refl

list_without_row : rows_told (codes "list") notes (codes "- -> ALLOW bob r") [] ≡ None
list_without_row = refl

owner_change : rows_told (codes "owner") notes (codes "ann -> bob") (anns ∷ []) ≡ Some (row (codes "bob") [] (codes "ALLOW ann rw; DENY bob r") ∷ [])
owner_change = refl

group_from_none : rows_told (codes "group") notes (codes " -> staff") (anns ∷ []) ≡ Some (row (codes "ann") (codes "staff") (codes "ALLOW ann rw; DENY bob r") ∷ [])
group_from_none = refl

group_to_none : rows_told (codes "group") notes (codes "staff -> ") (row (codes "ann") (codes "staff") (codes "-") ∷ []) ≡ Some (row (codes "ann") [] (codes "-") ∷ [])
group_to_none = refl

other_event : rows_told (codes "denied") notes (codes "ann: -") (anns ∷ []) ≡ Some (anns ∷ [])
other_event = refl

next_number : is_next (pos 6) (codes "list") (pos 7) ≡ true
next_number = refl

number_gap : is_next (pos 6) (codes "list") (pos 8) ≡ false
number_gap = refl

same_number : is_next (pos 6) (codes "list") (pos 6) ≡ false
same_number = refl

first_of_a_file : is_next (pos 0) (codes "file") (pos 812) ≡ true
first_of_a_file = refl

file_in_between : is_next (pos 6) (codes "file") (pos 812) ≡ false
file_in_between = refl

first_of_all : is_next (pos 0) (codes "is") (pos 812) ≡ false
first_of_all = refl

first_wrong : wrong_after (Some (pos 3)) false (pos 7) ≡ Some (pos 3)
first_wrong = refl

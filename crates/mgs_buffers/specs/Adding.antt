-- Why a buffer is not added.
use Rattle.std.specs.Prelude.{◌≡◌, ℕ, nat_le, nat_lt, not, Bool, ◌&&◌, List, length, Option, Some, None, Result, Ok, Err, if◌then◌else◌}
use Rattle.mgs_model.specs.Names.{is_group_or_none, is_name, is_user_name}
use Rattle.mgs_model.specs.Access.{owners_of}
use Rattle.mgs_model.specs.declared.owners.Owners.{Owners}
use Rattle.mgs_model.specs.declared.entry.Entry.{Entry}
use Rattle.mgs_laws.specs.Apart.{Rules}
use Rattle.mgs_buffers.specs.MarkedBuffer.{MarkedBuffer, has_buffer, marked_new, marked_restored}
use Rattle.mgs_buffers.specs.declared.refusals.AddFault.{AddFault}
use Rattle.mgs_buffers.specs.declared.refusals.AddFault.TheVariants.{Name, Twice, Full, Long, Short}

-- these have the form of a buffer's name, of a user's, and of a group's where there is one
abbrev pub are_names : List ℕ → List ℕ → Option (List ℕ) → Bool
are_names name owner group = is_name name && (is_user_name owner && is_group_or_none group)

-- why a buffer of this name, owner, group and size must not be added
abbrev pub add_fault : List ℕ → List ℕ → Option (List ℕ) → ℕ → List MarkedBuffer → Option AddFault
add_fault name owner group size ks =
    if not (are_names name owner group) then Some Name
    else if has_buffer name ks then Some Twice
    else if nat_le 256 (length ks) then Some Full
    else if nat_lt 1048576 size then Some Long
    else None

-- the buffer that is added: no edit of it is recorded, and it has no marks
abbrev pub marked_added : List ℕ → List ℕ → Option (List ℕ) → List Entry → List ℕ → Bool → MarkedBuffer
marked_added name owner group entries text file = marked_new name (owners_of owner group) entries text file

-- the buffer that comes back where these rules were kept
abbrev pub kept_buffer : Rules → List ℕ → Bool → Bool → MarkedBuffer
kept_buffer rules text file modified = marked_restored rules.name rules.owners rules.entries text file modified

-- each fault exactly where it is due, and out of memory only where none is
abbrev pub IsAddDue : AddFault → Option AddFault → Type 0
IsAddDue Short due = due ≡ None
IsAddDue Name due = due ≡ Some Name
IsAddDue Twice due = due ≡ Some Twice
IsAddDue Full due = due ≡ Some Full
IsAddDue Long due = due ≡ Some Long

-- what is answered
abbrev pub AddAnswers : Result (Unit {0}) AddFault → Option AddFault → Type 0
AddAnswers (Ok done) due = due ≡ None
AddAnswers (Err fault) due = IsAddDue fault due

-- what is answered where a buffer is checked and not yet added: its name and its owners
abbrev pub NamesToAdd : Result (List ℕ × Owners) AddFault → List ℕ → List ℕ → Option (List ℕ) → ℕ → List MarkedBuffer → Type 0
NamesToAdd (Ok names) name owner group size ks = (names ≡ (name, owners_of owner group)) × (add_fault name owner group size ks ≡ None)
NamesToAdd (Err fault) name owner group size ks = IsAddDue fault (add_fault name owner group size ks)

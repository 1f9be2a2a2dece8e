-- What adding a user or a group does to a directory.
use Rattle.std.specs.Prelude.{◌≡◌, ℕ, nat_le, not, List, [], ◌∷◌, ◌++◌, length, Option, Some, None, Result, Ok, Err, if◌then◌else◌}
use Rattle.mgs_model.specs.declared.limits.TheConstants.{USER_LIMIT, GROUP_LIMIT}
use Rattle.mgs_model.specs.Names.{is_user_name}
use Rattle.mgs_model.specs.Access.{Directory, is_among, is_group_named}
use Rattle.mgs_policy.specs.Groups.{are_users}
use Rattle.mgs_policy.specs.declared.directory.DirectoryFault.{DirectoryFault}
use Rattle.mgs_policy.specs.declared.directory.DirectoryFault.TheVariants.{Name, Twice, Unknown, Full, Short}

-- why a user of this name must not be added
abbrev pub user_fault : Directory → List ℕ → Option DirectoryFault
user_fault directory name =
    if not (is_user_name name) then Some Name
    else if is_among name directory.users then Some Twice
    else if nat_le USER_LIMIT (length directory.users) then Some Full
    else None

-- the directory with one more user, who is its last
abbrev pub with_user : Directory → List ℕ → Directory
with_user directory name = record directory { users = directory.users ++ name ∷ [] }

-- why a group of this name and these members must not be added
abbrev pub group_fault : Directory → List ℕ → List (List ℕ) → Option DirectoryFault
group_fault directory name members =
    if not (is_user_name name) then Some Name
    else if is_group_named name directory.groups then Some Twice
    else if not (are_users directory.users members) then Some Unknown
    else if nat_le GROUP_LIMIT (length directory.groups) then Some Full
    else None

-- the directory with one more group, which is its last
abbrev pub with_group : Directory → List ℕ → List (List ℕ) → Directory
with_group directory name members = record directory { groups = directory.groups ++ record { name = name; members = members } ∷ [] }

-- what is answered: each fault exactly where it is due, and out of memory only where none is
abbrev pub DirectoryAnswers : Result (Unit {0}) DirectoryFault → Option DirectoryFault → Type 0
DirectoryAnswers (Ok done) due = due ≡ None
DirectoryAnswers (Err Short) due = due ≡ None
DirectoryAnswers (Err Name) due = due ≡ Some Name
DirectoryAnswers (Err Twice) due = due ≡ Some Twice
DirectoryAnswers (Err Unknown) due = due ≡ Some Unknown
DirectoryAnswers (Err Full) due = due ≡ Some Full

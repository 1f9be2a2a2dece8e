-- What is answered where a user changes the access list or the owners of a buffer: that there is one is judged first, then the rights.
use Rattle.std.specs.Prelude.{◌≡◌, ◌≢◌, ℕ, ◌<◌, ◌≤◌, Bool, true, false, List, Option, None, Some, Result, Ok, Err}
use Rattle.std.specs.Prelude.{insert, remove, slice_set, length}
use Rattle.mgs_model.specs.Access.{Directory, is_among, is_group_named}
use Rattle.mgs_model.specs.declared.entry.Decision.{Decision}
use Rattle.mgs_model.specs.declared.entry.Decision.TheVariants.{Granted}
use Rattle.mgs_model.specs.declared.entry.Entry.{Entry}
use Rattle.mgs_acl.specs.declared.list.ListFault.{ListFault}
use Rattle.mgs_acl.specs.declared.list.ListFault.TheVariants.{Full, NoSuchEntry}
use Rattle.mgs_buffers.specs.declared.refusals.EntriesFault.{EntriesFault}
use Rattle.mgs_buffers.specs.declared.refusals.EntriesFault.TheVariants as entries
use Rattle.mgs_buffers.specs.declared.refusals.OwnersFault.{OwnersFault}
use Rattle.mgs_buffers.specs.declared.refusals.OwnersFault.TheVariants as owners
use Rattle.mgs_model.specs.Apply.{change_first}
use Rattle.mgs_buffers.specs.MarkedBuffer.{MarkedBuffer, has_buffer, marked_at, marked_named, marked_list_set}
use Rattle.mgs_buffers.specs.Permitting.{mask_decision}
use Rattle.mgs_buffers.specs.declared.rules.ListChange.{ListChange}
use Rattle.mgs_buffers.specs.declared.rules.ListChange.TheVariants.{Insert, Delete, Replace}

-- the fault of a list, as one of a user who changes it
abbrev pub fault_of : ListFault → EntriesFault
fault_of Full = entries.Full
fault_of NoSuchEntry = entries.NoSuchEntry

-- the entries with a change at the n-th
abbrev pub list_changed : ListChange → ℕ → List Entry → List Entry
list_changed (Insert e) n es = insert es n e
list_changed Delete n es = remove es n
list_changed (Replace e) n es = slice_set es n e

-- an entry comes before the n-th of a list of so many, which has room
abbrev pub InsertAnswers : Result (Unit {0}) EntriesFault → Bool → Decision → ℕ → ℕ → Type 0
InsertAnswers (Ok done) there due n len = (there ≡ true) × (due ≡ Granted) × (n ≤ len) × (len < 64)
InsertAnswers (Err entries.NoBuffer) there due n len = there ≡ false
InsertAnswers (Err (entries.Denied decision)) there due n len = (there ≡ true) × (due ≡ decision) × (decision ≢ Granted)
InsertAnswers (Err entries.NoSuchEntry) there due n len = (there ≡ true) × (due ≡ Granted) × (len < n)
InsertAnswers (Err entries.Full) there due n len = (there ≡ true) × (due ≡ Granted) × (n ≤ len) × (64 ≤ len)

-- the n-th entry of a list of so many goes, or another takes its place
abbrev pub ChangeAnswers : Result (Unit {0}) EntriesFault → Bool → Decision → ℕ → ℕ → Type 0
ChangeAnswers (Ok done) there due n len = (there ≡ true) × (due ≡ Granted) × (n < len)
ChangeAnswers (Err entries.NoBuffer) there due n len = there ≡ false
ChangeAnswers (Err (entries.Denied decision)) there due n len = (there ≡ true) × (due ≡ decision) × (decision ≢ Granted)
ChangeAnswers (Err entries.NoSuchEntry) there due n len = (there ≡ true) × (due ≡ Granted) × (len ≤ n)
ChangeAnswers (Err entries.Full) there due n len = ⊥

abbrev pub ListAnswers : ListChange → Result (Unit {0}) EntriesFault → Bool → Decision → ℕ → ℕ → Type 0
ListAnswers (Insert e) answer there due n len = InsertAnswers answer there due n len
ListAnswers Delete answer there due n len = ChangeAnswers answer there due n len
ListAnswers (Replace e) answer there due n len = ChangeAnswers answer there due n len

-- the bits of WRITE_ACL and of WRITE_OWNER
abbrev pub WRITE_ACL : ℕ
WRITE_ACL = 262144

abbrev pub WRITE_OWNER : ℕ
WRITE_OWNER = 524288

-- the decision on changing the access list of the buffer of this name, and on giving it to another
abbrev pub list_decision : List MarkedBuffer → Directory → List ℕ → List ℕ → Decision
list_decision ks directory user name = mask_decision directory (marked_at name ks).buffer user WRITE_ACL

abbrev pub owners_decision : List MarkedBuffer → Directory → List ℕ → List ℕ → Decision
owners_decision ks directory user name = mask_decision directory (marked_at name ks).buffer user WRITE_OWNER

-- a user changes the access list of the buffer of this name
abbrev pub EntriesAnswer : List MarkedBuffer → Directory → List ℕ → List ℕ → ListChange → ℕ → Result (Unit {0}) EntriesFault → Type 0
EntriesAnswer ks directory user name change n answer =
    ListAnswers change answer (has_buffer name ks) (list_decision ks directory user name) n (length (marked_at name ks).buffer.entries)

abbrev pub entries_changed : List ℕ → ListChange → ℕ → List MarkedBuffer → List MarkedBuffer
entries_changed name change n ks = change_first (marked_named name) (marked_list_set (list_changed change n (marked_at name ks).buffer.entries)) ks

-- a user becomes the owner who is in the directory, or is not
abbrev pub OwnerAnswers : Result (Unit {0}) OwnersFault → Bool → Decision → Bool → Type 0
OwnerAnswers (Ok done) there due known = (there ≡ true) × (due ≡ Granted) × (known ≡ true)
OwnerAnswers (Err owners.NoBuffer) there due known = there ≡ false
OwnerAnswers (Err (owners.Denied decision)) there due known = (there ≡ true) × (due ≡ decision) × (decision ≢ Granted)
OwnerAnswers (Err owners.NoSuchUser) there due known = (there ≡ true) × (due ≡ Granted) × (known ≡ false)
OwnerAnswers (Err owners.NoSuchGroup) there due known = ⊥

-- no group, or one of the directory
abbrev pub is_group_known : Directory → Option (List ℕ) → Bool
is_group_known directory None = true
is_group_known directory (Some group) = is_group_named group directory.groups

abbrev pub GroupAnswers : Result (Unit {0}) OwnersFault → Bool → Decision → Bool → Type 0
GroupAnswers (Ok done) there due known = (there ≡ true) × (due ≡ Granted) × (known ≡ true)
GroupAnswers (Err owners.NoBuffer) there due known = there ≡ false
GroupAnswers (Err (owners.Denied decision)) there due known = (there ≡ true) × (due ≡ decision) × (decision ≢ Granted)
GroupAnswers (Err owners.NoSuchUser) there due known = ⊥
GroupAnswers (Err owners.NoSuchGroup) there due known = (there ≡ true) × (due ≡ Granted) × (known ≡ false)

-- a user gives the buffer of this name to a user, or to a group or none
abbrev pub OwnerAnswer : List MarkedBuffer → Directory → List ℕ → List ℕ → List ℕ → Result (Unit {0}) OwnersFault → Type 0
OwnerAnswer ks directory user name owner answer =
    OwnerAnswers answer (has_buffer name ks) (owners_decision ks directory user name) (is_among owner directory.users)

abbrev pub GroupAnswer : List MarkedBuffer → Directory → List ℕ → List ℕ → Option (List ℕ) → Result (Unit {0}) OwnersFault → Type 0
GroupAnswer ks directory user name group answer =
    GroupAnswers answer (has_buffer name ks) (owners_decision ks directory user name) (is_group_known directory group)

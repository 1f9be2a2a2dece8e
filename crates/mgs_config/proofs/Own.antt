-- A table's own fault is none of its file.
use Rattle.std.proofs.Common.{◌≡◌, ◌≢◌, ℕ, ◌+◌, refl, sym, ap, ◌∙◌, arith, Bool, true, false, cond, List, [], ◌∷◌, ◌++◌, length, map, codes, Option, Some, None}
use Rattle.std.specs.Prelude.{not, nat_lt, nat_le}
use Rattle.std.specs.List.{list_all}
use Rattle.std.specs.Option.{option_map, unwrap_or}
use Rattle.toml.specs.Data.{Data}
use Rattle.mgs_model.specs.declared.tickets.TicketFault.{TicketFault}
use Rattle.mgs_model.specs.declared.tickets.TicketFault.TheVariants as ticket
use Rattle.mgs_model.specs.Tickets.{ticket_fault}
use Rattle.mgs_policy.specs.declared.directory.DirectoryFault.{DirectoryFault}
use Rattle.mgs_policy.specs.declared.directory.DirectoryFault.TheVariants as directory
use Rattle.mgs_policy.specs.Directories.{group_fault}
use Rattle.mgs_config.specs.declared.config_fault.TableFault.{TableFault}
use Rattle.mgs_config.specs.declared.config_fault.TableFault.TheVariants.{Toml, Key, Name, Twice, Unknown, Entry, Long, File, Short}
use Rattle.mgs_config.specs.declared.config_fault.ConfigTable.TheVariants.{Top}
use Rattle.mgs_config.specs.declared.config_fault.ConfigFault.{ConfigFault}
use Rattle.mgs_config.specs.Rows.{user_row, group_row}
use Rattle.mgs_config.specs.Document.{is_configuration, rows_at}
use Rattle.mgs_config.specs.Faults.{or_later, first_fault, of_ticket, of_directory, user_of, user_refused, ticket_refused, names_of, group_of, group_refused, added_refused}
use Rattle.mgs_buffers.specs.Adding.{are_names}
use Rattle.mgs_config.specs.Buffers.{name_of, owner_of, owning_group, listed, written, is_buffer_row, is_entry, names_refused, contents_refused, or_else, refused_where}
use Rattle.mgs_config.specs.Files.{IsCounted}
use Rattle.mgs_config.specs.World.{fault_of, first_of, users_in, users_fault, groups_fault, people_refused}

-- BUFFERS

named_own : (a b c d : Bool) → cond (not a) (Some Key) (cond (not b) (Some Name) (cond c (Some Twice) (cond (not d) (Some Unknown) None))) ≢ Some File
named_own false b c d h = cc
named_own true false c d h = cc
named_own true true true d h = cc
named_own true true false false h = cc
named_own true true false true h = cc

contents_own : (a b c d : Bool) → cond (not a) (Some Entry) (cond b (Some Long) (cond c (Some Long) (cond d (Some Long) None))) ≢ Some File
contents_own false b c d h = cc
contents_own true true c d h = cc
contents_own true false true d h = cc
contents_own true false false true h = cc
contents_own true false false false h = cc

else_own : (a b : Option TableFault) → a ≢ Some File → b ≢ Some File → or_else a b ≢ Some File
else_own None b not_a not_b h = not_b h
else_own (Some fault) b not_a not_b h = not_a h

where_own : (taken known : Bool) (count : ℕ) (row : Data) → refused_where taken known count row ≢ Some File
where_own taken known count row h =
    else_own (names_refused taken known row) (contents_refused count row) (named_own (is_buffer_row row) (are_names (name_of row) (owner_of row) (owning_group row)) taken known)
    (contents_own (list_all is_entry (listed row)) (nat_lt 64 (length (listed row))) (nat_le 256 count) (nat_lt 1048576 (length (written row)))) h

-- USERS AND GROUPS

later_own : (first : Option TableFault) (n : ℕ) (later : Option (ℕ × TableFault)) (at : ℕ × TableFault) → first ≢ Some File → (later ≡ Some at → at.1 ≢ File) → or_later first n later ≡ Some at → at.1 ≢ File
later_own None n later at not_first not_later h is = not_later h is
later_own (Some fault) n later at not_first not_later h is = not_first (ap Some (ap (λ (o : Option (ℕ × TableFault)). (unwrap_or o at).1) h ∙ is))

first_own : (f : List Data → Data → Option TableFault) → ((before : List Data) (row : Data) → f before row ≢ Some File) → (before rows : List Data) (at : ℕ × TableFault) → first_fault f before rows ≡ Some at → at.1 ≢ File
first_own f own before [] at h is = cc
first_own f own before (row ∷ rows) at h is =
    later_own (f before row) (length before + 1) (first_fault f (before ++ row ∷ []) rows) at (own before row) (first_own f own (before ++ row ∷ []) rows at) h is

ticket_own : (fault : Option TicketFault) → option_map of_ticket fault ≢ Some File
ticket_own None h = cc
ticket_own (Some ticket.Name) h = cc
ticket_own (Some ticket.Twice) h = cc
ticket_own (Some ticket.Full) h = cc
ticket_own (Some ticket.Short) h = cc

user_own_at : (tickets : List (List ℕ × List ℕ)) (user : Option (List ℕ × List ℕ)) → ticket_refused tickets user ≢ Some File
user_own_at tickets None h = cc
user_own_at tickets (Some user) h = ticket_own (ticket_fault tickets user.0 user.1) h

directory_own : (fault : Option DirectoryFault) → option_map of_directory fault ≢ Some File
directory_own None h = cc
directory_own (Some directory.Name) h = cc
directory_own (Some directory.Twice) h = cc
directory_own (Some directory.Unknown) h = cc
directory_own (Some directory.Full) h = cc
directory_own (Some directory.Short) h = cc

group_own_at : (users : List (List ℕ)) (before : List Data) (group : Option (List ℕ × List (List ℕ))) → added_refused (record { users = users; groups = map group_of before }) group ≢ Some File
group_own_at users before None h = cc
group_own_at users before (Some group) h = directory_own (group_fault (record { users = users; groups = map group_of before }) group.0 group.1) h

first_of_own : (user group : Option (ℕ × TableFault)) (e : ConfigFault) → ((at : ℕ × TableFault) → user ≡ Some at → at.1 ≢ File) → ((at : ℕ × TableFault) → group ≡ Some at → at.1 ≢ File) → first_of user group ≡ Some e → e.fault ≢ File
first_of_own (Some user) group e a b h is = a user refl (ap (λ (o : Option ConfigFault). (unwrap_or o e).fault) h ∙ is)
first_of_own None (Some group) e a b h is = b group refl (ap (λ (o : Option ConfigFault). (unwrap_or o e).fault) h ∙ is)
first_of_own None None e a b h is = cc

people_own_if : (configuration : Bool) (d : Data) (e : ConfigFault) → cond (not configuration) (Some (fault_of Top (0, Key))) (first_of (users_fault d) (groups_fault d)) ≡ Some e → e.fault ≢ File
people_own_if false d e h is =
    let no : Key ≡ File = ap (λ (o : Option ConfigFault). (unwrap_or o e).fault) h ∙ is in
    cc
people_own_if true d e h is =
    first_of_own (users_fault d) (groups_fault d) e
    (λ at found. first_own user_refused (λ before row. user_own_at (map user_of before) (user_row row)) [] (rows_at (codes "user") d) at found)
    (λ at found. first_own (group_refused (names_of (users_in d))) (λ before row. group_own_at (names_of (users_in d)) before (group_row row)) [] (rows_at (codes "group") d) at found)
    h is

-- THE COUNT OF FAULTS

counted : (fault : TableFault) (n : ℕ) → fault ≢ File → IsCounted fault n n
counted Toml n own = refl
counted Key n own = refl
counted Name n own = refl
counted Twice n own = refl
counted Unknown n own = refl
counted Entry n own = refl
counted Long n own = refl
counted File n own = absurd (own refl)
counted Short n own = omega arith

-- no file was read, and the count is as before
pub own_counted : (taken known : Bool) (count : ℕ) (row : Data) (fault : TableFault) (n : ℕ) → refused_where taken known count row ≡ Some fault → IsCounted fault n n
own_counted taken known count row fault n due = counted fault n (λ is. where_own taken known count row (due ∙ ap Some is))

short_file : (e : ConfigFault) → e.fault ≡ File → e.fault ≢ Short
short_file e is short =
    let no : File ≡ Short = sym is ∙ short in
    cc

pub people_counted : (d : Data) (e : ConfigFault) (n : ℕ) → (e.fault ≢ Short → people_refused d ≡ Some e) → IsCounted e.fault n n
people_counted d e n due = counted e.fault n (λ is. people_own_if (is_configuration d) d e (due (short_file e is)) is)

-- Which table of a configuration is at fault, and why.
use Rattle.std.specs.Prelude.{◌+◌, ℕ, List, [], ◌∷◌, ◌++◌, length, map, Option, Some, None}
use Rattle.std.specs.Option.{option_map, unwrap_or}
use Rattle.toml.specs.Data.{Data}
use Rattle.mgs_model.specs.Access.{UserGroup, Directory}
use Rattle.mgs_model.specs.Tickets.{ticket_fault}
use Rattle.mgs_model.specs.declared.tickets.TicketFault.{TicketFault}
use Rattle.mgs_model.specs.declared.tickets.TicketFault.TheVariants as ticket
use Rattle.mgs_policy.specs.Directories.{group_fault}
use Rattle.mgs_policy.specs.declared.directory.DirectoryFault.{DirectoryFault}
use Rattle.mgs_policy.specs.declared.directory.DirectoryFault.TheVariants as directory
use Rattle.mgs_config.specs.Rows.{user_row, group_row}
use Rattle.mgs_config.specs.declared.config_fault.TableFault.{TableFault}
use Rattle.mgs_config.specs.declared.config_fault.TableFault.TheVariants.{Key, Name, Twice, Unknown, Long, Short}

-- LISTS OF TABLES

abbrev pub or_later : Option TableFault → ℕ → Option (ℕ × TableFault) → Option (ℕ × TableFault)
or_later None n later = later
or_later (Some fault) n later = Some (n, fault)

-- the first fault of tables that stand after others, and whose it is: the first table's number is 1. A table's fault may rest on the
-- tables before it
abbrev pub first_fault : (List Data → Data → Option TableFault) → List Data → List Data → Option (ℕ × TableFault)
first_fault fault before [] = None
first_fault fault before (row ∷ rows) = or_later (fault before row) (length before + 1) (first_fault fault (before ++ row ∷ []) rows)

-- USERS

-- a fault of a ticket, as one of its table
abbrev pub of_ticket : TicketFault → TableFault
of_ticket ticket.Name = Name
of_ticket ticket.Twice = Twice
of_ticket ticket.Full = Long
of_ticket ticket.Short = Short

-- the name and the ticket that a user's table gives
abbrev pub user_of : Data → List ℕ × List ℕ
user_of row = unwrap_or (user_row row) ([], [])

abbrev pub ticket_refused : List (List ℕ × List ℕ) → Option (List ℕ × List ℕ) → Option TableFault
ticket_refused tickets None = Some Key
ticket_refused tickets (Some user) = option_map of_ticket (ticket_fault tickets user.0 user.1)

-- why the table of a user is refused after those of others
abbrev pub user_refused : List Data → Data → Option TableFault
user_refused before row = ticket_refused (map user_of before) (user_row row)

-- the names of users
abbrev pub names_of : List (List ℕ × List ℕ) → List (List ℕ)
names_of users = map (λ user. user.0) users

-- GROUPS

-- a fault of a directory, as one of its table
abbrev pub of_directory : DirectoryFault → TableFault
of_directory directory.Name = Name
of_directory directory.Twice = Twice
of_directory directory.Unknown = Unknown
of_directory directory.Full = Long
of_directory directory.Short = Short

abbrev pub as_group : List ℕ × List (List ℕ) → UserGroup
as_group group = record { name = group.0; members = group.1 }

-- the group that a table gives
abbrev pub group_of : Data → UserGroup
group_of row = as_group (unwrap_or (group_row row) ([], []))

abbrev pub added_refused : Directory → Option (List ℕ × List (List ℕ)) → Option TableFault
added_refused before None = Some Key
added_refused before (Some group) = option_map of_directory (group_fault before group.0 group.1)

-- why the table of a group is refused after those of others, where these are the users
abbrev pub group_refused : List (List ℕ) → List Data → Data → Option TableFault
group_refused users before row = added_refused (record { users = users; groups = map group_of before }) (group_row row)

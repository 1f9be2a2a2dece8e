-- The tickets of users, in the order in which they were added: each a name and what its user says when he logs in.
use Rattle.std.specs.Prelude.{◌≡◌, ℕ, nat_le, not, Bool, ◌&&◌, List, [], ◌∷◌, ◌++◌, length, find, Option, Some, None, is_some, Result, Ok, Err, if◌then◌else◌}
use Rattle.std.specs.Option.{option_map}
use Rattle.std.specs.List.{list_all}
use Rattle.mgs_model.specs.Names.{is_user_name, is_visible, same_name}
use Rattle.mgs_model.specs.declared.tickets.TicketFault.{TicketFault}
use Rattle.mgs_model.specs.declared.tickets.TicketFault.TheVariants.{Name, Twice, Full, Short}

-- 1 to 64 visible characters
abbrev pub is_ticket : List ℕ → Bool
is_ticket text = nat_le 1 (length text) && (nat_le (length text) 64 && list_all is_visible text)

-- the name of a user that is written so
abbrev pub user_name_in : List ℕ → Option (List ℕ)
user_name_in text = if is_user_name text then Some text else None

-- it is the ticket of the user of this name
abbrev pub is_ticket_of : List ℕ → List ℕ × List ℕ → Bool
is_ticket_of name t = same_name name t.0

-- the user of this name has a ticket
abbrev pub has_ticket : List ℕ → List (List ℕ × List ℕ) → Bool
has_ticket name tickets = is_some (find (is_ticket_of name) tickets)

-- the ticket of the user of this name
abbrev pub ticket_of : List ℕ → List (List ℕ × List ℕ) → Option (List ℕ)
ticket_of name tickets = option_map (λ t. t.1) (find (is_ticket_of name) tickets)

-- why a user of this name must not be given this ticket
abbrev pub ticket_fault : List (List ℕ × List ℕ) → List ℕ → List ℕ → Option TicketFault
ticket_fault tickets name ticket =
    if not (is_user_name name && is_ticket ticket) then Some Name
    else if has_ticket name tickets then Some Twice
    else if nat_le 256 (length tickets) then Some Full
    else None

-- the tickets with one more, which is the last
abbrev pub with_ticket : List (List ℕ × List ℕ) → List ℕ → List ℕ → List (List ℕ × List ℕ)
with_ticket tickets name ticket = tickets ++ (name, ticket) ∷ []

-- what is answered: each fault exactly where it is due, and out of memory only where none is
abbrev pub Answers : Result (Unit {0}) TicketFault → Option TicketFault → Type 0
Answers (Ok done) due = due ≡ None
Answers (Err Short) due = due ≡ None
Answers (Err Name) due = due ≡ Some Name
Answers (Err Twice) due = due ≡ Some Twice
Answers (Err Full) due = due ≡ Some Full

-- LOGIN LINES: who logs in by a line, and why one is refused.
use Rattle.std.specs.Prelude.{ℕ, ◌-◌, ◌==◌, nat_le, Bool, ◌&&◌, List, [], ◌∷◌, ◌++◌, take, length, codes, slice_index, Option, Some, None, Result, Ok, Err, if◌then◌else◌}
use Rattle.std.specs.List.{before_first}
use Rattle.std.specs.Str.{bytes_eq}
use Rattle.mgs_keys.specs.Words.{◌>>=◌, rest_after, words_of, utf8_of}
use Rattle.mgs_keys.specs.Numbers.{number_of}
use Rattle.mgs_model.specs.Lines.{is_feed}
use Rattle.mgs_model.specs.Tickets.{ticket_of}
use Rattle.mgs_model.specs.declared.errors.OpenFault.{OpenFault}
use Rattle.mgs_model.specs.declared.errors.OpenFault.TheVariants as faults
use Rattle.mgs_wire.specs.declared.refusal.Refusal.{Refusal}
use Rattle.mgs_wire.specs.declared.refusal.Refusal.TheVariants as refusals

-- THE LINE

-- the bytes before the first line feed; all, where there is none
unfoldable pub line_in : List ℕ → List ℕ
line_in bytes = before_first is_feed bytes

-- the bytes after the first line feed, if there is one
unfoldable pub after_line : List ℕ → Option (List ℕ)
after_line bytes = rest_after is_feed bytes

-- the last byte is a carriage return
abbrev pub ends_in_return : List ℕ → Bool
ends_in_return line = nat_le 1 (length line) && (slice_index line (length line - 1) == 13)

-- without one carriage return at the end
abbrev pub without_return : List ℕ → List ℕ
without_return line = if ends_in_return line then take (length line - 1) line else line

-- ITS WORDS

-- what a login line says
pub record Login : Type 0 where
  pub name : List ℕ
  pub ticket : List ℕ
  pub rows : ℕ
  pub cols : ℕ

-- the word `login`, a name and a ticket, each of at least one byte, and a size
unfoldable pub login_by : List ℕ → List ℕ → List ℕ → Option ℕ → Option ℕ → Option Login
login_by word name ticket rows cols =
    if bytes_eq word (codes "login") && (nat_le 1 (length name) && nat_le 1 (length ticket))
    then (do
      r ← rows
      c ← cols
      Some (record { name = name; ticket = ticket; rows = r; cols = c }))
    else None

-- five words
abbrev pub login_of : List (List ℕ) → Option Login
login_of (word ∷ name ∷ ticket ∷ rows ∷ cols ∷ []) = login_by word name ticket (number_of rows) (number_of cols)
login_of _ = None

-- what a line says, without its line feed
abbrev pub login_in : List ℕ → Option Login
login_in line = login_of (words_of (without_return line))

-- the name that it says, none where it is no login
abbrev pub name_said : Option Login → List ℕ
name_said None = []
name_said (Some login) = login.name

abbrev pub name_in : List ℕ → List ℕ
name_in line = name_said (login_in line)

-- WHO MAY LOG IN

-- the session that is to be opened
pub record Opening : Type 0 where
  pub user : List ℕ
  pub rows : ℕ
  pub cols : ℕ

-- the ticket of the user of this name; names are texts, so that no user has one that is not UTF-8
abbrev pub ticket_for : List ℕ → List (List ℕ × List ℕ) → Option (List ℕ)
ticket_for name tickets = utf8_of name >>= (λ user. ticket_of user tickets)

-- the name has a ticket, and the ticket is that one
abbrev pub checked : Login → Option (List ℕ) → Result Opening Refusal
checked login None = Err refusals.NoUser
checked login (Some ticket) =
    if bytes_eq ticket login.ticket then Ok (record { user = login.name; rows = login.rows; cols = login.cols }) else Err refusals.Ticket

abbrev pub admission_of : List (List ℕ × List ℕ) → Option Login → Result Opening Refusal
admission_of tickets None = Err refusals.Line
admission_of tickets (Some login) = checked login (ticket_for login.name tickets)

-- the session that a line opens, or why it is refused before that is tried: it is no login line, no ticket has the name, or the
-- ticket is another
abbrev pub admission : List (List ℕ × List ℕ) → List ℕ → Result Opening Refusal
admission tickets line = admission_of tickets (login_in line)

-- REFUSALS

-- why a session was not opened, as a login is told
abbrev pub refusal_of : OpenFault → Refusal
refusal_of faults.NoUser = refusals.NoUser
refusal_of faults.Size = refusals.Size
refusal_of faults.Full = refusals.Full
refusal_of faults.Short = refusals.Short

-- the line that tells of a refusal: its number and its name
abbrev pub refusal_line : Refusal → List ℕ
refusal_line refusals.Line = codes "refused 1 Line" ++ 10 ∷ []
refusal_line refusals.NoUser = codes "refused 2 NoUser" ++ 10 ∷ []
refusal_line refusals.Ticket = codes "refused 3 Ticket" ++ 10 ∷ []
refusal_line refusals.Size = codes "refused 4 Size" ++ 10 ∷ []
refusal_line refusals.Full = codes "refused 5 Full" ++ 10 ∷ []
refusal_line refusals.Short = codes "refused 6 Short" ++ 10 ∷ []

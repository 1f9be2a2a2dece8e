-- HOW EVENTS OF ONE SECOND ARE COUNTED: equal denials are one row with a count, and so is what a user causes past 20 rows.
use Rattle.std.specs.Prelude.{◌≡◌, ℕ, ℤ, pos, Bool, true, false, not, ◌&&◌, ◌||◌, ◌==◌, ◌+◌, ◌-◌, ◌^◌, min, nat_le, nat_lt, List, [], ◌∷◌, ◌++◌, Option, None, Some, length, position, slice_get, slice_set, is_some, sum_by, if◌then◌else◌}
use Rattle.std.specs.Ordering.{int_eq}
use Rattle.mgs_model.specs.Names.{same_name}
use Rattle.mgs_model.specs.Rights.{bit_of}
use Rattle.mgs_model.specs.declared.entry.Decision.{Decision}
use Rattle.mgs_model.specs.declared.entry.Decision.TheVariants.{Granted, DeniedBy, NotGranted}
use Rattle.mgs_wire.specs.declared.refusal.Refusal.{Refusal}
use Rattle.mgs_wire.specs.declared.refusal.Refusal.TheVariants.{Line, NoUser, Ticket, Size, Full, Short}
use Rattle.mgs_journal.specs.declared.Told.{Told}
use Rattle.mgs_journal.specs.declared.Told.TheVariants as told
use Rattle.mgs_ledger.specs.declared.batch.EventKind.{EventKind}
use Rattle.mgs_ledger.specs.declared.batch.EventKind.TheVariants.{One, More}
use Rattle.mgs_ledger.specs.declared.batch.Gathered.{Gathered}
use Rattle.mgs_ledger.specs.declared.tally.UserRows.{UserRows}
use Rattle.mgs_ledger.specs.Gathering.{told_user, kind_user}

-- at most so many rows of one user and second, beside one that counts the rest
abbrev pub row_limit : ℕ
row_limit = 20

-- the rows of so many users are tallied in a second
abbrev pub tally_limit : ℕ
tally_limit = 256

-- a row counts up to the last u64
abbrev pub count_limit : ℕ
count_limit = 2 ^ 64 - 1

-- the causes of a refused login, numbered
abbrev pub cause_number : Refusal → ℕ
cause_number Line = 1
cause_number NoUser = 2
cause_number Ticket = 3
cause_number Size = 4
cause_number Full = 5
cause_number Short = 6

abbrev pub same_cause : Refusal → Refusal → Bool
same_cause a b = cause_number a == cause_number b

-- the same entry denies the same right
abbrev pub is_denied_by : ℕ → ℕ → Decision → Bool
is_denied_by entry bit Granted = false
is_denied_by entry bit (DeniedBy other right) = entry == other && bit == bit_of right
is_denied_by entry bit (NotGranted right) = false

-- no entry grants the same right
abbrev pub is_not_granted : ℕ → Decision → Bool
is_not_granted bit Granted = false
is_not_granted bit (DeniedBy entry right) = false
is_not_granted bit (NotGranted right) = bit == bit_of right

abbrev pub is_granted : Decision → Bool
is_granted Granted = true
is_granted (DeniedBy entry right) = false
is_granted (NotGranted right) = false

abbrev pub same_decision : Decision → Decision → Bool
same_decision Granted other = is_granted other
same_decision (DeniedBy entry bit) other = is_denied_by entry (bit_of bit) other
same_decision (NotGranted bit) other = is_not_granted (bit_of bit) other

abbrev pub is_denial_of : List ℕ → List ℕ → Decision → Told → Bool
is_denial_of user buffer decision (told.Denied other b d) = same_name user other && (same_name buffer b && same_decision decision d)
is_denial_of user buffer decision other = false

abbrev pub is_refusal_of : List ℕ → Refusal → Told → Bool
is_refusal_of user cause (told.Refused other c) = same_name user other && same_cause cause c
is_refusal_of user cause other = false

abbrev pub is_unnamed_refusal_of : Refusal → Told → Bool
is_unnamed_refusal_of cause (told.RefusedUnnamed c) = same_cause cause c
is_unnamed_refusal_of cause other = false

-- two denials, or two refused logins, are equal. Nothing else is counted with its like.
abbrev pub is_repeat : Told → Told → Bool
is_repeat (told.Denied user buffer decision) other = is_denial_of user buffer decision other
is_repeat (told.Refused user cause) other = is_refusal_of user cause other
is_repeat (told.RefusedUnnamed cause) other = is_unnamed_refusal_of cause other
is_repeat one other = false

-- denials and refused logins
abbrev pub is_countable : Told → Bool
is_countable (told.Denied user buffer decision) = true
is_countable (told.Refused user cause) = true
is_countable (told.RefusedUnnamed cause) = true
is_countable other = false

abbrev pub is_user : List ℕ → Option (List ℕ) → Bool
is_user name None = false
is_user name (Some other) = same_name name other

-- two users are one, or nobody both times
abbrev pub same_user : Option (List ℕ) → Option (List ℕ) → Bool
same_user None other = not (is_some other)
same_user (Some name) other = is_user name other

abbrev pub is_one_like : Told → EventKind → Bool
is_one_like t (One other) = is_repeat t other
is_one_like t (More user) = false

abbrev pub is_more_of : Option (List ℕ) → EventKind → Bool
is_more_of user (One t) = false
is_more_of user (More other) = same_user user other

-- events that are counted together
abbrev pub same_kind : EventKind → EventKind → Bool
same_kind (One t) other = is_one_like t other
same_kind (More user) other = is_more_of user other

-- the row of an event that nothing counts yet
abbrev pub first_row : ℤ → EventKind → Gathered
first_row at kind = record { at = at; kind = kind; count = 1 }

-- whether e counts events of this row's second and kind, and can count one more
abbrev pub is_counting : Gathered → Gathered → Bool
is_counting row e = int_eq e.at row.at && (same_kind row.kind e.kind && nat_lt e.count count_limit)

-- the index of the row that counts one more event of this one's second and kind
abbrev pub counting_place : Gathered → List Gathered → Option ℕ
counting_place row events = position (is_counting row) events

abbrev pub has_row : Gathered → List Gathered → Bool
has_row row events = is_some (counting_place row events)

abbrev pub one_more : Gathered → Gathered
one_more e = record { at = e.at; kind = e.kind; count = min (e.count + 1) count_limit }

-- the row at an index counts one more
abbrev pub row_counted : ℕ → Option Gathered → List Gathered → List Gathered
row_counted i None events = events
row_counted i (Some e) events = slice_set events i (one_more e)

-- the row at an index counts one more, or this one is added
abbrev pub counted_at : Option ℕ → Gathered → List Gathered → List Gathered
counted_at None row events = events ++ row ∷ []
counted_at (Some i) row events = row_counted i (slice_get events i) events

abbrev pub counted : Gathered → List Gathered → List Gathered
counted row events = counted_at (counting_place row events) row events

-- HOW MANY ROWS EACH USER HAD

-- the rows of users in a second
pub record Rows : Type 0 where
  pub at : ℤ
  pub users : List UserRows

-- the rows of users in this second: none, if the tally is of another one
abbrev pub users_at : ℤ → Rows → List UserRows
users_at at tally = if int_eq tally.at at then tally.users else []

abbrev pub are_of : Option (List ℕ) → UserRows → Bool
are_of user rows = same_user user rows.user

abbrev pub user_place : Option (List ℕ) → List UserRows → Option ℕ
user_place user users = position (are_of user) users

abbrev pub is_full : Option UserRows → Bool
is_full None = false
is_full (Some rows) = nat_le row_limit rows.count

-- a user without a row of the tally is as good as full if there is no room in it
abbrev pub is_full_at : Option ℕ → List UserRows → Bool
is_full_at None users = nat_le tally_limit (length users)
is_full_at (Some i) users = is_full (slice_get users i)

-- whether a user had all rows that there are for one
abbrev pub has_all_rows : Option (List ℕ) → List UserRows → Bool
has_all_rows user users = is_full_at (user_place user users) users

abbrev pub one_row_more : UserRows → UserRows
one_row_more rows = record { user = rows.user; count = min (rows.count + 1) count_limit }

abbrev pub user_tallied : ℕ → Option UserRows → List UserRows → List UserRows
user_tallied i None users = users
user_tallied i (Some rows) users = slice_set users i (one_row_more rows)

abbrev pub tallied_at : Option ℕ → Option (List ℕ) → List UserRows → List UserRows
tallied_at None user users = users ++ record { user = user; count = 1 } ∷ []
tallied_at (Some i) user users = user_tallied i (slice_get users i) users

-- a user had one row more
abbrev pub tallied : Option (List ℕ) → List UserRows → List UserRows
tallied user users = tallied_at (user_place user users) user users

-- WHAT IS TOLD IS GATHERED

-- the events that are not committed yet, and how many rows each user had in the second of the last one
pub record Gathering : Type 0 where
  pub events : List Gathered
  pub tally : Rows

abbrev pub gathering : List Gathered → Rows → Gathering
gathering events tally = record { events = events; tally = tally }

-- when the ledger begins
abbrev pub no_rows : Rows
no_rows = record { at = pos 0; users = [] }

-- there is an equal event that counts what is told
abbrev pub has_equal : Told → ℤ → List Gathered → Bool
has_equal t at events = has_row (first_row at (One t)) events

-- an event of its own, or one that counts what its user causes past the limit
abbrev pub kind_of : Told → Bool → EventKind
kind_of t true = One t
kind_of t false = More (told_user t)

abbrev pub is_one : Bool → Bool → Bool
is_one is_equal is_full = is_equal || not is_full

-- an event of its own takes one of its user's rows
abbrev pub takes_row : Bool → Bool → Bool
takes_row is_equal is_full = not (is_equal || is_full)

abbrev pub tally_if : Bool → Told → ℤ → Rows → Rows
tally_if true t at tally = record { at = at; users = tallied (told_user t) (users_at at tally) }
tally_if false t at tally = tally

abbrev pub gathered_by : Told → ℤ → Bool → Bool → Gathering → Gathering
gathered_by t at is_equal is_full g = record {
  events = counted (first_row at (kind_of t (is_one is_equal is_full))) g.events;
  tally = tally_if (takes_row is_equal is_full) t at g.tally;
}

-- what is gathered once this is told at this second
abbrev pub gathered_more : Told → ℤ → Gathering → Gathering
gathered_more t at g = gathered_by t at (has_equal t at g.events) (has_all_rows (told_user t) (users_at at g.tally)) g

-- WHAT COUNTS SAY

-- how many events are gathered
abbrev pub event_total : List Gathered → ℕ
event_total events = sum_by (λ e. e.count) events

-- how many of them are of this user
abbrev pub count_for : Option (List ℕ) → Gathered → ℕ
count_for user e = if same_user user (kind_user e.kind) then e.count else 0

abbrev pub user_total : Option (List ℕ) → List Gathered → ℕ
user_total user events = sum_by (count_for user) events

-- one more
abbrev pub one_if : Bool → ℕ
one_if true = 1
one_if false = 0

-- NOTHING IS LOST AND NOTHING INVENTED: whatever is told is counted once
abbrev pub CountsEach : Type 0
CountsEach = (t : Told) (at : ℤ) (g : Gathering) → event_total (gathered_more t at g).events ≡ event_total g.events + 1

-- for its user, and for no other
abbrev pub CountsForUser : Type 0
CountsForUser =
    (t : Told) (at : ℤ) (g : Gathering) (user : Option (List ℕ))
    → user_total user (gathered_more t at g).events ≡ user_total user g.events + one_if (same_user user (told_user t))

-- The rows of events that were gathered.
use Rattle.std.specs.Prelude.{ℕ, List, [], ◌++◌, Option, None, Some, codes, decimal, nat_lt, if◌then◌else◌}
use Rattle.sqlite.specs.Order.{Row}
use Rattle.mgs_model.specs.Rights.{right_name}
use Rattle.mgs_model.specs.declared.entry.Decision.{Decision}
use Rattle.mgs_model.specs.declared.entry.Decision.TheVariants.{Granted, DeniedBy, NotGranted}
use Rattle.mgs_wire.specs.declared.refusal.Refusal.{Refusal}
use Rattle.mgs_wire.specs.declared.refusal.Refusal.TheVariants.{Line, NoUser, Ticket, Size, Full, Short}
use Rattle.mgs_journal.specs.declared.Told.{Told}
use Rattle.mgs_journal.specs.declared.Told.TheVariants.{Came, Refused, RefusedUnnamed, Quit, Closed, FellBehind, Denied, Saved, Crowded}
use Rattle.mgs_ledger.specs.declared.batch.EventKind.{EventKind}
use Rattle.mgs_ledger.specs.declared.batch.EventKind.TheVariants.{One, More}
use Rattle.mgs_ledger.specs.declared.batch.Gathered.{Gathered}
use Rattle.mgs_ledger.specs.Keeping.{event_row}
use Rattle.mgs_ledger.specs.Spelling.{text_or_empty}

abbrev pub told_user : Told → Option (List ℕ)
told_user (Came user) = Some user
told_user (Refused user cause) = Some user
told_user (RefusedUnnamed cause) = None
told_user (Quit user) = Some user
told_user (Closed user) = Some user
told_user (FellBehind user) = Some user
told_user (Denied user buffer decision) = Some user
told_user (Saved user buffer) = Some user
told_user (Crowded user) = Some user

abbrev pub told_what : Told → List ℕ
told_what (Came user) = codes "login"
told_what (Refused user cause) = codes "refused"
told_what (RefusedUnnamed cause) = codes "refused"
told_what (Quit user) = codes "end"
told_what (Closed user) = codes "end"
told_what (FellBehind user) = codes "end"
told_what (Denied user buffer decision) = codes "denied"
told_what (Saved user buffer) = codes "save"
told_what (Crowded user) = codes "more"

abbrev pub told_buffer : Told → Option (List ℕ)
told_buffer (Came user) = None
told_buffer (Refused user cause) = None
told_buffer (RefusedUnnamed cause) = None
told_buffer (Quit user) = None
told_buffer (Closed user) = None
told_buffer (FellBehind user) = None
told_buffer (Denied user buffer decision) = Some buffer
told_buffer (Saved user buffer) = Some buffer
told_buffer (Crowded user) = None

abbrev pub refusal_word : Refusal → List ℕ
refusal_word Line = codes "no login line"
refusal_word NoUser = codes "no user"
refusal_word Ticket = codes "ticket"
refusal_word Size = codes "size"
refusal_word Full = codes "full"
refusal_word Short = codes "no memory"

-- the right that was denied, and the entry that denied it, counted from 1
abbrev pub decision_detail : Decision → List ℕ
decision_detail Granted = []
decision_detail (DeniedBy entry bit) = right_name bit ++ codes " entry " ++ decimal entry
decision_detail (NotGranted bit) = right_name bit ++ codes " no entry"

abbrev pub told_detail : Told → List ℕ
told_detail (Came user) = []
told_detail (Refused user cause) = refusal_word cause
told_detail (RefusedUnnamed cause) = refusal_word cause
told_detail (Quit user) = codes "quit"
told_detail (Closed user) = codes "closed"
told_detail (FellBehind user) = codes "slow"
told_detail (Denied user buffer decision) = decision_detail decision
told_detail (Saved user buffer) = []
told_detail (Crowded user) = codes "over 256 acts of one key"

-- an event of that user, or one that counts those of a user past the limit
abbrev pub kind_user : EventKind → Option (List ℕ)
kind_user (One told) = told_user told
kind_user (More user) = user

abbrev pub kind_what : EventKind → List ℕ
kind_what (One told) = told_what told
kind_what (More user) = codes "more"

abbrev pub kind_buffer : EventKind → Option (List ℕ)
kind_buffer (One told) = told_buffer told
kind_buffer (More user) = None

-- how often it was told, if that was more than once
abbrev pub times : ℕ → List ℕ
times count = if nat_lt 1 count then codes " x " ++ decimal count else []

abbrev pub kind_detail : EventKind → ℕ → List ℕ
kind_detail (One told) count = told_detail told ++ times count
kind_detail (More user) count = decimal count ++ codes " events"

-- the row of an event: its time, its user, what happened, the buffer and the detail
abbrev pub told_row : Gathered → Row
told_row e = event_row e.at (kind_user e.kind) (kind_what e.kind) (text_or_empty (kind_buffer e.kind)) (kind_detail e.kind e.count)

-- Logins as the code holds them.
use Rattle.std.specs.Prelude.{◌≡◌, Result, Ok, Err}
use Rattle.mgs_wire.specs.declared.login.Login.{Login}
use Rattle.mgs_wire.specs.declared.login.Opening.{Opening}
use Rattle.mgs_wire.specs.declared.refusal.Refusal.{Refusal}
use Rattle.mgs_wire.specs.Login as said

abbrev pub login_view : Login → said.Login
login_view l = record { name = l.name.now; ticket = l.ticket.now; rows = l.rows; cols = l.cols }

abbrev pub opening_view : Opening → said.Opening
opening_view o = record { user = o.user.now; rows = o.rows; cols = o.cols }

-- exactly the session that is to be opened, or the refusal
abbrev pub Admits : Result Opening Refusal → Result said.Opening Refusal → Type 0
Admits (Ok o) due = due ≡ Ok (opening_view o)
Admits (Err r) due = due ≡ Err r

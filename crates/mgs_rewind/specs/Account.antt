-- THE ACCOUNT OF RIGHTS: what the events, one after another, tell of the rights of all buffers.
use Rattle.std.specs.Prelude.{ℤ, pos, ◌+ℤ◌, Bool, ◌&&◌, ◌||◌, List, [], Option, None, Some, fold, codes, bytes_eq, is_some, string_bytes, unwrap_or, if◌then◌else◌}
use Rattle.std.specs.Ordering.{int_eq}
use Rattle.std.specs.Prelude.{ℕ}
use Rattle.mgs_tables.specs.declared.rows.Event.{Event}
use Rattle.mgs_rewind.specs.RowChanges.{ToldRights, rows_created, rows_stated, rows_killed, rows_changed}
use Rattle.mgs_rewind.specs.declared.part.Part.TheVariants as part

pub record Account : Type 0 where
  -- the rights of each buffer, in the order of creation
  pub rows : List ToldRights
  -- the number of the last event; 0 before the first
  pub last : ℤ
  -- the number of the first event that does not follow from those before it
  pub wrong : Option ℤ

-- before the first event
abbrev pub first_account : Account
first_account = record { rows = []; last = pos 0; wrong = None }

-- what an event makes of the rows, by what it tells, the buffer's name and the detail; None: it does not follow from those before it
abbrev pub rows_told : List ℕ → List ℕ → List ℕ → List ToldRights → Option (List ToldRights)
rows_told what name detail rows =
    if bytes_eq what (codes "create") then rows_created name detail rows
    else if bytes_eq what (codes "is") then rows_stated name detail rows
    else if bytes_eq what (codes "kill") then Some (rows_killed name rows)
    else if bytes_eq what (codes "list") then rows_changed part.List name detail rows
    else if bytes_eq what (codes "owner") then rows_changed part.Owner name detail rows
    else if bytes_eq what (codes "group") then rows_changed part.Group name detail rows
    else Some rows

abbrev pub rows_after : List ToldRights → Event → Option (List ToldRights)
rows_after rows e = rows_told (string_bytes e.what) (string_bytes e.buffer) (string_bytes e.detail) rows

-- the first event of a file that follows another has the number after the last one there
abbrev pub begins_file : ℤ → List ℕ → Bool
begins_file last what = int_eq last (pos 0) && bytes_eq what (codes "file")

-- else events are numbered one after another
abbrev pub is_next : ℤ → List ℕ → ℤ → Bool
is_next last what number = begins_file last what || int_eq number (last +ℤ pos 1)

-- the first wrong event stays the first
abbrev pub wrong_after : Option ℤ → Bool → ℤ → Option ℤ
wrong_after (Some first) follows number = Some first
wrong_after None follows number = if follows then None else Some number

-- after one more event. One that does not follow leaves the rows as they were.
abbrev pub account_after : Account → Event → Account
account_after a e =
    record {
      rows = unwrap_or (rows_after a.rows e) a.rows;
      last = e.number;
      wrong = wrong_after a.wrong (is_next a.last (string_bytes e.what) e.number && is_some (rows_after a.rows e)) e.number;
    }

-- after the events of a page, in their order
abbrev pub accounted : Account → List Event → Account
accounted a events = fold account_after a events

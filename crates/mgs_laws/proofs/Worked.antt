-- Worked rows, computed by the definitions.
use Rattle.std.proofs.Common.{◌≡◌, ℕ, true, false, List, [], ◌∷◌, ◌++◌, Option, Some, None, refl}
use Rattle.std.specs.Prelude.{codes, replicate, Ok, Err}
use Rattle.mgs_model.specs.declared.owners.Owners.{Owners}
use Rattle.mgs_model.specs.declared.entry.EntryFault.TheVariants as faults
use Rattle.mgs_model.specs.Spelling.{entry_in}
use Rattle.mgs_model.specs.Access.{Directory, decision, owners_of}
use Rattle.mgs_model.specs.Keys.{key_read}
use Rattle.mgs_model.specs.Turns.{next}
use Rattle.mgs_model.specs.Rows.{Row, fitted, shown_row, shift_for}
use Rattle.mgs_model.specs.Cells.{glyph, own_columns}
use Rattle.mgs_model.proofs.Worked.{unicode_width}
use Rattle.mgs_model.specs.Picture.{Picture}
use Rattle.mgs_model.specs.World.{World, Buffer, find_session}
use Rattle.mgs_model.specs.Acts.{outcome}
use Rattle.mgs_model.specs.Events.{Event, Open, Byte, run, turns, most_turns, path}
use Rattle.mgs_model.specs.Draw.{draw, entry_text, listing_text, screen}
use Rattle.std.specs.Option.{option_map}
use Rattle.std.specs.Fmt.{digits}
use Rattle.mgs_model.specs.declared.right.Right.TheVariants.{ReadData, WriteData}
use Rattle.mgs_model.specs.declared.entry.Decision.TheVariants.{Granted, DeniedBy, NotGranted}
use Rattle.mgs_model.specs.declared.entry.Entry.{Entry}
use Rattle.mgs_model.specs.declared.entry.EntryType.TheVariants.{Allow, Deny}
use Rattle.mgs_model.specs.declared.entry.Who.TheVariants.{Owner, OwningGroup, Everyone, User, Group}

ann : List ℕ
ann = codes "ann"

abbrev row : List ℕ → Row
row xs = record { text = xs; reversed = false }

abbrev full : List Entry
full = record { entry_type = Allow; who = Owner; mask = 983175 } ∷ []

abbrev buffer_with : List ℕ → List Entry → Buffer
buffer_with text entries = record { name = codes "notes"; owners = record { owner = codes "ann"; group = None }; entries = entries; text = text; items = []; serial = 0; modified = false; file = false }

abbrev world_with : List Buffer → World
world_with buffers = record { directory = record { users = codes "ann" ∷ codes "bob" ∷ []; groups = [] }; buffers = buffers; sessions = []; next_id = 1 }

abbrev screen_after : World → List Event → ℕ → Option Picture
screen_after w es id = option_map (screen (run w es)) (find_session id (run w es).sessions)

abbrev blank : Row
blank = row (replicate 20 32)

-- ann types `hi`
stored_run : screen_after (world_with (buffer_with [] full ∷ [])) (Open 1 (codes "ann") 6 20 ∷ Byte 1 104 true None ∷ Byte 1 105 true None ∷ []) 1 ≡
    Some (record {
      rows = 6;
      cols = 20;
      lines = row (codes "hi                  ") ∷ blank ∷ blank ∷ blank ∷ record { text = codes "-**-notes-L1-C2-----"; reversed = true } ∷ blank ∷ [];
      row = 0;
      col = 2;
    })
unfolding digits draw outcome turns path most_turns next key_read glyph fitted shown_row
stored_run = refl

abbrev reversed : List ℕ → Row
reversed xs = record { text = xs; reversed = true }

-- five line feeds: the point is on line 6, the top on line 3
five_lines : screen_after (world_with (buffer_with [] full ∷ [])) (Open 1 (codes "ann") 6 20 ∷ Byte 1 13 true None ∷ Byte 1 13 true None ∷ Byte 1 13 true None ∷ Byte 1 13 true None ∷ Byte 1 13 true None ∷ []) 1 ≡
    Some (record { rows = 6; cols = 20; lines = blank ∷ blank ∷ blank ∷ blank ∷ reversed (codes "-**-notes-L6-C0-----") ∷ blank ∷ []; row = 3; col = 0 })
unfolding digits draw outcome turns path most_turns next key_read glyph fitted shown_row
five_lines = refl

-- a reader who may neither write nor append
refused_insertion : screen_after (world_with (buffer_with [] (record { entry_type = Allow; who = User (codes "ann"); mask = 129 } ∷ []) ∷ [])) (Open 1 (codes "ann") 6 20 ∷ Byte 1 120 true None ∷ []) 1 ≡
    Some (record { rows = 6; cols = 20; lines = blank ∷ blank ∷ blank ∷ blank ∷ reversed (codes "----notes-L1-C0-----") ∷ row (codes "Denied: no entry gr$") ∷ []; row = 0; col = 0 })
unfolding digits draw outcome turns path most_turns next key_read glyph fitted shown_row
refused_insertion = refl

-- C-f at the end, and C-b
at_the_end : screen_after (world_with (buffer_with (codes "hi") full ∷ [])) (Open 1 (codes "ann") 6 20 ∷ Byte 1 6 true None ∷ Byte 1 6 true None ∷ Byte 1 6 true None ∷ []) 1 ≡
    Some (record { rows = 6; cols = 20; lines = row (codes "hi                  ") ∷ blank ∷ blank ∷ blank ∷ reversed (codes "----notes-L1-C2-----") ∷ row (codes "End of buffer       ") ∷ []; row = 0; col = 2 })
unfolding digits draw outcome turns path most_turns next key_read glyph fitted shown_row
at_the_end = refl

back_once : screen_after (world_with (buffer_with (codes "hi") full ∷ [])) (Open 1 (codes "ann") 6 20 ∷ Byte 1 6 true None ∷ Byte 1 6 true None ∷ Byte 1 2 true None ∷ []) 1 ≡
    Some (record { rows = 6; cols = 20; lines = row (codes "hi                  ") ∷ blank ∷ blank ∷ blank ∷ reversed (codes "----notes-L1-C1-----") ∷ blank ∷ []; row = 0; col = 1 })
unfolding digits draw outcome turns path most_turns next key_read glyph fitted shown_row
back_once = refl

-- no memory for the act: it is not done, and the session is told
no_memory : screen_after (world_with (buffer_with [] full ∷ [])) (Open 1 (codes "ann") 6 20 ∷ Byte 1 104 true (Some 0) ∷ Byte 1 105 true None ∷ Byte 1 104 true (Some 0) ∷ []) 1 ≡
    Some (record { rows = 6; cols = 20; lines = row (codes "i                   ") ∷ blank ∷ blank ∷ blank ∷ reversed (codes "-**-notes-L1-C1-----") ∷ row (codes "No memory           ") ∷ []; row = 0; col = 1 })
unfolding digits draw outcome turns path most_turns next key_read glyph fitted shown_row
no_memory = refl

-- one who may only append sees no text, acts at its end, and sees no position
append_without_reading : screen_after (world_with (buffer_with (codes "abc") (record { entry_type = Allow; who = User (codes "bob"); mask = 132 } ∷ []) ∷ [])) (Open 1 (codes "bob") 6 20 ∷ Byte 1 120 true None ∷ []) 1 ≡
    Some (record { rows = 6; cols = 20; lines = row (codes "[no read: no entry] ") ∷ blank ∷ blank ∷ blank ∷ reversed (codes "-**-notes-(no read)-") ∷ blank ∷ []; row = 0; col = 0 })
unfolding digits draw outcome turns path most_turns next key_read glyph fitted shown_row
append_without_reading = refl

-- an entry denies the reading, and a motion
denied_reading : screen_after (world_with (buffer_with [] (record { entry_type = Deny; who = User (codes "bob"); mask = 1 } ∷ record { entry_type = Allow; who = User (codes "bob"); mask = 132 } ∷ []) ∷ [])) (Open 1 (codes "bob") 6 20 ∷ Byte 1 6 true None ∷ []) 1 ≡
    Some (record { rows = 6; cols = 20; lines = row (codes "[no read: entry 1]  ") ∷ blank ∷ blank ∷ blank ∷ reversed (codes "----notes-(no read)-") ∷ row (codes "Denied: entry 1 den$") ∷ []; row = 0; col = 0 })
unfolding digits draw outcome turns path most_turns next key_read glyph fitted shown_row
denied_reading = refl

-- a user to whom no buffer is shown
no_buffer : screen_after (world_with (buffer_with (codes "abc") [] ∷ [])) (Open 1 (codes "bob") 6 20 ∷ Byte 1 120 true None ∷ []) 1 ≡
    Some (record { rows = 6; cols = 20; lines = blank ∷ blank ∷ blank ∷ blank ∷ reversed (codes "-None---------------") ∷ row (codes "No buffer           ") ∷ []; row = 0; col = 0 })
unfolding digits draw outcome turns path most_turns next key_read glyph fitted shown_row
no_buffer = refl

-- a control character, DEL and a character past ASCII, and a TAB that is typed before them
tab_and_controls : screen_after (world_with (buffer_with (120 ∷ 1 ∷ 127 ∷ 233 ∷ []) full ∷ [])) (Open 1 (codes "ann") 6 20 ∷ Byte 1 9 true None ∷ []) 1 ≡
    Some (record { rows = 6; cols = 20; lines = row (codes "        x^A^?" ++ 233 ∷ codes "      ") ∷ blank ∷ blank ∷ blank ∷ reversed (codes "-**-notes-L1-C8-----") ∷ blank ∷ []; row = 0; col = 8 })
unfolding digits draw outcome turns path most_turns next key_read glyph own_columns unicode_width fitted shown_row
tab_and_controls = refl

-- DECISIONS

abbrev owned_by : List ℕ → Owners
owned_by user = owners_of user None

people : Directory
people = record { users = codes "ann" ∷ codes "bob" ∷ codes "cat" ∷ []; groups = [] }

three : List Entry
three =
    record { entry_type = Allow; who = User (codes "ann"); mask = 1 }
    ∷ record { entry_type = Deny; who = User (codes "ann"); mask = 3 }
    ∷ record { entry_type = Allow; who = Everyone; mask = 2 } ∷ []

ann_both : decision people (owned_by (codes "cat")) (codes "ann") three 3 ≡ DeniedBy 2 WriteData
unfolding people three
ann_both = refl

ann_reads : decision people (owned_by (codes "cat")) (codes "ann") three 1 ≡ Granted
unfolding people three
ann_reads = refl

bob_both : decision people (owned_by (codes "cat")) (codes "bob") three 3 ≡ NotGranted ReadData
unfolding people three
bob_both = refl

-- the least entry that denies, and its lowest right
two_denials : decision people (owned_by (codes "cat")) (codes "ann") (record { entry_type = Deny; who = User (codes "ann"); mask = 2 } ∷ record { entry_type = Deny; who = User (codes "ann"); mask = 1 } ∷ []) 3 ≡ DeniedBy 1 WriteData
unfolding people
two_denials = refl

one_denial : decision people (owned_by (codes "cat")) (codes "ann") (record { entry_type = Deny; who = User (codes "ann"); mask = 3 } ∷ []) 3 ≡ DeniedBy 1 ReadData
unfolding people
one_denial = refl

-- a group
staffed : Directory
staffed = record { users = codes "ann" ∷ codes "bob" ∷ []; groups = record { name = codes "staff"; members = codes "ann" ∷ codes "bob" ∷ [] } ∷ [] }

owner_then_staff : List Entry
owner_then_staff = record { entry_type = Allow; who = Owner; mask = 7 } ∷ record { entry_type = Deny; who = Group (codes "staff"); mask = 2 } ∷ []

owner_of_staff : decision staffed (owned_by (codes "ann")) (codes "ann") owner_then_staff 7 ≡ Granted
unfolding staffed owner_then_staff
owner_of_staff = refl

staff_writes : decision staffed (owned_by (codes "ann")) (codes "bob") owner_then_staff 2 ≡ DeniedBy 2 WriteData
unfolding staffed owner_then_staff
staff_writes = refl

staff_reads : decision staffed (owned_by (codes "ann")) (codes "bob") owner_then_staff 1 ≡ NotGranted ReadData
unfolding staffed owner_then_staff
staff_reads = refl

-- an owning group: its members, whom the owner is none of
three_people : Directory
three_people = record { users = codes "ann" ∷ codes "bob" ∷ codes "cat" ∷ []; groups = record { name = codes "staff"; members = codes "ann" ∷ codes "bob" ∷ [] } ∷ [] }

by_group : List Entry
by_group =
    record { entry_type = Allow; who = OwningGroup; mask = 129 }
    ∷ record { entry_type = Deny; who = Everyone; mask = 1 }
    ∷ record { entry_type = Allow; who = Owner; mask = 983175 } ∷ []

of_staff : Owners
of_staff = owners_of (codes "cat") (Some (codes "staff"))

member_reads : decision three_people of_staff (codes "bob") by_group 1 ≡ Granted
unfolding three_people by_group of_staff
member_reads = refl

owner_is_no_member : decision three_people of_staff (codes "cat") by_group 1 ≡ DeniedBy 2 ReadData
unfolding three_people by_group of_staff
owner_is_no_member = refl

owner_gives_away : decision three_people of_staff (codes "cat") by_group 524288 ≡ Granted
unfolding three_people by_group of_staff
owner_gives_away = refl

-- no group, and one that is not there, have no members
none_has_none : decision three_people (owned_by (codes "cat")) (codes "bob") by_group 1 ≡ DeniedBy 2 ReadData
unfolding three_people by_group
none_has_none = refl

unknown_has_none : decision three_people (owners_of (codes "cat") (Some (codes "crew"))) (codes "bob") by_group 1 ≡ DeniedBy 2 ReadData
unfolding three_people by_group
unknown_has_none = refl

-- ITS SPELLING

group_read : entry_in (codes "ALLOW GROUP@ r") ≡ Ok (record { entry_type = Allow; who = OwningGroup; mask = 1 })
group_read = refl

group_printed : entry_text (record { entry_type = Allow; who = OwningGroup; mask = 1 }) ≡ codes "ALLOW GROUP@ r"
group_printed = refl

group_misspelled : entry_in (codes "ALLOW GROUP r") ≡ Err faults.Who
group_misspelled = refl

-- THE LISTING

group_listed : listing_text (record { name = codes "notes"; modified = true; size = 2; owners = owners_of (codes "ann") (Some (codes "staff")) }) ≡ codes "*       2 notes ann:staff"
unfolding digits
group_listed = refl

none_listed : listing_text (record { name = codes "notes"; modified = true; size = 2; owners = owned_by (codes "ann") }) ≡ codes "*       2 notes ann"
unfolding digits
none_listed = refl

-- LONG LINES

xs_of : ℕ → List ℕ
xs_of n = replicate n 120

at_column_18 : shown_row 20 (shift_for 20 18) (xs_of 300) ≡ replicate 19 120 ++ 36 ∷ []
unfolding shown_row fitted xs_of
at_column_18 = refl

at_column_19 : shown_row 20 (shift_for 20 19) (xs_of 300) ≡ 36 ∷ replicate 18 120 ++ 36 ∷ []
unfolding shown_row fitted xs_of
at_column_19 = refl

at_column_299 : shown_row 20 (shift_for 20 299) (xs_of 300) ≡ 36 ∷ replicate 11 120 ++ replicate 8 32
unfolding shown_row fitted xs_of
at_column_299 = refl

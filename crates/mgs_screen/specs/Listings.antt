-- The listing of all buffers and an access list, as a screen shows them of the kept buffers.
use Rattle.std.specs.Prelude.{◌≡◌, ℕ, Bool, ◌+◌, ◌-◌, nat_le, nat_lt, ◌&&◌, List, [], ◌∷◌, map, Option, Some, None, if◌then◌else◌}
use Rattle.std.specs.List.{flat_map}
use Rattle.mgs_model.specs.Access.{Directory, decider, decision_by}
use Rattle.mgs_model.specs.World.{Buffer, may}
use Rattle.mgs_model.specs.Picture.{Picture}
use Rattle.mgs_model.specs.Rows.{plain_row}
use Rattle.mgs_grid.specs.Panes.{with_rows}
use Rattle.mgs_model.specs.View.{BufferSeen, buffer_seen, find_seen}
use Rattle.mgs_model.specs.Seen.{Pane, No_pane, Attributes, EntriesSeen, Listed, Unlisted, attributes_of, if_granted, listing_pane, entries_pane}
use Rattle.mgs_model.specs.Draw.{entries_shown, pane_rows, rows_from, listing_text}
use Rattle.mgs_model.specs.declared.right.Right.TheVariants.{ReadAcl, ReadAttributes}
use Rattle.mgs_buffers.specs.Found.{Named}
use Rattle.mgs_buffers.specs.MarkedBuffer.{MarkedBuffer, marked_at}
use Rattle.mgs_windows.specs.declared.RowPane.{RowPane}
use Rattle.mgs_windows.specs.declared.RowPane.TheVariants.{NoRows, Buffers, Entries}
use Rattle.mgs_world.specs.Worlds.{buffers_of}
use Rattle.mgs_screen.specs.declared.list_rows.Sight.{Sight}

-- the listing, as its user sees it
abbrev pub listing_to : Directory → List ℕ → List MarkedBuffer → ℕ → Pane
listing_to directory user ks row = listing_pane row (map (buffer_seen directory user) (buffers_of ks))

-- a buffer's access list, as its user sees it
abbrev pub entries_to : Directory → List ℕ → List MarkedBuffer → List ℕ → ℕ → Pane
entries_to directory user ks name row = entries_pane row (find_seen name (map (buffer_seen directory user) (buffers_of ks)))

-- what a window without a text shows
abbrev pub rows_to : Directory → List ℕ → List MarkedBuffer → RowPane → Pane
rows_to directory user ks NoRows = No_pane
rows_to directory user ks (Buffers row) = listing_to directory user ks row
rows_to directory user ks (Entries name row) = entries_to directory user ks name row

-- in its rows
abbrev pub IsPaneDrawn : ℕ → ℕ → Pane → Picture → Picture → Type 0
IsPaneDrawn first height pane old new =
    (selected : Bool) → new ≡ with_rows first (pane_rows selected old.cols height pane) old

-- a buffer's entries, where its access list may be read, and else why not
abbrev pub entries_told : Directory → List ℕ → Buffer → EntriesSeen
entries_told directory user b =
    if may directory user ReadAcl b then Listed b.entries else Unlisted (decision_by (decider directory b.owners user b.entries) (ReadAcl ∷ []))

-- its name, where its attributes may be read
abbrev pub name_to : Directory → List ℕ → List MarkedBuffer → List ℕ → Option (List ℕ)
name_to directory user ks name = if may directory user ReadAttributes (marked_at name ks).buffer then Some name else None

-- ROWS OF A LIST

-- a pane, and its mode line below
abbrev pub IsDrawnInSight : Sight → Pane → Picture → Picture → Type 0
IsDrawnInSight s pane old new = IsPaneDrawn s.first s.height pane old new

-- in which row of the screen the one of a number is drawn, where it is in sight
abbrev pub place_in : Sight → ℕ → Option ℕ
place_in s number = if nat_le s.row number && nat_lt (number - s.row) s.height then Some (s.first + (number - s.row)) else None

-- whether the one of a number, and each after it, is below those in sight
abbrev pub past_sight : Sight → ℕ → Bool
past_sight s number = nat_le s.row number && nat_le s.height (number - s.row)

abbrev pub drawn_at : Option ℕ → List ℕ → Picture → Picture
drawn_at None text p = p
drawn_at (Some at) text p = with_rows at (plain_row p.cols text ∷ []) p

-- the row of a number
abbrev pub row_drawn : Sight → ℕ → List ℕ → Picture → Picture
row_drawn s number text p = drawn_at (place_in s number) text p

-- a buffer's row, where it is told of
abbrev pub buffer_drawn : Sight → ℕ → Option Attributes → Picture → Picture
buffer_drawn s number None p = p
buffer_drawn s number (Some a) p = row_drawn s number (listing_text a) p

-- all rows
abbrev pub drawn : Sight → List (List ℕ) → Picture → Picture
drawn s texts p = with_rows s.first (rows_from p.cols s.height s.row texts) p

-- the rows of the access list of a buffer that was found, as its user sees them
abbrev pub acl_drawn : Sight → Directory → List ℕ → Named → Picture → Picture
acl_drawn s directory user f p = drawn s (entries_shown (entries_told directory user (marked_at f.name f.all).buffer)) p

-- what is told of buffers
abbrev pub listed : Directory → List ℕ → List MarkedBuffer → List Attributes
listed directory user ks = flat_map (λ (b : BufferSeen). if_granted (attributes_of b)) (map (buffer_seen directory user) (buffers_of ks))

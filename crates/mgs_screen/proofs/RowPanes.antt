-- What a window shows in place of a text, and how many rows a window has.
use Rattle.std.proofs.Common.{◌≡◌, ℕ, ◌+◌, Bool, true, false, List, [], ◌∷◌, ◌++◌, length, map, Option, Some, None, refl, ap, ◌∙◌, arith, length-append}
use Rattle.std.specs.Prelude.{codes}
use Rattle.mgs_model.specs.Access.{Directory, decider, decision_by}
use Rattle.mgs_model.specs.Rows.{Row, mode_row, buffer_mode, none_mode, blank_rows, unread_rows}
use Rattle.mgs_model.specs.World.{may}
use Rattle.mgs_model.specs.View.{BufferSeen, buffer_seen, find_seen, reads, window_seen}
use Rattle.mgs_model.specs.Seen.{No_pane, WindowPane, entries_pane, attributes_of, window_pane}
use Rattle.mgs_model.specs.Draw.{pane_rows, pane_cursor, rows_from, name_or_mask, window_rows}
use Rattle.mgs_model.specs.declared.right.Right.TheVariants.{ReadData}
use Rattle.mgs_model.specs.declared.entry.Decision.{Decision}
use Rattle.mgs_buffers.specs.MarkedBuffer.{MarkedBuffer, HasBuffer, has_buffer, marked_at}
use Rattle.mgs_windows.specs.declared.WindowMarks.{WindowMarks}
use Rattle.mgs_windows.specs.declared.Window.{Window}
use Rattle.mgs_windows.specs.declared.RowPane.{RowPane}
use Rattle.mgs_windows.specs.declared.RowPane.TheVariants.{NoRows, Buffers, Entries}
use Rattle.mgs_world.specs.Sound.{IsWindowSound}
use Rattle.mgs_world.specs.Worlds.{buffers_of, window_shown}
use Rattle.mgs_world.proofs.Found.{unseen}
use Rattle.mgs_grid.proofs.Pictures.{length-blank_rows, length-unread_rows}
use Rattle.mgs_screen.specs.Screens.{heading_to, window_to}
use Rattle.mgs_screen.specs.Listings.{entries_to, rows_to}
use Rattle.mgs_screen.proofs.Drawings.{length_window_marks, shown_kept, window_read, window_unread}
use Rattle.mgs_screen.proofs.Sights.{length-rows_from}

abbrev rows_pane : Directory → List ℕ → List MarkedBuffer → ℕ → RowPane → WindowPane
rows_pane d user ks height rows = record { height = height; pane = rows_to d user ks rows }

pub window_rowed : (d : Directory) (user : List ℕ) (ks : List MarkedBuffer) (w : Window) → w.shows ≡ None → window_to d user ks w ≡ rows_pane d user ks w.height w.rows
window_rowed d user ks w is =
    ap (λ (o : Option WindowMarks). window_pane (map (buffer_seen d user) (buffers_of ks)) (window_seen (reads d (buffers_of ks) user) (window_shown ks w.height o w.rows))) is
    ∙ by w.height w.rows
  where
    by : (height : ℕ) (rows : RowPane) → window_pane (map (buffer_seen d user) (buffers_of ks)) (window_seen (reads d (buffers_of ks) user) (window_shown ks height None rows)) ≡ rows_pane d user ks height rows
    by height NoRows = refl
    by height (Buffers row) = refl
    by height (Entries name row) = refl

-- its cursor is at its first cell
pub cursor_rowed : (cols height : ℕ) (d : Directory) (user : List ℕ) (ks : List MarkedBuffer) (rows : RowPane) → pane_cursor cols height (rows_to d user ks rows) ≡ (0, 0)
cursor_rowed cols height d user ks NoRows = refl
cursor_rowed cols height d user ks (Buffers row) = refl
cursor_rowed cols height d user ks (Entries name row) = by (find_seen name (map (buffer_seen d user) (buffers_of ks)))
  where
    by : (o : Option BufferSeen) → pane_cursor cols height (entries_pane row o) ≡ (0, 0)
    by None = refl
    by (Some b) = refl

-- an access list of a buffer that is not there
pub entries_gone : (d : Directory) (user name : List ℕ) (ks : List MarkedBuffer) (row : ℕ) → has_buffer name ks ≡ false → entries_to d user ks name row ≡ No_pane
entries_gone d user name ks row gone = ap (λ (o : Option BufferSeen). entries_pane row o) (unseen d user name ks gone)

length_list : (cols height row : ℕ) (texts : List (List ℕ)) (mode : Row) → length (rows_from cols height row texts ++ mode ∷ []) ≡ height + 1
length_list cols height row texts mode = omega (arith, length-append (rows_from cols height row texts) (mode ∷ []), length-rows_from cols height row texts)

length_blank : (cols height : ℕ) (mode : Row) → length (blank_rows cols height ++ mode ∷ []) ≡ height + 1
length_blank cols height mode = omega (arith, length-append (blank_rows cols height) (mode ∷ []), length-blank_rows cols height)

pub length_rows : (selected : Bool) (cols height : ℕ) (d : Directory) (user : List ℕ) (ks : List MarkedBuffer) (rows : RowPane) → length (pane_rows selected cols height (rows_to d user ks rows)) ≡ height + 1
length_rows selected cols height d user ks NoRows = length_blank cols height (mode_row cols none_mode)
length_rows selected cols height d user ks (Buffers row) = length_list cols height row _ (mode_row cols (codes "-Buffers"))
length_rows selected cols height d user ks (Entries name row) = by (find_seen name (map (buffer_seen d user) (buffers_of ks)))
  where
    by : (o : Option BufferSeen) → length (pane_rows selected cols height (entries_pane row o)) ≡ height + 1
    by None = length_blank cols height (mode_row cols none_mode)
    by (Some b) = length_list cols height row _ (mode_row cols (codes "-Acl-" ++ name_or_mask (attributes_of b)))

-- as many rows as a window has
pub length_window : (selected : Bool) (cols : ℕ) (d : Directory) (user : List ℕ) (ks : List MarkedBuffer) (w : Window) → IsWindowSound ks w → length (window_rows selected cols (window_to d user ks w)) ≡ w.height + 1
length_window selected cols d user ks w sound =
    let goal : Type 0 = length (window_rows selected cols (window_to d user ks w)) ≡ w.height + 1 in
    let read : (x : WindowMarks) → w.shows ≡ Some x → (r : Bool) → may d user ReadData (marked_at x.name ks).buffer ≡ r → goal =
    λ x. λ is.
    let kept : HasBuffer x.name ks = shown_kept ks w x sound is in
    let decision : Decision = decision_by (decider d (marked_at x.name ks).buffer.owners user (marked_at x.name ks).buffer.entries) (ReadData ∷ []) in
    let mode : List Row = mode_row cols (buffer_mode (heading_to d user ks x.name) None) ∷ [] in
    λ r. elim r as (λ r. may d user ReadData (marked_at x.name ks).buffer ≡ r → goal) [
      | true ↦ λ can. ap (λ (rows : List Row). length rows) (window_read selected cols d user ks w x is kept can) ∙ length_window_marks selected cols w.height (marked_at x.name ks) (heading_to d user ks x.name) x
      | false ↦ λ can. ap (λ (rows : List Row). length rows) (window_unread selected cols d user ks w x is kept can)
          ∙ omega (arith, length-append (unread_rows cols w.height decision) mode, length-unread_rows cols w.height decision)
    ] in
    let go : (o : Option WindowMarks) → w.shows ≡ o → goal = λ o. elim o as (λ o. w.shows ≡ o → goal) [
      | None ↦ λ is. ap (λ (p : WindowPane). length (window_rows selected cols p)) (window_rowed d user ks w is) ∙ length_rows selected cols w.height d user ks w.rows
      | Some x ↦ λ is. read x is (may d user ReadData (marked_at x.name ks).buffer) refl
    ] in
    go w.shows refl

-- Rows that are drawn one below the other, and what a window shows.
use Rattle.std.proofs.Common.{◌≡◌, ℕ, zero, suc, ◌+◌, ◌-◌, ◌<◌, ◌≤◌, Bool, true, false, List, [], ◌∷◌, ◌++◌, length, map, take, drop, get_or, Option, Some, None, refl, sym, ap, ◌∙◌, arith, append_assoc, length-append, eq-eqb}
use Rattle.std.specs.Prelude.{slice_get, nat_eq, if◌then◌else◌}
use Rattle.std.specs.Option.{option_map}
use Rattle.std.proofs.Math.Seq.{take-append_seam, drop-append-add}
use Rattle.std.proofs.lemmas.Bool.{ne_eqb}
use Rattle.std.proofs.lemmas.List.{length-map, length-take, drop-drop, drop_all, append-nil, drop_more}
use Rattle.std.proofs.lemmas.List.Folds.{list_any_at}
use Rattle.mgs_model.specs.Rights.{all_rights}
use Rattle.mgs_model.specs.Access.{Directory, Decider, decider, decision_by, allows, any_right}
use Rattle.mgs_model.specs.Lines.{line_of, line_start, column}
use Rattle.mgs_model.specs.Rows.{Row, mode_row, buffer_mode, unread_rows, text_rows, shift_at, echo_row}
use Rattle.mgs_grid.specs.Cells.{rows_put}
use Rattle.mgs_model.specs.Picture.{Picture}
use Rattle.mgs_model.specs.World.{Buffer, may}
use Rattle.mgs_model.specs.View.{BufferSeen, Positions, buffer_seen, reads, reads_found, window_seen, positions_if, told_if, full_if}
use Rattle.mgs_model.specs.Seen.{WindowPane, Text_pane, text_seen, attributes_seen, attributes_of, text_pane, window_pane}
use Rattle.mgs_model.specs.Draw.{draw, screen, read_rows, place_of, point_row, point_shift, window_rows, windows_rows, window_cursor, first_row, heading_of, state_line, cursor_in_mode}
use Rattle.mgs_model.specs.declared.right.Right.{Right}
use Rattle.mgs_model.specs.declared.right.Right.TheVariants.{ReadData, ReadAttributes}
use Rattle.mgs_buffers.specs.MarkedBuffer.{MarkedBuffer, marked_at, HasBuffer, IsMark, mark_at}
use Rattle.mgs_marks.specs.Marks.{position_in}
use Rattle.mgs_windows.specs.declared.WindowMarks.{WindowMarks}
use Rattle.mgs_windows.specs.declared.Window.{Window}
use Rattle.mgs_windows.specs.declared.RowPane.{RowPane}
use Rattle.mgs_windows.specs.Panes.{room_of}
use Rattle.mgs_session.specs.declared.State.{State}
use Rattle.mgs_session.specs.declared.Session.{Session}
use Rattle.mgs_world.specs.Worlds.{buffers_of, window_shown, window_of, world_of, session_of, state_of}
use Rattle.mgs_screen.specs.Screens as screens
use Rattle.mgs_screen.specs.Screens.{IsMeasured, window_to, windows_to, heading_to, window_marks_rows, window_marks_cursor}
use Rattle.mgs_model.specs.declared.entry.Decision.{Decision}
use Rattle.mgs_screen.proofs.Canvas.{IsPut, is_put}
use Rattle.mgs_world.specs.Sound.{IsWindowSound, window_marks_uses}
use Rattle.mgs_world.proofs.Soundness.{in_use_mark, mark_is_kept, shown_sound, top_used, window_point}
use Rattle.mgs_grid.proofs.Pictures.{length-text_rows}
use Rattle.mgs_world.proofs.Found.{found_buffer, found_seen, name_kept}

-- ROWS BELOW ROWS

-- what stands before the end of what was put
take_put : (first : ℕ) (new old : List Row) → first + length new ≤ length old → take (first + length new) (rows_put first new old) ≡ take first old ++ new
take_put first new old fits =
    let n : length (take first old ++ new) ≡ first + length new = omega (arith, length-append (take first old) new, length-take first old, fits) in
    ap (λ (k : ℕ). take k (rows_put first new old)) (sym n) ∙ take-append_seam (take first old ++ new) (drop (first + length new) old)

-- what stands after it
drop_put : (first k : ℕ) (new old : List Row) → first + length new ≤ length old → drop (first + length new + k) (rows_put first new old) ≡ drop (first + length new + k) old
drop_put first k new old fits =
    let n : length (take first old ++ new) + k ≡ first + length new + k = omega (arith, length-append (take first old) new, length-take first old, fits) in
    ap (λ (i : ℕ). drop i (rows_put first new old)) (sym n)
    ∙ drop-append-add (take first old ++ new) (drop (first + length new) old) k
    ∙ drop-drop k (first + length new) old

-- rows put below rows
pub put_below : (first : ℕ) (new more old : List Row) → first + length new ≤ length old → rows_put (first + length new) more (rows_put first new old) ≡ rows_put first (new ++ more) old
put_below first new more old fits =
    let n : first + length new + length more ≡ first + length (new ++ more) = omega (arith, length-append new more) in
    ap (λ (xs : List Row). xs ++ more ++ drop (first + length new + length more) (rows_put first new old)) (take_put first new old fits)
    ∙ ap (λ (ys : List Row). take first old ++ new ++ more ++ ys) (drop_put first (length more) new old fits)
    ∙ ap (λ (xs : List Row). xs ++ drop (first + length new + length more) old) (append_assoc (take first old) new more)
    ∙ ap (λ (k : ℕ). take first old ++ (new ++ more) ++ drop k old) n

-- a pane, and the mode line below it
pub below_rows : (first h : ℕ) (pane : List Row) (text : List ℕ) (old between new : Picture) → first + h ≤ length old.lines → length pane ≡ h
    → between ≡ record old { lines = rows_put first pane old.lines }
    → new ≡ record between { lines = rows_put (first + h) (mode_row between.cols text ∷ []) between.lines }
    → new ≡ record old { lines = rows_put first (pane ++ mode_row old.cols text ∷ []) old.lines }
below_rows first h pane text old between new fits n rows below =
    below
    ∙ ap (λ (p : Picture). record p { lines = rows_put (first + h) (mode_row p.cols text ∷ []) p.lines }) rows
    ∙ ap (λ (i : ℕ). record old { lines = rows_put (first + i) (mode_row old.cols text ∷ []) (rows_put first pane old.lines) }) (sym n)
    ∙ ap (λ (ls : List Row). record old { lines = ls }) (put_below first pane (mode_row old.cols text ∷ []) old.lines (omega (arith, n, fits)))

pub pane_put : (first h : ℕ) (pane : List Row) (text : List ℕ) (old between new : Picture) → first + h < old.rows → length old.lines ≡ old.rows → length pane ≡ h
    → between ≡ record old { lines = rows_put first pane old.lines }
    → new ≡ record between { lines = rows_put (first + h) (mode_row between.cols text ∷ []) between.lines }
    → IsPut first (pane ++ mode_row old.cols text ∷ []) old new
pane_put first h pane text old between new room count size put below =
    let mode : List Row = mode_row old.cols text ∷ [] in
    is_put first (pane ++ mode) old new (below_rows first h pane text old between new (omega (arith, room, count)) size put below) (omega (arith, length-append pane mode, size, room, count))

-- A TEXT THAT MAY BE READ

shift_same : (selected : Bool) (cols : ℕ) (text : List ℕ) (point : ℕ) → screens.screen_shift selected cols (column text point) ≡ point_shift selected cols text point
shift_same true cols text point = refl
shift_same false cols text point = refl

pub measured : (text : List ℕ) (point top line above row place start : ℕ) → line ≡ line_of text point → above ≡ line_of text top → row ≡ line - above → place ≡ column text point → start ≡ line_start text top → IsMeasured text point top line row place start
measured text point top line above row place start is over down at from = record {
  line_is = is;
  row_is = down ∙ ap (λ (n : ℕ). n - above) is ∙ ap (λ (n : ℕ). line_of text point - n) over;
  place_is = at;
  start_is = from;
}

pub text_drawn : (selected : Bool) (cols height : ℕ) (heading : Option (List ℕ × Bool)) (text : List ℕ) (point top line row place start shift : ℕ) → IsMeasured text point top line row place start → shift ≡ screens.screen_shift selected cols place
    → text_rows cols (shift_at row shift) 0 height (drop start text) ++ mode_row cols (buffer_mode heading (Some (line + 1, place))) ∷ []
    ≡ read_rows selected cols height text top point ++ mode_row cols (buffer_mode heading (place_of text point)) ∷ []
text_drawn selected cols height heading text point top line row place start shift is shifted =
    let moved : shift ≡ point_shift selected cols text point = shifted ∙ ap (screens.screen_shift selected cols) is.place_is ∙ shift_same selected cols text point in
    ap (λ (n : ℕ). text_rows cols (shift_at n shift) 0 height (drop start text) ++ mode_row cols (buffer_mode heading (Some (line + 1, place))) ∷ []) is.row_is
    ∙ ap (λ (n : ℕ). text_rows cols (shift_at (point_row text top point) n) 0 height (drop start text) ++ mode_row cols (buffer_mode heading (Some (line + 1, place))) ∷ []) moved
    ∙ ap (λ (n : ℕ). text_rows cols (shift_at (point_row text top point) (point_shift selected cols text point)) 0 height (drop n text) ++ mode_row cols (buffer_mode heading (Some (line + 1, place))) ∷ []) is.start_is
    ∙ ap (λ (n : ℕ). read_rows selected cols height text top point ++ mode_row cols (buffer_mode heading (Some (n + 1, place))) ∷ []) is.line_is
    ∙ ap (λ (n : ℕ). read_rows selected cols height text top point ++ mode_row cols (buffer_mode heading (Some (line_of text point + 1, n))) ∷ []) is.place_is

pub window_marks_drawn : (selected : Bool) (cols height : ℕ) (k : MarkedBuffer) (heading : Option (List ℕ × Bool)) (x : WindowMarks) (text : List ℕ) (point top : ℕ) → text ≡ k.buffer.text → point ≡ position_in k.marks x.point → top ≡ position_in k.marks x.top
    → read_rows selected cols height text top point ++ mode_row cols (buffer_mode heading (place_of text point)) ∷ [] ≡ window_marks_rows selected cols height k heading x
window_marks_drawn selected cols height k heading x text point top t p q =
    ap (λ (ys : List ℕ). read_rows selected cols height ys top point ++ mode_row cols (buffer_mode heading (place_of ys point)) ∷ []) t
    ∙ ap (λ (n : ℕ). read_rows selected cols height k.buffer.text top n ++ mode_row cols (buffer_mode heading (place_of k.buffer.text n)) ∷ []) p
    ∙ ap (λ (n : ℕ). read_rows selected cols height k.buffer.text n (position_in k.marks x.point) ++ mode_row cols (buffer_mode heading (place_of k.buffer.text (position_in k.marks x.point))) ∷ []) q

-- THE PANE OF A WINDOW

reads_kept : (d : Directory) (user : List ℕ) (ks : List MarkedBuffer) (name : List ℕ) → HasBuffer name ks → reads d (buffers_of ks) user name ≡ may d user ReadData (marked_at name ks).buffer
reads_kept d user ks name kept = ap (reads_found d user) (found_buffer name ks kept)

-- the positions of a window that shows a buffer, where it may be read or not
abbrev marks_seen : Bool → List MarkedBuffer → WindowMarks → Option Positions
marks_seen can ks x = positions_if can (mark_at x.name ks x.point) (option_map (mark_at x.name ks) x.mark) (mark_at x.name ks x.top)

abbrev why_not : Directory → List ℕ → Buffer → Decision
why_not d user b = decision_by (decider d b.owners user b.entries) (ReadData ∷ [])

-- what such a window shows
abbrev marks_pane : Directory → List ℕ → List MarkedBuffer → ℕ → Bool → WindowMarks → WindowPane
marks_pane d user ks height can x =
    let b : Buffer = (marked_at x.name ks).buffer in
    record { height = height; pane = Text_pane (text_seen (why_not d user b) (full_if can b) (marks_seen can ks x)) (attributes_of (buffer_seen d user b)) }

pane_shown : (d : Directory) (user : List ℕ) (ks : List MarkedBuffer) (w : Window) (x : WindowMarks) (can : Bool) → w.shows ≡ Some x → HasBuffer x.name ks → may d user ReadData (marked_at x.name ks).buffer ≡ can
    → window_to d user ks w ≡ marks_pane d user ks w.height can x
pane_shown d user ks w x can is kept granted =
    let b : Buffer = (marked_at x.name ks).buffer in
    ap (λ (o : Option WindowMarks). window_pane (map (buffer_seen d user) (buffers_of ks)) (window_seen (reads d (buffers_of ks) user) (window_shown ks w.height o w.rows))) is
    ∙ ap (λ (o : Option BufferSeen). let p : WindowPane = record { height = w.height; pane = text_pane o (marks_seen (reads d (buffers_of ks) user x.name) ks x) } in p) (found_seen d user x.name ks kept)
    ∙ ap (λ (r : Bool). let p : WindowPane = record { height = w.height; pane = text_pane (Some (buffer_seen d user b)) (marks_seen r ks x) } in p) (reads_kept d user ks x.name kept)
    ∙ ap (λ (r : Bool). marks_pane d user ks w.height r x) granted

-- a right that is granted is some right
some_right : (deciders : Right → Decider) → allows (deciders ReadAttributes) ≡ true → any_right deciders ≡ true
some_right deciders is = list_any_at (λ (right : Right). allows (deciders right)) all_rights 3 ReadAttributes (omega arith) is

heading_seen : (d : Directory) (user : List ℕ) (ks : List MarkedBuffer) (name : List ℕ) → HasBuffer name ks → heading_of (attributes_of (buffer_seen d user (marked_at name ks).buffer)) ≡ heading_to d user ks name
heading_seen d user ks name kept =
    let b : Buffer = (marked_at name ks).buffer in
    let deciders : Right → Decider = decider d b.owners user b.entries in
    let goal : Bool → Type 0 = λ r. heading_of (attributes_seen r b.name (told_if (any_right deciders) b)) ≡ (if r then Some (name, b.modified) else None) in
    let go : (r : Bool) → allows (deciders ReadAttributes) ≡ r → goal r = λ r. elim r as (λ r. allows (deciders ReadAttributes) ≡ r → goal r) [
      | true ↦ λ is. ap (λ (any : Bool). heading_of (attributes_seen true b.name (told_if any b))) (some_right deciders is) ∙ ap (λ (n : List ℕ). Some (n, b.modified)) (name_kept name ks kept)
      | false ↦ λ is. refl
    ] in
    go (allows (deciders ReadAttributes)) refl

-- WHAT A WINDOW SHOWS

pub window_read : (selected : Bool) (cols : ℕ) (d : Directory) (user : List ℕ) (ks : List MarkedBuffer) (w : Window) (x : WindowMarks) → w.shows ≡ Some x → HasBuffer x.name ks → may d user ReadData (marked_at x.name ks).buffer ≡ true
    → window_rows selected cols (window_to d user ks w) ≡ window_marks_rows selected cols w.height (marked_at x.name ks) (heading_to d user ks x.name) x
window_read selected cols d user ks w x is kept can =
    ap (window_rows selected cols) (pane_shown d user ks w x true is kept can)
    ∙ ap (λ (h : Option (List ℕ × Bool)). window_marks_rows selected cols w.height (marked_at x.name ks) h x) (heading_seen d user ks x.name kept)

pub window_cursor_read : (cols : ℕ) (d : Directory) (user : List ℕ) (ks : List MarkedBuffer) (w : Window) (x : WindowMarks) → w.shows ≡ Some x → HasBuffer x.name ks → may d user ReadData (marked_at x.name ks).buffer ≡ true
    → window_cursor cols (Some (window_to d user ks w)) ≡ window_marks_cursor cols w.height (marked_at x.name ks) x
window_cursor_read cols d user ks w x is kept can = ap (λ (p : WindowPane). window_cursor cols (Some p)) (pane_shown d user ks w x true is kept can)

pub window_unread : (selected : Bool) (cols : ℕ) (d : Directory) (user : List ℕ) (ks : List MarkedBuffer) (w : Window) (x : WindowMarks) → w.shows ≡ Some x → HasBuffer x.name ks → may d user ReadData (marked_at x.name ks).buffer ≡ false
    → window_rows selected cols (window_to d user ks w)
    ≡ unread_rows cols w.height (decision_by (decider d (marked_at x.name ks).buffer.owners user (marked_at x.name ks).buffer.entries) (ReadData ∷ [])) ++ mode_row cols (buffer_mode (heading_to d user ks x.name) None) ∷ []
window_unread selected cols d user ks w x is kept can =
    ap (window_rows selected cols) (pane_shown d user ks w x false is kept can)
    ∙ ap (λ (h : Option (List ℕ × Bool)). unread_rows cols w.height (why_not d user (marked_at x.name ks).buffer) ++ mode_row cols (buffer_mode h None) ∷ []) (heading_seen d user ks x.name kept)

pub window_cursor_unread : (cols : ℕ) (d : Directory) (user : List ℕ) (ks : List MarkedBuffer) (w : Window) (x : WindowMarks) → w.shows ≡ Some x → HasBuffer x.name ks → may d user ReadData (marked_at x.name ks).buffer ≡ false
    → window_cursor cols (Some (window_to d user ks w)) ≡ (0, 0)
window_cursor_unread cols d user ks w x is kept can = ap (λ (p : WindowPane). window_cursor cols (Some p)) (pane_shown d user ks w x false is kept can)

-- THE WINDOWS OF A SESSION

-- what a window shows is kept
pub shown_kept : (ks : List MarkedBuffer) (w : Window) (x : WindowMarks) → IsWindowSound ks w → w.shows ≡ Some x → HasBuffer x.name ks
shown_kept ks w x sound is = mark_is_kept x.name x.point ks (window_point ks w x sound is)

pub window_top : (ks : List MarkedBuffer) (w : Window) (x : WindowMarks) → IsWindowSound ks w → w.shows ≡ Some x → IsMark x.name x.top ks
window_top ks w x sound is =
    let used : window_marks_uses x.name x.top w.shows ≡ window_marks_uses x.name x.top (Some x) = ap (window_marks_uses x.name x.top) is in
    in_use_mark ks x.name x.top (omega (arith, (shown_sound ks w sound).once x.name x.top, used, top_used x))

-- as many rows as a window has
pub length_window_marks : (selected : Bool) (cols height : ℕ) (k : MarkedBuffer) (heading : Option (List ℕ × Bool)) (x : WindowMarks) → length (window_marks_rows selected cols height k heading x) ≡ height + 1
length_window_marks selected cols height k heading x =
    let text : List ℕ = k.buffer.text in
    let top : ℕ = position_in k.marks x.top in
    let point : ℕ = position_in k.marks x.point in
    let mode : Row = mode_row cols (buffer_mode heading (place_of text point)) in
    let pane : List Row = read_rows selected cols height text top point in
    omega (arith, length-append pane (mode ∷ []), length-text_rows cols (shift_at (point_row text top point) (point_shift selected cols text point)) 0 height (drop (line_start text top) text))

-- one more window is drawn below those before it
pub rows_more : (d : Directory) (user : List ℕ) (ks : List MarkedBuffer) (cols selected i first : ℕ) (ws : List Window) (w : Window) (old new : List Row) (rows : List Row)
    → w ≡ get_or ws i w → i < length ws → first + (w.height + 1) ≤ length old
    → length (window_rows (nat_eq i selected) cols (window_to d user ks w)) ≡ w.height + 1
    → new ≡ rows_put first (window_rows (nat_eq i selected) cols (window_to d user ks w)) old
    → take first old ++ windows_rows i selected cols (windows_to d user ks (drop i ws)) ≡ rows
    → take (first + (w.height + 1)) new ++ windows_rows (i + 1) selected cols (windows_to d user ks (drop (i + 1) ws)) ≡ rows
rows_more d user ks cols selected i first ws w old new rows is within fits size put so_far =
    let mine : List Row = window_rows (nat_eq i selected) cols (window_to d user ks w) in
    let rest : List Row = windows_rows (i + 1) selected cols (windows_to d user ks (drop (i + 1) ws)) in
    let at : first + (w.height + 1) ≡ first + length mine = omega (arith, size) in
    let next : drop i ws ≡ w ∷ drop (i + 1) ws = drop_more ws i w within ∙ ap (λ (v : Window). v ∷ drop (i + 1) ws) (sym is) in
    ap (λ (ls : List Row). take (first + (w.height + 1)) ls ++ rest) put
    ∙ ap (λ (n : ℕ). take n (rows_put first mine old) ++ rest) at
    ∙ ap (λ (ls : List Row). ls ++ rest) (take_put first mine old (omega (arith, fits, size)))
    ∙ append_assoc (take first old) mine rest
    ∙ sym (ap (λ (vs : List Window). take first old ++ windows_rows i selected cols (windows_to d user ks vs)) next)
    ∙ so_far

-- the cursor after the rest of the windows, where it is at `cursor` before them
abbrev pub cursor_from : ℕ → ℕ → ℕ → ℕ → ℕ × ℕ → List WindowPane → ℕ × ℕ
cursor_from i selected cols first cursor [] = cursor
cursor_from i selected cols first cursor (x ∷ xs) =
    cursor_from (i + 1) selected cols (first + (x.height + 1))
    (if nat_eq i selected then (first + (window_cursor cols (Some x)).0, (window_cursor cols (Some x)).1) else cursor) xs

-- after the selected window it stays
cursor_stays : (selected cols : ℕ) (i first : ℕ) (cursor : ℕ × ℕ) (xs : List WindowPane) → selected < i → cursor_from i selected cols first cursor xs ≡ cursor
cursor_stays selected cols i first cursor [] past = refl
cursor_stays selected cols i first cursor (x ∷ xs) past =
    rw (ne_eqb i selected (λ e. omega (arith, e, past))) (cursor_stays selected cols (i + 1) (first + (x.height + 1)) cursor xs (omega (arith, past)))

cursor_at : (cols : ℕ) (n i selected first : ℕ) (cursor : ℕ × ℕ) (xs : List WindowPane) → selected ≡ i + n → n < length xs
    → cursor_from i selected cols first cursor xs ≡ (first + first_row n xs + (window_cursor cols (slice_get xs n)).0, (window_cursor cols (slice_get xs n)).1)
cursor_at cols n i selected first cursor [] at within = absurd (omega arith)
cursor_at cols zero i selected first cursor (x ∷ xs) at within =
    let c : ℕ × ℕ = window_cursor cols (Some x) in
    let zero_more : first + c.0 ≡ first + 0 + c.0 = omega arith in
    rw (eq-eqb i selected (omega (arith, at))) (
    cursor_stays selected cols (i + 1) (first + (x.height + 1)) (first + c.0, c.1) xs (omega (arith, at))
    ∙ ap (λ (k : ℕ). let p : ℕ × ℕ = (k, c.1) in p) zero_more)
cursor_at cols (suc n) i selected first cursor (x ∷ xs) at within =
    let c : ℕ × ℕ = window_cursor cols (slice_get xs n) in
    let sum : first + (x.height + 1) + first_row n xs + c.0 ≡ first + (x.height + 1 + first_row n xs) + c.0 = omega arith in
    rw (ne_eqb i selected (λ e. omega (arith, at, e))) (
    cursor_at cols n (i + 1) selected (first + (x.height + 1)) cursor xs (omega (arith, at)) (omega (arith, within))
    ∙ ap (λ (k : ℕ). let p : ℕ × ℕ = (k, c.1) in p) sum)

height_shown : (ks : List MarkedBuffer) (height : ℕ) (o : Option WindowMarks) (rows : RowPane) → (window_shown ks height o rows).height ≡ height
height_shown ks height None rows = refl
height_shown ks height (Some x) rows = refl

-- one more window
pub cursor_more : (d : Directory) (user : List ℕ) (ks : List MarkedBuffer) (cols selected i first : ℕ) (ws : List Window) (w : Window) (old new c mine : ℕ × ℕ)
    → w ≡ get_or ws i w → i < length ws → mine ≡ window_cursor cols (Some (window_to d user ks w))
    → new ≡ (if nat_eq i selected then (first + mine.0, mine.1) else old)
    → cursor_from i selected cols first old (windows_to d user ks (drop i ws)) ≡ c
    → cursor_from (i + 1) selected cols (first + (w.height + 1)) new (windows_to d user ks (drop (i + 1) ws)) ≡ c
cursor_more d user ks cols selected i first ws w old new c mine is within its here so_far =
    let rest : List WindowPane = windows_to d user ks (drop (i + 1) ws) in
    let next : drop i ws ≡ w ∷ drop (i + 1) ws = drop_more ws i w within ∙ ap (λ (v : Window). v ∷ drop (i + 1) ws) (sym is) in
    ap (λ (p : ℕ × ℕ). cursor_from (i + 1) selected cols (first + (w.height + 1)) p rest) here
    ∙ ap (λ (p : ℕ × ℕ). cursor_from (i + 1) selected cols (first + (w.height + 1)) (if nat_eq i selected then (first + p.0, p.1) else old) rest) its
    ∙ ap (λ (n : ℕ). cursor_from (i + 1) selected cols (first + (n + 1)) (if nat_eq i selected then (first + (window_cursor cols (Some (window_to d user ks w))).0, (window_cursor cols (Some (window_to d user ks w))).1) else old) rest) (sym (height_shown ks w.height w.shows w.rows))
    ∙ sym (ap (λ (vs : List Window). cursor_from i selected cols first old (windows_to d user ks vs)) next)
    ∙ so_far

length_windows : (d : Directory) (user : List ℕ) (ks : List MarkedBuffer) (ws : List Window) → length (windows_to d user ks ws) ≡ length ws
length_windows d user ks ws =
    length-map (map (window_seen (reads d (buffers_of ks) user)) (map (window_of ks) ws)) (window_pane (map (buffer_seen d user) (buffers_of ks)))
    ∙ length-map (map (window_of ks) ws) (window_seen (reads d (buffers_of ks) user))
    ∙ length-map ws (window_of ks)

-- the cursor of the selected window
abbrev pub cursor_of : ℕ → ℕ → List WindowPane → ℕ × ℕ
cursor_of selected cols xs = (first_row selected xs + (window_cursor cols (slice_get xs selected)).0, (window_cursor cols (slice_get xs selected)).1)

-- after all windows it is there
pub cursor_all : (d : Directory) (user : List ℕ) (ks : List MarkedBuffer) (cols selected i first : ℕ) (ws : List Window) (cursor : ℕ × ℕ) → selected < length ws → length ws ≤ i
    → cursor_from i selected cols first cursor (windows_to d user ks (drop i ws)) ≡ cursor_from 0 selected cols 0 (0, 0) (windows_to d user ks ws)
    → cursor ≡ cursor_of selected cols (windows_to d user ks ws)
cursor_all d user ks cols selected i first ws cursor within past so_far =
    let xs : List WindowPane = windows_to d user ks ws in
    let c : ℕ × ℕ = window_cursor cols (slice_get xs selected) in
    let sum : 0 + first_row selected xs + c.0 ≡ first_row selected xs + c.0 = omega arith in
    sym (ap (λ (vs : List Window). cursor_from i selected cols first cursor (windows_to d user ks vs)) (drop_all i ws past))
    ∙ so_far
    ∙ cursor_at cols selected 0 selected 0 (0, 0) xs (omega arith) (omega (arith, within, length_windows d user ks ws))
    ∙ ap (λ (n : ℕ). let p : ℕ × ℕ = (n, c.1) in p) sum

-- and the rows are all there, but for the echo row
pub rows_all : (d : Directory) (user : List ℕ) (ks : List MarkedBuffer) (cols selected i first : ℕ) (ws : List Window) (old rows : List Row) (echo : Row) → length ws ≤ i → first + room_of (drop i ws) + 1 ≡ length old
    → take first old ++ windows_rows i selected cols (windows_to d user ks (drop i ws)) ≡ rows
    → rows_put first (echo ∷ []) old ≡ rows ++ echo ∷ []
rows_all d user ks cols selected i first ws old rows echo past room so_far =
    let none : drop i ws ≡ [] = drop_all i ws past in
    let full : first + 1 ≡ length old = omega (arith, room, ap room_of none) in
    let done : take first old ≡ rows =
    sym (append-nil (take first old))
    ∙ sym (ap (λ (vs : List Window). take first old ++ windows_rows i selected cols (windows_to d user ks vs)) none)
    ∙ so_far in
    ap (λ (rest : List Row). take first old ++ echo ∷ [] ++ rest) (drop_all (first + 1) old (omega (arith, full)))
    ∙ append-nil (take first old ++ echo ∷ [])
    ∙ ap (λ (xs : List Row). xs ++ echo ∷ []) done

-- THE SCREEN

-- behind the line of a prompt, where one is shown, and else at the point
abbrev pub cursor_in : State → ℕ → ℕ → ℕ × ℕ → ℕ × ℕ
cursor_in state rows cols point = cursor_in_mode (state_of state).mode rows cols (state_line (state_of state)) point

screen_is : (d : Directory) (ks : List MarkedBuffer) (x : Session) (sessions : List Session) (next : Option ℕ) (p : Picture)
    → p.rows ≡ x.windows.rows → p.cols ≡ x.cols
    → p.lines ≡ windows_rows 0 x.windows.selected x.cols (windows_to d x.user ks x.windows.windows) ++ echo_row x.cols (state_line (state_of x.state)) x.state.echo ∷ []
    → p.row ≡ (cursor_in x.state x.windows.rows x.cols (cursor_of x.windows.selected x.cols (windows_to d x.user ks x.windows.windows))).0
    → p.col ≡ (cursor_in x.state x.windows.rows x.cols (cursor_of x.windows.selected x.cols (windows_to d x.user ks x.windows.windows))).1
    → p ≡ screen (world_of d ks sessions next) (session_of ks x)
unfolding draw
screen_is d ks x sessions next p rows cols lines row col =
    let s : Picture = screen (world_of d ks sessions next) (session_of ks x) in
    ap (λ (n : ℕ). let q : Picture = record { rows = n; cols = p.cols; lines = p.lines; row = p.row; col = p.col } in q) rows
    ∙ ap (λ (n : ℕ). let q : Picture = record { rows = x.windows.rows; cols = n; lines = p.lines; row = p.row; col = p.col } in q) cols
    ∙ ap (λ (ls : List Row). let q : Picture = record { rows = x.windows.rows; cols = x.cols; lines = ls; row = p.row; col = p.col } in q) lines
    ∙ ap (λ (n : ℕ). let q : Picture = record { rows = x.windows.rows; cols = x.cols; lines = s.lines; row = n; col = p.col } in q) row
    ∙ ap (λ (n : ℕ). let q : Picture = record { rows = x.windows.rows; cols = x.cols; lines = s.lines; row = s.row; col = n } in q) col

-- the same, where the windows, the selected one and the size are read off the session first
pub session_drawn : (d : Directory) (ks : List MarkedBuffer) (x : Session) (sessions : List Session) (next : Option ℕ) (ws : List Window) (selected rows cols : ℕ) (point : ℕ × ℕ) (p : Picture)
    → ws ≡ x.windows.windows → selected ≡ x.windows.selected → rows ≡ x.windows.rows → cols ≡ x.cols
    → p.rows ≡ rows → p.cols ≡ cols
    → p.lines ≡ windows_rows 0 selected cols (windows_to d x.user ks ws) ++ echo_row cols (state_line (state_of x.state)) x.state.echo ∷ []
    → p.row ≡ (cursor_in x.state rows cols point).0 → p.col ≡ (cursor_in x.state rows cols point).1
    → point ≡ cursor_of selected cols (windows_to d x.user ks ws)
    → p ≡ screen (world_of d ks sessions next) (session_of ks x)
session_drawn d ks x sessions next ws selected rows cols point p all chosen high wide rows_are cols_are lines row col there =
    let on : cursor_in x.state rows cols point ≡ cursor_in x.state x.windows.rows x.cols (cursor_of x.windows.selected x.cols (windows_to d x.user ks x.windows.windows)) =
    ap (cursor_in x.state rows cols) there
    ∙ ap (λ (vs : List Window). cursor_in x.state rows cols (cursor_of selected cols (windows_to d x.user ks vs))) all
    ∙ ap (λ (n : ℕ). cursor_in x.state rows cols (cursor_of n cols (windows_to d x.user ks x.windows.windows))) chosen
    ∙ ap (λ (n : ℕ). cursor_in x.state n cols (cursor_of x.windows.selected cols (windows_to d x.user ks x.windows.windows))) high
    ∙ ap (λ (n : ℕ). cursor_in x.state x.windows.rows n (cursor_of x.windows.selected n (windows_to d x.user ks x.windows.windows))) wide in
    screen_is d ks x sessions next p (rows_are ∙ high) (cols_are ∙ wide)
    (lines
    ∙ ap (λ (vs : List Window). windows_rows 0 selected cols (windows_to d x.user ks vs) ++ echo_row cols (state_line (state_of x.state)) x.state.echo ∷ []) all
    ∙ ap (λ (n : ℕ). windows_rows 0 n cols (windows_to d x.user ks x.windows.windows) ++ echo_row cols (state_line (state_of x.state)) x.state.echo ∷ []) chosen
    ∙ ap (λ (n : ℕ). windows_rows 0 x.windows.selected n (windows_to d x.user ks x.windows.windows) ++ echo_row n (state_line (state_of x.state)) x.state.echo ∷ []) wide)
    (row ∙ ap (λ (c : ℕ × ℕ). c.0) on) (col ∙ ap (λ (c : ℕ × ℕ). c.1) on)

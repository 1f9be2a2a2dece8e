use Rattle.std.proofs.Common.{◌≡◌, ◌+◌, ◌<◌, ◌++◌, ℕ, Bool, true, List, [], ◌∷◌, length, drop, get_or, Some, refl, sym, ap, ◌∙◌, subst, arith, eq-eqb}
use Rattle.std.specs.Prelude.{nat_eq, if◌then◌else◌}
use Rattle.std.proofs.lemmas.Bool.{ne_eqb}
use Rattle.std.proofs.lemmas.List.{drop_more}
use Rattle.mgs_model.specs.Access.{Directory}
use Rattle.mgs_model.specs.Rows.{Row, echo_row}
use Rattle.mgs_grid.specs.Cells.{rows_put}
use Rattle.mgs_model.specs.Picture.{Picture}
use Rattle.mgs_model.specs.Draw.{window_rows, windows_rows, window_cursor, state_line}
use Rattle.mgs_buffers.specs.MarkedBuffer.{MarkedBuffer}
use Rattle.mgs_windows.specs.declared.Window.{Window}
use Rattle.mgs_windows.specs.Panes.{room_of}
use Rattle.mgs_session.specs.declared.Session.{Session}
use Rattle.mgs_world.specs.Sound.{IsWindowSound}
use Rattle.mgs_world.specs.Worlds.{state_of}
use Rattle.mgs_screen.specs.Screens.{window_to, windows_to}
use Rattle.mgs_world.proofs.Soundness.{window_sound}
use Rattle.mgs_world.specs.Worlds.{buffers_of}
use Rattle.mgs_grid.proofs.Pictures.{length-rows_put}
use Rattle.mgs_screen.proofs.Canvas.{IsPut, drawn_then}
use Rattle.mgs_screen.proofs.TextsDrawn.{above_stay, above_all}
use Rattle.mgs_screen.proofs.Drawings.{rows_more, cursor_more, cursor_in, cursor_all, rows_all, session_drawn}
use Rattle.mgs_screen.proofs.RowPanes.{length_window}
use Rattle.mgs_screen.proofs.screen.redraw_session.Goals as goal
use Rattle.mgs_screen.proofs.screen.redraw_session.Goals.{then-i-selected, else-i-selected}

pub redraw_window-row-requires-clause-sound : goal.redraw_window-row-requires-clause-sound
redraw_window-row-requires-clause-sound g c =
    let v = c.as_slice-window-items.ensures.value in
    window_sound c.args.buffers.now c.args.session.now c.loop-i.i c.window-item.result c.requires.sound
    (c.window-item.is ∙ ap (λ (ws : List Window). get_or ws c.loop-i.i c.window-item.result) v)
    (subst (λ (ws : List Window). c.loop-i.i < length ws) v c.loop-i-test.true)

pub loop-i-preserved : goal.loop-i-preserved
loop-i-preserved g c =
    let d : Directory = c.args.directory.now in
    let user : List ℕ = c.args.session.now.user in
    let ks : List MarkedBuffer = c.args.buffers.now in
    let selected : ℕ = c.selected-selected.result in
    let cols : ℕ = c.args.grid.now.cols in
    let ws : List Window = c.as_slice-window-items.result.now in
    let i : ℕ = c.loop-i.i in
    let first : ℕ = c.loop-i.first in
    let w : Window = c.window-item.result in
    let old : List Row = c.loop-i.grid.lines in
    let inv = c.loop-i.invariant in
    let v = c.as_slice-window-items.ensures.value in
    let sound : IsWindowSound ks w = window_sound ks c.args.session.now i w c.requires.sound
    (c.window-item.is ∙ ap (λ (vs : List Window). get_or vs i w) v)
    (subst (λ (vs : List Window). i < length vs) v c.loop-i-test.true) in
    let mine : List Row = window_rows (nat_eq i selected) cols (window_to d user ks w) in
    let size : length mine ≡ w.height + 1 = length_window (nat_eq i selected) cols d user ks w sound in
    let next : room_of (drop i ws) ≡ w.height + 1 + room_of (drop (i + 1) ws) = ap room_of (drop_more ws i w c.loop-i-test.true ∙ ap (λ (u : Window). u ∷ drop (i + 1) ws) (sym c.window-item.is)) in
    let put : c.redraw_window-row.new.grid.lines ≡ rows_put first mine old =
    c.redraw_window-row.ensures.lines ∙ ap (λ (n : ℕ). rows_put first (window_rows (nat_eq i selected) n (window_to d user ks w)) old) inv.drawn.cols in
    let shown : ℕ × ℕ = window_cursor cols (Some (window_to d user ks w)) in
    let cursor : c.if-i-selected.cursor ≡ (if nat_eq i selected then (first + shown.0, shown.1) else c.loop-i.cursor) = elim c.if-i-selected.branch [
      | then-i-selected b ↦
          let same : nat_eq i selected ≡ true = eq-eqb i selected b.if-i-selected.true in
          b.cursor-is
          ∙ ap (λ (p : ℕ × ℕ). let q : ℕ × ℕ = (first + p.0, p.1) in q) (c.redraw_window-row.ensures.cursor same ∙ ap (λ (n : ℕ). window_cursor n (Some (window_to d user ks w))) inv.drawn.cols)
          ∙ sym (ap (λ (r : Bool). if r then (first + shown.0, shown.1) else c.loop-i.cursor) same)
      | else-i-selected b ↦
          b.cursor-is
          ∙ sym (ap (λ (r : Bool). if r then (first + shown.0, shown.1) else c.loop-i.cursor) (ne_eqb i selected b.if-i-selected.false))
    ] in
    let row : c.if-i-selected.cursor.0 < c.args.grid.now.rows = elim c.if-i-selected.branch [
      | then-i-selected b ↦ let e : c.if-i-selected.cursor.0 ≡ first + c.redraw_window-row.result.0 = ap (λ (p : ℕ × ℕ). p.0) b.cursor-is in omega (arith, e, c.redraw_window-row.ensures.cell.row, inv.room, next)
      | else-i-selected b ↦ let e : c.if-i-selected.cursor.0 ≡ c.loop-i.cursor.0 = ap (λ (p : ℕ × ℕ). p.0) b.cursor-is in omega (arith, e, inv.cell.row)
    ] in
    let col : c.if-i-selected.cursor.1 < cols = elim c.if-i-selected.branch [
      | then-i-selected b ↦ let e : c.if-i-selected.cursor.1 ≡ c.redraw_window-row.result.1 = ap (λ (p : ℕ × ℕ). p.1) b.cursor-is in omega (arith, e, c.redraw_window-row.ensures.cell.col, inv.drawn.cols)
      | else-i-selected b ↦ let e : c.if-i-selected.cursor.1 ≡ c.loop-i.cursor.1 = ap (λ (p : ℕ × ℕ). p.1) b.cursor-is in omega (arith, e, inv.cell.col)
    ] in
    record {
      judged = c.redraw_window-row.ensures.judged;
      drawn = drawn_then c.none.result c.loop-i.redraw.rows c.redraw_window-row.new.redraw.rows c.args.grid.now c.loop-i.grid c.redraw_window-row.new.grid inv.drawn c.redraw_window-row.ensures.drawn;
      count = ap length put ∙ length-rows_put first mine old (omega (arith, size, inv.room, inv.count, next)) ∙ inv.count;
      room = omega (arith, inv.room, next);
      cell = record { row = row; col = col };
      lines_are = rows_more d user ks cols selected i first ws w old c.redraw_window-row.new.grid.lines _ c.window-item.is c.loop-i-test.true (omega (arith, inv.room, inv.count, next)) size put inv.lines_are;
      cursor_is = cursor_more d user ks cols selected i first ws w c.loop-i.cursor c.if-i-selected.cursor _ shown c.window-item.is c.loop-i-test.true refl cursor inv.cursor_is;
      stands = c.redraw_window-row.ensures.stands;
    }

pub returns-clause-grid : goal.returns-clause-grid
returns-clause-grid g c = λ sessions. λ next.
    let d : Directory = c.args.directory.now in
    let x : Session = c.args.session.now in
    let ks : List MarkedBuffer = c.args.buffers.now in
    let selected : ℕ = c.selected-selected.result in
    let old : Picture = c.args.grid.now in
    let drawn : Picture = c.loop-i.grid in
    let p : Picture = c.redraw_last_row.new.grid in
    let ws : List Window = c.as_slice-window-items.result.now in
    let inv = c.loop-i.invariant in
    let rows : List Row = windows_rows 0 selected old.cols (windows_to d x.user ks ws) in
    let echo : ℕ → Row = λ n. echo_row n (state_line (state_of x.state)) x.state.echo in
    let v : ws ≡ x.windows.windows = c.as_slice-window-items.ensures.value in
    let within : selected < length ws = omega (arith, c.selected-selected.ensures.within, c.selected-selected.ensures.value, ap (λ (vs : List Window). length vs) v) in
    let lines : p.lines ≡ rows ++ echo old.cols ∷ [] =
    ap (λ (q : Picture). q.lines) c.redraw_last_row.ensures.grid
    ∙ ap (λ (n : ℕ). rows_put c.loop-i.first (echo n ∷ []) drawn.lines) inv.drawn.cols
    ∙ rows_all d x.user ks old.cols selected c.loop-i.i c.loop-i.first ws drawn.lines rows (echo old.cols) c.loop-i-test.false (inv.room ∙ sym inv.count) inv.lines_are in
    let cursor : cursor_in x.state drawn.rows drawn.cols c.loop-i.cursor ≡ cursor_in x.state old.rows old.cols c.loop-i.cursor =
    ap (λ (n : ℕ). cursor_in x.state n drawn.cols c.loop-i.cursor) inv.drawn.rows ∙ ap (λ (n : ℕ). cursor_in x.state old.rows n c.loop-i.cursor) inv.drawn.cols in
    session_drawn d ks x sessions next ws selected old.rows old.cols c.loop-i.cursor p v c.selected-selected.ensures.value (sym c.requires.rows) (sym c.requires.cols)
    (c.redraw_last_row.ensures.drawn.rows ∙ inv.drawn.rows)
    (c.redraw_last_row.ensures.drawn.cols ∙ inv.drawn.cols)
    lines
    (ap (λ (q : Picture). q.row) c.redraw_last_row.ensures.grid ∙ ap (λ (n : ℕ × ℕ). n.0) cursor)
    (ap (λ (q : Picture). q.col) c.redraw_last_row.ensures.grid ∙ ap (λ (n : ℕ × ℕ). n.1) cursor)
    (cursor_all d x.user ks old.cols selected c.loop-i.i c.loop-i.first ws c.loop-i.cursor within c.loop-i-test.false inv.cursor_is)

pub returns-clause-stands : goal.returns-clause-stands
returns-clause-stands g c =
    let ks : List MarkedBuffer = c.args.buffers.now in
    let x : Session = c.args.session.now in
    let p : Picture = c.loop-i.grid in
    let q : Picture = c.redraw_last_row.new.grid in
    let inv = c.loop-i.invariant in
    let echo : Row = echo_row p.cols (state_line (state_of x.state)) x.state.echo in
    let put : IsPut c.loop-i.first (echo ∷ []) p q = record {
      lines = ap (λ (r : Picture). r.lines) c.redraw_last_row.ensures.grid;
      tall = c.redraw_last_row.ensures.drawn.rows;
      wide = c.redraw_last_row.ensures.drawn.cols;
      fits = omega (arith, inv.room, inv.count);
    } in
    above_all c.loop-i.first (buffers_of ks) q c.loop-i.redraw.texts (above_stay (buffers_of ks) p q c.loop-i.first c.loop-i.first (echo ∷ []) c.loop-i.redraw.texts put (omega arith) inv.stands.above)

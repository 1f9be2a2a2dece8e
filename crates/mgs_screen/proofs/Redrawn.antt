-- Those rows of a text that changed are drawn, where the others stand.
use Rattle.std.proofs.Common.{◌≡◌, ℕ, zero, suc, ◌+◌, ◌<◌, ◌≤◌, List, [], ◌∷◌, ◌++◌, Bool, length, drop, set, true, false, refl, sym, ap, ◌∙◌, arith}
use Rattle.std.specs.Prelude.{◌==◌, if◌then◌else◌}
use Rattle.std.specs.List.{before_first, after_first}
use Rattle.std.proofs.lemmas.Bool.{eq-eqb, ne_eqb}
use Rattle.std.proofs.lemmas.List.{append-nil, set_past}
use Rattle.mgs_model.specs.Cells.{cells}
use Rattle.mgs_model.specs.Lines.{is_feed, start_of}
use Rattle.mgs_model.specs.Picture.{Picture}
use Rattle.mgs_model.specs.Rows.{Row, text_rows, shift_at, shown_row}
use Rattle.mgs_grid.specs.Cells.{rows_put}
use Rattle.mgs_grid.specs.Panes.{AreSameBut, IsDrawnBut, TextPane, text_put}
use Rattle.mgs_grid.proofs.Edited.{edited_rows}
use Rattle.mgs_grid.proofs.Panes.{put_again, same_put}
use Rattle.mgs_grid.proofs.Pictures.{length-text_rows}
use Rattle.mgs_screen.specs.Changes.{IsLineEdited}
use Rattle.mgs_screen.specs.TextsDrawn.{DoesShow, rows_at, showing, shown_rows}
use Rattle.mgs_screen.specs.declared.drawn_texts.DrawnText.{DrawnText}
use Rattle.mgs_screen.specs.declared.drawn_texts.Shown.{Shown}
use Rattle.mgs_screen.proofs.TextsDrawn.{length-rows_at, length-shown_rows, put_same, put_there}

-- FROM WHICH COLUMNS ROWS ARE SHOWN

pub shift_here : (row shift i : ℕ) → i ≡ row → shift ≡ shift_at row shift i
shift_here row shift i here = rw (eq-eqb i row here) refl

pub shift_elsewhere : (row shift i : ℕ) → (i ≡ row → ⊥) → 0 ≡ shift_at row shift i
shift_elsewhere row shift i other = rw (ne_eqb i row other) refl

pub shift_other : (row from to i : ℕ) → (i ≡ row → ⊥) → shift_at row from i ≡ shift_at row to i
shift_other row from to i other = sym (shift_elsewhere row from i other) ∙ shift_elsewhere row to i other

no_shift : (b : Bool) → ◌≡◌ {A = ℕ} (if b then 0 else 0) 0
no_shift true = refl
no_shift false = refl

unshifted_at : (row i : ℕ) → shift_at row 0 i ≡ 0
unshifted_at row i = no_shift (i == row)

-- ROWS THAT ARE THE SAME BUT FOR ONE

-- where one row is shown from another column
rows_shifted : (cols j i h : ℕ) (olds news : ℕ → ℕ) (rest : List ℕ) → ((k : ℕ) → (k ≡ j + i → ⊥) → olds k ≡ news k) → AreSameBut i (text_rows cols olds j h rest) (text_rows cols news j h rest)
rows_shifted cols j i zero olds news rest same = λ r. refl
rows_shifted cols j zero (suc h) olds news rest same = edited_rows cols olds news j (suc h) [] [] [] rest refl refl same
rows_shifted cols j (suc i) (suc h) olds news rest same =
    let line : List ℕ = cells (before_first is_feed rest) in
    let below : List ℕ = after_first is_feed rest in
    let later = rows_shifted cols (j + 1) i h olds news below (λ k other. same k (λ at. other (omega (arith, at)))) in
    λ r.
    ap (λ s. let first : Row = record { text = shown_row cols s line; reversed = false } in first ∷ set (text_rows cols olds (j + 1) h below) i r) (same j (λ at. omega (arith, at)))
    ∙ ap (λ (rs : List Row). let first : Row = record { text = shown_row cols (news j) line; reversed = false } in first ∷ rs) (later r)

pub row_shifted : (cols row from to h : ℕ) (rest : List ℕ) → AreSameBut row (text_rows cols (shift_at row from) 0 h rest) (text_rows cols (shift_at row to) 0 h rest)
row_shifted cols row from to h rest = rows_shifted cols 0 row h (shift_at row from) (shift_at row to) rest (λ k other. shift_other row from to k (λ at. other (omega (arith, at))))

-- where a line of the text changed
pub rows_edited : (cols row from to h down was start : ℕ) (old new : List ℕ) → ((k : ℕ) → (k ≡ down → ⊥) → shift_at row from k ≡ shift_at row to k) → IsLineEdited down was start old new
    → AreSameBut down (text_rows cols (shift_at row from) 0 h (drop was old)) (text_rows cols (shift_at row to) 0 h (drop start new))
rows_edited cols row from to h down was start old new same e = λ r.
    ap (λ (ys : List ℕ). set (text_rows cols (shift_at row from) 0 h ys) down r) e.was
    ∙ ap (λ n. set (text_rows cols (shift_at row from) 0 h (e.before ++ (e.out ++ e.behind))) n r) e.lines
    ∙ edited_rows cols (shift_at row from) (shift_at row to) 0 h e.before e.out e.put e.behind e.none_out e.none_put (λ k other. same k (λ at. other (omega (arith, at, e.lines)))) r
    ∙ sym (ap (λ n. set (text_rows cols (shift_at row to) 0 h (e.before ++ (e.put ++ e.behind))) n r) e.lines)
    ∙ sym (ap (λ (ys : List ℕ). set (text_rows cols (shift_at row to) 0 h ys) down r) e.came)

-- where that one is none of them
same_past : (i : ℕ) (olds news : List Row) → length olds ≤ i → length news ≤ i → AreSameBut i olds news → news ≡ olds
same_past i olds news old new same =
    let blank : Row = record { text = []; reversed = false } in
    sym (set_past news i blank new) ∙ sym (same blank) ∙ set_past olds i blank old

unshifted : (cols row other h : ℕ) (rest : List ℕ) → text_rows cols (shift_at row 0) 0 h rest ≡ text_rows cols (shift_at other 0) 0 h rest
unshifted cols row other h rest =
    let rows : List Row = text_rows cols (shift_at row 0) 0 h rest in
    let others : List Row = text_rows cols (shift_at other 0) 0 h rest in
    same_past h others rows (omega (arith, length-text_rows cols (shift_at other 0) 0 h rest)) (omega (arith, length-text_rows cols (shift_at row 0) 0 h rest))
    (rows_shifted cols 0 h h (shift_at other 0) (shift_at row 0) rest (λ k past. unshifted_at other k ∙ sym (unshifted_at row k)))

-- A ROW THAT IS DRAWN WHERE THE OTHERS STAND

standing_put : (first h : ℕ) (olds : List Row) (p : Picture) → first + h ≤ length p.lines → rows_at first h p.lines ≡ olds → rows_put first olds p.lines ≡ p.lines
standing_put first h olds p fits stand = ap (λ (rs : List Row). rows_put first rs p.lines) (sym stand) ∙ put_same first h p.lines fits

length_standing : (first h : ℕ) (olds : List Row) (p : Picture) → first + h ≤ length p.lines → rows_at first h p.lines ≡ olds → length olds ≡ h
length_standing first h olds p fits stand = ap length (sym stand) ∙ length-rows_at first h p.lines fits

-- it is in sight
pub but_one : (i at from : ℕ) (pane : TextPane) (text : List ℕ) (olds : List Row) (p : Picture) → length p.lines ≡ p.rows → pane.first + pane.height ≤ p.rows → i < pane.height
    → at ≡ pane.top + start_of i (drop pane.top text) → from ≡ shift_at pane.row pane.shift i
    → rows_at pane.first pane.height p.lines ≡ olds → AreSameBut i olds (text_rows p.cols (shift_at pane.row pane.shift) 0 pane.height (drop pane.top text))
    → IsDrawnBut i (pane.first + i) at from pane text p
but_one i at from pane text olds p count room within line column stand same =
    let first : ℕ = pane.first in
    let h : ℕ = pane.height in
    let rest : List ℕ = drop pane.top text in
    let news : List Row = text_rows p.cols (shift_at pane.row pane.shift) 0 h rest in
    let size : length news ≡ h = length-text_rows p.cols (shift_at pane.row pane.shift) 0 h rest in
    let long : length olds ≡ h = length_standing first h olds p (omega (arith, count, room)) stand in
    record {
      place = refl;
      within = within;
      fits = room;
      line = line;
      column = column;
      others = λ r.
          ap (λ (ls : List Row). set ls (first + i) r) (sym (standing_put first h olds p (omega (arith, count, room)) stand))
          ∙ same_put first i olds news p.lines (long ∙ sym size) (omega (arith, size, within)) (omega (arith, count, room)) same r;
    }

-- the same picture, where the rows are the same
same_picture : (p : Picture) (ls : List Row) → ls ≡ p.lines → p ≡ record p { lines = ls }
same_picture p ls e = ap (λ (rs : List Row). record p { lines = rs }) (sym e)

-- it is out of sight
pub out_of_sight : (i first h top row shift : ℕ) (text : List ℕ) (olds : List Row) (p : Picture) → length p.lines ≡ p.rows → first + h ≤ p.rows → h ≤ i
    → rows_at first h p.lines ≡ olds → AreSameBut i olds (text_rows p.cols (shift_at row shift) 0 h (drop top text)) → p ≡ record p { lines = text_put first h row shift (drop top text) p }
out_of_sight i first h top row shift text olds p count room past stand same =
    let news : List Row = text_rows p.cols (shift_at row shift) 0 h (drop top text) in
    let size : length news ≡ h = length-text_rows p.cols (shift_at row shift) 0 h (drop top text) in
    let long : length olds ≡ h = length_standing first h olds p (omega (arith, count, room)) stand in
    same_picture p (text_put first h row shift (drop top text) p) (
    ap (λ (rs : List Row). rows_put first rs p.lines) (same_past i olds news (omega (arith, long, past)) (omega (arith, size, past)) same)
    ∙ standing_put first h olds p (omega (arith, count, room)) stand)

-- A TEXT THAT IS SHOWN

-- already
pub shown_already : (d : DrawnText) (row from to : ℕ) (text : List ℕ) (p : Picture) → length p.lines ≡ p.rows → d.first + d.height ≤ p.rows → from ≡ to → DoesShow d row from text p → p ≡ showing d row to text p
shown_already d row from to text p count room same stand =
    same_picture p (text_put d.first d.height row to (drop d.shown.start text) p) (
    standing_put d.first d.height (shown_rows p.cols d row to text) p (omega (arith, count, room))
    (stand ∙ ap (λ n. shown_rows p.cols d row n text) same))

-- from elsewhere in another one
pub shown_moved : (d : DrawnText) (e : Shown) (row shift : ℕ) (old text : List ℕ) (p : Picture) → DoesShow (record d { shown = e }) row shift old p → drop e.start old ≡ drop d.shown.start text → DoesShow d row shift text p
shown_moved d e row shift old text p stand same = stand ∙ ap (text_rows p.cols (shift_at row shift) 0 d.height) same

-- it is there
pub shown_there : (d : DrawnText) (row shift : ℕ) (text : List ℕ) (p q : Picture) → d.first ≤ length p.lines → q ≡ showing d row shift text p → DoesShow d row shift text q
shown_there d row shift text p q begins is =
    let new : List Row = shown_rows p.cols d row shift text in
    ap (λ (x : Picture). rows_at d.first d.height x.lines) is
    ∙ ap (λ (rs : List Row). rows_at d.first d.height (rows_put d.first rs p.lines)) (sym (append-nil new))
    ∙ put_there d.first d.height new [] p.lines begins (length-shown_rows p.cols d row shift text)
    ∙ ap (λ n. shown_rows n d row shift text) (sym (ap (λ (x : Picture). x.cols) is))

-- where no row is shifted, any row is shown from column 0
pub shown_unshifted : (d : DrawnText) (row other : ℕ) (text : List ℕ) (p : Picture) → DoesShow d row 0 text p → DoesShow d other 0 text p
shown_unshifted d row other text p stand = stand ∙ unshifted p.cols row other d.height (drop d.shown.start text)

-- one text over another
pub shown_over : (d : DrawnText) (row shift top from : ℕ) (old new : List ℕ) (p q r : Picture) → d.first ≤ length p.lines → q ≡ showing d row shift old p → r ≡ showing d top from new q → r ≡ showing d top from new p
shown_over d row shift top from old new p q r begins first second =
    let olds : List Row = shown_rows p.cols d row shift old in
    let news : List Row = shown_rows p.cols d top from new in
    let size : length olds ≡ length news = length-shown_rows p.cols d row shift old ∙ sym (length-shown_rows p.cols d top from new) in
    second
    ∙ ap (showing d top from new) first
    ∙ ap (λ (ls : List Row). record p { lines = ls }) (put_again d.first olds news p.lines size begins)

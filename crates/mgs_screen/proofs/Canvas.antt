-- Rows that are drawn, and the set of them.
use Rattle.std.proofs.Common.{◌≡◌, ℕ, ◌+◌, ◌<◌, ◌≤◌, ◌^◌, Bool, true, List, length, take, refl, sym, ap, subst, ◌∙◌, arith}
use Rattle.std.specs.List.{count_by}
use Rattle.std.proofs.lemmas.List.{length-take-le}
use Rattle.std.proofs.lemmas.List.Sums.{count_by-le-length}
use Rattle.mgs_model.specs.Lines.{is_feed}
use Rattle.mgs_model.specs.Picture.{Picture}
use Rattle.mgs_model.specs.Rows.{Row}
use Rattle.mgs_grid.specs.Cells.{rows_put}
use Rattle.mgs_grid.specs.Panes.{with_rows}
use Rattle.mgs_grid.specs.RowSets.{has_row, AreIn, AreSameApart}
use Rattle.mgs_grid.proofs.RowSets.{in_refl, in_then, put_apart, same_refl, same_then}
use Rattle.mgs_screen.specs.Canvas.{IsDrawnOn, IsPane}
use Rattle.mgs_screen.specs.declared.drawn_texts.DrawnText.{DrawnText}

-- rows put in a picture's lines
pub record IsPut (first : ℕ) (new : List Row) (p q : Picture) : Type 0 where
  pub lines : q.lines ≡ rows_put first new p.lines
  pub tall : q.rows ≡ p.rows
  pub wide : q.cols ≡ p.cols
  pub fits : first + length new ≤ length p.lines

pub is_put : (first : ℕ) (new : List Row) (p q : Picture) → q ≡ with_rows first new p → first + length new ≤ length p.lines → IsPut first new p q
is_put first new p q is fits = record {
  lines = ap (λ (r : Picture). r.lines) is;
  tall = ap (λ (r : Picture). r.rows) is;
  wide = ap (λ (r : Picture). r.cols) is;
  fits = fits;
}

-- all of them are in the set
pub put_drawn : (before after : List Bool) (first count : ℕ) (new : List Row) (p q : Picture) → IsPut first new p q → length new ≡ count → AreIn before after
    → ((i : ℕ) → first ≤ i → i < first + count → has_row i after ≡ true) → IsDrawnOn before after p q
put_drawn before after first count new p q put size kept in_set = record {
  rows = put.tall;
  cols = put.wide;
  kept = kept;
  apart = subst (λ (ls : List Row). AreSameApart after p.lines ls) (sym put.lines) (put_apart after first count new p.lines size in_set (omega (arith, size, put.fits)));
}

-- one row alone
pub row_drawn : (before after : List Bool) (at : ℕ) (new : List Row) (p q : Picture) → IsPut at new p q → length new ≡ 1 → AreIn before after
    → has_row at after ≡ true → IsDrawnOn before after p q
row_drawn before after at new p q put size kept in_set =
    put_drawn before after at 1 new p q put size kept (λ i from to. let same : i ≡ at = omega arith in ap (λ n. has_row n after) same ∙ in_set)

-- nothing is drawn
pub nothing_drawn : (set : List Bool) (p : Picture) → IsDrawnOn set set p p
nothing_drawn set p = record { rows = refl; cols = refl; kept = in_refl set; apart = same_refl set p.lines }

-- more is drawn
pub drawn_then : (r s t : List Bool) (p q u : Picture) → IsDrawnOn r s p q → IsDrawnOn s t q u → IsDrawnOn r t p u
drawn_then r s t p q u first second = record {
  rows = second.rows ∙ first.rows;
  cols = second.cols ∙ first.cols;
  kept = in_then r s t first.kept second.kept;
  apart = same_then s t p.lines q.lines u.lines first.apart second.apart second.kept;
}

-- there is room for a text as before
pub pane_stays : (text : List ℕ) (d : DrawnText) (r s : List Bool) (p q : Picture) → IsPane text d p → IsDrawnOn r s p q → IsPane text d q
pane_stays text d r s p q pane drawn = record {
  room = omega (arith, pane.room, drawn.rows);
  short = pane.short;
  top = pane.top;
  stop = pane.stop;
  shift = pane.shift;
}

-- the lines above it are few
pub few_above : (text : List ℕ) (d : DrawnText) (p : Picture) → IsPane text d p → d.shown.above < 2 ^ 32
few_above text d p pane =
    let front : List ℕ = take d.shown.start text in
    let most : count_by is_feed front ≤ length front = count_by-le-length is_feed front in
    omega (arith, most, length-take-le d.shown.start text pane.top.within, pane.top.number, pane.top.within, pane.short)

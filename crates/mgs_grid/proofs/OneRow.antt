-- One row of a picture is drawn over.
use Rattle.std.proofs.Common.{◌≡◌, ℕ, ◌<◌, [], ◌∷◌, length, get_or, set, sym, subst, ap, ◌∙◌, arith}
use Rattle.mgs_model.specs.Rows.{Row}
use Rattle.mgs_grid.specs.Cells.{rows_put}
use Rattle.mgs_model.specs.Picture.{Picture, IsPicture, IsRow}
use Rattle.mgs_grid.proofs.Pictures.{set_put, set_picture, row_width, with_lines}

module _ (old q : Picture) (i : ℕ) (line new : Row) (drawn : ℕ → Row) (is : IsPicture old) (view : old ≡ q) (row : i < q.rows) (at : line ≡ get_or old.lines i line) (put : new ≡ drawn (length line.text)) where
  within : i < old.rows
  within = omega (arith, row, ap (λ (p : Picture). p.rows) view)

  wide : new ≡ drawn old.cols
  wide = put ∙ ap drawn (row_width old i line is within at)

  -- it stays a picture
  pub row_picture : IsRow old.cols (drawn old.cols) → IsPicture (record old { lines = set old.lines i new })
  row_picture good = set_picture old i new is (subst (IsRow old.cols) (sym wide) good)

  -- seen from outside
  pub row_drawn : record old { lines = set old.lines i new } ≡ record q { lines = rows_put i (drawn q.cols ∷ []) q.lines }
  row_drawn = with_lines old q (λ (p : Picture). rows_put i (drawn p.cols ∷ []) p.lines) (set old.lines i new) view (set_put old.lines i (drawn old.cols) new (omega (arith, within, is.count)) wide)

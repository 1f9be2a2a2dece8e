-- A row of plain blanks in its place.
use Rattle.std.proofs.Common.{◌≡◌, ℕ, ◌<◌, List, [], ◌∷◌, length, get_or, set, refl, sym, ap, ◌∙◌}
use Rattle.std.proofs.lemmas.List.{set-get_or}
use Rattle.mgs_model.specs.Rows.{Row, plain_row}
use Rattle.mgs_grid.specs.Cells.{rows_put}
use Rattle.mgs_grid.proofs.Pictures.{set_put}

pub blank_there : (lines : List Row) (at cols : ℕ) (r : Row) → at < length lines → r ≡ get_or lines at r → length r.text ≡ cols → r ≡ plain_row (length r.text) [] → rows_put at (plain_row cols [] ∷ []) lines ≡ lines
blank_there lines at cols r within there wide blank =
    let is : r ≡ plain_row cols [] = blank ∙ ap (λ n. plain_row n []) wide in
    ap (λ (x : Row). rows_put at (x ∷ []) lines) (sym is)
    ∙ sym (set_put lines at r r within refl)
    ∙ ap (λ (x : Row). set lines at x) there
    ∙ set-get_or lines at r

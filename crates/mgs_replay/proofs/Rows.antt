-- Rows printed one after another.
use Rattle.std.proofs.Common.{◌≡◌, ℕ, suc, ◌+◌, ◌-◌, ◌<◌, List, ◌++◌, length, take, drop, min, sym, ap, ◌∙◌, append_assoc, arith}
use Rattle.std.proofs.lemmas.List.{take_min}
use Rattle.std.proofs.lemmas.Grind.{common_steps}
use Rattle.mgs_term.specs.declared.cell.Cell.{Cell}
use Rattle.mgs_replay.specs.Prints.{row_text, rows_text}

-- dropping no more than there is
drop_min : (cols : ℕ) (cells : List Cell) → drop (min cols (length cells)) cells ≡ drop cols cells
drop_min cols cells = grind (arith, common_steps)

-- one row more is printed
pub row_more : (rows i cols : ℕ) (cells row below : List Cell) (all old new : List ℕ)
    → i < rows → row ≡ take (min cols (length cells)) cells → below ≡ drop (min cols (length cells)) cells → new ≡ old ++ row_text row
    → old ++ rows_text (rows - i) cols cells ≡ all → new ++ rows_text (rows - (i + 1)) cols below ≡ all
row_more rows i cols cells row below all old new lt first rest print so_far =
    let more : rows - i ≡ suc (rows - (i + 1)) = omega arith in
    let first_is : row ≡ take cols cells = first ∙ take_min cols cells in
    let rest_is : below ≡ drop cols cells = rest ∙ drop_min cols cells in
    ap (λ (xs : List ℕ). xs ++ rows_text (rows - (i + 1)) cols below) print
    ∙ ap (λ (xs : List Cell). (old ++ row_text xs) ++ rows_text (rows - (i + 1)) cols below) first_is
    ∙ ap (λ (xs : List Cell). (old ++ row_text (take cols cells)) ++ rows_text (rows - (i + 1)) cols xs) rest_is
    ∙ append_assoc old (row_text (take cols cells)) (rows_text (rows - (i + 1)) cols (drop cols cells))
    ∙ sym (ap (λ (m : ℕ). old ++ rows_text m cols cells) more)
    ∙ so_far

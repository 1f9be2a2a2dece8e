-- Walks over small texts, computed by the definitions.
use Rattle.std.proofs.Common.{◌≡◌, ℕ, true, false, List, [], ◌∷◌, ◌++◌, Some, None, refl}
use Rattle.std.specs.Prelude.{codes}
use Rattle.mgs_model.specs.Cells.{glyph, own_columns}
use Rattle.mgs_model.proofs.Worked.{unicode_width}
use Rattle.mgs_model.specs.Walks.{forward_words, backward_words, lines_down, lines_up, is_first_line, is_last_line, forward_paragraphs, backward_paragraphs, column_place, indent_end, kill_line_end}

-- two words and what stands around them
abbrev two_words : List ℕ
two_words = codes "  ab1 -c."

words_forward : (forward_words two_words 0 0 ∷ forward_words two_words 0 1 ∷ forward_words two_words 3 1 ∷ forward_words two_words 0 2 ∷ forward_words two_words 0 3 ∷ forward_words two_words 0 9999 ∷ []) ≡ 0 ∷ 5 ∷ 5 ∷ 8 ∷ 9 ∷ 9 ∷ []
words_forward = refl

words_back : (backward_words two_words 9 0 ∷ backward_words two_words 9 1 ∷ backward_words two_words 4 1 ∷ backward_words two_words 9 2 ∷ backward_words two_words 9 3 ∷ backward_words two_words 9 9999 ∷ []) ≡ 9 ∷ 7 ∷ 2 ∷ 2 ∷ 0 ∷ 0 ∷ []
words_back = refl

-- a blank line, two written ones, two blank ones of white, one written one, an empty one
abbrev page : List ℕ
page = 10 ∷ codes "ab" ++ 10 ∷ codes "c" ++ 10 ∷ codes "  " ++ 10 ∷ 9 ∷ 10 ∷ codes "de" ++ 10 ∷ []

paragraphs_forward : (forward_paragraphs page 0 1 ∷ forward_paragraphs page 2 1 ∷ forward_paragraphs page 7 1 ∷ forward_paragraphs page 0 2 ∷ forward_paragraphs page 0 9999 ∷ forward_paragraphs page 14 1 ∷ []) ≡ 6 ∷ 6 ∷ 14 ∷ 14 ∷ 14 ∷ 14 ∷ []
paragraphs_forward = refl

paragraphs_back : (backward_paragraphs page 14 1 ∷ backward_paragraphs page 14 2 ∷ backward_paragraphs page 14 3 ∷ backward_paragraphs page 12 1 ∷ backward_paragraphs page 11 1 ∷ backward_paragraphs page 4 1 ∷ backward_paragraphs page 1 1 ∷ backward_paragraphs page 0 9999 ∷ []) ≡ 11 ∷ 1 ∷ 0 ∷ 11 ∷ 1 ∷ 1 ∷ 0 ∷ 0 ∷ []
paragraphs_back = refl

lines_there : (lines_down page 2 0 ∷ lines_down page 2 1 ∷ lines_down page 2 9999 ∷ lines_up page 5 0 ∷ lines_up page 5 1 ∷ lines_up page 5 9999 ∷ []) ≡ 1 ∷ 4 ∷ 14 ∷ 4 ∷ 1 ∷ 0 ∷ []
lines_there = refl

ends_there : (is_first_line page 0 ∷ is_first_line page 1 ∷ is_last_line page 13 ∷ is_last_line page 14 ∷ is_first_line [] 0 ∷ is_last_line [] 0 ∷ []) ≡ true ∷ false ∷ false ∷ true ∷ true ∷ true ∷ []
ends_there = refl

-- `a`, a tab, `^A`, U+00E9, and a next line
abbrev wide : List ℕ
wide = 97 ∷ 9 ∷ 1 ∷ 233 ∷ 10 ∷ 98 ∷ []

columns_there : (column_place wide 0 0 ∷ column_place wide 0 7 ∷ column_place wide 0 8 ∷ column_place wide 0 9 ∷ column_place wide 0 10 ∷ column_place wide 0 15 ∷ column_place wide 0 16 ∷ column_place wide 0 99 ∷ column_place wide 5 99 ∷ []) ≡ 0 ∷ 1 ∷ 2 ∷ 2 ∷ 3 ∷ 4 ∷ 4 ∷ 4 ∷ 6 ∷ []
unfolding glyph own_columns unicode_width
columns_there = refl

-- white that begins a line ends before the place or at it
indents_there : (indent_end (codes "  a") 3 ∷ indent_end (codes "  a") 1 ∷ indent_end (codes "  ") 2 ∷ indent_end (97 ∷ 10 ∷ 9 ∷ 98 ∷ []) 4 ∷ []) ≡ 2 ∷ 1 ∷ 2 ∷ 3 ∷ []
indents_there = refl

kills_there : (kill_line_end page 0 None ∷ kill_line_end page 1 None ∷ kill_line_end page 2 (Some 0) ∷ kill_line_end page 2 (Some 1) ∷ kill_line_end page 2 (Some 2) ∷ kill_line_end page 2 (Some 9999) ∷ kill_line_end page 14 None ∷ []) ≡ 1 ∷ 3 ∷ 1 ∷ 4 ∷ 6 ∷ 14 ∷ 14 ∷ []
kills_there = refl

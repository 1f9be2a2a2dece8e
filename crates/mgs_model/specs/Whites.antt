-- White around a place, runs of lines, and paragraphs that are filled.
--
--   white_start, white_end   where the white around a place begins and ends
--   is_blank_at              the line of a place is blank
--   blanks_start             where the blank lines begin that stand directly above the line of a place, or that line
--   blanks_end               where the last of the blank lines ends that directly follow it, or that line
--   paragraph_start          where the lines that are not blank begin that stand directly above it, or that line
--   paragraph_end            where the last of those ends that directly follow it, or that line
--   refilled                 words with one space between, and a line feed where a line would pass the fill column
use Rattle.std.specs.Prelude.{ℕ, ◌+◌, ◌-◌, ◌||◌, nat_le, Bool, List, [], ◌∷◌, ◌++◌, length, slice_range, if◌then◌else◌}
use Rattle.mgs_model.specs.Cells.{cells}
use Rattle.mgs_model.specs.Lines.{line_feed, space, is_feed, line_of, line_start, line_end, start_of}
use Rattle.mgs_model.specs.Names.{words_by}
use Rattle.mgs_model.specs.Walks.{over, back, is_white, is_blank, is_written, lines}

-- WHITE

abbrev pub white_start : List ℕ → ℕ → ℕ
white_start text p = back is_white text p

abbrev pub white_end : List ℕ → ℕ → ℕ
white_end text p = over is_white text p

-- RUNS OF LINES

abbrev pub is_blank_at : List ℕ → ℕ → Bool
is_blank_at text p = is_blank (slice_range text (line_start text p) (line_end text p))

-- of lines that pass a test: up from the line of a place, and down from it
abbrev pub run_start : (List ℕ → Bool) → List ℕ → ℕ → ℕ
run_start f text p = start_of (back f (lines text) (line_of text p)) text

abbrev pub run_end : (List ℕ → Bool) → List ℕ → ℕ → ℕ
run_end f text p = line_end text (start_of (over f (lines text) (line_of text p + 1) - 1) text)

abbrev pub blanks_start : List ℕ → ℕ → ℕ
blanks_start text p = run_start is_blank text p

abbrev pub blanks_end : List ℕ → ℕ → ℕ
blanks_end text p = run_end is_blank text p

abbrev pub paragraph_start : List ℕ → ℕ → ℕ
paragraph_start text p = run_start is_written text p

abbrev pub paragraph_end : List ℕ → ℕ → ℕ
paragraph_end text p = run_end is_written text p

-- FILLING

-- what parts words: white and line feeds
abbrev pub is_between : ℕ → Bool
is_between c = is_white c || is_feed c

abbrev pub text_words : List ℕ → List (List ℕ)
text_words text = words_by is_between text

-- words behind the first, where the line so far ends in a column
abbrev pub filled_from : ℕ → ℕ → List (List ℕ) → List ℕ
filled_from fill column [] = []
filled_from fill column (word ∷ rest) =
    if nat_le (column + 1 + length (cells word)) fill then space ∷ (word ++ filled_from fill (column + 1 + length (cells word)) rest)
    else line_feed ∷ (word ++ filled_from fill (length (cells word)) rest)

-- a word that is longer than a line stands alone
abbrev pub filled_words : ℕ → List (List ℕ) → List ℕ
filled_words fill [] = []
filled_words fill (word ∷ rest) = word ++ filled_from fill (length (cells word)) rest

abbrev pub refilled : ℕ → List ℕ → List ℕ
refilled fill text = filled_words fill (text_words text)

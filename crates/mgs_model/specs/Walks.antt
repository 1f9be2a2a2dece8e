-- WALKS: where a walk over a text comes to. Each word is a function of the text and a place in it, and no walk leaves the
-- text. Lines and columns are those of Lines and Cells.
--
--   over, back               past the elements from a place on, or before it, that pass a test
--   is_word, is_white        a letter or digit; space and TAB
--   forward_words            so many words forward
--   backward_words           so many words back
--   is_first_line            the line of a place is the first
--   is_last_line             it is the last
--   lines_down               the start of the line so many lines down, or of the last line
--   lines_up                 the start of the line so many lines up, or of the first line
--   forward_paragraphs       so many paragraphs forward: to the blank line behind each, or to the text's end
--   backward_paragraphs      so many paragraphs back: to the first line of each, or to the text's start
--   column_place             the last place of a line whose column is at most a goal
--   indent_end               where the white that begins a place's line ends, but not past the place
--   kill_line_end            the other end of what a kill of lines takes, with its argument
use Rattle.std.specs.Prelude.{ℕ, zero, suc, ◌+◌, ◌-◌, ◌==◌, ◌||◌, min, nat_le, Bool, not, List, [], ◌∷◌, length, take, drop, slice_range, Option, None, Some, if◌then◌else◌}
use Rattle.std.specs.Fn.{iterate}
use Rattle.std.specs.List.{prefix_len, suffix_len, list_all, slice_split}
use Rattle.std.specs.Char.{is_ascii_alphanumeric}
use Rattle.mgs_model.specs.Cells.{glyph}
use Rattle.mgs_model.specs.Lines.{space, is_feed, line_of, line_start, line_end, start_of}

-- past the elements from the k-th on that pass
abbrev pub over : {A : Type 0} → (A → Bool) → List A → ℕ → ℕ
over f xs k = k + prefix_len f (drop k xs)

-- back past the elements before the k-th that pass
abbrev pub back : {A : Type 0} → (A → Bool) → List A → ℕ → ℕ
back f xs k = k - suffix_len f (take k xs)

-- WORDS

-- a character of a word: an ASCII letter or digit
abbrev pub is_word : ℕ → Bool
is_word c = is_ascii_alphanumeric c

-- a character between words
abbrev pub is_gap : ℕ → Bool
is_gap c = not (is_word c)

-- to the end of the word at a place, or of the next one
abbrev pub forward_word : List ℕ → ℕ → ℕ
forward_word text p = over is_word text (over is_gap text p)

-- to the start of the word before a place
abbrev pub backward_word : List ℕ → ℕ → ℕ
backward_word text p = back is_word text (back is_gap text p)

abbrev pub forward_words : List ℕ → ℕ → ℕ → ℕ
forward_words text p n = iterate (forward_word text) n p

abbrev pub backward_words : List ℕ → ℕ → ℕ → ℕ
backward_words text p n = iterate (backward_word text) n p

-- LINES UP AND DOWN

abbrev pub is_first_line : List ℕ → ℕ → Bool
is_first_line text p = line_start text p == 0

abbrev pub is_last_line : List ℕ → ℕ → Bool
is_last_line text p = line_end text p == length text

abbrev pub lines_down : List ℕ → ℕ → ℕ → ℕ
lines_down text p n = start_of (min (line_of text p + n) (line_of text (length text))) text

abbrev pub lines_up : List ℕ → ℕ → ℕ → ℕ
lines_up text p n = start_of (line_of text p - n) text

-- PARAGRAPHS

-- space and TAB
abbrev pub is_white : ℕ → Bool
is_white c = (c == space) || (c == 9)

abbrev pub lines : List ℕ → List (List ℕ)
lines text = slice_split is_feed text

-- a line that has only white
abbrev pub is_blank : List ℕ → Bool
is_blank line = list_all is_white line

abbrev pub is_written : List ℕ → Bool
is_written line = not (is_blank line)

-- from a place's line down over blank lines, and then over lines that are not blank
abbrev pub forward_paragraph : List ℕ → ℕ → ℕ
forward_paragraph text p = start_of (over is_written (lines text) (over is_blank (lines text) (line_of text p))) text

-- how many lines begin before a place
abbrev pub lines_before : List ℕ → ℕ → ℕ
lines_before text p = if line_start text p == p then line_of text p else line_of text p + 1

-- from the last of these lines up over blank lines, and then up while lines are not blank
abbrev pub backward_paragraph : List ℕ → ℕ → ℕ
backward_paragraph text p = start_of (back is_written (lines text) (back is_blank (lines text) (lines_before text p))) text

abbrev pub forward_paragraphs : List ℕ → ℕ → ℕ → ℕ
forward_paragraphs text p n = iterate (forward_paragraph text) n p

abbrev pub backward_paragraphs : List ℕ → ℕ → ℕ → ℕ
backward_paragraphs text p n = iterate (backward_paragraph text) n p

-- COLUMNS

-- how many of these characters, which begin in a column, end at the goal column or before it
abbrev pub fitting : ℕ → ℕ → List ℕ → ℕ
fitting goal column [] = 0
fitting goal column (c ∷ cs) =
    if nat_le (column + length (glyph column c)) goal then 1 + fitting goal (column + length (glyph column c)) cs else 0

-- of the line that starts at a place
abbrev pub column_place : List ℕ → ℕ → ℕ → ℕ
column_place text start goal = start + fitting goal 0 (slice_range text start (line_end text start))

-- the white that begins the line of a place
abbrev pub indent_end : List ℕ → ℕ → ℕ
indent_end text p = min (over is_white text (line_start text p)) p

-- KILLS OF LINES: without an argument to the line's end, or over its feed where that stands at the place; with 0 back to the
-- line's start; else over so many feeds, or to the text's end
abbrev pub kill_line_end : List ℕ → ℕ → Option ℕ → ℕ
kill_line_end text p None = if line_end text p == p then min (p + 1) (length text) else line_end text p
kill_line_end text p (Some zero) = line_start text p
kill_line_end text p (Some (suc n)) = p + start_of (suc n) (drop p text)

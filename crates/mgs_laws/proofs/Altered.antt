-- Worked plans of the commands on case, white space and filling, computed by the definitions.
use Rattle.std.proofs.Common.{◌≡◌, ℕ, List, [], ◌∷◌, ◌++◌, Option, Some, None, refl}
use Rattle.std.specs.Prelude.{Result, Ok, Err, codes, length}
use Rattle.mgs_model.specs.Text.{edited}
use Rattle.mgs_model.specs.Cells.{glyph}
use Rattle.mgs_model.specs.Outcome.{PointPlan, Keep_position, At}
use Rattle.mgs_model.specs.Plans.{Around, Change, alteration}
use Rattle.mgs_model.specs.declared.echo_text.Message.{Message}
use Rattle.mgs_model.specs.declared.echo_text.Message.TheVariants.{Says}
use Rattle.mgs_model.specs.declared.echo_text.Notice.TheVariants.{BeginningOfBuffer, EndOfBuffer, NoMark}
use Rattle.mgs_model.specs.declared.session.Kind.TheVariants.{Other}
use Rattle.mgs_model.specs.declared.session.Alteration.{Alteration}
use Rattle.mgs_model.specs.declared.session.Alteration.TheVariants.{UpcaseWord, DowncaseWord, CapitalizeWord, UpcaseRegion, DowncaseRegion, JustOneSpace, DeleteHorizontalSpace, DeleteBlankLines, JoinLine, FillParagraph}

-- in this text, with an argument and a mark, at a place
abbrev around : List ℕ → ℕ → Option ℕ → Option ℕ → Around
around text place argument mark =
    record {
      name = codes "notes";
      size = length text;
      serial = 0;
      place = place;
      mark = mark;
      argument = argument;
      typed = [];
      kill = [];
      kind = Other;
      height = 22;
      fill = 10;
    }

-- the text afterwards and where the point goes, or what is told
record Left : Type 0 where
  text : List ℕ
  point : PointPlan

abbrev left : List ℕ → Result Change Message → Result Left Message
left text (Ok c) = Ok (record { text = edited c.a c.b c.put text; point = c.finish.point })
left text (Err message) = Err message

abbrev altered : Alteration → List ℕ → ℕ → Option ℕ → Option ℕ → Result Left Message
altered command text place argument mark = left text (alteration command text (around text place argument mark))

abbrev gives : List ℕ → ℕ → Result Left Message
gives text point = Ok (record { text = text; point = At point })

-- CASE: words from a place inside one
upcased : altered UpcaseWord (codes "one two three") 1 (Some 2) None ≡ gives (codes "oNE TWO three") 7
upcased = refl

downcased : altered DowncaseWord (codes "ONE TWO") 1 None None ≡ gives (codes "One TWO") 3
downcased = refl

-- the first letter of each run, behind its digits, and the others in lower case
capitals : altered CapitalizeWord (codes "  oNE 1tWO, x") 0 (Some 9999) None ≡ gives (codes "  One 1Two, X") 13
capitals = refl

-- at the end it fails, but not no times
no_words : altered UpcaseWord (codes "ab") 2 None None ≡ Err (Says EndOfBuffer)
no_words = refl

no_times : altered CapitalizeWord (codes "ab") 2 (Some 0) None ≡ gives (codes "ab") 2
no_times = refl

-- a region on either side of the mark: the point stays
region_up : altered UpcaseRegion (codes "abcd") 3 None (Some 1) ≡ gives (codes "aBCd") 3
region_up = refl

region_down : altered DowncaseRegion (codes "ABCD") 1 None (Some 3) ≡ gives (codes "AbcD") 1
region_down = refl

no_mark : altered DowncaseRegion (codes "ABCD") 1 None None ≡ Err (Says NoMark)
no_mark = refl

-- WHITE
one_space : altered JustOneSpace (codes "a" ++ 32 ∷ 9 ∷ 32 ∷ codes "b") 2 None None ≡ gives (codes "a b") 2
one_space = refl

a_space : altered JustOneSpace (codes "ab") 1 None None ≡ gives (codes "a b") 2
a_space = refl

no_space : altered DeleteHorizontalSpace (codes "a" ++ 32 ∷ 9 ∷ 32 ∷ 10 ∷ codes " b") 2 None None ≡ gives (codes "a" ++ 10 ∷ codes " b") 1
no_space = refl

-- BLANK LINES: those behind a line, up to the last one's white
below : altered DeleteBlankLines (codes "a" ++ 10 ∷ 32 ∷ 10 ∷ 10 ∷ codes "b") 0 None None ≡ Ok (record { text = codes "a" ++ 10 ∷ codes "b"; point = Keep_position })
below = refl

none_below : altered DeleteBlankLines (codes "a" ++ 10 ∷ codes "b") 0 None None ≡ Ok (record { text = codes "a" ++ 10 ∷ codes "b"; point = Keep_position })
none_below = refl

-- around a blank one they become one, and one alone loses its white
to_one : altered DeleteBlankLines (codes "a" ++ 10 ∷ 32 ∷ 10 ∷ 9 ∷ 10 ∷ 10 ∷ codes "b") 4 None None ≡ gives (codes "a" ++ 10 ∷ 10 ∷ codes "b") 2
to_one = refl

at_the_end : altered DeleteBlankLines (codes "a" ++ 10 ∷ 32 ∷ 10 ∷ []) 4 None None ≡ gives (codes "a" ++ 10 ∷ []) 2
at_the_end = refl

one_blank : altered DeleteBlankLines (codes "a" ++ 10 ∷ 32 ∷ 32 ∷ 10 ∷ codes "b") 3 None None ≡ gives (codes "a" ++ 10 ∷ 10 ∷ codes "b") 2
one_blank = refl

-- LINES JOINED
joined : altered JoinLine (codes "a " ++ 10 ∷ codes "  b") 4 None None ≡ gives (codes "a b") 1
joined = refl

not_joined : altered JoinLine (codes "a b") 3 None None ≡ Err (Says BeginningOfBuffer)
not_joined = refl

-- FILLING: ten columns; a long word stands alone, and lines around the paragraph stay
filled : altered FillParagraph (codes "x" ++ 10 ∷ 10 ∷ codes " one  two" ++ 10 ∷ codes "three abcdefghijkl m" ++ 10 ∷ 10 ∷ []) 5 None None
    ≡ gives (codes "x" ++ 10 ∷ 10 ∷ codes "one two" ++ 10 ∷ codes "three" ++ 10 ∷ codes "abcdefghijkl" ++ 10 ∷ codes "m" ++ 10 ∷ 10 ∷ []) 31
unfolding glyph
filled = refl

-- a word may end in the fill column
just_filled : altered FillParagraph (codes "abc" ++ 10 ∷ codes "defghi" ++ 10 ∷ codes "j") 0 None None ≡ gives (codes "abc defghi" ++ 10 ∷ codes "j") 12
unfolding glyph
just_filled = refl

not_filled : altered FillParagraph (codes "a" ++ 10 ∷ codes "  " ++ 10 ∷ []) 3 None None ≡ Ok (record { text = codes "a" ++ 10 ∷ codes "  " ++ 10 ∷ []; point = Keep_position })
not_filled = refl

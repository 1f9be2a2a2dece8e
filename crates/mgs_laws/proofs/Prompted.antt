-- Worked screens of sessions in a mode, computed by the definitions.
use Rattle.std.proofs.Common.{◌≡◌, ℕ, true, false, List, [], ◌∷◌, None, refl}
use Rattle.std.specs.Prelude.{codes}
use Rattle.mgs_model.specs.Cells.{glyph}
use Rattle.mgs_model.specs.Rows.{Row, fitted, line_shown, shown_row}
use Rattle.mgs_model.specs.World.{first_state}
use Rattle.mgs_model.specs.Seen.{Readable, Text_pane}
use Rattle.mgs_model.specs.Picture.{Picture}
use Rattle.mgs_model.specs.Draw.{draw}
use Rattle.mgs_model.specs.declared.search.Direction.TheVariants.{Forward, Backward}
use Rattle.mgs_model.specs.declared.echo_text.Message.{Message}
use Rattle.mgs_model.specs.declared.echo_text.Message.TheVariants.{Says}
use Rattle.mgs_model.specs.declared.echo_text.Notice.TheVariants.{Silent, NoMatch}
use Rattle.mgs_model.specs.declared.session.Mode.{Mode}
use Rattle.mgs_model.specs.declared.session.Mode.TheVariants.{Plain, Prompt, Searching, Replacing}
use Rattle.mgs_model.specs.declared.session.Question.TheVariants.{SwitchTo}

-- 19 cells of 20 are shown whole, and of 20 a `$` and the last 18
whole : line_shown 20 (codes "Switch to buffer: n") ≡ codes "Switch to buffer: n"
unfolding line_shown
whole = refl

cut : line_shown 20 (codes "Switch to buffer: no") ≡ codes "$itch to buffer: no"
unfolding line_shown
cut = refl

-- a screen of 6 rows and 20 columns, whose window shows `ab` with the point at its end
abbrev screen_of : Mode → List ℕ → Message → Picture
screen_of mode input echo =
    draw (record {
      rows = 6;
      cols = 20;
      windows = record { height = 4; pane = Text_pane (Readable (codes "ab") 2 0) None } ∷ [];
      selected = 0;
      state = record first_state { mode = mode; input = input; echo = echo };
    })

-- the echo row, and the cursor
abbrev last : List Row → List ℕ
last [] = []
last (r ∷ []) = r.text
last (r ∷ s ∷ rs) = last (s ∷ rs)

abbrev echoed : Picture → List ℕ × ℕ × ℕ
echoed p = (last p.lines, p.row, p.col)

in_no_mode : echoed (screen_of Plain [] (Says Silent)) ≡ (codes "                    ", 0, 2)
unfolding draw fitted glyph shown_row
in_no_mode = refl

behind_the_prompt : echoed (screen_of (Prompt SwitchTo) [] (Says Silent)) ≡ (codes "Switch to buffer:   ", 5, 18)
unfolding draw fitted glyph shown_row line_shown
behind_the_prompt = refl

behind_the_input : echoed (screen_of (Prompt SwitchTo) (codes "no") (Says Silent)) ≡ (codes "$itch to buffer: no ", 5, 19)
unfolding draw fitted glyph shown_row line_shown
behind_the_input = refl

-- an echo text hides the line, and the cursor is at the point
hidden : echoed (screen_of (Prompt SwitchTo) (codes "no") (Says NoMatch)) ≡ (codes "No match            ", 0, 2)
unfolding draw fitted glyph shown_row line_shown
hidden = refl

-- the line of a query-replace is no prompt
asked : echoed (screen_of Replacing (codes "no") (Says Silent)) ≡ (codes "Replace?            ", 0, 2)
unfolding draw fitted glyph shown_row line_shown
asked = refl

-- nor is that of an incremental search, of which the end is shown where it is too long
searching : (echoed (screen_of (Searching Forward false) (codes "ab") (Says Silent)) ≡ (codes "I-search: ab        ", 0, 2)) × (echoed (screen_of (Searching Backward false) (codes "x") (Says Silent)) ≡ (codes "$search backward: x ", 0, 2)) × (echoed (screen_of (Searching Forward true) (codes "ab") (Says Silent)) ≡ (codes "$iling I-search: ab ", 0, 2))
unfolding draw fitted glyph shown_row line_shown
searching = (refl, refl, refl)

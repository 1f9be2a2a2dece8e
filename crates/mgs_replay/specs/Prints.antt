-- What the lines of a script print.
use Rattle.std.specs.Prelude.{ℕ, zero, suc, ◌+◌, List, [], ◌∷◌, ◌++◌, ◌==◌, take, drop, codes, decimal, encode_utf8, if◌then◌else◌}
use Rattle.std.specs.List.{flat_map}
use Rattle.mgs_model.specs.Cells.{right_half}
use Rattle.mgs_model.specs.declared.errors.OpenFault.{OpenFault}
use Rattle.mgs_model.specs.declared.errors.OpenFault.TheVariants.{NoUser, Size, Full, Short}
use Rattle.mgs_term.specs.declared.cell.Cell.{Cell}
use Rattle.mgs_term.specs.Screen.{Screen}
use Rattle.mgs_replay.specs.declared.client.Cause.{Cause}
use Rattle.mgs_replay.specs.declared.client.Cause.TheVariants.{Quit, Closed}

-- why an open was refused: its number and its name
abbrev pub fault_text : OpenFault → List ℕ
fault_text NoUser = codes "1 NoUser"
fault_text Size = codes "2 Size"
fault_text Full = codes "3 Full"
fault_text Short = codes "4 Short"

-- the line of a refused open
abbrev pub refusal_text : List ℕ → OpenFault → List ℕ
refusal_text label fault = codes "refused " ++ label ++ 32 ∷ fault_text fault ++ 10 ∷ []

-- how a session ended
abbrev pub ended_by_text : Cause → List ℕ
ended_by_text Quit = codes "Quit"
ended_by_text Closed = codes "Closed"

-- the line of a session that ended
abbrev pub ended_text : List ℕ → Cause → List ℕ
ended_text label cause = codes "ended " ++ label ++ 32 ∷ ended_by_text cause ++ 10 ∷ []

-- `!` where the row's first cell is reversed, and `|` elsewhere
abbrev pub edge_of : List Cell → ℕ
edge_of [] = 124
edge_of (c ∷ cells) = if c.reversed then 33 else 124

-- the bytes of what a cell shows; a wide character stands in its left half
abbrev pub cell_bytes : Cell → List ℕ
cell_bytes c = if c.character == right_half then [] else encode_utf8 c.character

-- what the cells show
abbrev pub characters : List Cell → List ℕ
characters cells = flat_map cell_bytes cells

-- a row between its edges
abbrev pub row_text : List Cell → List ℕ
row_text cells = edge_of cells ∷ characters cells ++ edge_of cells ∷ 10 ∷ []

-- rows one below another
abbrev pub rows_text : ℕ → ℕ → List Cell → List ℕ
rows_text zero cols cells = []
rows_text (suc n) cols cells = row_text (take cols cells) ++ rows_text n cols (drop cols cells)

-- a session's screen: its label, its rows, and its cursor from 1
abbrev pub screen_text : List ℕ → Screen → List ℕ
screen_text label s = codes "screen " ++ label ++ 10 ∷ rows_text s.rows s.cols s.cells ++ codes "cursor " ++ decimal (s.row + 1) ++ 32 ∷ decimal (s.col + 1) ++ 10 ∷ []

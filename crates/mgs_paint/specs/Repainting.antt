-- Bytes that repaint: a terminal that shows one picture then shows another one.
use Rattle.std.specs.Prelude.{◌≡◌, ℕ, ◌≤◌, List, [], length, slice_get}
use Rattle.mgs_model.specs.Picture.{Picture}
use Rattle.mgs_term.specs.Screen.{Screen}
use Rattle.mgs_term.specs.Drawing.{Draws, IsFaithful}
use Rattle.mgs_term.specs.declared.operation.Operation.{Operation}
use Rattle.mgs_term.specs.declared.operation.Operation.TheVariants.{Goto, Clear, Erase, Reverse, Plain, Unwrap, Print}
use Rattle.mgs_paint.specs.Painting.{bound_of, cells_of, shown}

-- a row that is not the same in both pictures
abbrev pub IsChanged : Picture → Picture → ℕ → Type 0
IsChanged old new i = slice_get old.lines i ≡ slice_get new.lines i → ⊥

-- no cell of a row that stays the same is written or erased, and the screen is never cleared
abbrev pub IsInChangedRow : Picture → Picture → Screen → Operation → Type 0
IsInChangedRow old new s (Print b) = IsChanged old new s.row
IsInChangedRow old new s Erase = IsChanged old new s.row
IsInChangedRow old new s Clear = ⊥
IsInChangedRow old new s (Goto r c) = Unit {0}
IsInChangedRow old new s Reverse = Unit {0}
IsInChangedRow old new s Plain = Unit {0}
IsInChangedRow old new s Unwrap = Unit {0}

-- and what is printed in a cell is the new picture's character of that cell
abbrev pub IsOfChange : Picture → Picture → Screen → Operation → Type 0
IsOfChange old new s o = IsFaithful (cells_of new) s o × IsInChangedRow old new s o

-- The bytes turn a terminal that shows the old picture, with reverse and wrap off, into one that shows the new one so.
-- There are none where nothing changes.
pub record Repaints (old new : Picture) (bytes : List ℕ) : Type 0 where
  pub bounded : length bytes ≤ bound_of new.rows new.cols
  pub draws : Draws (IsOfChange old new) bytes (shown old) (shown new)
  pub quiet : old ≡ new → bytes ≡ []

-- The bytes of a call draw the screens.
use Rattle.std.specs.Prelude.{◌≡◌, ℕ, ◌≤◌, List, [], ◌++◌, length, Some}
use Rattle.mgs_model.specs.World.{Session, find_session}
use Rattle.mgs_model.specs.Draw.{screen}
use Rattle.mgs_term.specs.Drawing.{Draws, IsFaithful}
use Rattle.mgs_paint.specs.Painting.{bound_of, cells_of, shown}
use Rattle.mgs_engine.specs.Serving.{Serving, pending_of}

-- what a call appends to a session's bytes turns any terminal that shows the session's screen before the call into one
-- that shows its screen after it; on the way each byte that writes a cell writes the character which that cell then has;
-- a screen that stays the same gets no bytes, and no screen more than a paint of its size may give
pub record PaintedBy (old new : Serving) (id : ℕ) (x y : Session) : Type 0 where
  pub bytes : List ℕ
  pub appended : pending_of id new ≡ pending_of id old ++ bytes
  pub draws : Draws (IsFaithful (cells_of (screen new.world y))) bytes (shown (screen old.world x)) (shown (screen new.world y))
  pub quiet : screen old.world x ≡ screen new.world y → bytes ≡ []
  pub bound : length bytes ≤ bound_of y.rows y.cols

-- so for every session that is open before and after
abbrev pub Painted : Serving → Serving → Type 0
Painted old new = (id : ℕ) (x y : Session) → find_session id old.world.sessions ≡ Some x → find_session id new.world.sessions ≡ Some y → PaintedBy old new id x y

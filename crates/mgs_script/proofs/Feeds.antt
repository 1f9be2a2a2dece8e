-- The first line of a script.
use Rattle.std.proofs.Common.{◌≡◌, ℕ, List, ◌∷◌}
use Rattle.mgs_model.specs.Lines.{is_feed}
use Rattle.mgs_keys.proofs.Cuts.{parts_first}
use Rattle.mgs_script.specs.Scripts.{lines_of, line_in, after_line, lines_after}
pub use Rattle.mgs_keys.proofs.Cuts.{length_left}

-- the lines of a script are the first and those after it
pub lines_cut : (t : List ℕ) → lines_of t ≡ line_in t ∷ lines_after (after_line t)
lines_cut t = parts_first is_feed t

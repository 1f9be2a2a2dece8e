use Rattle.std.proofs.Common.{◌≡◌, take}
use Rattle.mgs_model.specs.Draw.{entries_texts}
use Rattle.mgs_screen.specs.Listings.{drawn}
use Rattle.mgs_screen.proofs.list_rows.draw_list.Given as goal

-- the rows of the entries so far are drawn
abbrev pub invariant-loop-i : goal.invariant-loop-i
invariant-loop-i l = l.grid ≡ drawn l.sight (entries_texts 1 (take l.i l.entries)) l.fn.grid

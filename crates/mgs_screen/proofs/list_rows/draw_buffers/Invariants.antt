use Rattle.std.proofs.Common.{◌≡◌, ◌≤◌, length, map, take}
use Rattle.mgs_model.specs.Draw.{listing_text}
use Rattle.mgs_buffers.specs.Judging.{AreJudged, rules_kept}
use Rattle.mgs_screen.specs.Listings.{drawn, listed}
use Rattle.mgs_screen.proofs.list_rows.draw_buffers.Given as goal

-- the rows of the buffers so far are drawn
abbrev pub invariant-loop-i : goal.invariant-loop-i
invariant-loop-i g l = record {
  grid : l.grid ≡ drawn l.sight (map listing_text (listed l.viewer.directory.now l.viewer.user.now (take l.i l.buffers))) l.fn.grid;
  number : l.number ≡ length (listed l.viewer.directory.now l.viewer.user.now (take l.i l.buffers));
  judged : AreJudged l.viewer.directory.now (rules_kept l.buffers) l.judge;
  few : l.number ≤ l.i;
}

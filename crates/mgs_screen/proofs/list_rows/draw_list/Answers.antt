use Rattle.std.proofs.Common.{sym, ◌∙◌, arith}
use Rattle.mgs_screen.proofs.Listings.{entry_more, entries_past}
use Rattle.mgs_screen.proofs.list_rows.draw_list.Goals as goal

pub loop-i-preserved : goal.loop-i-preserved
loop-i-preserved c =
    entry_more c.args.sight c.loop-i.i c.args.entries.now c.index-entries-i.result c.args.grid.now c.loop-i.grid c.draw_entry.new.grid
    c.loop-i-test.true c.index-entries-i.is (omega (arith, c.requires, c.rows.ensures.picture.count)) c.loop-i.invariant c.draw_entry.ensures

pub returns-then-is_past : goal.returns-then-is_past
returns-then-is_past c =
    c.loop-i.invariant
    ∙ entries_past c.args.sight c.loop-i.i c.args.entries.now c.args.grid.now c.loop-i-test.true (sym c.if-is_past.ensures)

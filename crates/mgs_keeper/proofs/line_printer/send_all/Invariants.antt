use Rattle.std.proofs.Common.{length}
use Rattle.mgs_keeper.specs.Printing.{Sends}
use Rattle.mgs_keeper.proofs.line_printer.send_all.Given as goal

-- what waited is written as far as it was taken
abbrev pub invariant-loop : goal.invariant-loop
invariant-loop g l = Sends (g.O.Outlet.written l.initial.out) l.initial.waiting.items (g.O.Outlet.written l.out) l.waiting.items

abbrev pub decreases-loop : goal.decreases-loop
decreases-loop g l = length l.waiting.items

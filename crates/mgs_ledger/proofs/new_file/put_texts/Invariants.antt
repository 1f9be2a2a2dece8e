use Rattle.std.proofs.Common.{◌-◌, drop, length}
use Rattle.mgs_ledger.specs.NewFile.{AreTextsPut}
use Rattle.mgs_ledger.proofs.new_file.put_texts.Given as goal

-- what is left, put from here, leads where all lead from the start
abbrev pub invariant-loop-i : goal.invariant-loop-i
invariant-loop-i g l =
    (last : _) → AreTextsPut g.S.Store (drop l.i l.rows) (drop l.i l.texts) l.conn last → AreTextsPut g.S.Store l.rows l.texts l.fn.conn last

abbrev pub decreases-loop-i : goal.decreases-loop-i
decreases-loop-i g l = length l.rows - l.i

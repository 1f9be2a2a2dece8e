use Rattle.std.proofs.Common.{◌≡◌, ◌++◌, List, drop, false}
use Rattle.mgs_journal.specs.declared.Told.{Told}
use Rattle.mgs_keep.specs.Keeping.{OrFails, WereTold, all_told}
use Rattle.mgs_keep.proofs.tellings.tell_each.Given as goal

-- what was told, and then what is to be told of the deeds that are left, is what is to be told of all
abbrev pub invariant-loop-deed : goal.invariant-loop-deed
invariant-loop-deed g l = record {
  kept : l.failed ≡ false → g.J.Journal.rows l.journal ≡ g.J.Journal.rows l.fn.journal;
  journal : (told : List Told) × (told ++ all_told l.user (drop l.deed-index l.deeds) ≡ all_told l.user l.deeds)
      × OrFails g.J.Journal.fails (WereTold g.J.Journal.does told) l.fn.failed l.fn.journal l.failed l.journal;
}

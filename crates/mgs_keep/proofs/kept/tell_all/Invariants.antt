use Rattle.std.proofs.Common.{◌≡◌, ◌++◌, List, false, length}
use Rattle.mgs_journal.specs.declared.Told.{Told}
use Rattle.mgs_keep.specs.Ends.{ends_told, noted_left}
use Rattle.mgs_keep.specs.Keeping.{OrFails, WereTold}
use Rattle.mgs_keep.proofs.kept.tell_all.Given as goal

-- what was told, and then what is to be told of the others, is what was to be told of all
abbrev pub invariant-loop-id : goal.invariant-loop-id
invariant-loop-id g l = record {
  engine : l.engine ≡ record l.initial.engine { ended = l.engine.ended };
  users : noted_left l.users l.engine.ended ≡ noted_left l.initial.users l.initial.engine.ended;
  kept : l.failed ≡ false → g.J.Journal.rows l.journal ≡ g.J.Journal.rows l.initial.journal;
  journal : (told : List Told) × (told ++ ends_told l.users l.engine.ended ≡ ends_told l.initial.users l.initial.engine.ended)
      × OrFails g.J.Journal.fails (WereTold g.J.Journal.does told) l.initial.failed l.initial.journal l.failed l.journal;
}

abbrev pub decreases-loop-id : goal.decreases-loop-id
decreases-loop-id g l = length l.engine.ended

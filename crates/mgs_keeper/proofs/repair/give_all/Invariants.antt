use Rattle.std.proofs.Common.{◌≡◌, ◌-◌, ◌++◌, ℕ, List, drop, length, map, take}
use Rattle.mgs_keeper.specs.Mending.{given_from}
use Rattle.mgs_keeper.proofs.repair.give_all.Given as goal

-- those before an index are done, and the others done to what is now lead to all
abbrev pub invariant-loop-new : goal.invariant-loop-new
invariant-loop-new g l = record {
  rows : take l.i (g.J.Journal.rows l.journal) ++ map (given_from l.old l.new) (drop l.i (g.J.Journal.rows l.journal)) ≡ map (given_from l.old l.new) (g.J.Journal.rows l.initial.journal);
  texts : g.J.Journal.texts l.journal ≡ g.J.Journal.texts l.initial.journal;
  taken : (name : List ℕ) → g.J.Journal.taken l.journal name ≡ g.J.Journal.taken l.initial.journal name;
}

abbrev pub decreases-loop-new : goal.decreases-loop-new
decreases-loop-new g l = length (g.J.Journal.rows l.journal) - l.i

use Rattle.arrayvec.specs.ArrayVec.{array_vec_len}
use Rattle.mgs_keep.specs.Differences.{AreFound, IsFurther, left_from}
use Rattle.mgs_keep.specs.Keeping.{rows_in}
use Rattle.mgs_keep.proofs.access_changes.differences.Given as goal

-- the changes found so far, and where the walk goes on
abbrev pub invariant-loop-next : goal.invariant-loop-next
invariant-loop-next g l = record {
  found : AreFound (rows_in l.engine) (g.J.Journal.rows l.journal) l.changes.items l.next;
  walk : IsFurther (rows_in l.engine) (g.J.Journal.rows l.journal) (array_vec_len l.changes) l.next;
}

abbrev pub decreases-loop-next : goal.decreases-loop-next
decreases-loop-next g l = left_from (rows_in l.engine) (g.J.Journal.rows l.journal) l.next

use Rattle.std.proofs.Common.{◌≡◌, ◌-◌, length, take}
use Rattle.mgs_buffers.specs.Judging.{rules_kept}
use Rattle.mgs_buffers.specs.MarkedBuffer.{AreUnmarked}
use Rattle.mgs_journal.specs.Rows.{rules_in_rows}
use Rattle.mgs_resume.specs.Contents.{buffers_kept}
use Rattle.mgs_resume.specs.Refusing.{AreUsers}
use Rattle.mgs_resume.proofs.start.add_kept.Given as goal

abbrev pub invariant-loop-rights : goal.invariant-loop-rights
invariant-loop-rights g l = record {
  rules : rules_kept l.joined ≡ take (length l.joined) (rules_in_rows (g.J.Journal.rows l.journal));
  texts : l.joined ≡ buffers_kept (g.J.Journal.taken l.journal) l.config (take (length l.joined) (rules_in_rows (g.J.Journal.rows l.journal))) (g.J.Journal.texts l.journal);
  owners : AreUsers l.directory (rules_kept l.joined);
  unmarked : AreUnmarked l.initial.joined → AreUnmarked l.joined;
}

abbrev pub decreases-loop-rights : goal.decreases-loop-rights
decreases-loop-rights g l = length (rules_in_rows (g.J.Journal.rows l.journal)) - length l.joined

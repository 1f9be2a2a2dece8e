use Rattle.std.proofs.Common.{◌≡◌, drop}
use Rattle.mgs_buffers.specs.Judging.{rules_kept}
use Rattle.mgs_buffers.specs.MarkedBuffer.{AreUnmarked}
use Rattle.mgs_resume.specs.Contents.{AddsConfigured}
use Rattle.mgs_resume.specs.Joined.{with_others}
use Rattle.mgs_resume.proofs.start.add_others.Given as goal

abbrev pub invariant-loop-i : goal.invariant-loop-i
invariant-loop-i g l = record {
  rules : with_others (g.J.Journal.taken l.journal) (rules_kept l.joined) (drop l.i (rules_kept l.config)) ≡ with_others (g.J.Journal.taken l.journal) (rules_kept l.initial.joined) (rules_kept l.config);
  texts : AddsConfigured l.config l.initial.joined l.joined;
  unmarked : AreUnmarked l.initial.joined → AreUnmarked l.joined;
}

use Rattle.mgs_buffers.specs.Judging.{rules_kept}
use Rattle.mgs_resume.proofs.Contents.{adds_both}
use Rattle.mgs_resume.proofs.Walks.{goes_on}
use Rattle.mgs_resume.proofs.start.add_others.Goals as goal

pub loop-i-preserved : goal.loop-i-preserved
loop-i-preserved g c = record {
  rules = goes_on (g.J.Journal.taken c.args.journal.now) c.loop-i.i (rules_kept c.args.config.now) (rules_kept c.add_other.new.joined) _ (c.in_ok-add_other.ensures.ok _ c.loop-i.invariant.rules);
  texts = adds_both c.args.config.now _ _ _ c.loop-i.invariant.texts c.in_ok-add_other.ensures.texts;
  unmarked = λ none. c.in_ok-add_other.ensures.unmarked (c.loop-i.invariant.unmarked none);
}

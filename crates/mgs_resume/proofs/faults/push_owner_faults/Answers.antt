use Rattle.std.proofs.Common.{◌≡◌, ◌+◌, ◌++◌, List, rules, sym, append-nil, ◌∙◌}
use Rattle.mgs_laws.specs.Apart.{Rules}
use Rattle.mgs_journal.specs.Rows.{rules_in_rows}
use Rattle.mgs_resume.specs.Refusing.{owner_faults}
use Rattle.mgs_resume.proofs.Gathering.{at_end, below_next, walk_end, walk_step}
use Rattle.mgs_resume.proofs.faults.push_owner_faults.Goals as goal

pub loop-rights-preserved : goal.loop-rights-preserved
loop-rights-preserved g c =
    let next : c.in-Some-checked_add.next ≡ c.loop-rights.i + 1 = search rules in record {
      faults = walk_step (rules_in_rows (g.J.Journal.rows c.args.journal.now)) c.loop-rights.i c.in-Some-checked_add.next next
          (λ (rest : List Rules). c.loop-rights.faults.items ++ owner_faults c.args.directory.now rest)
          (λ (rest : List Rules). c.push_owner_fault.new.faults.items ++ owner_faults c.args.directory.now rest)
          c.in-Some.rights _ c.in-Some.ensures c.in_ok-push_owner_fault.ensures c.loop-rights.invariant.faults;
      within = below_next (rules_in_rows (g.J.Journal.rows c.args.journal.now)) c.loop-rights.i c.in-Some-checked_add.next c.in-Some.rights next c.in-Some.ensures;
    }

pub returns-clause-faults : goal.returns-clause-faults
returns-clause-faults g c =
    sym (append-nil c.loop-rights.faults.items)
    ∙ walk_end (rules_in_rows (g.J.Journal.rows c.args.journal.now)) c.loop-rights.i (λ (rest : List Rules). c.loop-rights.faults.items ++ owner_faults c.args.directory.now rest)
    _ c.in_default.ensures c.loop-rights.invariant.faults

pub returns-clause-count : goal.returns-clause-count
returns-clause-count g c = at_end (rules_in_rows (g.J.Journal.rows c.args.journal.now)) c.loop-rights.i c.in_default.ensures c.loop-rights.invariant.within

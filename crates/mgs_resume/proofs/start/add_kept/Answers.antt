use Rattle.std.proofs.Common.{◌≡◌, true, None, length, sym, ◌∙◌, subst}
use Rattle.std.specs.Prelude.{get_or}
use Rattle.mgs_model.specs.Access.{is_among}
use Rattle.mgs_laws.specs.Apart.{Rules}
use Rattle.mgs_journal.specs.Rows.{rules_in_rows}
use Rattle.mgs_resume.proofs.Contents.{rules_more, texts_all, texts_more, users_more}
use Rattle.mgs_resume.proofs.Walks.{kept_all, kept_more}
use Rattle.mgs_resume.specs.Refusing.{AreUsers}
use Rattle.mgs_resume.proofs.start.add_kept.Goals as goal

pub loop-rights-preserved : goal.loop-rights-preserved
loop-rights-preserved g c =
    let more = c.in_ok-add_next.ensures.ok in
    record {
      rules = kept_more c.loop-rights.joined c.add_next.new.joined (rules_in_rows (g.J.Journal.rows c.args.journal.now)) c.len.result c.in-Some.rights c.len.ensures.value c.loop-rights.invariant.rules c.in-Some.ensures (rules_more (g.J.Journal.taken c.args.journal.now) c.args.config.now c.loop-rights.joined c.add_next.new.joined c.in-Some.rights (get_or (g.J.Journal.texts c.args.journal.now) (length c.loop-rights.joined) None) more);
      texts = texts_more (g.J.Journal.taken c.args.journal.now) c.args.config.now c.loop-rights.joined c.add_next.new.joined (rules_in_rows (g.J.Journal.rows c.args.journal.now)) (g.J.Journal.texts c.args.journal.now) c.len.result c.in-Some.rights c.len.ensures.value c.loop-rights.invariant.texts c.in-Some.ensures more;
      owners = users_more c.args.directory.now (g.J.Journal.taken c.args.journal.now) c.args.config.now c.loop-rights.joined c.add_next.new.joined c.in-Some.rights (get_or (g.J.Journal.texts c.args.journal.now) (length c.loop-rights.joined) None) more
          (subst (λ (r : Rules). is_among r.owners.owner c.args.directory.now.users ≡ true) c.rights-in-Some.view_is (sym c.has_user.ensures ∙ c.if-not-has_user.false)) c.loop-rights.invariant.owners;
      unmarked = λ none. c.in_ok-add_next.ensures.unmarked (c.loop-rights.invariant.unmarked none);
    }

pub returns-clause-ok : goal.returns-clause-ok
returns-clause-ok g c = kept_all c.loop-rights.joined (rules_in_rows (g.J.Journal.rows c.args.journal.now)) c.len.result c.len.ensures.value c.loop-rights.invariant.rules c.in_default.ensures

pub returns-clause-texts : goal.returns-clause-texts
returns-clause-texts g c = texts_all (g.J.Journal.taken c.args.journal.now) c.args.config.now c.loop-rights.joined (rules_in_rows (g.J.Journal.rows c.args.journal.now)) (g.J.Journal.texts c.args.journal.now) c.len.result c.len.ensures.value c.loop-rights.invariant.texts c.in_default.ensures

pub returns-clause-owners : goal.returns-clause-owners
returns-clause-owners g c =
    subst (AreUsers c.args.directory.now)
    (kept_all c.loop-rights.joined (rules_in_rows (g.J.Journal.rows c.args.journal.now)) c.len.result c.len.ensures.value c.loop-rights.invariant.rules c.in_default.ensures)
    c.loop-rights.invariant.owners

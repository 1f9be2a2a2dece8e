use Rattle.std.proofs.Common.{sym, ap, ◌∙◌}
use Rattle.mgs_laws.specs.Apart.{Rules}
use Rattle.mgs_buffers.specs.Judging.{rules_kept}
use Rattle.mgs_buffers.specs.MarkedBuffer.{has_buffer}
use Rattle.mgs_resume.proofs.Contents.{rules_added, there}
use Rattle.mgs_resume.proofs.Walks.{other_added, other_had, other_none, other_taken}
use Rattle.mgs_resume.proofs.start.add_other.Goals as goal

pub returns-in_default-clause-ok : goal.returns-in_default-clause-ok
returns-in_default-clause-ok g c = other_none (g.J.Journal.taken c.args.journal.now) c.args.i (rules_kept c.args.config.now) (rules_kept c.args.joined.now) c.in_default.ensures

pub returns-then-is_taken-clause-ok : goal.returns-then-is_taken-clause-ok
returns-then-is_taken-clause-ok g c =
    let mine = ap (λ (r : Rules). g.J.Journal.taken c.args.journal.now r.name) (sym c.rights-2.view_is) ∙ sym c.is_taken.ensures ∙ c.if-is_taken.true in
    other_taken (g.J.Journal.taken c.args.journal.now) c.args.i (rules_kept c.args.config.now) c.args.joined.now c.in-Some.rights c.in-Some.ensures mine

pub returns-then-has-clause-ok : goal.returns-then-has-clause-ok
returns-then-has-clause-ok g c =
    let had = ap (λ (r : Rules). has_buffer r.name c.args.joined.now) (sym c.rights-2.view_is) ∙ sym c.has.ensures ∙ c.if-has.true in
    other_had (g.J.Journal.taken c.args.journal.now) c.args.i (rules_kept c.args.config.now) c.args.joined.now c.in-Some.rights c.in-Some.ensures had

pub returns-clause-ok : goal.returns-clause-ok
returns-clause-ok g c =
    let free = ap (λ (r : Rules). has_buffer r.name c.args.joined.now) (sym c.rights-2.view_is) ∙ sym c.has.ensures ∙ c.if-has.false in
    let mine = ap (λ (r : Rules). g.J.Journal.taken c.args.journal.now r.name) (sym c.rights-2.view_is) ∙ sym c.is_taken.ensures ∙ c.if-is_taken.false in
    other_added (g.J.Journal.taken c.args.journal.now) c.args.i (rules_kept c.args.config.now) c.args.joined.now c.add_configured.new.joined c.in-Some.rights c.in-Some.ensures mine free (rules_added c.args.joined.now c.add_configured.new.joined c.in-Some.rights _ c.in_ok-add_configured.ensures.ok)

pub add_configured-requires : goal.add_configured-requires
add_configured-requires g c = there c.args.config.now c.args.i c.in-Some.rights c.in-Some.ensures

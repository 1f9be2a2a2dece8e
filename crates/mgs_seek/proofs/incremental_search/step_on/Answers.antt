use Rattle.std.proofs.Common.{sym, ◌∙◌}
use Rattle.mgs_seek.proofs.Seeks.{held_seeker, only_stepped, step_does, step_fails}
use Rattle.mgs_seek.proofs.incremental_search.step_on.Goals as goal

pub returns-in-Err-clause-does : goal.returns-in-Err-clause-does
returns-in-Err-clause-does g c = λ s f held aim. rw c.fail.ensures (step_fails c.args.directory.now c.args.buffers.now c.args.session.now c.in-Err.message c.args.step f c.in-Err.ensures.err)

pub returns-in-Some-clause-only : goal.returns-in-Some-clause-only
returns-in-Some-clause-only g c =
    let h = c.args.session.now in
    rw (c.seek.ensures.buffers, c.seek.ensures.session, c.take_seeker.ensures.rest)
    (only_stepped c.args.directory.now c.args.buffers.now h c.in-Ok.window_marks c.in-Some.search c.args.step c.requires c.in-Ok.ensures.ok (held_seeker h.state.search c.in-Some.search (sym c.take_seeker.ensures.search ∙ c.in-Some.is)))

pub returns-in-Some-clause-does : goal.returns-in-Some-clause-does
returns-in-Some-clause-does g c = λ s f held aim.
    let h = c.args.session.now in
    rw (c.seek.ensures.buffers, c.seek.ensures.session, c.take_seeker.ensures.rest)
    (step_does c.args.directory.now c.args.buffers.now h c.in-Ok.window_marks c.in-Some.search c.args.step c.requires c.in-Ok.ensures.ok (held_seeker h.state.search c.in-Some.search (sym c.take_seeker.ensures.search ∙ c.in-Some.is)) c.seek.ensures.within c.seek.ensures.plan s f held aim)

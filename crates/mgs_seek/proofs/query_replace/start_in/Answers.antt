use Rattle.std.proofs.Common.{◌≤◌, ℕ, length, subst, None, refl}
use Rattle.mgs_model.specs.declared.session.Seeking.TheVariants.{StartReplace}
use Rattle.mgs_seek.specs.Replacing.{replacing_state}
use Rattle.mgs_buffers.specs.MarkedBuffer.{mark_at, marked_at}
use Rattle.mgs_seek.proofs.Meets.{only_met}
use Rattle.mgs_seek.proofs.Skips.{as_read, within_read}
use Rattle.mgs_search.specs.Planned.{IsBegun}
use Rattle.mgs_seek.proofs.Starts.{replace_begins, start_fails, start_refused}
use Rattle.mgs_seek.proofs.query_replace.start_in.Goals as goal

pub returns-in-Err-clause-does : goal.returns-in-Err-clause-does
returns-in-Err-clause-does g c =
    rw c.fail.ensures (start_fails c.args.directory.now c.args.buffers.now c.args.session.now (replacing_state c.args.pattern c.args.put) StartReplace None c.args.put c.requires.fresh c.in-Err.message refl c.in-Err.ensures.err)

pub returns-in-Err-begin_replacing-clause-does : goal.returns-in-Err-begin_replacing-clause-does
returns-in-Err-begin_replacing-clause-does g c =
    let ks = c.args.buffers.now in
    let x = c.in-Ok.window_marks in
    rw c.fail-in-Err-begin_replacing.ensures
    (start_refused c.args.directory.now ks c.args.session.now c.args.pattern c.args.put c.requires.fresh x c.in-Ok.ensures.ok c.begin_replacing.result
    (as_read (λ q t p. IsBegun q t p c.begin_replacing.result) _ c.args.pattern _ (marked_at x.name ks).buffer.text _ (mark_at x.name ks x.point) c.as_slice.ensures.value c.text_at.ensures.text c.pos-place.ensures.value c.begin_replacing.ensures.plan) c.in-Err-begin_replacing.message c.in-Err-begin_replacing.is)

pub returns-in-Ok-begin_replacing-clause-only : goal.returns-in-Ok-begin_replacing-clause-only
returns-in-Ok-begin_replacing-clause-only g c =
    let x = c.in-Ok.window_marks in
    rw (c.meet.ensures.buffers, c.meet.ensures.session) (only_met c.args.buffers.now c.args.session.now x _ c.in-Ok-begin_replacing.next _ _ c.in-Ok.ensures.ok.sel c.in-Ok.ensures.ok.marks.point)

pub returns-in-Ok-begin_replacing-clause-does : goal.returns-in-Ok-begin_replacing-clause-does
returns-in-Ok-begin_replacing-clause-does g c =
    let ks = c.args.buffers.now in
    let x = c.in-Ok.window_marks in
    let text = (marked_at x.name ks).buffer.text in
    let small : mark_at x.name ks x.point ≤ length text = subst (λ (p : ℕ). p ≤ length text) c.pos-place.ensures.value c.pos-place.ensures.within in
    let next = c.in-Ok-begin_replacing.next in
    rw (c.meet.ensures.buffers, c.meet.ensures.session, c.replacing-search.ensures, c.new.ensures, c.pos-place.ensures.value)
    (replace_begins c.args.directory.now ks c.args.session.now c.args.pattern c.args.put c.requires.fresh x c.in-Ok.ensures.ok c.begin_replacing.result
    (as_read (λ q t p. IsBegun q t p c.begin_replacing.result) _ c.args.pattern _ text _ (mark_at x.name ks x.point) c.as_slice.ensures.value c.text_at.ensures.text c.pos-place.ensures.value c.begin_replacing.ensures.plan)
    c.requires.sound small next c.in-Ok-begin_replacing.is (within_read next _ c.args.pattern _ text c.as_slice.ensures.value c.text_at.ensures.text c.in-Ok-begin_replacing.ensures.within))

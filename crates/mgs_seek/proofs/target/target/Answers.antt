use Rattle.std.proofs.Common.{sym, ◌∙◌}
use Rattle.mgs_world.proofs.Soundness.{mark_is_kept}
use Rattle.mgs_seek.proofs.Lifts.{marks_held}
use Rattle.mgs_seek.proofs.Targets.{denied_fails, off_fails}
use Rattle.mgs_seek.proofs.target.target.Goals as goal

pub returns-in_default-clause-err : goal.returns-in_default-clause-err
returns-in_default-clause-err g c = off_fails c.args.directory.now c.args.buffers.now c.args.session.now c.args.writes (sym c.selected_window_marks.ensures ∙ c.in_default.is)

pub decide_all-requires : goal.decide_all-requires
decide_all-requires g c =
    let x = c.in-Some.window_marks in
    mark_is_kept x.name x.point c.args.buffers.now (marks_held c.args.buffers.now c.args.session.now x c.requires (sym c.selected_window_marks.ensures ∙ c.in-Some.is)).point

pub returns-in-Some-denial-clause-err : goal.returns-in-Some-denial-clause-err
returns-in-Some-denial-clause-err g c =
    let x = c.in-Some.window_marks in
    let sel = sym c.selected_window_marks.ensures ∙ c.in-Some.is in
    let kept = mark_is_kept x.name x.point c.args.buffers.now (marks_held c.args.buffers.now c.args.session.now x c.requires sel).point in
    denied_fails c.args.directory.now c.args.buffers.now c.args.session.now c.args.writes x c.in-Some-denial.message sel kept (rw (sym c.mask.ensures, sym c.decide_all.ensures) c.in-Some-denial.ensures.denied)

pub returns-in-None-clause-ok : goal.returns-in-None-clause-ok
returns-in-None-clause-ok g c =
    let x = c.in-Some.window_marks in
    let sel = sym c.selected_window_marks.ensures ∙ c.in-Some.is in
    record {
      sel = sel;
      marks = marks_held c.args.buffers.now c.args.session.now x c.requires sel;
      granted = rw (sym c.mask.ensures, sym c.decide_all.ensures) (c.denial.ensures.granted c.in-None.is);
    }

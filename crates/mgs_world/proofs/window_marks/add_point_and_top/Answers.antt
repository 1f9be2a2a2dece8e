use Rattle.std.proofs.Common.{◌≤◌, length, refl, sym, subst, None}
use Rattle.mgs_model.specs.World.{Buffer}
use Rattle.mgs_world.proofs.WindowMarks.{buffer_same, buffers_marked, marked_marked_kept, window_marks_added, undone, added_mark, when_err}
use Rattle.mgs_world.proofs.window_marks.add_point_and_top.Goals as goal

pub add_beside-requires-clause-kept : goal.add_beside-requires-clause-kept
add_beside-requires-clause-kept g c =
    let h = c.in_ok-point.ensures.ok in
    marked_marked_kept c.args.name.now h.marks c.args.buffers.now c.add_mark.new.self c.requires.kept h.shape

pub add_beside-requires-clause-mark : goal.add_beside-requires-clause-mark
add_beside-requires-clause-mark g c = added_mark c.args.name.now c.args.point c.in_ok-point.point c.args.buffers.now c.add_mark.new.self c.requires.kept c.in_ok-point.ensures.ok

pub returns-clause-ok : goal.returns-clause-ok
returns-clause-ok g c =
    window_marks_added c.args.name.now c.args.point c.args.top (record { name = c.args.name.now; point = c.in_ok-point.point; mark = None; top = c.in_ok-top.top }) c.args.buffers.now c.add_mark.new.self c.add_beside.new.buffers c.requires.kept c.in_ok-point.ensures.ok c.in_ok-top.ensures.ok refl refl

pub returns-in_err-top-clause-err : goal.returns-in_err-top-clause-err
returns-in_err-top-clause-err g c =
    when_err c.from_residual-in_err-top.result
    (undone c.args.name.now c.args.point c.in_ok-point.point c.args.buffers.now c.add_mark.new.self c.add_beside.new.buffers c.requires.kept c.in_ok-point.ensures.ok c.in_err-top.ensures.err)

pub add_beside-requires-clause-within : goal.add_beside-requires-clause-within
add_beside-requires-clause-within g c =
    let h = c.in_ok-point.ensures.ok in
    subst (λ (b : Buffer). c.args.top ≤ length b.text)
    (sym (buffer_same c.args.name.now c.args.buffers.now c.add_mark.new.self c.requires.kept (buffers_marked c.args.name.now h.marks c.args.buffers.now c.add_mark.new.self h.shape)).1)
    c.requires.top

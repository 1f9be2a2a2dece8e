use Rattle.std.proofs.Common.{Some, refl}
use Rattle.mgs_world.proofs.Soundness.{mark_is_kept, shown_point}
use Rattle.mgs_world.proofs.window_marks.add_mark_beside.Goals as goal

pub add_mark-requires-clause-kept : goal.add_mark-requires-clause-kept
add_mark-requires-clause-kept g c =
    let x = c.args.window_marks in
    mark_is_kept x.name x.point c.args.buffers.now (shown_point c.args.buffers.now (Some x) x c.requires.sound refl)

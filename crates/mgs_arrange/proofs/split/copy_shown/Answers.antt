use Rattle.mgs_world.proofs.Soundness.{mark_is_kept, shown_point}
use Rattle.mgs_arrange.proofs.split.copy_shown.Goals as goal

pub pos-point-requires-clause-kept : goal.pos-point-requires-clause-kept
pos-point-requires-clause-kept g c =
    let x = c.in-Some.marks in
    mark_is_kept x.name x.point c.args.buffers.now (shown_point c.args.buffers.now c.args.shows x c.requires c.in-Some.is)

use Rattle.mgs_world.proofs.Soundness.{mark_is_kept, window_point}
use Rattle.mgs_world.proofs.event_end.settle_window.Goals as goal

pub settled_place-requires-clause-kept : goal.settled_place-requires-clause-kept
settled_place-requires-clause-kept g c =
    let x = c.in-Some.window_marks in
    mark_is_kept x.name x.point c.args.buffers.now (window_point c.args.buffers.now c.args.window.now x c.requires.sound c.in-Some.is)

use Rattle.std.proofs.Common.{drop}
use Rattle.mgs_world.specs.Sound.{place_uses}
use Rattle.mgs_world.proofs.Dropping.{Gone}
use Rattle.mgs_world.proofs.window_marks.drop_places.Given as goal

abbrev pub invariant-loop-place : goal.invariant-loop-place
invariant-loop-place g l = Gone place_uses l.initial.buffers l.buffers l.places (drop l.place-index l.places)

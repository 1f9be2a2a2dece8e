use Rattle.std.proofs.Common.{◌≡◌, length, map}
use Rattle.std.specs.Prelude.{vec_capacity}
use Rattle.mgs_model.specs.Events.{Close, run}
use Rattle.mgs_engine.specs.declared.session_end.Cause.TheVariants.{Slow}
use Rattle.mgs_engine.specs.Screens.{AreAmong, late_ids}
use Rattle.mgs_engine.specs.Served.{HasSlots, IsServedInTime, serving_of}
use Rattle.mgs_engine.specs.Serving.{all_ended_by}
use Rattle.mgs_engine.proofs.end.end_late.Given as goal

-- what is left is ended as all would be from the start
abbrev pub invariant-loop-id : goal.invariant-loop-id
invariant-loop-id g l = record {
  served : IsServedInTime l.core.world l.screens.items;
  slots : HasSlots l.screens.items l.ended.items (vec_capacity l.screens) (vec_capacity l.ended);
  ended :
      all_ended_by Slow (late_ids l.screens.items) (serving_of l.core l.screens.items l.ended.items)
      ≡ all_ended_by Slow (late_ids l.initial.screens.items) (serving_of l.initial.core l.initial.screens.items l.initial.ended.items);
  closes : run l.core.world (map (λ i. Close i) (late_ids l.screens.items)) ≡ run l.initial.core.world (map (λ i. Close i) (late_ids l.initial.screens.items));
  kept : AreAmong l.screens.items l.initial.screens.items;
}

abbrev pub decreases-loop-id : goal.decreases-loop-id
decreases-loop-id g l = length (late_ids l.screens.items)

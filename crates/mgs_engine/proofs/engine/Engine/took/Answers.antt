use Rattle.std.proofs.Common.{◌∙◌}
use Rattle.mgs_engine.proofs.Slots.{same_slots}
use Rattle.mgs_engine.proofs.Painted.{sizes_same, drawn_same, on_time_same}
use Rattle.mgs_engine.proofs.engine.Engine.took.Goals as goal

pub invariant_of-self : goal.invariant_of-self
invariant_of-self g c = (
  record {
    sizes_are = sizes_same c.take_from.new.screens.items c.self.inside.screens.items c.take_from.ensures.drawn ∙ c.self.invariant.0.sizes_are;
    unique = c.self.invariant.0.unique;
    each = c.take_from.ensures.each;
    drawn = drawn_same c.self.inside.core.world c.take_from.new.screens.items c.self.inside.screens.items c.take_from.ensures.drawn c.self.invariant.0.drawn;
    on_time = on_time_same c.take_from.new.screens.items c.self.inside.screens.items c.take_from.ensures.drawn c.self.invariant.0.on_time;
  },
  same_slots c.self.inside.screens.items c.take_from.new.screens.items c.self.inside.ended.items _ _ _ (sizes_same c.take_from.new.screens.items c.self.inside.screens.items c.take_from.ensures.drawn) c.take_from.ensures.capacity c.self.invariant.1,
)

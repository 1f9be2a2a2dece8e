use Rattle.std.proofs.Common.{refl, subst}
use Rattle.std.specs.Prelude.{All}
use Rattle.mgs_world.specs.Worlds.{IsOfSize, IsUnique}
use Rattle.mgs_core.specs.Held.{AreRising}
use Rattle.mgs_core.proofs.Kept.{sizes_kept}
use Rattle.mgs_core.proofs.server.Core.size.Goals as goal

pub returns-clause-value : goal.returns-clause-value
returns-clause-value g c = rw (c.deref.ensures.value, sizes_kept c.self.inside.world c.self.inside.next_id _ _ c.self.view_is refl) at c.size_at.ensures

pub returns-clause-each : goal.returns-clause-each
returns-clause-each g c = subst (All IsOfSize) (sizes_kept c.self.inside.world c.self.inside.next_id _ _ c.self.view_is refl) c.self.invariant.0.each

pub returns-clause-unique : goal.returns-clause-unique
returns-clause-unique g c = subst IsUnique (sizes_kept c.self.inside.world c.self.inside.next_id _ _ c.self.view_is refl) c.self.invariant.0.unique

pub returns-clause-rising : goal.returns-clause-rising
returns-clause-rising g c = subst AreRising (sizes_kept c.self.inside.world c.self.inside.next_id _ _ c.self.view_is refl) c.self.invariant.0.rising

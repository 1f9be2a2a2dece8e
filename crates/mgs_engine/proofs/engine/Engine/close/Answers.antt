use Rattle.std.proofs.Common.{List, map, nat_eq, sym, ap, subst, ◌∙◌}
use Rattle.mgs_model.specs.Apply.{remove_first}
use Rattle.mgs_world.specs.Worlds.{IsUnique}
use Rattle.mgs_engine.specs.declared.session_screen.Screen.{Screen}
use Rattle.mgs_engine.specs.declared.session_end.Cause.TheVariants.{Closed}
use Rattle.mgs_engine.specs.Queues.{queue_id}
use Rattle.mgs_engine.specs.Screens.{queues_of}
use Rattle.mgs_engine.specs.Serving.{Serving, ended_by, queue_ids}
use Rattle.mgs_engine.specs.Painted.{Painted}
use Rattle.mgs_engine.specs.Served.{serving_of, IsServed}
use Rattle.mgs_engine.proofs.Screens.{ids_removed}
use Rattle.mgs_engine.proofs.Quits.{screen_less}
use Rattle.mgs_engine.proofs.Stays.{served_closed}
use Rattle.mgs_engine.proofs.Painted.{painted_closed}
use Rattle.mgs_engine.proofs.engine.Engine.close.Goals as goal

pub invariant_of-self : goal.invariant_of-self
invariant_of-self g c =
    (served_closed c.self.inside.core.world c.close.new.self.world c.args.id c.self.inside.screens.items c.end_screen.new.screens.items c.self.invariant.0 c.close.ensures.rest c.close.ensures.sizes c.end_screen.ensures.screens, c.end_screen.ensures.slots)

pub returns-clause-queues : goal.returns-clause-queues
returns-clause-queues g c =
    ap (λ (xs : List Screen). map queue_id (queues_of xs)) c.end_screen.ensures.screens
    ∙ ids_removed c.args.id c.self.inside.screens.items
    ∙ ap (λ (s : Serving). remove_first (λ x. nat_eq x c.args.id) (queue_ids s)) c.self.view_is

pub returns-clause-ended : goal.returns-clause-ended
returns-clause-ended g c =
    screen_less c.self.inside.core c.close.new.self Closed c.args.id c.self.inside.screens.items c.end_screen.new.screens.items c.self.inside.ended.items c.end_screen.new.ended.items
    c.close.ensures.rest c.close.ensures.store c.end_screen.ensures.screens c.end_screen.ensures.ended
    ∙ ap (ended_by Closed c.args.id) c.self.view_is

pub returns-clause-painted : goal.returns-clause-painted
returns-clause-painted g c =
    let xs = c.self.inside.screens.items in
    let ys = c.end_screen.new.screens.items in
    let served : IsServed c.close.new.self.world ys = served_closed c.self.inside.core.world c.close.new.self.world c.args.id xs ys c.self.invariant.0 c.close.ensures.rest c.close.ensures.sizes c.end_screen.ensures.screens in
    subst (λ (s : Serving). Painted s (serving_of c.close.new.self ys c.end_screen.new.ended.items)) c.self.view_is
    (painted_closed c.self.inside.core c.close.new.self c.args.id xs ys c.self.inside.ended.items c.end_screen.new.ended.items c.end_screen.ensures.screens (subst IsUnique (sym c.self.invariant.0.sizes_are) c.self.invariant.0.unique) served.sizes_are c.self.invariant.0.drawn served.drawn)

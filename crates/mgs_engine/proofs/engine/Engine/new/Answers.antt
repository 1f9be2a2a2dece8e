use Rattle.std.proofs.Common.{◌≡◌, ℕ, List, Some, length, map, ap, sym, subst, ◌∙◌, arith}
use Rattle.mgs_model.specs.Draw.{screen}
use Rattle.mgs_model.specs.World.{Session, find_session}
use Rattle.mgs_paint.specs.Painting.{Paints}
use Rattle.mgs_core.specs.Kept.{Kept}
use Rattle.mgs_engine.specs.Queues.{queue_id}
use Rattle.mgs_engine.specs.Screens.{queues_of}
use Rattle.mgs_engine.specs.Served.{IsServed, serving_of}
use Rattle.mgs_engine.specs.Serving.{pending_of}
use Rattle.mgs_engine.specs.declared.session_screen.Screen.{Screen}
use Rattle.mgs_world.specs.declared.size.Size.{Size}
use Rattle.mgs_engine.proofs.Screens.{ids_are}
use Rattle.mgs_engine.proofs.Painted.{first_all}
use Rattle.mgs_engine.proofs.engine.Engine.new.Goals as goal

pub returns-clause-ids : goal.returns-clause-ids
returns-clause-ids g c =
    ap (λ (xs : List Screen). map queue_id (queues_of xs)) c.in_ok-ended.ensures.screens
    ∙ ids_are c.in_ok-screens.screens.items
    ∙ ap (map (λ (z : Size). z.id)) c.in_ok-screens.ensures.sizes

pub returns-clause-first : goal.returns-clause-first
returns-clause-first g c =
    let first : Kept → List Screen → Type 0 =
    λ k xs. (id : ℕ) (x : Session) → find_session id c.args.core.world.sessions ≡ Some x → Paints (screen c.args.core.world x) (pending_of id (serving_of k xs c.in_ok-ended.ended.items)) in
    subst (λ (k : Kept). first k c.make_room.new.screens.items) (sym c.in_ok-screens.ensures.core)
    (subst (first c.args.core) (sym c.in_ok-ended.ensures.screens)
    (first_all c.args.core c.in_ok-screens.screens.items c.in_ok-ended.ended.items c.in_ok-screens.ensures.sizes c.in_ok-screens.ensures.drawn c.in_ok-screens.ensures.first))

pub invariant_of-result : goal.invariant_of-result
invariant_of-result g c =
    let served : IsServed c.args.core.world c.in_ok-screens.screens.items = record {
      sizes_are = c.in_ok-screens.ensures.sizes;
      unique = c.in_ok-screens.ensures.unique;
      each = c.in_ok-screens.ensures.each;
      drawn = c.in_ok-screens.ensures.drawn;
      on_time = c.in_ok-screens.ensures.on_time;
    } in (
      subst (λ (k : Kept). IsServed k.world c.make_room.new.screens.items) (sym c.in_ok-screens.ensures.core)
          (subst (IsServed c.args.core.world) (sym c.in_ok-ended.ensures.screens) served),
      record {
        limit = c.in_ok-ended.ensures.limit;
        each = omega (arith, c.in_ok-ended.ensures.each, ap length c.in_ok-ended.ensures.empty, c.make_room.new.screens.ok.0);
        same = c.in_ok-ended.ensures.same;
      },
    )

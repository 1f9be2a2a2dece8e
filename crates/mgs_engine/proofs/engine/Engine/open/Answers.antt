use Rattle.std.proofs.Common.{◌≡◌, ℕ, List, [], ◌∷◌, ◌++◌, length, map, Some, refl, sym, ap, subst, ◌∙◌, arith}
use Rattle.mgs_model.specs.World.{Session, find_session}
use Rattle.mgs_model.specs.Draw.{screen}
use Rattle.mgs_paint.specs.Painting.{Paints}
use Rattle.mgs_world.specs.declared.size.Size.{Size}
use Rattle.mgs_world.specs.Worlds.{sizes, find_size}
use Rattle.mgs_core.specs.Kept.{Kept}
use Rattle.mgs_core.proofs.Ids.{known_last}
use Rattle.mgs_engine.specs.declared.session_screen.Screen.{Screen}
use Rattle.mgs_engine.specs.Queues.{Queue, queue_id}
use Rattle.mgs_engine.specs.Screens.{queues_of}
use Rattle.mgs_engine.specs.Serving.{Serving, pending_of, queue_ids}
use Rattle.mgs_engine.specs.Painted.{Painted}
use Rattle.mgs_engine.specs.Served.{serving_of, IsServed}
use Rattle.mgs_engine.proofs.Repaints.{ready_blank, same_size}
use Rattle.mgs_engine.proofs.Screens.{ids_opened}
use Rattle.mgs_engine.proofs.Slots.{more_slots}
use Rattle.mgs_engine.proofs.Stays.{served_opened}
use Rattle.mgs_engine.proofs.Painted.{painted_opened, first_opened, queues_opened}
use Rattle.mgs_engine.proofs.engine.Engine.open.Goals as goal

pub draw_first-requires-clause-known : goal.draw_first-requires-clause-known
draw_first-requires-clause-known g c =
    let y : Size = record { id = c.in_ok-id.id; rows = c.args.rows; cols = c.args.cols } in
    ap (find_size c.in_ok-id.id) c.in_ok-id.ensures.opened
    ∙ known_last (sizes c.self.inside.core.world) y c.in_ok-id.ensures.fresh
    ∙ ap (λ (s : Size). Some s) (sym (same_size c.in_ok-id.id c.args.rows c.args.cols _ _ c.in-Ok.ensures.rows c.in-Ok.ensures.cols))

pub draw_first-requires-clause-ready : goal.draw_first-requires-clause-ready
draw_first-requires-clause-ready g c = ready_blank c.open.new.self.world _ c.in-Ok.ensures.level c.in-Ok.ensures.untold

pub push_reserved-requires : goal.push_reserved-requires
push_reserved-requires g c =
    let screens : length c.deref.result.now ≡ length c.self.inside.screens.items = ap length c.deref.ensures.value in
    let ended : length c.deref-2.result.now ≡ length c.self.inside.ended.items = ap length c.deref-2.ensures.value in
    omega (arith, c.in_default.ensures.slot refl, screens, ended, c.self.invariant.1.limit, c.self.invariant.1.same, c.self.inside.screens.ok.0)

pub invariant_of-self-2 : goal.invariant_of-self-2
invariant_of-self-2 g c =
    let z = c.draw_first.new.screen in
    let items : c.push_reserved.new.self.items ≡ c.self.inside.screens.items ++ z ∷ [] = c.push_reserved.ensures.items in
    let screens : length c.deref.result.now ≡ length c.self.inside.screens.items = ap length c.deref.ensures.value in
    let ended : length c.deref-2.result.now ≡ length c.self.inside.ended.items = ap length c.deref-2.ensures.value in (
      subst (λ (k : Kept). IsServed k.world c.push_reserved.new.self.items) (sym c.draw_first.ensures.core)
          (served_opened c.self.inside.core.world c.open.new.self.world c.in_ok-id.id c.args.user.now c.args.rows c.args.cols c.self.inside.screens.items c.push_reserved.new.self.items z (record { id = c.in_ok-id.id; rows = c.args.rows; cols = c.args.cols })
          c.self.invariant.0 c.in_ok-id.ensures.rest c.in_ok-id.ensures.opened c.in_ok-id.ensures.fresh
          (c.push_reserved.ensures.items)
          (c.draw_first.ensures.size ∙ same_size c.in_ok-id.id c.args.rows c.args.cols _ _ c.in-Ok.ensures.rows c.in-Ok.ensures.cols) c.draw_first.ensures.screen c.draw_first.ensures.drawn (c.draw_first.ensures.late ∙ c.in-Ok.ensures.on_time)),
      more_slots c.self.inside.screens.items c.push_reserved.new.self.items z c.self.inside.ended.items _ _ _ items c.push_reserved.ensures.capacity c.self.invariant.1 (omega (arith, c.in_default.ensures.slot refl, screens, ended)),
    )

pub returns-clause-queue : goal.returns-clause-queue
returns-clause-queue g c =
    let z = c.draw_first.new.screen in
    ap (λ (xs : List Screen). map queue_id (queues_of xs)) (c.push_reserved.ensures.items)
    ∙ ids_opened c.self.inside.screens.items z
    ∙ ap (λ (i : ℕ). map queue_id (queues_of c.self.inside.screens.items) ++ i ∷ []) (ap (λ (s : Size). s.id) c.draw_first.ensures.size)
    ∙ ap (λ (s : Serving). queue_ids s ++ c.in_ok-id.id ∷ []) c.self.view_is

pub returns-clause-others : goal.returns-clause-others
returns-clause-others g c =
    let z = c.draw_first.new.screen in
    let xs = c.self.inside.screens.items in
    let new : List Screen → Queue = λ ys. record { id = c.in_ok-id.id; bytes = pending_of c.in_ok-id.id (serving_of c.open.new.self ys c.self.inside.ended.items) } in
    let items : c.push_reserved.new.self.items ≡ xs ++ z ∷ [] = c.push_reserved.ensures.items in
    ap queues_of items
    ∙ queues_opened c.open.new.self xs c.self.inside.ended.items z c.in_ok-id.id (ap (λ (s : Size). s.id) c.draw_first.ensures.size) (ap (find_size c.in_ok-id.id) c.self.invariant.0.sizes_are ∙ c.in_ok-id.ensures.fresh)
    ∙ ap (λ (ys : List Screen). queues_of xs ++ new ys ∷ []) (sym items)
    ∙ ap (λ (s : Serving). s.queues ++ new c.push_reserved.new.self.items ∷ []) c.self.view_is

pub returns-clause-painted : goal.returns-clause-painted
returns-clause-painted g c =
    let w = c.self.inside.core in
    let v = c.open.new.self in
    let xs = c.self.inside.screens.items in
    let z = c.draw_first.new.screen in
    let items : c.push_reserved.new.self.items ≡ xs ++ z ∷ [] = c.push_reserved.ensures.items in
    let served : IsServed v.world c.push_reserved.new.self.items =
    served_opened w.world v.world c.in_ok-id.id c.args.user.now c.args.rows c.args.cols xs c.push_reserved.new.self.items z (record { id = c.in_ok-id.id; rows = c.args.rows; cols = c.args.cols })
    c.self.invariant.0 c.in_ok-id.ensures.rest c.in_ok-id.ensures.opened c.in_ok-id.ensures.fresh items
    (c.draw_first.ensures.size ∙ same_size c.in_ok-id.id c.args.rows c.args.cols _ _ c.in-Ok.ensures.rows c.in-Ok.ensures.cols) c.draw_first.ensures.screen c.draw_first.ensures.drawn (c.draw_first.ensures.late ∙ c.in-Ok.ensures.on_time) in
    subst (λ (k : Kept). Painted c.args.self.now (serving_of k c.push_reserved.new.self.items c.self.inside.ended.items)) (sym c.draw_first.ensures.core)
    (subst (λ (s : Serving). Painted s (serving_of v c.push_reserved.new.self.items c.self.inside.ended.items)) c.self.view_is
    (painted_opened w v xs c.push_reserved.new.self.items c.self.inside.ended.items c.self.inside.ended.items z items c.self.invariant.0.sizes_are c.self.invariant.0.drawn served.drawn))

pub returns-clause-first : goal.returns-clause-first
returns-clause-first g c =
    let v = c.open.new.self in
    let id = c.in_ok-id.id in
    let xs = c.self.inside.screens.items in
    let z = c.draw_first.new.screen in
    let items : c.push_reserved.new.self.items ≡ xs ++ z ∷ [] = c.push_reserved.ensures.items in
    subst (λ (k : Kept). (y : Session) × (find_session id k.world.sessions ≡ Some y) × Paints (screen k.world y) (pending_of id (serving_of k c.push_reserved.new.self.items c.self.inside.ended.items))) (sym c.draw_first.ensures.core)
    (subst (λ (ys : List Screen). (y : Session) × (find_session id v.world.sessions ≡ Some y) × Paints (screen v.world y) (pending_of id (serving_of v ys c.self.inside.ended.items))) (sym items)
    (first_opened v xs c.self.inside.ended.items z id (ap (λ (s : Size). s.id) c.draw_first.ensures.size) (ap (find_size id) c.self.invariant.0.sizes_are ∙ c.in_ok-id.ensures.fresh) c.draw_first.ensures.drawn c.draw_first.ensures.first))

-- The engine of a world in which no session is open yet.
use Rattle.std.proofs.Common.{◌≡◌, List, [], ◌∷◌, map, Result, Ok, Err, refl, ap, ◌∙◌}
use Rattle.std.specs.Prelude.{IfOk}
use Rattle.mgs_model.specs.World.{World, Session}
use Rattle.mgs_births.specs.Telling.{StoreTold}
use Rattle.mgs_core.specs.Kept.{Kept, kept}
use Rattle.mgs_engine.specs.Queues.{Queue, queue_id}
use Rattle.mgs_engine.specs.Serving.{Serving, queue_ids}
use Rattle.mgs_world.specs.declared.size.Size.{Size}
use Rattle.mgs_world.specs.Worlds.{session_size, sizes}
use Rattle.mgs_server.specs.Listening.{at_first}

empty : (qs : List Queue) → map queue_id qs ≡ [] → qs ≡ []
empty [] h = refl
empty (q ∷ qs) h = absurd cc

-- no session is open, so nothing waits
pub engine_first : {F : Type 0} (r : Result Serving F) (core : Kept) (w : World) (t : StoreTold) → core ≡ kept w t → w.sessions ≡ []
    → IfOk r (λ e. e.world ≡ core.world) → IfOk r (λ e. e.store ≡ core.store)
    → IfOk r (λ e. queue_ids e ≡ map (λ (z : Size). z.id) (sizes core.world)) → IfOk r (λ e. e.ended ≡ [])
    → IfOk r (λ e. e ≡ at_first w t)
engine_first (Ok e) core w t is none world store ids ended =
    let queues : e.queues ≡ [] = empty e.queues (ids ∙ ap (λ (k : Kept). map (λ (z : Size). z.id) (sizes k.world)) is ∙ ap (λ (xs : List Session). map (λ (z : Size). z.id) (map session_size xs)) none) in
    λ i. record { world = (world ∙ ap (λ (k : Kept). k.world) is) i; store = (store ∙ ap (λ (k : Kept). k.store) is) i; queues = queues i; ended = ended i }
engine_first (Err f) core w t is none world store ids ended = tt

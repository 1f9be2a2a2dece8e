-- Sessions that end leave the buffers as they are.
use Rattle.std.proofs.Common.{◌≡◌, ℕ, Bool, true, false, List, [], ◌∷◌, map, refl, ◌∙◌}
use Rattle.std.specs.Prelude.{cond}
use Rattle.mgs_model.specs.Events.{Close, is_open, run, step}
use Rattle.mgs_model.specs.World.{World}
use Rattle.mgs_engine.specs.Serving.{Serving, all_ended_by, ended_by}
use Rattle.mgs_engine.specs.declared.session_end.Cause.{Cause}

either_stays : (b : Bool) (v w : World) → v.buffers ≡ w.buffers → (cond b v w).buffers ≡ w.buffers
either_stays true v w same = same
either_stays false v w same = refl

pub close_stays : (w : World) (id : ℕ) → (step w (Close id)).buffers ≡ w.buffers
close_stays w id = either_stays (is_open id w) _ w refl

pub closes_stay : (w : World) (ids : List ℕ) → (run w (map (λ i. Close i) ids)).buffers ≡ w.buffers
closes_stay w [] = refl
closes_stay w (i ∷ ids) = closes_stay (step w (Close i)) ids ∙ close_stays w i

-- what its store tells stays if sessions end
pub ended_store : (cause : Cause) (ids : List ℕ) (s : Serving) → (all_ended_by cause ids s).store ≡ s.store
ended_store cause [] s = refl
ended_store cause (id ∷ ids) s = ended_store cause ids (ended_by cause id s)

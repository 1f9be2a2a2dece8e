-- The rows that a journal is to keep stay if a session opens or ends.
use Rattle.std.proofs.Common.{◌≡◌, ℕ, Bool, true, false, List, map, refl, ap, ◌∙◌}
use Rattle.std.specs.Prelude.{cond}
use Rattle.mgs_births.specs.Births.{Births}
use Rattle.mgs_model.specs.Events.{Open, Close, step, can_open}
use Rattle.mgs_model.specs.World.{World}
use Rattle.mgs_laws.specs.Apart.{Rules, rules_in}
use Rattle.mgs_engine.specs.Serving.{Serving}
use Rattle.mgs_engine.proofs.Closes.{close_stays}
use Rattle.mgs_keep.specs.Keeping.{row_of, rows_in}

buffers_either : (b : Bool) (v w : World) → v.buffers ≡ w.buffers → (cond b v w).buffers ≡ w.buffers
buffers_either true v w same = same
buffers_either false v w same = refl

pub opened_rules : (old new : Serving) (user : List ℕ) (rows cols id : ℕ) → new.world ≡ step old.world (Open id user rows cols) → rules_in new.world.buffers ≡ rules_in old.world.buffers
opened_rules old new user rows cols id is =
    ap (λ (w : World). rules_in w.buffers) is ∙ ap rules_in (buffers_either (can_open old.world id user rows cols) _ old.world refl)

pub closed_rules : (old new : Serving) (id : ℕ) → new.world ≡ step old.world (Close id) → rules_in new.world.buffers ≡ rules_in old.world.buffers
closed_rules old new id is = ap (λ (w : World). rules_in w.buffers) is ∙ ap rules_in (close_stays old.world id)

pub same_rows : (old new : Serving) → rules_in new.world.buffers ≡ rules_in old.world.buffers → new.store.births ≡ old.store.births → rows_in new ≡ rows_in old
same_rows old new rules births =
    ap (λ (b : Births). map (row_of b) (rules_in new.world.buffers)) births ∙ ap (λ (rs : List Rules). map (row_of old.store.births) rs) rules

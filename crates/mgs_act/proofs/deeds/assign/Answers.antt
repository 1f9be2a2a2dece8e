use Rattle.std.proofs.Common.{get_or, refl, ap, ◌∙◌}
use Rattle.mgs_model.specs.declared.session.Kind.TheVariants.{Other}
use Rattle.mgs_model.specs.declared.touched.Touched.TheVariants.{Anywhere}
use Rattle.mgs_session.specs.Sessions.{acted}
use Rattle.mgs_plan.specs.declared.outcome.Outcome.TheVariants.{SetsOwners}
use Rattle.mgs_model.specs.Apply.{owners_after}
use Rattle.mgs_model.specs.World.{Buffer}
use Rattle.mgs_world.proofs.Attributes.{sound_by}
use Rattle.mgs_world.proofs.Soundness.{sound_set}
use Rattle.mgs_plan.proofs.Deeds.{fresh_state}
use Rattle.mgs_model.specs.Outcome.{SetOwners}
use Rattle.mgs_births.proofs.Tells.{tells_ruled}
use Rattle.mgs_act.proofs.Done.{can_at, here_is, tellingly}
use Rattle.mgs_act.proofs.Rulings.{owners_set_so}
use Rattle.mgs_act.proofs.deeds.assign.Goals as goal

pub set_owner-requires : goal.set_owner-requires
set_owner-requires g c = let can = can_at c.requires c.index-sessions-at.result in record { kept = can.kept; granted = can.granted }

pub returns-clause-sound : goal.returns-clause-sound
returns-clause-sound g c =
    let ks = c.args.buffers.now in
    let xs = c.args.sessions.now in
    rw (c.set_owner.ensures, c.set_kind.ensures) (sound_by (λ (b : Buffer). record b { owners = owners_after c.args.new b.owners }) (λ b. refl) c.args.name.now ks _ (sound_set ks xs c.args.at (get_or xs c.args.at c.index-sessions-at-2.result) _ (ap (get_or xs c.args.at) c.index-sessions-at-2.is) (λ n i. refl) c.requires.sound))

pub returns-clause-done : goal.returns-clause-done
returns-clause-done g c =
    let d = c.args.directory.now in
    let ks = c.args.buffers.now in
    let xs = c.args.sessions.now in
    tellingly d c.args.at (SetsOwners c.args.name.now c.args.new) ks _ xs _ Anywhere _ _
    (λ id next h place found.
    let same = c.set_kind.ensures ∙ ap (acted Other) (here_is xs c.args.at c.index-sessions-at-2.result h c.requires.within found) in
    (rw (c.set_owner.ensures, same) (owners_set_so d ks xs next id c.args.at h place c.requires.within found (fresh_state xs c.args.at h found c.requires.fresh) c.args.name.now c.args.new), refl, tells_ruled _ _ (SetOwners c.args.name.now c.args.new) refl refl refl c.record_owners.ensures))

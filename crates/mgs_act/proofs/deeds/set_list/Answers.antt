use Rattle.std.proofs.Common.{[], ◌∷◌, get_or, refl, sym, ap, subst, ◌∙◌}
use Rattle.mgs_model.specs.Acts.{effects, list_set}
use Rattle.mgs_laws.specs.Apart.{touched_by}
use Rattle.mgs_model.specs.Apply.{apply}
use Rattle.mgs_model.specs.Outcome.{SetList}
use Rattle.mgs_births.specs.Reports.{Did}
use Rattle.mgs_births.specs.StoreBirths.{store_and_births}
use Rattle.mgs_births.specs.Telling.{StoreTold, Tells}
use Rattle.mgs_births.proofs.Tells.{tells_ruled}
use Rattle.mgs_model.specs.declared.session.Kind.TheVariants.{Other}
use Rattle.mgs_model.specs.declared.touched.Touched.TheVariants.{Anywhere}
use Rattle.mgs_session.specs.Sessions.{acted}
use Rattle.mgs_plan.specs.declared.outcome.Outcome.TheVariants.{SetsList}
use Rattle.mgs_world.specs.Worlds.{state_of, world_of}
use Rattle.mgs_model.specs.World.{Buffer}
use Rattle.mgs_world.proofs.Attributes.{sound_by}
use Rattle.mgs_world.proofs.Soundness.{sound_set}
use Rattle.mgs_plan.proofs.Deeds.{fresh_state}
use Rattle.mgs_act.proofs.Done.{can_at, here_is, tellingly}
use Rattle.mgs_act.proofs.Rulings.{list_set_so}
use Rattle.mgs_act.proofs.deeds.set_list.Goals as goal

pub put_list-requires : goal.put_list-requires
put_list-requires g c = can_at c.requires c.index-sessions-at.result

pub returns-clause-sound : goal.returns-clause-sound
returns-clause-sound g c =
    let ks = c.args.buffers.now in
    let xs = c.args.sessions.now in
    let can = (can_at c.requires c.index-sessions-at.result).can in
    rw (c.put_list.ensures.list can.entries can.planned, c.set_kind.ensures) (sound_by (λ (b : Buffer). record b { entries = can.entries }) (λ b. refl) c.args.name.now ks _ (sound_set ks xs c.args.at (get_or xs c.args.at c.index-sessions-at-2.result) _ (ap (get_or xs c.args.at) c.index-sessions-at-2.is) (λ n i. refl) c.requires.sound))

pub returns-clause-done : goal.returns-clause-done
returns-clause-done g c =
    let d = c.args.directory.now in
    let ks = c.args.buffers.now in
    let xs = c.args.sessions.now in
    let s = store_and_births g.S.Store.failed g.S.Store.accepted c.args.store.now in
    let t : StoreTold = record { failed = s.failed; accepted = s.accepted; births = s.births; tape = c.put_list.new.tape } in
    tellingly d c.args.at (SetsList c.args.name.now c.args.plan.now) ks _ xs _ Anywhere s t
    (λ id next h place found.
    let can = (c.requires.can h found).can in
    let same = c.set_kind.ensures ∙ ap (acted Other) (here_is xs c.args.at c.index-sessions-at-2.result h c.requires.within found) in (
      rw (c.put_list.ensures.list can.entries can.planned, same)
          (list_set_so d ks xs next id c.args.at h place c.requires.within found (fresh_state xs c.args.at h found c.requires.fresh) c.args.name.now can.entries
          ∙ ap (λ r. apply (world_of d ks xs next) id (effects (state_of h.state) (list_set c.args.name.now r))) (sym can.planned)),
      sym (ap (λ r. touched_by (effects (state_of h.state) (list_set c.args.name.now r)).effect) can.planned),
      subst (λ r. Tells (Did (effects (state_of h.state) (list_set c.args.name.now r)).effect ∷ []) s t) (sym can.planned) (tells_ruled s t (SetList c.args.name.now can.entries) refl refl refl (c.put_list.ensures.taped can.entries can.planned)),
    ))

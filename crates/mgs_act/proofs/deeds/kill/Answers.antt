use Rattle.std.proofs.Common.{get_or, refl, ap, ◌∙◌}
use Rattle.std.specs.Prelude.{slice_set}
use Rattle.mgs_model.specs.declared.session.Kind.TheVariants.{Other}
use Rattle.mgs_model.specs.declared.touched.Touched.TheVariants.{Anywhere}
use Rattle.mgs_session.specs.Sessions.{acted}
use Rattle.mgs_plan.specs.declared.outcome.Outcome.TheVariants.{Kills}
use Rattle.mgs_world.specs.Killing.{world_without}
use Rattle.mgs_world.specs.Worlds.{world_of}
use Rattle.mgs_world.proofs.Soundness.{sound_set}
use Rattle.mgs_plan.proofs.Deeds.{fresh_state}
use Rattle.mgs_act.proofs.Kills.{killed_so}
use Rattle.mgs_model.specs.Outcome.{Kill}
use Rattle.mgs_births.proofs.Tells.{tells_ruled}
use Rattle.mgs_act.proofs.Done.{can_at, granted_done, here_is, tellingly}
use Rattle.mgs_act.proofs.deeds.kill.Goals as goal

pub kill_buffer-done-requires-clause-sound : goal.kill_buffer-done-requires-clause-sound
kill_buffer-done-requires-clause-sound g c =
    let xs = c.args.sessions.now in
    let r = c.index-sessions-at-2.result in
    rw c.set_kind.ensures (sound_set c.args.buffers.now xs c.args.at (get_or xs c.args.at r) _ (ap (get_or xs c.args.at) c.index-sessions-at-2.is) (λ n i. refl) c.requires.sound)

pub kill_buffer-done-requires-clause-kept : goal.kill_buffer-done-requires-clause-kept
kill_buffer-done-requires-clause-kept g c = (can_at c.requires c.index-sessions-at.result).kept

pub returns-clause-done : goal.returns-clause-done
returns-clause-done g c =
    let d = c.args.directory.now in
    let ks = c.args.buffers.now in
    let xs = c.args.sessions.now in
    let name = c.args.name.now in
    let without = granted_done c.kill_buffer-done.result _ c.kill_buffer-done.ensures.answer (can_at c.requires c.index-sessions-at.result).granted c.kill_buffer-done.ensures.world in
    tellingly d c.args.at (Kills name) ks _ xs _ Anywhere _ _
    (λ id next h place found. (
      without d next
          ∙ ap (λ y. world_without name (world_of d ks (slice_set xs c.args.at y) next)) (c.set_kind.ensures ∙ ap (acted Other) (here_is xs c.args.at c.index-sessions-at-2.result h c.requires.within found))
          ∙ killed_so d ks xs next id c.args.at h name place c.requires.within found (fresh_state xs c.args.at h found c.requires.fresh),
      refl,
      tells_ruled _ _ (Kill name) refl refl c.record_kill.ensures c.record_kill-2.ensures,
    ))

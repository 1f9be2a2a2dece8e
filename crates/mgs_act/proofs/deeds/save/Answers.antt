use Rattle.std.proofs.Common.{get_or, refl, ap, true, false, ◌∙◌}
use Rattle.std.specs.Prelude.{Err}
use Rattle.mgs_model.specs.declared.session.Kind.TheVariants.{Other}
use Rattle.mgs_model.specs.declared.echo_text.Message.TheVariants.{Says, Wrote}
use Rattle.mgs_model.specs.declared.echo_text.Notice.TheVariants.{SaveFailed}
use Rattle.mgs_buffers.specs.MarkedBuffer.{marked_at}
use Rattle.mgs_session.specs.Sessions.{acted, failed, told}
use Rattle.mgs_world.proofs.Soundness.{sound_set}
use Rattle.mgs_world.proofs.Unmodified.{sound_unmodified}
use Rattle.mgs_plan.proofs.Deeds.{failed_so, fresh_state}
use Rattle.mgs_act.proofs.Done.{can_at, here_is}
use Rattle.mgs_model.specs.Outcome.{No_effect, Save}
use Rattle.mgs_births.proofs.Tells.{tells_saved}
use Rattle.mgs_act.proofs.Saves.{saved_as, wrote_so}
use Rattle.mgs_act.proofs.deeds.save.Goals as goal

pub save_as-requires : goal.save_as-requires
save_as-requires g c = (can_at c.requires c.index-sessions-at.result).kept

pub returns-in-Ok-clause-sound : goal.returns-in-Ok-clause-sound
returns-in-Ok-clause-sound g c =
    let ks = c.args.buffers.now in
    let xs = c.args.sessions.now in
    rw (c.in-Ok.ensures.ok, c.finish.ensures) (sound_set _ xs c.args.at (get_or xs c.args.at c.index-sessions-at-in-Ok.result) _ (ap (get_or xs c.args.at) c.index-sessions-at-in-Ok.is) (λ n i. refl) (sound_unmodified c.args.name.now ks xs c.requires.sound))

pub returns-in-Ok-clause-done : goal.returns-in-Ok-clause-done
returns-in-Ok-clause-done g c =
    let d = c.args.directory.now in
    let ks = c.args.buffers.now in
    let xs = c.args.sessions.now in
    let name = c.args.name.now in
    let text = (marked_at name ks).buffer.text in
    record {
      stored = true;
      fault = λ e. cc;
      does = λ id next h place found.
          let same = c.finish.ensures ∙ ap (λ y. told (Wrote name) (acted Other y)) (here_is xs c.args.at c.index-sessions-at-in-Ok.result h c.requires.within found) in
          record {
            world = rw (c.in-Ok.ensures.ok, same) (wrote_so d ks xs next id c.args.at h name text place c.requires.within found (fresh_state xs c.args.at h found c.requires.fresh));
            touches = refl;
            tells = tells_saved _ _ (Save name text) (λ b. refl) (saved_as _ _ name text _ _ c.save_as.ensures.saved c.in-Ok.is) refl (c.record_save.ensures text);
          };
    }

pub returns-in-Store-clause-sound : goal.returns-in-Store-clause-sound
returns-in-Store-clause-sound g c =
    let xs = c.args.sessions.now in
    rw (c.in-Err.ensures.err, c.fail.ensures) (sound_set c.args.buffers.now xs c.args.at (get_or xs c.args.at c.index-sessions-at-in-Store.result) _ (ap (get_or xs c.args.at) c.index-sessions-at-in-Store.is) (λ n i. refl) c.requires.sound)

pub returns-in-Store-clause-done : goal.returns-in-Store-clause-done
returns-in-Store-clause-done g c =
    let d = c.args.directory.now in
    let ks = c.args.buffers.now in
    let xs = c.args.sessions.now in
    let name = c.args.name.now in
    let text = (marked_at name ks).buffer.text in
    record {
      stored = false;
      fault = λ e. c.save_as.ensures.fault (c.in-Err.is ∙ ap Err c.in-Store.is);
      does = λ id next h place found.
          let same = c.fail.ensures ∙ ap (failed (Says SaveFailed)) (here_is xs c.args.at c.index-sessions-at-in-Store.result h c.requires.within found) in
          record {
            world = rw (c.in-Err.ensures.err, same) (failed_so d ks xs next id c.args.at h (Says SaveFailed) place c.requires.within found (fresh_state xs c.args.at h found c.requires.fresh));
            touches = refl;
            tells = tells_saved _ _ No_effect (λ b. refl) (saved_as _ _ name text _ _ c.save_as.ensures.saved c.in-Err.is) refl refl;
          };
    }

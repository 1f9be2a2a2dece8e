use Rattle.std.proofs.Common.{[], ◌∷◌, get_or, refl, sym, subst, ap}
use Rattle.mgs_births.specs.StoreBirths.{store_and_births}
use Rattle.mgs_births.specs.Reports.{Did}
use Rattle.mgs_births.specs.Telling.{StoreTold, Tells}
use Rattle.mgs_model.specs.declared.touched.Touched.TheVariants.{Anywhere}
use Rattle.mgs_buffers.specs.MarkedBuffer.{HasBuffer}
use Rattle.mgs_session.specs.declared.Session.{Session}
use Rattle.mgs_plan.specs.declared.outcome.Outcome.TheVariants.{Creates}
use Rattle.mgs_world.specs.Sound.{IsSound}
use Rattle.mgs_act.proofs.Created.{created_kept, created_sound, made_granted, made_kept, made_world, unmade_sound, unmade_world}
use Rattle.mgs_model.specs.Outcome.{Create}
use Rattle.mgs_births.proofs.Tells.{tells_ruled}
use Rattle.mgs_act.proofs.Done.{can_at, granted_done, here_is, tellingly}
use Rattle.mgs_act.proofs.Switches.{created_done}
use Rattle.mgs_act.proofs.creation.show_created.Goals as goal

pub show-requires : goal.show-requires
show-requires g c =
    let ks = c.args.buffers.now in
    let xs = c.args.sessions.now in
    let h : Session = get_or xs c.args.at c.index-sessions-at.result in
    record {
      sound = subst (λ ks. IsSound ks xs) (sym c.in_ok-create.ensures.ok) (created_sound ks xs c.args.name h.user c.requires.sound);
      within = c.requires.within;
      kept = subst (HasBuffer c.args.name) (sym c.in_ok-create.ensures.ok) (created_kept ks c.args.name h.user);
    }

pub kill_as-done-requires : goal.kill_as-done-requires
kill_as-done-requires g c =
    let h : Session = get_or c.args.sessions.now c.args.at c.index-sessions-at.result in
    let free = can_at c.requires c.index-sessions-at.result in
    (made_kept c.args.name h.user c.args.buffers.now c.create.new.self c.show.new.buffers free c.in_ok-create.ensures.ok c.in-Err.ensures.unmarked).0

pub returns-in_default-clause-done : goal.returns-in_default-clause-done
returns-in_default-clause-done g c =
    let d = c.args.directory.now in
    let ks = c.args.buffers.now in
    let xs = c.args.sessions.now in
    let r = c.index-sessions-at.result in
    let s = store_and_births g.S.Store.failed g.S.Store.accepted c.args.store.now in
    let t : StoreTold = record { failed = s.failed; accepted = s.accepted; births = c.record_creation.new.self; tape = c.record_creation-in_default.new.self } in
    tellingly d c.args.at (Creates c.args.name) ks _ xs _ Anywhere s t (λ id next h place found. (
      created_done d ks xs next id c.args.at h found place c.requires.within c.requires.fresh _ c.args.name c.show.ensures.selected
          (λ x there known. made_world d ks c.create.new.self c.show.new.buffers xs c.show.new.sessions next id c.args.at c.args.name (get_or xs c.args.at r) x c.in_ok-create.ensures.ok there c.requires.within (ap (get_or xs c.args.at) c.index-sessions-at.is) known
          (λ seen. c.in_default.ensures.ok d id next x there seen)),
      refl,
      subst (λ (y : Session). Tells (Did (Create c.args.name y.user) ∷ []) s t) (here_is xs c.args.at r h c.requires.within found) (tells_ruled s t (Create c.args.name (get_or xs c.args.at r).user) refl refl (c.record_creation.ensures (get_or xs c.args.at r).user) c.record_creation-in_default.ensures),
    ))

pub returns : goal.returns
returns g c =
    let ks = c.args.buffers.now in
    let xs = c.args.sessions.now in
    let name = c.args.name in
    let h : Session = get_or xs c.args.at c.index-sessions-at.result in
    let free = can_at c.requires c.index-sessions-at.result in
    let cs = c.create.new.self in
    let ls = c.show.new.buffers in
    let kill = c.kill_as-done in
    let granted = made_granted c.args.directory.now name h.user ks cs ls free c.in_ok-create.ensures.ok c.in-Err.ensures.unmarked in
    let without = granted_done kill.result _ kill.ensures.answer granted kill.ensures.ok in
    let gone = granted_done kill.result _ kill.ensures.answer granted kill.ensures.gone in
    record {
      sound = unmade_sound name h.user ks cs ls kill.new.self c.show.new.sessions free c.in_ok-create.ensures.ok c.in-Err.ensures.unmarked without gone c.show.ensures.sound;
      done = tt;
      untold = refl;
      err = λ directory next. unmade_world name h.user ks cs ls kill.new.self c.show.new.sessions free c.in_ok-create.ensures.ok c.in-Err.ensures.unmarked without gone c.show.ensures.sound xs directory next (c.in-Err.ensures.err directory next);
    }

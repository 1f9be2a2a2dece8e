use Rattle.std.proofs.Common.{◌≡◌, ◌∙◌, ℕ, Option, None, ap, refl, sym}
use Rattle.std.specs.Prelude.{slice_set}
use Rattle.std.specs.List.{position_or_len}
use Rattle.std.proofs.lemmas.List.{get_or_default}
use Rattle.mgs_model.specs.declared.touched.Touched.TheVariants.{Nowhere}
use Rattle.mgs_model.specs.Events.{refused_state}
use Rattle.mgs_laws.proofs.Apart.{apart_state, apart_then}
use Rattle.mgs_births.specs.StoreBirths.{store_and_births}
use Rattle.mgs_session.specs.declared.Session.{Session}
use Rattle.mgs_world.specs.Sound.{session_uses}
use Rattle.mgs_world.specs.Worlds.{session_id, size_in, world_of}
use Rattle.mgs_world.proofs.Soundness.{sound_set, sizes_set}
use Rattle.mgs_core.specs.declared.byte_acts.Before.{Before}
use Rattle.mgs_core.specs.ByteActs.{before_turn}
use Rattle.mgs_core.proofs.Sizes.{place_same, within_still}
use Rattle.mgs_core.proofs.Still.{alone_written}
use Rattle.mgs_core.proofs.Taken.{acted_fit, acted_turn, acts_less, fit_without_act, less_without_act, turn_without_act, left_within, ready_put, refused_turn, step_apart, step_stands, step_state}
use Rattle.mgs_core.proofs.turn.take_turn.Goals as goal

pub returns-in_default : goal.returns-in_default
returns-in_default g c =
    let w = c.args.world.now in
    let d = w.directory in
    let ks = w.buffers in
    let xs = w.sessions.items in
    let id = c.requires.place.0 in
    let at = c.args.at in
    let h = c.index_mut.result.now in
    let is_h = c.index_mut.ensures.value in
    let y = c.next_step-step.new.session in
    let b = c.next_step-step.new.before in
    let place = c.requires.place.1 in
    let within = c.requires.within in
    let step = c.next_step-step.result in
    let s = c.next_step-step.ensures.step in
    let none = c.in_default.not-Acts in
    let alone = step_state d ks xs None id at h y place within is_h b step s in
    let answered = c.answer_without_act-keyed.ensures.keyed in
    record {
      judged = c.next_step-step.ensures.judged;
      sound = sound_set ks xs at h y is_h (λ n i. ap (session_uses n i) alone.0) c.requires.sound;
      directory = refl;
      sizes = sizes_set xs at h y is_h (ap size_in alone.0);
      less = λ e. less_without_act d ks xs None id at h y place within is_h b step _ _ (left_within at ks (slice_set xs at y) c.len.ensures.limits) c.requires.some none s (sym answered ∙ e);
      fit = λ e. fit_without_act d ks xs None id at h y place within is_h b step none s (sym answered ∙ e);
      turned = λ id place next. rw answered (turn_without_act d ks xs next id at h y place within is_h b step _ none s);
      stands = λ still rests next. step_stands d ks xs next id at h y place within is_h alone.0 alone.1 (rests next);
      alone = λ still. alone_written at ks xs h y is_h alone.0;
      touched = λ id place next. step_apart d ks xs next id at h y place within is_h c.answer_without_act-keyed.result.1 alone.0 alone.1;
      births = λ apart. refl;
    }

pub act_turn-done-requires : goal.act_turn-done-requires
act_turn-done-requires g c =
    let xs = c.args.world.now.sessions.items in
    let at = c.args.at in
    let h = c.index_mut.result.now in
    let is_h = c.index_mut.ensures.value in
    let y = c.next_step-step.new.session in
    let s = c.in-Acts.ensures.step in
    let same = sizes_set xs at h y is_h (ap size_in s.state) in
    record {
      sound = sound_set c.args.world.now.buffers xs at h y is_h (λ n i. ap (session_uses n i) s.state) c.requires.sound;
      place = (c.requires.place.0, place_same c.requires.place.0 at xs (slice_set xs at y) c.requires.place.1 same);
      within = within_still at xs (slice_set xs at y) c.requires.within same;
      ready = ready_put xs at y c.in-Acts.act c.requires.within s.ready;
      here = s.here;
      judged = c.next_step-step.ensures.judged;
    }

pub returns-in-Ok : goal.returns-in-Ok
returns-in-Ok g c =
    let w = c.args.world.now in
    let d = w.directory in
    let ks = w.buffers in
    let xs = w.sessions.items in
    let id = c.requires.place.0 in
    let at = c.args.at in
    let h = c.index_mut.result.now in
    let is_h = c.index_mut.ensures.value in
    let y = c.next_step-step.new.session in
    let b = c.next_step-step.new.before in
    let place = c.requires.place.1 in
    let within = c.requires.within in
    let act = c.in-Acts.act in
    let s = c.in-Acts.ensures.step in
    let did = c.act_turn-done in
    let ls = did.new.world.buffers in
    let ys = did.new.world.sessions.items in
    let put = sizes_set xs at h y is_h (ap size_in s.state) in
    let same = did.ensures.sizes ∙ put in
    let touched = c.in-Ok.touched in
    let still = place_same id at xs (slice_set xs at y) place put in
    let done = (c.in-Ok.ensures.ok id None still).done.acted in
    record {
      judged = did.ensures.judged;
      sound = did.ensures.sound;
      directory = did.ensures.directory;
      sizes = same;
      less = λ e. acts_less d ks xs None id at h y place within is_h b act s ls ys _ _ c.len-in-Acts.ensures.limits same done c.in-Ok.ensures.further;
      fit = λ e. acted_fit d ks xs None id at h y place within is_h b act s ls ys _ _ same done;
      turned = λ id place next. let told = c.in-Ok.ensures.ok id next (place_same id at xs (slice_set xs at y) place put) in acted_turn d ks xs next id at h y place within is_h b act s ls ys _ told.mid _ same told.done.acted told.denied;
      stands = λ still. cc;
      alone = λ still. cc;
      touched = λ id place next.
          apart_then touched id (world_of d ks xs next) (world_of d ks (slice_set xs at y) next) (world_of d ls ys next)
          (step_apart d ks xs next id at h y place within is_h touched s.state s.stays) (c.in-Ok.ensures.touched id (place_same id at xs (slice_set xs at y) place put) next);
      births = c.in-Ok.ensures.births;
    }

pub returns-in-Err : goal.returns-in-Err
returns-in-Err g c =
    let w = c.args.world.now in
    let d = w.directory in
    let ks = w.buffers in
    let xs = w.sessions.items in
    let id = c.requires.place.0 in
    let at = c.args.at in
    let h = c.index_mut.result.now in
    let is_h = c.index_mut.ensures.value in
    let y = c.next_step-step.new.session in
    let b = c.next_step-step.new.before in
    let place = c.requires.place.1 in
    let within = c.requires.within in
    let s = c.in-Acts.ensures.step in
    let did = c.act_turn-done in
    let turned = λ (id : ℕ) (place : at ≡ position_or_len (session_id id) xs) (next : Option ℕ).
    refused_turn d ks xs next id at h y place within is_h b c.in-Acts.act s did.new.world.buffers did.new.world.sessions.items _ _ _
    ((λ i. let e : Before = record { mode = b; kind = c.index-session.result.now.state.kind; is_playing = c.is_playing-is_playing.ensures i } in e)
    ∙ ap (λ (x : Session). before_turn b x.state) (c.index-session.ensures ∙ get_or_default xs at c.index-session.result.now h within ∙ sym is_h))
    c.in-Err.ensures.err (ap (λ s. store_and_births g.S.Store.failed g.S.Store.accepted s) c.in-Err.ensures.unasked) in
    record {
      judged = did.ensures.judged;
      sound = did.ensures.sound;
      directory = did.ensures.directory;
      sizes = did.ensures.sizes ∙ sizes_set xs at h y is_h (ap size_in s.state);
      less = λ e. cc;
      fit = λ e. cc;
      turned = turned;
      stands = λ still. cc;
      alone = λ still. cc;
      touched = λ id place next. rw (turned id place next).told (apart_state Nowhere id refused_state (world_of d ks xs next));
      births = λ apart. ap (λ s. s.births) c.in-Err.ensures.unasked;
    }

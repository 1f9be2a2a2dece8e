use Rattle.std.proofs.Common.{◌∙◌, List, None, ap, refl, arith}
use Rattle.mgs_model.specs.Events.{effect_in}
use Rattle.mgs_model.specs.Outcome.{Effect}
use Rattle.mgs_model.specs.declared.touched.Touched.TheVariants.{Nowhere}
use Rattle.mgs_laws.proofs.Apart.{apart_same}
use Rattle.mgs_births.specs.Births.{births_after}
use Rattle.mgs_births.proofs.Reported.{did_effects}
use Rattle.mgs_plan.proofs.Rulings.{no_empty_name}
use Rattle.mgs_world.specs.Worlds.{world_of}
use Rattle.mgs_world.proofs.Sizes.{sizes_seen}
use Rattle.mgs_world.proofs.Soundness.{sound_set, sizes_set}
use Rattle.mgs_core.proofs.Births.{births_still}
use Rattle.mgs_core.proofs.Acted.{byte_act_apart, byte_act_sizes}
use Rattle.mgs_core.proofs.Judged.{touched_judged}
use Rattle.mgs_core.proofs.Sizes.{place_same, within_still}
use Rattle.mgs_core.proofs.Denials.{denied_told}
use Rattle.mgs_core.proofs.Taken.{refused_in_world}
use Rattle.mgs_core.proofs.turn.act_turn.Goals as goal

pub returns-in-Ok-clause-judged : goal.returns-in-Ok-clause-judged
returns-in-Ok-clause-judged g c =
    let d = c.args.world.now.directory in
    let w = world_of d c.args.world.now.buffers c.args.world.now.sessions.items None in
    let v = world_of d c.do_byte_act.new.world.buffers c.do_byte_act.new.world.sessions.items None in
    let id = c.requires.place.0 in
    let t = c.in-Ok.touched in
    rw c.forget_touched.ensures (touched_judged d t id w v c.args.judge.now (byte_act_apart t c.args.was.now.mode c.args.act w v _ _ id _ (c.in-Ok.ensures.ok id None c.requires.place.1)) c.requires.judged)

pub returns-in-Ok-clause-sizes : goal.returns-in-Ok-clause-sizes
returns-in-Ok-clause-sizes g c =
    byte_act_sizes c.in-Ok.touched c.args.was.now.mode c.args.act c.args.world.now.directory c.args.world.now.buffers c.do_byte_act.new.world.buffers c.args.world.now.sessions.items c.do_byte_act.new.world.sessions.items c.requires.place.0 c.args.at _ _ _
    c.requires.place.1 c.requires.within c.do_byte_act.ensures.count (c.in-Ok.ensures.ok c.requires.place.0 None c.requires.place.1)

pub returns-in-Ok-clause-touched : goal.returns-in-Ok-clause-touched
returns-in-Ok-clause-touched g c id place next =
    byte_act_apart c.in-Ok.touched c.args.was.now.mode c.args.act (world_of c.args.world.now.directory c.args.world.now.buffers c.args.world.now.sessions.items next)
    (world_of c.args.world.now.directory c.do_byte_act.new.world.buffers c.do_byte_act.new.world.sessions.items next) _ _ id _ (c.in-Ok.ensures.ok id next place)

pub returns-in-Err-clause-judged : goal.returns-in-Err-clause-judged
returns-in-Err-clause-judged g c =
    let d = c.args.world.now.directory in
    let w = world_of d c.args.world.now.buffers c.args.world.now.sessions.items None in
    let v = world_of d c.do_byte_act.new.world.buffers c.do_byte_act.new.world.sessions.items None in
    touched_judged d Nowhere c.requires.place.0 w v c.args.judge.now (rw (c.in-Err.ensures.err None) (apart_same Nowhere c.requires.place.0 w)) c.requires.judged

pub returns-in-Err-clause-sound : goal.returns-in-Err-clause-sound
returns-in-Err-clause-sound g c =
    rw c.refuse.ensures (sound_set c.do_byte_act.new.world.buffers c.do_byte_act.new.world.sessions.items c.args.at c.index_mut.result.now _ c.index_mut.ensures.value (λ n i. refl) c.do_byte_act.ensures.sound)

pub returns-in-Err-clause-sizes : goal.returns-in-Err-clause-sizes
returns-in-Err-clause-sizes g c =
    let ys = c.do_byte_act.new.world.sessions.items in
    rw c.refuse.ensures (sizes_set ys c.args.at c.index_mut.result.now _ c.index_mut.ensures.value refl)
    ∙ sizes_seen c.args.world.now.directory c.args.world.now.buffers c.do_byte_act.new.world.buffers c.args.world.now.sessions.items ys None (c.in-Err.ensures.err None)

pub returns-in-Err-clause-err : goal.returns-in-Err-clause-err
returns-in-Err-clause-err g c = record {
  wants = c.in-Err.ensures.wants;
  told = λ x next is.
      refused_in_world c.args.world.now.directory c.args.world.now.buffers c.do_byte_act.new.world.buffers c.args.world.now.sessions.items c.do_byte_act.new.world.sessions.items next c.args.at x c.index_mut.result.now c.refuse.new.session c.args.was.now
      (omega (arith, c.requires.within, c.do_byte_act.ensures.count)) is c.index_mut.ensures.value c.refuse.ensures (c.in-Err.ensures.err next);
  may = c.in-Err.ensures.may;
}

pub returns-in-Ok-clause-births : goal.returns-in-Ok-clause-births
returns-in-Ok-clause-births g c apart =
    let did = c.in-Ok.ensures.ok c.requires.place.0 None c.requires.place.1 in
    did.acted.tells.births
    ∙ ap (λ (es : List Effect). births_after es c.args.store.now.births) (did_effects (effect_in _))
    ∙ births_still _ c.in-Ok.touched c.args.store.now.births did.tells apart

pub returns-in-Ok-clause-ok : goal.returns-in-Ok-clause-ok
returns-in-Ok-clause-ok g c id next place =
    let named = c.name_typed.ensures in
    let d = c.args.world.now.directory in
    let ks = c.args.world.now.buffers in
    let ls = c.do_byte_act.new.world.buffers in
    let xs = c.args.world.now.sessions.items in
    let ys = c.do_byte_act.new.world.sessions.items in
    let b = c.args.was.now.mode in
    let done = c.in-Ok.ensures.ok id next place in
    let same = byte_act_sizes c.in-Ok.touched b c.args.act d ks ls xs ys id c.args.at _ _ _ place c.requires.within c.do_byte_act.ensures.count (c.in-Ok.ensures.ok id None place) in
    record {
      mid = _;
      done = done;
      denied =
          denied_told d ks ls xs ys next id c.args.at c.index-session.result.now b c.args.act _ _ place c.requires.within (place_same id c.args.at xs ys place same) (within_still c.args.at xs ys c.requires.within same) c.index-session.ensures
          c.requires.ready c.requires.here (no_empty_name ks c.name_typed.result named.value named.form named.there) done.acted _ c.record_denial.ensures;
    }

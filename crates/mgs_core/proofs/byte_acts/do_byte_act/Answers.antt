use Rattle.std.proofs.Common.{◌≡◌, List, length, refl, arith}
use Rattle.std.specs.Prelude.{OnErr, OnOk}
use Rattle.std.specs.Vec.{with_items}
use Rattle.mgs_session.specs.declared.Session.{Session}
use Rattle.mgs_births.specs.StoreBirths.{store_and_births}
use Rattle.mgs_world.specs.Acted.{IsRefusable, IsSameWorld}
use Rattle.mgs_world.specs.Sound.{IsSound}
use Rattle.mgs_world.specs.Worlds.{state_at, world_of}
use Rattle.mgs_core.specs.AtPlace.{IsDoneIn, LeavesFewer}
use Rattle.mgs_core.specs.ByteActs.{model_act}
use Rattle.mgs_core.proofs.Lent.{lent}
use Rattle.mgs_core.proofs.byte_acts.do_byte_act.Goals as goal

pub returns : goal.returns
returns g c =
    let w = c.args.world.now in
    let d = w.directory in
    let ks = w.buffers in
    let did = c.do_in_parts in
    let ls = did.new.buffers in
    let at = c.args.at in
    let act = c.args.due.act in
    let b = c.args.due.before.now in
    let r = did.result in
    let same = c.deref_mut.ensures.value in
    let len : length did.new.sessions ≡ w.sessions.len = omega (arith, did.auto.sessions, c.deref_mut.ensures.len) in
    let held : (P : List Session → List Session → Type 0) → P c.deref_mut.result.now did.new.sessions → P w.sessions.items (with_items w.sessions did.new.sessions).items = λ P. lent P w.sessions c.deref_mut.result.now did.new.sessions same len in
    record {
      directory = refl;
      count = held (λ xs ys. length ys ≡ length xs) did.auto.sessions;
      sound = held (λ xs ys. IsSound ls ys) did.ensures.sound;
      ok = held (λ xs ys. IsDoneIn (store_and_births g.S.Store.failed g.S.Store.accepted) at act b xs (world_of d ks xs) c.args.store.now (world_of d ls ys) did.new.store r) did.ensures.ok;
      wants = did.ensures.wants;
      err = held (λ xs ys. OnErr r (IsSameWorld d ks ls xs ys)) did.ensures.err;
      unasked = did.ensures.unasked;
      may = held (λ xs ys. OnErr r (IsRefusable d at (model_act (state_at at xs) b act) ks xs)) did.ensures.may;
      further = held (λ xs ys. OnOk r (LeavesFewer act at ks ls xs ys)) did.ensures.further;
    }

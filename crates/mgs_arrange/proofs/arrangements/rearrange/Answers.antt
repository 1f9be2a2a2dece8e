use Rattle.std.proofs.Common.{◌≡◌, get_or, ap}
use Rattle.mgs_buffers.proofs.MarkedLemmas.{OnErr-map, OnOk-map}
use Rattle.mgs_session.specs.declared.Session.{Session}
use Rattle.mgs_world.proofs.Soundness.{session_sound}
use Rattle.mgs_arrange.proofs.Rearranging.{after_act, after_sound, either_rearranged, refused_all, refused_may}
use Rattle.mgs_arrange.proofs.arrangements.rearrange.Goals as goal

pub rearrange_session-requires : goal.rearrange_session-requires
rearrange_session-requires g c = session_sound c.args.buffers.now c.args.sessions.now c.args.at _ c.requires.sound (ap (get_or c.args.sessions.now c.args.at) c.index-sessions-at.is) c.requires.within

pub returns : goal.returns
returns g c =
    let ks = c.args.buffers.now in
    let xs = c.args.sessions.now in
    let x : Session = get_or xs c.args.at c.index-sessions-at.result in
    let is : x ≡ get_or xs c.args.at x = ap (λ (s : Session). get_or xs c.args.at s) c.index-sessions-at.is in
    let ls = c.rearrange_session.new.buffers in
    let y = c.rearrange_session.new.session in
    let r = c.rearrange_session.result in
    let e = c.rearrange_session.ensures in
    let sound = c.requires.sound in
    let within = c.requires.within in
    let h = either_rearranged r ks ls x y e.rearranged e.err e.same in
    record {
      sound = after_sound ks ls xs c.args.at x y sound is within h;
      ok = OnOk-map r (λ done. λ d id next place. after_act c.args.arrangement c.args.argument d ks ls xs next id c.args.at x y sound place is within c.requires.fresh e.selected h done) e.done;
      err = refused_all r ks ls xs c.args.at x y sound is within h e.err e.seen;
      may = OnErr-map r (λ may. λ d id next place. refused_may c.args.arrangement c.args.argument d ks xs next id c.args.at x place is within e.selected (may ks)) e.may;
    }

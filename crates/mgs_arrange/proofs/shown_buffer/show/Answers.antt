use Rattle.std.proofs.Common.{◌≡◌, get_or, ap}
use Rattle.mgs_buffers.proofs.MarkedLemmas.{OnOk-map}
use Rattle.mgs_session.specs.declared.Session.{Session}
use Rattle.mgs_world.proofs.Soundness.{session_sound}
use Rattle.mgs_arrange.proofs.Rearranging.{after_sound, either_rearranged, refused_all, selected_there}
use Rattle.mgs_arrange.proofs.WindowShown.{made_world}
use Rattle.mgs_arrange.specs.Arranged.{run_ended}
use Rattle.mgs_arrange.specs.Showing.{window_shows}
use Rattle.mgs_arrange.proofs.shown_buffer.show.Goals as goal

pub show_in_session-requires-clause-sound : goal.show_in_session-requires-clause-sound
show_in_session-requires-clause-sound g c = session_sound c.args.buffers.now c.args.sessions.now c.args.at _ c.requires.sound (ap (get_or c.args.sessions.now c.args.at) c.index-sessions-at.is) c.requires.within

pub returns : goal.returns
returns g c =
    let ks = c.args.buffers.now in
    let xs = c.args.sessions.now in
    let x : Session = get_or xs c.args.at c.index-sessions-at.result in
    let is : x ≡ get_or xs c.args.at x = ap (λ (s : Session). get_or xs c.args.at s) c.index-sessions-at.is in
    let ls = c.show_in_session.new.buffers in
    let y = c.show_in_session.new.session in
    let r = c.show_in_session.result in
    let e = c.show_in_session.ensures in
    let sound = c.requires.sound in
    let within = c.requires.within in
    let h = either_rearranged r ks ls x y e.rearranged e.err e.same in
    record {
      selected = selected_there xs c.args.at x is within e.selected;
      sound = after_sound ks ls xs c.args.at x y sound is within h;
      ok = OnOk-map r (λ shown. λ d id next z place found. made_world (λ s. run_ended (window_shows c.args.name.now s)) d ks ls xs next id c.args.at x y z sound place is within h shown found) e.shown;
      err = refused_all r ks ls xs c.args.at x y sound is within h e.err e.seen;
      unmarked = e.err;
    }

use Rattle.std.proofs.Common.{◌≡◌, ◌<◌, Option, IfSome, length, sym, ap, subst, ◌∙◌, arith}
use Rattle.mgs_windows.specs.declared.WindowMarks.{WindowMarks}
use Rattle.mgs_windows.specs.Panes.{WindowList, left_by, shows_at, window_shown}
use Rattle.mgs_model.specs.declared.session.Kind.TheVariants.{Other}
use Rattle.mgs_session.specs.declared.Session.{Session}
use Rattle.mgs_session.specs.Sessions.{acted}
use Rattle.mgs_world.specs.Sound.{IsShownSound}
use Rattle.mgs_world.specs.WindowMarks.{WindowMarksDropped}
use Rattle.mgs_world.specs.Worlds.{session_of}
use Rattle.mgs_arrange.specs.Arranged.{run_ended}
use Rattle.mgs_arrange.specs.Arranging.{Rearranged}
use Rattle.mgs_arrange.specs.Showing.{standing_mark, standing_point}
use Rattle.mgs_arrange.proofs.WindowShown.{before_sound, given_up, shown_rearranged, shown_seen, shown_session, standing_named, standing_sound}
use Rattle.mgs_arrange.proofs.shown_buffer.show_in_session.Goals as goal

pub add_standing-requires-clause-sound : goal.add_standing-requires-clause-sound
add_standing-requires-clause-sound g c =
    let x : Session = c.args.session.now in
    let within : x.windows.selected < length x.windows.windows = omega (arith, c.selected.ensures.value, c.selected.ensures.within) in
    subst (IsShownSound c.args.buffers.now) (sym c.standing-stood.ensures) (standing_sound c.args.buffers.now c.args.name.now x within c.requires.sound)

pub add_standing-requires-clause-named : goal.add_standing-requires-clause-named
add_standing-requires-clause-named g c =
    subst (λ (o : Option WindowMarks). IfSome o (λ x. x.name ≡ c.args.name.now)) (sym c.standing-stood.ensures) (standing_named c.args.name.now c.args.session.now.windows)

pub drop_window_marks-requires : goal.drop_window_marks-requires
drop_window_marks-requires g c =
    let x : Session = c.args.session.now in
    let within : x.windows.selected < length x.windows.windows = omega (arith, c.selected.ensures.value, c.selected.ensures.within) in
    let given : c.show-before.result ≡ given_up x = c.show-before.ensures.left ∙ ap (λ (w : WindowList). left_by (shows_at w.selected w.windows) w.places) c.reserve.ensures.same in
    subst (IsShownSound c.add_standing.new.buffers) (sym given)
    (before_sound c.args.name.now _ _ c.reserve.new.windows.capacity c.in_ok-window_marks.window_marks x c.args.buffers.now c.add_standing.new.buffers within c.requires.sound c.in_ok-window_marks.ensures.ok)

pub returns : goal.returns
returns g c =
    let name = c.args.name.now in
    let x : Session = c.args.session.now in
    let y = c.in_ok-window_marks.window_marks in
    let ks = c.args.buffers.now in
    let ls = c.add_standing.new.buffers in
    let ms = c.drop_window_marks.new.buffers in
    let capacity = c.reserve.new.windows.capacity in
    let within : x.windows.selected < length x.windows.windows = omega (arith, c.selected.ensures.value, c.selected.ensures.within) in
    let given : c.show-before.result ≡ given_up x = c.show-before.ensures.left ∙ ap (λ (w : WindowList). left_by (shows_at w.selected w.windows) w.places) c.reserve.ensures.same in
    let session : c.set_kind.new.session ≡ acted Other (shown_session capacity y x) =
    c.set_kind.ensures ∙ ap (λ (w : WindowList). acted Other (record x { windows = w })) (c.show-before.ensures.list ∙ ap (window_shown y) c.reserve.ensures.same) in
    let added = c.in_ok-window_marks.ensures.ok in
    let dropped = subst (λ (o : Option WindowMarks). WindowMarksDropped o ls ms) given c.drop_window_marks.ensures in
    let r = shown_rearranged name _ _ capacity y x ks ls within c.requires.sound added ms dropped in
    record {
      selected = within;
      rearranged = subst (Rearranged ks ms x) (sym session) (record { buffers = r.buffers; uses = r.uses; stay = r.stay; size = r.size });
      shown =
          ap (session_of ms) session
          ∙ ap run_ended (shown_seen name _ _ capacity y x ks ls within c.requires.sound added ms dropped (ap (standing_point ks) c.standing-stood.ensures) (ap (standing_mark ks) c.standing-stood.ensures));
      err = tt;
      same = tt;
      seen = tt;
    }

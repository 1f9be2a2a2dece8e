use Rattle.std.proofs.Common.{◌<◌, ◌∙◌, List, length, get_or, ap, subst}
use Rattle.mgs_windows.specs.declared.Window.{Window}
use Rattle.mgs_world.specs.Settling.{after_window}
use Rattle.mgs_world.proofs.Soundness.{window_sound}
use Rattle.mgs_world.proofs.Settles.{steps_next, window_keeps}
use Rattle.mgs_world.proofs.event_end.settle_session.Goals as goal

pub settle_window-requires-clause-sound : goal.settle_window-requires-clause-sound
settle_window-requires-clause-sound g c =
    let v = c.as_slice-window-items.ensures.value in
    window_sound c.loop-window.buffers c.args.session.now c.loop-window.window-index c.window-item.result c.loop-window.invariant.sound
    (c.window-item.is ∙ ap (λ (ws : List Window). get_or ws c.loop-window.window-index c.window-item.result) v)
    (subst (λ (ws : List Window). c.loop-window.window-index < length ws) v c.loop-window-test.true)

pub loop-window-preserved : goal.loop-window-preserved
loop-window-preserved g c =
    let d = c.args.directory.now in
    let x = c.args.session.now in
    let v = c.as_slice-window-items.ensures.value in
    let is = c.window-item.is ∙ ap (λ (ws : List Window). get_or ws c.loop-window.window-index c.window-item.result) v in
    let within : c.loop-window.window-index < length x.windows.windows = subst (λ (ws : List Window). c.loop-window.window-index < length ws) v c.loop-window-test.true in
    rw c.settle_window.ensures (record {
      sound = window_keeps d x.user c.loop-window.buffers c.window-item.result x (window_sound c.loop-window.buffers x c.loop-window.window-index c.window-item.result c.loop-window.invariant.sound is within) c.loop-window.invariant.sound;
      rest = steps_next (after_window d x.user) c.loop-window.buffers x.windows.windows c.loop-window.window-index c.window-item.result is within ∙ c.loop-window.invariant.rest;
    })

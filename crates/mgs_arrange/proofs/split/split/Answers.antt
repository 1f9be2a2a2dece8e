use Rattle.std.proofs.Common.{◌∙◌, length, sym, ap, subst, arith}
use Rattle.mgs_session.specs.declared.Session.{Session}
use Rattle.mgs_windows.specs.Panes.{WindowList, window_split}
use Rattle.mgs_world.specs.Worlds.{session_of}
use Rattle.mgs_world.proofs.WindowMarks.{when_err}
use Rattle.mgs_arrange.specs.Arranged.{arranged_or_told}
use Rattle.mgs_arrange.specs.Arranging.{Rearranged}
use Rattle.mgs_arrange.proofs.WindowsSplit.{may_split, selected_sound, split_many, split_rearranged, split_seen, split_small}
use Rattle.mgs_arrange.proofs.split.split.Goals as goal

pub returns-then-window-lt3-clause-arranged : goal.returns-then-window-lt3-clause-arranged
returns-then-window-lt3-clause-arranged g c n =
    ap (session_of c.args.buffers.now) c.break_off.ensures
    ∙ split_small n c.args.buffers.now c.args.session.now c.selected_window-window.result c.selected_window-window.ensures c.if-window-lt3.true

pub returns-then-as_slice-ge-WINDOW_LIMIT-clause-arranged : goal.returns-then-as_slice-ge-WINDOW_LIMIT-clause-arranged
returns-then-as_slice-ge-WINDOW_LIMIT-clause-arranged g c n =
    ap (session_of c.args.buffers.now) c.break_off-then-as_slice-ge-WINDOW_LIMIT.ensures
    ∙ split_many n c.args.buffers.now c.args.session.now c.selected_window-window.result c.selected_window-window.ensures (omega (arith, c.if-window-lt3.false)) (omega (arith, c.if-as_slice-ge-WINDOW_LIMIT.true, ap length c.as_slice.ensures.value))

pub returns-in_err-reserve-clause-may : goal.returns-in_err-reserve-clause-may
returns-in_err-reserve-clause-may g c =
    when_err c.from_residual.result (λ n ks. may_split n ks c.args.session.now c.selected_window-window.result c.selected_window-window.ensures (omega (arith, c.if-window-lt3.false)) (omega (arith, c.if-as_slice-ge-WINDOW_LIMIT.false, ap length c.as_slice.ensures.value)))

pub copy_shown-requires : goal.copy_shown-requires
copy_shown-requires g c = selected_sound c.args.buffers.now c.args.session.now c.selected_window-window.result c.selected_window-window.ensures c.requires

pub returns-in_err-shows-clause-may : goal.returns-in_err-shows-clause-may
returns-in_err-shows-clause-may g c =
    when_err c.from_residual-in_err-shows.result (λ n ks. may_split n ks c.args.session.now c.selected_window-window.result c.selected_window-window.ensures (omega (arith, c.if-window-lt3.false)) (omega (arith, c.if-as_slice-ge-WINDOW_LIMIT.false, ap length c.as_slice.ensures.value)))

pub returns-clause-rearranged : goal.returns-clause-rearranged
returns-clause-rearranged g c =
    let x : Session = c.args.session.now in
    subst (λ (w : WindowList). Rearranged c.args.buffers.now c.copy_shown.new.buffers x (record x { windows = w })) (sym (c.split.ensures ∙ ap (window_split c.in_ok-shows.shows) c.reserve.ensures.same))
    (split_rearranged c.args.buffers.now c.copy_shown.new.buffers c.reserve.new.windows.capacity c.in_ok-shows.shows x c.selected_window-window.result c.selected_window-window.ensures c.in_ok-shows.ensures.ok)

pub returns-clause-arranged : goal.returns-clause-arranged
returns-clause-arranged g c n =
    let x : Session = c.args.session.now in
    let s = session_of c.args.buffers.now x in
    ap (λ (w : WindowList). session_of c.copy_shown.new.buffers (record x { windows = w })) (c.split.ensures ∙ ap (window_split c.in_ok-shows.shows) c.reserve.ensures.same)
    ∙ split_seen c.args.buffers.now c.copy_shown.new.buffers c.reserve.new.windows.capacity c.in_ok-shows.shows x c.selected_window-window.result c.selected_window-window.ensures c.requires c.in_ok-shows.ensures.ok
    ∙ sym (ap (λ r. arranged_or_told r s) (may_split n c.args.buffers.now x c.selected_window-window.result c.selected_window-window.ensures (omega (arith, c.if-window-lt3.false)) (omega (arith, c.if-as_slice-ge-WINDOW_LIMIT.false, ap length c.as_slice.ensures.value))))

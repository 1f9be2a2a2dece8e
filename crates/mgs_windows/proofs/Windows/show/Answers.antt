use Rattle.std.proofs.Common.{◌+◌, length, arith, ap, ◌∙◌}
use Rattle.mgs_windows.specs.Panes.{WindowList, one_shown, shown_in, shows_at}
use Rattle.mgs_windows.proofs.Heights.{showing_list, shown_at_most}
use Rattle.mgs_windows.proofs.PlaceLists.{length_left}
use Rattle.mgs_windows.proofs.Windows.show.Goals as goal

pub leave-requires : goal.leave-requires
leave-requires c =
    let shows = ap one_shown (c.shows_of-shows.ensures ∙ ap (shows_at c.self.inside.selected) c.as_slice.ensures.value) in
    omega (arith, c.self.invariant.room, shows, shown_at_most c.self.inside.selected c.self.inside.list.items c.self.invariant.selected)

pub invariant_of-self : goal.invariant_of-self
invariant_of-self c =
    let shows = ap one_shown (c.shows_of-shows.ensures ∙ ap (shows_at c.self.inside.selected) c.as_slice.ensures.value) in
    let room = ap (λ (w : WindowList). length w.places + shown_in w.windows) c.self.view_is in
    let cap = ap (λ (w : WindowList). w.capacity) c.self.view_is in
    rw (c.show_window.ensures, c.leave.ensures.places, c.leave.ensures.capacity)
    (showing_list c.self.inside.rows c.self.inside.selected _ _ c.self.inside.list.items c.self.inside.places.items _ c.args.window_marks c.self.invariant (omega (arith, length_left c.shows_of-shows.result c.self.inside.places.items, shows)) (omega (arith, room, cap, c.requires)))

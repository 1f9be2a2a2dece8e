use Rattle.std.proofs.Common.{refl, arith, ap, ◌∙◌}
use Rattle.mgs_windows.specs.Panes.{one_shown, shows_at}
use Rattle.mgs_windows.proofs.Heights.{showing_rows_list, shown_at_most}
use Rattle.mgs_windows.proofs.PlaceLists.{length_left}
use Rattle.mgs_windows.proofs.Windows.show_rows.Goals as goal

pub leave-requires : goal.leave-requires
leave-requires c =
    let shows = ap one_shown (c.shows_of-shows.ensures ∙ ap (shows_at c.self.inside.selected) c.as_slice.ensures.value) in
    omega (arith, c.self.invariant.room, shows, shown_at_most c.self.inside.selected c.self.inside.list.items c.self.invariant.selected)

pub invariant_of-self : goal.invariant_of-self
invariant_of-self c =
    let shows = ap one_shown (c.shows_of-shows.ensures ∙ ap (shows_at c.self.inside.selected) c.as_slice.ensures.value) in
    rw (c.show_rows_in_window.ensures, c.leave.ensures.places, c.leave.ensures.capacity)
    (showing_rows_list c.self.inside.rows c.self.inside.selected _ _ c.self.inside.list.items c.self.inside.places.items _ c.args.rows c.self.invariant (omega (arith, length_left c.shows_of-shows.result c.self.inside.places.items, shows)) refl)

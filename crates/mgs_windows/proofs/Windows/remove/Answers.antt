use Rattle.std.proofs.Common.{◌<◌, length, arith, ap, ◌∙◌}
use Rattle.mgs_windows.specs.Panes.{WindowList, shows_at, one_shown}
use Rattle.mgs_windows.proofs.Heights.{without_list, two_most, shown_at_most, closer_within, two_at_least}
use Rattle.mgs_windows.proofs.PlaceLists.{length_left}
use Rattle.mgs_windows.proofs.Windows.remove.Goals as goal

pub remove_window-requires-clause-most : goal.remove_window-requires-clause-most
remove_window-requires-clause-most c =
    let len = ap (λ (w : WindowList). length w.windows) c.self.view_is in
    omega (arith, two_most c.args.heir c.args.index c.self.inside.list.items c.requires.apart (omega (arith, len, c.requires.heir)) (omega (arith, len, c.requires.within)), c.self.invariant.fill, c.self.ranges)

pub leave-requires : goal.leave-requires
leave-requires c =
    let len = ap (λ (w : WindowList). length w.windows) c.self.view_is in
    let shows = ap one_shown (c.shows_of-shows.ensures ∙ ap (shows_at c.args.index) c.as_slice.ensures.value) in
    omega (arith, c.self.invariant.room, shows, shown_at_most c.args.index c.self.inside.list.items (omega (arith, len, c.requires.within)))

pub invariant_of-self : goal.invariant_of-self
invariant_of-self c =
    let len = ap (λ (w : WindowList). length w.windows) c.self.view_is in
    let shows = ap one_shown (c.shows_of-shows.ensures ∙ ap (shows_at c.args.index) c.as_slice.ensures.value) in
    let within : c.args.index < length c.self.inside.list.items = omega (arith, len, c.requires.within) in
    let heir : c.args.heir < length c.self.inside.list.items = omega (arith, len, c.requires.heir) in
    let less = without_list c.self.inside.rows c.args.index c.args.heir c.self.inside.list.items c.requires.apart within heir c.self.invariant.fill c.self.invariant.some in
    let two = two_at_least c.args.index c.args.heir (length c.self.inside.list.items) c.requires.apart within heir in
    let places = length_left c.shows_of-shows.result c.self.inside.places.items in
    rw (c.remove_window.ensures, c.closer-self-inside.ensures, c.leave.ensures.places, c.leave.ensures.capacity) (record {
      selected = closer_within c.args.index c.self.inside.selected (length c.self.inside.list.items) _ less.0 two within c.self.invariant.selected;
      some = less.1;
      fill = less.2;
      room = omega (arith, less.3, places, shows, c.self.invariant.room);
    })

use Rattle.std.proofs.Common.{◌+◌, length, arith, ap}
use Rattle.mgs_windows.specs.Panes.{WindowList, height_at, shown_in}
use Rattle.mgs_windows.proofs.Heights.{split_list}
use Rattle.mgs_windows.proofs.Windows.split.Goals as goal

pub invariant_of-self : goal.invariant_of-self
invariant_of-self c =
    let high = ap (λ (w : WindowList). height_at w.selected w.windows) c.self.view_is in
    let room = ap (λ (w : WindowList). length w.places + shown_in w.windows) c.self.view_is in
    let cap = ap (λ (w : WindowList). w.capacity) c.self.view_is in
    let split = split_list c.self.inside.rows c.self.inside.selected c.self.inside.list.items c.args.shows c.self.invariant.selected (omega (arith, high, c.requires.high)) c.self.invariant.fill c.self.invariant.some in
    rw c.split_window.ensures (record { selected = omega (arith, split.0, c.self.invariant.selected); some = split.1; fill = split.2; room = omega (arith, split.3, room, cap, c.requires.room) })

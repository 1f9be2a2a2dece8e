use Rattle.std.proofs.Common.{length, arith, ap}
use Rattle.mgs_windows.specs.Panes.{WindowList, shown_in}
use Rattle.mgs_windows.proofs.Heights.{shown_most}
use Rattle.mgs_windows.proofs.Windows.places_wanted.Goals as goal

pub returns : goal.returns
returns c =
    let places = ap (λ (w : WindowList). length w.places) c.self.view_is in
    let shown = ap (λ (w : WindowList). shown_in w.windows) c.self.view_is in
    omega (arith, places, shown, shown_most c.self.inside.list.items, c.len.ensures, c.len-2.ensures.value, c.self.inside.places.ok.0)

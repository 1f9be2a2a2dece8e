use Rattle.std.proofs.Common.{◌∙◌}
use Rattle.mgs_screen.proofs.TabStops.{cells_behind}
use Rattle.mgs_screen.proofs.tab_stops.cells_to.Goals as goal

pub returns-clause-value : goal.returns-clause-value
returns-clause-value g c =
    let xs = g.T.Text.text c.args.text.now in
    let stop = c.requires.stop in
    c.column_from.ensures.value ∙ cells_behind xs c.args.start c.args.stop.place c.args.p c.args.stop.column stop.on.from stop.order stop.on.cells

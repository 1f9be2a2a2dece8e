use Rattle.mgs_windows.proofs.Heights.{rows_set_list}
use Rattle.mgs_windows.proofs.Windows.set_rows.Goals as goal

pub invariant_of-self : goal.invariant_of-self
invariant_of-self c =
    rw c.change_rows_of_window.ensures (rows_set_list c.self.inside.rows c.self.inside.selected _ c.self.inside.list.items c.self.inside.places.items c.args.rows c.self.invariant)

use Rattle.mgs_windows.proofs.Heights.{marked_list}
use Rattle.mgs_windows.proofs.Windows.set_mark.Goals as goal

pub invariant_of-self : goal.invariant_of-self
invariant_of-self c =
    rw c.mark_window.ensures (marked_list c.self.inside.rows c.self.inside.selected _ c.self.inside.list.items c.self.inside.places.items c.args.id c.self.invariant)

use Rattle.mgs_windows.proofs.BufferGone.{is_list_without_buffer}
use Rattle.mgs_windows.proofs.Windows.forget.Goals as goal

pub invariant_of-self : goal.invariant_of-self
invariant_of-self c =
    rw (c.leave_windows.ensures, c.leave_places.ensures.places)
    (is_list_without_buffer c.args.name.now c.self.inside.rows c.self.inside.selected _ _ c.self.inside.list.items c.self.inside.places.items c.leave_places.ensures.capacity c.self.invariant)

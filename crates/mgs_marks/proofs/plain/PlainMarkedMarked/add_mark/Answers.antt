use Rattle.std.proofs.Common.{◌≤◌, length, ap, arith}
use Rattle.mgs_marks.specs.Marks.{MarkedText}
use Rattle.mgs_marks.proofs.Moves.{added_within}
use Rattle.mgs_marks.proofs.plain.PlainMarkedMarked.add_mark.Goals as goal

pub invariant_of-self-2 : goal.invariant_of-self-2
invariant_of-self-2 c =
    let within : c.args.p ≤ length c.self.inside.text = omega (arith, c.requires, ap (λ (v : MarkedText). length v.text) c.self.view_is) in
    added_within (length c.self.inside.text) c.in_ok-id.id c.args.p c.self.inside.slots.slots c.add_slot.new.slots.slots c.in_ok-id.ensures.added c.in_ok-id.ensures.others within c.self.invariant

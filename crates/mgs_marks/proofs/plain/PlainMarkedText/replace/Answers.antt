use Rattle.std.proofs.Common.{◌≤◌, length, ap, arith}
use Rattle.mgs_marks.specs.Marks.{MarkedText, or_zero}
use Rattle.mgs_marks.proofs.Moves.{mark_in_get, shifted_within}
use Rattle.mgs_marks.proofs.plain.PlainMarkedText.replace.Goals as goal

pub shift_slots-requires-clause-fits : goal.shift_slots-requires-clause-fits
shift_slots-requires-clause-fits c id =
    omega (arith, c.self.invariant id, ap or_zero (mark_in_get c.self.inside.slots.slots id), ap (λ (v : MarkedText). length v.text) c.self.view_is, c.len.ensures.value, c.len.ensures.fits)

pub invariant_of-self-2 : goal.invariant_of-self-2
invariant_of-self-2 c =
    let text = c.self.inside.text in
    let marks = c.self.inside.slots.slots in
    let within : c.args.b ≤ length text = omega (arith, c.requires.within, ap (λ (v : MarkedText). length v.text) c.self.view_is) in
    rw (c.shift_slots.ensures, c.in_ok-replace.ensures.text) (shifted_within c.args.a c.args.b c.args.put.now text marks c.requires.order within c.self.invariant)

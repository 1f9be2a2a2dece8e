use Rattle.std.proofs.Common.{length, arith, ap}
use Rattle.mgs_windows.specs.Panes.{WindowList, height_at, grown}
use Rattle.mgs_windows.proofs.Heights.{given_list, height_other, two_most}
use Rattle.mgs_windows.proofs.Windows.give.Goals as goal

pub give_rows-requires-clause-most : goal.give_rows-requires-clause-most
give_rows-requires-clause-most c =
    let e = ap (λ (w : WindowList). w.windows) c.self.view_is in
    let high = ap (height_at c.args.from) e in
    let len = ap length e in
    omega (arith, two_most c.args.from c.args.to c.self.inside.list.items c.requires.apart (omega (arith, len, c.requires.from)) (omega (arith, len, c.requires.to)), c.requires.stays, high, c.self.invariant.fill, c.self.ranges)

pub give_rows-requires-clause-stays : goal.give_rows-requires-clause-stays
give_rows-requires-clause-stays c =
    let high = ap (λ (w : WindowList). height_at c.args.from w.windows) c.self.view_is in
    omega (arith, height_other (grown c.args.rows) c.args.from c.args.to c.self.inside.list.items c.requires.apart, c.requires.stays, high)

pub invariant_of-self : goal.invariant_of-self
invariant_of-self c =
    let e = ap (λ (w : WindowList). w.windows) c.self.view_is in
    let high = ap (height_at c.args.from) e in
    let len = ap length e in
    let given = given_list c.self.inside.rows c.args.from c.args.to c.args.rows c.self.inside.list.items c.requires.apart (omega (arith, len, c.requires.from)) (omega (arith, len, c.requires.to)) (omega (arith, high, c.requires.stays)) c.self.invariant.fill c.self.invariant.some in
    rw c.give_rows.ensures (record { selected = omega (arith, given.0, c.self.invariant.selected); some = given.1; fill = given.2; room = omega (arith, given.3, c.self.invariant.room) })

use Rattle.std.proofs.Common.{◌≡◌, ◌+◌, ◌-◌, ◌≤◌, length, sym, subst, ◌∙◌, arith}
use Rattle.mgs_model.specs.Plans.{goes, undone_from, undone_to}
use Rattle.mgs_model.specs.declared.session.Kind.TheVariants.{Undo}
use Rattle.mgs_undo.specs.Numbered.{item_of}
use Rattle.mgs_edit.proofs.undos.undo.Goals as goal

pub overflow_sub-result : goal.overflow_sub-result
overflow_sub-result c = subst (λ n. n ≤ c.undone_to.result) (sym (c.undone_from-from.ensures.place 0)) c.undone_to.ensures.order

pub returns-clause-plan : goal.returns-clause-plan
returns-clause-plan c = λ text kill kind rest.
    let item = item_of c.args.target c.args.edit.now in
    let from : c.undone_from-from.result ≡ undone_from c.args.size item = c.undone_from-from.ensures.place c.args.target in
    let order : c.undone_from-from.result ≤ c.undone_to.result = subst (λ n. n ≤ c.undone_to.result) (sym (c.undone_from-from.ensures.place 0)) c.undone_to.ensures.order in
    let end : c.undone_from-from.result + (c.undone_to.result - c.undone_from-from.result) ≡ undone_to c.args.size item =
    (let back : c.undone_from-from.result + (c.undone_to.result - c.undone_from-from.result) ≡ c.undone_to.result = omega (arith, order) in back) ∙ c.undone_to.ensures.place c.args.target in
    λ i. record { a = from i; b = end i; put = c.args.edit.now.removed.items; finish = record (goes (from i + length c.args.edit.now.removed.items)) { kind = Undo c.args.name.now c.args.target (c.args.serial + 1) } }

use Rattle.std.proofs.Common.{◌≡◌, ◌∙◌, Some, ap, sym, rules, arith}
use Rattle.std.specs.Prelude.{slice_get}
use Rattle.std.proofs.lemmas.Option.{slice_get-get_or}
use Rattle.mgs_ledger.proofs.Agreeing.{told_at}
use Rattle.mgs_ledger.proofs.agreement.test_rows.Goals as goal

pub returns-then-not-branch-clause-all : goal.returns-then-not-branch-clause-all
returns-then-not-branch-clause-all c all =
    let told : slice_get c.args.told.now c.loop-i.i ≡ Some c.index-told-i.result =
    slice_get-get_or c.args.told.now c.loop-i.i c.index-told-i.result (omega arith) ∙ ap Some (sym c.index-told-i.is) in
    let row : slice_get c.args.rows.now c.loop-i.i ≡ Some c.index-rows-i.result =
    slice_get-get_or c.args.rows.now c.loop-i.i c.index-rows-i.result (omega arith) ∙ ap Some (sym c.index-rows-i.is) in
    let same = c.in_ok-is_told.ensures.all (told_at c.args.told.now c.args.rows.now c.loop-i.i c.index-told-i.result c.index-rows-i.result all told row) in
    search rules

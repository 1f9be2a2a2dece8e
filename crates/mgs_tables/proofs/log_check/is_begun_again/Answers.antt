use Rattle.std.proofs.Common.{◌≡◌, slice_index, ◌∙◌}
use Rattle.mgs_tables.proofs.CarriedOver.{again_from, first_zero}
use Rattle.mgs_tables.proofs.log_check.is_begun_again.Goals as goal

pub returns-clause-again : goal.returns-clause-again
returns-clause-again c =
    let first : slice_index c.args.log.items 0 ≡ 0 = first_zero c.args.log.items c.index.result.now c.index.ensures c.if-index-ne0.false in
    again_from c.args.log.items c.deref.result.now c.deref-2.result.now c.args.db.now c.in_ok-carried.carried c.in-Some.used.page_size c.in-Some.used.frames
    (c.deref.ensures.value ∙ c.with_first-log.ensures) (c.deref-2.ensures.value ∙ c.with_first-log.ensures) first c.in-Some.ensures.used c.in_ok-carried.ensures.carried.0 c.in_ok-carried.ensures.carried.1

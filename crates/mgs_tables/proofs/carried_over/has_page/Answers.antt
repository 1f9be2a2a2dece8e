use Rattle.std.proofs.Common.{sym, ◌∙◌, ◌*◌, ◌-◌, arith}
use Rattle.mgs_tables.proofs.CarriedOver.{page_in_log, same_bytes}
use Rattle.mgs_tables.proofs.carried_over.has_page.Goals as goal

pub returns : goal.returns
returns c =
    let size = c.args.page_size in
    let in_log = page_in_log size c.args.log.now c.args.db.now c.args.n c.args.at c.if-at-eq0.false in
    let both = same_bytes c.eq.result c.args.log.now c.args.db.now c.args.at ((c.args.n - 1) * size) size _ _ c.eq.ensures (omega arith) (omega arith) in (
      λ yes'. in_log ∙ both.0 yes',
      λ same. both.1 (sym in_log ∙ same),
    )

use Rattle.std.proofs.Common.{ℕ, List, arith, subst, ◌∙◌}
use Rattle.std.proofs.lemmas.List.{get_or_default}
use Rattle.mgs_model.specs.Cells.{IsPrintable}
use Rattle.mgs_lines.proofs.Counted.{plain_more}
use Rattle.mgs_lines.proofs.columns.plain_start.Goals as goal

pub loop-i-preserved : goal.loop-i-preserved
loop-i-preserved c =
    let run : List ℕ = c.args.run.now in
    let i : ℕ = c.loop-i.i in
    record { plain = plain_more run i (omega arith) (subst IsPrintable (c.index-run-i.is ∙ get_or_default run i c.index-run-i.result 0 (omega arith)) (c.stays_plain.ensures.here c.if-not-stays_plain.false)) c.loop-i.invariant.plain }

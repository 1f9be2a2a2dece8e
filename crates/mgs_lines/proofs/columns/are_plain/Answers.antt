use Rattle.std.proofs.Common.{◌≡◌, ℕ, List, get_or, arith, subst, ◌∙◌}
use Rattle.std.proofs.lemmas.List.{get_or_default}
use Rattle.mgs_model.specs.Cells.{IsPrintable}
use Rattle.mgs_lines.proofs.Counted.{plain_more}
use Rattle.mgs_lines.proofs.columns.are_plain.Goals as goal

pub loop-c-preserved : goal.loop-c-preserved
loop-c-preserved c =
    let chars : List ℕ = c.args.chars.now in
    let i : ℕ = c.loop-c.c-index in
    let is : c.c-item.result ≡ get_or chars i 0 = c.c-item.is ∙ get_or_default chars i c.c-item.result 0 c.loop-c-test.true in
    record { plain = λ yes. plain_more chars i (omega arith) (subst IsPrintable is (c.stays_plain-plain.ensures.here yes)) (c.loop-c.invariant.plain (c.stays_plain-plain.ensures.before yes)) }

use Rattle.std.proofs.Common.{ℕ, List, arith, inl, inr, sym, ◌∙◌}
use Rattle.mgs_lines.proofs.LinesByNumber.{blank_not, blank_more}
use Rattle.mgs_lines.proofs.paragraphs.is_blank_line.Goals as goal
use Rattle.mgs_lines.proofs.paragraphs.is_blank_line.Goals.{else-c-ne32-via-then-c-ne32+else-c-ne9, else-c-ne32-via-else-c-ne32}

pub returns-then-c-ne9 : goal.returns-then-c-ne9
returns-then-c-ne9 g c =
    let xs : List ℕ = g.T.Text.text c.args.text.now in
    sym (blank_not xs c.loop-i.i c.at-c.result (omega arith) c.at-c.ensures c.if-c-eq10.false c.if-c-ne32.true c.if-c-ne9.true) ∙ c.loop-i.invariant

pub loop-i-preserved : goal.loop-i-preserved
loop-i-preserved g c =
    let xs : List ℕ = g.T.Text.text c.args.text.now in
    elim c.else-c-ne32.branch [
      | else-c-ne32-via-then-c-ne32+else-c-ne9 w ↦ sym (blank_more xs c.loop-i.i c.at-c.result (omega arith) c.at-c.ensures c.if-c-eq10.false (inr w.if-c-ne9.false)) ∙ c.loop-i.invariant
      | else-c-ne32-via-else-c-ne32 w ↦ sym (blank_more xs c.loop-i.i c.at-c.result (omega arith) c.at-c.ensures c.if-c-eq10.false (inl w.if-c-ne32.false)) ∙ c.loop-i.invariant
    ]

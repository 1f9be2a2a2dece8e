use Rattle.std.proofs.Common.{◌≡◌, ◌+◌, ℕ, List, get_or, sym, ap, arith, length, ◌∙◌}
use Rattle.std.proofs.lemmas.List.{get_or_default}
use Rattle.mgs_model.specs.Cells.{glyph}
use Rattle.mgs_lines.proofs.Counted.{cells_plain, behind_more}
use Rattle.mgs_lines.proofs.columns.column_behind.Goals as goal

pub returns-then-are_plain-clause-value : goal.returns-then-are_plain-clause-value
returns-then-are_plain-clause-value c = ap (λ (n : ℕ). c.args.column + n) (sym (cells_plain c.args.column c.args.chars.now (c.are_plain.ensures c.if-are_plain.true)))

pub loop-c-preserved : goal.loop-c-preserved
loop-c-preserved c =
    let chars : List ℕ = c.args.chars.now in
    let i : ℕ = c.loop-c.c-index in
    let is : c.c-item.result ≡ get_or chars i 0 = c.c-item.is ∙ get_or_default chars i c.c-item.result 0 c.loop-c-test.true in
    record {
      value = behind_more c.args.column c.loop-c.at c.width-at.result i chars (omega arith) c.loop-c.invariant.value (c.width-at.ensures.value ∙ ap (λ (k : ℕ). length (glyph c.loop-c.at k)) is);
      few = omega (arith, c.loop-c.invariant.few, c.width-at.ensures.few);
    }

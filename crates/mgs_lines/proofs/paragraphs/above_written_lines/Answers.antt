use Rattle.std.proofs.Common.{◌≤◌, ◌-◌, ℕ, List, length, arith, sym, ap, ◌∙◌}
use Rattle.std.specs.Prelude.{slice_range}
use Rattle.mgs_model.specs.Lines.{line_end, start_of}
use Rattle.mgs_model.specs.Walks.{is_blank}
use Rattle.mgs_lines.proofs.Feeds.{line_start_again}
use Rattle.mgs_lines.proofs.LinesByNumber.{above_of, written_above, blank_above}
use Rattle.mgs_lines.proofs.paragraphs.above_written_lines.Goals as goal

pub loop-at-preserved : goal.loop-at-preserved
loop-at-preserved g c =
    let xs : List ℕ = g.T.Text.text c.args.text.now in
    let within : c.loop-at.at ≤ length xs = omega arith in
    let blank = sym (ap (λ s. is_blank (slice_range xs s (line_end xs s))) c.start_above-above.ensures.value) ∙ (sym c.is_blank_line.ensures ∙ c.if-is_blank_line.false) in
    rw c.start_above-above.ensures.value (record {
      within = omega arith;
      number = omega (arith, c.loop-at.invariant.number, above_of xs c.loop-at.at (omega arith) within c.loop-at.invariant.start);
      start = line_start_again xs (c.loop-at.at - 1) (omega arith);
      same = written_above xs c.loop-at.at c.loop-at-test.true within c.loop-at.invariant.start blank ∙ c.loop-at.invariant.same;
    })

pub returns-then-is_blank_line-clause-value : goal.returns-then-is_blank_line-clause-value
returns-then-is_blank_line-clause-value g c =
    let xs : List ℕ = g.T.Text.text c.args.text.now in
    let within : c.loop-at.at ≤ length xs = omega arith in
    let blank = sym (ap (λ s. is_blank (slice_range xs s (line_end xs s))) c.start_above-above.ensures.value) ∙ (sym c.is_blank_line.ensures ∙ c.if-is_blank_line.true) in
    sym (blank_above xs c.loop-at.at c.loop-at-test.true within c.loop-at.invariant.start blank) ∙ ap (λ n. start_of n xs) c.loop-at.invariant.same

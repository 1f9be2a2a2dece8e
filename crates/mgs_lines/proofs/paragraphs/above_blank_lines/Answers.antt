use Rattle.std.proofs.Common.{◌≡◌, ◌≤◌, ◌+◌, ◌-◌, ℕ, List, true, false, length, arith, sym, ap, ◌∙◌}
use Rattle.std.specs.Prelude.{slice_range}
use Rattle.mgs_model.specs.Lines.{line_end, line_of, start_of}
use Rattle.mgs_model.specs.Walks.{back, lines, is_blank}
use Rattle.mgs_lines.proofs.Feeds.{start_of_line, line_start_again}
use Rattle.mgs_lines.proofs.LinesByNumber.{above_next, above_here, above_of}
use Rattle.mgs_lines.proofs.paragraphs.above_blank_lines.Goals as goal

pub loop-at-preserved : goal.loop-at-preserved
loop-at-preserved g c =
    let xs : List ℕ = g.T.Text.text c.args.text.now in
    let within : c.loop-at.at ≤ length xs = omega arith in
    let passes : is_blank (slice_range xs c.loop-at.at (line_end xs c.loop-at.at)) ≡ true = sym c.is_blank_line.ensures ∙ c.loop-at-test.true in
    let up = ap (back is_blank (lines xs)) (above_of xs c.loop-at.at (omega arith) within c.loop-at.invariant.start) in
    rw c.start_above-at.ensures.value (record {
      within = omega arith;
      number = omega (arith, c.loop-at.invariant.number, above_of xs c.loop-at.at (omega arith) within c.loop-at.invariant.start);
      start = line_start_again xs (c.loop-at.at - 1) (omega arith);
      same = up ∙ (sym (above_next is_blank xs c.loop-at.at within c.loop-at.invariant.start passes) ∙ c.loop-at.invariant.same);
    })

pub returns-after-loop-at-clause-value : goal.returns-after-loop-at-clause-value
returns-after-loop-at-clause-value g c =
    let xs : List ℕ = g.T.Text.text c.args.text.now in
    let within : c.loop-at.at ≤ length xs = omega arith in
    let fails : is_blank (slice_range xs c.loop-at.at (line_end xs c.loop-at.at)) ≡ false = sym c.is_blank_line.ensures ∙ c.loop-at-test.false in
    let left : line_of xs c.loop-at.at ≡ back is_blank (lines xs) (line_of xs c.args.start + 1) - 1 = omega (arith, above_here is_blank xs c.loop-at.at within c.loop-at.invariant.start fails, c.loop-at.invariant.same) in
    sym (start_of_line xs c.loop-at.at within ∙ c.loop-at.invariant.start) ∙ ap (λ n. start_of n xs) left

use Rattle.std.proofs.Common.{◌≤◌, ◌-◌, ℕ, List, length, arith, sym, ap, ◌∙◌}
use Rattle.std.specs.Prelude.{slice_range}
use Rattle.mgs_model.specs.Lines.{line_end, start_of}
use Rattle.mgs_model.specs.Walks.{back, lines, is_blank}
use Rattle.mgs_lines.proofs.Feeds.{line_start_again, line_of_start}
use Rattle.mgs_lines.proofs.Runs.{run_above, run_starts}
use Rattle.mgs_lines.proofs.white_space.blanks_start.Goals as goal

pub loop-at-init : goal.loop-at-init
loop-at-init g c =
    let xs : List ℕ = g.T.Text.text c.args.text.now in
    rw c.line_start-at.ensures.value (record {
      within = omega arith;
      start = line_start_again xs c.args.p c.requires;
      same = ap (back is_blank (lines xs)) (line_of_start xs c.args.p c.requires);
    })

pub loop-at-preserved : goal.loop-at-preserved
loop-at-preserved g c =
    let xs : List ℕ = g.T.Text.text c.args.text.now in
    let within : c.loop-at.at ≤ length xs = omega arith in
    let blank = sym (ap (λ s. is_blank (slice_range xs s (line_end xs s))) c.line_start-above.ensures.value) ∙ (sym c.is_blank_line.ensures ∙ c.if-not-is_blank_line.false) in
    rw c.line_start-above.ensures.value (record {
      within = omega arith;
      start = line_start_again xs (c.loop-at.at - 1) (omega arith);
      same = run_above is_blank xs c.loop-at.at c.loop-at-test.true within c.loop-at.invariant.start blank ∙ c.loop-at.invariant.same;
    })

pub returns-then-not-is_blank_line-clause-value : goal.returns-then-not-is_blank_line-clause-value
returns-then-not-is_blank_line-clause-value g c =
    let xs : List ℕ = g.T.Text.text c.args.text.now in
    let within : c.loop-at.at ≤ length xs = omega arith in
    let written = sym (ap (λ s. is_blank (slice_range xs s (line_end xs s))) c.line_start-above.ensures.value) ∙ (sym c.is_blank_line.ensures ∙ c.if-not-is_blank_line.true) in
    sym (run_starts is_blank xs c.loop-at.at c.loop-at-test.true within c.loop-at.invariant.start written) ∙ ap (λ n. start_of n xs) c.loop-at.invariant.same

use Rattle.std.proofs.Common.{◌≡◌, ◌<◌, ◌-◌, ◌+◌, ℕ, List, length, arith, sym, ap, ◌∙◌}
use Rattle.mgs_model.specs.Lines.{line_end, start_of}
use Rattle.mgs_model.specs.Walks.{over, lines, is_blank}
use Rattle.mgs_lines.proofs.Feeds.{line_of_end}
use Rattle.mgs_lines.proofs.Runs.{line_end_again, run_below, run_ends, run_ends_last}
use Rattle.mgs_lines.proofs.white_space.blanks_end.Goals as goal

pub loop-end-init : goal.loop-end-init
loop-end-init g c =
    let xs : List ℕ = g.T.Text.text c.args.text.now in
    rw c.line_end-end.ensures.value (record {
      from = omega arith;
      after = omega arith;
      within = omega (arith, c.line_end-end.ensures.value);
      at_end = line_end_again xs c.args.p;
      same = ap (λ n. over is_blank (lines xs) (n + 1)) (line_of_end xs c.args.p);
    })

pub loop-end-preserved : goal.loop-end-preserved
loop-end-preserved g c =
    let xs : List ℕ = g.T.Text.text c.args.text.now in
    let inside : c.loop-end.end < length xs = omega arith in
    let blank = sym c.is_blank_line.ensures ∙ c.if-not-is_blank_line.false in
    rw c.line_end-end-in-loop-end.ensures.value (record {
      from = omega arith;
      after = omega arith;
      within = omega (arith, c.line_end-end-in-loop-end.ensures.value);
      at_end = line_end_again xs (c.loop-end.end + 1);
      same = run_below is_blank xs c.loop-end.end c.loop-end.invariant.at_end inside blank ∙ c.loop-end.invariant.same;
    })

pub returns-after-loop-end-clause-value : goal.returns-after-loop-end-clause-value
returns-after-loop-end-clause-value g c =
    let xs : List ℕ = g.T.Text.text c.args.text.now in
    let last : c.loop-end.end ≡ length xs = omega arith in
    sym (run_ends_last is_blank xs c.loop-end.end c.loop-end.invariant.at_end last) ∙ ap (λ n. line_end xs (start_of (n - 1) xs)) c.loop-end.invariant.same

pub returns-then-not-is_blank_line-clause-value : goal.returns-then-not-is_blank_line-clause-value
returns-then-not-is_blank_line-clause-value g c =
    let xs : List ℕ = g.T.Text.text c.args.text.now in
    let inside : c.loop-end.end < length xs = omega arith in
    let written = sym c.is_blank_line.ensures ∙ c.if-not-is_blank_line.true in
    sym (run_ends is_blank xs c.loop-end.end c.loop-end.invariant.at_end inside written) ∙ ap (λ n. line_end xs (start_of (n - 1) xs)) c.loop-end.invariant.same

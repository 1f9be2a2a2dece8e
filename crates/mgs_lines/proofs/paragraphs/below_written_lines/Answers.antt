use Rattle.std.proofs.Common.{◌≡◌, ◌<◌, ◌+◌, ℕ, List, true, false, not, length, arith, refl, sym, ap, ◌∙◌}
use Rattle.std.specs.Prelude.{slice_range}
use Rattle.mgs_model.specs.Lines.{line_end, start_of}
use Rattle.mgs_model.specs.Walks.{is_written}
use Rattle.mgs_lines.proofs.Feeds.{line_of_le, line_of_next, line_start_next}
use Rattle.mgs_lines.proofs.LinesByNumber.{below_next, below_last, below_here}
use Rattle.mgs_lines.proofs.paragraphs.below_written_lines.Goals as goal

pub loop-end-init : goal.loop-end-init
loop-end-init g c =
    let xs : List ℕ = g.T.Text.text c.args.text.now in
    record {
      from = omega arith;
      within = c.requires.within;
      number = c.line_of-line.ensures;
      few = omega (arith, c.line_of-line.ensures, line_of_le xs c.args.start);
      start = c.requires.start;
      same = refl;
    }

pub returns-then-end-len-clause-value : goal.returns-then-end-len-clause-value
returns-then-end-len-clause-value g c =
    let xs : List ℕ = g.T.Text.text c.args.text.now in
    let passes : is_written (slice_range xs c.loop-end.at (line_end xs c.loop-end.at)) ≡ true = ap not (sym c.is_blank_line.ensures ∙ c.loop-end-test.true) in
    let last : line_end xs c.loop-end.at ≡ length xs = omega (arith, c.end_of-end.ensures.value) in
    let all = below_last is_written xs c.loop-end.at c.loop-end.invariant.within c.loop-end.invariant.start passes last in
    c.end_of-end.ensures.value ∙ (last ∙ (sym all ∙ ap (λ n. start_of n xs) c.loop-end.invariant.same))

pub loop-end-preserved : goal.loop-end-preserved
loop-end-preserved g c =
    let xs : List ℕ = g.T.Text.text c.args.text.now in
    let passes : is_written (slice_range xs c.loop-end.at (line_end xs c.loop-end.at)) ≡ true = ap not (sym c.is_blank_line.ensures ∙ c.loop-end-test.true) in
    let inside : line_end xs c.loop-end.at < length xs = omega (arith, c.end_of-end.ensures.value) in
    let next = below_next is_written xs c.loop-end.at c.loop-end.invariant.within c.loop-end.invariant.start passes inside in
    rw c.end_of-end.ensures.value (record {
      from = omega arith;
      within = omega arith;
      number = ap (λ (n : ℕ). n + 1) c.loop-end.invariant.number ∙ sym (line_of_next xs c.loop-end.at inside);
      few = omega (arith, c.loop-end.invariant.few);
      start = line_start_next xs c.loop-end.at inside;
      same = next ∙ c.loop-end.invariant.same;
    })

pub returns-clause-value : goal.returns-clause-value
returns-clause-value g c =
    let xs : List ℕ = g.T.Text.text c.args.text.now in
    let fails : is_written (slice_range xs c.loop-end.at (line_end xs c.loop-end.at)) ≡ false = ap not (sym c.is_blank_line.ensures ∙ c.loop-end-test.false) in
    sym (below_here is_written xs c.loop-end.at c.loop-end.invariant.within c.loop-end.invariant.start fails) ∙ ap (λ n. start_of n xs) c.loop-end.invariant.same

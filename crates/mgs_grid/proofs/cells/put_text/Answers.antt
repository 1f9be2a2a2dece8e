use Rattle.std.proofs.Common.{◌≡◌, ◌+◌, ◌-◌, ℕ, List, length, take, drop, ap, ◌∙◌, arith, length-drop}
use Rattle.std.proofs.lemmas.List.{take_rest}
use Rattle.mgs_model.specs.Cells.{cells_from}
use Rattle.mgs_grid.specs.Cells.{over}
use Rattle.mgs_grid.proofs.Runs.{some_more, some_ends}
use Rattle.mgs_grid.proofs.cells.put_text.Goals as goal

pub loop-at-preserved : goal.loop-at-preserved
loop-at-preserved c =
    let chars : List ℕ = c.args.chars.now in
    let at : ℕ = c.loop-at.at in
    let n : ℕ = c.loop-at.next in
    let count : ℕ = c.put_some-count.result.0 in
    let next : ℕ = c.put_some-count.result.1 in
    let rest : take (length chars - at) (drop at chars) ≡ drop at chars = take_rest chars at in
    record {
      within = omega (arith, ap (λ (l : List ℕ). length l) rest, length-drop at chars, c.put_some-count.ensures.within);
      row = some_more chars c.loop-at.row c.put_some-count.new.row _ c.args.shift at count n next (c.put_some-count.ensures.row ∙ ap (λ (l : List ℕ). over c.loop-at.row c.args.shift n (cells_from n (take count l))) rest) (c.put_some-count.ensures.next ∙ ap (λ (l : List ℕ). n + length (cells_from n (take count l))) rest) c.loop-at.invariant.row;
      next = some_ends chars at count n next _ (c.put_some-count.ensures.next ∙ ap (λ (l : List ℕ). n + length (cells_from n (take count l))) rest) c.loop-at.invariant.next;
      few = omega (arith, c.put_some-count.ensures.few, c.loop-at.invariant.few);
    }
